use Rattle.std.proofs.Common.{◌≡◌, Some, None, length, refl, sym, ap, ◌∙◌, ◌++◌, arith, subst}
use Rattle.std.specs.Prelude.{slice_get}
use Rattle.std.proofs.lemmas.Result.{on_ok_weaker}
use Rattle.std.proofs.lemmas.Option.{slice_get_past, slice_get_read}
use Rattle.std.proofs.lemmas.Grind.{common_steps}
use Rattle.argot_report.proofs.Owners.{site_none, site_variable, site_made}
use Rattle.argot_report.proofs.writing.push_site.Goals as goal

pub push_variable-requires : goal.push_variable-requires
push_variable-requires c =
    let p = c.args.program.now in
    let x = c.in-Some.variable.now in
    let l = c.in-Some.ensures.lookup in
    let xs = c.deref.result.now in
    let is : slice_get p.globals c.args.site ≡ Some x = subst (λ ys. slice_get ys c.args.site ≡ Some x) (c.deref.ensures.value ∙ c.globals.ensures) (slice_get_read xs (length xs) c.args.site x refl l.3.0 l.1) in
    c.site_count.ensures.well.numbers.global_file c.args.site x.2 x.0 x.1 is

pub returns-then-number-site_count : goal.returns-then-number-site_count
returns-then-number-site_count c =
    let n = site_none c.args.program.now c.site_count.ensures.well c.args.site (omega arith) in
    grind (arith, common_steps)

pub returns-in-Some : goal.returns-in-Some
returns-in-Some c =
    let p = c.args.program.now in
    let x = c.in-Some.variable.now in
    let l = c.in-Some.ensures.lookup in
    let xs = c.deref.result.now in
    let is : slice_get p.globals c.args.site ≡ Some x = subst (λ ys. slice_get ys c.args.site ≡ Some x) (c.deref.ensures.value ∙ c.globals.ensures) (slice_get_read xs (length xs) c.args.site x refl l.3.0 l.1) in
    on_ok_weaker c.push_variable.result (λ h. h ∙ ap (λ z. c.args.out.now ++ z) (sym (site_variable p c.args.site x is))) c.push_variable.ensures

pub returns-in-None : goal.returns-in-None
returns-in-None c =
    let p = c.args.program.now in
    let none : slice_get p.globals c.args.site ≡ None = subst (λ xs. slice_get xs c.args.site ≡ None) (c.deref.ensures.value ∙ c.globals.ensures) (slice_get_past c.deref.result.now c.args.site c.in-None.ensures.lookup.3) in
    on_ok_weaker c.push_inside.result (λ h. h ∙ ap (λ z. c.args.out.now ++ z) (sym (site_made p c.args.site c.site.result.now none c.site.ensures))) c.push_inside.ensures
