use Rattle.std.proofs.Common.{◌≡◌, ℕ, ◌-◌, ◌<◌, Some, None, length, refl, sym, ap, ◌∙◌, ◌++◌, arith, subst}
use Rattle.std.specs.Prelude.{slice_get, ◌==◌}
use Rattle.std.specs.List.{find}
use Rattle.std.proofs.lemmas.Option.{slice_get_past, slice_get_read}
use Rattle.std.proofs.lemmas.Result.{on_ok_weaker}
use Rattle.argot_report.specs.Counted.{entry_before}
use Rattle.argot_report.specs.Names.{counted_text}
use Rattle.argot_report.proofs.Counting.{before_some, source_counted, source_named}
use Rattle.argot_report.proofs.ends.push_source.Goals as goal

pub returns-then-number-eq0 : goal.returns-then-number-eq0
returns-then-number-eq0 c =
    let s = c.args.subject.now in
    let pr = c.args.naming.now.problem.now in
    let i = c.args.place in
    let zero_is : c.entry_of-number.result ≡ 0 = omega arith in
    let none : find (λ y. y.0 == i) pr.source_places ≡ None = c.requires.naming.places.each i c.requires.place ∙ ap (entry_before pr.source_places) (sym c.entry_of-number.ensures ∙ zero_is) in
    let same = ap (λ fs. counted_text s.program.now s.findings.now.targets fs i) c.as_slice.ensures in
    on_ok_weaker c.push_counted.result (λ h. h ∙ ap (λ z. c.args.out.now ++ z) (same ∙ sym (source_counted s.program.now s.findings.now.targets pr i none))) c.push_counted.ensures

pub returns-in-Some : goal.returns-in-Some
returns-in-Some c =
    let s = c.args.subject.now in
    let pr = c.args.naming.now.problem.now in
    let i = c.args.place in
    let n = c.entry_of-number.result in
    let some : 0 < n = omega arith in
    let l = c.in-Some.ensures.lookup in
    let xs = c.as_slice-2.result.now in
    let x = c.in-Some.entry.now in
    let at : slice_get pr.source_places (n - 1) ≡ Some x = subst (λ ys. slice_get ys (n - 1) ≡ Some x) c.as_slice-2.ensures (slice_get_read xs (length xs) (n - 1) x refl l.3.0 l.1) in
    let is : find (λ y. y.0 == i) pr.source_places ≡ Some x =
    c.requires.naming.places.each i c.requires.place ∙ ap (entry_before pr.source_places) (sym c.entry_of-number.ensures) ∙ before_some pr.source_places n some ∙ at in
    on_ok_weaker c.push_str.result (λ h. h ∙ ap (λ z. c.args.out.now ++ z) (c.as_str.ensures ∙ sym (source_named s.program.now s.findings.now.targets pr i x is))) c.push_str.ensures.ok

pub returns-in-None : goal.returns-in-None
returns-in-None c =
    let s = c.args.subject.now in
    let pr = c.args.naming.now.problem.now in
    let i = c.args.place in
    let n = c.entry_of-number.result in
    let some : 0 < n = omega arith in
    let at : slice_get pr.source_places (n - 1) ≡ None =
    subst (λ ys. slice_get ys (n - 1) ≡ None) c.as_slice-2.ensures (slice_get_past c.as_slice-2.result.now (n - 1) c.in-None.ensures.lookup.3) in
    let none : find (λ y. y.0 == i) pr.source_places ≡ None =
    c.requires.naming.places.each i c.requires.place ∙ ap (entry_before pr.source_places) (sym c.entry_of-number.ensures) ∙ before_some pr.source_places n some ∙ at in
    let same = ap (λ fs. counted_text s.program.now s.findings.now.targets fs i) c.as_slice-in-None.ensures in
    on_ok_weaker c.push_counted-in-None.result (λ h. h ∙ ap (λ z. c.args.out.now ++ z) (same ∙ sym (source_counted s.program.now s.findings.now.targets pr i none))) c.push_counted-in-None.ensures
