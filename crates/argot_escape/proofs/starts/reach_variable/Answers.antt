use Rattle.std.proofs.Common.{◌≡◌, ◌<◌, Some, length, refl, sym, ◌∙◌, arith, subst}
use Rattle.std.specs.Prelude.{slice_get}
use Rattle.std.proofs.lemmas.Option.{slice_get_read}
use Rattle.argot_escape.proofs.Finding.{finds_as}
use Rattle.argot_escape.proofs.starts.reach_variable.Goals as goal

pub reach-requires-clause-inside : goal.reach-requires-clause-inside
reach-requires-clause-inside c =
    let p = c.args.program.now in
    let g = c.index.result.now in
    let gs = c.globals.result.now.items in
    let l : c.args.k < length gs = subst (λ xs. c.args.k < length xs) (sym c.globals.ensures) c.requires.variable in
    let is : slice_get p.globals c.args.k ≡ Some g = subst (λ xs. slice_get xs c.args.k ≡ Some g) c.globals.ensures (slice_get_read gs (length gs) c.args.k g refl l c.index.ensures) in
    let e = c.requires.well.global_sites.site c.args.k g.0 g.1 g.2 is in
    let v = c.requires.variable in
    let i = c.requires.inside in
    omega arith

pub returns : goal.returns
returns c =
    let p = c.args.program.now in
    let g = c.index.result.now in
    let gs = c.globals.result.now.items in
    let l : c.args.k < length gs = subst (λ xs. c.args.k < length xs) (sym c.globals.ensures) c.requires.variable in
    let is : slice_get p.globals c.args.k ≡ Some g = subst (λ xs. slice_get xs c.args.k ≡ Some g) c.globals.ensures (slice_get_read gs (length gs) c.args.k g refl l c.index.ensures) in
    let e : g.2 ≡ c.args.k = c.requires.well.global_sites.site c.args.k g.0 g.1 g.2 is in
    finds_as (λ m. m ≡ g.2) (λ m. m ≡ c.args.k) c.args.found.now c.reach.new.found (λ m h. h ∙ e) (λ m h. h ∙ sym e) c.reach.ensures
