use Rattle.std.proofs.Common.{◌≡◌, ℕ, ◌+◌, ◌++◌, ◌∷◌, [], length, take, get_or, sym, ap, ◌∙◌, arith, subst}
use Rattle.std.proofs.lemmas.List.{take_more}
use Rattle.std.proofs.lemmas.Option.{slice_get-get_or}
use Rattle.std.proofs.Math.Seq.{take-length}
use Rattle.argot_plain.specs.Lists.{In}
use Rattle.argot_facts.proofs.Listed.{in_of_get}
use Rattle.argot_escape.specs.Flooding.{Finds, FunctionLeadsTo, FunctionsLeadTo}
use Rattle.argot_escape.proofs.Finding.{finds_more, finds_empty, finds_as, ready_on}
use Rattle.argot_escape.proofs.starts.reach_functions.Goals as goal

pub reach_function-requires-clause-inside : goal.reach_function-requires-clause-inside
reach_function-requires-clause-inside c =
    let live = c.live-live.result.now in
    let i = c.loop-g.g-index in
    let m : In (get_or live i 0) live = in_of_get live i (get_or live i 0) (slice_get-get_or live i 0 c.loop-g-test.true) in
    c.requires.inside (get_or live i 0) (subst (In (get_or live i 0)) c.live-live.ensures m)

pub loop-g-init : goal.loop-g-init
loop-g-init c = record { ready = c.requires.ready; finds = finds_empty (FunctionLeadsTo c.args.program.now c.args.points.now) c.args.found.now }

pub loop-g-preserved : goal.loop-g-preserved
loop-g-preserved c =
    let p = c.args.program.now in
    let x = c.args.points.now in
    let live = c.live-live.result.now in
    let i = c.loop-g.g-index in
    let g = get_or live i 0 in
    let t : take (i + 1) live ≡ take i live ++ g ∷ [] = take_more live i 0 c.loop-g-test.true in
    record {
      ready = ready_on x.locations (FunctionLeadsTo p x g) c.loop-g.found c.reach_function.new.found c.reach_function.ensures c.loop-g.invariant.ready;
      finds = subst (λ ys. Finds (λ m. (y : ℕ) × In y ys × FunctionLeadsTo p x y m) c.args.found.now c.reach_function.new.found) (sym t)
          (finds_more (FunctionLeadsTo p x) (take i live) g c.args.found.now c.loop-g.found c.reach_function.new.found c.loop-g.invariant.finds c.reach_function.ensures);
    }

pub returns : goal.returns
returns c =
    let p = c.args.program.now in
    let x = c.args.points.now in
    let live = c.live-live.result.now in
    let e : c.loop-g.g-index ≡ length live = omega arith in
    let t : take c.loop-g.g-index live ≡ x.live = ap (λ n. take n live) e ∙ take-length live ∙ c.live-live.ensures in
    finds_as (λ m. (y : ℕ) × In y (take c.loop-g.g-index live) × FunctionLeadsTo p x y m) (FunctionsLeadTo p x x.live) c.args.found.now c.loop-g.found
    (λ m h. (h.0, subst (In h.0) t h.1, h.2))
    (λ m h. (h.0, subst (In h.0) (sym t) h.1, h.2))
    c.loop-g.invariant.finds
