use Rattle.std.proofs.Common.{◌≡◌, ◌<◌, length, Some, slice_get, sym, ◌∙◌, subst, ap, arith}
use Rattle.argot_names_imports.proofs.Options.{ok_map}
use Rattle.argot_names_rules.specs.Faults.{IsOnCycle}
use Rattle.argot_names_packages.specs.Spots.{none}
use Rattle.argot_names_packages.specs.Cycles.{IsCycleAt}
use Rattle.argot_names_packages.proofs.Least.{least_all}
use Rattle.argot_names_packages.proofs.Cycling.{steps_same, leader_below, target_below, none_on_cycle, cycle_there, cycle_is, ranked}
use Rattle.argot_names_packages.proofs.cycles.cycle.Goals as goal

pub returns-in_default : goal.returns-in_default
returns-in_default c = λ h main same is. none (none_on_cycle h main c.args.survey.now is (sym c.get_index.ensures.key ∙ sym c.copied.ensures ∙ c.in_default.is))

pub graph_of-requires-clause-below : goal.graph_of-requires-clause-below
graph_of-requires-clause-below c = λ file l e.
    let there : slice_get c.args.survey.now.leaders.items file ≡ Some (Some l) = subst (λ ls. slice_get ls file ≡ Some (Some l)) c.deref.ensures.value e in
    subst (λ ls. l < length ls) (sym c.deref.ensures.value) (leader_below c.requires.0 c.requires.1 c.args.survey.now c.requires.2 file l there)

pub first_cycle-requires-clause-ranked : goal.first_cycle-requires-clause-ranked
first_cycle-requires-clause-ranked c =
    let s = c.args.survey.now in
    let lists = c.in_ok-graph.graph.lists in
    let steps = steps_same c.deref.result.now s.leaders.items c.deref-2.result.now s.imports.items c.deref-3.result.now s.founds.items lists c.deref.ensures.value c.deref-2.ensures.value c.deref-3.ensures.value c.in_ok-graph.ensures.edges in
    let count = c.in-Ok.ensures.1 in
    ranked c.requires.0 c.requires.1 s c.requires.2 lists steps c.falling-ranks.result.now (λ l below i. c.falling-ranks.ensures l (omega (arith, below, count)) i)

pub first_cycle-requires-clause-targets : goal.first_cycle-requires-clause-targets
first_cycle-requires-clause-targets c = λ k from to st.
    let b = target_below c.requires.0 c.requires.1 c.args.survey.now c.requires.2 k from to st.step in
    let long : length c.in_ok-graph.graph.lists ≡ length c.args.survey.now.leaders.items = c.in_ok-graph.ensures.count ∙ ap length c.deref.ensures.value in
    omega (arith, b, long)

pub first_cycle-requires-clause-below : goal.first_cycle-requires-clause-below
first_cycle-requires-clause-below c = λ l t edge.
    let s = c.args.survey.now in
    let lists = c.in_ok-graph.graph.lists in
    let steps = steps_same c.deref.result.now s.leaders.items c.deref-2.result.now s.imports.items c.deref-3.result.now s.founds.items lists c.deref.ensures.value c.deref-2.ensures.value c.deref-3.ensures.value c.in_ok-graph.ensures.edges in
    let st = (steps l t).0 edge in
    let b = target_below c.requires.0 c.requires.1 s c.requires.2 st.0 l t st.1 in
    let long : length lists ≡ length s.leaders.items = c.in_ok-graph.ensures.count ∙ ap length c.deref.ensures.value in
    omega (arith, b, long)

pub returns : goal.returns
returns c = λ h main same is.
    let s = c.args.survey.now in
    let lists = c.in_ok-graph.graph.lists in
    let steps = steps_same c.deref.result.now s.leaders.items c.deref-2.result.now s.imports.items c.deref-3.result.now s.founds.items lists c.deref.ensures.value c.deref-2.ensures.value c.deref-3.ensures.value c.in_ok-graph.ensures.edges in
    ok_map c.first_cycle.result _ _
    (λ o least. least_all (IsCycleAt s c.args.lexed.now lists) (IsOnCycle h main) (length s.imports.items) o (cycle_is h main s is lists steps c.args.lexed.now same) (cycle_there h main s is lists steps c.args.lexed.now same) least)
    c.first_cycle.ensures
