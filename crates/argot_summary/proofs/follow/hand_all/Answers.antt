use Rattle.std.proofs.Common.{◌≡◌, [], refl, sym, subst, inl, inr, true}
use Rattle.std.specs.Prelude.{slice_index_or}
use Rattle.argot_links.specs.Members.{has as contains}
use Rattle.argot_links.proofs.Having.{pushed_cases}
use Rattle.argot_facts.proofs.Listed.{number_of}
use Rattle.argot_facts.specs.declared.graphs.Edge.{Edge}
use Rattle.argot_facts.specs.declared.graphs.EdgeKind.TheVariants.{Return}
use Rattle.argot_summary.specs.Buckets.{slot_of}
use Rattle.argot_summary.proofs.Growing.{grows_on, there_on}
use Rattle.argot_summary.proofs.Walking.{next_stands, next_rest, all_yielded}
use Rattle.argot_summary.proofs.follow.hand_all.Goals as goal

pub hand_back-requires-clause-k : goal.hand_back-requires-clause-k
hand_back-requires-clause-k c =
    let x = c.args.round.now.net.now in
    let h = slot_of c.args.exit.node c.args.exit.call x.heads in
    c.requires.net.returns.inside h c.in-Some.k (next_stands c.loop-k.yielded c.loop-k.k-iterator c.next.new.self (slice_index_or x.returns.lists h []) c.in-Some.k c.in-Some.ensures.steps c.loop-k.invariant.rest)

pub loop-k-preserved : goal.loop-k-preserved
loop-k-preserved c =
    let x = c.args.round.now.net.now in
    let h = slot_of c.args.exit.node c.args.exit.call x.heads in
    let i = c.loop-k.invariant in
    let g = c.hand_back.ensures.grows in
    record {
      rest = next_rest c.loop-k.yielded c.loop-k.k-iterator c.next.new.self (slice_index_or x.returns.lists h []) c.in-Some.k c.in-Some.ensures.steps i.rest;
      grows = grows_on x c.args.found.now c.loop-k.found c.hand_back.new.found c.args.round.now.rank i.grows g;
      few = c.in_ok-hand_back.ensures.few;
      closed = λ j e m at from is. elim (pushed_cases c.loop-k.yielded c.in-Some.k j m) [
        | inl old ↦ there_on c.loop-k.found.facts.items c.hand_back.new.found.facts.items g.keeps c.args.p e.to c.args.round.now.rank (i.closed j e old at from is)
        | inr q ↦ c.in_ok-hand_back.ensures.closed e (rw (← q) at) from is
      ];
    }

pub returns-clause-closed : goal.returns-clause-closed
returns-clause-closed c = λ n edge.
    let x = c.args.round.now.net.now in
    let h = slot_of c.args.exit.node c.args.exit.call x.heads in
    let e : Edge = record { from = c.args.exit.node; to = n; kind = Return c.args.exit.call } in
    let k = number_of e x.edges.now edge in
    let all = all_yielded c.loop-k.yielded c.loop-k.k-iterator (slice_index_or x.returns.lists h []) c.in-None.ensures.steps.0 c.loop-k.invariant.rest in
    c.loop-k.invariant.closed k.0 e (subst (λ zs. contains zs k.0 ≡ true) (sym all) (c.requires.net.returns.each k.0 c.args.exit.call e k.1 refl)) k.1 refl refl
