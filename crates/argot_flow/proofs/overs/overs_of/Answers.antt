use Rattle.std.proofs.Common.{◌≡◌, ℕ, ◌<◌, length, sym, subst, inl, inr, arith}
use Rattle.std.specs.Prelude.{slice_index_or}
use Rattle.std.proofs.lemmas.Bool.{cases_lt}
use Rattle.argot_facts.proofs.Listed.{number_of, in_of_get, get_within}
use Rattle.argot_facts.specs.declared.graphs.Edge.{Edge}
use Rattle.argot_facts.specs.declared.graphs.EdgeKind.TheVariants.{Call, Return}
use Rattle.argot_facts.specs.declared.summaries.Same.{Same}
use Rattle.argot_facts.specs.Reached.{IsEdgeIn}
use Rattle.argot_summary.specs.Stepping.{Edged}
use Rattle.argot_summary.proofs.Edging.{same_item}
use Rattle.std.proofs.Common.{List}
use Rattle.std.proofs.lemmas.Option.{slice_get-get_or}
use Rattle.argot_facts.specs.Summaries.{HasRank}
use Rattle.argot_facts.specs.Summed.{same}
use Rattle.argot_facts.specs.Summed.{AreSummaries}
use Rattle.argot_flow_laws.proofs.Unfolding.{has_rank}
use Rattle.argot_flow.proofs.Noting.{found_inside}
use Rattle.argot_flow.proofs.overs.overs_of.Goals as goal

abbrev d : Same
d = record { from = 0; to = 0; rank = 0 }

ranked : (es : List Edge) (fs : List Same) (i : ℕ) → AreSummaries es fs → i < length fs → HasRank (IsEdgeIn es) (slice_index_or fs i d).from (slice_index_or fs i d).to (slice_index_or fs i d).rank
ranked es fs i exact l =
    let f = slice_index_or fs i d in
    (exact.each f.from f.to f.rank).0 (in_of_get fs i f (slice_get-get_or fs i d l))

pub note_fact-requires-clause-fact : goal.note_fact-requires-clause-fact
note_fact-requires-clause-fact c =
    let f = slice_index_or c.args.facts.now c.loop-i.i d in
    record { rounds = f.rank; within = (ranked c.args.net.now.edges.now c.args.facts.now c.loop-i.i c.requires.exact c.loop-i-test.true).within }

pub note_fact-requires-clause-to : goal.note_fact-requires-clause-to
note_fact-requires-clause-to c = found_inside c.args.net.now.edges.now c.args.net.now.nodes c.requires.net.ends (ranked c.args.net.now.edges.now c.args.facts.now c.loop-i.i c.requires.exact c.loop-i-test.true).within

pub loop-i-preserved : goal.loop-i-preserved
loop-i-preserved c =
    let i = c.loop-i.invariant in
    let notes = c.in_ok-note_fact.ensures.notes in
    record {
      overs = notes.overs;
      closed = λ j s m n f less at back call. elim (cases_lt j c.loop-i.i) [
        | inl before ↦ notes.kept m n (i.closed j s m n f before at back call)
        | inr past ↦ (let q : c.loop-i.i ≡ j = omega arith in
            let fact = slice_index_or c.args.facts.now c.loop-i.i d in
            let same_fact : fact ≡ f = same_item c.args.facts.now c.loop-i.i j fact f q (slice_get-get_or c.args.facts.now c.loop-i.i d c.loop-i-test.true) at in
            c.in_ok-note_fact.ensures.closed s m n (subst (λ (y : Same). Edged c.args.net.now y.to (Return s) n) (sym same_fact) back) (subst (λ (y : Same). Edged c.args.net.now m (Call s) y.from) (sym same_fact) call))
      ];
    }

pub returns : goal.returns
returns c = record {
  heads = c.loop-i.invariant.overs.heads;
  only = c.loop-i.invariant.overs.only;
  inside = c.loop-i.invariant.overs.inside;
  each = λ m n o.
      (let es = c.args.net.now.edges.now in
      let k = has_rank es c.args.facts.now c.requires.exact o.q o.l o.within.rounds o.within.within in
      let f = same o.q o.l k.0 in
      let at = number_of f c.args.facts.now ((c.requires.exact.each o.q o.l k.0).1 k.2) in
      c.loop-i.invariant.closed at.0 o.c m n f (omega (arith, get_within c.args.facts.now at.0 f at.1, c.loop-i-test.false)) at.1 o.back o.call);
}
