use Rattle.std.proofs.Common.{◌≡◌, ℕ, ◌<◌, ◌≤◌, length, Some}
use Rattle.std.specs.Prelude.{slice_get}
use Rattle.argot_facts.specs.declared.graphs.Edge.{Edge}
use Rattle.argot_summary.specs.Netted.{start}
use Rattle.argot_summary.specs.Stepping.{Grows, IsReady, IsDone}
use Rattle.argot_summary.proofs.follow.follow.Given as goal

abbrev pub invariant-loop-k : goal.invariant-loop-k
invariant-loop-k l = record {
  grows : Grows l.round.net.now l.fn.found l.found l.round.rank;
  ready : IsReady l.round.net.now l.found l.round.published.now l.round.rank;
  few : length l.found.facts.items ≤ 16777216;
  closed : (j : ℕ) (e : Edge) → start l.round.net.now.starts.items l.fact.to ≤ j → j < l.k → slice_get l.round.net.now.edges.now j ≡ Some e → IsDone l.round.net.now l.found.facts.items l.round.published.now.count l.fact l.round.rank e.kind e.to;
}
