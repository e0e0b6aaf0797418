use Rattle.std.proofs.Common.{◌≡◌, ℕ, ◌<◌, ◌≤◌, ◌++◌, [], length, Some, true}
use Rattle.std.specs.Prelude.{slice_get, slice_index_or}
use Rattle.argot_links.specs.Members.{has as contains}
use Rattle.argot_facts.specs.declared.graphs.Edge.{Edge}
use Rattle.argot_facts.specs.declared.graphs.EdgeKind.TheVariants.{Call}
use Rattle.argot_facts.specs.declared.summaries.Same.{Same}
use Rattle.argot_summary.specs.Buckets.{slot_of}
use Rattle.argot_summary.specs.Finding.{IsThere}
use Rattle.argot_summary.specs.Stepping.{Grows, IsReady}
use Rattle.argot_summary.proofs.follow.ascend.Given as goal

abbrev pub invariant-loop-k : goal.invariant-loop-k
invariant-loop-k l = record {
  rest : l.yielded ++ l.k-iterator ≡ slice_index_or l.round.net.now.calls.lists (slot_of l.entry.node l.entry.call l.round.net.now.heads) [];
  grows : Grows l.round.net.now l.fn.found l.found l.round.rank;
  ready : IsReady l.round.net.now l.found l.round.published.now l.round.rank;
  few : length l.found.facts.items ≤ 16777216;
  closed : (j i : ℕ) (e : Edge) (g : Same) → contains l.yielded j ≡ true → slice_get l.round.net.now.edges.now j ≡ Some e → e.to ≡ l.entry.node → e.kind ≡ Call l.entry.call → i < l.round.published.now.count → slice_get l.found.facts.items i ≡ Some g → g.to ≡ e.from → IsThere l.found.facts.items g.from l.n l.round.rank;
}
