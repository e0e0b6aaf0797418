use Rattle.std.proofs.Common.{◌≡◌, ℕ, ◌≤◌, ◌++◌, [], length, Some, true}
use Rattle.std.specs.Prelude.{slice_get, slice_index_or}
use Rattle.argot_links.specs.Members.{has as contains}
use Rattle.argot_facts.specs.declared.graphs.Edge.{Edge}
use Rattle.argot_facts.specs.declared.graphs.EdgeKind.TheVariants.{Return}
use Rattle.argot_summary.specs.Buckets.{slot_of}
use Rattle.argot_summary.specs.Finding.{IsThere}
use Rattle.argot_summary.specs.Stepping.{Grows}
use Rattle.argot_summary.proofs.follow.hand_all.Given as goal

abbrev pub invariant-loop-k : goal.invariant-loop-k
invariant-loop-k l = record {
  rest : l.yielded ++ l.k-iterator ≡ slice_index_or l.round.net.now.returns.lists (slot_of l.exit.node l.exit.call l.round.net.now.heads) [];
  grows : Grows l.round.net.now l.fn.found l.found l.round.rank;
  few : length l.found.facts.items ≤ 16777216;
  closed : (j : ℕ) (e : Edge) → contains l.yielded j ≡ true → slice_get l.round.net.now.edges.now j ≡ Some e → e.from ≡ l.exit.node → e.kind ≡ Return l.exit.call → IsThere l.found.facts.items l.p e.to l.round.rank;
}
