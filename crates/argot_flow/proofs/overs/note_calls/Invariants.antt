use Rattle.std.proofs.Common.{◌≡◌, ℕ, ◌++◌, [], true, Some}
use Rattle.std.specs.Prelude.{slice_get, slice_index_or}
use Rattle.argot_links.specs.Members.{has as contains}
use Rattle.argot_facts.specs.declared.graphs.Edge.{Edge}
use Rattle.argot_facts.specs.declared.graphs.EdgeKind.TheVariants.{Call}
use Rattle.argot_summary.specs.Buckets.{slot_of, IsListed}
use Rattle.argot_flow.specs.Overs.{NotesOvers}
use Rattle.argot_flow.proofs.overs.note_calls.Given as goal

abbrev pub invariant-loop-k : goal.invariant-loop-k
invariant-loop-k l = record {
  rest : l.yielded ++ l.k-iterator ≡ slice_index_or l.net.calls.lists (slot_of l.entry.node l.entry.call l.net.heads) [];
  notes : NotesOvers l.net l.fn.overs.lists l.overs.lists;
  closed : (j : ℕ) (e : Edge) → contains l.yielded j ≡ true → slice_get l.net.edges.now j ≡ Some e → e.to ≡ l.entry.node → e.kind ≡ Call l.entry.call → IsListed l.overs.lists e.from l.n;
}
