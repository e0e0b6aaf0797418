use Rattle.std.proofs.Common.{◌≡◌, ℕ, ◌≤◌, ◌++◌, [], length, Some, true}
use Rattle.std.specs.Prelude.{slice_get, slice_index_or}
use Rattle.argot_links.specs.Members.{has as contains}
use Rattle.argot_facts.specs.declared.graphs.EdgeKind.TheVariants.{Return}
use Rattle.argot_facts.specs.declared.summaries.Same.{Same}
use Rattle.argot_summary.specs.Finding.{IsThere}
use Rattle.argot_summary.specs.Stepping.{Edged, Grows, IsReady}
use Rattle.argot_summary.proofs.follow.descend.Given as goal

abbrev pub invariant-loop-j : goal.invariant-loop-j
invariant-loop-j l = record {
  rest : l.yielded ++ l.j-iterator ≡ slice_index_or l.round.published.now.starting.lists (l.entry.node) [];
  grows : Grows l.round.net.now l.fn.found l.found l.round.rank;
  ready : IsReady l.round.net.now l.found l.round.published.now l.round.rank;
  few : length l.found.facts.items ≤ 16777216;
  closed : (j n : ℕ) (g : Same) → contains l.yielded j ≡ true → slice_get l.found.facts.items j ≡ Some g → Edged l.round.net.now g.to (Return l.entry.call) n → IsThere l.found.facts.items l.p n l.round.rank;
}
