use Rattle.std.proofs.Common.{◌≡◌, ℕ, ◌≤◌, ◌++◌, [], length, Some, true}
use Rattle.std.specs.Prelude.{slice_get, slice_index_or}
use Rattle.argot_links.specs.Members.{has as contains}
use Rattle.argot_facts.specs.declared.summaries.Same.{Same}
use Rattle.argot_summary.specs.Finding.{IsThere}
use Rattle.argot_summary.specs.Stepping.{Grows, IsReady}
use Rattle.argot_summary.proofs.follow.spread.Given as goal

abbrev pub invariant-loop-i : goal.invariant-loop-i
invariant-loop-i l = record {
  rest : l.yielded ++ l.i-iterator ≡ slice_index_or l.round.published.now.ending.lists (l.m) [];
  grows : Grows l.round.net.now l.fn.found l.found l.round.rank;
  ready : IsReady l.round.net.now l.found l.round.published.now l.round.rank;
  few : length l.found.facts.items ≤ 16777216;
  closed : (i : ℕ) (g : Same) → contains l.yielded i ≡ true → slice_get l.found.facts.items i ≡ Some g → IsThere l.found.facts.items g.from l.n l.round.rank;
}
