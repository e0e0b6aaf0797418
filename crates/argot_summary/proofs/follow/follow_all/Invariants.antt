use Rattle.std.proofs.Common.{◌≡◌, ℕ, ◌<◌, ◌≤◌, length, Some}
use Rattle.std.specs.Prelude.{slice_get}
use Rattle.argot_facts.specs.declared.graphs.EdgeKind.{EdgeKind}
use Rattle.argot_facts.specs.declared.summaries.Same.{Same}
use Rattle.argot_summary.specs.Stepping.{Edged, Grows, IsReady, IsDone}
use Rattle.argot_summary.proofs.follow.follow_all.Given as goal

abbrev pub invariant-loop-i : goal.invariant-loop-i
invariant-loop-i l = record {
  grows : Grows l.round.net.now l.fn.found l.found l.round.rank;
  ready : IsReady l.round.net.now l.found l.round.published.now l.round.rank;
  few : length l.found.facts.items ≤ 16777216;
  closed : (j b : ℕ) (f : Same) (kind : EdgeKind) → l.first ≤ j → j < l.i → slice_get l.found.facts.items j ≡ Some f → Edged l.round.net.now f.to kind b → IsDone l.round.net.now l.found.facts.items l.round.published.now.count f l.round.rank kind b;
}
