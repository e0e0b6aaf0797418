use Rattle.std.proofs.Common.{◌≡◌, ℕ, ◌*◌, ◌<◌, ◌≤◌}
use Rattle.argot_links.specs.Grid.{run_bit}
use Rattle.argot_links.proofs.words.first_in_run.Given as goal

-- no bit before word j is 1
abbrev pub invariant-loop-j : goal.invariant-loop-j
invariant-loop-j l = (i : ℕ) → l.from ≤ i → i < 64 * l.j → run_bit l.words l.start i ≡ 0
