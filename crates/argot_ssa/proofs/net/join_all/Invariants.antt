use Rattle.std.proofs.Common.{◌≡◌, ℕ, ◌-◌, ◌<◌, ◌⊎◌, true, length, slice_index}
use Rattle.argot_ssa.specs.Edges.{leads}
use Rattle.argot_ssa.specs.Places.{Mirrored}
use Rattle.argot_ssa.proofs.net.join_all.Given as goal

abbrev pub invariant-loop-target : goal.invariant-loop-target
invariant-loop-target l = record {
  count : length l.net.onward.lists ≡ length l.heads;
  count_back : length l.net.back.lists ≡ length l.heads;
  mirror : Mirrored l.net.onward.lists l.net.back.lists;
  kept : (a b : ℕ) → leads l.fn.net.onward.lists a b ≡ true → leads l.net.onward.lists a b ≡ true;
  there : (j : ℕ) → j < l.target-index → slice_index l.heads (slice_index l.targets j - l.entry) ≡ slice_index l.targets j - l.entry → leads l.net.onward.lists l.block (slice_index l.targets j - l.entry) ≡ true;
  only : (a b : ℕ) → leads l.net.onward.lists a b ≡ true → (leads l.fn.net.onward.lists a b ≡ true) ⊎ ((j : ℕ) × (j < l.target-index) × (a ≡ l.block) × (b ≡ slice_index l.targets j - l.entry) × (slice_index l.heads b ≡ b));
}
