use Rattle.std.proofs.Common.{◌≡◌, ℕ, ◌+◌, ◌<◌, ◌≤◌, ◌⊎◌, slice_index, bit_or, IsTrue, false}
use Rattle.argot_links.proofs.words.or_words.Given as goal

-- the words before k are joined, all others are as they were
abbrev pub invariant-loop-k : goal.invariant-loop-k
invariant-loop-k l = record {
  inside : (j : ℕ) → j < l.k → slice_index l.words (l.target + j) ≡ bit_or (slice_index l.fn.words (l.target + j)) (slice_index l.fn.words (l.source + j));
  outside : (j : ℕ) → (j < l.target) ⊎ (l.target + l.k ≤ j) → slice_index l.words j ≡ slice_index l.fn.words j;
  changed : IsTrue l.changed → (j : ℕ) × (j < l.k) × (slice_index l.words (l.target + j) ≡ slice_index l.fn.words (l.target + j) → ⊥);
  same : l.changed ≡ false → l.words ≡ l.fn.words;
}
