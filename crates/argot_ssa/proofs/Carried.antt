-- What spreads from some numbers spreads from more.
use Rattle.std.proofs.Common.{◌≡◌, ℕ, Bool, true, false, List, slice_index}
use Rattle.argot_ssa.specs.Edges.{leads, holds, Spreads}
use Rattle.argot_ssa.specs.Edges.Spreads.{first, on}
use Rattle.argot_ssa.specs.Working.{Supplies}
use Rattle.argot_ssa.specs.declared.work.Work.{Work}

pub spreads_more : (lists : List (List ℕ)) (stops some more : ℕ → Bool) → ((a : ℕ) → some a ≡ true → more a ≡ true) → {a : ℕ} → Spreads lists stops some a → Spreads lists stops more a
spreads_more lists stops some more sub (first h) = first (sub _ h)
spreads_more lists stops some more sub (on s free edge) = on (spreads_more lists stops some more sub s) free edge

module _ (onward asks : List (List ℕ)) (heads : List ℕ) (r : ℕ) (w : Work) (s : Supplies onward asks heads r w) (begins seen : ℕ → Bool)
    (starts : (b : ℕ) → begins b ≡ true → holds w.needed b ≡ true → seen b ≡ true)
    (closed : (a b : ℕ) → seen a ≡ true → holds w.stops a ≡ false → leads onward a b ≡ true → holds w.needed b ≡ true → seen b ≡ true) where
  -- where all is needed from which an edge leads there
  arrive : {b : ℕ} → Spreads onward (holds w.stops) begins b → holds w.needed b ≡ true → ((a : ℕ) → leads onward a b ≡ true → holds w.needed a ≡ true) → seen b ≡ true
  arrive (first {j = b} h) need edges = starts b h need
  arrive (on {i = i} {j = j} spread free edge) need edges =
      closed i j (arrive spread (edges i edge) (λ a e. s.closed i a (edges i edge) free e)) free edge need

  pub arrive_asked : (k : ℕ) → leads asks r k ≡ true → Spreads onward (holds w.stops) begins (slice_index heads k) → seen (slice_index heads k) ≡ true
  arrive_asked k asked spread = arrive spread (s.asked k asked) (λ a e. s.before k a asked e)
