-- The sets by which the values of one register are found, over the first places of blocks.
use Rattle.std.specs.Prelude.{◌≡◌, ℕ, ◌+◌, ◌<◌, Bool, true, false, List, [], slice_index}
use Rattle.argot_ssa.specs.Edges.{leads, IsSet, holds, Spreads}
use Rattle.argot_ssa.specs.Paths.{Row}
use Rattle.argot_ssa.specs.declared.work.Work.{Work}

pub record IsWork (n : ℕ) (w : Work) : Type 0 where
  pub stops : IsSet n w.stops
  pub all : IsSet n w.all
  pub needed : IsSet n w.needed
  pub seen : IsSet n w.seen
  pub queue : w.queue.size ≡ n
  pub idle : w.queue.items ≡ []
  -- the set of all numbers below n
  pub full : (a : ℕ) → a < n → holds w.all a ≡ true

-- all blocks are needed through which the register's value comes to a place that asks for it
pub record Supplies (onward asks : List (List ℕ)) (heads : List ℕ) (r : ℕ) (w : Work) : Type 0 where
  pub asked : (k : ℕ) → leads asks r k ≡ true → holds w.needed (slice_index heads k) ≡ true
  pub before : (k b : ℕ) → leads asks r k ≡ true → leads onward b (slice_index heads k) ≡ true → holds w.needed b ≡ true
  pub closed : (a b : ℕ) → holds w.needed a ≡ true → holds w.stops a ≡ false → leads onward b a ≡ true → holds w.needed b ≡ true

-- the definition at d leaves its block and comes to the block of the place k, which asks for the register
pub record IsCarried (onward outs asks : List (List ℕ)) (heads : List ℕ) (stops : ℕ → Bool) (entry r : ℕ) (x : Row) : Type 0 where
  pub k : ℕ
  pub d : ℕ
  pub out : leads outs r d ≡ true
  pub asked : leads asks r k ≡ true
  pub spread : Spreads onward stops (leads onward (slice_index heads d)) (slice_index heads k)
  pub is : x ≡ (entry + k, r, entry + d)
