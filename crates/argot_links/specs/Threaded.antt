-- A queue threaded through the numbers that it holds. The link of a number that waits is one more than the number behind
-- it, that of the last one more than its own; a number that doesn't wait has the link 0.
use Rattle.std.specs.Prelude.{◌≡◌, ℕ, zero, suc, ◌+◌, ◌-◌, ◌<◌, ◌^◌, nat_lt, cond, ◌==◌, List, [], ◌∷◌, length, slice_index, ⊤}
use Rattle.argot_links.specs.Members.{has, AreDistinct, AreBelow}

-- the numbers from i on, k of them
abbrev pub thread : ℕ → List ℕ → ℕ → List ℕ
thread zero links i = []
thread (suc k) links i = i ∷ thread k links (slice_index links i - 1)

-- the last of the numbers, if there is one
abbrev pub EndsIn : List ℕ → ℕ → Type 0
EndsIn [] last = ⊤
EndsIn (x ∷ []) last = x ≡ last
EndsIn (x ∷ y ∷ ys) last = EndsIn (y ∷ ys) last

-- how many links are 0
abbrev pub free_count : List ℕ → ℕ
free_count [] = 0
free_count (l ∷ ls) = cond (l == 0) (suc (free_count ls)) (free_count ls)

pub record IsThreaded (links : List ℕ) (first last count : ℕ) : Type 0 where
  pub flags : (i : ℕ) → nat_lt 0 (slice_index links i) ≡ has (thread count links first) i
  pub distinct : AreDistinct (thread count links first)
  pub below : AreBelow (length links) (thread count links first)
  pub ends : EndsIn (thread count links first) last
  pub room : count + free_count links ≡ length links
  pub small : length links < 2 ^ 32
