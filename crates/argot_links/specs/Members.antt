-- Lists of numbers, and what they have.
use Rattle.std.specs.Prelude.{◌≡◌, ℕ, suc, ◌<◌, ◌≤◌, Bool, false, ◌==◌, ◌||◌, List, [], ◌∷◌, ⊤}

-- whether the number is among these
abbrev pub has : List ℕ → ℕ → Bool
has [] i = false
has (x ∷ xs) i = (x == i) || has xs i

-- no number stands twice
abbrev pub AreDistinct : List ℕ → Type 0
AreDistinct [] = ⊤
AreDistinct (x ∷ xs) = (has xs x ≡ false) × AreDistinct xs

-- each number is below n
abbrev pub AreBelow : ℕ → List ℕ → Type 0
AreBelow n [] = ⊤
AreBelow n (x ∷ xs) = (x < n) × AreBelow n xs

-- the numbers ascend, the first from low on
abbrev pub IsAscendingFrom : ℕ → List ℕ → Type 0
IsAscendingFrom low [] = ⊤
IsAscendingFrom low (x ∷ xs) = (low ≤ x) × IsAscendingFrom (suc x) xs

abbrev pub IsAscending : List ℕ → Type 0
IsAscending xs = IsAscendingFrom 0 xs
