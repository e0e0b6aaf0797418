-- Tests of lists of numbers.
use Rattle.std.specs.Prelude.{ℕ, ◌&&◌, not, Bool, true, List, [], ◌∷◌, nat_lt}
use Rattle.argot_plain.specs.Lists.{member}

-- whether each number is below the bound
abbrev pub all_below : ℕ → List ℕ → Bool
all_below bound [] = true
all_below bound (n ∷ ns) = nat_lt n bound && all_below bound ns

-- whether no number of the list stands in it again
abbrev pub no_number_twice : List ℕ → Bool
no_number_twice [] = true
no_number_twice (n ∷ ns) = not (member n ns) && no_number_twice ns
