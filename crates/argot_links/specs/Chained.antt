-- Lists, how many items they have together, and for how many more there is room.
use Rattle.std.specs.Prelude.{ℕ, List}

pub record Chained : Type 0 where
  pub used : ℕ
  pub spare : ℕ
  pub lists : List (List ℕ)
