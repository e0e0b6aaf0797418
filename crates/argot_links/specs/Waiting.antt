-- A queue of distinct numbers below a size, the first that was put in first.
use Rattle.std.specs.Prelude.{ℕ, List}

pub record Waiting : Type 0 where
  pub size : ℕ
  pub items : List ℕ
