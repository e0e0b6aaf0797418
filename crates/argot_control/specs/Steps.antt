-- Numbers to which steps between numbers lead.
use Rattle.std.specs.Prelude.{◌≡◌, ◌↔◌, ℕ, ◌<◌, true, List, length}
use Rattle.argot_links.specs.Table.{Table, has}
use Rattle.argot_plain.specs.Code.{Code}
use Rattle.argot_plain.specs.Lists.{In}
use Rattle.argot_facts.specs.Refers.{Fact}
use Rattle.argot_control.specs.Blocks.{LeadsOn}

-- one or more of these steps lead from x to a number
pub data IsLed (steps : List (ℕ × ℕ)) : ℕ → ℕ → Type 0 where
  at_once : {x y : ℕ} → In (x, y) steps → IsLed steps x y
  on : {x z : ℕ} → (y : ℕ) → In (x, y) steps → IsLed steps y z → IsLed steps x z

-- the steps are between numbers below n
abbrev pub AreBelow : ℕ → List (ℕ × ℕ) → Type 0
AreBelow n steps = (x y : ℕ) → In (x, y) steps → (x < n) × (y < n)

-- a row and a column for each number below n
pub record IsSquare (n : ℕ) (t : Table) : Type 0 where
  pub rows : length t.rows ≡ n
  pub cols : t.cols ≡ n

-- what the row of y has, and y itself, is in the row of x
pub record IsTaken (t : Table) (x y : ℕ) : Type 0 where
  pub itself : has t x y ≡ true
  pub all : (z : ℕ) → has t y z ≡ true → has t x z ≡ true

-- each number in a row was there, or the steps lead to it
abbrev pub AreLed : List (ℕ × ℕ) → Table → Type 0
AreLed steps t = (x y : ℕ) → has t x y ≡ true → IsLed steps x y

-- the steps are exactly those between blocks
abbrev pub AreBetween : Code → (Fact → Type 0) → (ℕ → ℕ) → List (ℕ × ℕ) → Type 0
AreBetween p F block steps = (x y : ℕ) → In (x, y) steps ↔ LeadsOn p F block x y
