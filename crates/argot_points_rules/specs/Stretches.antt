-- Which of the definitions the rules of a place need.
use Rattle.std.specs.Prelude.{◌≡◌, ℕ, List}
use Rattle.argot_plain.specs.Code.{Code}
use Rattle.argot_plain.specs.declared.functions.Function.{Function}
use Rattle.argot_points_rules.specs.Column.{definitions}

-- the place that a definition reaches
abbrev pub reached : ℕ × ℕ × ℕ → ℕ
reached d = d.1

-- these are as good as all at the place i
abbrev pub AreEnough : List (ℕ × ℕ × ℕ) → List (ℕ × ℕ × ℕ) → ℕ → Type 0
AreEnough ds es i = (p : Code) (fn : Function) (r : ℕ) → definitions p fn i r es ≡ definitions p fn i r ds
