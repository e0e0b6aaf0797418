-- What the definitions on types mean.
use Rattle.std.specs.Prelude.{◌≡◌, true, ◌↔◌}
use Rattle.argot_check_types.specs.Types.{Ty}
use Rattle.argot_check_types.specs.Identity.{identical}

-- identical types are equal trees
abbrev pub IdenticalIsEqual : Type 0
IdenticalIsEqual = (a b : Ty) → (identical a b ≡ true) ↔ (a ≡ b)
