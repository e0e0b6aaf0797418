-- Tables of facts against the rules.
use Rattle.std.specs.Prelude.{◌≡◌, Bool, Option, Some, None, ◌↔◌}
use Rattle.argot_check_asking.specs.Rules.{Rule, told, only, Says}

module _ {R F : Type 0} (typed : F → Bool) (rules : R → Rule R F) where
  -- the table is what the rules say
  abbrev pub IsExact : (R → Option F) → Type 0
  IsExact fact = (n : R) (f : F) → (fact n ≡ Some f) ↔ Says typed rules n f

-- each fact of the table was said, and is still what its rule says
pub record IsReady {R F : Type 0} (typed : F → Bool) (rules : R → Rule R F) (fact : R → Option F) : Type 0 where
  pub said : (n : R) (f : F) → fact n ≡ Some f → Says typed rules n f
  pub kept : (n : R) (f : F) → fact n ≡ Some f → told (λ m. only typed (fact m)) (rules n) ≡ Some f

-- and no rule says more
pub record IsClosed {R F : Type 0} (typed : F → Bool) (rules : R → Rule R F) (fact : R → Option F) : Type 0 where
  pub closed : (n : R) → fact n ≡ None → told (λ m. only typed (fact m)) (rules n) ≡ None
