-- Rows that have what steps lead to.
use Rattle.std.proofs.Common.{◌≡◌, ℕ, ◌<◌, true, List, [], ◌∷◌, sym, ap, inl, inr, arith, subst}
use Rattle.argot_links.specs.Pairs.{AddsPair, JoinsRow}
use Rattle.argot_links.specs.Table.{Table, has}
use Rattle.argot_plain.specs.Lists.{In, here, there}
use Rattle.argot_control.specs.Steps.{IsLed, at_once, on, AreBelow, IsTaken, AreLed}

module _ (steps : List (ℕ × ℕ)) where
  -- a step adds nothing but what the steps lead to
  pub led_added : (old new : Table) (x y : ℕ) → In (x, y) steps → AddsPair (has old) (has new) x y → AreLed steps old → AreLed steps new
  led_added old new x y step adds led a b h = elim (adds.only a b h) [
    | inl was ↦ led a b was
    | inr e ↦ subst (λ m. IsLed steps m b) (sym e.0) (subst (IsLed steps x) (sym e.1) (at_once step))
  ]

  pub led_joined : (old new : Table) (x y : ℕ) → In (x, y) steps → JoinsRow (has old) (has new) y x → AreLed steps old → AreLed steps new
  led_joined old new x y step joins led a b h = elim (joins.only a b h) [
    | inl was ↦ led a b was
    | inr e ↦ subst (λ m. IsLed steps m b) (sym e.0) (on y step (led y b e.1))
  ]

  -- where each step is taken, all that they lead to is there
  pub led_there : (t : Table) → ((x y : ℕ) → In (x, y) steps → IsTaken t x y) → (x y : ℕ) → IsLed steps x y → has t x y ≡ true
  led_there t taken x y (at_once step) = (taken x y step).itself
  led_there t taken x z (on y step more) = (taken x y step).all z (led_there t taken y z more)

-- steps between numbers below n
pub below_none : (n : ℕ) → AreBelow n []
below_none n x y h = elim h [ ]

pub below_more : (n a b : ℕ) (steps : List (ℕ × ℕ)) → a < n → b < n → AreBelow n steps → AreBelow n ((a, b) ∷ steps)
below_more n a b steps l m below x y (here e) = (let z : x ≡ a = ap (λ (s : ℕ × ℕ). s.0) e in omega arith, let z : y ≡ b = ap (λ (s : ℕ × ℕ). s.1) e in omega arith)
below_more n a b steps l m below x y (there h) = below x y h
