-- Steps between blocks lead as blocks do.
use Rattle.std.proofs.Common.{ℕ, List}
use Rattle.std.specs.Prelude.{◌↔◌}
use Rattle.argot_plain.specs.Code.{Code}
use Rattle.argot_plain.specs.Lists.{In}
use Rattle.argot_facts.specs.Refers.{Fact}
use Rattle.argot_control.specs.Blocks.{LeadsOn, IsRow, leads, leads_on}
use Rattle.argot_control.specs.Steps.{IsLed, at_once, on, AreBetween}

module _ (p : Code) (F : Fact → Type 0) (block : ℕ → ℕ) where
  before_row : (x y : ℕ) {z : ℕ} → LeadsOn p F block x y → IsRow p F block y z → IsRow p F block x z
  before_row x y first (leads l) = leads_on (leads first) l
  before_row x y first (leads_on r l) = leads_on (before_row x y first r) l

  module _ (steps : List (ℕ × ℕ)) (are : AreBetween p F block steps) where
    behind_led : {x y : ℕ} (z : ℕ) → IsLed steps x y → In (y, z) steps → IsLed steps x z
    behind_led {x = x} {y = y} z (at_once step) last = on y step (at_once last)
    behind_led {x = x} {y = y} z (on w step more) last = on w step (behind_led z more last)

    led_row : {x y : ℕ} → IsLed steps x y → IsRow p F block x y
    led_row {x = x} {y = y} (at_once step) = leads ((are x y).0 step)
    led_row {x = x} {y = z} (on y step more) = before_row x y ((are x y).0 step) (led_row more)

    row_led : (x : ℕ) {y : ℕ} → IsRow p F block x y → IsLed steps x y
    row_led x {y = y} (leads l) = at_once ((are x y).1 l)
    row_led x {y = z} (leads_on {y = y} r l) = behind_led z (row_led x r) ((are y z).1 l)

    pub led_as_rows : (a b : ℕ) → IsLed steps a b ↔ IsRow p F block a b
    led_as_rows a b = ((λ h. led_row h), λ h. row_led a h)
