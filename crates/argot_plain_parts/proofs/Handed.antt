-- Registers in lists.
use Rattle.std.proofs.Common.{◌≡◌, Bool, true, false, ℕ, List, [], ◌∷◌, ◌++◌, refl, ap, ◌∙◌}
use Rattle.std.specs.Prelude.{◌&&◌, nat_lt}
use Rattle.argot_plain.specs.declared.functions.Function.{Function}
use Rattle.argot_plain_parts.specs.Numbers.{all_below}
use Rattle.argot_plain_parts.specs.Places.{results_fit}

and_assoc : (a b c : Bool) → (a && (b && c)) ≡ ((a && b) && c)
and_assoc true b c = refl
and_assoc false b c = refl

and_end : (b : Bool) → (b && true) ≡ b
and_end true = refl
and_end false = refl

pub below_last : (n : ℕ) (rs : List ℕ) (r : ℕ) → all_below n (rs ++ r ∷ []) ≡ (all_below n rs && nat_lt r n)
below_last n [] r = and_end (nat_lt r n)
below_last n (s ∷ rs) r = ap (λ b. nat_lt s n && b) (below_last n rs r) ∙ and_assoc (nat_lt s n) (all_below n rs) (nat_lt r n)

pub no_results : (fn target : Function) (to : List ℕ) → results_fit fn target to [] ≡ true
no_results fn target [] = refl
no_results fn target (r ∷ rs) = refl
