-- Lists of what is tested.
use Rattle.std.proofs.Common.{◌≡◌, List, [], ◌∷◌, ◌||◌, map, Bool, refl, ap}
use Rattle.std.specs.List.{list_any}

-- a test of what each item is mapped to
pub any_of_map : {A B : Type 0} (f : B → Bool) (g : A → B) (xs : List A) → list_any f (map g xs) ≡ list_any (λ x. f (g x)) xs
any_of_map f g [] = refl
any_of_map f g (x ∷ xs) = ap (λ b. f (g x) || b) (any_of_map f g xs)
