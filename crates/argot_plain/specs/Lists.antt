-- Words on lists and paths that the definitions share.
use Rattle.std.specs.Prelude.{◌≡◌, ℕ, ◌==◌, ◌||◌, ◌&&◌, Bool, true, false, List, [], ◌∷◌, Option, Some, None, slice_get, if◌then◌else◌}
use Rattle.argot_text.specs.declared.path.PathStep.{PathStep}
use Rattle.argot_text.specs.declared.path.PathStep.TheVariants.{Field, Element, Key, Value, Channel, Capture}

-- x is in the list
pub data In {A : Type 0} (x : A) : List A → Type 0 where
  here : {y : A} {ys : List A} → x ≡ y → In x (y ∷ ys)
  there : {y : A} {ys : List A} → In x ys → In x (y ∷ ys)

-- no item stands twice in the list
abbrev pub IsDistinct : {A : Type 0} → List A → Type 0
IsDistinct {A} xs = (a b : ℕ) (x : A) → slice_get xs a ≡ Some x → slice_get xs b ≡ Some x → a ≡ b

-- whether n is in the list
abbrev pub member : ℕ → List ℕ → Bool
member n [] = false
member n (m ∷ ms) = n == m || member n ms

abbrev pub same_step : PathStep → PathStep → Bool
same_step (Field a) (Field b) = a == b
same_step Element Element = true
same_step Key Key = true
same_step Value Value = true
same_step Channel Channel = true
same_step (Capture a) (Capture b) = a == b
same_step _ _ = false

abbrev pub same_path : List PathStep → List PathStep → Bool
same_path [] [] = true
same_path (s ∷ p) (t ∷ q) = same_step s t && same_path p q
same_path _ _ = false

-- whether the path is in the list
abbrev pub has_path : List PathStep → List (List PathStep) → Bool
has_path q [] = false
has_path q (p ∷ ps) = same_path q p || has_path q ps

-- what is left of the second path below the first
abbrev pub below : List PathStep → List PathStep → Option (List PathStep)
below [] q = Some q
below (s ∷ p) [] = None
below (s ∷ p) (t ∷ q) = if same_step s t then below p q else None

-- whether the second path is the first or leads on from it
abbrev pub begins_with : List PathStep → List PathStep → Bool
begins_with [] q = true
begins_with (s ∷ p) [] = false
begins_with (s ∷ p) (t ∷ q) = same_step s t && begins_with p q

-- whether one of the paths is this one or leads on from it
abbrev pub leads_on : List PathStep → List (List PathStep) → Bool
leads_on p [] = false
leads_on p (q ∷ qs) = begins_with p q || leads_on p qs

-- whether the path leads through the elements of an array or slice
abbrev pub has_element : List PathStep → Bool
has_element [] = false
has_element (Element ∷ p) = true
has_element (_ ∷ p) = has_element p

-- whether the path leads through something of which an object has many: elements, keys, values or what a channel holds
abbrev pub has_many : List PathStep → Bool
has_many [] = false
has_many (Field n ∷ p) = has_many p
has_many (Capture n ∷ p) = has_many p
has_many (_ ∷ p) = true

-- the path without its first step
abbrev pub without_first : List PathStep → List PathStep
without_first [] = []
without_first (s ∷ p) = p
