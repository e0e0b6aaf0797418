-- Tables of names: for each name the number of the first place where it stands.
use Rattle.std.specs.Prelude.{◌≡◌, ℕ, ◌+◌, List, [], ◌∷◌, length, Bool, false, nat_lt, Option, Some, None, if◌then◌else◌}
use Rattle.std.specs.HashMap.{HashMap, get_by}
use Rattle.std.specs.Str.{bytes_eq}
use denote.Ref.{Bor}
use Rattle.argot_first_form.specs.declared.steps.Step.{Step}
use Rattle.argot_first_form.specs.declared.functions.Function.{Function}
use Rattle.argot_first_form.specs.Form.{among, declared, declared_by}

-- the number of the first that passes, where the list begins with the number i
abbrev pub place : {A : Type 0} → (A → Bool) → ℕ → List A → Option ℕ
place p i [] = None
place p i (x ∷ xs) = if p x then Some i else place p (i + 1) xs

-- what a table has at a name
abbrev pub number_at : {S : Type 0} → HashMap (Bor (List ℕ)) ℕ S → List ℕ → Option ℕ
number_at table q = get_by (λ k. bytes_eq q k.now) table

-- the table has the names of the functions from the number i on
abbrev pub HasFunctions : {S : Type 0} → HashMap (Bor (List ℕ)) ℕ S → ℕ → List Function → Type 0
HasFunctions table i functions = (q : List ℕ) → number_at table q ≡ place (λ f. bytes_eq f.name q) i functions

-- the table has the variables that the steps from the number i on declare
abbrev pub HasSteps : {S : Type 0} → HashMap (Bor (List ℕ)) ℕ S → ℕ → List Step → Type 0
HasSteps table i steps = (q : List ℕ) → number_at table q ≡ place (λ s. among (declared_by s.action) q) i steps

-- the table has these names from the number i on
abbrev pub HasNames : {S : Type 0} → HashMap (Bor (List ℕ)) ℕ S → ℕ → List (List ℕ) → Type 0
HasNames table i names = (q : List ℕ) → number_at table q ≡ place (λ n. bytes_eq n q) i names

abbrev pub is_below : Option ℕ → ℕ → Bool
is_below None n = false
is_below (Some i) n = nat_lt i n

-- by the table, which of these first steps declares a variable
abbrev pub Sees : {S : Type 0} → HashMap (Bor (List ℕ)) ℕ S → List Step → Type 0
Sees table before = (q : List ℕ) → among (declared before) q ≡ is_below (number_at table q) (length before)
