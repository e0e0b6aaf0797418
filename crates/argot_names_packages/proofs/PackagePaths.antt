-- The import path of a folder.
use Rattle.std.proofs.Common.{◌≡◌, ◌≢◌, ℕ, List, [], ◌∷◌, ◌++◌, Bool, true, false, Option, Some, None, nat_eq, take, refl, sym, ap, ◌∙◌, subst, arith}
use Rattle.std.proofs.lemmas.Bool.{eqb-true}
use Rattle.std.specs.Prelude.{codes, option_map, ◌==◌, length}
use Rattle.std.specs.Borrow.{Bor}
use Rattle.std.specs.Cmp.Lexicographic.{pointwise}
use Rattle.argot_names_rules.specs.Packages.{FolderPath, handwritten}
use Rattle.argot_names_imports.specs.Candidates.{behind_of}
use Rattle.argot_names_imports.proofs.FirstFiles.{same_text, text_same}
use Rattle.argot_names_imports.proofs.Candidates.{behind_is, is_behind}
use Rattle.argot_names_packages.specs.Paths.{stubs_of}

pointwise_sym : (a b : List ℕ) → pointwise nat_eq a b ≡ pointwise nat_eq b a
pointwise_sym a b = both (pointwise nat_eq a b) (pointwise nat_eq b a) (λ e. subst (λ x. pointwise nat_eq b x ≡ true) (sym (same_text a b e)) (text_same b)) (λ e. subst (λ x. pointwise nat_eq a x ≡ true) (sym (same_text b a e)) (text_same a))
  where
    both : (x y : Bool) → (x ≡ true → y ≡ true) → (y ≡ true → x ≡ true) → x ≡ y
    both true true f g = refl
    both false false f g = refl
    both true false f g = absurd (cc (f refl))
    both false true f g = absurd (cc (g refl))

stubs_behind : (folder : List ℕ) → behind_of (codes "stubs/") folder ≡ stubs_of folder
unfolding behind_of
stubs_behind folder = rw (pointwise_sym (take 6 folder) (codes "stubs/")) refl

pub stubs_front : (folder q : List ℕ) → stubs_of folder ≡ Some q → folder ≡ codes "stubs/" ++ q
stubs_front folder q e = behind_is (codes "stubs/") folder q (stubs_behind folder ∙ e)

pub stubs_none : (folder : List ℕ) → stubs_of folder ≡ None → (rest : List ℕ) → folder ≢ codes "stubs/" ++ rest
stubs_none folder none rest e = some_none (sym (is_behind (codes "stubs/") rest) ∙ ap (behind_of (codes "stubs/")) (sym e) ∙ stubs_behind folder ∙ none)
  where
    some_none : Some rest ≡ None → ⊥
    some_none e = cc

-- a folder below `stubs/` by what follows
pub below_stubs : (module_ folder q path : List ℕ) → stubs_of folder ≡ Some q → path ≡ q → FolderPath module_ folder path
below_stubs module_ folder q path e same = subst (FolderPath module_ folder) (sym same) (subst (λ f. FolderPath module_ f q) (sym (stubs_front folder q e)) (handwritten q))

pub map_some : (o : Option (Bor (List ℕ))) (x : Bor (List ℕ)) (f : Option (List ℕ)) → option_map (λ r. r.now) o ≡ f → o ≡ Some x → f ≡ Some x.now
map_some o x f e is = sym e ∙ ap (option_map (λ r. r.now)) is

pub map_none : (o : Option (Bor (List ℕ))) (f : Option (List ℕ)) → option_map (λ r. r.now) o ≡ f → o ≡ None → f ≡ None
map_none o f e is = sym e ∙ ap (option_map (λ r. r.now)) is

-- an empty text
pub no_length : (m : List ℕ) → (length m == 0) ≡ true → m ≡ []
no_length [] e = refl
no_length (x ∷ m) e = let l : length (x ∷ m) ≡ 0 = eqb-true (length (x ∷ m)) 0 e in absurd (omega (arith, l))

pub some_length : (m : List ℕ) → (length m == 0) ≡ false → m ≢ []
some_length [] e same = true_false e
  where
    true_false : true ≡ false → ⊥
    true_false e = cc
some_length (x ∷ m) e same = none same
  where
    none : x ∷ m ≡ [] → ⊥
    none e = cc
