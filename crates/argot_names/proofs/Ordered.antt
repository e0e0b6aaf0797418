-- The paths of the library are in order.
use Rattle.std.proofs.Common.{◌≡◌, ℕ, zero, suc, ◌+◌, ◌<◌, inl, inr, List, [], ◌∷◌, ◌++◌, Bool, true, false, Some, refl, sym, ap, ◌∙◌, subst, arith}
use Rattle.std.specs.Prelude.{slice_get, if◌then◌else◌}
use Rattle.std.proofs.lemmas.Bool.{cases_eq}
use Rattle.argot_names_rules.specs.Lists.{IsListOf}
use Rattle.argot_names_rules.specs.Agreeing.{PathBefore}
use Rattle.argot_names_imports.specs.declared.survey.Survey.{Survey}
use Rattle.argot_names_imports.proofs.Lists.{list_none, list_same, list_more, get_below}
use Rattle.argot_names.specs.Paths.{library_paths}
use Rattle.argot_names.specs.Naming.{NamesAt, IsNamedPath}

-- a path comes before all of a list
data AreBehind (path : List ℕ) : List (List ℕ) → Type 0 where
  none : AreBehind path []
  more : {other : List ℕ} {others : List (List ℕ)} → PathBefore path other → AreBehind path others → AreBehind path (other ∷ others)

data AreInOrder : List (List ℕ) → Type 0 where
  done : AreInOrder []
  next : {path : List ℕ} {others : List (List ℕ)} → AreBehind path others → AreInOrder others → AreInOrder (path ∷ others)

some_is : {A : Type 0} (x y : A) → Some x ≡ Some y → x ≡ y
some_is x y e = cc

behind_get : (path : List ℕ) (others : List (List ℕ)) (k : ℕ) (b : List ℕ) → AreBehind path others → slice_get others k ≡ Some b → PathBefore path b
behind_get path _ k b none e = absurd (cc)
behind_get path _ zero b (more {other = o} h hs) e = subst (PathBefore path) (some_is o b e) h
behind_get path _ (suc k) b (more {others = os} h hs) e = behind_get path os k b hs e

order_get : (paths : List (List ℕ)) (j k : ℕ) (a b : List ℕ) → AreInOrder paths → j < k → slice_get paths j ≡ Some a → slice_get paths k ≡ Some b → PathBefore a b
order_get _ j k a b done l e f = absurd (cc)
order_get _ zero zero a b (next h hs) l e f = absurd (omega arith)
order_get _ zero (suc k) a b (next {path = p} {others = os} h hs) l e f = subst (λ x. PathBefore x b) (some_is p a e) (behind_get p os k b h f)
order_get _ (suc j) zero a b (next h hs) l e f = absurd (omega arith)
order_get _ (suc j) (suc k) a b (next {others = os} h hs) l e f = order_get os j k a b hs (omega arith) e f

library_ordered : AreInOrder library_paths
library_ordered =
    next (more refl (more refl (more refl (more refl (more refl (more refl (more refl none)))))))
    (next (more refl (more refl (more refl (more refl (more refl (more refl none))))))
    (next (more refl (more refl (more refl (more refl (more refl none)))))
    (next (more refl (more refl (more refl (more refl none))))
    (next (more refl (more refl (more refl none)))
    (next (more refl (more refl none))
    (next (more refl none)
    (next none done)))))))

-- a path of the library before the k-th, that is named
pub record IsNamedBelow (s : Survey) (count : ℕ) (path : List ℕ) : Type 0 where
  pub at : ℕ
  pub below : at < count
  pub known : slice_get library_paths at ≡ Some path
  pub number : ℕ
  pub names : NamesAt s path number

abbrev pub AreNamedBelow : Survey → ℕ → List (List ℕ) → Type 0
AreNamedBelow s count paths = IsListOf PathBefore (IsNamedBelow s count) paths

pub named_none : (s : Survey) → AreNamedBelow s 0 []
named_none s = list_none PathBefore (IsNamedBelow s 0) (λ p h. absurd (omega (arith, h.below)))

pub named_more : (s : Survey) (count : ℕ) (path : List ℕ) (paths new : List (List ℕ)) (named : Bool) → AreNamedBelow s count paths → slice_get library_paths count ≡ Some path
    → (named ≡ true → (k : ℕ) × NamesAt s path k) → (named ≡ false → (k : ℕ) → NamesAt s path k → ⊥) → new ≡ paths ++ (if named then path ∷ [] else []) → AreNamedBelow s (count + 1) new
named_more s count path paths new true are there is_named not_named e =
    subst (AreNamedBelow s (count + 1)) (sym e)
    (list_more PathBefore (IsNamedBelow s count) (IsNamedBelow s (count + 1)) paths path are
    (let n = is_named refl in record { at = count; below = omega arith; known = there; number = n.0; names = n.1 })
    (λ y h. order_get library_paths h.at count y path library_ordered h.below h.known there)
    (λ y h. record { at = h.at; below = omega (arith, h.below); known = h.known; number = h.number; names = h.names })
    (λ y h. elim (cases_eq h.at count) [
      | inl same ↦ inr (some_is y path (sym h.known ∙ ap (slice_get library_paths) same ∙ there))
      | inr other ↦ inl (record { at = h.at; below = omega (arith, h.below, other); known = h.known; number = h.number; names = h.names })
    ]))
named_more s count path paths new false are there is_named not_named e =
    subst (AreNamedBelow s (count + 1)) (sym (e ∙ append_nil paths))
    (list_same PathBefore (IsNamedBelow s count) (IsNamedBelow s (count + 1)) paths are
    (λ y h. record { at = h.at; below = omega (arith, h.below); known = h.known; number = h.number; names = h.names })
    (λ y h. elim (cases_eq h.at count) [
      | inl same ↦ absurd (not_named refl h.number (subst (λ p. NamesAt s p h.number) (some_is y path (sym h.known ∙ ap (slice_get library_paths) same ∙ there)) h.names))
      | inr other ↦ record { at = h.at; below = omega (arith, h.below, other); known = h.known; number = h.number; names = h.names }
    ]))
  where
    append_nil : (xs : List (List ℕ)) → xs ++ [] ≡ xs
    append_nil [] = refl
    append_nil (x ∷ xs) = ap (λ ys. x ∷ ys) (append_nil xs)

pub named_all : (s : Survey) (paths : List (List ℕ)) → AreNamedBelow s 8 paths → IsListOf PathBefore (IsNamedPath s) paths
named_all s paths are =
    list_same PathBefore (IsNamedBelow s 8) (IsNamedPath s) paths are
    (λ y h. record { known = (h.at, h.known); number = h.number; names = h.names })
    (λ y h. record { at = h.known.0; below = get_below library_paths h.known.0 y h.known.1; known = h.known.1; number = h.number; names = h.names })
