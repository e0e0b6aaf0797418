-- A key that is put into an ordered list.
use Rattle.std.proofs.Common.{◌≡◌, ℕ, zero, suc, ◌⊎◌, inl, inr, List, [], ◌∷◌, Some, refl, sym, subst}
use Rattle.std.specs.Prelude.{slice_get}
use Rattle.std.specs.Ordering.{match_ordering}
use Rattle.std.specs.declared.cmp.Ordering.{Ordering}
use Rattle.std.specs.declared.cmp.Ordering.TheVariants.{Less, Equal, Greater}
use Rattle.std.specs.BTreeSet.{insert_key}
use Rattle.argot_names_rules.specs.Lists.{In}

module _ {K : Type 0} where
  -- the first item, or one of the others
  pub in_first : (x : K) (xs : List K) → In x (x ∷ xs)
  in_first x xs = (0, refl)

  pub in_rest : (x y : K) (xs : List K) → In y xs → In y (x ∷ xs)
  in_rest x y xs i = (suc i.0, i.1)

  pub in_cases : (x y : K) (xs : List K) → In y (x ∷ xs) → (y ≡ x) ⊎ In y xs
  in_cases x y xs i = go i.0 i.1
    where
      go : (k : ℕ) → slice_get (x ∷ xs) k ≡ Some y → (y ≡ x) ⊎ In y xs
      go zero e = let same : x ≡ y = cc in inl (sym same)
      go (suc k) e = inr (k, e)

  module _ (cmp : K → K → Ordering) (exact : (a b : K) → cmp a b ≡ Equal → a ≡ b) where
    pub insert_kept : (ks : List K) (k t : K) → In t ks → In t (insert_key cmp ks k)
    insert_kept [] k t i = in_rest k t [] i
    insert_kept (x ∷ xs) k t i = go (λ j. insert_kept xs k t j) (cmp k x)
      where
        go : (In t xs → In t (insert_key cmp xs k)) → (o : Ordering) → In t (match_ordering o (k ∷ x ∷ xs) (x ∷ xs) (x ∷ insert_key cmp xs k))
        go more Less = in_rest k t (x ∷ xs) i
        go more Equal = i
        go more Greater = elim (in_cases x t xs i) [ inl e ↦ subst (λ y. In t (y ∷ insert_key cmp xs k)) e (in_first t (insert_key cmp xs k)) | inr j ↦ in_rest x t (insert_key cmp xs k) (more j) ]

    pub insert_added : (ks : List K) (k : K) → In k (insert_key cmp ks k)
    insert_added [] k = in_first k []
    insert_added (x ∷ xs) k = go (insert_added xs k) (cmp k x) refl
      where
        go : In k (insert_key cmp xs k) → (o : Ordering) → cmp k x ≡ o → In k (match_ordering o (k ∷ x ∷ xs) (x ∷ xs) (x ∷ insert_key cmp xs k))
        go more Less e = in_first k (x ∷ xs)
        go more Equal e = subst (λ y. In k (y ∷ xs)) (exact k x e) (in_first k xs)
        go more Greater e = in_rest x k (insert_key cmp xs k) more

    pub insert_only : (ks : List K) (k t : K) → In t (insert_key cmp ks k) → In t ks ⊎ (t ≡ k)
    insert_only [] k t i = elim (in_cases k t [] i) [ inl e ↦ inr e | inr j ↦ inl j ]
    insert_only (x ∷ xs) k t i = go (λ j. insert_only xs k t j) (cmp k x) i
      where
        go : (In t (insert_key cmp xs k) → In t xs ⊎ (t ≡ k)) → (o : Ordering) → In t (match_ordering o (k ∷ x ∷ xs) (x ∷ xs) (x ∷ insert_key cmp xs k)) → In t (x ∷ xs) ⊎ (t ≡ k)
        go more Less i = elim (in_cases k t (x ∷ xs) i) [ inl e ↦ inr e | inr j ↦ inl j ]
        go more Equal i = inl i
        go more Greater i =
            elim (in_cases x t (insert_key cmp xs k) i) [
              | inl e ↦ inl (subst (λ y. In t (y ∷ xs)) e (in_first t xs))
              | inr j ↦ elim (more j) [ inl m ↦ inl (in_rest x t xs m) | inr e ↦ inr e ]
            ]
