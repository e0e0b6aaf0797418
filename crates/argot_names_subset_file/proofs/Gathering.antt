-- The spots of a file, and their order.
use Rattle.std.proofs.Common.{◌≡◌, ℕ, ◌+◌, ◌⊎◌, inl, inr, List, [], Some, get_or, refl, sym, ◌∙◌, subst, arith}
use Rattle.std.specs.Prelude.{slice_get}
use Rattle.std.specs.List.Sorted.{IsStrictlySortedBy}
use Rattle.std.proofs.lemmas.Map.Keys.{Less-from_sorted}
use Rattle.argot_names_rules.specs.Lists.{In, IsListOf}
use Rattle.argot_names_rules.specs.Lists
use Rattle.argot_names_imports.proofs.Lists.{get_below, nothing_in}
use Rattle.argot_names_rules.specs.Files.{Place}
use Rattle.argot_names_rules.specs.declared.flag.Feature.{Feature}
use Rattle.argot_files.proofs.Listed.{some_is, get_is}
use Rattle.argot_names_subset_file.specs.declared.spots.Spot.{Spot}
use Rattle.argot_names_subset_file.specs.declared.view.View.{View}
use Rattle.argot_names_subset_file.specs.Spots.{IsSpotted, Adds, IsSpotBefore}
use Rattle.argot_names_subset_file.specs.Files.{IsInFile, import_, directive, node, IsImportSome, IsDirectedSome, IsAtSome}
use Rattle.argot_names_subset_file.proofs.Order.{compare, ascends}
use Rattle.argot_names_subset_file.proofs.Adding.{Claim, adds_as, adds_both}

pub in_file : (view : View) (directives : List ℕ) (a b c d : List Spot) → Adds (IsImportSome view) a b → Adds (IsDirectedSome view.file.now.bytes view.number directives) b c → Adds (IsAtSome view) c d → Adds (IsInFile view directives) a d
in_file view directives a b c d one two three =
    adds_as _ (IsInFile view directives) a d
    (λ f p h. elim h [ inl x ↦ elim x [ inl y ↦ import_ y | inr y ↦ directive y ] | inr x ↦ node x ])
    (λ f p h. split f p h)
    (adds_both _ _ a c d (adds_both _ _ a b c one two) three)
  where
    split : (f : Feature) (p : Place) → IsInFile view directives f p → (IsImportSome view f p ⊎ IsDirectedSome view.file.now.bytes view.number directives f p) ⊎ IsAtSome view f p
    split f p (import_ h) = inl (inl h)
    split f p (directive h) = inl (inr h)
    split f p (node h) = inr h

get_or_is : (xs : List Spot) (k : ℕ) (x d : Spot) → slice_get xs k ≡ Some x → get_or xs k d ≡ x
get_or_is xs k x d e = some_is (get_or xs k d) x (sym (get_is xs k d (get_or xs k d) (get_below xs k x e) refl) ∙ e)

-- keys in the order of the set
pub set_ordered : (keys : List Spot) → IsStrictlySortedBy compare keys → (k : ℕ) (a b : Spot) → slice_get keys k ≡ Some a → slice_get keys (k + 1) ≡ Some b → IsSpotBefore a b
set_ordered keys sorted k a b e f =
    let less = Less-from_sorted compare keys k (k + 1) a sorted (omega arith) (get_below keys (k + 1) b f) in
    ascends a b (sym (λ i. compare (get_or_is keys k a a e i) (get_or_is keys (k + 1) b a f i)) ∙ less)

-- what was added to an empty set, in order
pub gathered : (P : Claim) (old keys items : List Spot) → old ≡ [] → items ≡ keys → Lists.IsOrdered IsSpotBefore items → Adds P old keys → IsListOf IsSpotBefore (IsSpotted P) items
gathered P old keys items none same sorted a =
    record {
      ordered = sorted;
      sound = λ s i. elim (a.only s (subst (In s) same i)) [ inl j ↦ absurd (nothing_in s (subst (In s) none j)) | inr h ↦ h ];
      complete = λ s h. subst (In s) (sym same) (subst (λ t. In t keys) (sym h.is) (a.added h.feature h.place h.holds));
    }

pub ordered_items : (keys items : List Spot) → IsStrictlySortedBy compare keys → items ≡ keys → Lists.IsOrdered IsSpotBefore items
ordered_items keys items sorted same = subst (Lists.IsOrdered IsSpotBefore) (sym same) (set_ordered keys sorted)
