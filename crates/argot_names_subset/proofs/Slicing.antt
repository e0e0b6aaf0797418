-- Parts of lists.
use Rattle.std.proofs.Common.{◌≡◌, ℕ, zero, suc, ◌+◌, ◌<◌, List, [], ◌∷◌, Some, take, drop, refl, sym, ◌∙◌, subst, arith}
use Rattle.std.specs.Prelude.{slice_get}
use Rattle.argot_tree.specs.declared.tree.Tree.{Tree}
use Rattle.argot_names_rules.specs.Loaded.{count_nodes}
use Rattle.argot_names_imports.proofs.Lists.{get_below, get_there}
use Rattle.argot_names_subset_file.specs.Tables.{AreBases}
use Rattle.argot_names_subset.specs.Files.{IsPart}

pub get_drop : {A : Type 0} (xs : List A) (from k : ℕ) → slice_get (drop from xs) k ≡ slice_get xs (from + k)
get_drop xs zero k = let at : k ≡ 0 + k = omega arith in subst (λ j. slice_get xs k ≡ slice_get xs j) at refl
get_drop [] (suc from) k = refl
get_drop (x ∷ xs) (suc from) k = let at : suc (from + k) ≡ suc from + k = omega arith in subst (λ j. slice_get (drop from xs) k ≡ slice_get (x ∷ xs) j) at (get_drop xs from k)

pub get_take : {A : Type 0} (xs : List A) (n k : ℕ) (x : A) → slice_get (take n xs) k ≡ Some x → (k < n) × (slice_get xs k ≡ Some x)
get_take xs zero k x e = absurd (cc)
get_take [] (suc n) k x e = absurd (cc)
get_take (y ∷ xs) (suc n) zero x e = (omega arith, e)
get_take (y ∷ xs) (suc n) (suc k) x e = let h = get_take xs n k x e in (omega (arith, h.0), h.1)

pub take_get : {A : Type 0} (xs : List A) (n k : ℕ) (x : A) → k < n → slice_get xs k ≡ Some x → slice_get (take n xs) k ≡ Some x
take_get xs zero k x l e = absurd (omega (arith, l))
take_get [] (suc n) k x l e = absurd (cc)
take_get (y ∷ xs) (suc n) zero x l e = e
take_get (y ∷ xs) (suc n) (suc k) x l e = take_get xs n k x (omega (arith, l)) e

-- as many items from one on
pub is_part : {A : Type 0} (table part : List A) (from count : ℕ) → part ≡ take count (drop from table) → IsPart table from count part
is_part table part from count e k x = (
  λ f.
      let h = get_take (drop from table) count k x (subst (λ xs. slice_get xs k ≡ Some x) e f) in
      (h.0, sym (get_drop table from k) ∙ h.1),
  λ h. subst (λ xs. slice_get xs k ≡ Some x) (sym e) (take_get (drop from table) count k x h.0 (get_drop table from k ∙ h.1)),
)

-- those of a file, by the number of its first node
pub part_at : {A : Type 0} (trees : List Tree) (tree : Tree) (bases : List ℕ) (table part : List A) (file count from : ℕ) → AreBases trees bases → slice_get trees file ≡ Some tree → ((n : ℕ) → slice_get bases file ≡ Some n → from ≡ n) → part ≡ take count (drop from table)
    → IsPart table (count_nodes (take file trees)) count part
part_at trees tree bases table part file count from are there base e =
    let b = get_there bases file (omega (arith, get_below trees file tree there, are.as_long)) in
    let at : from ≡ count_nodes (take file trees) = base b.0 b.1 ∙ are.each file b.0 b.1 in
    subst (λ n. IsPart table n count part) at (is_part table part from count e)
