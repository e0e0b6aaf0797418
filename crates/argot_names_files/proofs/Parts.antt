-- Texts of the library put behind the files, one at a time.
use Rattle.std.proofs.Common.{◌≡◌, ℕ, ◌+◌, ◌<◌, ◌≤◌, zero, suc, inl, inr, List, [], ◌∷◌, ◌++◌, length, Some, refl, sym, ap, ◌∙◌, subst, arith}
use Rattle.std.specs.Prelude.{slice_get, map}
use Rattle.argot_text.specs.declared.sources.Sources.{Sources}
use Rattle.argot_tree.specs.declared.lexed.Lexed.{Lexed}
use Rattle.argot_tree.specs.declared.tree.Tree.{Tree}
use Rattle.argot_names_imports.proofs.Lists.{get_either, get_below}
use Rattle.argot_names_files.specs.declared.reading.Readings.{Readings}
use Rattle.argot_names_files.specs.declared.folder.Part.{Part}
use Rattle.argot_names_files.specs.Library.{library_paths, IsText}

-- the first texts, so many, stand behind the files
pub record ArePut (files : List (List ℕ)) (bytes : List (List ℕ)) (read : List Lexed) (parsed : List Tree) (k : ℕ) (paths : List (List ℕ)) (contents : List (List ℕ)) (lexed : List Lexed) (trees : List Tree) : Type 0 where
  pub parts : List Part
  pub many : length parts ≡ k
  pub are : (j : ℕ) (path : List ℕ) (part : Part) → slice_get library_paths j ≡ Some path → slice_get parts j ≡ Some part → IsText path part
  pub paths_are : paths ≡ files ++ map (λ (p : Part). p.path) parts
  pub contents_are : contents ≡ bytes ++ map (λ (p : Part). p.bytes) parts
  pub lexed_are : lexed ≡ read ++ map (λ (p : Part). p.lexed) parts
  pub trees_are : trees ≡ parsed ++ map (λ (p : Part). p.tree) parts

append_none : {A : Type 0} (xs : List A) → xs ++ [] ≡ xs
append_none [] = refl
append_none (x ∷ xs) = ap (λ ys. x ∷ ys) (append_none xs)

pub none_put : (files bytes : List (List ℕ)) (read : List Lexed) (parsed : List Tree) → ArePut files bytes read parsed 0 files bytes read parsed
none_put files bytes read parsed =
    record {
      parts = [];
      many = refl;
      are = λ j path part a b. absurd (cc (b));
      paths_are = sym (append_none files);
      contents_are = sym (append_none bytes);
      lexed_are = sym (append_none read);
      trees_are = sym (append_none parsed);
    }

longer : {A : Type 0} (xs : List A) (x : A) → length (xs ++ x ∷ []) ≡ length xs + 1
longer [] x = refl
longer (y ∷ xs) x = omega (arith, longer xs x)

map_more : {A B : Type 0} (f : A → B) (front : List B) (xs : List A) (x : A) → (front ++ map f xs) ++ f x ∷ [] ≡ front ++ map f (xs ++ x ∷ [])
map_more f [] [] x = refl
map_more f [] (y ∷ xs) x = ap (λ ys. f y ∷ ys) (map_more f [] xs x)
map_more f (z ∷ front) xs x = ap (λ ys. z ∷ ys) (map_more f front xs x)

some_is : {A : Type 0} (x y : A) → Some x ≡ Some y → x ≡ y
some_is x y e = cc

pub one_put : (files bytes : List (List ℕ)) (read : List Lexed) (parsed : List Tree) (k : ℕ) (paths contents : List (List ℕ)) (lexed : List Lexed) (trees : List Tree) (path : List ℕ) (part : Part) → ArePut files bytes read parsed k paths contents lexed trees → slice_get library_paths k ≡ Some path → IsText path part → ArePut files bytes read parsed (k + 1) (paths ++ part.path ∷ []) (contents ++ part.bytes ∷ []) (lexed ++ part.lexed ∷ []) (trees ++ part.tree ∷ [])
one_put files bytes read parsed k paths contents lexed trees path part so_far there is =
    record {
      parts = so_far.parts ++ part ∷ [];
      many = omega (arith, longer so_far.parts part, so_far.many);
      are = λ j p x at in_parts.
          elim (get_either so_far.parts part j x in_parts) [
            | inl old ↦ so_far.are j p x at old
            | inr last ↦
                let same : k ≡ j = sym (last.0 ∙ so_far.many) in
                subst (λ q. IsText q x) (some_is path p (sym there ∙ subst (λ i. slice_get library_paths i ≡ Some p) (sym same) at)) (subst (IsText path) (sym last.1) is)
          ];
      paths_are = ap (λ ys. ys ++ part.path ∷ []) so_far.paths_are ∙ map_more (λ (p : Part). p.path) files so_far.parts part;
      contents_are = ap (λ ys. ys ++ part.bytes ∷ []) so_far.contents_are ∙ map_more (λ (p : Part). p.bytes) bytes so_far.parts part;
      lexed_are = ap (λ ys. ys ++ part.lexed ∷ []) so_far.lexed_are ∙ map_more (λ (p : Part). p.lexed) read so_far.parts part;
      trees_are = ap (λ ys. ys ++ part.tree ∷ []) so_far.trees_are ∙ map_more (λ (p : Part). p.tree) parsed so_far.parts part;
    }
