-- Files that agree and are read, with the texts of the library behind them, agree as the calls on names want it.
use Rattle.std.proofs.Common.{◌≡◌, ℕ, ◌+◌, ◌-◌, ◌<◌, ◌≤◌, zero, suc, inl, inr, Bool, true, false, Option, Some, None, List, [], ◌∷◌, ◌++◌, length, refl, sym, ap, ◌∙◌, subst, arith}
use Rattle.std.specs.Prelude.{slice_get, map, codes, drop, nat_eq, ◌^◌, ◌&&◌, unwrap_or}
use Rattle.std.specs.List.{list_all, ends_with}
use Rattle.std.specs.Cmp.Lexicographic.{pointwise}
use Rattle.std.proofs.lemmas.List.{length-map, length-append}
use Rattle.argot_text.specs.declared.sources.Sources.{Sources}
use Rattle.argot_tree.specs.declared.lexed.Lexed.{Lexed}
use Rattle.argot_tree.specs.declared.tree.Tree.{Tree}
use Rattle.argot_tree.specs.Text.{SpellsText}
use Rattle.argot_stubs.specs.Stubs.{HasStub, errors, fmt, os, exec, strings, log, strconv, sync}
use Rattle.argot_names_rules.specs.Lists.{In}
use Rattle.argot_names_rules.specs.Files.{SourceFiles, bytes_of}
use Rattle.argot_names_rules.specs.Packages.{HasPath, IsFileOf, in_library}
use Rattle.argot_names_rules.specs.declared.package_key.PackageKey.{PackageKey}
use Rattle.argot_names_rules.specs.declared.package_key.PackageKey.TheVariants.{Library}
use Rattle.argot_names_imports.specs.Surveyed.{IsProper, folder, library}
use Rattle.argot_names_imports.proofs.ReachedFrom.{reached_proper}
use Rattle.argot_names_rules.specs.Agreeing.{is_go_file, is_assembly, is_numbered, library_path, PathBefore, IsRead, IsPassed, Agrees, HasLibrary}
use Rattle.argot_names_imports.specs.Reads.{handed, bytes_at}
use Rattle.argot_names_imports.proofs.Lists.{get_two, get_behind, get_before, get_below, get_there, get_map, map_get}
use Rattle.argot_names_imports.proofs.FirstFiles.{same_text}
use Rattle.argot_names_files.specs.Files.{Fits, AreFiles}
use Rattle.argot_names_files.specs.Reading.{HasTree, HasNothing, IsReading, AreReadings}
use Rattle.argot_names_files.specs.declared.folder.Folder.{Folder}
use Rattle.argot_names_files.specs.declared.folder.Part.{Part}
use Rattle.argot_names_files.specs.Library.{library_paths, IsText, IsFolder}
use Rattle.argot_names_files.proofs.Parts.{ArePut}

some_is : {A : Type 0} (x y : A) → Some x ≡ Some y → x ≡ y
some_is x y e = cc

-- an assembly file is no Go file
drop_more : (m : ℕ) (xs : List ℕ) → drop (suc m) xs ≡ drop 1 (drop m xs)
drop_more zero xs = refl
drop_more (suc m) [] = refl
drop_more (suc m) (x ∷ xs) = drop_more m xs

length_drop : (m : ℕ) (xs : List ℕ) → length (drop m xs) ≤ length xs - m
length_drop zero xs = omega arith
length_drop (suc m) [] = omega arith
length_drop (suc m) (x ∷ xs) = omega (arith, length_drop m xs)

end_is : (path needle : List ℕ) → ends_with nat_eq path needle ≡ true → drop (length path - length needle) path ≡ needle
end_is path needle e = sym (same_text needle (drop (length path - length needle) path) e)

two_ends : (path : List ℕ) (n : ℕ) → drop (n - 2) path ≡ codes ".s" → drop (n - 3) path ≡ codes ".go" → n ≡ length path → ⊥
two_ends path zero a b e = absurd (cc (a, b))
two_ends path (suc zero) a b e = absurd (cc (a, b))
two_ends path (suc (suc zero)) a b e = absurd (cc (a, b))
two_ends path (suc (suc (suc n))) a b e =
    let two : suc (suc (suc n)) - 2 ≡ suc n = omega arith in
    let three : suc (suc (suc n)) - 3 ≡ n = omega arith in
    let last : drop (suc n) path ≡ codes ".s" = subst (λ k. drop k path ≡ codes ".s") two a in
    let before : drop n path ≡ codes ".go" = subst (λ k. drop k path ≡ codes ".go") three b in
    let same : codes ".s" ≡ drop 1 (codes ".go") = sym last ∙ (drop_more n path ∙ ap (λ (xs : List ℕ). drop 1 xs) before) in
    absurd (omega (arith, some_is 46 103 (ap (λ (xs : List ℕ). slice_get xs 0) same)))

no_go : (path : List ℕ) → is_assembly path ≡ true → is_go_file path ≡ false
no_go path e = by_test (is_go_file path) refl
  where
    by_test : (b : Bool) → is_go_file path ≡ b → is_go_file path ≡ false
    by_test false t = t
    by_test true t = absurd (two_ends path (length path) (end_is path (codes ".s") e) (end_is path (codes ".go") t) refl)

-- no text of the library is numbered as a file
not_numbered : (k : ℕ) (path : List ℕ) → slice_get library_paths k ≡ Some path → is_numbered (library_path path) ≡ false
not_numbered zero path e = subst (λ p. is_numbered (library_path p) ≡ false) (some_is _ path e) refl
not_numbered (suc zero) path e = subst (λ p. is_numbered (library_path p) ≡ false) (some_is _ path e) refl
not_numbered (suc (suc zero)) path e = subst (λ p. is_numbered (library_path p) ≡ false) (some_is _ path e) refl
not_numbered (suc (suc (suc zero))) path e = subst (λ p. is_numbered (library_path p) ≡ false) (some_is _ path e) refl
not_numbered (suc (suc (suc (suc zero)))) path e = subst (λ p. is_numbered (library_path p) ≡ false) (some_is _ path e) refl
not_numbered (suc (suc (suc (suc (suc zero))))) path e = subst (λ p. is_numbered (library_path p) ≡ false) (some_is _ path e) refl
not_numbered (suc (suc (suc (suc (suc (suc zero)))))) path e = subst (λ p. is_numbered (library_path p) ≡ false) (some_is _ path e) refl
not_numbered (suc (suc (suc (suc (suc (suc (suc zero))))))) path e = subst (λ p. is_numbered (library_path p) ≡ false) (some_is _ path e) refl
not_numbered (suc (suc (suc (suc (suc (suc (suc (suc k)))))))) path e = absurd (cc (e))

not_assembly : (k : ℕ) (path : List ℕ) → slice_get library_paths k ≡ Some path → is_assembly (library_path path) ≡ false
not_assembly zero path e = subst (λ p. is_assembly (library_path p) ≡ false) (some_is _ path e) refl
not_assembly (suc zero) path e = subst (λ p. is_assembly (library_path p) ≡ false) (some_is _ path e) refl
not_assembly (suc (suc zero)) path e = subst (λ p. is_assembly (library_path p) ≡ false) (some_is _ path e) refl
not_assembly (suc (suc (suc zero))) path e = subst (λ p. is_assembly (library_path p) ≡ false) (some_is _ path e) refl
not_assembly (suc (suc (suc (suc zero)))) path e = subst (λ p. is_assembly (library_path p) ≡ false) (some_is _ path e) refl
not_assembly (suc (suc (suc (suc (suc zero))))) path e = subst (λ p. is_assembly (library_path p) ≡ false) (some_is _ path e) refl
not_assembly (suc (suc (suc (suc (suc (suc zero)))))) path e = subst (λ p. is_assembly (library_path p) ≡ false) (some_is _ path e) refl
not_assembly (suc (suc (suc (suc (suc (suc (suc zero))))))) path e = subst (λ p. is_assembly (library_path p) ≡ false) (some_is _ path e) refl
not_assembly (suc (suc (suc (suc (suc (suc (suc (suc k)))))))) path e = absurd (cc (e))

-- the library's paths are in order
in_order : (k : ℕ) (a b : List ℕ) → slice_get library_paths k ≡ Some a → slice_get library_paths (k + 1) ≡ Some b → PathBefore a b
in_order zero a b p q = subst (λ x. PathBefore x b) (some_is (codes "errors") a p) (subst (PathBefore (codes "errors")) (some_is (codes "fmt") b q) refl)
in_order (suc zero) a b p q = subst (λ x. PathBefore x b) (some_is (codes "fmt") a p) (subst (PathBefore (codes "fmt")) (some_is (codes "log") b q) refl)
in_order (suc (suc zero)) a b p q = subst (λ x. PathBefore x b) (some_is (codes "log") a p) (subst (PathBefore (codes "log")) (some_is (codes "os") b q) refl)
in_order (suc (suc (suc zero))) a b p q = subst (λ x. PathBefore x b) (some_is (codes "os") a p) (subst (PathBefore (codes "os")) (some_is (codes "os/exec") b q) refl)
in_order (suc (suc (suc (suc zero)))) a b p q = subst (λ x. PathBefore x b) (some_is (codes "os/exec") a p) (subst (PathBefore (codes "os/exec")) (some_is (codes "strconv") b q) refl)
in_order (suc (suc (suc (suc (suc zero))))) a b p q = subst (λ x. PathBefore x b) (some_is (codes "strconv") a p) (subst (PathBefore (codes "strconv")) (some_is (codes "strings") b q) refl)
in_order (suc (suc (suc (suc (suc (suc zero)))))) a b p q = subst (λ x. PathBefore x b) (some_is (codes "strings") a p) (subst (PathBefore (codes "strings")) (some_is (codes "sync") b q) refl)
in_order (suc (suc (suc (suc (suc (suc (suc k))))))) a b p q =
    let below : suc (suc (suc (suc (suc (suc (suc k)))))) + 1 < 8 = get_below library_paths (suc (suc (suc (suc (suc (suc (suc k)))))) + 1) b q in
    absurd (omega (arith, below))

-- a text of the library has one of its paths
known_path : (path text : List ℕ) → HasStub path text → In path library_paths
known_path path text (errors e _) = (0, ap (λ x. Some x) (sym e))
known_path path text (fmt e _) = (1, ap (λ x. Some x) (sym e))
known_path path text (log e _) = (2, ap (λ x. Some x) (sym e))
known_path path text (os e _) = (3, ap (λ x. Some x) (sym e))
known_path path text (exec e _) = (4, ap (λ x. Some x) (sym e))
known_path path text (strconv e _) = (5, ap (λ x. Some x) (sym e))
known_path path text (strings e _) = (6, ap (λ x. Some x) (sym e))
known_path path text (sync e _) = (7, ap (λ x. Some x) (sym e))

not_module : (p : List ℕ) → codes "go.mod" ≡ library_path p → ⊥
not_module p e = absurd (omega (arith, some_is 103 115 (ap (λ (xs : List ℕ). slice_get xs 0) e)))

texts_are : (ps : List (List ℕ)) (parts : List Part) → length parts ≡ length ps → ((j : ℕ) (path : List ℕ) (part : Part) → slice_get ps j ≡ Some path → slice_get parts j ≡ Some part → IsText path part) → map (λ (p : Part). p.path) parts ≡ map library_path ps
texts_are [] [] e are = refl
texts_are [] (part ∷ parts) e are = absurd (omega (arith, e))
texts_are (p ∷ ps) [] e are = absurd (omega (arith, e))
texts_are (p ∷ ps) (part ∷ parts) e are =
    ap (λ x. x ∷ map (λ (q : Part). q.path) parts) (are 0 p part refl refl).path_is
    ∙ ap (λ xs. library_path p ∷ xs) (texts_are ps parts (omega (arith, e)) (λ j path one a b. are (suc j) path one a b))

all_true : (ps : List (List ℕ)) (k : ℕ) (path : List ℕ) → list_all is_numbered ps ≡ true → slice_get ps k ≡ Some path → is_numbered path ≡ true
all_true [] k path e at = absurd (cc (at))
all_true (p ∷ ps) zero path e at = subst (λ x. is_numbered x ≡ true) (some_is p path at) (first (is_numbered p) (list_all is_numbered ps) e)
  where
    first : (a b : Bool) → (a && b) ≡ true → a ≡ true
    first true b h = refl
    first false b h = absurd (cc (h))
all_true (p ∷ ps) (suc k) path e at = all_true ps k path (second (is_numbered p) (list_all is_numbered ps) e) at
  where
    second : (a b : Bool) → (a && b) ≡ true → b ≡ true
    second true b h = h
    second false b h = absurd (cc (h))

-- a package of the library has a text
stub_of : (path : List ℕ) (home : PackageKey) → IsProper home → home ≡ Library path → (text : List ℕ) × HasStub path text
stub_of path _ folder e = absurd (cc (e))
stub_of path _ (library {path = q} {text = t} stub) e = (t, subst (λ p. HasStub p t) (same q path e) stub)
  where
    same : (q path : List ℕ) → Library q ≡ Library path → q ≡ path
    same q path e = cc

module _ (s : Sources) (read : List Lexed) (parsed : List Tree) (f : Folder) (files : AreFiles s) (are : AreReadings s (length s.paths) read parsed) (put : ArePut s.paths s.contents read parsed 8 f.sources.paths f.sources.contents f.lexed.items f.trees.items) where
  abbrev h : SourceFiles
  h = handed f.sources f.lexed.items f.trees.items

  abbrev count : ℕ
  count = length s.paths

  -- a file of the folder, or a text
  data IsOne (file : ℕ) (path : List ℕ) : Type 0 where
    old : slice_get s.paths file ≡ Some path → IsOne file path
    new : (j : ℕ) (p : List ℕ) (part : Part) → file ≡ count + j → slice_get library_paths j ≡ Some p → slice_get put.parts j ≡ Some part → path ≡ library_path p → IsOne file path

  one_of : (file : ℕ) (path : List ℕ) → HasPath h file path → IsOne file path
  one_of file path at =
      elim (get_two s.paths (map (λ (p : Part). p.path) put.parts) file path (subst (λ xs. slice_get xs file ≡ Some path) put.paths_are at)) [
        | inl there ↦ old there
        | inr behind ↦
            let part = get_map (λ (p : Part). p.path) put.parts behind.0 path behind.2 in
            let p = get_there library_paths behind.0 (omega (arith, get_below put.parts behind.0 part.0 part.1, put.many)) in
            new behind.0 p.0 part.0 behind.1 p.1 part.1 (sym part.2 ∙ (put.are behind.0 p.0 part.0 p.1 part.1).path_is)
      ]

  old_bytes : (file : ℕ) → file < count → bytes_of h file ≡ bytes_at s file
  old_bytes file below =
      let b = get_there s.contents file (omega (arith, below, files.agree.as_many)) in
      ap (λ o. unwrap_or o []) (subst (λ xs. slice_get xs file ≡ Some b.0) (sym put.contents_are) (get_before s.contents (map (λ (p : Part). p.bytes) put.parts) file b.0 b.1) ∙ sym b.1)

  new_bytes : (j : ℕ) (part : Part) → slice_get put.parts j ≡ Some part → bytes_of h (count + j) ≡ part.bytes
  new_bytes j part at =
      ap (λ o. unwrap_or o [])
      (subst (λ xs. slice_get xs (count + j) ≡ Some part.bytes) (sym put.contents_are)
      (subst (λ n. slice_get (s.contents ++ map (λ (p : Part). p.bytes) put.parts) (n + j) ≡ Some part.bytes) (sym files.agree.as_many)
      (get_behind s.contents (map (λ (p : Part). p.bytes) put.parts) j part.bytes (map_get (λ (p : Part). p.bytes) put.parts j part at))))

  old_lexed : (file : ℕ) (l : Lexed) → slice_get read file ≡ Some l → slice_get h.lexed file ≡ Some l
  old_lexed file l at = subst (λ xs. slice_get xs file ≡ Some l) (sym put.lexed_are) (get_before read (map (λ (p : Part). p.lexed) put.parts) file l at)

  old_tree : (file : ℕ) (t : Tree) → slice_get parsed file ≡ Some t → slice_get h.trees file ≡ Some t
  old_tree file t at = subst (λ xs. slice_get xs file ≡ Some t) (sym put.trees_are) (get_before parsed (map (λ (p : Part). p.tree) put.parts) file t at)

  old_reading : (file : ℕ) (path : List ℕ) → slice_get s.paths file ≡ Some path → (l : Lexed) × ((t : Tree) × ((slice_get h.lexed file ≡ Some l) × ((slice_get h.trees file ≡ Some t) × IsReading path (bytes_of h file) l t)))
  old_reading file path at =
      let below = get_below s.paths file path at in
      let l = get_there read file (omega (arith, below, are.lexed_many)) in
      let t = get_there parsed file (omega (arith, below, are.trees_many)) in
      (l.0, (t.0, (old_lexed file l.0 l.1, (old_tree file t.0 t.1, subst (λ b. IsReading path b l.0 t.0) (sym (old_bytes file below)) (are.each file path l.0 t.0 at l.1 t.1)))))

  old_read : (file : ℕ) (path : List ℕ) → slice_get s.paths file ≡ Some path → is_go_file path ≡ true → IsRead h file
  old_read file path at go =
      let r = old_reading file path at in
      let is = r.1.1.1.1.go go in
      record { lexed = r.0; tree = r.1.0; has_lexed = r.1.1.0; has_tree = r.1.1.1.0; spells_text = is.spells_text; spells_tree = is.spells_tree }

  old_passed : (file : ℕ) (path : List ℕ) → slice_get s.paths file ≡ Some path → is_go_file path ≡ false → IsPassed h file
  old_passed file path at go =
      let r = old_reading file path at in
      let is = r.1.1.1.1.other go in
      record { lexed = r.0; tree = r.1.0; has_lexed = r.1.1.0; has_tree = r.1.1.1.0; no_tokens = is.no_tokens; no_directives = is.no_directives; no_nodes = is.no_nodes }

  new_read : (j : ℕ) (p : List ℕ) (part : Part) → slice_get library_paths j ≡ Some p → slice_get put.parts j ≡ Some part → IsRead h (count + j)
  new_read j p part there at =
      let is = put.are j p part there at in
      record {
        lexed = part.lexed;
        tree = part.tree;
        has_lexed =
            subst (λ xs. slice_get xs (count + j) ≡ Some part.lexed) (sym put.lexed_are)
            (subst (λ n. slice_get (read ++ map (λ (q : Part). q.lexed) put.parts) (n + j) ≡ Some part.lexed) are.lexed_many
            (get_behind read (map (λ (q : Part). q.lexed) put.parts) j part.lexed (map_get (λ (q : Part). q.lexed) put.parts j part at)));
        has_tree =
            subst (λ xs. slice_get xs (count + j) ≡ Some part.tree) (sym put.trees_are)
            (subst (λ n. slice_get (parsed ++ map (λ (q : Part). q.tree) put.parts) (n + j) ≡ Some part.tree) are.trees_many
            (get_behind parsed (map (λ (q : Part). q.tree) put.parts) j part.tree (map_get (λ (q : Part). q.tree) put.parts j part at)));
        spells_text = subst (SpellsText part.lexed) (sym (new_bytes j part at)) is.has.spells_text;
        spells_tree = is.has.spells_tree;
      }

  paths_are : f.sources.paths ≡ s.paths ++ map library_path library_paths
  paths_are = put.paths_are ∙ ap (λ xs. s.paths ++ xs) (texts_are library_paths put.parts put.many put.are)

  many : (n : ℕ) → length s.paths + 8 ≡ n → length f.sources.paths ≡ n
  many n e = ap (λ (xs : List (List ℕ)). length xs) paths_are ∙ (length-append s.paths (map library_path library_paths) ∙ e)

  short : (file : ℕ) → length (bytes_of h file) < 2 ^ 32 - 1
  short file = by_get (slice_get f.sources.contents file) refl
    where
      by_get : (o : Option (List ℕ)) → slice_get f.sources.contents file ≡ o → length (bytes_of h file) < 2 ^ 32 - 1
      by_get None e = subst (λ b. length b < 2 ^ 32 - 1) (sym (ap (λ o. unwrap_or o []) e)) (omega arith)
      by_get (Some b) e =
          subst (λ x. length x < 2 ^ 32 - 1) (sym (ap (λ o. unwrap_or o []) e))
          (elim (get_two s.contents (map (λ (p : Part). p.bytes) put.parts) file b (subst (λ xs. slice_get xs file ≡ Some b) put.contents_are e)) [
            | inl there ↦
                let p = get_there s.paths file (omega (arith, get_below s.contents file b there, files.agree.as_many)) in
                (files.agree.fitting file p.0 b p.1 there).short
            | inr behind ↦
                let part = get_map (λ (p : Part). p.bytes) put.parts behind.0 b behind.2 in
                let p = get_there library_paths behind.0 (omega (arith, get_below put.parts behind.0 part.0 part.1, put.many)) in
                subst (λ x. length x < 2 ^ 32 - 1) part.2 (put.are behind.0 p.0 part.0 p.1 part.1).short
          ])

  go_files : (file : ℕ) (path : List ℕ) → HasPath h file path → is_go_file path ≡ true → IsRead h file
  go_files file path at go = by_one (one_of file path at)
    where
      by_one : IsOne file path → IsRead h file
      by_one (old there) = old_read file path there go
      by_one (new j p part is there has path_is) = subst (IsRead h) (sym is) (new_read j p part there has)

  texts : (file : ℕ) (path : List ℕ) → In path library_paths → HasPath h file (library_path path) → HasStub path (bytes_of h file) × IsRead h file
  texts file path known at = by_one (one_of file (library_path path) at)
    where
      by_one : IsOne file (library_path path) → HasStub path (bytes_of h file) × IsRead h file
      by_one (old there) = absurd (cc (all_true s.paths file (library_path path) files.agree.numbered there, not_numbered known.0 path known.1))
      by_one (new j p part is there has path_is) =
          subst (λ n. HasStub path (bytes_of h n) × IsRead h n) (sym is)
          (subst (λ q. HasStub q (bytes_of h (count + j))) (same p path path_is) (subst (HasStub p) (sym (new_bytes j part has)) (put.are j p part there has).text), new_read j p part there has)
        where
          same : (p path : List ℕ) → library_path path ≡ library_path p → p ≡ path
          same p path e = cc

  module_file : (file : ℕ) → HasPath h file (codes "go.mod") → IsPassed h file
  module_file file at = by_one (one_of file (codes "go.mod") at)
    where
      by_one : IsOne file (codes "go.mod") → IsPassed h file
      by_one (old there) = old_passed file (codes "go.mod") there refl
      by_one (new j p part is there has path_is) = absurd (not_module p path_is)

  assembly_files : (file : ℕ) (path : List ℕ) → HasPath h file path → is_assembly path ≡ true → (bytes_of h file ≡ []) × IsPassed h file
  assembly_files file path at assembly = by_one (one_of file path at)
    where
      by_one : IsOne file path → (bytes_of h file ≡ []) × IsPassed h file
      by_one (old there) =
          let below = get_below s.paths file path there in
          let b = get_there s.contents file (omega (arith, below, files.agree.as_many)) in
          (old_bytes file below ∙ (ap (λ o. unwrap_or o []) b.1 ∙ (files.agree.fitting file path b.0 there b.1).empty assembly), old_passed file path there (no_go path assembly))
      by_one (new j p part is there has path_is) = absurd (cc (subst (λ x. is_assembly x ≡ true) path_is assembly, not_assembly j p there))

  library_there : (path text : List ℕ) → HasStub path text → (file : ℕ) × IsFileOf h (Library path) file
  library_there path text stub =
      let k = known_path path text stub in
      let at : slice_get (map library_path library_paths) k.0 ≡ Some (library_path path) = map_get library_path library_paths k.0 path k.1 in
      (count + k.0, in_library (subst (λ xs. slice_get xs (count + k.0) ≡ Some (library_path path)) (sym paths_are) (get_behind s.paths (map library_path library_paths) k.0 (library_path path) at)))

  has_library : (main : List ℕ) → HasLibrary h main
  has_library main path reached =
      let stub = stub_of path (Library path) (reached_proper h main (Library path) reached) refl in
      library_there path stub.0 stub.1

  pub is_folder : f.sources.assembly ≡ s.assembly → f.sources.«module» ≡ s.«module» → f.sources.go_line ≡ s.go_line → IsFolder s f
  is_folder assembly module_is go_line =
      record {
        paths = paths_are;
        module_is = module_is;
        go_line = go_line;
        agrees = record {
          files = s.paths;
          library = library_paths;
          paths = paths_are;
          numbered = files.agree.numbered;
          files_ordered = files.agree.ordered;
          library_ordered = in_order;
          contents = many_put s.contents (map (λ (p : Part). p.bytes) put.parts) f.sources.contents put.contents_are (omega (arith, files.agree.as_many)) (length-map put.parts (λ (p : Part). p.bytes));
          lexed = many_put read (map (λ (p : Part). p.lexed) put.parts) f.lexed.items put.lexed_are are.lexed_many (length-map put.parts (λ (p : Part). p.lexed));
          trees = many_put parsed (map (λ (p : Part). p.tree) put.parts) f.trees.items put.trees_are are.trees_many (length-map put.parts (λ (p : Part). p.tree));
          assembly = assembly ∙ files.assembly;
          short = short;
          go_files = go_files;
          texts = texts;
          module_file = module_file;
          assembly_files = assembly_files;
        };
        library = has_library;
      }
    where
      many_put : {A : Type 0} (xs ys zs : List A) → zs ≡ xs ++ ys → length xs ≡ count → length ys ≡ length put.parts → length zs ≡ length f.sources.paths
      many_put {A = A} xs ys zs e a b = ap (λ (l : List A). length l) e ∙ (length-append xs ys ∙ (omega (arith, a, b, put.many) ∙ sym (many (count + 8) refl)))
