-- The trees of files that agree are formed.
use Rattle.std.proofs.Common.{◌≡◌, ℕ, zero, suc, ◌<◌, inl, inr, List, [], ◌∷◌, Bool, true, Some, take, length, refl, sym, ap, ◌∙◌, subst, arith}
use Rattle.std.specs.Prelude.{map, codes, slice_get, ◌&&◌, ◌||◌}
use Rattle.std.specs.List.{list_all}
use Rattle.std.proofs.lemmas.Bool.{and_parts, or_cases}
use Rattle.argot_tree.specs.declared.tree.Tree.{Tree}
use Rattle.argot_typed.specs.declared.program.Packages.{Packages}
use Rattle.argot_typed.specs.declared.program.Use.{Use}
use Rattle.argot_names_rules.specs.Lists.{In}
use Rattle.argot_names_rules.specs.Files.{SourceFiles}
use Rattle.argot_names_rules.specs.Packages.{HasPath}
use Rattle.argot_names_rules.specs.Agreeing.{is_numbered, is_module_file, is_kept, is_go_file, is_assembly, is_open_path, library_path, IsRead, IsPassed, Agrees}
use Rattle.argot_names_rules.specs.Loaded.{count_nodes, IsLoaded}
use Rattle.argot_names_imports.proofs.Lists.{get_two, get_map, get_below, get_there}
use Rattle.argot_names_imports.proofs.FirstFiles.{same_text}
use Rattle.argot_files.specs.Forms.{IsFormed}
use Rattle.argot_files.proofs.Forming.{formed}
use Rattle.argot_names_subset_file.proofs.Counting.{count_below}
use Rattle.argot_names_subset.specs.Known.{AreFormed}
use Rattle.argot_names_subset.proofs.NodesThere.{stands_there}
use Rattle.argot_names_subset.proofs.Bridging.{some_is, tree_of}

nothing_formed : IsFormed []
nothing_formed =
    record {
      links = record { ahead = λ k c n e l. absurd (cc); within = λ k c n e l. absurd (cc); once = λ j k c m n low e f x y. absurd (cc); apart = λ k c n e f g. absurd (cc) };
      ascends = λ j k m n low e f. absurd (cc);
      apart = λ j k m n low e f full. absurd (cc);
      one_block = λ token a b c d x y. let there = x.around.block.is.spans.there in absurd (cc);
      one_key = λ p a b x y. let there = x.above_there in absurd (cc);
    }

read_formed : (h : SourceFiles) (file : ℕ) (tree : Tree) → IsRead h file → slice_get h.trees file ≡ Some tree → IsFormed tree.nodes
read_formed h file tree r e = subst (λ (t : Tree). IsFormed t.nodes) (some_is r.tree tree (sym r.has_tree ∙ e)) (formed r.tree r.lexed.tokens r.spells_tree)

passed_formed : (h : SourceFiles) (file : ℕ) (tree : Tree) → IsPassed h file → slice_get h.trees file ≡ Some tree → IsFormed tree.nodes
passed_formed h file tree r e = subst (λ (t : Tree). IsFormed t.nodes) (some_is r.tree tree (sym r.has_tree ∙ e)) (subst IsFormed (sym r.no_nodes) nothing_formed)

all_at : (p : List ℕ → Bool) (xs : List (List ℕ)) (k : ℕ) (x : List ℕ) → list_all p xs ≡ true → slice_get xs k ≡ Some x → p x ≡ true
all_at p [] k x h e = absurd (cc)
all_at p (y ∷ ys) zero x h e = subst (λ z. p z ≡ true) (some_is y x e) (and_parts (p y) (list_all p ys) h).0
all_at p (y ∷ ys) (suc k) x h e = all_at p ys k x (and_parts (p y) (list_all p ys) h).1 e

pub agreed_formed : (h : SourceFiles) → Agrees h → AreFormed h.trees
agreed_formed h agrees file tree e = go (get_there h.sources.paths file (omega (arith, get_below h.trees file tree e, agrees.trees)))
  where
    by_kind : (path : List ℕ) → HasPath h file path → is_numbered path ≡ true → IsFormed tree.nodes
    by_kind path there is =
        elim (or_cases (is_module_file path) (is_kept path || is_assembly path && is_open_path path) is) [
          | inl x ↦ passed_formed h file tree (agrees.module_file file (subst (HasPath h file) (same_text path (codes "go.mod") x) there)) e
          | inr y ↦ elim (or_cases (is_kept path) (is_assembly path && is_open_path path) y) [
            | inl x ↦ read_formed h file tree (agrees.go_files file path there (and_parts (is_go_file path) _ x).0) e
            | inr x ↦ passed_formed h file tree (agrees.assembly_files file path there (and_parts (is_assembly path) (is_open_path path) x).0).1 e
          ]
        ]

    go : (path : List ℕ) × HasPath h file path → IsFormed tree.nodes
    go (path, there) =
        elim (get_two agrees.files (map library_path agrees.library) file path (sym (ap (λ ps. slice_get ps file) agrees.paths) ∙ there)) [
          | inl f ↦ by_kind path there (all_at is_numbered agrees.files file path agrees.numbered f)
          | inr f ↦
              let m = get_map library_path agrees.library f.0 path f.2 in
              read_formed h file tree (agrees.texts file m.0 (f.0, m.1) (subst (HasPath h file) (sym m.2) there)).1 e
        ]

take_whole : (trees : List Tree) → take (length trees) trees ≡ trees
take_whole [] = refl
take_whole (x ∷ trees) = ap (λ ts. x ∷ ts) (take_whole trees)

-- the number of a node in use stands before the end
pub use_within : (h : SourceFiles) (main : List ℕ) (p : Packages) → IsLoaded h main p → (u : Use) → In u p.uses → u.node < count_nodes h.trees
use_within h main p is u i =
    let x = is.uses.sound u i in
    let t = tree_of h x.file x.node (stands_there h x.home x.file x.node x.meant x.stands) in
    let low = count_below h.trees x.file (length h.trees) t.0 t.1 (get_below h.trees x.file t.0 t.1) in
    omega (arith, x.node_is, t.2, low, ap count_nodes (take_whole h.trees))

pub count_whole : (trees : List Tree) (n : ℕ) → n ≡ count_nodes (take (length trees) trees) → n ≡ count_nodes trees
count_whole trees n e = e ∙ ap count_nodes (take_whole trees)
