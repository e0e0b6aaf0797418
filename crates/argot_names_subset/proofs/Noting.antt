-- What is added of one file of a package.
use Rattle.std.proofs.Common.{◌≡◌, ℕ, ◌<◌, List, Bool, true, Option, Some, None, take, length, sym, ap, ◌∙◌, subst, arith}
use Rattle.std.specs.Prelude.{slice_get, option_map}
use Rattle.argot_tree.specs.declared.tree.Tree.{Tree}
use Rattle.argot_names_rules.specs.Lists.{In}
use Rattle.argot_names_rules.specs.Files.{SourceFiles, nodes_in, bytes_of, read_of, directives_of}
use Rattle.argot_names_rules.specs.Packages.{IsFileOf, in_folder, in_library}
use Rattle.argot_names_rules.specs.Loaded.{count_nodes}
use Rattle.argot_names_rules.specs.declared.package_key.PackageKey.{PackageKey}
use Rattle.argot_names_rules.specs.declared.flag.Feature.{Feature}
use Rattle.argot_names_imports.proofs.Lists.{get_below, get_there}
use Rattle.argot_files.specs.Reading.{file_of}
use Rattle.argot_names_subset_file.specs.declared.spots.Spot.{Spot}
use Rattle.argot_names_subset_file.specs.declared.view.View.{View}
use Rattle.argot_names_subset_file.specs.Spots.{Adds}
use Rattle.argot_names_subset_file.specs.Files.{IsInFile}
use Rattle.argot_names_subset_file.proofs.Adding.{adds_as}
use Rattle.argot_names_subset.specs.declared.known.Known.{Known}
use Rattle.argot_names_subset.specs.Inside.{IsInside}
use Rattle.argot_names_subset.specs.Meanings.{AreMeant, AreTables, IsPathOf}
use Rattle.argot_names_subset.specs.Known.{handed_of, IsKnown}
use Rattle.argot_names_subset.specs.Files.{IsPart, AddsSource}
use Rattle.argot_names_subset.proofs.NodesThere.{IsThere, stands_there}
use Rattle.argot_names_subset.proofs.Views.{inside, in_file}

-- the view is of the file with this tree
pub record IsViewOf (k : Known) (file : ℕ) (tree : Tree) (path : Option (List ℕ)) (view : View) : Type 0 where
  pub number_is : view.number ≡ file
  pub file_is : view.file.now ≡ file_of (bytes_of (handed_of k) file) (read_of (handed_of k) file).tokens tree.nodes
  pub entries_are : view.entries.now ≡ k.entries.now
  pub path_is : option_map (λ p. p.now) view.path ≡ path
  pub named_is : IsPart k.named.now (count_nodes (take file k.files.trees.now)) (length tree.nodes) view.named.now
  pub typed_is : IsPart k.typed.now (count_nodes (take file k.files.trees.now)) (length tree.nodes) view.typed.now

-- the parts of the tables are those of the file
part_meant : (h : SourceFiles) (homes : List PackageKey) (home : PackageKey) (file : ℕ) (tree : Tree) (features named : List (Option Feature)) (types typed : List Bool) → slice_get h.trees file ≡ Some tree → AreTables h homes features types → In home homes → IsFileOf h home file
    → IsPart features (count_nodes (take file h.trees)) (length tree.nodes) named → IsPart types (count_nodes (take file h.trees)) (length tree.nodes) typed → AreMeant h home file named typed
part_meant h homes home file tree features named types typed there tables among of named_is typed_is =
    record {
      named = λ node feature. (
        λ e.
            let p = (named_is node (Some feature)).0 e in
            let n = node_at node p.0 in
            (tables.named home file node n.0 feature among of n.1).0 p.1,
        λ f.
            let n = stands_there h home file node _ f.stands in
            (named_is node (Some feature)).1 (below node n, (tables.named home file node n.0 feature among of n.1).1 f),
      );
      typed = λ node. (
        λ e.
            let p = (typed_is node true).0 e in
            let n = node_at node p.0 in
            (tables.typed home file node n.0 among of n.1).0 p.1,
        λ t.
            let n = stands_there h home file node t.meant t.stands in
            (typed_is node true).1 (below node n, (tables.typed home file node n.0 among of n.1).1 t),
      );
    }
  where
    nodes_are : (read_of h file).nodes ≡ tree.nodes
    nodes_are = ap nodes_in there

    node_at : (node : ℕ) → node < length tree.nodes → IsThere (read_of h file).nodes node
    node_at node low = let n = get_there tree.nodes node low in (n.0, ap (λ ns. slice_get ns node) nodes_are ∙ n.1)

    below : (node : ℕ) → IsThere (read_of h file).nodes node → node < length tree.nodes
    below node n = get_below tree.nodes node n.0 (sym (ap (λ ns. slice_get ns node) nodes_are) ∙ n.1)

pub source_added : (k : Known) (file : ℕ) (tree : Tree) (path : Option (List ℕ)) (view : View) (directives : List ℕ) (old new : List Spot) → IsViewOf k file tree path view → slice_get k.files.trees.now file ≡ Some tree
    → directives ≡ directives_of (handed_of k) file → Adds (IsInFile view directives) old new → AddsSource k file path old new
source_added k file tree path view directives old new v there directives_are a = λ homes home is.
    let h = handed_of k in
    let read_is : view.file.now ≡ read_of h file = v.file_is ∙ ap (file_of (bytes_of h file) (read_of h file).tokens) (sym (ap nodes_in there)) in
    let meant = part_meant h homes home file tree k.named.now view.named.now k.typed.now view.typed.now there is.tables is.among is.of v.named_is v.typed_is in
    let path_is : IsPathOf h home (option_map (λ p. p.now) view.path) = subst (IsPathOf h home) (sym v.path_is) is.path_of in
    adds_as (IsInFile view directives) (IsInside h k.entries.now home file) old new
    (inside h k.entries.now home file view directives v.number_is read_is directives_are v.entries_are meant path_is)
    (in_file h k.entries.now home file view directives v.number_is read_is directives_are v.entries_are meant path_is) a

-- a file of a package has a tree
pub has_tree : (k : Known) (home : PackageKey) (file : ℕ) → IsKnown k → IsFileOf (handed_of k) home file → slice_get k.files.trees.now file ≡ None → ⊥
has_tree k home file known of none =
    let l = below home of in
    let t = get_there k.files.trees.now file (omega (arith, l, known.as_many)) in
    let there = t.1 in
    absurd (cc)
  where
    below : (home : PackageKey) → IsFileOf (handed_of k) home file → file < length k.files.sources.now.paths
    below _ (in_folder path there ends in_it) = get_below k.files.sources.now.paths file path there
    below _ (in_library there) = get_below k.files.sources.now.paths file _ there
