-- The table of uses, by the numbers of nodes, as it is filled.
use Rattle.std.specs.Prelude.{◌≡◌, ◌⊎◌, ℕ, ◌<◌, List, Option, Some, None, length, slice_get}
use Rattle.argot_tree.specs.declared.node_kind.NodeKind.TheVariants as nodes
use Rattle.argot_typed.specs.declared.program.Decl.{Decl}
use Rattle.argot_typed.specs.declared.program.Use.{Use}
use Rattle.argot_names_rules.specs.declared.package_key.PackageKey.{PackageKey}
use Rattle.argot_names_rules.specs.Files.{SourceFiles}
use Rattle.argot_names_rules.specs.Lists.{IsListOf}
use Rattle.argot_names_rules.specs.Loaded.{IsUse, count_nodes}
use Rattle.argot_names_rules.specs.Nodes.{Is}
use Rattle.argot_files.specs.Parents.{put}
use Rattle.argot_names_scopes.specs.declared.file.FileNames.{FileNames}
use Rattle.argot_names_imports.specs.declared.reached.Reached.{Reached}
use Rattle.argot_names_imports.specs.Reached.{homes_of}

-- the table with the declaration at the node, where there is one
abbrev pub noted : List (Option ℕ) → Option ℕ → Option ℕ → List (Option ℕ)
noted table at None = table
noted table at (Some decl) = put table at (Some decl)

abbrev pub use_by : ℕ → ℕ → Use
use_by node decl = record { node = node; decl = decl }

-- the table has uses, and those of the nodes that have been gone over
pub record IsFilled (h : SourceFiles) (r : Reached) (decls : List Decl) (Gone : (file node : ℕ) → Type 0) (table : List (Option ℕ)) : Type 0 where
  pub as_long : length table ≡ count_nodes h.trees
  pub sound : (node decl : ℕ) → slice_get table node ≡ Some (Some decl) → IsUse h (homes_of h r) decls (use_by node decl)
  pub complete : (use_ : Use) (is : IsUse h (homes_of h r) decls use_) → Gone is.file is.node → slice_get table use_.node ≡ Some (Some use_.decl)

-- the files before a number
abbrev pub FilesBefore : ℕ → (file node : ℕ) → Type 0
FilesBefore count file node = file < count

-- an item before a number has the node
pub record IsAmong {A : Type 0} (node_of : A → ℕ) (items : List A) (count node : ℕ) : Type 0 where
  pub place : ℕ
  pub item : A
  pub below : place < count
  pub there : slice_get items place ≡ Some item
  pub node_is : node_of item ≡ node

-- the nodes of a file of so many lone names, members and names that come into blocks
abbrev pub SeenIn : FileNames → (lone members brought node : ℕ) → Type 0
SeenIn n lone members brought node =
    (IsAmong (λ l. l.node) n.bindings.looked.items lone node × (Is n.tree.now.nodes node nodes.QualifiedType → ⊥))
    ⊎ (IsAmong (λ d. d.node) n.bindings.dotted.items members node ⊎ IsAmong (λ b. b.node) n.bindings.brought.items brought node)

-- and those of the files before it
abbrev pub Seen : FileNames → (one lone members brought file node : ℕ) → Type 0
Seen n one lone members brought file node = (file < one) ⊎ ((file ≡ one) × SeenIn n lone members brought node)

-- all uses, by node
pub record IsTable (h : SourceFiles) (homes : List PackageKey) (decls : List Decl) (count : ℕ) (table : List (Option ℕ)) : Type 0 where
  pub sound : (node decl : ℕ) → slice_get table node ≡ Some (Some decl) → IsUse h homes decls (use_by node decl)
  pub complete : (use_ : Use) → IsUse h homes decls use_ → (use_.node < count) × (slice_get table use_.node ≡ Some (Some use_.decl))

-- those of nodes below a number
abbrev pub UsesBelow : SourceFiles → List PackageKey → List Decl → ℕ → List Use → Type 0
UsesBelow h homes decls count uses = IsListOf (λ (a b : Use). a.node < b.node) (λ (u : Use). IsUse h homes decls u × (u.node < count)) uses
