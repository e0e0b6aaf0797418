-- Lists that grow by what one node after the other gives.
use Rattle.std.specs.Prelude.{◌≡◌, ℕ, ◌<◌, Bool, true, false, List, [], ◌∷◌, ◌++◌, Option, Some, None, length, slice_get}
use Rattle.argot_tree.specs.declared.tree.TreeNode.{TreeNode}
use Rattle.argot_names_rules.specs.Lists.{In, IsOrdered, IsListOf}
use Rattle.argot_names_rules.specs.PackageScope.{IsTopName}
use Rattle.argot_names_rules.specs.Uses.{IsLookup, IsQualified, IsKey, HasDotImport, IsInGeneric}
use Rattle.argot_names_blocks.specs.declared.bindings.Lookup.{Lookup}
use Rattle.argot_names_blocks.specs.declared.bindings.Bindings.{Bindings}
use Rattle.argot_names_blocks.specs.declared.lookup.QualifiedName.{QualifiedName}
use Rattle.argot_names_blocks.specs.declared.tops.TopName.{TopName}
use Rattle.argot_names_blocks.specs.Blocks.{AreBlocks}
use Rattle.argot_names_blocks.specs.Binding.{IsBinding}
use Rattle.argot_names_blocks.specs.Looking.{sort_of}

-- the list with the item behind it, where there is one
abbrev pub added : {A : Type 0} → List A → Option A → List A
added xs None = xs
added xs (Some x) = xs ++ x ∷ []

-- the items that the claim holds of at nodes before this number, by node
pub record ListsUpTo {A : Type 0} (node : A → ℕ) (Holds : A → Type 0) (k : ℕ) (xs : List A) : Type 0 where
  pub ordered : IsOrdered (λ (a b : A). node a < node b) xs
  pub sound : (x : A) → In x xs → Holds x × (node x < k)
  pub complete : (x : A) → Holds x → node x < k → In x xs

-- exactly the items that the claim holds of, by node
abbrev pub ListsAll : {A : Type 0} → (A → ℕ) → (A → Type 0) → List A → Type 0
ListsAll node Holds xs = IsListOf (λ a b. node a < node b) Holds xs

-- a name that is looked up, and whether it is a key
pub record IsSeen (tree : List TreeNode) (l : Lookup) : Type 0 where
  pub looked : IsLookup tree l.node l.token
  pub key : l.key ≡ true → IsKey tree l.node
  pub no_key : l.key ≡ false → IsKey tree l.node → ⊥

-- a member of a package, perhaps
abbrev pub IsMemberName : List TreeNode → QualifiedName → Type 0
IsMemberName tree d = IsQualified tree d.token d.member d.node

-- a name that is declared outside functions
abbrev pub IsTopDeclared : List TreeNode → TopName → Type 0
IsTopDeclared tree t = IsTopName tree (sort_of t.sort) t.node t.token

-- which tokens stand in declarations with type parameters
pub record AreGenerics (tree : List TreeNode) (generics : List Bool) : Type 0 where
  pub sound : (token : ℕ) → slice_get generics token ≡ Some true → IsInGeneric tree token
  pub complete : (token : ℕ) → slice_get generics token ≡ Some false → IsInGeneric tree token → ⊥

-- as far as nodes before this number go
pub record AreGenericsUpTo (tree : List TreeNode) (k : ℕ) (generics : List Bool) : Type 0 where
  pub sound : (token : ℕ) → slice_get generics token ≡ Some true → IsInGeneric tree token
  pub complete : (token : ℕ) → slice_get generics token ≡ Some false → (h : IsInGeneric tree token) → h.node < k → ⊥

-- a package is imported under a dot, or not
pub record TellsDot (tree : List TreeNode) (dot : Bool) : Type 0 where
  pub there : dot ≡ true → HasDotImport tree
  pub none : dot ≡ false → HasDotImport tree → ⊥

-- the blocks of a file, and what its nodes bring and look up
pub record AreBindings (tree : List TreeNode) (b : Bindings) : Type 0 where
  pub blocks : AreBlocks tree b.blocks.items
  pub brought : ListsAll (λ x. x.node) (IsBinding tree) b.brought.items
  pub tops : ListsAll (λ x. x.node) (IsTopDeclared tree) b.tops.items
  pub looked : ListsAll (λ x. x.node) (IsSeen tree) b.looked.items
  pub dotted : ListsAll (λ x. x.node) (IsMemberName tree) b.dotted.items
  pub generics : AreGenerics tree b.generics.items
  pub as_long : (k : ℕ) (n : TreeNode) → slice_get tree k ≡ Some n → n.token < length b.generics.items
  pub dot : TellsDot tree b.dot
