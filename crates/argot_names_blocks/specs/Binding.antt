-- The lists of what the nodes of a tree bring.
use Rattle.std.specs.Prelude.{◌≡◌, ℕ, List, Option, Some}
use Rattle.argot_tree.specs.declared.tree.TreeNode.{TreeNode}
use Rattle.argot_names_rules.specs.Bindings.{BindingKind, Specified, Defined, Received, Switched, Brings}
use Rattle.argot_names_blocks.specs.declared.binding.BindingKind.TheVariants as manners
use Rattle.argot_names_blocks.specs.declared.binding.Binding.{Binding}
use Rattle.argot_names_blocks.specs.declared.binding.BindingKind.{BindingKind as Written}

abbrev pub manner_of : Written → BindingKind
manner_of manners.Specified = Specified
manner_of manners.Defined = Defined
manner_of manners.Received = Received
manner_of manners.Switched = Switched

abbrev pub written_of : BindingKind → Written
written_of Specified = manners.Specified
written_of Defined = manners.Defined
written_of Received = manners.Received
written_of Switched = manners.Switched

-- the node brings this
abbrev pub IsBinding : List TreeNode → Binding → Type 0
IsBinding tree b = Brings tree (manner_of b.manner) b.node b.token b.opens b.closes b.from

-- exactly what node k brings, if anything
pub record IsBindingBy (tree : List TreeNode) (k : ℕ) (result : Option Binding) : Type 0 where
  pub sound : (b : Binding) → result ≡ Some b → (b.node ≡ k) × IsBinding tree b
  pub complete : (b : Binding) → b.node ≡ k → IsBinding tree b → result ≡ Some b
