-- The receivers of methods, by the list that stands before the name.
use Rattle.std.specs.Prelude.{ℕ, List, []}
use Rattle.argot_tree.specs.declared.node_kind.NodeKind.TheVariants as nodes
use Rattle.argot_tree.specs.declared.token.Token.{Token}
use Rattle.argot_tree.specs.declared.tree.TreeNode.{TreeNode}
use Rattle.argot_tree.specs.declared.entries.Entry.{Entry}
use Rattle.argot_names_rules.specs.Files.{SourceFile}
use Rattle.argot_names_rules.specs.Nodes.{Spans, IsOf, IsFirstChild, IsNext, IsChild, is_params}
use Rattle.argot_names_rules.specs.Subset.{wraps_receiver, HasType, HasBase, HasEntry, ReceiverName}

-- the type of the first parameter of a list
pub record IsListType (tree : List TreeNode) (list type_ : ℕ) : Type 0 where
  pub from : ℕ
  pub to : ℕ
  pub param : ℕ
  pub is_list : IsOf tree list is_params from to
  pub first : IsFirstChild tree list param
  pub has : HasType tree param type_

-- the token of a type's name, parentheses and stars left out
pub data IsBase (tree : List TreeNode) : (node token : ℕ) → Type 0 where
  name : {node token last : ℕ} → Spans tree node nodes.TypeName token last → IsBase tree node token
  wrapped : {node inner at last token : ℕ} → IsOf tree node wraps_receiver at last → IsFirstChild tree node inner → IsBase tree inner token → IsBase tree node token

-- the name of the type of a list's first parameter; none where it is no name
pub data IsListName (f : SourceFile) (list : ℕ) : List ℕ → Type 0 where
  named : {type_ : ℕ} {name : List ℕ} → IsListType f.nodes list type_ → HasBase f type_ name → IsListName f list name
  nameless : {type_ : ℕ} → IsListType f.nodes list type_ → ((name : List ℕ) → HasBase f type_ name → ⊥) → IsListName f list []

-- a list before the name has a receiver for which there is no entry
pub record IsWithout (f : SourceFile) (entries : List Entry) (path name : List ℕ) (list : ℕ) : Type 0 where
  pub receiver : List ℕ
  pub has : IsListName f list receiver
  pub none : HasEntry entries path receiver name → ⊥

-- some list before the name of a declaration has one
pub record HasWithout (f : SourceFile) (entries : List Entry) (path name : List ℕ) (decl : ℕ) : Type 0 where
  pub list : ℕ
  pub under : IsChild f.nodes decl list
  pub without : IsWithout f entries path name list

-- the node is this one, or stands behind it below the same parent
pub data IsBehind (tree : List TreeNode) (from : ℕ) : ℕ → Type 0 where
  here : IsBehind tree from from
  behind : {before child : ℕ} → IsBehind tree from before → IsNext tree before child → IsBehind tree from child

-- a function or method for one of whose receivers there is no entry
pub record LacksEntry (f : SourceFile) (entries : List Entry) (path name : List ℕ) (decl : ℕ) : Type 0 where
  pub receiver : List ℕ
  pub has : ReceiverName f decl receiver
  pub none : HasEntry entries path receiver name → ⊥
