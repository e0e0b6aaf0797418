-- Names that come into the blocks of functions (Go specification: Declarations and scope).
use Rattle.std.specs.Prelude.{◌≡◌, ◌≢◌, ◌+◌, ◌<◌, ℕ, Bool, true, false, List, codes}
use Rattle.argot_tree.specs.declared.node_kind.NodeKind.{NodeKind}
use Rattle.argot_tree.specs.declared.node_kind.NodeKind.TheVariants as nodes
use Rattle.argot_tree.specs.declared.tree.TreeNode.{TreeNode}
use Rattle.argot_names_rules.specs.Files.{SourceFile, text_at}
use Rattle.argot_names_rules.specs.Nodes.{Spans, IsOf, IsChild, IsNext}
use Rattle.argot_names_rules.specs.Blocks.{IsInnermost}

-- how a name comes into its block
pub data BindingKind : Type 0 where
  -- by a declaration of constants, variables or a type
  Specified : BindingKind
  -- by `:=`
  Defined : BindingKind
  -- as a receiver, a parameter or a result
  Received : BindingKind
  -- as the name of a type switch
  Switched : BindingKind

-- constants and variables, whose names stand together
abbrev pub specifies_values : NodeKind → Bool
specifies_values nodes.ConstSpec = true
specifies_values nodes.VarSpec = true
specifies_values _ = false

abbrev pub specifies_type : NodeKind → Bool
specifies_type nodes.TypeSpec = true
specifies_type nodes.AliasSpec = true
specifies_type _ = false

-- functions, methods and function literals
abbrev pub has_signature : NodeKind → Bool
has_signature nodes.FuncDecl = true
has_signature nodes.FuncLiteral = true
has_signature _ = false

-- parameters that have a name
abbrev pub names_parameter : NodeKind → Bool
names_parameter nodes.NamedParam = true
names_parameter nodes.LoneParam = true
names_parameter nodes.NamedVariadic = true
names_parameter _ = false

-- a name among the names of a node
pub record IsNameOf (tree : List TreeNode) (parent name token : ℕ) : Type 0 where
  pub list : ℕ
  pub from : ℕ
  pub to : ℕ
  pub last : ℕ
  pub under : IsChild tree parent list
  pub is_list : Spans tree list nodes.Names from to
  pub among : IsChild tree list name
  pub is_name : Spans tree name nodes.DeclName token last

-- a lone name on the left of the `:=` of a `range` clause or of a receive, whose expressions stand together
pub record IsOnLeft (tree : List TreeNode) (parent list name token : ℕ) : Type 0 where
  pub from : ℕ
  pub to : ℕ
  pub last : ℕ
  pub under : IsChild tree parent list
  pub is_list : Spans tree list nodes.Exprs from to
  pub among : IsChild tree list name
  pub is_name : Spans tree name nodes.NameUse token last

-- the receiver's list of a method, or a list of the signature
pub data HasParams (tree : List TreeNode) (node list : ℕ) : Type 0 where
  receiver : IsChild tree node list → HasParams tree node list
  handed : {signature token last : ℕ} → IsChild tree node signature → Spans tree signature nodes.Signature token last → IsChild tree signature list → HasParams tree node list

-- a named receiver, parameter or result of a function
pub record IsParameter (tree : List TreeNode) (node name token : ℕ) : Type 0 where
  pub list : ℕ
  pub entry : ℕ
  pub list_from : ℕ
  pub list_to : ℕ
  pub from : ℕ
  pub to : ℕ
  pub last : ℕ
  pub has : HasParams tree node list
  pub is_list : Spans tree list nodes.NamedParams list_from list_to
  pub among : IsChild tree list entry
  pub is_entry : IsOf tree entry names_parameter from to
  pub inside : IsChild tree entry name
  pub is_name : Spans tree name nodes.DeclName token last

-- where the colon of a clause stands
pub data HasColon (tree : List TreeNode) (clause opens closes : ℕ) : ℕ → Type 0 where
  of_case : {values from last : ℕ} → Spans tree clause nodes.Case opens closes → IsChild tree clause values → Spans tree values nodes.Values from last → HasColon tree clause opens closes (last + 1)
  of_default : Spans tree clause nodes.Default opens closes → HasColon tree clause opens closes (opens + 1)

-- a node brings the name at `token` into the block from `opens` to `closes`, in scope from the token `from` on. The name of
-- a type switch is brought by each clause
pub data Brings (tree : List TreeNode) : BindingKind → (node token opens closes from : ℕ) → Type 0 where
  -- from behind the specification
  value : {spec name token at last opens closes : ℕ} → IsOf tree spec specifies_values at last → IsNameOf tree spec name token → IsInnermost tree at opens closes → Brings tree Specified name token opens closes (last + 1)
  -- from its own name on
  type_ : {spec name token at last end opens closes : ℕ} → IsOf tree spec specifies_type at last → IsChild tree spec name → Spans tree name nodes.DeclName token end → IsInnermost tree at opens closes → Brings tree Specified name token opens closes token
  -- from behind the statement
  define : {stmt name token at last opens closes : ℕ} → Spans tree stmt nodes.Define at last → IsNameOf tree stmt name token → IsInnermost tree at opens closes → Brings tree Defined name token opens closes (last + 1)
  -- from behind the `range` clause, where the body begins
  range : {stmt list name token opens closes body from to : ℕ} → Spans tree stmt nodes.DefineRange opens closes → IsOnLeft tree stmt list name token → IsChild tree stmt body → Spans tree body nodes.Block from to → Brings tree Defined name token opens closes from
  -- from behind the receive, which stands next to the names
  receive : {clause list name token opens closes operand at last : ℕ} {kind : NodeKind} → Spans tree clause nodes.DefineCase opens closes → IsOnLeft tree clause list name token → IsNext tree list operand → Spans tree operand kind at last → Brings tree Defined name token opens closes (last + 1)
  -- in the body, where there is one
  parameter : {node name token at last body opens closes : ℕ} → IsOf tree node has_signature at last → IsParameter tree node name token → IsChild tree node body → Spans tree body nodes.Block opens closes → Brings tree Received name token opens closes opens
  -- from behind the colon
  switched : {stmt guard name token clause at last from to end opens closes colon : ℕ} → Spans tree stmt nodes.TypeSwitch at last → IsChild tree stmt guard → Spans tree guard nodes.NamedGuard from to → IsChild tree guard name → Spans tree name nodes.DeclName token end → IsChild tree stmt clause → HasColon tree clause opens closes colon → Brings tree Switched clause token opens closes (colon + 1)

-- an earlier name of the same block
pub record HasEarlier (f : SourceFile) (token opens : ℕ) : Type 0 where
  pub manner : BindingKind
  pub node : ℕ
  pub at : ℕ
  pub closes : ℕ
  pub from : ℕ
  pub brings : Brings f.nodes manner node at opens closes from
  pub earlier : at < token
  pub same : text_at f at ≡ text_at f token

-- the name is a new one: a `:=` declares neither `_` nor a name that its block has
abbrev pub IsNew : SourceFile → BindingKind → ℕ → ℕ → Type 0
IsNew f Defined token opens = (text_at f token ≢ codes "_") × (HasEarlier f token opens → ⊥)
IsNew f _ token opens = Unit {0}

-- a declaration in a function
pub record IsLocal (f : SourceFile) (node token opens closes from : ℕ) : Type 0 where
  pub manner : BindingKind
  pub brings : Brings f.nodes manner node token opens closes from
  pub new : IsNew f manner token opens
  pub named : text_at f token ≢ codes "_"
