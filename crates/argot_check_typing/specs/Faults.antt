-- What is wrong with a program's types, and the first place where something is.
use Rattle.std.specs.Prelude.{◌≡◌, ℕ, ◌+◌, ◌-◌, ◌<◌, Bool, true, false, Some, None, slice_get, if◌then◌else◌}
use Rattle.std.specs.List.{Contains}
use Rattle.argot_tree.specs.declared.node_kind.NodeKind.{NodeKind}
use Rattle.argot_tree.specs.declared.node_kind.NodeKind.TheVariants as nodes
use Rattle.argot_names_rules.specs.Files.{Place, Begins}
use Rattle.argot_check_types.specs.Facts.{ill, wide}
use Rattle.argot_check_rules.specs.Rows.{At, CopyAt}
use Rattle.argot_check_source.specs.Code.{Code, CodeNode, parent_of, is_of}
use Rattle.argot_check_source.specs.Constants.{list_of, is_copied, nodes_of_list}
use Rattle.argot_check_typing.specs.Rules.{Says}
use Rattle.argot_check_typing.specs.Late.{HasBadKey, HasBadEmbedded, HoldsItself}
use Rattle.argot_check_typing.specs.Loops.{LeadsBack}

-- a node of the list that a specification repeats with another `iota`
pub record IsRepeated (c : Code) (spec n : ℕ) : Type 0 where
  pub list : ℕ
  pub copied : is_copied c spec ≡ true
  pub of : list_of c spec ≡ Some list
  pub among : Contains (nodes_of_list c list) n

-- the node is ill by the rule of this number
pub data IsIll (c : Code) : (node rule : ℕ) → Type 0 where
  by_rule : {n rule : ℕ} → Says c (At n) (ill rule) → IsIll c n rule
  bad_key : {n : ℕ} → HasBadKey c n → IsIll c n 23
  bad_embedded : {n : ℕ} → HasBadEmbedded c n → IsIll c n 24
  holds_itself : {n : ℕ} → HoldsItself c n → IsIll c n 38
  leads_back : {n rule : ℕ} → LeadsBack c n rule → IsIll c n rule
  -- a fault of a repeated list that it has only there is that of the specification
  repeated : {spec n rule : ℕ} → IsRepeated c spec n → Says c (CopyAt spec n) (ill rule) → IsIll c spec 37

-- a constant in it leaves 128 bits, or a text's length 64
pub data IsTooWide (c : Code) : ℕ → Type 0 where
  by_rule : {n : ℕ} → Says c (At n) wide → IsTooWide c n
  repeated : {spec n : ℕ} → IsRepeated c spec n → Says c (CopyAt spec n) wide → IsTooWide c spec

pub data Fault : Type 0 where
  Ill : (rule : ℕ) → Fault
  TooWide : Fault

-- the node has the fault; too wide stands before ill
pub data HasFault (c : Code) : ℕ → Fault → Type 0 where
  too_wide : {n : ℕ} → IsTooWide c n → HasFault c n TooWide
  is_ill : {n rule : ℕ} → (IsTooWide c n → ⊥) → IsIll c n rule → HasFault c n (Ill rule)

abbrev pub IsSound : Code → ℕ → Type 0
IsSound c n = (f : Fault) → HasFault c n f → ⊥

-- no node before it has a fault
pub record IsFirstFault (c : Code) (n : ℕ) (f : Fault) : Type 0 where
  pub has : HasFault c n f
  pub first : (m : ℕ) → m < n → IsSound c m

-- a specification that stands in no group
abbrev pub is_lone_decl : NodeKind → Bool
is_lone_decl nodes.ConstDecl = true
is_lone_decl nodes.VarDecl = true
is_lone_decl nodes.TypeDecl = true
is_lone_decl _ = false

abbrev pub is_lone_spec : Code → ℕ → Bool
is_lone_spec c n = elim (parent_of c n) [ None ↦ false | Some p ↦ is_of c is_lone_decl p ]

abbrev pub is_communication : NodeKind → Bool
is_communication nodes.SendCase = true
is_communication nodes.AssignCase = true
is_communication nodes.DefineCase = true
is_communication _ = false

-- the token at which a fault of the node is named: its first; of a specification that isn't grouped the keyword before it, of
-- a communication what stands behind `case`
abbrev pub named_token : Code → ℕ → CodeNode → ℕ
named_token c n x = if is_lone_spec c n then x.token - 1 else if is_of c is_communication n then x.token + 1 else x.token

-- where a fault of the node is named
pub record IsPlaceOf (c : Code) (n : ℕ) (place : Place) : Type 0 where
  pub node : CodeNode
  pub there : slice_get c.nodes n ≡ Some node
  pub begins : Begins c.files node.file (named_token c n node) place
