-- Names that are looked up, members of packages, keys and names that are declared outside functions, computed from the tables.
use Rattle.std.specs.Prelude.{◌≡◌, ◌+◌, ℕ, Bool, true, false, ◌==◌, ◌&&◌, List, Option, Some, None, slice_get}
use Rattle.argot_tree.specs.declared.node_kind.NodeKind.{NodeKind}
use Rattle.argot_tree.specs.declared.node_kind.NodeKind.TheVariants as nodes
use Rattle.argot_tree.specs.declared.tree.TreeNode.{TreeNode}
use Rattle.argot_names_rules.specs.PackageScope.{Sort as TopSort, Value, Kind, Function, IsTopName}
use Rattle.argot_names_rules.specs.Uses.{IsLookup, IsQualified}
use Rattle.argot_names_blocks.specs.declared.tables.Found.{Found}
use Rattle.argot_names_blocks.specs.declared.blocks.Block.{Block}
use Rattle.argot_names_blocks.specs.declared.blocks.Span.{Span}
use Rattle.argot_names_blocks.specs.declared.roles.Role.{Role}
use Rattle.argot_names_blocks.specs.declared.roles.Role.TheVariants as roles
use Rattle.argot_names_blocks.specs.declared.lookup.QualifiedName.{QualifiedName}
use Rattle.argot_names_blocks.specs.declared.tops.TopName.{TopName}
use Rattle.argot_names_blocks.specs.declared.tops.Sort.{Sort}
use Rattle.argot_names_blocks.specs.declared.tops.Sort.TheVariants as sorts
use Rattle.argot_names_blocks.specs.Blocks.{span_in}
use Rattle.argot_names_blocks.specs.Roles.{role_of}
use Rattle.argot_names_blocks.specs.Bringing.{found_at, found_in}

-- a clause whose expressions on the left a `:=` declares
abbrev pub by_define : Role → Bool
by_define roles.RangeDefine = true
by_define roles.ReceiveDefine = true
by_define _ = false

abbrev pub stmt_defines : Option Found → Bool
stmt_defines None = false
stmt_defines (Some stmt) = by_define (role_of stmt.node.kind)

abbrev pub list_defines : List TreeNode → List (Option ℕ) → Found → Role → Bool
list_defines tree parents list roles.Expressions = stmt_defines (found_in tree parents list.at)
list_defines tree parents list _ = false

abbrev pub above_defines : List TreeNode → List (Option ℕ) → Option Found → Bool
above_defines tree parents None = false
above_defines tree parents (Some list) = list_defines tree parents list (role_of list.node.kind)

abbrev pub unless : Bool → ℕ → Option ℕ
unless true token = None
unless false token = Some token

abbrev pub looked_by : List TreeNode → List (Option ℕ) → (k token : ℕ) → Role → Option ℕ
looked_by tree parents k token roles.Used = unless (above_defines tree parents (found_in tree parents k)) token
looked_by tree parents k token roles.Typed = Some token
looked_by tree parents k token roles.Qualified = Some token
looked_by tree parents k token _ = None

abbrev pub looked_at : List TreeNode → List (Option ℕ) → ℕ → Option TreeNode → Option ℕ
looked_at tree parents k None = None
looked_at tree parents k (Some node) = looked_by tree parents k node.token (role_of node.kind)

-- the token at which node k is looked up
abbrev pub looked_of : List TreeNode → List (Option ℕ) → ℕ → Option ℕ
looked_of tree parents k = looked_at tree parents k (slice_get tree k)

pub record IsLookupBy (tree : List TreeNode) (k : ℕ) (result : Option ℕ) : Type 0 where
  pub sound : (token : ℕ) → result ≡ Some token → IsLookup tree k token
  pub complete : (token : ℕ) → IsLookup tree k token → result ≡ Some token

-- a name behind a dot, by the operand before it
abbrev pub by_operand : (k token : ℕ) → TreeNode → Role → Option QualifiedName
by_operand k token operand roles.Used = Some (record { token = operand.token; member = token; node = k })
by_operand k token operand _ = None

abbrev pub operand_at : (k token : ℕ) → Option Found → Option QualifiedName
operand_at k token None = None
operand_at k token (Some operand) = by_operand k token operand.node (role_of operand.node.kind)

abbrev pub by_selector : List TreeNode → (k token : ℕ) → TreeNode → Role → Option QualifiedName
by_selector tree k token above roles.Selector = operand_at k token (found_at tree above.first)
by_selector tree k token above _ = None

abbrev pub selector_at : List TreeNode → (k token : ℕ) → Option Found → Option QualifiedName
selector_at tree k token None = None
selector_at tree k token (Some above) = by_selector tree k token above.node (role_of above.node.kind)

abbrev pub dotted_by : List TreeNode → List (Option ℕ) → (k token : ℕ) → Role → Option QualifiedName
dotted_by tree parents k token roles.Selected = selector_at tree k token (found_in tree parents k)
dotted_by tree parents k token roles.Qualified = Some (record { token = token; member = token + 2; node = k })
dotted_by tree parents k token _ = None

abbrev pub dotted_at : List TreeNode → List (Option ℕ) → ℕ → Option TreeNode → Option QualifiedName
dotted_at tree parents k None = None
dotted_at tree parents k (Some node) = dotted_by tree parents k node.token (role_of node.kind)

-- the names around a dot where node k is the member
abbrev pub dotted_of : List TreeNode → List (Option ℕ) → ℕ → Option QualifiedName
dotted_of tree parents k = dotted_at tree parents k (slice_get tree k)

pub record IsQualifiedBy (tree : List TreeNode) (k : ℕ) (result : Option QualifiedName) : Type 0 where
  pub sound : (d : QualifiedName) → result ≡ Some d → (d.node ≡ k) × IsQualified tree d.token d.member d.node
  pub complete : (d : QualifiedName) → d.node ≡ k → IsQualified tree d.token d.member d.node → result ≡ Some d

-- node k is the first child of an item with a key
abbrev pub is_link : Option ℕ → ℕ → Bool
is_link None k = false
is_link (Some at) k = at == k

abbrev pub keyed_by : ℕ → TreeNode → Role → Bool
keyed_by k above roles.Keyed = is_link above.first k
keyed_by k above _ = false

abbrev pub keyed_at : ℕ → Option Found → Bool
keyed_at k None = false
keyed_at k (Some above) = keyed_by k above.node (role_of above.node.kind)

abbrev pub is_key_of : List TreeNode → List (Option ℕ) → ℕ → Bool
is_key_of tree parents k = keyed_at k (found_in tree parents k)

-- names that are declared outside functions
abbrev pub is_out : Option Span → Bool
is_out None = true
is_out (Some span) = false

abbrev pub is_func_decl : NodeKind → Bool
is_func_decl nodes.FuncDecl = true
is_func_decl _ = false

abbrev pub is_false : Option Bool → Bool
is_false (Some false) = true
is_false _ = false

abbrev pub top_if : Bool → Sort → (k token : ℕ) → Option TopName
top_if true sort k token = Some (record { sort = sort; node = k; token = token })
top_if false sort k token = None

abbrev pub top_in_names : List Block → (k token : ℕ) → TreeNode → Role → Option TopName
top_in_names blocks k token spec roles.Values = top_if (is_out (span_in blocks spec.token)) sorts.Value k token
top_in_names blocks k token spec _ = None

abbrev pub top_listed : List Block → (k token : ℕ) → Option Found → Option TopName
top_listed blocks k token None = None
top_listed blocks k token (Some spec) = top_in_names blocks k token spec.node (role_of spec.node.kind)

abbrev pub top_by_above : List TreeNode → List (Option ℕ) → List Block → List Bool → (k token : ℕ) → Found → Role → Option TopName
top_by_above tree parents blocks receivers k token above roles.Names = top_listed blocks k token (found_in tree parents above.at)
top_by_above tree parents blocks receivers k token above roles.Kind = top_if (is_out (span_in blocks above.node.token)) sorts.Kind k token
top_by_above tree parents blocks receivers k token above roles.Function = top_if (is_func_decl above.node.kind && is_false (slice_get receivers above.at)) sorts.Function k token
top_by_above tree parents blocks receivers k token above _ = None

abbrev pub top_below : List TreeNode → List (Option ℕ) → List Block → List Bool → (k token : ℕ) → Option Found → Option TopName
top_below tree parents blocks receivers k token None = None
top_below tree parents blocks receivers k token (Some above) = top_by_above tree parents blocks receivers k token above (role_of above.node.kind)

abbrev pub top_by : List TreeNode → List (Option ℕ) → List Block → List Bool → (k token : ℕ) → Role → Option TopName
top_by tree parents blocks receivers k token roles.Declared = top_below tree parents blocks receivers k token (found_in tree parents k)
top_by tree parents blocks receivers k token _ = None

abbrev pub top_at : List TreeNode → List (Option ℕ) → List Block → List Bool → ℕ → Option TreeNode → Option TopName
top_at tree parents blocks receivers k None = None
top_at tree parents blocks receivers k (Some node) = top_by tree parents blocks receivers k node.token (role_of node.kind)

-- what node k declares outside functions
abbrev pub top_of : List TreeNode → List (Option ℕ) → List Block → List Bool → ℕ → Option TopName
top_of tree parents blocks receivers k = top_at tree parents blocks receivers k (slice_get tree k)

abbrev pub sort_of : Sort → TopSort
sort_of sorts.Value = Value
sort_of sorts.Kind = Kind
sort_of sorts.Function = Function

pub record IsTopBy (tree : List TreeNode) (k : ℕ) (result : Option TopName) : Type 0 where
  pub sound : (t : TopName) → result ≡ Some t → (t.node ≡ k) × IsTopName tree (sort_of t.sort) t.node t.token
  pub complete : (t : TopName) → t.node ≡ k → IsTopName tree (sort_of t.sort) t.node t.token → result ≡ Some t
