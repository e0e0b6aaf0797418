-- What a node brings into a block, computed from the tables.
use Rattle.std.specs.Prelude.{◌+◌, ℕ, List, Option, Some, None, slice_get}
use Rattle.argot_tree.specs.declared.tree.TreeNode.{TreeNode}
use Rattle.argot_names_blocks.specs.declared.tables.Found.{Found}
use Rattle.argot_names_blocks.specs.declared.blocks.Block.{Block}
use Rattle.argot_names_blocks.specs.declared.blocks.Span.{Span}
use Rattle.argot_names_blocks.specs.declared.roles.Role.{Role}
use Rattle.argot_names_blocks.specs.declared.roles.Role.TheVariants as roles
use Rattle.argot_names_blocks.specs.declared.binding.BindingKind.{BindingKind}
use Rattle.argot_names_blocks.specs.declared.binding.BindingKind.TheVariants as manners
use Rattle.argot_names_blocks.specs.declared.binding.Binding.{Binding}
use Rattle.argot_names_blocks.specs.Blocks.{span_in}
use Rattle.argot_names_blocks.specs.Roles.{role_of}

-- a node by its number, with the number
abbrev pub found_with : ℕ → Option TreeNode → Option Found
found_with at None = None
found_with at (Some node) = Some (record { at = at; node = node })

abbrev pub found_at : List TreeNode → Option ℕ → Option Found
found_at tree None = None
found_at tree (Some at) = found_with at (slice_get tree at)

abbrev pub entry_of : {A : Type 0} → Option (Option A) → Option A
entry_of None = None
entry_of (Some x) = x

-- the node that a table has for a number
abbrev pub found_in : List TreeNode → List (Option ℕ) → ℕ → Option Found
found_in tree table k = found_at tree (entry_of (slice_get table k))

-- a name that comes into the innermost block around a token
abbrev pub brought_in : Option Span → BindingKind → (node token from : ℕ) → Option Binding
brought_in None manner node token from = None
brought_in (Some span) manner node token from =
    Some (record { manner = manner; node = node; token = token; opens = span.opens; closes = span.closes; from = from })

abbrev pub in_block : List Block → (at : ℕ) → BindingKind → (node token from : ℕ) → Option Binding
in_block blocks at manner node token from = brought_in (span_in blocks at) manner node token from

-- a name among names
abbrev pub by_statement : List Block → (k token : ℕ) → TreeNode → Role → Option Binding
by_statement blocks k token stmt roles.Values = in_block blocks stmt.token manners.Specified k token (stmt.last + 1)
by_statement blocks k token stmt roles.Define = in_block blocks stmt.token manners.Defined k token (stmt.last + 1)
by_statement blocks k token stmt _ = None

abbrev pub listed : List Block → (k token : ℕ) → Option Found → Option Binding
listed blocks k token None = None
listed blocks k token (Some stmt) = by_statement blocks k token stmt.node (role_of stmt.node.kind)

-- the node where it is a function
abbrev pub by_function : Found → Role → Option Found
by_function f roles.Function = Some f
by_function f _ = None

abbrev pub function_at : Option Found → Option Found
function_at None = None
function_at (Some f) = by_function f (role_of f.node.kind)

-- the function that has a list of parameters, as its receiver's or in its signature
abbrev pub by_owner : List TreeNode → List (Option ℕ) → Found → Role → Option Found
by_owner tree parents owner roles.Function = Some owner
by_owner tree parents owner roles.Signature = function_at (found_in tree parents owner.at)
by_owner tree parents owner _ = None

abbrev pub owner_at : List TreeNode → List (Option ℕ) → Option Found → Option Found
owner_at tree parents None = None
owner_at tree parents (Some owner) = by_owner tree parents owner (role_of owner.node.kind)

abbrev pub by_list : List TreeNode → List (Option ℕ) → Found → Role → Option Found
by_list tree parents list roles.Entries = owner_at tree parents (found_in tree parents list.at)
by_list tree parents list _ = None

abbrev pub list_at : List TreeNode → List (Option ℕ) → Option Found → Option Found
list_at tree parents None = None
list_at tree parents (Some list) = by_list tree parents list (role_of list.node.kind)

-- the function of a parameter
abbrev pub function_of : List TreeNode → List (Option ℕ) → ℕ → Option Found
function_of tree parents entry = list_at tree parents (found_in tree parents entry)

-- a parameter comes into the body
abbrev pub received_in : (k token : ℕ) → Option Found → Option Binding
received_in k token None = None
received_in k token (Some body) =
    Some (record { manner = manners.Received; node = k; token = token; opens = body.node.token; closes = body.node.last; from = body.node.token })

abbrev pub received : List TreeNode → List (Option ℕ) → (k token : ℕ) → Option Found → Option Binding
received tree keys k token None = None
received tree keys k token (Some f) = received_in k token (found_in tree keys f.at)

-- a name that is declared, by the node above it
abbrev pub by_above : List TreeNode → List (Option ℕ) → List (Option ℕ) → List Block → (k token : ℕ) → Found → Role → Option Binding
by_above tree parents keys blocks k token above roles.Names = listed blocks k token (found_in tree parents above.at)
by_above tree parents keys blocks k token above roles.Kind = in_block blocks above.node.token manners.Specified k token token
by_above tree parents keys blocks k token above roles.Entry = received tree keys k token (function_of tree parents above.at)
by_above tree parents keys blocks k token above _ = None

abbrev pub declared_below : List TreeNode → List (Option ℕ) → List (Option ℕ) → List Block → (k token : ℕ) → Option Found → Option Binding
declared_below tree parents keys blocks k token None = None
declared_below tree parents keys blocks k token (Some above) = by_above tree parents keys blocks k token above (role_of above.node.kind)

-- a name on the left of the `:=` of a `range` clause or of a receive, in scope from a place on
abbrev pub defined_from : (k token : ℕ) → TreeNode → Option ℕ → Option Binding
defined_from k token stmt None = None
defined_from k token stmt (Some from) =
    Some (record { manner = manners.Defined; node = k; token = token; opens = stmt.token; closes = stmt.last; from = from })

-- where a body begins
abbrev pub begins_at : Option Found → Option ℕ
begins_at None = None
begins_at (Some body) = Some body.node.token

-- what stands behind an operand
abbrev pub ends_at : Option Found → Option ℕ
ends_at None = None
ends_at (Some operand) = Some (operand.node.last + 1)

abbrev pub by_clause : List TreeNode → List (Option ℕ) → (k token : ℕ) → TreeNode → Found → Role → Option Binding
by_clause tree keys k token list stmt roles.RangeDefine = defined_from k token stmt.node (begins_at (found_in tree keys stmt.at))
by_clause tree keys k token list stmt roles.ReceiveDefine = defined_from k token stmt.node (ends_at (found_at tree list.next))
by_clause tree keys k token list stmt _ = None

abbrev pub clause_at : List TreeNode → List (Option ℕ) → (k token : ℕ) → TreeNode → Option Found → Option Binding
clause_at tree keys k token list None = None
clause_at tree keys k token list (Some stmt) = by_clause tree keys k token list stmt (role_of stmt.node.kind)

abbrev pub by_expressions : List TreeNode → List (Option ℕ) → List (Option ℕ) → (k token : ℕ) → Found → Role → Option Binding
by_expressions tree parents keys k token list roles.Expressions = clause_at tree keys k token list.node (found_in tree parents list.at)
by_expressions tree parents keys k token list _ = None

abbrev pub used_below : List TreeNode → List (Option ℕ) → List (Option ℕ) → (k token : ℕ) → Option Found → Option Binding
used_below tree parents keys k token None = None
used_below tree parents keys k token (Some list) = by_expressions tree parents keys k token list (role_of list.node.kind)

-- the name of a type switch comes into each clause, from behind its colon
abbrev pub switched_in : ℕ → TreeNode → Option ℕ → Option Found → Option Binding
switched_in k clause (Some from) (Some name) =
    Some (record { manner = manners.Switched; node = k; token = name.node.token; opens = clause.token; closes = clause.last; from = from })
switched_in k clause _ _ = None

abbrev pub name_at : List TreeNode → List (Option ℕ) → Option Found → Option Found
name_at tree keys None = None
name_at tree keys (Some guard) = found_in tree keys guard.at

abbrev pub behind_values : Option Found → Option ℕ
behind_values None = None
behind_values (Some values) = Some (values.node.last + 2)

-- what stands behind the colon of a clause
abbrev pub behind_colon : List TreeNode → List (Option ℕ) → ℕ → TreeNode → Role → Option ℕ
behind_colon tree keys k clause roles.Case = behind_values (found_in tree keys k)
behind_colon tree keys k clause roles.Default = Some (clause.token + 2)
behind_colon tree keys k clause _ = None

abbrev pub by_switch : List TreeNode → List (Option ℕ) → ℕ → TreeNode → Found → Role → Option Binding
by_switch tree keys k clause stmt roles.TypeSwitch =
    switched_in k clause (behind_colon tree keys k clause (role_of clause.kind)) (name_at tree keys (found_in tree keys stmt.at))
by_switch tree keys k clause stmt _ = None

abbrev pub switch_above : List TreeNode → List (Option ℕ) → ℕ → TreeNode → Option Found → Option Binding
switch_above tree keys k clause None = None
switch_above tree keys k clause (Some stmt) = by_switch tree keys k clause stmt (role_of stmt.node.kind)

-- a node by its own role
abbrev pub by_role : List TreeNode → List (Option ℕ) → List (Option ℕ) → List Block → ℕ → TreeNode → Role → Option Binding
by_role tree parents keys blocks k node roles.Declared = declared_below tree parents keys blocks k node.token (found_in tree parents k)
by_role tree parents keys blocks k node roles.Used = used_below tree parents keys k node.token (found_in tree parents k)
by_role tree parents keys blocks k node roles.Case = switch_above tree keys k node (found_in tree parents k)
by_role tree parents keys blocks k node roles.Default = switch_above tree keys k node (found_in tree parents k)
by_role tree parents keys blocks k node _ = None

abbrev pub by_node : List TreeNode → List (Option ℕ) → List (Option ℕ) → List Block → ℕ → Option TreeNode → Option Binding
by_node tree parents keys blocks k None = None
by_node tree parents keys blocks k (Some node) = by_role tree parents keys blocks k node (role_of node.kind)

-- what node k brings
abbrev pub bring_of : List TreeNode → List (Option ℕ) → List (Option ℕ) → List Block → ℕ → Option Binding
bring_of tree parents keys blocks k = by_node tree parents keys blocks k (slice_get tree k)
