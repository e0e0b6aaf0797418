-- The rule of each row, and what the rules say: typing. It is the least relation that the rules are closed under, so it has
-- no order, and nothing in it says that something isn't typed.
use Rattle.std.specs.Prelude.{ℕ, Bool, true, false, ◌||◌, Option, Some, None, if◌then◌else◌}
use Rattle.argot_tree.specs.declared.node_kind.NodeKind.{NodeKind}
use Rattle.argot_tree.specs.declared.node_kind.NodeKind.TheVariants as nodes
use Rattle.argot_check_asking.specs.Rules as asking
use Rattle.argot_check_asking.specs.Needs as needs
use Rattle.argot_check_types.specs.Facts.{Fact, is_typed}
use Rattle.argot_check_rules.specs.Rows.{Row, At, CopyAt, ComparableAt, Rule, Setting}
use Rattle.argot_check_rules.specs.Stages.{ends}
use Rattle.argot_check_rules.specs.Decl.{comparable_rule}
use Rattle.argot_check_source.specs.Code.{Code, kind_at, package_of, is_decl_name}
use Rattle.argot_check_typing.specs.Positions.{setting_of, declaration_row, is_type_form}
use Rattle.argot_check_typing.specs.Expressions.{expression_at, type_at}
use Rattle.argot_check_typing.specs.Bindings.{declared_name_rule}
use Rattle.argot_check_typing.specs.Statements.{statement_at}

-- expressions, and elements in braces with their items
abbrev pub is_expression : NodeKind → Bool
is_expression nodes.Binary = true
is_expression nodes.Positive = true
is_expression nodes.Negative = true
is_expression nodes.LogicalNot = true
is_expression nodes.Complement = true
is_expression nodes.Deref = true
is_expression nodes.AddressOf = true
is_expression nodes.Receive = true
is_expression nodes.Literal = true
is_expression nodes.NameUse = true
is_expression nodes.Parens = true
is_expression nodes.FuncLiteral = true
is_expression nodes.Composite = true
is_expression nodes.Conversion = true
is_expression nodes.Selector = true
is_expression nodes.Index = true
is_expression nodes.SliceAll = true
is_expression nodes.SliceFrom = true
is_expression nodes.SliceTo = true
is_expression nodes.SliceBetween = true
is_expression nodes.SliceToMax = true
is_expression nodes.SliceBetweenMax = true
is_expression nodes.TypeAssertion = true
is_expression nodes.Call = true
is_expression nodes.SpreadCall = true
is_expression nodes.Elems = true
is_expression nodes.Item = true
is_expression nodes.KeyedItem = true
is_expression _ = false

abbrev pub is_signature : NodeKind → Bool
is_signature nodes.Signature = true
is_signature _ = false

-- the rule of a node of this kind; of a copy where a specification is given
abbrev pub rule_of_kind : Setting → Code → Option ℕ → ℕ → NodeKind → Rule
rule_of_kind s c copy n it =
    if is_expression it then expression_at s c copy n it
    else if is_type_form it || is_signature it then type_at s c copy n it
    else if is_decl_name it then declared_name_rule s c n
    else statement_at s c n it

abbrev pub rule_in : Code → Option ℕ → ℕ → Option ℕ → Rule
rule_in c copy n None = asking.Silent
rule_in c copy n (Some «package») = elim (kind_at c n) [ None ↦ asking.Silent | Some it ↦ rule_of_kind (setting_of c (Some «package»)) c copy n it ]

abbrev pub comparable_in : Code → Option Row → Rule
comparable_in c None = asking.Silent
comparable_in c (Some spec) = comparable_rule (setting_of c None) spec

-- Nodes of files that no reached package has are absent: nothing is said of them.
abbrev pub rule_at : Code → Row → Rule
rule_at c (At n) = rule_in c None n (package_of c n)
rule_at c (CopyAt spec n) = rule_in c (Some spec) n (package_of c n)
rule_at c (ComparableAt d) = comparable_in c (declaration_row c d)

-- a rule that gives a value asks in the end for what is under its type
unfoldable pub rules : Code → Row → Rule
rules c row = asking.behind (rule_at c row) (ends (setting_of c None))

-- the rule of the row says this of it
abbrev pub Says : Code → Row → Fact → Type 0
Says c row f = asking.Says is_typed (rules c) row f

-- and others may build on it
abbrev pub Typed : Code → Row → Fact → Type 0
Typed c row f = asking.Typed is_typed (rules c) row f

-- a rule comes to a fact
abbrev pub Comes : Code → Rule → Fact → Type 0
Comes c r f = asking.Comes is_typed (rules c) r f

-- the row needs another one
abbrev pub Needs : Code → Row → Row → Type 0
Needs c row other = needs.Needs is_typed (rules c) row other
