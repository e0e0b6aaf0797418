-- `switch`, type switch, `select`.
use Rattle.std.specs.Prelude.{ℕ, Bool, true, false, List, [], ◌∷◌, ◌++◌, drop, reverse, Option, Some, None, if◌then◌else◌}
use Rattle.argot_plain.specs.declared.instructions.Kind.TheVariants.{Op, Goto, Branch}
use Rattle.argot_text.specs.declared.path.PathStep.TheVariants.{Channel}
use Rattle.argot_text.specs.declared.position.Pos.{Pos}
use Rattle.argot_tree.specs.declared.node_kind.NodeKind.{NodeKind}
use Rattle.argot_tree.specs.declared.node_kind.NodeKind.TheVariants as nodes
use Rattle.argot_lower_scripts.specs.Script.{Around, Statement, Script, until, part}
use Rattle.argot_lower_scripts.specs.Words.{nothing, does, one, put_at, value}
use Rattle.argot_lower_locals.specs.Typed.{Typed}
use Rattle.argot_lower_locals.specs.Nodes.{kind, kids, strip, at, written}
use Rattle.argot_lower_locals.specs.Types.{type_at, leaves_at, value_type, value_form, element_of}
use Rattle.argot_lower_locals.specs.Names.{is_nil, declaration_at}
use Rattle.argot_lower_locals.specs.Variables.{assigned_registers}
use Rattle.argot_lower_locals.specs.Globals.{truth_type}
use Rattle.argot_lower_rows.specs.Conversions.{AsType, value_as}
use Rattle.argot_lower_rows.specs.Operators.{asserted, from_channel}
use Rattle.argot_lower_rows.specs.Places.{Place, Blank, places, declare_local, put_to, store, is_blank}
use Rattle.argot_lower_rows.specs.Assignments.{is_several}
use Rattle.argot_lower_rows.specs.Around.{in_clause, clauses}
use Rattle.argot_lower_rows.specs.Branches.{after_init}

abbrev pub is_clause : NodeKind → Bool
is_clause nodes.Case = true
is_clause nodes.Default = true
is_clause _ = false

abbrev pub is_default : NodeKind → Bool
is_default nodes.Default = true
is_default _ = false

-- the values or types of a case
abbrev pub case_values_of : Typed → NodeKind → List ℕ → List ℕ
case_values_of t nodes.Case (vs ∷ body) = kids t vs
case_values_of t _ _ = []

abbrev pub case_values : Typed → ℕ → List ℕ
case_values t c = case_values_of t (kind t c) (kids t c)

-- the statements of a clause
abbrev pub clause_body : NodeKind → List ℕ → List ℕ
clause_body nodes.Case ks = drop 1 ks
clause_body nodes.SendCase ks = drop 2 ks
clause_body nodes.AssignCase ks = drop 2 ks
clause_body nodes.DefineCase ks = drop 2 ks
clause_body nodes.ReceiveCase ks = drop 1 ks
clause_body k ks = ks

-- a clause with its statements, then Goto end
abbrev pub clause_at : Typed → ℕ → Around → ℕ → ℕ → Option ℕ → Script
clause_at t n w end c next = part (Statement (in_clause t n end next w)) c (λ _. does (written t n) (Goto end) nothing)

-- for each value of a case, in order: a = value e; o := Op [a, t]; Branch (that case) next
abbrev pub case_tests : Pos → List ℕ → ℕ → List ℕ → Script → Script
case_tests p tag l [] c = c
case_tests p tag l (e ∷ es) c =
    value e (λ a.
    one p (λ o. Op o (a ∷ tag)) (λ _.
    until (λ next. does p (Branch (l ∷ next ∷ [])) nothing) (λ _.
    case_tests p tag l es c)))

-- the place of the default clause, or the end
abbrev pub default_place : Typed → ℕ → List ℕ → List ℕ → ℕ
default_place t end (c ∷ cs) (l ∷ ls) = if is_default (kind t c) then l else default_place t end cs ls
default_place t end _ _ = end

-- the values of all cases, then Goto the default clause or the end
abbrev pub all_tests : Typed → Pos → List ℕ → List ℕ → List ℕ → Script → Script
all_tests t p tag (c ∷ cs) (l ∷ ls) after = case_tests p tag l (case_values t c) (all_tests t p tag cs ls after)
all_tests t p tag _ _ after = after

abbrev pub switch_tests : Typed → Pos → List ℕ → List ℕ → ℕ → List ℕ → Script
switch_tests t p tag cs end ls = all_tests t p tag cs ls (does p (Goto (default_place t end cs ls)) nothing)

-- the tag is the value's register, or nothing where there is no value
abbrev pub switch_on : Typed → ℕ → Around → List ℕ → List ℕ → Script
switch_on t n w tag cs =
    until (λ end.
    clauses (reverse cs) (switch_tests t (written t n) tag cs end) (λ c next. clause_at t n w end c next) []) (λ _.
    nothing)

-- switch x { .. }: t = value x; the tests; the clauses
abbrev pub switch_by : Typed → ℕ → Around → List ℕ → Script
switch_by t n w [] = switch_on t n w [] []
switch_by t n w (x ∷ cs) = if is_clause (kind t x) then switch_on t n w [] (x ∷ cs) else value x (λ a. switch_on t n w (a ∷ []) cs)

abbrev pub switch_row : Typed → ℕ → Around → Script
switch_row t n w = after_init t w (kids t n) (switch_by t n w)

-- what is switched on by type: its expression, and the name that stands for it
pub record Guarded : Type 0 where
  pub operand : ℕ
  pub name : Option ℕ

abbrev pub operand_of : List ℕ → ℕ
operand_of [] = 0
operand_of (x ∷ xs) = x

abbrev pub guarded : Typed → ℕ → NodeKind → List ℕ → Guarded
guarded t g nodes.NamedGuard (name ∷ inner ∷ []) = record { operand = operand_of (kids t inner); name = Some name }
guarded t g _ ks = record { operand = operand_of ks; name = None }

-- the one type of a clause that isn't `nil`
abbrev pub one_type_of : Typed → List ℕ → Option ℕ
one_type_of t (x ∷ []) = if is_nil t x then None else Some (type_at t x)
one_type_of t _ = None

-- the value as the clause's one type, or as it is
abbrev pub as_one_type : Typed → Pos → ℕ → Option ℕ → (ℕ → Script) → Script
as_one_type t p a None k = k a
as_one_type t p a (Some x) k = asserted t p x a k

abbrev pub clause_place : Typed → ℕ → Option ℕ → (Place → Script) → Script
clause_place t name None k = k Blank
clause_place t name (Some d) k = if is_blank t name then k Blank else declare_local t (at t name) d k

-- at the start of a clause the name stands for the value
abbrev pub bound : Typed → Pos → ℕ → Option ℕ → ℕ → Script → Script
bound t p a None c body = body
bound t p a (Some name) c body =
    clause_place t name (declaration_at t c) (λ q.
    as_one_type t p a (one_type_of t (case_values t c)) (λ b.
    put_to (at t name) q b body))

abbrev pub type_switch_on : Typed → ℕ → Around → Guarded → List ℕ → Script
type_switch_on t n w g cs =
    value g.operand (λ a.
    until (λ end.
    clauses (reverse cs) (λ ls. does (written t n) (Branch (ls ++ end ∷ [])) nothing) (λ c next. bound t (written t g.operand) a g.name c (clause_at t n w end c None)) []) (λ _.
    nothing))

-- switch n := x.(type) { .. }: a = value x; Branch to the clauses and the end; each clause binds the name
abbrev pub type_switch_by : Typed → ℕ → Around → List ℕ → Script
type_switch_by t n w [] = nothing
type_switch_by t n w (g ∷ cs) = type_switch_on t n w (guarded t g (kind t g) (kids t g)) cs

abbrev pub type_switch_row : Typed → ℕ → Around → Script
type_switch_row t n w = after_init t w (kids t n) (type_switch_by t n w)

-- the operands of a clause of a `select`
pub data Operands : Type 0 where
  Nothing : Operands
  Sends : ℕ → ℕ → Operands
  Receives : ℕ → Operands

-- a clause with its operands
pub record Communication : Type 0 where
  pub clause : ℕ
  pub operands : Operands

-- the channel of a receive, which may stand in parentheses
abbrev pub channel_of : Typed → ℕ → ℕ
channel_of t x = operand_of (kids t (strip t x))

abbrev pub operands_of : Typed → NodeKind → List ℕ → (Operands → Script) → Script
operands_of t nodes.SendCase (c ∷ e ∷ body) k = value c (λ a. value_as t e (AsType (element_of (value_form t c))) (λ b. k (Sends a b)))
operands_of t nodes.ReceiveCase (x ∷ body) k = value (channel_of t x) (λ a. k (Receives a))
operands_of t nodes.AssignCase (xs ∷ x ∷ body) k = value (channel_of t x) (λ a. k (Receives a))
operands_of t nodes.DefineCase (xs ∷ x ∷ body) k = value (channel_of t x) (λ a. k (Receives a))
operands_of t _ _ k = k Nothing

-- the operands of all clauses, in order
abbrev pub communications : Typed → List ℕ → (List Communication → Script) → Script
communications t [] k = k []
communications t (c ∷ cs) k = operands_of t (kind t c) (kids t c) (λ o. communications t cs (λ rest. k (record { clause = c; operands = o } ∷ rest)))

-- the values of a receive into their places, each converted at the receive. The truth value is made before the first store
abbrev pub received_into : Typed → Pos → ℕ → List ℕ → List Place → ℕ → Script → Script
received_into t p x (n ∷ m ∷ []) (q ∷ r ∷ []) a c = one p (λ o. Op o []) (λ o. store t p n q (value_type t x) a (store t p m r (truth_type t) o c))
received_into t p x (n ∷ []) (q ∷ []) a c = store t p n q (value_type t x) a c
received_into t p x _ _ a c = c

-- a receive for these left operands, at the receive itself
abbrev pub receives : Typed → List ℕ → ℕ → ℕ → Script → Script
receives t lefts x a c =
    places t (if is_several lefts then assigned_registers t lefts else []) lefts (λ qs.
    from_channel (at t x) (leaves_at t x) a (λ v.
    received_into t (at t x) x lefts qs v c))

abbrev pub communicates : Typed → NodeKind → List ℕ → Operands → Script → Script
communicates t nodes.SendCase (c ∷ rest) (Sends a b) body = put_at (written t c) a Channel b body
communicates t nodes.ReceiveCase (x ∷ rest) (Receives a) body = receives t [] x a body
communicates t nodes.AssignCase (xs ∷ x ∷ rest) (Receives a) body = receives t (kids t xs) x a body
communicates t nodes.DefineCase (xs ∷ x ∷ rest) (Receives a) body = receives t (kids t xs) x a body
communicates t _ _ _ body = body

abbrev pub communication_at : Typed → ℕ → Around → ℕ → Communication → Script
communication_at t n w end o = communicates t (kind t o.clause) (kids t o.clause) o.operands (clause_at t n w end o.clause None)

-- select { .. }: the operands of all clauses; Branch to the clauses; each clause communicates
abbrev pub select_row : Typed → ℕ → Around → Script
select_row t n w =
    communications t (kids t n) (λ os.
    until (λ end.
    clauses (reverse os) (λ ls. does (written t n) (Branch ls) nothing) (λ o next. communication_at t n w end o) []) (λ _.
    nothing))
