-- Whole functions: those of the text, the literals that stand for built-ins, wrappers, the functions of method values, externals,
-- and the entry.
use Rattle.std.specs.Prelude.{ℕ, ◌+◌, Bool, false, List, [], ◌∷◌, ◌++◌, codes, map, reverse, Option, Some, None, if◌then◌else◌}
use Rattle.argot_plain.specs.declared.instructions.Callee.{Callee}
use Rattle.argot_plain.specs.declared.instructions.Callee.TheVariants.{Static, Method}
use Rattle.argot_plain.specs.declared.instructions.Kind.TheVariants.{Write, Call, Goto, Branch, RunDefers, Leave, Panic}
use Rattle.argot_text.specs.declared.path.PathStep.TheVariants.{Capture}
use Rattle.argot_text.specs.declared.position.Pos.{Pos}
use Rattle.argot_lower_scripts.specs.Script.{Leaves, Outcome, InRegister, InObject, Around, Statement, Script, take, now, until, part, sets}
use Rattle.argot_lower_scripts.specs.Words.{scalar, nothing, does, load, load_at, go_on, new, takes}
use Rattle.argot_lower_locals.specs.Typed.{Typed, FieldStep, MethodOf}
use Rattle.argot_lower_locals.specs.Nodes.{written, closing}
use Rattle.argot_lower_locals.specs.Types.{form, leaves, value_type, element_of, key_of, params_of, results_of, is_text, is_interface}
use Rattle.argot_lower_locals.specs.Names.{decl_node, is_nil}
use Rattle.argot_lower_locals.specs.Functions.{Parameter, parameters, results, receiver, captures, body}
use Rattle.argot_lower_locals.specs.Variables.{is_object}
use Rattle.argot_lower_rows.specs.Sites.{variable_site}
use Rattle.argot_lower_rows.specs.Conversions.{AsType, AsAny, converted, print_name, println_name}
use Rattle.argot_lower_rows.specs.Walks.{received_from}
use Rattle.argot_lower_rows.specs.Functions.{receiver_leaves}
use Rattle.argot_lower_rows.specs.Calls.{calls, method_name, method_function}
use Rattle.argot_lower_rows.specs.BuiltIns.{copied, printed, is_name_of}
use Rattle.argot_lower_rows.specs.Around.{clauses}

-- the first byte of the name of a declaration
abbrev pub name_position : Typed → Pos → Option ℕ → Pos
name_position t p None = p
name_position t p (Some n) = written t n

-- for each captured variable, the first of which has this number: q := Step env #i; r := Read q, which is its reference
abbrev pub captured_references : Pos → ℕ → ℕ → List ℕ → Script → Script
captured_references p env i [] c = c
captured_references p env i (d ∷ ds) c = load_at p scalar env (Capture i) (λ r. sets d r (captured_references p env (i + 1) ds c))

-- a parameter that is an object: q := New at its name; Write q (its register)
abbrev pub parameter_home : Typed → Pos → ℕ → Option ℕ → ℕ → Script → Script
parameter_home t p x None r c = c
parameter_home t p x (Some d) r c =
    if is_object t d then new (name_position t p (decl_node t d)) (variable_site t x) (λ q. does (name_position t p (decl_node t d)) (Write q r) (sets d q c))
    else sets d r c

abbrev pub parameter_homes : Typed → Pos → List Parameter → List ℕ → Script → Script
parameter_homes t p (q ∷ qs) (r ∷ rs) c = parameter_home t p q.of q.decl r (parameter_homes t p qs rs c)
parameter_homes t p _ _ c = c

-- a result: an object is made at its name, else a register is taken; no zero value is put
abbrev pub result_home : Typed → Pos → ℕ → Option ℕ → (Outcome → Script) → Script
result_home t p x None k = take (leaves t x) (λ r. k (InRegister r))
result_home t p x (Some d) k =
    if is_object t d then new (name_position t p (decl_node t d)) (variable_site t x) (λ q. sets d q (k (InObject q)))
    else take (leaves t x) (λ r. sets d r (k (InRegister r)))

abbrev pub result_homes : Typed → Pos → List Parameter → (List Outcome → Script) → Script
result_homes t p [] k = k []
result_homes t p (q ∷ qs) k = result_home t p q.of q.decl (λ o. result_homes t p qs (λ os. k (o ∷ os)))

-- the values that a function hands back: a register, or r := Read of an object
abbrev pub outcome_value : Typed → Pos → ℕ → Outcome → (ℕ → Script) → Script
outcome_value t p x (InRegister r) k = k r
outcome_value t p x (InObject q) k = load p (leaves t x) [] q k

abbrev pub outcome_values : Typed → Pos → List Parameter → List Outcome → (List ℕ → Script) → Script
outcome_values t p (q ∷ qs) (o ∷ os) k = outcome_value t p q.of o (λ r. outcome_values t p qs os (λ rs. k (r ∷ rs)))
outcome_values t p _ _ k = k []

abbrev pub types_of : List Parameter → List ℕ
types_of ps = map (λ (q : Parameter). q.of) ps

-- a reference by which a literal with captures is called stands before the parameters
abbrev pub opened : Pos → List ℕ → List Leaves → (List ℕ → Script) → Script
opened p [] lss k = takes lss k
opened p (d ∷ ds) lss k = take scalar (λ env. takes lss (λ rs. captured_references p env 0 (d ∷ ds) (k rs)))

abbrev pub around_body : ℕ → List Outcome → Around
around_body exit outs = record { exit = exit; outcomes = outs; enclosing = []; next_clause = None }

-- Goto next; the reference, the parameters; captures; objects of parameters; results; the inner code, with the place exit behind
-- it; RunDefers; Reads of results that are objects; Leave
abbrev pub function_with : Typed → Pos → Pos → List ℕ → List Parameter → List Parameter → (Around → Script) → Script
function_with t p close ds ps outs inner =
    go_on p (
    opened p ds (map (leaves t) (types_of ps)) (λ rs.
    parameter_homes t p ps rs (
    result_homes t p outs (λ os.
    until (λ exit. inner (around_body exit os)) (λ _.
    does close RunDefers (
    outcome_values t close outs os (λ values.
    does close (Leave values) nothing)))))))

abbrev pub body_part : Option ℕ → Around → Script
body_part None w = nothing
body_part (Some n) w = part (Statement w) n (λ _. nothing)

abbrev pub body_end : Typed → Pos → Option ℕ → Pos
body_end t p None = p
body_end t p (Some n) = closing t n

-- a declared function, a method or a literal
abbrev pub text_function : Typed → Pos → ℕ → Script
text_function t p f = function_with t p (body_end t p (body t f)) (captures t f) (receiver t f ++ parameters t f) (results t f) (body_part (body t f))

-- the initialiser of a specification of package variables
abbrev pub initialiser_function : Typed → Pos → Script → Script
initialiser_function t p specification = function_with t p p [] [] [] (λ _. specification)

-- the type of a parameter of the literal that stands for a built-in; none is `any`
abbrev pub built_in_type : Typed → List ℕ → ℕ → Option ℕ
built_in_type t name n = if is_name_of name (codes "panic") then None else (if is_nil t n then None else Some (value_type t n))

abbrev pub optional_leaves : Typed → Option ℕ → Leaves
optional_leaves t None = scalar
optional_leaves t (Some x) = leaves t x

abbrev pub optional_form_is_text : Typed → Option ℕ → Bool
optional_form_is_text t None = false
optional_form_is_text t (Some x) = is_text (form t x)

abbrev pub element_leaves_of : Typed → Option ℕ → Leaves
element_leaves_of t None = []
element_leaves_of t (Some x) = leaves t (element_of (form t x))

abbrev pub all_as_any : Typed → Pos → List (Option ℕ) → List ℕ → (List ℕ → Script) → Script
all_as_any t p (None ∷ xs) (r ∷ rs) k = all_as_any t p xs rs (λ as_any. k (r ∷ as_any))
all_as_any t p (Some x ∷ xs) (r ∷ rs) k = converted t p x AsAny r (λ a. all_as_any t p xs rs (λ as_any. k (a ∷ as_any)))
all_as_any t p _ _ k = k []

abbrev pub deleted : Typed → Pos → List (Option ℕ) → List ℕ → Script → Script
deleted t p (Some m ∷ Some x ∷ []) (a ∷ b ∷ []) c = converted t p x (AsType (key_of (form t m))) b (λ _. c)
deleted t p _ _ c = c

abbrev pub copied_on : Typed → Pos → List (Option ℕ) → List ℕ → Script → Script
copied_on t p (x ∷ y ∷ []) (a ∷ b ∷ []) c = copied p (element_leaves_of t x) (optional_form_is_text t y) a b (λ _. c)
copied_on t p _ _ c = c

abbrev pub panics : Pos → List ℕ → Script → Script
panics p (r ∷ rs) c = does p (Panic r) c
panics p [] c = c

-- a built-in's row on registers of these types
abbrev pub built_in_on : Typed → Pos → List ℕ → List (Option ℕ) → List ℕ → Script → Script
built_in_on t p name xs rs c =
    if is_name_of name (codes "delete") then deleted t p xs rs c
    else (if is_name_of name (codes "copy") then copied_on t p xs rs c
    else (if is_name_of name (codes "panic") then panics p rs c
    else (if is_name_of name (codes "print") then all_as_any t p xs rs (λ items. printed t p (print_name t) items c)
    else (if is_name_of name (codes "println") then all_as_any t p xs rs (λ items. printed t p (println_name t) items c)
    else c))))

-- the literal that `go` or `defer` of a built-in makes
abbrev pub built_in_function : Typed → Pos → List ℕ → List ℕ → Script
built_in_function t p name args =
    go_on p (
    takes (map (λ n. optional_leaves t (built_in_type t name n)) args) (λ rs.
    built_in_on t p name (map (built_in_type t name) args) rs (
    does p RunDefers (
    does p (Leave []) nothing))))

-- the callee and the arguments by which a method is called on its receiver
abbrev pub forwarded : Typed → MethodOf → ℕ → List ℕ → (Callee → List ℕ → Script) → Script
forwarded t m a args k =
    if is_interface (form t m.holder) then k (Method a (method_name t m.method)) args
    else k (Static (method_function m.method)) (a ∷ args)

-- the method's call with the other parameters, into registers for its results; RunDefers; Leave
abbrev pub forward : Typed → Pos → MethodOf → ℕ → List ℕ → Script
forward t p m a args =
    forwarded t m a args (λ callee all.
    calls t p callee all (results_of (form t m.method.of.0)) (λ rs.
    does p RunDefers (
    does p (Leave rs) nothing)))

-- a wrapper of the method for a type: the box and the parameters; v := Read box; the receiver from the value; the call
abbrev pub wrapper_function : Typed → Pos → ℕ → List FieldStep → MethodOf → Script
wrapper_function t p x steps m =
    go_on p (
    take scalar (λ box.
    takes (map (leaves t) (params_of (form t m.method.of.0))) (λ args.
    load p (leaves t x) [] box (λ v.
    received_from t p m steps x v (λ a.
    forward t p m a args)))))

-- the function of a method value: the reference and the parameters; q := Step env #0; a := Read q; the call
abbrev pub bound_function : Typed → Pos → MethodOf → Script
bound_function t p m =
    go_on p (
    take scalar (λ env.
    takes (map (leaves t) (params_of (form t m.method.of.0))) (λ args.
    load_at p (receiver_leaves t m) env (Capture 0) (λ a.
    forward t p m a args))))

-- a function without a body: a Goto that names itself, and a register for each parameter
abbrev pub external_function : Pos → List Leaves → Script
external_function p lss = takes lss (λ _. now (λ here. does p (Goto here) nothing))

-- the entry: Goto next; L: Branch to each of these functions or on; each of them: Call, Goto L; then Call of main; RunDefers; Leave
abbrev pub entry_function : Pos → List ℕ → ℕ → Script
entry_function p inits main =
    go_on p (
    now (λ again.
    until (λ after.
    clauses (reverse inits) (λ ls. does p (Branch (ls ++ after ∷ [])) nothing) (λ f next. does p (Call [] (Static f) []) (does p (Goto again) nothing)) []) (λ _.
    does p (Call [] (Static main) []) (
    does p RunDefers (
    does p (Leave []) nothing)))))
