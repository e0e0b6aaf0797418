-- Reading from left to right, computed.
use Rattle.std.specs.Prelude.{◌≡◌, ℕ, zero, suc, ◌-◌, List, [], ◌∷◌, ◌++◌, length, take, drop, Bool, Option, Some, None, Result, Ok, Err, if◌then◌else◌, codes, ◌==◌}
use Rattle.std.specs.List.{starts_with, prefix_len, list_all}
use Rattle.std.specs.Bool.{nat_eq}
use Rattle.std.specs.Char.{is_ascii_alphanumeric}
use Rattle.argot_first_form.specs.declared.fault.Fault.{Fault}
use Rattle.argot_first_form.specs.declared.fault.Fault.TheVariants as faults
use Rattle.argot_first_form.specs.declared.steps.Operand.{Operand}
use Rattle.argot_first_form.specs.declared.steps.Operand.TheVariants as operands
use Rattle.argot_first_form.specs.declared.steps.Action.{Action}
use Rattle.argot_first_form.specs.declared.steps.Action.TheVariants as actions
use Rattle.argot_first_form.specs.declared.steps.Step.{Step}
use Rattle.argot_first_form.specs.declared.functions.Function.{Function}
use Rattle.argot_first_form.specs.declared.functions.Returned.{Returned}
use Rattle.argot_first_form.specs.declared.functions.Returned.TheVariants as returns
use Rattle.argot_first_form.specs.declared.lines.Program.{Program}
use Rattle.argot_first_form.specs.Bytes.{is_name, is_quotable}
use Rattle.argot_first_form.specs.Front.{Front}

-- what was read, and what is left
abbrev pub Answer : Type 0 → Type 0
Answer X = Option (X × Front)

infixl 10 ◌>>=◌
abbrev pub ◌>>=◌ : {A B : Type 0} → Option A → (A → Option B) → Option B
None >>= f = None
(Some r) >>= f = f r

abbrev pub begins : List ℕ → Front → Bool
begins text f = starts_with nat_eq f.rest text

-- behind the first n bytes
abbrev pub behind : ℕ → Front → Front
behind n f = record f { rest = drop n f.rest }

-- behind a text that must stand there
abbrev pub past : List ℕ → Front → Option Front
past text f = if begins text f then Some (behind (length text) f) else None

abbrev pub word_of : Front → List ℕ
word_of f = take (prefix_len is_ascii_alphanumeric f.rest) f.rest

unfoldable pub name : Front → Answer (List ℕ)
name f = if is_name (word_of f) then Some (word_of f, behind (length (word_of f)) f) else None

abbrev pub quotable_of : Front → List ℕ
quotable_of f = take (prefix_len is_quotable f.rest) f.rest

-- a text in quotes
unfoldable pub quoted : Front → Option Front
quoted f = past (34 ∷ []) f >>= λ g. past (34 ∷ []) (behind (length (quotable_of g)) g)

-- the place in the file
abbrev pub place : Front → ℕ
place f = f.total - length f.rest

abbrev pub pushed : ℕ → Action → Front → Front
pushed at action f = record f { steps = f.steps ++ record { at = at; action = action } ∷ [] }

-- the operand that the next step gives
abbrev pub next_step : Front → Operand
next_step f = operands.Step (length f.steps)

abbrev pub finished_call : ℕ → List ℕ → List Operand × Front → Answer Operand
finished_call at f r = Some (next_step r.1, pushed at (actions.Call f r.0) r.1)

abbrev pub Arguments : Type 0
Arguments = Front → Answer (List Operand)

-- the arguments behind an opening bracket, and the closing one
abbrev pub arguments_by : Arguments → Front → Answer (List Operand)
arguments_by rec f =
    if begins (41 ∷ []) f then Some ([], behind 1 f)
    else (rec f >>= λ r. (past (41 ∷ []) r.1 >>= λ g. Some (r.0, g)))

-- a call whose name was read, from its opening bracket on
abbrev pub call_by : Arguments → ℕ → List ℕ → Front → Answer Operand
call_by rec at f g = past (40 ∷ []) g >>= λ h. (arguments_by rec h >>= finished_call at f)

abbrev pub named_by : Arguments → ℕ → List ℕ × Front → Answer Operand
named_by rec at r =
    if begins (40 ∷ []) r.1 then call_by rec at r.0 r.1 else Some (operands.Variable r.0, r.1)

abbrev pub value_by : Arguments → Front → Answer Operand
value_by rec f =
    if begins (34 ∷ []) f then (quoted f >>= λ g. Some (next_step g, pushed (place f) actions.Text g))
    else (name f >>= named_by rec (place f))

-- a value, and values with commas between behind those that were read, with at most so many calls within each other
unfoldable mutual
  pub value : ℕ → Front → Answer Operand
  value zero f = None
  value (suc n) f = value_by (arguments n []) f

  pub arguments : ℕ → List Operand → Front → Answer (List Operand)
  arguments zero read f = None
  arguments (suc n) read f =
      value n f >>= λ r. (if begins (codes ", ") r.1 then arguments n (read ++ r.0 ∷ []) (behind 2 r.1) else Some (read ++ r.0 ∷ [], r.1))

abbrev pub finished : ℕ → (Operand → Action) → Operand × Front → Option Front
finished at action r = Some (pushed at (action r.0) r.1)

-- a statement that begins at this place and whose first name was read
unfoldable pub statement_behind : ℕ → List ℕ → Front → Option Front
statement_behind at n f =
    if begins (codes " := ") f then (value f.total (behind 4 f) >>= finished at (λ v. actions.Define n v))
    else (if begins (codes " = ") f then (value f.total (behind 3 f) >>= finished at (λ v. actions.Assign n v))
    else (call_by (arguments f.total []) at n f >>= λ q. Some q.1))

unfoldable pub statement : Front → Option Front
statement f = name f >>= λ r. statement_behind (place f) r.0 r.1

-- at most so many lines of main
unfoldable pub body : ℕ → Front → Option Front
body zero f = None
body (suc n) f =
    if begins (codes "\t") f then ((statement (behind 1 f) >>= past (10 ∷ [])) >>= body n) else Some f

-- what a function gives back
unfoldable pub atom : Front → Answer Returned
atom f =
    if begins (34 ∷ []) f then (quoted f >>= λ g. Some (returns.Text, g))
    else (name f >>= λ r. Some (returns.Parameter r.0, r.1))

abbrev pub closed : Returned × Front → Answer Returned
closed r = past (codes " }") r.1 >>= λ h. Some (r.0, h)

-- a function's result behind its parameters
unfoldable pub returned : Front → Answer Returned
returned f =
    if begins (codes ") {}") f then Some (returns.Nothing, behind 4 f)
    else (past (codes ") string { return ") f >>= λ g. (atom g >>= closed))

-- at most so many parameters behind those that were read
unfoldable pub parameters : ℕ → List (List ℕ) → Front → Answer (List (List ℕ))
parameters zero read f = None
parameters (suc n) read f =
    name f >>= λ r. (past (codes " string") r.1 >>= λ g. (if begins (codes ", ") g then parameters n (read ++ r.0 ∷ []) (behind 2 g) else Some (read ++ r.0 ∷ [], g)))

abbrev pub all_parameters : Front → Answer (List (List ℕ))
all_parameters f = if begins (41 ∷ []) f then Some ([], f) else parameters f.total [] f

unfoldable pub function : Front → Answer Function
function f =
    past (codes "func ") f >>= λ g. (name g >>= λ r. (past (40 ∷ []) r.1 >>= λ h. (all_parameters h >>= λ ps. (returned ps.1 >>= λ b. (past (10 ∷ []) b.1 >>= λ e. Some (record { name = r.0; parameters = ps.0; returned = b.0 }, e))))))

abbrev pub main_line : List ℕ
main_line = codes "func main() {" ++ 10 ∷ []

-- at most so many lines before main, behind the functions that were read, and main's first line
unfoldable pub items : ℕ → List Function → Front → Answer (List Function)
items zero read f = None
items (suc n) read f =
    if begins (10 ∷ []) f then items n read (behind 1 f)
    else (if begins main_line f then Some (read, behind 14 f)
    else (function f >>= λ r. items n (read ++ r.0 ∷ []) r.1))

abbrev pub ending : Front → Bool
ending f = list_all (λ b. b == 10) f.rest

abbrev pub opening : List ℕ → Front
opening bytes = record { total = length bytes; rest = bytes; steps = [] }

-- main behind its first line, up to the end of the file
unfoldable pub main_behind : Front → Option Front
main_behind f = body f.total f >>= λ g. (past (codes "}" ++ 10 ∷ []) g >>= λ h. (if ending h then Some h else None))

-- the functions and the steps of a whole text
unfoldable pub read : List ℕ → Option (List Function × List Step)
read bytes =
    past (codes "package main" ++ 10 ∷ []) (opening bytes) >>= λ f. (items f.total [] f >>= λ r. (main_behind r.1 >>= λ h. Some (r.0, h.steps)))

-- what reading a whole text gives
abbrev pub IsRead : Result Program Fault → Option (List Function × List Step) → Type 0
IsRead (Ok p) answer = answer ≡ Some (p.functions, p.steps)
IsRead (Err faults.OtherForm) answer = answer ≡ None
IsRead (Err faults.Memory) answer = Unit {0}

-- what a call gives, where want of memory is free
abbrev pub Gives : {X Y : Type 0} → (X → Y) → Result X Fault → Front → Answer Y → Type 0
Gives view (Ok x) new answer = answer ≡ Some (view x, new)
Gives view (Err faults.OtherForm) new answer = answer ≡ None
Gives view (Err faults.Memory) new answer = Unit {0}

abbrev pub Moves : {X : Type 0} → Result X Fault → Front → Option Front → Type 0
Moves (Ok x) new answer = answer ≡ Some new
Moves (Err faults.OtherForm) new answer = answer ≡ None
Moves (Err faults.Memory) new answer = Unit {0}
