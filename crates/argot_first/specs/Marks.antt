-- The flows of main, computed: which registers hold data of one source's call before each step.
use Rattle.std.specs.Prelude.{ℕ, ◌+◌, ◌-◌, List, [], ◌∷◌, ◌++◌, length, replicate, Bool, false, not, ◌&&◌, ◌||◌, ◌==◌, Option, Some, None, slice_get, slice_set, unwrap_or, if◌then◌else◌, codes}
use Rattle.std.specs.Str.{bytes_eq}
use Rattle.argot_first_form.specs.declared.steps.Step.{Step}
use Rattle.argot_first_form.specs.declared.functions.Function.{Function}
use Rattle.argot_first_form.specs.declared.functions.Returned.{Returned}
use Rattle.argot_first_form.specs.declared.functions.Returned.TheVariants as returns
use Rattle.argot_plain.specs.declared.first.Kind.{Kind}
use Rattle.argot_plain.specs.declared.first.Kind.TheVariants.{Op, Move, Call, RunDefers, Leave, Goto, Branch}
use Rattle.argot_first.specs.declared.found.Flow.{Flow}
use Rattle.argot_first.specs.Code.{kind_of, number_of}

-- the kinds of main's steps
abbrev pub kinds_from : List Function → List Step → ℕ → List Step → List Kind
kinds_from functions steps i [] = []
kinds_from functions steps i (s ∷ ss) = kind_of functions steps i s.action ∷ kinds_from functions steps (i + 1) ss

abbrev pub named_source : List ℕ → Bool
named_source n = bytes_eq n (codes "source")

abbrev pub named_sink : List ℕ → Bool
named_sink n = bytes_eq n (codes "sink")

-- a sanitizer that is no source
abbrev pub cleans_name : List ℕ → Bool
cleans_name n = bytes_eq n (codes "sanitize") && not (named_source n)

abbrev pub parameter_returned : List (List ℕ) → Returned → Option ℕ
parameter_returned ps returns.Nothing = None
parameter_returned ps returns.Text = None
parameter_returned ps (returns.Parameter n) = Some (number_of ps n)

-- the parameter whose data the result of a call of the function has
abbrev pub passes_function : Option Function → Option ℕ
passes_function None = None
passes_function (Some f) = if cleans_name f.name then None else parameter_returned f.parameters f.returned

abbrev pub passes : List Function → ℕ → Option ℕ
passes functions g = passes_function (slice_get functions (g - 1))

abbrev pub counts_as : (List ℕ → Bool) → Option Function → Bool
counts_as named None = false
counts_as named (Some f) = named f.name

-- a call of such a function
abbrev pub calls_named : (List ℕ → Bool) → List Function → Kind → Bool
calls_named named functions (Call to g args) = counts_as named (slice_get functions (g - 1))
calls_named named functions (Op to from) = false
calls_named named functions (Move to from) = false
calls_named named functions RunDefers = false
calls_named named functions (Leave from) = false
calls_named named functions (Goto target) = false
calls_named named functions (Branch targets) = false

abbrev pub marked : List Bool → ℕ → Bool
marked marks r = unwrap_or (slice_get marks r) false

abbrev pub marked_at : List Bool → Option ℕ → Bool
marked_at marks None = false
marked_at marks (Some r) = marked marks r

abbrev pub argument_at : List ℕ → Option ℕ → Option ℕ
argument_at args None = None
argument_at args (Some p) = slice_get args p

-- whether the step's result has the data
abbrev pub carries : List Function → List Bool → Kind → Bool
carries functions marks (Move to from) = marked marks from
carries functions marks (Call to g args) = marked_at marks (argument_at args (passes functions g))
carries functions marks (Op to from) = false
carries functions marks RunDefers = false
carries functions marks (Leave from) = false
carries functions marks (Goto target) = false
carries functions marks (Branch targets) = false

-- the register that a step gives
abbrev pub target : Kind → Option ℕ
target (Op to from) = Some to
target (Move to from) = Some to
target (Call to g args) = slice_get to 0
target RunDefers = None
target (Leave from) = None
target (Goto place) = None
target (Branch targets) = None

abbrev pub set_at : List Bool → Option ℕ → Bool → List Bool
set_at marks None value = marks
set_at marks (Some r) value = slice_set marks r value

-- the marks behind the step i, where the source is the step s
abbrev pub marks_after : List Function → ℕ → ℕ → List Bool → Kind → List Bool
marks_after functions s i marks kind = set_at marks (target kind) ((i == s) || carries functions marks kind)

-- the flows into the arguments of a sink at this place, from the argument k on
abbrev pub argument_flows : ℕ → ℕ → List Bool → ℕ → List ℕ → List Flow
argument_flows source sink marks k [] = []
argument_flows source sink marks k (r ∷ rs) =
    (if marked marks r then record { source = source; sink = sink; argument = k } ∷ [] else []) ++ argument_flows source sink marks (k + 1) rs

abbrev pub arguments_of : Kind → List ℕ
arguments_of (Call to g args) = args
arguments_of (Op to from) = []
arguments_of (Move to from) = []
arguments_of RunDefers = []
arguments_of (Leave from) = []
arguments_of (Goto target) = []
arguments_of (Branch targets) = []

abbrev pub step_flows : List Function → ℕ → ℕ → List Bool → Kind → List Flow
step_flows functions source sink marks kind = if calls_named named_sink functions kind then argument_flows source sink marks 0 (arguments_of kind) else []

-- the flows from the step s, where main's step i stands at base + i
unfoldable pub flows_from : List Function → ℕ → ℕ → ℕ → List Bool → List Kind → List Flow
flows_from functions base s i marks [] = []
flows_from functions base s i marks (kind ∷ kinds) = step_flows functions (base + s) (base + i) marks kind ++ flows_from functions base s (i + 1) (marks_after functions s i marks kind) kinds

abbrev pub no_marks : List Kind → List Bool
no_marks kinds = replicate (length kinds) false

-- the flows from the step s, where it calls a source
abbrev pub source_flows : List Function → ℕ → ℕ → Kind → List Kind → List Flow
source_flows functions base s kind all = if calls_named named_source functions kind then flows_from functions base s 0 (no_marks all) all else []

-- the flows from the steps of main that call sources, from the step s on
unfoldable pub all_flows : List Function → ℕ → List Kind → ℕ → List Kind → List Flow
all_flows functions base all s [] = []
all_flows functions base all s (kind ∷ kinds) = source_flows functions base s kind all ++ all_flows functions base all (s + 1) kinds
