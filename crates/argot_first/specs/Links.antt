-- The flows of main, computed in one walk: each register leads to the nearest call of a source whose data it holds, and each such call to the next one.
use Rattle.std.specs.Prelude.{◌≡◌, ℕ, zero, suc, ◌+◌, ◌<◌, ◌≤◌, List, [], ◌∷◌, ◌++◌, length, Bool, true, false, ◌||◌, ◌==◌, Option, Some, None, slice_get, slice_set, slice_index, slice_index_or, unwrap_or, if◌then◌else◌}
use Rattle.argot_first_form.specs.declared.functions.Function.{Function}
use Rattle.argot_plain.specs.declared.first.Kind.{Kind}
use Rattle.argot_plain.specs.declared.first.Kind.TheVariants.{Op, Move, Call, RunDefers, Leave, Goto, Branch}
use Rattle.argot_first.specs.declared.found.Flow.{Flow}
use Rattle.argot_first.specs.Marks.{named_source, named_sink, calls_named, argument_at, arguments_of, passes, target, no_marks, flows_from}

-- where a register leads: 0 where it holds no source's data, else one more than the nearest source's step
abbrev pub link_at : List ℕ → ℕ → ℕ
link_at heads r = unwrap_or (slice_get heads r) 0

abbrev pub link_in : List ℕ → Option ℕ → ℕ
link_in heads None = 0
link_in heads (Some r) = link_at heads r

-- where the data leads that a step hands on
abbrev pub handed : List Function → List ℕ → Kind → ℕ
handed functions heads (Move to from) = link_at heads from
handed functions heads (Call to g args) = link_in heads (argument_at args (passes functions g))
handed functions heads (Op to from) = 0
handed functions heads RunDefers = 0
handed functions heads (Leave from) = 0
handed functions heads (Goto target) = 0
handed functions heads (Branch targets) = 0

abbrev pub set_link : List ℕ → Option ℕ → ℕ → List ℕ
set_link heads None link = heads
set_link heads (Some r) link = slice_set heads r link

-- where the result of the step i leads: to itself, where it calls a source
abbrev pub result_link : List Function → ℕ → List ℕ → Kind → ℕ
result_link functions i heads kind = if calls_named named_source functions kind then i + 1 else handed functions heads kind

-- the registers behind the step i
abbrev pub heads_after : List Function → ℕ → List ℕ → Kind → List ℕ
heads_after functions i heads kind = set_link heads (target kind) (result_link functions i heads kind)

-- behind each step, where the data leads that it hands on
abbrev pub nexts_after : List Function → List ℕ → List ℕ → Kind → List ℕ
nexts_after functions heads nexts kind = nexts ++ handed functions heads kind ∷ []

-- whether the source's step s is one of the first k calls that a link leads to
abbrev pub leads : ℕ → List ℕ → ℕ → ℕ → Bool
leads zero nexts s link = false
leads (suc k) nexts s zero = false
leads (suc k) nexts s (suc j) = (j == s) || leads k nexts s (slice_index nexts j)

-- no more calls than the link says
abbrev pub leads_to : List ℕ → ℕ → ℕ → Bool
leads_to nexts s link = leads link nexts s link

-- each call leads to an earlier one, or to none
abbrev pub AreDown : List ℕ → Type 0
AreDown nexts = (j : ℕ) → slice_index nexts j ≤ j

-- the registers lead to these calls alone
abbrev pub AreWithin : List ℕ → ℕ → Type 0
AreWithin heads n = (r : ℕ) → link_at heads r ≤ n

-- the flows of one step, by number
abbrev pub bucket : List (List Flow) → ℕ → List Flow
bucket buckets s = slice_index_or buckets s []

-- the flow from the step s into an argument, where its register leads there
abbrev pub flow_along : List ℕ → ℕ → ℕ → ℕ → ℕ → ℕ → List Flow
flow_along nexts base sink k link s = if leads_to nexts s link then record { source = base + s; sink = sink; argument = k } ∷ [] else []

-- the flows from the step s into the arguments of a sink, from the argument k on
abbrev pub flows_along : List ℕ → List ℕ → ℕ → ℕ → ℕ → ℕ → List ℕ → List Flow
flows_along nexts heads base sink s k [] = []
flows_along nexts heads base sink s k (r ∷ rs) = flow_along nexts base sink k (link_at heads r) s ++ flows_along nexts heads base sink s (k + 1) rs

abbrev pub step_along : List Function → List ℕ → List ℕ → ℕ → ℕ → ℕ → Kind → List Flow
step_along functions nexts heads base sink s kind = if calls_named named_sink functions kind then flows_along nexts heads base sink s 0 (arguments_of kind) else []

-- each step of main has the flows of this list more
abbrev pub Adds : List (List Flow) → List (List Flow) → (ℕ → List Flow) → Type 0
Adds old new more = (s : ℕ) → s < length old → bucket new s ≡ bucket old s ++ more s

-- for each step of main that calls a source the flows from it
pub record AreBuckets (functions : List Function) (base : ℕ) (kinds : List Kind) (buckets : List (List Flow)) : Type 0 where
  pub number : length buckets ≡ length kinds
  pub flows : (s : ℕ) (kind : Kind) → slice_get kinds s ≡ Some kind → calls_named named_source functions kind ≡ true → bucket buckets s ≡ flows_from functions base s 0 (no_marks kinds) kinds
