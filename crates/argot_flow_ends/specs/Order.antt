-- The order on flows by keys, and lists that ascend by it.
use Rattle.std.specs.Prelude.{◌≡◌, ◌⊎◌, ◌↔◌, ℕ, ◌+◌, List, Some, slice_get}
use Rattle.std.specs.Ordering.{nat_cmp, ordering_then}
use Rattle.std.specs.declared.cmp.Ordering.{Ordering}
use Rattle.argot_plain.specs.Lists.{In}
use Rattle.argot_facts.specs.Findings.{FlowBefore}
use Rattle.argot_facts.specs.declared.findings.Flow.{Flow}

-- what a flow is ordered by
abbrev pub key_of : Flow → ℕ × ℕ × ℕ × ℕ
key_of f = (f.problem, f.source, f.sink, f.arg)

abbrev pub key_cmp : ℕ × ℕ × ℕ × ℕ → ℕ × ℕ × ℕ × ℕ → Ordering
key_cmp x y = ordering_then (ordering_then (ordering_then (nat_cmp x.0 y.0) (nat_cmp x.1 y.1)) (nat_cmp x.2 y.2)) (nat_cmp x.3 y.3)

-- each flow is the one before it or stands behind it
abbrev pub Ascend : List Flow → Type 0
Ascend fs = (k : ℕ) (a b : Flow) → slice_get fs k ≡ Some a → slice_get fs (k + 1) ≡ Some b → (a ≡ b) ⊎ FlowBefore a b

-- the lists have the same flows
abbrev pub HaveSame : List Flow → List Flow → Type 0
HaveSame xs ys = (f : Flow) → In f xs ↔ In f ys
