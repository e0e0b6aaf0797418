-- The order on edges by keys, and lists that ascend by it.
use Rattle.std.specs.Prelude.{◌≡◌, ◌⊎◌, ◌↔◌, ℕ, ◌+◌, List, Some, slice_get}
use Rattle.std.specs.Ordering.{nat_cmp, ordering_then}
use Rattle.std.specs.declared.cmp.Ordering.{Ordering}
use Rattle.argot_plain.specs.Lists.{In}
use Rattle.argot_facts.specs.Graphs.{EdgeBefore}
use Rattle.argot_facts.specs.declared.graphs.Edge.{Edge}
use Rattle.argot_facts.specs.declared.graphs.EdgeKind.{EdgeKind}
use Rattle.argot_facts.specs.declared.graphs.EdgeKind.TheVariants.{Plain, Call, Return, Reset}

-- a kind by two numbers: which one it is, and the place of its call
abbrev pub rank_of : EdgeKind → ℕ
rank_of Plain = 0
rank_of (Call c) = 1
rank_of (Return c) = 2
rank_of Reset = 3

abbrev pub call_of : EdgeKind → ℕ
call_of Plain = 0
call_of (Call c) = c
call_of (Return c) = c
call_of Reset = 0

-- what an edge is ordered by
abbrev pub key_of : Edge → ℕ × ℕ × ℕ × ℕ
key_of e = (e.from, e.to, rank_of e.kind, call_of e.kind)

abbrev pub key_cmp : ℕ × ℕ × ℕ × ℕ → ℕ × ℕ × ℕ × ℕ → Ordering
key_cmp x y = ordering_then (ordering_then (ordering_then (nat_cmp x.0 y.0) (nat_cmp x.1 y.1)) (nat_cmp x.2 y.2)) (nat_cmp x.3 y.3)

-- each edge is the one before it or stands behind it
abbrev pub Ascend : List Edge → Type 0
Ascend es = (k : ℕ) (a b : Edge) → slice_get es k ≡ Some a → slice_get es (k + 1) ≡ Some b → (a ≡ b) ⊎ EdgeBefore a b

-- the lists have the same edges
abbrev pub HaveSame : List Edge → List Edge → Type 0
HaveSame xs ys = (e : Edge) → In e xs ↔ In e ys
