-- The order on edges by their keys is the order of graphs.
use Rattle.std.proofs.Common.{◌≡◌, ◌<◌, false, refl, sym, ap, ◌∙◌, inl, inr, arith}
use Rattle.std.specs.Prelude.{◌⊎◌}
use Rattle.std.specs.Ordering.{nat_cmp, ordering_then, is_lt}
use Rattle.std.specs.declared.cmp.Ordering.{Ordering}
use Rattle.std.specs.declared.cmp.Ordering.TheVariants.{Equal, Greater}
use Rattle.argot_facts.specs.Graphs.{EdgeBefore, by_from, by_to, by_kind, KindBefore, plain_call, plain_return, plain_reset, call_call, call_return, call_reset, return_return, return_reset}
use Rattle.argot_facts.specs.declared.graphs.Edge.{Edge}
use Rattle.argot_facts.specs.declared.graphs.EdgeKind.{EdgeKind}
use Rattle.argot_facts.specs.declared.graphs.EdgeKind.TheVariants.{Plain, Call, Return, Reset}
use Rattle.argot_graph.specs.Order.{rank_of, call_of, key_of, key_cmp}
use Rattle.argot_graph.proofs.Comparing.{above, level, greater_of, equal_of, not_less}

-- two kinds with the same numbers are one
one_kind : (a b : EdgeKind) → rank_of b ≡ rank_of a → call_of b ≡ call_of a → a ≡ b
one_kind Plain Plain r c = refl
one_kind Plain (Call d) r c = absurd cc
one_kind Plain (Return d) r c = absurd cc
one_kind Plain Reset r c = absurd cc
one_kind (Call d) Plain r c = absurd cc
one_kind (Call d) (Call e) r c = ap Call (sym c)
one_kind (Call d) (Return e) r c = absurd cc
one_kind (Call d) Reset r c = absurd cc
one_kind (Return d) Plain r c = absurd cc
one_kind (Return d) (Call e) r c = absurd cc
one_kind (Return d) (Return e) r c = ap Return (sym c)
one_kind (Return d) Reset r c = absurd cc
one_kind Reset Plain r c = absurd cc
one_kind Reset (Call d) r c = absurd cc
one_kind Reset (Return d) r c = absurd cc
one_kind Reset Reset r c = refl

-- a lesser rank comes first
lower_rank : (a b : EdgeKind) → rank_of a < rank_of b → KindBefore a b
lower_rank Plain Plain l = absurd (omega arith)
lower_rank Plain (Call d) l = plain_call
lower_rank Plain (Return d) l = plain_return
lower_rank Plain Reset l = plain_reset
lower_rank (Call d) Plain l = absurd (omega arith)
lower_rank (Call d) (Call e) l = absurd (omega arith)
lower_rank (Call d) (Return e) l = call_return
lower_rank (Call d) Reset l = call_reset
lower_rank (Return d) Plain l = absurd (omega arith)
lower_rank (Return d) (Call e) l = absurd (omega arith)
lower_rank (Return d) (Return e) l = absurd (omega arith)
lower_rank (Return d) Reset l = return_reset
lower_rank Reset Plain l = absurd (omega arith)
lower_rank Reset (Call d) l = absurd (omega arith)
lower_rank Reset (Return d) l = absurd (omega arith)
lower_rank Reset Reset l = absurd (omega arith)

-- and so does an earlier call of the same rank
earlier_call : (a b : EdgeKind) → rank_of b ≡ rank_of a → call_of a < call_of b → KindBefore a b
earlier_call Plain Plain r l = absurd (omega arith)
earlier_call Plain (Call d) r l = absurd cc
earlier_call Plain (Return d) r l = absurd cc
earlier_call Plain Reset r l = absurd cc
earlier_call (Call d) Plain r l = absurd cc
earlier_call (Call d) (Call e) r l = call_call l
earlier_call (Call d) (Return e) r l = absurd cc
earlier_call (Call d) Reset r l = absurd cc
earlier_call (Return d) Plain r l = absurd cc
earlier_call (Return d) (Call e) r l = absurd cc
earlier_call (Return d) (Return e) r l = return_return l
earlier_call (Return d) Reset r l = absurd cc
earlier_call Reset Plain r l = absurd cc
earlier_call Reset (Call d) r l = absurd cc
earlier_call Reset (Return d) r l = absurd cc
earlier_call Reset Reset r l = absurd (omega arith)

one_edge : (a b : Edge) → a.from ≡ b.from → a.to ≡ b.to → a.kind ≡ b.kind → a ≡ b
one_edge a b p q r =
    ap (λ x. record { from = x; to = a.to; kind = a.kind }) p
    ∙ (ap (λ x. record { from = b.from; to = x; kind = a.kind }) q ∙ ap (λ x. record { from = b.from; to = b.to; kind = x }) r)

-- an edge whose key isn't below that of another is that one or stands behind it
pub behind : (a b : Edge) → is_lt (key_cmp (key_of b) (key_of a)) ≡ false → (a ≡ b) ⊎ EdgeBefore a b
behind a b h = elim (not_less (key_cmp (key_of b) (key_of a)) h) [ inl g ↦ inr (before g) | inr e ↦ inl (same e) ]
  where
    by_ends : Ordering
    by_ends = ordering_then (nat_cmp b.from a.from) (nat_cmp b.to a.to)

    by_rank : Ordering
    by_rank = ordering_then by_ends (nat_cmp (rank_of b.kind) (rank_of a.kind))

    ends : by_ends ≡ Equal → (a.from ≡ b.from) × (a.to ≡ b.to)
    ends e = let p = equal_of (nat_cmp b.from a.from) (nat_cmp b.to a.to) e in (sym (level b.from a.from p.0), sym (level b.to a.to p.1))

    same : key_cmp (key_of b) (key_of a) ≡ Equal → a ≡ b
    same e =
        let p = equal_of by_rank (nat_cmp (call_of b.kind) (call_of a.kind)) e in
        let q = equal_of by_ends (nat_cmp (rank_of b.kind) (rank_of a.kind)) p.0 in
        let s = ends q.0 in
        one_edge a b s.0 s.1 (one_kind a.kind b.kind (level (rank_of b.kind) (rank_of a.kind) q.1) (level (call_of b.kind) (call_of a.kind) p.1))

    by_end : by_ends ≡ Greater → EdgeBefore a b
    by_end g = elim (greater_of (nat_cmp b.from a.from) (nat_cmp b.to a.to) g) [
      | inl f ↦ by_from (above b.from a.from f)
      | inr p ↦ by_to (sym (level b.from a.from p.0)) (above b.to a.to p.1)
    ]

    by_kinds : by_rank ≡ Greater → EdgeBefore a b
    by_kinds g = elim (greater_of by_ends (nat_cmp (rank_of b.kind) (rank_of a.kind)) g) [
      | inl f ↦ by_end f
      | inr p ↦ let s = ends p.0 in by_kind s.0 s.1 (lower_rank a.kind b.kind (above (rank_of b.kind) (rank_of a.kind) p.1))
    ]

    before : key_cmp (key_of b) (key_of a) ≡ Greater → EdgeBefore a b
    before g = elim (greater_of by_rank (nat_cmp (call_of b.kind) (call_of a.kind)) g) [
      | inl f ↦ by_kinds f
      | inr p ↦
          let q = equal_of by_ends (nat_cmp (rank_of b.kind) (rank_of a.kind)) p.0 in
          let s = ends q.0 in
          by_kind s.0 s.1 (earlier_call a.kind b.kind (level (rank_of b.kind) (rank_of a.kind) q.1) (above (call_of b.kind) (call_of a.kind) p.1))
    ]
