-- The order on flows by their keys is the order of findings.
use Rattle.std.proofs.Common.{◌≡◌, false, sym, ap, ◌∙◌, inl, inr}
use Rattle.std.specs.Prelude.{◌⊎◌}
use Rattle.std.specs.Ordering.{nat_cmp, ordering_then, is_lt}
use Rattle.std.specs.declared.cmp.Ordering.{Ordering}
use Rattle.std.specs.declared.cmp.Ordering.TheVariants.{Equal, Greater}
use Rattle.argot_facts.specs.Findings.{FlowBefore, by_problem, by_source, by_sink, by_argument}
use Rattle.argot_facts.specs.declared.findings.Flow.{Flow}
use Rattle.argot_flow_ends.specs.Order.{key_of, key_cmp}
use Rattle.argot_graph.proofs.Comparing.{above, level, greater_of, equal_of, not_less}

one_flow : (a b : Flow) → a.problem ≡ b.problem → a.source ≡ b.source → a.sink ≡ b.sink → a.arg ≡ b.arg → a ≡ b
one_flow a b p q r s =
    ap (λ x. record { problem = x; source = a.source; sink = a.sink; arg = a.arg }) p
    ∙ (ap (λ x. record { problem = b.problem; source = x; sink = a.sink; arg = a.arg }) q
    ∙ (ap (λ x. record { problem = b.problem; source = b.source; sink = x; arg = a.arg }) r
    ∙ ap (λ x. record { problem = b.problem; source = b.source; sink = b.sink; arg = x }) s))

-- a flow whose key isn't below that of another is that one or stands behind it
pub behind : (a b : Flow) → is_lt (key_cmp (key_of b) (key_of a)) ≡ false → (a ≡ b) ⊎ FlowBefore a b
behind a b h = elim (not_less (key_cmp (key_of b) (key_of a)) h) [ inl g ↦ inr (before g) | inr e ↦ inl (same e) ]
  where
    by_source' : Ordering
    by_source' = ordering_then (nat_cmp b.problem a.problem) (nat_cmp b.source a.source)

    by_sink' : Ordering
    by_sink' = ordering_then by_source' (nat_cmp b.sink a.sink)

    sources : by_source' ≡ Equal → (a.problem ≡ b.problem) × (a.source ≡ b.source)
    sources e = let p = equal_of (nat_cmp b.problem a.problem) (nat_cmp b.source a.source) e in (sym (level b.problem a.problem p.0), sym (level b.source a.source p.1))

    same : key_cmp (key_of b) (key_of a) ≡ Equal → a ≡ b
    same e =
        let p = equal_of by_sink' (nat_cmp b.arg a.arg) e in
        let q = equal_of by_source' (nat_cmp b.sink a.sink) p.0 in
        let s = sources q.0 in
        one_flow a b s.0 s.1 (sym (level b.sink a.sink q.1)) (sym (level b.arg a.arg p.1))

    before_source : by_source' ≡ Greater → FlowBefore a b
    before_source g = elim (greater_of (nat_cmp b.problem a.problem) (nat_cmp b.source a.source) g) [
      | inl f ↦ by_problem (above b.problem a.problem f)
      | inr p ↦ by_source (sym (level b.problem a.problem p.0)) (above b.source a.source p.1)
    ]

    before_sink : by_sink' ≡ Greater → FlowBefore a b
    before_sink g = elim (greater_of by_source' (nat_cmp b.sink a.sink) g) [
      | inl f ↦ before_source f
      | inr p ↦ let s = sources p.0 in by_sink s.0 s.1 (above b.sink a.sink p.1)
    ]

    before : key_cmp (key_of b) (key_of a) ≡ Greater → FlowBefore a b
    before g = elim (greater_of by_sink' (nat_cmp b.arg a.arg) g) [
      | inl f ↦ before_sink f
      | inr p ↦
          let q = equal_of by_source' (nat_cmp b.sink a.sink) p.0 in
          let s = sources q.0 in
          by_argument s.0 s.1 (sym (level b.sink a.sink q.1)) (above b.arg a.arg p.1)
    ]
