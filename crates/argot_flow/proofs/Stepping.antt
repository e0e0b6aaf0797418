-- Steps are the rules of Up and Down.
use Rattle.std.proofs.Common.{◌≡◌, ℕ, suc, ◌+◌, ◌<◌, ◌≤◌, Bool, true, false, Some, List, length, refl, sym, ◌∙◌, subst, arith, inl, inr}
use Rattle.std.specs.Prelude.{slice_get}
use Rattle.std.proofs.lemmas.Bool.{cases_lt}
use Rattle.std.proofs.lemmas.Option.{slice_get_within}
use Rattle.argot_facts.specs.Summaries.{Way, Up, Down, ReachesWithin, up_start, up_plain, up_return, up_reset, up_over, up_again, down_call, down_plain, down_on, down_over}
use Rattle.argot_facts.specs.declared.graphs.EdgeKind.{EdgeKind}
use Rattle.argot_facts.specs.declared.graphs.EdgeKind.TheVariants.{Plain, Call, Return, Reset}
use Rattle.argot_facts.proofs.Listed.{number_of}
use Rattle.argot_facts.specs.declared.graphs.Edge.{Edge}
use Rattle.argot_facts.specs.Reached.{IsEdgeIn}
use Rattle.argot_flow_laws.proofs.Later.{way_later}
use Rattle.argot_flow.specs.Searching.{Keeps, IsVisited, IsState, Grows}
use Rattle.argot_flow.specs.Steps.{way, leads, IsOver, IsStep, by_edge, by_over}
use Rattle.argot_flow.specs.declared.search.Lists.{Lists}
use Rattle.argot_flow.specs.declared.search.Search.{Search}
use Rattle.argot_flow.specs.declared.search.Visit.{Visit}

module _ (E : ℕ → EdgeKind → ℕ → Type 0) where
  edge_within : {s m n r : ℕ} (d e : Bool) (kind : EdgeKind) → ReachesWithin E s (way d) r m → E m kind n → leads d kind ≡ Some e → ReachesWithin E s (way e) (suc r) n
  edge_within {s} {m} {n} {r} false e Plain h x q = let a : false ≡ e = cc in subst (λ b. ReachesWithin E s (way b) (suc r) n) a (up_plain m h x)
  edge_within {s} {m} {n} {r} false e (Call c) h x q = let a : true ≡ e = cc in subst (λ b. ReachesWithin E s (way b) (suc r) n) a (down_call m h x)
  edge_within {s} {m} {n} {r} false e (Return c) h x q = let a : false ≡ e = cc in subst (λ b. ReachesWithin E s (way b) (suc r) n) a (up_return m h x)
  edge_within {s} {m} {n} {r} false e Reset h x q = let a : false ≡ e = cc in subst (λ b. ReachesWithin E s (way b) (suc r) n) a (up_reset m h x)
  edge_within {s} {m} {n} {r} true e Plain h x q = let a : true ≡ e = cc in subst (λ b. ReachesWithin E s (way b) (suc r) n) a (down_plain m h x)
  edge_within {s} {m} {n} {r} true e (Call c) h x q = let a : true ≡ e = cc in subst (λ b. ReachesWithin E s (way b) (suc r) n) a (down_on m h x)
  edge_within true e (Return c) h x q = absurd cc
  edge_within {s} {m} {n} {r} true e Reset h x q = let a : false ≡ e = cc in subst (λ b. ReachesWithin E s (way b) (suc r) n) a (up_again m h x)

  over_within : {s m n r : ℕ} (d : Bool) → ReachesWithin E s (way d) r m → IsOver E m n → ReachesWithin E s (way d) (suc r) n
  over_within {m = m} false h o = up_over m o.q o.l o.c h o.call o.within o.back
  over_within {m = m} true h o = down_over m o.q o.l o.c h o.call o.within o.back

  -- a step from any lower rank
  pub step_below : (s m n r k : ℕ) (d e : Bool) → ReachesWithin E s (way d) r m → r < k → IsStep E d m e n → ReachesWithin E s (way e) k n
  step_below s m n r k d e h less (by_edge kind x q) = way_later E (suc r) k less (edge_within d e kind h x q)
  step_below s m n r k d e h less (by_over o) = way_later E (suc r) k less (over_within d h o)

  -- what is closed under steps has all that is reached
  module _ (s : ℕ) (vs : List Visit) (start : IsVisited vs false s 0)
      (closed : (i : ℕ) (v : Visit) (e : Bool) (n : ℕ) → slice_get vs i ≡ Some v → IsStep E v.down v.node e n → IsVisited vs e n (v.rank + 1)) where
    more : (d : Bool) (n r k : ℕ) → r ≤ k → IsVisited vs d n r → IsVisited vs d n k
    more d n r k l t = record { at = t.at; visit = t.visit; is = t.is; down = t.down; node = t.node; rank = omega (arith, t.rank, l) }

    stepped : (d e : Bool) (m n r : ℕ) → IsVisited vs d m r → IsStep E d m e n → IsVisited vs e n (suc r)
    stepped d e m n r t x =
        let y = subst (λ a. IsStep E a t.visit.node e n) (sym t.down) (subst (λ a. IsStep E d a e n) (sym t.node) x) in
        more e n (t.visit.rank + 1) (suc r) (omega (arith, t.rank)) (closed t.at t.visit e n t.is y)

    -- as a flag
    abbrev has_way : Way → ℕ → ℕ → Type 0
    has_way Up n r = IsVisited vs false n r
    has_way Down n r = IsVisited vs true n r

    reached : {w : Way} {n r : ℕ} → ReachesWithin E s w r n → has_way w n r
    reached {r = r} up_start = more false s 0 r (omega arith) start
    reached {n = n} (up_plain {r = r} m h x) = stepped false false m n r (reached h) (by_edge Plain x refl)
    reached {n = n} (up_return {r = r} {c = c} m h x) = stepped false false m n r (reached h) (by_edge (Return c) x refl)
    reached {n = n} (up_reset {r = r} m h x) = stepped false false m n r (reached h) (by_edge Reset x refl)
    reached {n = n} (up_over {r = r} m q l c h x g y) = stepped false false m n r (reached h) (by_over (record { q = q; l = l; c = c; call = x; within = g; back = y }))
    reached {n = n} (up_again {r = r} m h x) = stepped true false m n r (reached h) (by_edge Reset x refl)
    reached {n = n} (down_call {r = r} {c = c} m h x) = stepped false true m n r (reached h) (by_edge (Call c) x refl)
    reached {n = n} (down_plain {r = r} m h x) = stepped true true m n r (reached h) (by_edge Plain x refl)
    reached {n = n} (down_on {r = r} {c = c} m h x) = stepped true true m n r (reached h) (by_edge (Call c) x refl)
    reached {n = n} (down_over {r = r} m q l c h x g y) = stepped true true m n r (reached h) (by_over (record { q = q; l = l; c = c; call = x; within = g; back = y }))

    pub all_reached : (d : Bool) (r n : ℕ) → ReachesWithin E s (way d) r n → IsVisited vs d n r
    all_reached false r n h = reached h
    all_reached true r n h = reached h

pub keeps_none : (vs : List Visit) → Keeps vs vs
keeps_none vs = record { longer = omega arith; each = λ i v h. h; back = λ i v l h. h }

pub keeps_on : (a b c : List Visit) → Keeps a b → Keeps b c → Keeps a c
keeps_on a b c x y = record {
  longer = omega (arith, x.longer, y.longer);
  each = λ i v h. y.each i v (x.each i v h);
  back = λ i v l h. x.back i v l (y.back i v (omega (arith, l, x.longer)) h);
}

pub visited_on : (a b : List Visit) → Keeps a b → (d : Bool) (n k : ℕ) → IsVisited a d n k → IsVisited b d n k
visited_on a b x d n k t = record { at = t.at; visit = t.visit; is = x.each t.at t.visit t.is; down = t.down; node = t.node; rank = t.rank }

pub grows_none : (y : Lists) (s : Search) (k : ℕ) → IsState y s k → Grows y s s k
grows_none y s k h = record { state = h; keeps = keeps_none s.visits.items; late = λ i v l at. absurd (omega (arith, l, slice_get_within s.visits.items i v at)); from = refl }

pub grows_on : (y : Lists) (s t u : Search) (k : ℕ) → Grows y s t k → Grows y t u k → Grows y s u k
grows_on y s t u k a b = record {
  state = b.state;
  keeps = keeps_on s.visits.items t.visits.items u.visits.items a.keeps b.keeps;
  late = λ i v l at. elim (cases_lt i (length t.visits.items)) [
    | inl less ↦ a.late i v l (b.keeps.back i v less at)
    | inr past ↦ b.late i v past at
  ];
  from = b.from ∙ a.from;
}

-- what edges and calls lead to is all that steps lead to
pub steps_done : (es : List Edge) (vs : List Visit) (a d : Bool) (m n r : ℕ)
    → ((e : Edge) (k : ℕ) (b : Bool) → slice_get es k ≡ Some e → e.from ≡ m → leads a e.kind ≡ Some b → IsVisited vs b e.to r)
    → ((o : ℕ) → IsOver (IsEdgeIn es) m o → IsVisited vs a o r)
    → IsStep (IsEdgeIn es) a m d n → IsVisited vs d n r
steps_done es vs a d m n r edges overs (by_edge kind x q) =
    let e : Edge = record { from = m; to = n; kind = kind } in
    let k = number_of e es x in
    edges e k.0 d k.1 refl q
steps_done es vs a d m n r edges overs (by_over o) = overs n o
