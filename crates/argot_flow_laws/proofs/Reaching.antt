-- Each node that is reached has a parent, and a trace.
use Rattle.std.proofs.Common.{◌≡◌, ℕ, zero, suc, ◌<◌, ◌≤◌, List, [], ◌∷◌, ◌++◌, refl, sym, ap, subst, inl, inr, arith}
use Rattle.std.proofs.lemmas.Bool.{cases_lt, cases_eq}
use Rattle.argot_plain.specs.Lists.{In, here, there}
use Rattle.argot_facts.proofs.Listed.{In-left, In-right}
use Rattle.argot_facts.specs.Parents.{Use, use_start, use_call, use_plain, use_return, use_reset, use_on, use_over, use_again, GivesWay, WayParent}
use Rattle.argot_facts.specs.Summaries.{Way, Up, Down, SameWithin, IsSame, HasRank, ReachesWithin, ReachRank}
use Rattle.argot_facts.specs.Summaries as sums
use Rattle.argot_facts.specs.Traces.{hop, SameHops, WayHops, BetterWay, IsTraceTo}
use Rattle.argot_facts.specs.Traces as traces
use Rattle.argot_facts.specs.declared.findings.Hop.{Hop}
use Rattle.argot_facts.specs.declared.findings.HopKind.TheVariants as drawn
use Rattle.argot_facts.specs.declared.graphs.Edge.{Edge}
use Rattle.argot_facts.specs.declared.graphs.EdgeKind.TheVariants.{Plain, Call, Return, Reset}
use Rattle.argot_facts.specs.declared.summaries.Same.{Same}
use Rattle.argot_facts.specs.Reached.{IsEdgeIn, Reaches}
use Rattle.argot_facts.specs.Summed.{AreSummaries}
use Rattle.argot_flow_laws.specs.Ranked.{HasRanks}
use Rattle.argot_flow_laws.proofs.Choosing.{before_key, choose}
use Rattle.argot_flow_laws.proofs.Unfolding.{Decided, overs, site, in_overs, edge_is, edge_cases, edge, has_rank, ranked, none_below, unfolds}

abbrev pub singles : List Edge → List Use
singles [] = []
singles (e ∷ es) = use_call e.from ∷ use_plain e.from ∷ use_return e.from ∷ use_reset e.from ∷ use_on e.from ∷ use_again e.from ∷ singles es

abbrev pub all_uses : List Edge → List Use
all_uses es = use_start ∷ (singles es ++ overs es es)

in_singles : (f : Edge) (es : List Edge) → In f es → (In (use_call f.from) (singles es)) × (In (use_plain f.from) (singles es)) × (In (use_return f.from) (singles es)) × (In (use_reset f.from) (singles es)) × (In (use_on f.from) (singles es)) × (In (use_again f.from) (singles es))
in_singles f (e ∷ es) (here q) =
    let a : f.from ≡ e.from = ap (λ (x : Edge). x.from) q in
    (here (ap use_call a), there (here (ap use_plain a)), there (there (here (ap use_return a))), there (there (there (here (ap use_reset a)))), there (there (there (there (here (ap use_on a))))), there (there (there (there (there (here (ap use_again a)))))))
in_singles f (e ∷ es) (there m) =
    let r = in_singles f es m in
    (past r.0, past r.1, past r.2, past r.3, past r.4, past r.5)
  where
    past : {u : Use} → In u (singles es) → In u (use_call e.from ∷ use_plain e.from ∷ use_return e.from ∷ use_reset e.from ∷ use_on e.from ∷ use_again e.from ∷ singles es)
    past h = there (there (there (there (there (there h)))))
in_singles f [] m = elim m [ ]

-- an edge of this kind, with any place
passed : {x y : Edge} {ys : List Edge} → In x (y ∷ ys) → (x ≡ y → ⊥) → (In x ys → ⊥) → ⊥
passed (here q) bad none = bad q
passed (there m) bad none = none m

none_in : {x : Edge} → In x [] → ⊥
none_in m = elim m [ ]

call_is : (e : Edge) (a b : ℕ) → Decided ((c : ℕ) × (edge a (Call c) b ≡ e))
call_is e a b = elim (edge_is e a b (Call (site e.kind))) [
  | inl q ↦ inl (site e.kind, q)
  | inr bad ↦ inr (λ h. bad (subst (λ c. edge a (Call c) b ≡ e) (ap (λ (x : Edge). site x.kind) h.1) h.1))
]

some_call : (es : List Edge) (a b : ℕ) → Decided ((c : ℕ) × IsEdgeIn es a (Call c) b)
some_call [] a b = inr (λ m. none_in m.1)
some_call (e ∷ es) a b = elim (call_is e a b) [
  | inl q ↦ inl (q.0, here q.1)
  | inr bad ↦ elim (some_call es a b) [ inl m ↦ inl (m.0, there m.1) | inr none ↦ inr (λ m. passed m.1 (λ q. bad (m.0, q)) (λ h. none (m.0, h))) ]
]

return_is : (e : Edge) (a b : ℕ) → Decided ((c : ℕ) × (edge a (Return c) b ≡ e))
return_is e a b = elim (edge_is e a b (Return (site e.kind))) [
  | inl q ↦ inl (site e.kind, q)
  | inr bad ↦ inr (λ h. bad (subst (λ c. edge a (Return c) b ≡ e) (ap (λ (x : Edge). site x.kind) h.1) h.1))
]

some_return : (es : List Edge) (a b : ℕ) → Decided ((c : ℕ) × IsEdgeIn es a (Return c) b)
some_return [] a b = inr (λ m. none_in m.1)
some_return (e ∷ es) a b = elim (return_is e a b) [
  | inl q ↦ inl (q.0, here q.1)
  | inr bad ↦ elim (some_return es a b) [ inl m ↦ inl (m.0, there m.1) | inr none ↦ inr (λ m. passed m.1 (λ q. bad (m.0, q)) (λ h. none (m.0, h))) ]
]

both : {P Q : Type 0} → Decided P → Decided Q → Decided (P × Q)
both (inl p) (inl q) = inl (p, q)
both (inl p) (inr bad) = inr (λ x. bad x.1)
both (inr bad) d = inr (λ x. bad x.0)

module _ (es : List Edge) (fs : List Same) (exact : AreSummaries es fs) (s : ℕ) (ranks : HasRanks es s) where
  abbrev Reached : Way → ℕ → ℕ → Type 0
  Reached w n r = ReachRank (IsEdgeIn es) s w n r

  abbrev Lower : Way → ℕ → ℕ → Type 0
  Lower w n r = (k : ℕ) × Reached w n k × (k < r)

  one_rank : (w : Way) (n r k : ℕ) → Reached w n r → Reached w n k → r ≡ k
  one_rank w n r k a b = elim (cases_lt r k) [ inl less ↦ absurd (b.least r less a.within) | inr more ↦ elim (cases_lt k r) [ inl less ↦ absurd (a.least k less b.within) | inr least ↦ omega (arith, more, least) ] ]

  lower : (w : Way) (n r : ℕ) → Decided (Lower w n r)
  lower w n r = elim (ranks w n) [
    | inl h ↦ elim (cases_lt h.0 r) [ inl less ↦ inl (h.0, h.1, less) | inr more ↦ inr (λ k. absurd (omega (arith, one_rank w n h.0 k.0 h.1 k.1, k.2, more))) ]
    | inr none ↦ inr (λ k. none k.0 k.1)
  ]

  -- where nothing has a rank nothing is reached at any round
  never : (w : Way) (n : ℕ) → ((r : ℕ) → Reached w n r → ⊥) → (bound r : ℕ) → r < bound → ReachesWithin (IsEdgeIn es) s w r n → ⊥
  never w n none zero r l x = absurd (omega (arith, l))
  never w n none (suc bound) r l x = none r (record { within = x; least = λ k less v. never w n none bound k (omega (arith, less, l)) v })

  rank_there : (w : Way) (n r : ℕ) → ReachesWithin (IsEdgeIn es) s w r n → (k : ℕ) × (k ≤ r) × Reached w n k
  rank_there w n r x = elim (ranks w n) [
    | inl h ↦ (h.0, elim (cases_lt r h.0) [ inl less ↦ absurd (h.1.least r less x) | inr more ↦ more ], h.1)
    | inr none ↦ absurd (never w n none (suc r) r (omega arith) x)
  ]

  same_cases : (q l : ℕ) → Decided (IsSame (IsEdgeIn es) q l)
  same_cases q l = elim (ranked es fs exact q l) [
    | inl h ↦ inl (record { rounds = h.0; within = h.1.within })
    | inr none ↦ inr (λ x. none_below es fs exact q l none (suc x.rounds) x.rounds (omega arith) x.within)
  ]

  -- what a use asks for
  abbrev Over : ℕ → ℕ → ℕ → ℕ → ℕ → Type 0
  Over n m q l c = IsEdgeIn es m (Call c) q × (IsSame (IsEdgeIn es) q l × IsEdgeIn es l (Return c) n)

  abbrev Asks : ℕ → ℕ → Way → Use → Type 0
  Asks n r Up use_start = (n ≡ s) × (r ≡ 0)
  Asks n r Up (use_call m) = ⊥
  Asks n r Up (use_plain m) = Lower Up m r × IsEdgeIn es m Plain n
  Asks n r Up (use_return m) = Lower Up m r × ((c : ℕ) × IsEdgeIn es m (Return c) n)
  Asks n r Up (use_reset m) = Lower Up m r × IsEdgeIn es m Reset n
  Asks n r Up (use_on m) = ⊥
  Asks n r Up (use_over m q l c) = Lower Up m r × Over n m q l c
  Asks n r Up (use_again m) = Lower Down m r × IsEdgeIn es m Reset n
  Asks n r Down use_start = ⊥
  Asks n r Down (use_call m) = Lower Up m r × ((c : ℕ) × IsEdgeIn es m (Call c) n)
  Asks n r Down (use_plain m) = Lower Down m r × IsEdgeIn es m Plain n
  Asks n r Down (use_return m) = ⊥
  Asks n r Down (use_reset m) = ⊥
  Asks n r Down (use_on m) = Lower Down m r × ((c : ℕ) × IsEdgeIn es m (Call c) n)
  Asks n r Down (use_over m q l c) = Lower Down m r × Over n m q l c
  Asks n r Down (use_again m) = ⊥

  abbrev Gives : ℕ → ℕ → Way → Use → Way → Type 0
  Gives n r w u b = GivesWay (IsEdgeIn es) s n r w u b

  asked : (n r : ℕ) (w : Way) (u : Use) (b : Way) → Gives n r w u b → Asks n r w u
  asked n r w u b (GivesWay.up_start e z) = (e, z)
  asked n r w u b (GivesWay.up_plain m k h l e) = ((k, h, l), e)
  asked n r w u b (GivesWay.up_return m c k h l e) = ((k, h, l), (c, e))
  asked n r w u b (GivesWay.up_reset m k h l e) = ((k, h, l), e)
  asked n r w u b (GivesWay.up_over m q d c k h l e g f) = ((k, h, l), (e, (g, f)))
  asked n r w u b (GivesWay.up_again m k h l e) = ((k, h, l), e)
  asked n r w u b (GivesWay.down_call m c k h l e) = ((k, h, l), (c, e))
  asked n r w u b (GivesWay.down_plain m k h l e) = ((k, h, l), e)
  asked n r w u b (GivesWay.down_on m c k h l e) = ((k, h, l), (c, e))
  asked n r w u b (GivesWay.down_over m q d c k h l e g f) = ((k, h, l), (e, (g, f)))

  given : (n r : ℕ) (w : Way) (u : Use) → Asks n r w u → (b : Way) × Gives n r w u b
  given n r Up use_start x = (Up, GivesWay.up_start x.0 x.1)
  given n r Up (use_call m) x = absurd x
  given n r Up (use_plain m) x = (Up, GivesWay.up_plain m x.0.0 x.0.1 x.0.2 x.1)
  given n r Up (use_return m) x = (Up, GivesWay.up_return m x.1.0 x.0.0 x.0.1 x.0.2 x.1.1)
  given n r Up (use_reset m) x = (Up, GivesWay.up_reset m x.0.0 x.0.1 x.0.2 x.1)
  given n r Up (use_on m) x = absurd x
  given n r Up (use_over m q l c) x = (Up, GivesWay.up_over m q l c x.0.0 x.0.1 x.0.2 x.1.0 x.1.1.0 x.1.1.1)
  given n r Up (use_again m) x = (Down, GivesWay.up_again m x.0.0 x.0.1 x.0.2 x.1)
  given n r Down use_start x = absurd x
  given n r Down (use_call m) x = (Up, GivesWay.down_call m x.1.0 x.0.0 x.0.1 x.0.2 x.1.1)
  given n r Down (use_plain m) x = (Down, GivesWay.down_plain m x.0.0 x.0.1 x.0.2 x.1)
  given n r Down (use_return m) x = absurd x
  given n r Down (use_reset m) x = absurd x
  given n r Down (use_on m) x = (Down, GivesWay.down_on m x.1.0 x.0.0 x.0.1 x.0.2 x.1.1)
  given n r Down (use_over m q l c) x = (Down, GivesWay.down_over m q l c x.0.0 x.0.1 x.0.2 x.1.0 x.1.1.0 x.1.1.1)
  given n r Down (use_again m) x = absurd x

  start_cases : (n r : ℕ) → Decided ((n ≡ s) × (r ≡ 0))
  start_cases n r = both (cases_eq n s) (cases_eq r 0)

  over_cases : (n m q l c : ℕ) → Decided (Over n m q l c)
  over_cases n m q l c = both (edge_cases es m (Call c) q) (both (same_cases q l) (edge_cases es l (Return c) n))

  decide : (n r : ℕ) (w : Way) (u : Use) → Decided (Asks n r w u)
  decide n r Up use_start = start_cases n r
  decide n r Up (use_call m) = inr (λ x. x)
  decide n r Up (use_plain m) = both (lower Up m r) (edge_cases es m Plain n)
  decide n r Up (use_return m) = both (lower Up m r) (some_return es m n)
  decide n r Up (use_reset m) = both (lower Up m r) (edge_cases es m Reset n)
  decide n r Up (use_on m) = inr (λ x. x)
  decide n r Up (use_over m q l c) = both (lower Up m r) (over_cases n m q l c)
  decide n r Up (use_again m) = both (lower Down m r) (edge_cases es m Reset n)
  decide n r Down use_start = inr (λ x. x)
  decide n r Down (use_call m) = both (lower Up m r) (some_call es m n)
  decide n r Down (use_plain m) = both (lower Down m r) (edge_cases es m Plain n)
  decide n r Down (use_return m) = inr (λ x. x)
  decide n r Down (use_reset m) = inr (λ x. x)
  decide n r Down (use_on m) = both (lower Down m r) (some_call es m n)
  decide n r Down (use_over m q l c) = both (lower Down m r) (over_cases n m q l c)
  decide n r Down (use_again m) = inr (λ x. x)

  -- each use that gives is among those that edges allow
  single : (u : Use) → In u (singles es) → In u (all_uses es)
  single u m = there (In-left u (singles es) (overs es es) m)

  over : (m q l c n : ℕ) → IsEdgeIn es m (Call c) q → IsEdgeIn es l (Return c) n → In (use_over m q l c) (all_uses es)
  over m q l c n e d = there (In-right (use_over m q l c) (singles es) (overs es es) (in_overs (edge m (Call c) q) (edge l (Return c) n) es es e d))

  allowed : (n r : ℕ) (w : Way) (u : Use) (b : Way) → Gives n r w u b → In u (all_uses es)
  allowed n r w u b (GivesWay.up_start e z) = here refl
  allowed n r w u b (GivesWay.up_plain m k h l e) = single (use_plain m) (in_singles (edge m Plain n) es e).1
  allowed n r w u b (GivesWay.up_return m c k h l e) = single (use_return m) (in_singles (edge m (Return c) n) es e).2
  allowed n r w u b (GivesWay.up_reset m k h l e) = single (use_reset m) (in_singles (edge m Reset n) es e).3
  allowed n r w u b (GivesWay.up_over m q d c k h l e g f) = over m q d c n e f
  allowed n r w u b (GivesWay.up_again m k h l e) = single (use_again m) (in_singles (edge m Reset n) es e).5
  allowed n r w u b (GivesWay.down_call m c k h l e) = single (use_call m) (in_singles (edge m (Call c) n) es e).0
  allowed n r w u b (GivesWay.down_plain m k h l e) = single (use_plain m) (in_singles (edge m Plain n) es e).1
  allowed n r w u b (GivesWay.down_on m c k h l e) = single (use_on m) (in_singles (edge m (Call c) n) es e).4
  allowed n r w u b (GivesWay.down_over m q d c k h l e g f) = over m q d c n e f

  abbrev SomeUse : Way → ℕ → ℕ → Type 0
  SomeUse w n r = (u : Use) × ((b : Way) × Gives n r w u b)

  below : (w : Way) (m r : ℕ) → ReachesWithin (IsEdgeIn es) s w r m → Lower w m (suc r)
  below w m r x = let k = rank_there w m r x in (k.0, k.2, omega (arith, k.1))

  -- some use gives each fact of its least rank
  some_use : (w : Way) (n r : ℕ) → ReachesWithin (IsEdgeIn es) s w r n → ((k : ℕ) → k < r → ReachesWithin (IsEdgeIn es) s w k n → ⊥) → SomeUse w n r
  some_use w n zero sums.up_start least = (use_start, (Up, GivesWay.up_start refl refl))
  some_use w n (suc r) sums.up_start least = absurd (least 0 (omega arith) sums.up_start)
  some_use w n (suc r) (sums.up_plain m x e) least = let k = below Up m r x in (use_plain m, (Up, GivesWay.up_plain m k.0 k.1 k.2 e))
  some_use w n (suc r) (sums.up_return {c = c} m x e) least = let k = below Up m r x in (use_return m, (Up, GivesWay.up_return m c k.0 k.1 k.2 e))
  some_use w n (suc r) (sums.up_reset m x e) least = let k = below Up m r x in (use_reset m, (Up, GivesWay.up_reset m k.0 k.1 k.2 e))
  some_use w n (suc r) (sums.up_over m q l c x e g d) least = let k = below Up m r x in (use_over m q l c, (Up, GivesWay.up_over m q l c k.0 k.1 k.2 e g d))
  some_use w n (suc r) (sums.up_again m x e) least = let k = below Down m r x in (use_again m, (Down, GivesWay.up_again m k.0 k.1 k.2 e))
  some_use w n (suc r) (sums.down_call {c = c} m x e) least = let k = below Up m r x in (use_call m, (Up, GivesWay.down_call m c k.0 k.1 k.2 e))
  some_use w n (suc r) (sums.down_plain m x e) least = let k = below Down m r x in (use_plain m, (Down, GivesWay.down_plain m k.0 k.1 k.2 e))
  some_use w n (suc r) (sums.down_on {c = c} m x e) least = let k = below Down m r x in (use_on m, (Down, GivesWay.down_on m c k.0 k.1 k.2 e))
  some_use w n (suc r) (sums.down_over m q l c x e g d) least = let k = below Down m r x in (use_over m q l c, (Down, GivesWay.down_over m q l c k.0 k.1 k.2 e g d))

  pub record Parent (w : Way) (n r : ℕ) : Type 0 where
    pub one : Use
    pub before : Way
    pub gives : Gives n r w one before
    pub is : WayParent (IsEdgeIn es) s n w one before

  pub parent : (w : Way) (n r : ℕ) → Reached w n r → Parent w n r
  parent w n r h =
      let u = some_use w n r h.within h.least in
      let f = choose (Asks n r w) (decide n r w) (all_uses es) u.0 (allowed n r w u.0 u.1.0 u.1.1) (asked n r w u.0 u.1.0 u.1.1) in
      let g = given n r w f.one f.gives in
      record {
        one = f.one;
        before = g.0;
        gives = g.1;
        is = record { rank = r; has = h; gives = g.1; first = λ v other x b. f.first v (allowed n r w v other x) (asked n r w v other x) (before_key v f.one b) };
      }

  abbrev Traced : Way → ℕ → Type 0
  Traced w n = (hs : List Hop) × WayHops (IsEdgeIn es) s w n hs

  abbrev More : ℕ → Type 0
  More bound = (w : Way) (n r : ℕ) → r < bound → Reached w n r → Traced w n

  over_hops : (w b : Way) (n m q l c : ℕ) → WayParent (IsEdgeIn es) s n w (use_over m q l c) b → Traced b m → IsSame (IsEdgeIn es) q l → Traced w n
  over_hops w b n m q l c x y g =
      let k = has_rank es fs exact q l g.rounds g.within in
      let z = unfolds es fs exact q l k.0 k.2 in
      (y.0 ++ hop drawn.Call q ∷ z.0 ++ hop drawn.Return n ∷ [], traces.way_over x y.1 z.1)

  by_parent : (w : Way) (n r bound : ℕ) (u : Use) (b : Way) → r < suc bound → Gives n r w u b → WayParent (IsEdgeIn es) s n w u b → More bound → Traced w n
  by_parent w n r bound u b l (GivesWay.up_start e z) x more = ([], subst (λ a. WayHops (IsEdgeIn es) s Up a []) (sym e) (traces.way_start (subst (λ a. WayParent (IsEdgeIn es) s a Up use_start Up) e x)))
  by_parent w n r bound u b l (GivesWay.up_plain m k h less e) x more = let y = more Up m k (omega (arith, less, l)) h in (y.0 ++ hop drawn.Plain n ∷ [], traces.way_hop (use_plain m) x traces.from_plain traces.plain_hop y.1)
  by_parent w n r bound u b l (GivesWay.up_return m c k h less e) x more = let y = more Up m k (omega (arith, less, l)) h in (y.0 ++ hop drawn.Return n ∷ [], traces.way_hop (use_return m) x traces.from_return traces.return_hop y.1)
  by_parent w n r bound u b l (GivesWay.up_reset m k h less e) x more = let y = more Up m k (omega (arith, less, l)) h in (y.0 ++ hop drawn.Reset n ∷ [], traces.way_hop (use_reset m) x traces.from_reset traces.reset_hop y.1)
  by_parent w n r bound u b l (GivesWay.up_over m q d c k h less e g f) x more = over_hops Up Up n m q d c x (more Up m k (omega (arith, less, l)) h) g
  by_parent w n r bound u b l (GivesWay.up_again m k h less e) x more = let y = more Down m k (omega (arith, less, l)) h in (y.0 ++ hop drawn.Reset n ∷ [], traces.way_hop (use_again m) x traces.from_again traces.again_hop y.1)
  by_parent w n r bound u b l (GivesWay.down_call m c k h less e) x more = let y = more Up m k (omega (arith, less, l)) h in (y.0 ++ hop drawn.Call n ∷ [], traces.way_hop (use_call m) x traces.from_call traces.call_hop y.1)
  by_parent w n r bound u b l (GivesWay.down_plain m k h less e) x more = let y = more Down m k (omega (arith, less, l)) h in (y.0 ++ hop drawn.Plain n ∷ [], traces.way_hop (use_plain m) x traces.from_plain traces.plain_hop y.1)
  by_parent w n r bound u b l (GivesWay.down_on m c k h less e) x more = let y = more Down m k (omega (arith, less, l)) h in (y.0 ++ hop drawn.Call n ∷ [], traces.way_hop (use_on m) x traces.from_on traces.on_hop y.1)
  by_parent w n r bound u b l (GivesWay.down_over m q d c k h less e g f) x more = over_hops Down Down n m q d c x (more Down m k (omega (arith, less, l)) h) g

  traced_below : (bound : ℕ) → More bound
  traced_below zero w n r l h = absurd (omega (arith, l))
  traced_below (suc bound) w n r l h = let x = parent w n r h in by_parent w n r bound x.one x.before l x.gives x.is (traced_below bound)

  pub traced : (w : Way) (n r : ℕ) → Reached w n r → Traced w n
  traced w n r h = traced_below (suc r) w n r (omega arith) h

  trace_by : (w : Way) (n r : ℕ) → Reached w n r → BetterWay (IsEdgeIn es) s n w → (trace : List Hop) × IsTraceTo (IsEdgeIn es) s n trace
  trace_by w n r h better = let t = traced w n r h in (hop drawn.Start s ∷ t.0, record { way = w; better = better; hops = t.0; unfolds = t.1; is = refl })

  pub trace_there : (n : ℕ) → Reaches (IsEdgeIn es) s n → (trace : List Hop) × IsTraceTo (IsEdgeIn es) s n trace
  trace_there n t = elim (ranks Up n) [
    | inl a ↦ elim (ranks Down n) [
      | inl b ↦ elim (cases_lt b.0 a.0) [
        | inl less ↦ trace_by Down n b.0 b.1 (traces.down_first a.1 b.1 less)
        | inr more ↦ trace_by Up n a.0 a.1 (traces.up_first a.1 b.1 more)
      ]
      | inr none ↦ trace_by Up n a.0 a.1 (traces.up_alone a.1 none)
    ]
    | inr none ↦ elim (ranks Down n) [
      | inl b ↦ trace_by Down n b.0 b.1 (traces.down_alone b.1 none)
      | inr neither ↦ absurd (nowhere none neither t.way t.rounds t.within)
    ]
  ]
    where
      nowhere : ((r : ℕ) → Reached Up n r → ⊥) → ((r : ℕ) → Reached Down n r → ⊥) → (w : Way) (k : ℕ) → ReachesWithin (IsEdgeIn es) s w k n → ⊥
      nowhere none neither Up k x = never Up n none (suc k) k (omega arith) x
      nowhere none neither Down k x = never Down n neither (suc k) k (omega arith) x
