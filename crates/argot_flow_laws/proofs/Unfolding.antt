-- Each fact has a parent, and unfolds.
use Rattle.std.proofs.Common.{◌≡◌, ◌⊎◌, ℕ, zero, suc, ◌<◌, ◌≤◌, List, [], ◌∷◌, ◌++◌, refl, sym, ap, subst, inl, inr, arith}
use Rattle.std.proofs.lemmas.Bool.{cases_lt, cases_eq}
use Rattle.argot_plain.specs.Lists.{In, here, there}
use Rattle.argot_facts.proofs.Listed.{In-left, In-right}
use Rattle.argot_facts.specs.Parents.{Use, use_start, use_call, use_plain, use_return, use_reset, use_on, use_over, use_again, GivesSame, SameParent}
use Rattle.argot_facts.specs.Summaries.{SameWithin, HasRank}
use Rattle.argot_facts.specs.Summaries as sums
use Rattle.argot_facts.specs.Traces.{hop, SameHops}
use Rattle.argot_facts.specs.declared.findings.Hop.{Hop}
use Rattle.argot_facts.specs.declared.findings.HopKind.TheVariants as drawn
use Rattle.argot_facts.specs.declared.graphs.Edge.{Edge}
use Rattle.argot_facts.specs.declared.graphs.EdgeKind.{EdgeKind}
use Rattle.argot_facts.specs.declared.graphs.EdgeKind.TheVariants.{Plain, Call, Return, Reset}
use Rattle.argot_facts.specs.declared.summaries.Same.{Same}
use Rattle.argot_facts.specs.Reached.{IsEdgeIn}
use Rattle.argot_facts.specs.Summed.{same}
use Rattle.argot_facts.specs.Summed.{AreSummaries}
use Rattle.argot_flow_laws.proofs.Choosing.{before_key, choose}

abbrev pub Decided : Type 0 → Type 0
Decided P = P ⊎ (P → ⊥)

-- ---- the uses that edges allow

abbrev pub site : EdgeKind → ℕ
site (Call c) = c
site (Return c) = c
site _ = 0

abbrev pub plains : List Edge → List Use
plains [] = []
plains (e ∷ es) = use_plain e.from ∷ plains es

abbrev pub overs_with : Edge → List Edge → List Use
overs_with e [] = []
overs_with e (f ∷ fs) = use_over e.from e.to f.from (site e.kind) ∷ overs_with e fs

abbrev pub overs : List Edge → List Edge → List Use
overs [] fs = []
overs (e ∷ es) fs = overs_with e fs ++ overs es fs

abbrev pub uses : List Edge → List Use
uses es = use_start ∷ (plains es ++ overs es es)

in_plains : (e : Edge) (es : List Edge) → In e es → In (use_plain e.from) (plains es)
in_plains e (f ∷ es) (here q) = here (ap (λ (x : Edge). use_plain x.from) q)
in_plains e (f ∷ es) (there m) = there (in_plains e es m)
in_plains e [] m = elim m [ ]

in_with : (e f : Edge) (fs : List Edge) → In f fs → In (use_over e.from e.to f.from (site e.kind)) (overs_with e fs)
in_with e f (g ∷ fs) (here q) = here (ap (λ (x : Edge). use_over e.from e.to x.from (site e.kind)) q)
in_with e f (g ∷ fs) (there m) = there (in_with e f fs m)
in_with e f [] m = elim m [ ]

pub in_overs : (e f : Edge) (es fs : List Edge) → In e es → In f fs → In (use_over e.from e.to f.from (site e.kind)) (overs es fs)
in_overs e f (g ∷ es) fs (here q) m = In-left (use_over e.from e.to f.from (site e.kind)) (overs_with g fs) (overs es fs) (subst (λ (x : Edge). In (use_over e.from e.to f.from (site e.kind)) (overs_with x fs)) q (in_with e f fs m))
in_overs e f (g ∷ es) fs (there n) m = In-right (use_over e.from e.to f.from (site e.kind)) (overs_with g fs) (overs es fs) (in_overs e f es fs n m)
in_overs e f [] fs n m = elim n [ ]

-- ---- what can be decided

same_kind : (a b : EdgeKind) → Decided (a ≡ b)
same_kind Plain Plain = inl refl
same_kind Plain (Call d) = inr (λ e. absurd cc)
same_kind Plain (Return d) = inr (λ e. absurd cc)
same_kind Plain Reset = inr (λ e. absurd cc)
same_kind (Call c) Plain = inr (λ e. absurd cc)
same_kind (Call c) (Call d) = elim (cases_eq c d) [ inl q ↦ inl (ap Call q) | inr ne ↦ inr (λ e. ne cc) ]
same_kind (Call c) (Return d) = inr (λ e. absurd cc)
same_kind (Call c) Reset = inr (λ e. absurd cc)
same_kind (Return c) Plain = inr (λ e. absurd cc)
same_kind (Return c) (Call d) = inr (λ e. absurd cc)
same_kind (Return c) (Return d) = elim (cases_eq c d) [ inl q ↦ inl (ap Return q) | inr ne ↦ inr (λ e. ne cc) ]
same_kind (Return c) Reset = inr (λ e. absurd cc)
same_kind Reset Plain = inr (λ e. absurd cc)
same_kind Reset (Call d) = inr (λ e. absurd cc)
same_kind Reset (Return d) = inr (λ e. absurd cc)
same_kind Reset Reset = inl refl

abbrev pub edge : ℕ → EdgeKind → ℕ → Edge
edge a k b = record { from = a; to = b; kind = k }

pub edge_is : (e : Edge) (a b : ℕ) (k : EdgeKind) → Decided (edge a k b ≡ e)
edge_is e a b k = elim (cases_eq e.from a) [
  | inl f ↦ elim (cases_eq e.to b) [
    | inl t ↦ elim (same_kind e.kind k) [
      | inl s ↦ inl (subst (λ x. edge x k b ≡ e) f (subst (λ x. edge e.from k x ≡ e) t (subst (λ x. edge e.from x e.to ≡ e) s refl)))
      | inr bad ↦ inr (λ q. bad (sym (ap (λ (x : Edge). x.kind) q)))
    ]
    | inr bad ↦ inr (λ q. bad (sym (ap (λ (x : Edge). x.to) q)))
  ]
  | inr bad ↦ inr (λ q. bad (sym (ap (λ (x : Edge). x.from) q)))
]

no_more : {A : Type 0} (x y : A) (ys : List A) → (x ≡ y → ⊥) → (In x ys → ⊥) → In x (y ∷ ys) → ⊥
no_more x y ys bad none (here e) = bad e
no_more x y ys bad none (there m) = none m

pub edge_cases : (es : List Edge) (a : ℕ) (k : EdgeKind) (b : ℕ) → Decided (IsEdgeIn es a k b)
edge_cases [] a k b = inr (λ m. elim m [ ])
edge_cases (e ∷ es) a k b = elim (edge_is e a b k) [
  | inl q ↦ inl (here q)
  | inr bad ↦ elim (edge_cases es a k b) [ inl m ↦ inl (there m) | inr none ↦ inr (no_more (edge a k b) e es bad none) ]
]

rank_cases : (fs : List Same) (p n : ℕ) → ((r : ℕ) × In (same p n r) fs) ⊎ ((r : ℕ) → In (same p n r) fs → ⊥)
rank_cases [] p n = inr (λ r m. elim m [ ])
rank_cases (f ∷ fs) p n = elim (cases_eq f.from p) [
  | inl a ↦ elim (cases_eq f.to n) [
    | inl b ↦ inl (f.rank, here (subst (λ x. same x n f.rank ≡ f) a (subst (λ x. same f.from x f.rank ≡ f) b refl)))
    | inr bad ↦ later (rank_cases fs p n) (λ r q. bad (sym (ap (λ (x : Same). x.to) q)))
  ]
  | inr bad ↦ later (rank_cases fs p n) (λ r q. bad (sym (ap (λ (x : Same). x.from) q)))
]
  where
    later : ((r : ℕ) × In (same p n r) fs) ⊎ ((r : ℕ) → In (same p n r) fs → ⊥) → ((r : ℕ) → same p n r ≡ f → ⊥) → ((r : ℕ) × In (same p n r) (f ∷ fs)) ⊎ ((r : ℕ) → In (same p n r) (f ∷ fs) → ⊥)
    later rest bad = elim rest [ inl m ↦ inl (m.0, there m.1) | inr none ↦ inr (λ r. no_more (same p n r) f fs (bad r) (none r)) ]

-- ---- parents

module _ (es : List Edge) (fs : List Same) (exact : AreSummaries es fs) where
  abbrev pub Ranked : ℕ → ℕ → ℕ → Type 0
  Ranked p n r = HasRank (IsEdgeIn es) p n r

  one_rank : (p n r k : ℕ) → Ranked p n r → Ranked p n k → r ≡ k
  one_rank p n r k a b = elim (cases_lt r k) [ inl less ↦ absurd (b.least r less a.within) | inr more ↦ elim (cases_lt k r) [ inl less ↦ absurd (a.least k less b.within) | inr least ↦ omega (arith, more, least) ] ]

  pub ranked : (p n : ℕ) → ((r : ℕ) × Ranked p n r) ⊎ ((r : ℕ) → Ranked p n r → ⊥)
  ranked p n = elim (rank_cases fs p n) [ inl m ↦ inl (m.0, (exact.each p n m.0).0 m.1) | inr none ↦ inr (λ r h. none r ((exact.each p n r).1 h)) ]

  -- where nothing has a rank nothing is found at any round
  pub none_below : (p n : ℕ) → ((r : ℕ) → Ranked p n r → ⊥) → (bound r : ℕ) → r < bound → SameWithin (IsEdgeIn es) p r n → ⊥
  none_below p n none zero r l w = absurd (omega (arith, l))
  none_below p n none (suc bound) r l w = none r (record { within = w; least = λ k less v. none_below p n none bound k (omega (arith, less, l)) v })

  pub has_rank : (p n r : ℕ) → SameWithin (IsEdgeIn es) p r n → (k : ℕ) × (k ≤ r) × Ranked p n k
  has_rank p n r w = elim (ranked p n) [
    | inl h ↦ (h.0, elim (cases_lt r h.0) [ inl less ↦ absurd (h.1.least r less w) | inr more ↦ more ], h.1)
    | inr none ↦ absurd (none_below p n none (suc r) r (omega arith) w)
  ]

  abbrev Gives : ℕ → ℕ → ℕ → Use → Type 0
  Gives p n r u = GivesSame (IsEdgeIn es) p n r u

  plain_cases : (p n r m : ℕ) → Decided (Gives p n r (use_plain m))
  plain_cases p n r m = elim (ranked p m) [
    | inl h ↦ elim (cases_lt h.0 r) [
      | inl less ↦ elim (edge_cases es m Plain n) [
        | inl e ↦ inl (GivesSame.same_plain m h.0 h.1 less e)
        | inr bad ↦ inr (λ g. bad (leads g))
      ]
      | inr more ↦ inr (λ g. (let k = below g in absurd (omega (arith, one_rank p m h.0 k.0 h.1 k.1, k.2, more))))
    ]
    | inr none ↦ inr (λ g. (let k = below g in none k.0 k.1))
  ]
    where
      leads : Gives p n r (use_plain m) → IsEdgeIn es m Plain n
      leads (GivesSame.same_plain b k h less e) = e

      below : Gives p n r (use_plain m) → (k : ℕ) × Ranked p m k × (k < r)
      below (GivesSame.same_plain b k h less e) = (k, h, less)

  -- some rank lower than r
  abbrev Lower : ℕ → ℕ → ℕ → Type 0
  Lower p n r = (k : ℕ) × Ranked p n k × (k < r)

  lower_cases : (p n r : ℕ) → Decided (Lower p n r)
  lower_cases p n r = elim (ranked p n) [
    | inl h ↦ elim (cases_lt h.0 r) [ inl less ↦ inl (h.0, h.1, less) | inr more ↦ inr (λ k. absurd (omega (arith, one_rank p n h.0 k.0 h.1 k.1, k.2, more))) ]
    | inr none ↦ inr (λ k. none k.0 k.1)
  ]

  over_cases : (p n r m q l c : ℕ) → Decided (Gives p n r (use_over m q l c))
  over_cases p n r m q l c = elim (lower_cases p m r) [
    | inr bad ↦ inr (λ g. bad (outer g))
    | inl a ↦ elim (lower_cases q l r) [
      | inr bad ↦ inr (λ g. bad (inner g))
      | inl b ↦ elim (edge_cases es m (Call c) q) [
        | inr bad ↦ inr (λ g. bad (call g))
        | inl e ↦ elim (edge_cases es l (Return c) n) [
          | inr bad ↦ inr (λ g. bad (back g))
          | inl d ↦ inl (GivesSame.same_over m q l c a.0 b.0 a.1 a.2 e b.1 b.2 d)
        ]
      ]
    ]
  ]
    where
      outer : Gives p n r (use_over m q l c) → Lower p m r
      outer (GivesSame.same_over a b x y k j h less e g low d) = (k, h, less)

      inner : Gives p n r (use_over m q l c) → Lower q l r
      inner (GivesSame.same_over a b x y k j h less e g low d) = (j, g, low)

      call : Gives p n r (use_over m q l c) → IsEdgeIn es m (Call c) q
      call (GivesSame.same_over a b x y k j h less e g low d) = e

      back : Gives p n r (use_over m q l c) → IsEdgeIn es l (Return c) n
      back (GivesSame.same_over a b x y k j h less e g low d) = d

  start_is : (p n r : ℕ) → Gives p n r use_start → n ≡ p
  start_is p n r (GivesSame.same_start e) = e

  decide : (p n r : ℕ) (u : Use) → Decided (Gives p n r u)
  decide p n r use_start = elim (cases_eq n p) [ inl e ↦ inl (GivesSame.same_start e) | inr bad ↦ inr (λ g. bad (start_is p n r g)) ]
  decide p n r (use_call m) = inr (λ g. elim g [ ])
  decide p n r (use_plain m) = plain_cases p n r m
  decide p n r (use_return m) = inr (λ g. elim g [ ])
  decide p n r (use_reset m) = inr (λ g. elim g [ ])
  decide p n r (use_on m) = inr (λ g. elim g [ ])
  decide p n r (use_over m q l c) = over_cases p n r m q l c
  decide p n r (use_again m) = inr (λ g. elim g [ ])

  -- each use that gives is among those that edges allow
  allowed : (p n r : ℕ) (u : Use) → Gives p n r u → In u (uses es)
  allowed p n r use_start (GivesSame.same_start e) = here refl
  allowed p n r (use_plain m) (GivesSame.same_plain b k h less e) = there (In-left (use_plain m) (plains es) (overs es es) (in_plains (edge m Plain n) es e))
  allowed p n r (use_over m q l c) (GivesSame.same_over a b x y k j h less e g low d) =
      there (In-right (use_over m q l c) (plains es) (overs es es) (in_overs (edge m (Call c) q) (edge l (Return c) n) es es e d))
  allowed p n r (use_call m) g = elim g [ ]
  allowed p n r (use_return m) g = elim g [ ]
  allowed p n r (use_reset m) g = elim g [ ]
  allowed p n r (use_on m) g = elim g [ ]
  allowed p n r (use_again m) g = elim g [ ]

  some_use : (p n r : ℕ) → SameWithin (IsEdgeIn es) p r n → (u : Use) × Gives p n r u
  some_use p n r (sums.same_start m e) = (use_start, GivesSame.same_start refl)
  some_use p n (suc r) (sums.same_plain m w e) = let k = has_rank p m r w in (use_plain m, GivesSame.same_plain m k.0 k.2 (omega (arith, k.1)) e)
  some_use p n (suc r) (sums.same_over m q l c w e v d) =
      let k = has_rank p m r w in
      let j = has_rank q l r v in
      (use_over m q l c, GivesSame.same_over m q l c k.0 j.0 k.2 (omega (arith, k.1)) e j.2 (omega (arith, j.1)) d)

  pub record Parent (p n r : ℕ) : Type 0 where
    pub one : Use
    pub gives : Gives p n r one
    pub is : SameParent (IsEdgeIn es) p n one

  pub parent : (p n r : ℕ) → Ranked p n r → Parent p n r
  parent p n r h =
      let u = some_use p n r h.within in
      let f = choose (Gives p n r) (decide p n r) (uses es) u.0 (allowed p n r u.0 u.1) u.1 in
      record { one = f.one; gives = f.gives; is = record { rank = r; has = h; gives = f.gives; first = λ v g b. f.first v (allowed p n r v g) g (before_key v f.one b) } }

  abbrev pub Unfolds : ℕ → ℕ → Type 0
  Unfolds p n = (hs : List Hop) × SameHops (IsEdgeIn es) p n hs

  by_parent : (p n r bound : ℕ) (u : Use) → r < suc bound → Gives p n r u → SameParent (IsEdgeIn es) p n u
      → ((q m k : ℕ) → k < bound → Ranked q m k → Unfolds q m) → Unfolds p n
  by_parent p n r bound use_start l (GivesSame.same_start e) x more = ([], subst (λ z. SameHops (IsEdgeIn es) p z []) (sym e) (SameHops.same_start (subst (λ z. SameParent (IsEdgeIn es) p z use_start) e x)))
  by_parent p n r bound (use_plain m) l (GivesSame.same_plain b k h less e) x more =
      let y = more p m k (omega (arith, less, l)) h in
      (y.0 ++ hop drawn.Plain n ∷ [], SameHops.same_plain x y.1)
  by_parent p n r bound (use_over m q l' c) l (GivesSame.same_over a b d' c' k j h less e g low d) x more =
      let y = more p m k (omega (arith, less, l)) h in
      let z = more q l' j (omega (arith, low, l)) g in
      (y.0 ++ hop drawn.Call q ∷ z.0 ++ hop drawn.Return n ∷ [], SameHops.same_over x y.1 z.1)
  by_parent p n r bound (use_call m) l g x more = elim g [ ]
  by_parent p n r bound (use_return m) l g x more = elim g [ ]
  by_parent p n r bound (use_reset m) l g x more = elim g [ ]
  by_parent p n r bound (use_on m) l g x more = elim g [ ]
  by_parent p n r bound (use_again m) l g x more = elim g [ ]

  unfold_below : (bound p n r : ℕ) → r < bound → Ranked p n r → Unfolds p n
  unfold_below zero p n r l h = absurd (omega (arith, l))
  unfold_below (suc bound) p n r l h =
      let x = parent p n r h in
      by_parent p n r bound x.one l x.gives x.is (λ q m k less g. unfold_below bound q m k less g)

  pub unfolds : (p n r : ℕ) → Ranked p n r → Unfolds p n
  unfolds p n r h = unfold_below (suc r) p n r (omega arith) h
