-- The hops of parents draw realizable lists.
use Rattle.std.proofs.Common.{◌≡◌, ℕ, List, [], ◌∷◌, ◌++◌, Some, refl, sym, ap, ◌∙◌, subst, append_assoc}
use Rattle.argot_facts.specs.Lists.{after, after_all, open_calls}
use Rattle.argot_facts.specs.Summaries.{Way, Up}
use Rattle.argot_facts.specs.Parents.{Use, use_start, use_call, use_plain, use_return, use_reset, use_on, use_over, use_again, GivesSame, GivesWay}
use Rattle.argot_facts.specs.Traces.{hop, SameHops, HopOf, call_hop, plain_hop, return_hop, reset_hop, on_hop, again_hop, ComesFrom, from_call, from_plain, from_return, from_reset, from_on, from_again, WayHops, way_start, way_hop, way_over, IsTraceTo}
use Rattle.argot_facts.specs.declared.findings.Hop.{Hop}
use Rattle.argot_facts.specs.declared.findings.HopKind.{HopKind}
use Rattle.argot_facts.specs.declared.findings.HopKind.TheVariants as drawn
use Rattle.argot_facts.specs.declared.graphs.EdgeKind.{EdgeKind}
use Rattle.argot_facts.specs.declared.graphs.EdgeKind.TheVariants.{Plain, Call, Return, Reset}
use Rattle.argot_flow_laws.proofs.Balanced.{after_append, taken}
use Rattle.argot_facts.specs.Drawing.{drawn_kind, Draws, drawn_none, drawn_edge, IsRealizable}

module _ (E : ℕ → EdgeKind → ℕ → Type 0) where
  drawn_on : {a b c : ℕ} {hs gs : List Hop} {ks ls : List EdgeKind} → Draws E a hs ks b → Draws E b gs ls c → Draws E a (hs ++ gs) (ks ++ ls) c
  drawn_on drawn_none d = d
  drawn_on (drawn_edge k e x) d = drawn_edge k e (drawn_on x d)

  -- what a use says of edges
  plain_edge : {p n r m : ℕ} → GivesSame E p n r (use_plain m) → E m Plain n
  plain_edge (GivesSame.same_plain b k h l e) = e

  pub record Over (m q l c n : ℕ) : Type 0 where
    pub call : E m (Call c) q
    pub back : E l (Return c) n

  same_edges : {p n r m q l c : ℕ} → GivesSame E p n r (use_over m q l c) → Over m q l c n
  same_edges (GivesSame.same_over b q l c k j h less e g low d) = record { call = e; back = d }

  way_edges : {s n r m q l c : ℕ} {w b : Way} → GivesWay E s n r w (use_over m q l c) b → Over m q l c n
  way_edges (GivesWay.up_over m q l c k h less e g d) = record { call = e; back = d }
  way_edges (GivesWay.down_over m q l c k h less e g d) = record { call = e; back = d }

  same_way : {s n r m q l c : ℕ} {w b : Way} → GivesWay E s n r w (use_over m q l c) b → b ≡ w
  same_way (GivesWay.up_over m q l c k h less e g d) = refl
  same_way (GivesWay.down_over m q l c k h less e g d) = refl

  -- hops that leave the open calls as they are
  pub record Keeps (a b : ℕ) (hs : List Hop) : Type 0 where
    pub kinds : List EdgeKind
    pub draws : Draws E a hs kinds b
    pub keeps : (os : List ℕ) → after_all kinds (Some os) ≡ Some os

  over_keeps : {m q l n : ℕ} {ks : List Hop} (c : ℕ) → Over m q l c n → Keeps q l ks → Keeps m n (hop drawn.Call q ∷ ks ++ hop drawn.Return n ∷ [])
  over_keeps c o k = record {
    kinds = Call c ∷ (k.kinds ++ (Return c ∷ []));
    draws = drawn_edge (Call c) o.call (drawn_on k.draws (drawn_edge (Return c) o.back drawn_none));
    keeps = λ os. after_append k.kinds (Return c ∷ []) (Some (c ∷ os)) ∙ ap (after_all (Return c ∷ [])) (k.keeps (c ∷ os)) ∙ taken c os;
  }

  kept_on : {a b c : ℕ} {hs gs : List Hop} → Keeps a b hs → Keeps b c gs → Keeps a c (hs ++ gs)
  kept_on x y = record {
    kinds = x.kinds ++ y.kinds;
    draws = drawn_on x.draws y.draws;
    keeps = λ os. after_append x.kinds y.kinds (Some os) ∙ ap (after_all y.kinds) (x.keeps os) ∙ y.keeps os;
  }

  pub same_drawn : {p n : ℕ} {hs : List Hop} → SameHops E p n hs → Keeps p n hs
  same_drawn (SameHops.same_start x) = record { kinds = []; draws = drawn_none; keeps = λ os. refl }
  same_drawn (SameHops.same_plain x h) = kept_on (same_drawn h) (record { kinds = Plain ∷ []; draws = drawn_edge Plain (plain_edge x.gives) drawn_none; keeps = λ os. refl })
  same_drawn {p} {n} (SameHops.same_over {q = q} {c = c} {hs = hs} {ks = ks} x h g) =
      subst (λ gs. Keeps p n gs) (sym (append_assoc hs (hop drawn.Call q ∷ ks) (hop drawn.Return n ∷ []))) (kept_on (same_drawn h) (over_keeps c (same_edges x.gives) (same_drawn g)))

  -- hops behind which these calls are open: none for Up
  pub record Opens (w : Way) (a b : ℕ) (hs : List Hop) : Type 0 where
    pub kinds : List EdgeKind
    pub draws : Draws E a hs kinds b
    pub calls : List ℕ
    pub opens : open_calls kinds ≡ Some calls
    pub none : w ≡ Up → calls ≡ []

  hop_on : {w v : Way} {a m n : ℕ} {hs : List Hop} (k : EdgeKind) (ps : List ℕ) → (o : Opens v a m hs) → E m k n → after k o.calls ≡ Some ps → (w ≡ Up → ps ≡ []) → Opens w a n (hs ++ hop (drawn_kind k) n ∷ [])
  hop_on k ps o e h none = record {
    kinds = o.kinds ++ (k ∷ []);
    draws = drawn_on o.draws (drawn_edge k e drawn_none);
    calls = ps;
    opens = after_append o.kinds (k ∷ []) (Some []) ∙ ap (after_all (k ∷ [])) o.opens ∙ h;
    none = none;
  }

  over_on : {w : Way} {a m n : ℕ} {hs gs : List Hop} → Opens w a m hs → Keeps m n gs → Opens w a n (hs ++ gs)
  over_on o k = record {
    kinds = o.kinds ++ k.kinds;
    draws = drawn_on o.draws k.draws;
    calls = o.calls;
    opens = after_append o.kinds k.kinds (Some []) ∙ ap (after_all k.kinds) o.opens ∙ k.keeps o.calls;
    none = o.none;
  }

  one_hop : {s n r m : ℕ} {w b : Way} {kind : HopKind} {hs : List Hop} (u : Use) → GivesWay E s n r w u b → ComesFrom E u m → HopOf E u kind → Opens b s m hs → Opens w s n (hs ++ hop kind n ∷ [])
  one_hop (use_call a) (GivesWay.down_call m c k h l e) from_call call_hop o = hop_on (Call c) (c ∷ o.calls) o e refl (λ u. absurd cc)
  one_hop (use_plain a) (GivesWay.up_plain m k h l e) from_plain plain_hop o = hop_on Plain o.calls o e refl o.none
  one_hop (use_plain a) (GivesWay.down_plain m k h l e) from_plain plain_hop o = hop_on Plain o.calls o e refl (λ u. absurd cc)
  one_hop (use_return a) (GivesWay.up_return m c k h l e) from_return return_hop o = hop_on (Return c) [] o e (ap (after (Return c)) (o.none refl)) (λ u. refl)
  one_hop (use_reset a) (GivesWay.up_reset m k h l e) from_reset reset_hop o = hop_on Reset [] o e refl (λ u. refl)
  one_hop (use_on a) (GivesWay.down_on m c k h l e) from_on on_hop o = hop_on (Call c) (c ∷ o.calls) o e refl (λ u. absurd cc)
  one_hop use_start g x h o = elim x [ ]
  one_hop (use_over a q l c) g x h o = elim x [ ]
  one_hop (use_again a) (GivesWay.up_again m k h l e) from_again again_hop o = hop_on Reset [] o e refl (λ u. refl)

  pub way_drawn : {s n : ℕ} {w : Way} {hs : List Hop} → WayHops E s w n hs → Opens w s n hs
  way_drawn (way_start x) = record { kinds = []; draws = drawn_none; calls = []; opens = refl; none = λ u. refl }
  way_drawn (way_hop u x from of h) = one_hop u x.gives from of (way_drawn h)
  way_drawn {s} {n} {w} (way_over {before = before} {m = m} {q = q} {l = l} {c = c} {hs = hs} {ks = ks} x h g) =
      subst (λ gs. Opens w s n gs) (sym (append_assoc hs (hop drawn.Call q ∷ ks) (hop drawn.Return n ∷ []))) (over_on (subst (λ v. Opens v s m hs) (same_way x.gives) (way_drawn h)) (over_keeps c (way_edges x.gives) (same_drawn g)))

  pub trace_drawn : (s n : ℕ) (trace : List Hop) → IsTraceTo E s n trace → IsRealizable E s n trace
  trace_drawn s n trace t = let o = way_drawn t.unfolds in record { hops = t.hops; is = t.is; kinds = o.kinds; draws = o.draws; calls = o.calls; realizable = o.opens }
