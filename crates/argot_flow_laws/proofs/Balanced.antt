-- Each fact has its realizable list.
use Rattle.std.proofs.Common.{◌≡◌, ℕ, List, [], ◌∷◌, ◌++◌, Option, Some, None, refl, sym, ap, ◌∙◌, eq-eqb, if◌then◌else◌}
use Rattle.argot_facts.specs.Lists.{after, after_all, open_calls, Leads, stay, go, Joins}
use Rattle.argot_facts.specs.Summaries.{Way, Up, SameWithin, same_start, same_plain, same_over, IsSame, ReachesWithin, up_start, up_plain, up_return, up_reset, up_over, up_again, down_call, down_plain, down_on, down_over}
use Rattle.argot_facts.specs.declared.graphs.EdgeKind.{EdgeKind}
use Rattle.argot_facts.specs.declared.graphs.EdgeKind.TheVariants.{Plain, Call, Return, Reset}
use Rattle.argot_facts.specs.Reached.{Reaches}

-- a refused list stays so
pub refused : (ks : List EdgeKind) → after_all ks None ≡ None
refused [] = refl
refused (k ∷ ks) = refl

pub after_append : (ks ls : List EdgeKind) (os : Option (List ℕ)) → after_all (ks ++ ls) os ≡ after_all ls (after_all ks os)
after_append [] ls os = refl
after_append (k ∷ ks) ls None = sym (refused ls)
after_append (k ∷ ks) ls (Some os) = after_append ks ls (after k os)

pub taken : (c : ℕ) (os : List ℕ) → after (Return c) (c ∷ os) ≡ Some os
taken c os = ap (λ b. if b then Some os else None) (eq-eqb c c refl)

module _ {N : Type 0} (E : N → EdgeKind → N → Type 0) where
  joined : {a b c : N} {ks ls : List EdgeKind} → Leads E a ks b → Leads E b ls c → Leads E a (ks ++ ls) c
  joined stay m = m
  joined (go e l) m = go e (joined l m)

  -- a list that leaves the open calls as they are
  pub record Keeps (a b : N) : Type 0 where
    pub kinds : List EdgeKind
    pub leads : Leads E a kinds b
    pub keeps : (os : List ℕ) → after_all kinds (Some os) ≡ Some os

  keeps_over : {p m q l n : N} (c : ℕ) → Keeps p m → E m (Call c) q → Keeps q l → E l (Return c) n → Keeps p n
  keeps_over c s e t d = record {
    kinds = s.kinds ++ (Call c ∷ (t.kinds ++ (Return c ∷ [])));
    leads = joined s.leads (go e (joined t.leads (go d stay)));
    keeps = λ os. after_append s.kinds (Call c ∷ (t.kinds ++ (Return c ∷ []))) (Some os)
        ∙ ap (after_all (Call c ∷ (t.kinds ++ (Return c ∷ [])))) (s.keeps os)
        ∙ after_append t.kinds (Return c ∷ []) (Some (c ∷ os))
        ∙ ap (after_all (Return c ∷ [])) (t.keeps (c ∷ os))
        ∙ taken c os;
  }

  pub same_keeps : {p n : N} {r : ℕ} → SameWithin E p r n → Keeps p n
  same_keeps (same_start m e) = record { kinds = []; leads = stay; keeps = λ os. refl }
  same_keeps (same_plain m h e) = let s = same_keeps h in record {
    kinds = s.kinds ++ (Plain ∷ []);
    leads = joined s.leads (go e stay);
    keeps = λ os. after_append s.kinds (Plain ∷ []) (Some os) ∙ ap (after_all (Plain ∷ [])) (s.keeps os);
  }
  same_keeps (same_over m q l c h e g d) = keeps_over c (same_keeps h) e (same_keeps g) d

  -- a list behind which these calls are open
  pub record Opens (a b : N) (os : List ℕ) : Type 0 where
    pub kinds : List EdgeKind
    pub leads : Leads E a kinds b
    pub opens : open_calls kinds ≡ Some os

  one_more : {a m n : N} {os ps : List ℕ} (k : EdgeKind) → Opens a m os → E m k n → after k os ≡ Some ps → Opens a n ps
  one_more {os = os} k o e h = record {
    kinds = o.kinds ++ (k ∷ []);
    leads = joined o.leads (go e stay);
    opens = after_append o.kinds (k ∷ []) (Some []) ∙ ap (after_all (k ∷ [])) o.opens ∙ h;
  }

  kept_more : {a m n : N} {os : List ℕ} → Opens a m os → Keeps m n → Opens a n os
  kept_more {os = os} o k = record {
    kinds = o.kinds ++ k.kinds;
    leads = joined o.leads k.leads;
    opens = after_append o.kinds k.kinds (Some []) ∙ ap (after_all k.kinds) o.opens ∙ k.keeps os;
  }

  over_more : {a m q l n : N} {os : List ℕ} (c : ℕ) → Opens a m os → E m (Call c) q → IsSame E q l → E l (Return c) n → Opens a n os
  over_more {m = m} c o e s d = kept_more o (keeps_over c (record { kinds = []; leads = stay; keeps = λ os. refl }) e (same_keeps s.within) d)

  -- with no call open for Up, with some for Down
  pub record Ends (w : Way) (a b : N) : Type 0 where
    pub calls : List ℕ
    pub opens : Opens a b calls
    pub none : w ≡ Up → calls ≡ []

  pub way_ends : {s n : N} {w : Way} {r : ℕ} → ReachesWithin E s w r n → Ends w s n
  way_ends up_start = record { calls = []; opens = record { kinds = []; leads = stay; opens = refl }; none = λ u. refl }
  way_ends (up_plain m h e) = let i = way_ends h in record { calls = i.calls; opens = one_more Plain i.opens e refl; none = λ u. i.none refl }
  way_ends (up_return {c = c} m h e) = let i = way_ends h in record { calls = []; opens = one_more (Return c) i.opens e (ap (after (Return c)) (i.none refl)); none = λ u. refl }
  way_ends (up_reset m h e) = let i = way_ends h in record { calls = []; opens = one_more Reset i.opens e refl; none = λ u. refl }
  way_ends (up_over m q l c h e g d) = let i = way_ends h in record { calls = i.calls; opens = over_more c i.opens e g d; none = λ u. i.none refl }
  way_ends (up_again m h e) = let i = way_ends h in record { calls = []; opens = one_more Reset i.opens e refl; none = λ u. refl }
  way_ends (down_call {c = c} m h e) = let i = way_ends h in record { calls = c ∷ i.calls; opens = one_more (Call c) i.opens e refl; none = λ u. absurd cc }
  way_ends (down_plain m h e) = let i = way_ends h in record { calls = i.calls; opens = one_more Plain i.opens e refl; none = λ u. absurd cc }
  way_ends (down_on {c = c} m h e) = let i = way_ends h in record { calls = c ∷ i.calls; opens = one_more (Call c) i.opens e refl; none = λ u. absurd cc }
  way_ends (down_over m q l c h e g d) = let i = way_ends h in record { calls = i.calls; opens = over_more c i.opens e g d; none = λ u. absurd cc }

  pub facts_join : {s n : N} → Reaches E s n → Joins E s n
  facts_join r = let e = way_ends r.within in record { kinds = e.opens.kinds; calls = e.calls; leads = e.opens.leads; realizable = e.opens.opens }
