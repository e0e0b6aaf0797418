-- The pairs that are listed are exactly those between which control goes at once.
use Rattle.std.proofs.Common.{◌≡◌, ℕ, ◌+◌, Some, None, Option, Bool, List, length, refl, sym, inl, inr, subst}
use Rattle.argot_plain.specs.Code.{Code, IsAt, IsFunction, IsIn, Successor, successor, Next, by_call, by_defer, takes_reference}
use Rattle.argot_plain.specs.Lists.{In, here, there}
use Rattle.argot_plain.specs.WellFormed.{WellFormed}
use Rattle.argot_plain.specs.declared.functions.Function.{Function}
use Rattle.argot_plain.specs.declared.instructions.Callee.{Callee}
use Rattle.argot_plain.specs.declared.instructions.Kind.{Kind}
use Rattle.argot_plain.specs.declared.instructions.Kind.TheVariants.{Call, Defer}
use Rattle.argot_facts.specs.Follows.{UsesBy, by_call as used_by_call, by_defer as used_by_defer, DirectlyFollowsBy, goes, calls, exits, returns, unwinds, returns_to_exit, runs}
use Rattle.argot_facts.specs.Handed.{FactsOf, IsTakenAt}
use Rattle.argot_facts.specs.Pointing.{Pointing}
use Rattle.argot_facts.specs.Refers.{IsLivePlaceIn}
use Rattle.argot_facts.proofs.Calls.{same_kind}
use Rattle.argot_facts.proofs.Placed.{one_function, place_in}
use Rattle.argot_control.specs.Pairs.{pairs_of_call, pairs_of_defer, pairs_of_use, Leads}
use Rattle.argot_control.proofs.Cutting.{at_within}

module _ (p : Code) (x : Pointing) (wf : WellFormed p) where
  abbrev D : ℕ → ℕ → Type 0
  D = DirectlyFollowsBy p (FactsOf p x)

  -- a pair is another one's
  as_pair : (a b u v : ℕ) → ◌≡◌ {A = ℕ × ℕ} (a, b) (u, v) → D u v → D a b
  as_pair a b u v e d = subst (λ (s : ℕ × ℕ). D s.0 s.1) (sym e) d

  taken_call : (i target : ℕ) (to args : List ℕ) (callee : Callee) (fn : Function) → IsAt p i (Call to callee args) → IsFunction p target fn → IsTakenAt p i target (takes_reference callee fn)
  taken_call i target to args callee fn at is = record { kind = Call to callee args; callee = callee; args = args; behind = length to; fn = fn; at = at; hands = by_call; is = is; takes_it = refl }

  taken_defer : (i target : ℕ) (args : List ℕ) (callee : Callee) (fn : Function) → IsAt p i (Defer callee args) → IsFunction p target fn → IsTakenAt p i target (takes_reference callee fn)
  taken_defer i target args callee fn at is = record { kind = Defer callee args; callee = callee; args = args; behind = 0; fn = fn; at = at; hands = by_defer; is = is; takes_it = refl }

  behind_call : (i : ℕ) (to args : List ℕ) (callee : Callee) → IsAt p i (Call to callee args) → Successor p i (i + 1)
  behind_call i to args callee at = successor (Call to callee args) at refl

  next_is : (i j : ℕ) (to args : List ℕ) (callee : Callee) → IsAt p i (Call to callee args) → Successor p i j → j ≡ i + 1
  next_is i j to args callee at (successor kind k n) = subst (λ z. Next z i j) (same_kind p i kind (Call to callee args) k at) n

  module _ (h i target : ℕ) (own fn : Function) (inside : IsIn p i h) (named : In (i, target) x.targets) (is_own : IsFunction p h own) (is : IsFunction p target fn) where
    call_follows : (to args : List ℕ) (callee : Callee) → IsAt p i (Call to callee args) → (o : Option Bool) → fn.external ≡ o → (a b : ℕ) → In {A = ℕ × ℕ} (a, b) (pairs_of_call o i own fn) → D a b
    call_follows to args callee at None body a b (here e) = as_pair a b i fn.entry e (calls target to args callee (takes_reference callee fn) fn at (named, taken_call i target to args callee fn at is) is)
    call_follows to args callee at None body a b (there (here e)) =
        as_pair a b fn.leave (i + 1) e (returns i target to args callee (takes_reference callee fn) fn is body at (named, taken_call i target to args callee fn at is) (behind_call i to args callee at))
    call_follows to args callee at None body a b (there (there (here e))) =
        as_pair a b fn.exit own.exit e (unwinds i h target own fn (used_by_call to args callee (takes_reference callee fn) inside at (named, taken_call i target to args callee fn at is)) is body is_own)
    call_follows to args callee at None body a b (there (there (there (here e)))) =
        as_pair a b fn.leave own.exit e (returns_to_exit i h target own fn (used_by_call to args callee (takes_reference callee fn) inside at (named, taken_call i target to args callee fn at is)) is body is_own)
    call_follows to args callee at None body a b (there (there (there (there m)))) = elim m [ ]
    call_follows to args callee at (Some flows) body a b (here e) = as_pair a b i fn.entry e (calls target to args callee (takes_reference callee fn) fn at (named, taken_call i target to args callee fn at is) is)
    call_follows to args callee at (Some flows) body a b (there m) = elim m [ ]

    defer_follows : (args : List ℕ) (callee : Callee) → IsAt p i (Defer callee args) → (o : Option Bool) → fn.external ≡ o → (a b : ℕ) → In {A = ℕ × ℕ} (a, b) (pairs_of_defer o own fn) → D a b
    defer_follows args callee at None body a b (here e) = as_pair a b own.exit fn.entry e (runs i h target args callee (takes_reference callee fn) own fn inside at (named, taken_defer i target args callee fn at is) is_own is)
    defer_follows args callee at None body a b (there (here e)) =
        as_pair a b fn.exit own.exit e (unwinds i h target own fn (used_by_defer args callee (takes_reference callee fn) inside at (named, taken_defer i target args callee fn at is)) is body is_own)
    defer_follows args callee at None body a b (there (there (here e))) =
        as_pair a b fn.leave own.exit e (returns_to_exit i h target own fn (used_by_defer args callee (takes_reference callee fn) inside at (named, taken_defer i target args callee fn at is)) is body is_own)
    defer_follows args callee at None body a b (there (there (there m))) = elim m [ ]
    defer_follows args callee at (Some flows) body a b (here e) = as_pair a b own.exit fn.entry e (runs i h target args callee (takes_reference callee fn) own fn inside at (named, taken_defer i target args callee fn at is) is_own is)
    defer_follows args callee at (Some flows) body a b (there m) = elim m [ ]

    use_follows : (kind : Kind) → IsAt p i kind → (a b : ℕ) → In {A = ℕ × ℕ} (a, b) (pairs_of_use kind i own fn) → D a b
    use_follows (Call to callee args) at a b m = call_follows to args callee at fn.external refl a b m
    use_follows (Defer callee args) at a b m = defer_follows args callee at fn.external refl a b m
    use_follows _ at a b m = elim m [ ]

  pub leads_follow : (a b : ℕ) → Leads p x a b → D a b
  leads_follow a b l = elim l [
    | inl m ↦ elim m.2 [
      | inl g ↦ goes (record { function = m.0; is_in = g.0; is_live = m.1 }) g.1
      | inr g ↦ subst (λ n. D a n) (sym g.4) (exits m.0 g.1 (record { function = m.0; is_in = g.0; is_live = m.1 }) g.0 g.2 g.3)
    ]
    | inr m ↦ let t = m.1.2 in let u = t.2 in use_follows m.0 m.1.0 t.0 u.own u.fn m.1.1 t.1 u.is_own u.is u.kind u.at a b u.pair
  ]

  -- the pairs of a use are among those that are listed
  use_leads : (h i target : ℕ) (kind : Kind) (own fn : Function) → IsIn p i h → In (i, target) x.targets → IsAt p i kind → IsFunction p h own → IsFunction p target fn → (a b : ℕ) → In {A = ℕ × ℕ} (a, b) (pairs_of_use kind i own fn) → Leads p x a b
  use_leads h i target kind own fn inside named at is_own is a b m = inr (h, (i, inside, (target, named, record { kind = kind; own = own; fn = fn; at = at; is_own = is_own; is = is; pair = m })))

  call_entry : (o : Option Bool) (i : ℕ) (own fn : Function) → In {A = ℕ × ℕ} (i, fn.entry) (pairs_of_call o i own fn)
  call_entry None i own fn = here refl
  call_entry (Some flows) i own fn = here refl

  defer_entry : (o : Option Bool) (own fn : Function) → In {A = ℕ × ℕ} (own.exit, fn.entry) (pairs_of_defer o own fn)
  defer_entry None own fn = here refl
  defer_entry (Some flows) own fn = here refl

  call_back : (o : Option Bool) (i : ℕ) (own fn : Function) → o ≡ None → In {A = ℕ × ℕ} (fn.leave, i + 1) (pairs_of_call o i own fn)
  call_back None i own fn e = there (here refl)
  call_back (Some flows) i own fn e = absurd cc

  call_unwinds : (o : Option Bool) (i : ℕ) (own fn : Function) → o ≡ None → In {A = ℕ × ℕ} (fn.exit, own.exit) (pairs_of_call o i own fn)
  call_unwinds None i own fn e = there (there (here refl))
  call_unwinds (Some flows) i own fn e = absurd cc

  call_leaves : (o : Option Bool) (i : ℕ) (own fn : Function) → o ≡ None → In {A = ℕ × ℕ} (fn.leave, own.exit) (pairs_of_call o i own fn)
  call_leaves None i own fn e = there (there (there (here refl)))
  call_leaves (Some flows) i own fn e = absurd cc

  defer_unwinds : (o : Option Bool) (own fn : Function) → o ≡ None → In {A = ℕ × ℕ} (fn.exit, own.exit) (pairs_of_defer o own fn)
  defer_unwinds None own fn e = there (here refl)
  defer_unwinds (Some flows) own fn e = absurd cc

  defer_leaves : (o : Option Bool) (own fn : Function) → o ≡ None → In {A = ℕ × ℕ} (fn.leave, own.exit) (pairs_of_defer o own fn)
  defer_leaves None own fn e = there (there (here refl))
  defer_leaves (Some flows) own fn e = absurd cc

  place_of : (i : ℕ) (kind : Kind) → IsAt p i kind → (h : ℕ) × IsIn p i h
  place_of i kind at = place_in p wf.ranges wf.entry_function.fn wf.entry_function.is i (at_within p i kind at)

  unwound : (h i target : ℕ) (own fn : Function) → UsesBy p (FactsOf p x) i h target → IsFunction p target fn → fn.external ≡ None → IsFunction p h own → Leads p x fn.exit own.exit
  unwound h i target own fn (used_by_call to args callee takes inside at f) is body is_own = use_leads h i target (Call to callee args) own fn inside f.0 at is_own is fn.exit own.exit (call_unwinds fn.external i own fn body)
  unwound h i target own fn (used_by_defer args callee takes inside at f) is body is_own = use_leads h i target (Defer callee args) own fn inside f.0 at is_own is fn.exit own.exit (defer_unwinds fn.external own fn body)

  left : (h i target : ℕ) (own fn : Function) → UsesBy p (FactsOf p x) i h target → IsFunction p target fn → fn.external ≡ None → IsFunction p h own → Leads p x fn.leave own.exit
  left h i target own fn (used_by_call to args callee takes inside at f) is body is_own = use_leads h i target (Call to callee args) own fn inside f.0 at is_own is fn.leave own.exit (call_leaves fn.external i own fn body)
  left h i target own fn (used_by_defer args callee takes inside at f) is body is_own = use_leads h i target (Defer callee args) own fn inside f.0 at is_own is fn.leave own.exit (defer_leaves fn.external own fn body)

  live_in : (i h : ℕ) → IsLivePlaceIn p (FactsOf p x) i → IsIn p i h → In h x.live
  live_in i h l inside = subst (λ g. In g x.live) (one_function p wf.ranges i l.function h l.is_in inside) l.is_live

  pub follow_leads : (a b : ℕ) → D a b → Leads p x a b
  follow_leads a b (goes l s) = inl (l.function, l.is_live, inl (l.is_in, s))
  follow_leads a _ (calls target to args callee takes fn at f is) =
      let h = place_of a (Call to callee args) at in
      use_leads h.0 a target (Call to callee args) h.1.fn fn h.1 f.0 at h.1.is is a fn.entry (call_entry fn.external a h.1.fn fn)
  follow_leads a _ (exits h fn l inside is body) = inl (h, live_in a h l inside, inr (inside, fn, is, body, refl))
  follow_leads _ b (returns i target to args callee takes fn is body at f s) =
      let h = place_of i (Call to callee args) at in
      let m = use_leads h.0 i target (Call to callee args) h.1.fn fn h.1 f.0 at h.1.is is fn.leave (i + 1) (call_back fn.external i h.1.fn fn body) in
      subst (λ n. Leads p x fn.leave n) (sym (next_is i b to args callee at s)) m
  follow_leads _ _ (unwinds i h target own fn u is body is_own) = unwound h i target own fn u is body is_own
  follow_leads _ _ (returns_to_exit i h target own fn u is body is_own) = left h i target own fn u is body is_own
  follow_leads _ _ (runs i h target args callee takes own fn inside at f is_own is) = use_leads h i target (Defer callee args) own fn inside f.0 at is_own is own.exit fn.entry (defer_entry fn.external own fn)
