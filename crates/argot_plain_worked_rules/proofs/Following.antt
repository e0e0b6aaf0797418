-- Which places control may go to after a place at most, by evaluation.
use Rattle.std.proofs.Common.{◌≡◌, ℕ, zero, suc, ◌+◌, ◌≤◌, Bool, true, false, List, [], ◌∷◌, ◌++◌, Option, Some, None, refl, sym, ap, ◌∙◌, subst, inl, inr, arith, eq-eqb, le-leb}
use Rattle.std.specs.Prelude.{◌⊎◌, ◌&&◌, ◌==◌, slice_get, nat_le}
use Rattle.argot_plain.specs.Lists.{In, here, there, member}
use Rattle.argot_plain.specs.Code.{Code, IsAt, IsFunction, IsIn}
use Rattle.argot_plain.specs.declared.functions.Function.{Function}
use Rattle.argot_plain.specs.declared.instructions.Kind.{Kind}
use Rattle.argot_plain.specs.declared.instructions.Kind.TheVariants.{Call, Defer}
use Rattle.argot_facts.specs.Follows.{DirectlyFollows, Follows, one, then, Uses}
use Rattle.argot_facts.specs.Follows as Following
use Rattle.argot_plain_worked_rules.proofs.Possible.{in_left, in_right, each, in_each, when, in_when, in_member, member_in, at_places, in_places, may_mean, in_targets, successors, in_successors, all_in, all_have, and_left, and_right}

-- control

abbrev exits_of : List Function → ℕ → List ℕ
exits_of [] i = []
exits_of (fn ∷ fns) i = when (nat_le fn.entry i && nat_le i fn.leave) (fn.exit ∷ []) ++ exits_of fns i

abbrev entry_of : Option Function → List ℕ
entry_of None = []
entry_of (Some fn) = fn.entry ∷ []

abbrev ends_of : Option Function → List ℕ
ends_of None = []
ends_of (Some fn) = fn.leave ∷ fn.exit ∷ []

-- the first places, and the leaves and exits, of what is called
abbrev entries : Code → List (ℕ × Bool) → List ℕ
entries p hs = each (λ (h : ℕ × Bool). entry_of (slice_get p.functions h.0)) hs

abbrev ends : Code → List (ℕ × Bool) → List ℕ
ends p hs = each (λ (h : ℕ × Bool). ends_of (slice_get p.functions h.0)) hs

-- where control may go from the place i for a Call or Defer at the place c
abbrev for_call : Code → ℕ → ℕ → List (ℕ × Bool) → List ℕ
for_call p i c hs = when (c == i) (entries p hs) ++ when (member i (ends p hs)) (successors p c ++ exits_of p.functions c)

abbrev for_defer : Code → ℕ → ℕ → List (ℕ × Bool) → List ℕ
for_defer p i c hs = for_call p i c hs ++ when (member i (exits_of p.functions c)) (entries p hs)

abbrev controls : Code → ℕ → ℕ → Kind → List ℕ
controls p i c (Call to callee args) = for_call p i c (may_mean p callee)
controls p i c (Defer callee args) = for_defer p i c (may_mean p callee)
controls p i c _ = []

-- where control may go from the place i at once
abbrev directly : Code → ℕ → List ℕ
directly p i = successors p i ++ (exits_of p.functions i ++ at_places (controls p i) 0 p.instrs)

both : (a b : Bool) → a ≡ true → b ≡ true → (a && b) ≡ true
both true b e f = f
both false b e f = absurd cc

in_exits : (fns : List Function) (g i : ℕ) (fn : Function) → slice_get fns g ≡ Some fn → fn.entry ≤ i → i ≤ fn.leave → In fn.exit (exits_of fns i)
in_exits [] g i fn is low high = absurd cc
in_exits (x ∷ fns) zero i fn is low high =
    let e : fn ≡ x = cc in
    in_left fn.exit (when (nat_le x.entry i && nat_le i x.leave) (x.exit ∷ [])) (exits_of fns i)
    (in_when fn.exit (x.exit ∷ []) (nat_le x.entry i && nat_le i x.leave)
    (both (nat_le x.entry i) (nat_le i x.leave) (le-leb x.entry i (subst (λ (f : Function). f.entry ≤ i) e low)) (le-leb i x.leave (subst (λ (f : Function). i ≤ f.leave) e high)))
    (here (ap (λ (f : Function). f.exit) e)))
in_exits (x ∷ fns) (suc g) i fn is low high = in_right fn.exit (when (nat_le x.entry i && nat_le i x.leave) (x.exit ∷ [])) (exits_of fns i) (in_exits fns g i fn is low high)

exit_in : (p : Code) (i g : ℕ) (fn : Function) → IsIn p i g → IsFunction p g fn → In fn.exit (exits_of p.functions i)
exit_in p i g fn inside is =
    let e : inside.fn ≡ fn = some_is inside.fn fn (sym inside.is ∙ is) in
    in_exits p.functions g i fn is (subst (λ (f : Function). f.entry ≤ i) e inside.low) (subst (λ (f : Function). i ≤ f.leave) e inside.high)
  where
    some_is : (a b : Function) → Some a ≡ Some b → a ≡ b
    some_is a b h = cc

in_entries : (p : Code) (h : ℕ) (takes : Bool) (fn : Function) (hs : List (ℕ × Bool)) → IsFunction p h fn → In (h, takes) hs → In fn.entry (entries p hs)
in_entries p h takes fn hs is m =
    in_each (λ (h : ℕ × Bool). entry_of (slice_get p.functions h.0)) (h, takes) fn.entry hs m (subst (λ o. In fn.entry (entry_of o)) (sym is) (here refl))

leave_in : (p : Code) (h : ℕ) (takes : Bool) (fn : Function) (hs : List (ℕ × Bool)) → IsFunction p h fn → In (h, takes) hs → In fn.leave (ends p hs)
leave_in p h takes fn hs is m =
    in_each (λ (h : ℕ × Bool). ends_of (slice_get p.functions h.0)) (h, takes) fn.leave hs m (subst (λ o. In fn.leave (ends_of o)) (sym is) (here refl))

exit_end : (p : Code) (h : ℕ) (takes : Bool) (fn : Function) (hs : List (ℕ × Bool)) → IsFunction p h fn → In (h, takes) hs → In fn.exit (ends p hs)
exit_end p h takes fn hs is m =
    in_each (λ (h : ℕ × Bool). ends_of (slice_get p.functions h.0)) (h, takes) fn.exit hs m (subst (λ o. In fn.exit (ends_of o)) (sym is) (there (here refl)))

module _ (p : Code) where
  by_entries : (i j c : ℕ) (hs : List (ℕ × Bool)) → c ≡ i → In j (entries p hs) → In j (for_call p i c hs)
  by_entries i j c hs e m = in_left j (when (c == i) (entries p hs)) _ (in_when j (entries p hs) (c == i) (eq-eqb c i e) m)

  by_ends : (i j c : ℕ) (hs : List (ℕ × Bool)) → In i (ends p hs) → In j (successors p c ++ exits_of p.functions c) → In j (for_call p i c hs)
  by_ends i j c hs e m =
      in_right j (when (c == i) (entries p hs)) _ (in_when j (successors p c ++ exits_of p.functions c) (member i (ends p hs)) (in_member i (ends p hs) e) m)

  by_exits : (i j c : ℕ) (hs : List (ℕ × Bool)) → In i (exits_of p.functions c) → In j (entries p hs) → In j (for_defer p i c hs)
  by_exits i j c hs e m = in_right j (for_call p i c hs) _ (in_when j (entries p hs) (member i (exits_of p.functions c)) (in_member i (exits_of p.functions c) e) m)

  controlled : (i j c : ℕ) (kind : Kind) → IsAt p c kind → In j (controls p i c kind) → In j (directly p i)
  controlled i j c kind at m =
      let z : 0 + c ≡ c = omega arith in
      in_right j (successors p i) _ (in_right j (exits_of p.functions i) _ (in_places (controls p i) j 0 c kind p.instrs at (subst (λ n. In j (controls p i n kind)) (sym z) m)))

  unwinding : (i j c g h : ℕ) (gn fn : Function) → Uses p c g h → IsFunction p h fn → IsFunction p g gn → (i ≡ fn.leave) ⊎ (i ≡ fn.exit) → j ≡ gn.exit → In j (directly p i)
  unwinding i j c g h gn fn (Following.by_call to args callee takes inside at targets) is isg from to' =
      controlled i j c (Call to callee args) at (by_ends i j c (may_mean p callee) (ended (in_targets p c h takes (Call to callee args) at targets) from)
      (subst (λ n. In n (successors p c ++ exits_of p.functions c)) (sym to') (in_right gn.exit (successors p c) _ (exit_in p c g gn inside isg))))
    where
      ended : In (h, takes) (may_mean p callee) → (i ≡ fn.leave) ⊎ (i ≡ fn.exit) → In i (ends p (may_mean p callee))
      ended m (inl e) = subst (λ n. In n (ends p (may_mean p callee))) (sym e) (leave_in p h takes fn (may_mean p callee) is m)
      ended m (inr e) = subst (λ n. In n (ends p (may_mean p callee))) (sym e) (exit_end p h takes fn (may_mean p callee) is m)
  unwinding i j c g h gn fn (Following.by_defer args callee takes inside at targets) is isg from to' =
      controlled i j c (Defer callee args) at (in_left j (for_call p i c (may_mean p callee)) _ (by_ends i j c (may_mean p callee) (ended (in_targets p c h takes (Defer callee args) at targets) from)
      (subst (λ n. In n (successors p c ++ exits_of p.functions c)) (sym to') (in_right gn.exit (successors p c) _ (exit_in p c g gn inside isg)))))
    where
      ended : In (h, takes) (may_mean p callee) → (i ≡ fn.leave) ⊎ (i ≡ fn.exit) → In i (ends p (may_mean p callee))
      ended m (inl e) = subst (λ n. In n (ends p (may_mean p callee))) (sym e) (leave_in p h takes fn (may_mean p callee) is m)
      ended m (inr e) = subst (λ n. In n (ends p (may_mean p callee))) (sym e) (exit_end p h takes fn (may_mean p callee) is m)

  in_directly : (i j : ℕ) → DirectlyFollows p i j → In j (directly p i)
  in_directly i j (Following.goes live onward) = in_left j (successors p i) _ (in_successors p i j onward)
  in_directly i j (Following.calls h to args callee takes fn at targets is) =
      controlled i j i (Call to callee args) at (by_entries i j i (may_mean p callee) refl (in_entries p h takes fn (may_mean p callee) is (in_targets p i h takes (Call to callee args) at targets)))
  in_directly i j (Following.exits g fn live inside is body) = in_right j (successors p i) _ (in_left j (exits_of p.functions i) _ (exit_in p i g fn inside is))
  in_directly i j (Following.returns c h to args callee takes fn is body at targets onward) =
      controlled i j c (Call to callee args) at (by_ends i j c (may_mean p callee) (leave_in p h takes fn (may_mean p callee) is (in_targets p c h takes (Call to callee args) at targets))
      (in_left j (successors p c) _ (in_successors p c j onward)))
  in_directly i j (Following.unwinds c g h gn fn uses is body isg) = unwinding i j c g h gn fn uses is isg (inr refl) refl
  in_directly i j (Following.returns_to_exit c g h gn fn uses is body isg) = unwinding i j c g h gn fn uses is isg (inl refl) refl
  in_directly i j (Following.runs c g h args callee takes gn fn inside at targets isg is) =
      controlled i j c (Defer callee args) at (by_exits i j c (may_mean p callee) (exit_in p c g gn inside isg) (in_entries p h takes fn (may_mean p callee) is (in_targets p c h takes (Defer callee args) at targets)))

abbrev each_onward : Code → List ℕ → List ℕ → Bool
each_onward p [] all = true
each_onward p (i ∷ is) all = all_in (directly p i) all && each_onward p is all

-- whether these places are closed under going on, and have those to which control goes from w
abbrev pub follow_closed : Code → ℕ → List ℕ → Bool
follow_closed p w all = all_in (directly p w) all && each_onward p all all

onward_at : (p : Code) (i j : ℕ) (is all : List ℕ) → each_onward p is all ≡ true → In i is → In j (directly p i) → member j all ≡ true
onward_at p i j [] all h m goes = elim m [ ]
onward_at p i j (x ∷ is) all h (there m) goes = onward_at p i j is all (and_right (all_in (directly p x) all) (each_onward p is all) h) m goes
onward_at p i j (x ∷ is) all h (here e) goes =
    all_have (directly p i) all j (subst (λ y. all_in (directly p y) all ≡ true) (sym e) (and_left (all_in (directly p x) all) (each_onward p is all) h)) goes

pub follow_stays : (p : Code) (w i : ℕ) (all : List ℕ) → follow_closed p w all ≡ true → Follows p w i → member i all ≡ true
follow_stays p w i all h (one d) = all_have (directly p w) all i (and_left (all_in (directly p w) all) (each_onward p all all) h) (in_directly p w i d)
follow_stays p w i all h (then {b = m} f d) =
    onward_at p m i all all (and_right (all_in (directly p w) all) (each_onward p all all) h) (member_in m all (follow_stays p w m all h f)) (in_directly p m i d)

abbrev follow_front : Bool → List ℕ → List ℕ → List ℕ
follow_front true more front = front
follow_front false more front = more ++ front

abbrev follow_seen : Bool → ℕ → List ℕ → List ℕ
follow_seen true i seen = seen
follow_seen false i seen = i ∷ seen

abbrev follow_on : ℕ → Code → List ℕ → List ℕ → List ℕ
follow_on zero p front seen = seen
follow_on (suc n) p [] seen = seen
follow_on (suc n) p (i ∷ front) seen = follow_on n p (follow_front (member i seen) (directly p i) front) (follow_seen (member i seen) i seen)

-- the places that follow w, as far as they are found in 300 steps
abbrev pub followers : Code → ℕ → List ℕ
followers p w = follow_on 300 p (directly p w) []
