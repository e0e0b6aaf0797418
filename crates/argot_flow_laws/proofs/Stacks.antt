-- Each realizable list has its fact: behind each edge the open calls stand one upon the other, each with the facts within it.
use Rattle.std.proofs.Common.{◌≡◌, ℕ, suc, ◌==◌, List, [], ◌∷◌, Some, None, refl, sym, ap, ◌∙◌, inl, inr, subst, eqb-true, if◌then◌else◌}
use Rattle.std.proofs.lemmas.Bool.{cases_Bool}
use Rattle.argot_facts.specs.Lists.{after, after_all, Leads, stay, go, Joins}
use Rattle.argot_facts.specs.Summaries.{Way, Up, Down, SameWithin, same_start, same_plain, same_over, IsSame, ReachesWithin, up_start, up_plain, up_return, up_reset, up_over, up_again, down_call, down_plain, down_on, down_over}
use Rattle.argot_facts.specs.declared.graphs.EdgeKind.{EdgeKind}
use Rattle.argot_facts.specs.declared.graphs.EdgeKind.TheVariants.{Plain, Call, Return, Reset}
use Rattle.argot_facts.specs.Reached.{Reaches}
use Rattle.argot_flow_laws.proofs.Later.{is_start, is_plain, is_over}
use Rattle.argot_flow_laws.proofs.Balanced.{refused}

-- Up where no call is open, else Down
abbrev pub way_of : List ℕ → Way
way_of [] = Up
way_of (c ∷ os) = Down

module _ {N : Type 0} (E : N → EdgeKind → N → Type 0) where
  -- n is reached in this way
  pub record Comes (s : N) (w : Way) (n : N) : Type 0 where
    pub rounds : ℕ
    pub within : ReachesWithin E s w rounds n

  -- n is reached behind these open calls
  pub data Stack (s : N) : List ℕ → N → Type 0 where
    flat : {n : N} → Comes s Up n → Stack s [] n
    upon : {c : ℕ} {os : List ℕ} {n : N} → (m q : N) → Stack s os m → E m (Call c) q → IsSame E q n → Stack s (c ∷ os) n

  down_within : {s q n : N} {r k : ℕ} → ReachesWithin E s Down r q → SameWithin E q k n → Comes s Down n
  down_within d (same_start m e) = record { rounds = _; within = d }
  down_within d (same_plain m h e) = let i = down_within d h in record { rounds = suc i.rounds; within = down_plain m i.within e }
  down_within d (same_over {r = r} m q l c h e g f) = let i = down_within d h in record { rounds = suc i.rounds; within = down_over m q l c i.within e (record { rounds = r; within = g }) f }

  entered : {s m q : N} {c : ℕ} (os : List ℕ) → Comes s (way_of os) m → E m (Call c) q → Comes s Down q
  entered {m = m} [] i e = record { rounds = suc i.rounds; within = down_call m i.within e }
  entered {m = m} (o ∷ os) i e = record { rounds = suc i.rounds; within = down_on m i.within e }

  pub stack_comes : {s n : N} {os : List ℕ} → Stack s os n → Comes s (way_of os) n
  stack_comes (flat i) = i
  stack_comes (upon {os = os} m q t e g) = down_within (entered os (stack_comes t) e).within g.within

  over : {s m q l n : N} {os : List ℕ} (c : ℕ) → Stack s os m → E m (Call c) q → IsSame E q l → E l (Return c) n → Stack s os n
  over {m = m} {q = q} {l = l} c (flat i) e g d = flat (record { rounds = suc i.rounds; within = up_over m q l c i.within e g d })
  over {m = m} {q = q} {l = l} c (upon m' q' t e' g') e g d = upon m' q' t e' (is_over E m q l c g' e g d)

  again : {s m n : N} (os : List ℕ) → Comes s (way_of os) m → E m Reset n → Stack s [] n
  again {m = m} [] i e = flat (record { rounds = suc i.rounds; within = up_reset m i.within e })
  again {m = m} (o ∷ os) i e = flat (record { rounds = suc i.rounds; within = up_again m i.within e })

  plain : {s m n : N} {os : List ℕ} → Stack s os m → E m Plain n → Stack s os n
  plain {m = m} (flat i) e = flat (record { rounds = suc i.rounds; within = up_plain m i.within e })
  plain {m = m} (upon m' q t e' g) e = upon m' q t e' (is_plain E m g e)

  -- along a return edge: the calls that it leaves open
  back : {s m n : N} {os : List ℕ} (c : ℕ) → Stack s os m → E m (Return c) n → (ps : List ℕ) → after (Return c) os ≡ Some ps → Stack s ps n
  back {s} {m} {n} c (flat i) e ps h =
      let same : [] ≡ ps = cc in
      subst (λ xs. Stack s xs n) same (flat (record { rounds = suc i.rounds; within = up_return m i.within e }))
  back {s} {m} {n} c (upon {c = o} {os = os} m' q t e' g) e ps h = elim (cases_Bool (o == c)) [
    | inl y ↦ (let same : os ≡ ps = (let w = sym (ap (λ b. if b then Some os else None) y) ∙ h in cc) in
        subst (λ xs. Stack s xs n) same (over c t (subst (λ x. E m' (Call x) q) (eqb-true o c y) e') g e))
    | inr y ↦ absurd (let w = sym (ap (λ b. if b then Some os else None) y) ∙ h in cc)
  ]

  pub walked : {s m n : N} {ks : List EdgeKind} (os ps : List ℕ) → Stack s os m → Leads E m ks n → after_all ks (Some os) ≡ Some ps → Stack s ps n
  walked {s} {n = n} os ps t stay h = let same : os ≡ ps = cc in subst (λ xs. Stack s xs n) same t
  walked os ps t (go {k = Plain} e l) h = walked os ps (plain t e) l h
  walked {m = m} os ps t (go {b = b} {k = Call c} e l) h = walked (c ∷ os) ps (upon m b t e (is_start E m c e)) l h
  walked {s} {m} {n} os ps t (go {k = Return c} {ks = ks} e l) h =
      elim (after (Return c) os) as (λ r. after (Return c) os ≡ r → after_all ks r ≡ Some ps → Stack s ps n) [
        | None ↦ λ x y. absurd (let w = sym (refused ks) ∙ y in cc)
        | Some qs ↦ λ x y. walked qs ps (back c t e qs x) l y
      ] refl h
  walked os ps t (go {k = Reset} e l) h = walked [] ps (again os (stack_comes t) e) l h

  pub lists_reach : {s n : N} → Joins E s n → Reaches E s n
  lists_reach j =
      let t = walked [] j.calls (flat (record { rounds = 0; within = up_start })) j.leads j.realizable in
      let i = stack_comes t in
      record { way = way_of j.calls; rounds = i.rounds; within = i.within }
