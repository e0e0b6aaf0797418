-- What stands behind an instruction that goes straight on.
use Rattle.std.proofs.Common.{◌≡◌, ℕ, ◌+◌, Some, None, Option, Bool, refl, sym, ◌∙◌, inl, inr, arith, subst}
use Rattle.std.specs.Prelude.{◌⊎◌}
use Rattle.argot_plain.specs.Code.{Code, IsAt, IsFunction, IsIn, Successor, successor, Next}
use Rattle.argot_plain.specs.WellFormed.{WellFormed}
use Rattle.argot_plain.specs.declared.functions.Function.{Function}
use Rattle.argot_plain.specs.declared.instructions.Kind.{Kind}
use Rattle.argot_plain.specs.declared.instructions.Kind.TheVariants.{Call, RunDefers, Leave, Goto, Branch, Panic}
use Rattle.argot_facts.specs.Follows.{DirectlyFollowsBy, goes, calls, exits, returns, unwinds, returns_to_exit, runs}
use Rattle.argot_facts.specs.Refers.{Fact, IsLive, IsLivePlaceIn}
use Rattle.argot_facts.proofs.Calls.{same_kind}
use Rattle.argot_facts.proofs.Listed.{in_of_get}
use Rattle.argot_facts.proofs.Placed.{one_function}
use Rattle.argot_control.specs.Blocks.{GoesStraightOn, IsStraightOn, IsExitOf, IsInner}

-- it goes on to the next place
next_of : (kind : Kind) (i j : ℕ) → GoesStraightOn kind → Next kind i j → j ≡ i + 1
next_of (Call to callee args) i j s n = elim s [ ]
next_of RunDefers i j s n = elim s [ ]
next_of (Leave from) i j s n = elim s [ ]
next_of (Goto target) i j s n = elim s [ ]
next_of (Branch targets) i j s n = elim s [ ]
next_of (Panic from) i j s n = elim s [ ]
next_of _ i j s n = n

to_next : (kind : Kind) (i : ℕ) → GoesStraightOn kind → Next kind i (i + 1)
to_next (Call to callee args) i s = elim s [ ]
to_next RunDefers i s = elim s [ ]
to_next (Leave from) i s = elim s [ ]
to_next (Goto target) i s = elim s [ ]
to_next (Branch targets) i s = elim s [ ]
to_next (Panic from) i s = elim s [ ]
to_next _ i s = refl

module _ (p : Code) (F : Fact → Type 0) (i : ℕ) (wf : WellFormed p) (on : IsStraightOn p F i) where
  other_kind : (kind : Kind) → IsAt p i kind → GoesStraightOn kind
  other_kind kind at = subst GoesStraightOn (same_kind p i on.kind kind on.at at) on.straight

  step : Successor p i (i + 1)
  step = successor on.kind on.at (to_next on.kind i on.straight)

  -- what goes on to the place behind i stands at i
  before : (k j : ℕ) → Successor p k j → j ≡ i + 1 → k ≡ i
  before k j (successor kind at n) e = by_kind kind at n
    where
      by_kind : (kind : Kind) → IsAt p k kind → Next kind k j → k ≡ i
      by_kind (Goto target) at n = absurd (on.no_goto k target at (sym n.0 ∙ e))
      by_kind (Branch targets) at n = absurd (on.no_branch k j targets at (in_of_get targets n.0 j n.1) e)
      by_kind (Leave from) at n = elim n [ ]
      by_kind (Panic from) at n = elim n [ ]
      by_kind _ at n = omega (arith, n, e)

  no_entry : (h : ℕ) (fn : Function) → IsFunction p h fn → fn.entry ≡ i + 1 → ⊥
  no_entry h fn is e = wf.no_entry i (i + 1) h step (record { fn = fn; is = is; at = sym e })

  alone : (k j : ℕ) → DirectlyFollowsBy p F k j → j ≡ i + 1 → k ≡ i
  alone k j (goes l s) e = before k j s e
  alone k j (calls h to args callee takes fn at f is) e = absurd (no_entry h fn is e)
  alone k j (exits g fn l inside is body) e = absurd (on.no_exit g fn is (sym e))
  alone k j (returns c h to args callee takes fn is body at f s) e =
      let z = before c j s e in
      elim (other_kind (Call to callee args) (subst (λ n. IsAt p n (Call to callee args)) z at)) [ ]
  alone k j (unwinds c g h gn fn u is body gs) e = absurd (on.no_exit g gn gs (sym e))
  alone k j (returns_to_exit c g h gn fn u is body gs) e = absurd (on.no_exit g gn gs (sym e))
  alone k j (runs c g h args callee takes gn fn inside at f gs is) e = absurd (no_entry h fn is e)

  -- nothing stands there by which control leaves otherwise
  no_leave : (h : ℕ) (fn : Function) → IsFunction p h fn → fn.external ≡ None → fn.leave ≡ i → ⊥
  no_leave h fn is body e = let l = wf.leaves_at_leave.stands h fn is body in elim (other_kind (Leave l.0) (subst (λ n. IsAt p n (Leave l.0)) e l.1)) [ ]

  no_exit_here : (h : ℕ) (fn : Function) → IsFunction p h fn → fn.exit ≡ i → ⊥
  no_exit_here h fn is e = split fn.external refl
    where
      split : (o : Option Bool) → fn.external ≡ o → ⊥
      split None b = elim (other_kind RunDefers (subst (λ n. IsAt p n RunDefers) e (wf.runs_at_exit.stands h fn is b))) [ ]
      split (Some flows) b =
          let x = wf.externals h flows fn is b in
          elim (other_kind (Goto fn.entry) (subst (λ n. IsAt p n (Goto fn.entry)) (sym x.exit ∙ e) x.goto)) [ ]

  out : (k j : ℕ) → DirectlyFollowsBy p F k j → k ≡ i → (j ≡ i + 1) ⊎ IsExitOf p F i j
  out k j (goes l (successor kind at n)) e =
      let s = other_kind kind (subst (λ m. IsAt p m kind) e at) in
      let z = next_of kind k j s n in
      inl (omega (arith, z, e))
  out k j (calls h to args callee takes fn at f is) e = elim (other_kind (Call to callee args) (subst (λ n. IsAt p n (Call to callee args)) e at)) [ ]
  out k j (exits g fn l inside is body) e = inr (leaving g fn l inside is body e)
    where
      leaving : (g : ℕ) (fn : Function) → IsLivePlaceIn p F k → IsIn p k g → IsFunction p g fn → fn.external ≡ None → k ≡ i → IsExitOf p F i fn.exit
      leaving g fn l inside is body e = record {
        function = g;
        fn = fn;
        inside = subst (λ n. IsIn p n g) e inside;
        live = subst (λ h. F (IsLive h)) (one_function p wf.ranges k l.function g l.is_in inside) l.is_live;
        is = is;
        body = body;
        exit = refl;
      }
  out k j (returns c h to args callee takes fn is body at f s) e = absurd (no_leave h fn is body e)
  out k j (unwinds c g h gn fn u is body gs) e = absurd (no_exit_here h fn is e)
  out k j (returns_to_exit c g h gn fn u is body gs) e = absurd (no_leave h fn is body e)
  out k j (runs c g h args callee takes gn fn inside at f gs is) e = absurd (no_exit_here g gn gs e)

  pub inner : IsInner p F i
  inner = record {
    next = goes on.live step;
    alone = λ k x. alone k (i + 1) x refl;
    out = λ j x. out i j x refl;
    stays = λ g inside. wf.stays i (i + 1) g step inside;
  }
