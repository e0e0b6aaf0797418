use Rattle.std.proofs.Common.{◌≡◌, ℕ, ◌+◌, ◌<◌, Some, get_or, sym, ap, ◌∙◌, inl, inr, arith, subst}
use Rattle.std.specs.Prelude.{◌⊎◌, slice_get}
use Rattle.std.proofs.lemmas.Bool.{cases_lt}
use Rattle.std.proofs.lemmas.Option.{slice_get-get_or}
use Rattle.argot_plain.specs.Lists.{In}
use Rattle.argot_facts.proofs.Listed.{number_of, get_within, in_of_get}
use Rattle.argot_control.specs.Pairs.{GoesOnIn, ExitsIn, LiveLeads}
use Rattle.argot_control.proofs.Gaining.{gains_both, gains_as}
use Rattle.argot_control.proofs.live.gain_live.Goals as goal

pub gain_both-requires-clause-function : goal.gain_both-requires-clause-function
gain_both-requires-clause-function c =
    let live = c.live-live.result.now in
    let k = c.loop-k.k in
    let m : In (get_or live k 0) live = in_of_get live k (get_or live k 0) (slice_get-get_or live k 0 c.loop-k-test.true) in
    c.requires.inside (get_or live k 0) (subst (In (get_or live k 0)) c.live-live.ensures m)

pub loop-k-preserved : goal.loop-k-preserved
loop-k-preserved c =
    let p = c.args.program.now in
    let live = c.live-live.result.now in
    let k = c.loop-k.k in
    let t = get_or live k 0 in
    let is : slice_get live k ≡ Some t = slice_get-get_or live k 0 c.loop-k-test.true in
    record {
      gains = gains_both (λ a b. (j : ℕ) × (j < k) × (h : ℕ) × (slice_get live j ≡ Some h) × (GoesOnIn p h a b ⊎ ExitsIn p h a b)) (λ a b. GoesOnIn p t a b ⊎ ExitsIn p t a b)
          (λ a b. (j : ℕ) × (j < k + 1) × (h : ℕ) × (slice_get live j ≡ Some h) × (GoesOnIn p h a b ⊎ ExitsIn p h a b))
          c.args.pairs.now.items c.loop-k.pairs.items c.gain_both.new.pairs.items
          (λ a b u. (u.0, let l = u.1 in omega arith, u.2, u.3, u.4))
          (λ a b u. (k, omega arith, t, is, u))
          (λ a b u. elim (cases_lt u.0 k) [
            | inl l ↦ inl (u.0, l, u.2, u.3, u.4)
            | inr l ↦
                let e : u.0 ≡ k = let m = u.1 in omega arith in
                let s : Some u.2 ≡ Some t = sym u.3 ∙ ap (slice_get live) e ∙ is in
                let f : u.2 ≡ t = cc in
                inr (subst (λ n. GoesOnIn p n a b ⊎ ExitsIn p n a b) f u.4)
          ])
          c.loop-k.invariant.gains c.in_ok-gain_both.ensures;
    }

pub returns : goal.returns
returns c =
    let p = c.args.program.now in
    let x = c.args.points.now in
    let live = c.live-live.result.now in
    gains_as (λ a b. (j : ℕ) × (j < c.loop-k.k) × (h : ℕ) × (slice_get live j ≡ Some h) × (GoesOnIn p h a b ⊎ ExitsIn p h a b)) (LiveLeads p x) c.args.pairs.now.items c.loop-k.pairs.items
    (λ a b u. (u.2, subst (In u.2) c.live-live.ensures (in_of_get live u.0 u.2 u.3), u.4))
    (λ a b u.
    let n = number_of u.0 live (subst (In u.0) (sym c.live-live.ensures) u.1) in
    let l = get_within live n.0 u.0 n.1 in
    let e = c.loop-k-test.false in
    (n.0, omega arith, u.0, n.1, u.2))
    c.loop-k.invariant.gains
