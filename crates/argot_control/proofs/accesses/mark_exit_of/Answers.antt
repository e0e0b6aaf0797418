use Rattle.std.proofs.Common.{◌≡◌, ℕ, ◌+◌, ◌<◌, ◌≤◌, inl, inr, arith, subst}
use Rattle.std.proofs.lemmas.Bool.{cases_lt}
use Rattle.argot_control.specs.Accesses.{DefersAt}
use Rattle.argot_control.proofs.Flagging.{flags_both}
use Rattle.argot_control.proofs.accesses.mark_exit_of.Goals as goal

pub loop-place-preserved : goal.loop-place-preserved
loop-place-preserved c =
    let p = c.args.program.now in
    let h = c.args.h in
    let entry = c.function-own.result.now.entry in
    let k = c.loop-place.place in
    record {
      gains = flags_both (λ m. (i : ℕ) × (entry ≤ i) × (i < k) × DefersAt p h i m) (DefersAt p h k) (λ m. (i : ℕ) × (entry ≤ i) × (i < k + 1) × DefersAt p h i m)
          c.args.flags.now.items c.loop-place.flags.items c.mark_exit.new.flags.items
          (λ m u. (u.0, u.1, let l = u.2 in omega arith, u.3))
          (λ m u. (k, c.loop-place.auto.place, omega arith, u))
          (λ m u. elim (cases_lt u.0 k) [
            | inl l ↦ inl (u.0, u.1, l, u.3)
            | inr l ↦ let e : u.0 ≡ k = let w = u.2 in omega arith in inr (subst (λ n. DefersAt p h n m) e u.3)
          ])
          c.loop-place.invariant.gains c.mark_exit.ensures;
    }
