use Rattle.std.proofs.Common.{◌≡◌, ℕ, ◌+◌, ◌<◌, inl, inr, arith, subst}
use Rattle.std.proofs.lemmas.Bool.{cases_lt}
use Rattle.argot_facts.proofs.Listed.{get_within}
use Rattle.argot_control.specs.Accesses.{DefersIn}
use Rattle.argot_control.proofs.Flagging.{flags_both, flags_as}
use Rattle.argot_control.proofs.accesses.mark_exits.Goals as goal

pub loop-h-preserved : goal.loop-h-preserved
loop-h-preserved c =
    let p = c.args.program.now in
    let k = c.loop-h.h in
    record {
      gains = flags_both (λ m. (h : ℕ) × (h < k) × DefersIn p h m) (DefersIn p k) (λ m. (h : ℕ) × (h < k + 1) × DefersIn p h m)
          c.args.flags.now.items c.loop-h.flags.items c.mark_exit_of.new.flags.items
          (λ m u. (u.0, let l = u.1 in omega arith, u.2))
          (λ m u. (k, omega arith, u))
          (λ m u. elim (cases_lt u.0 k) [
            | inl l ↦ inl (u.0, l, u.2)
            | inr l ↦ let e : u.0 ≡ k = let w = u.1 in omega arith in inr (subst (λ n. DefersIn p n m) e u.2)
          ])
          c.loop-h.invariant.gains c.mark_exit_of.ensures;
    }

pub returns : goal.returns
returns c =
    let p = c.args.program.now in
    flags_as (λ m. (h : ℕ) × (h < c.loop-h.h) × DefersIn p h m) (λ m. (h : ℕ) × DefersIn p h m) c.args.flags.now.items c.loop-h.flags.items
    (λ m u. (u.0, u.2))
    (λ m u. let l = get_within p.functions u.0 u.1.1.fn u.1.1.is in let e = c.loop-h-test.false in let n = c.function_count-h-end.ensures.count in (u.0, omega arith, u.1))
    c.loop-h.invariant.gains
