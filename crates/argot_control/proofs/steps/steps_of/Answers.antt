use Rattle.std.proofs.Common.{◌≡◌, ℕ, ◌+◌, ◌<◌, List, [], Some, get_or, sym, ap, ◌∙◌, inl, inr, arith, subst}
use Rattle.std.specs.Prelude.{slice_get}
use Rattle.std.proofs.lemmas.Bool.{cases_lt}
use Rattle.std.proofs.lemmas.Option.{slice_get-get_or}
use Rattle.argot_facts.proofs.Listed.{number_of, get_within, in_of_get}
use Rattle.argot_control.specs.Between.{IsStepOf}
use Rattle.argot_control.specs.Numbering.{block_in}
use Rattle.argot_control.proofs.Gaining.{gains_both}
use Rattle.argot_control.proofs.steps.steps_of.Goals as goal

pub gain_step-requires-clause-from : goal.gain_step-requires-clause-from
gain_step-requires-clause-from c =
    let pairs : List (ℕ × ℕ) = c.args.pairs.now in
    let k = c.loop-k.k in
    let t = get_or pairs k (0, 0) in
    (c.requires t.0 t.1 (in_of_get pairs k t (slice_get-get_or pairs k (0, 0) c.loop-k-test.true))).0

pub gain_step-requires-clause-to : goal.gain_step-requires-clause-to
gain_step-requires-clause-to c =
    let pairs : List (ℕ × ℕ) = c.args.pairs.now in
    let k = c.loop-k.k in
    let t = get_or pairs k (0, 0) in
    (c.requires t.0 t.1 (in_of_get pairs k t (slice_get-get_or pairs k (0, 0) c.loop-k-test.true))).1

pub loop-k-preserved : goal.loop-k-preserved
loop-k-preserved c =
    let pairs : List (ℕ × ℕ) = c.args.pairs.now in
    let block = block_in c.args.numbers.now in
    let k = c.loop-k.k in
    let t = get_or pairs k (0, 0) in
    let is : slice_get pairs k ≡ Some t = slice_get-get_or pairs k (0, 0) c.loop-k-test.true in
    record {
      gains = gains_both (λ x y. (j : ℕ) × (j < k) × (a : ℕ) × (b : ℕ) × (slice_get pairs j ≡ Some (a, b)) × IsStepOf block a b x y) (IsStepOf block t.0 t.1)
          (λ x y. (j : ℕ) × (j < k + 1) × (a : ℕ) × (b : ℕ) × (slice_get pairs j ≡ Some (a, b)) × IsStepOf block a b x y)
          [] c.loop-k.steps.items c.gain_step.new.steps.items
          (λ x y u. (u.0, let l = u.1 in omega arith, u.2, u.3, u.4, u.5))
          (λ x y u. (k, omega arith, t.0, t.1, is, u))
          (λ x y u. elim (cases_lt u.0 k) [
            | inl l ↦ inl (u.0, l, u.2, u.3, u.4, u.5)
            | inr l ↦
                let e : u.0 ≡ k = let m = u.1 in omega arith in
                let w : ℕ × ℕ = (u.2, u.3) in
                let s : Some w ≡ Some t = sym u.4 ∙ ap (slice_get pairs) e ∙ is in
                let f : w ≡ t = cc in
                inr (subst (λ (z : ℕ × ℕ). IsStepOf block z.0 z.1 x y) f u.5)
          ])
          c.loop-k.invariant.gains c.in_ok-gain_step.ensures;
    }

pub returns : goal.returns
returns c =
    let pairs : List (ℕ × ℕ) = c.args.pairs.now in
    λ x y. (
      (λ m. elim ((c.loop-k.invariant.gains x y).0 m) [ inl n ↦ elim n [ ] | inr u ↦ (u.2, u.3, in_of_get pairs u.0 (u.2, u.3) u.4, u.5) ]),
      λ u. (c.loop-k.invariant.gains x y).1 (inr (let n = number_of {A = ℕ × ℕ} (u.0, u.1) pairs u.2 in let l = get_within {X = ℕ × ℕ} pairs n.0 (u.0, u.1) n.1 in let e = c.loop-k-test.false in (n.0, omega arith, u.0, u.1, n.1, u.3))),
    )
