use Rattle.std.proofs.Common.{◌≡◌, ℕ, ◌+◌, ◌<◌, Some, get_or, sym, ap, ◌∙◌, inl, inr, arith}
use Rattle.std.specs.Prelude.{slice_get}
use Rattle.std.proofs.lemmas.Bool.{cases_lt}
use Rattle.std.proofs.lemmas.Option.{slice_get-get_or}
use Rattle.argot_plain.specs.Lists.{In}
use Rattle.argot_facts.proofs.Listed.{number_of, get_within, in_of_get}
use Rattle.argot_control.proofs.Gaining.{gains_both, gains_as}
use Rattle.argot_control.proofs.live.gain_branch.Goals as goal

pub loop-k-preserved : goal.loop-k-preserved
loop-k-preserved c =
    let targets = c.args.targets.now in
    let i = c.args.place in
    let k = c.loop-k.k in
    let t = get_or targets k 0 in
    let is : slice_get targets k ≡ Some t = slice_get-get_or targets k 0 c.loop-k-test.true in
    record {
      gains = gains_both (λ a b. (a ≡ i) × (j : ℕ) × (j < k) × (slice_get targets j ≡ Some b)) (λ a b. (a ≡ i) × (b ≡ t))
          (λ a b. (a ≡ i) × (j : ℕ) × (j < k + 1) × (slice_get targets j ≡ Some b))
          c.args.pairs.now.items c.loop-k.pairs.items c.gain.new.pairs.items
          (λ a b u. (u.0, u.1, let l = u.2 in omega arith, u.3))
          (λ a b u. (u.0, k, omega arith, is ∙ ap Some (sym u.1)))
          (λ a b u. elim (cases_lt u.1 k) [
            | inl l ↦ inl (u.0, u.1, l, u.3)
            | inr l ↦
                let e : u.1 ≡ k = let m = u.2 in omega arith in
                let s : Some b ≡ Some t = sym u.3 ∙ ap (slice_get targets) e ∙ is in
                let f : b ≡ t = cc in
                inr (u.0, f)
          ])
          c.loop-k.invariant.gains c.in_ok-gain.ensures;
    }

pub returns : goal.returns
returns c =
    let targets = c.args.targets.now in
    let i = c.args.place in
    gains_as (λ a b. (a ≡ i) × (j : ℕ) × (j < c.loop-k.k) × (slice_get targets j ≡ Some b)) (λ a b. (a ≡ i) × In b targets) c.args.pairs.now.items c.loop-k.pairs.items
    (λ a b u. (u.0, in_of_get targets u.1 b u.3))
    (λ a b u. let n = number_of b targets u.1 in let l = get_within targets n.0 b n.1 in let e = c.loop-k-test.false in (u.0, n.0, omega arith, n.1))
    c.loop-k.invariant.gains
