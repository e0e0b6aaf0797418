use Rattle.std.proofs.Common.{◌≡◌, ℕ, ◌+◌, ◌<◌, Some, get_or, inl, inr, arith, subst, ap, sym, ◌∙◌}
use Rattle.std.specs.Prelude.{slice_get}
use Rattle.std.proofs.lemmas.Bool.{cases_lt}
use Rattle.std.proofs.lemmas.Option.{slice_get-get_or}
use Rattle.argot_plain.specs.Lists.{In}
use Rattle.argot_facts.proofs.Listed.{number_of, get_within, in_of_get}
use Rattle.argot_control.specs.Pairs.{UseLeads, TargetsLead}
use Rattle.argot_control.proofs.Gaining.{gains_both, gains_as}
use Rattle.argot_control.proofs.uses.gain_targets.Goals as goal

pub gain_use-requires-clause-target : goal.gain_use-requires-clause-target
gain_use-requires-clause-target c =
    let targets = c.targets_of-targets.result.now in
    let k = c.loop-k.k in
    let t = get_or targets k 0 in
    let m : In t targets = in_of_get targets k t (slice_get-get_or targets k 0 c.loop-k-test.true) in
    c.requires.fits.callees c.args.place t ((c.targets_of-targets.ensures t).0 m)

pub loop-k-preserved : goal.loop-k-preserved
loop-k-preserved c =
    let p = c.args.program.now in
    let targets = c.targets_of-targets.result.now in
    let h = c.args.h in
    let i = c.args.place in
    let k = c.loop-k.k in
    let t = get_or targets k 0 in
    let is : slice_get targets k ≡ Some t = slice_get-get_or targets k 0 c.loop-k-test.true in
    record {
      gains = gains_both (λ a b. (j : ℕ) × (j < k) × (target : ℕ) × (slice_get targets j ≡ Some target) × UseLeads p h i target a b) (UseLeads p h i t)
          (λ a b. (j : ℕ) × (j < k + 1) × (target : ℕ) × (slice_get targets j ≡ Some target) × UseLeads p h i target a b)
          c.args.pairs.now.items c.loop-k.pairs.items c.gain_use.new.pairs.items
          (λ a b u. (u.0, let l = u.1 in omega arith, u.2, u.3, u.4))
          (λ a b u. (k, omega arith, t, is, u))
          (λ a b u. elim (cases_lt u.0 k) [
            | inl l ↦ inl (u.0, l, u.2, u.3, u.4)
            | inr l ↦
                let e : u.0 ≡ k = let m = u.1 in omega arith in
                let s : Some u.2 ≡ Some t = sym u.3 ∙ ap (slice_get targets) e ∙ is in
                let f : u.2 ≡ t = cc in
                inr (subst (λ n. UseLeads p h i n a b) f u.4)
          ])
          c.loop-k.invariant.gains c.in_ok-gain_use.ensures;
    }

pub returns : goal.returns
returns c =
    let p = c.args.program.now in
    let x = c.args.points.now in
    let targets = c.targets_of-targets.result.now in
    let h = c.args.h in
    let i = c.args.place in
    gains_as (λ a b. (j : ℕ) × (j < c.loop-k.k) × (target : ℕ) × (slice_get targets j ≡ Some target) × UseLeads p h i target a b) (TargetsLead p x h i) c.args.pairs.now.items c.loop-k.pairs.items
    (λ a b u. (u.2, (c.targets_of-targets.ensures u.2).0 (in_of_get targets u.0 u.2 u.3), u.4))
    (λ a b u.
    let n = number_of u.0 targets ((c.targets_of-targets.ensures u.0).1 u.1) in
    let l = get_within targets n.0 u.0 n.1 in
    let e = c.loop-k-test.false in
    (n.0, omega arith, u.0, n.1, u.2))
    c.loop-k.invariant.gains
