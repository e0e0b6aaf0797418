use Rattle.std.proofs.Common.{◌≡◌, true, false, Some, get_or, sym, ap, ◌∙◌, inl, inr, arith, subst}
use Rattle.std.specs.List.{slice_get}
use Rattle.std.proofs.lemmas.Bool.{cases_lt}
use Rattle.std.proofs.lemmas.Option.{slice_get-get_or}
use Rattle.argot_facts.proofs.Listed.{in_of_get, number_of, get_within}
use Rattle.argot_facts.specs.Marked.{IsSet}
use Rattle.argot_flow_ends.proofs.roles.has_flagged.Goals as goal

pub returns-then-is_marked-clause-yes : goal.returns-then-is_marked-clause-yes
returns-then-is_marked-clause-yes c = λ _.
    let ts = c.targets_of-targets.result.now in
    let h = get_or ts c.loop-k.k 0 in
    (h, (c.targets_of-targets.ensures h).0 (in_of_get ts c.loop-k.k h (slice_get-get_or ts c.loop-k.k 0 c.loop-k-test.true)), c.is_marked.ensures.yes c.if-is_marked.true)

pub loop-k-preserved : goal.loop-k-preserved
loop-k-preserved c = λ j h l g s.
    let ts = c.targets_of-targets.result.now in
    elim (cases_lt j c.loop-k.k) [
      | inl m ↦ c.loop-k.invariant j h m g s
      | inr m ↦
          let e : j ≡ c.loop-k.k = omega arith in
          let at : Some h ≡ Some (get_or ts c.loop-k.k 0) = sym g ∙ ap (slice_get ts) e ∙ slice_get-get_or ts c.loop-k.k 0 c.loop-k-test.true in
          let same : h ≡ get_or ts c.loop-k.k 0 = cc in
          let z : true ≡ false = sym (c.is_marked.ensures.no (subst (IsSet c.args.flags.now) same s)) ∙ c.if-is_marked.false in
          absurd cc
    ]

pub returns-clause-no : goal.returns-clause-no
returns-clause-no c = λ _ x.
    let ts = c.targets_of-targets.result.now in
    let n = number_of x.0 ts ((c.targets_of-targets.ensures x.0).1 x.1) in
    c.loop-k.invariant n.0 x.0 (omega (arith, get_within ts n.0 x.0 n.1, c.loop-k-test.false)) n.1 x.2
