use Rattle.std.proofs.Common.{◌∙◌, get_or, subst}
use Rattle.std.proofs.lemmas.Option.{slice_get-get_or}
use Rattle.argot_plain.specs.Code.{IsIn}
use Rattle.argot_plain.specs.Lists.{In}
use Rattle.argot_facts.proofs.Listed.{in_of_get}
use Rattle.argot_facts.specs.Handed.{FactsOf}
use Rattle.argot_control.specs.Blocks.{IsStraightOn}
use Rattle.argot_control.specs.Numbering.{GoesOnWithin}
use Rattle.argot_control.proofs.Cutting.{chooses_more, straight_on}
use Rattle.argot_control.proofs.inner.choose_all.Goals as goal

pub choose_within-requires-clause-inside : goal.choose_within-requires-clause-inside
choose_within-requires-clause-inside c =
    let live = c.live-live.result.now in
    let k = c.loop-k.k in
    let m : In (get_or live k 0) live = in_of_get live k (get_or live k 0) (slice_get-get_or live k 0 c.loop-k-test.true) in
    c.requires.inside (get_or live k 0) (subst (In (get_or live k 0)) c.live-live.ensures m)

pub loop-k-preserved : goal.loop-k-preserved
loop-k-preserved c =
    let p = c.args.program.now in
    let x = c.args.points.now in
    let flags = c.args.flags.now in
    let live = c.live-live.result.now in
    let k = c.loop-k.k in
    let h = get_or live k 0 in
    let m : In h x.live = subst (In h) c.live-live.ensures (in_of_get live k h (slice_get-get_or live k 0 c.loop-k-test.true)) in
    record {
      count = c.choose_within.ensures.count ∙ c.loop-k.invariant.count;
      chooses = chooses_more (IsStraightOn p (FactsOf p x)) (λ i. IsIn p i h × GoesOnWithin p flags i) c.args.inner.now.items c.loop-k.inner.items c.choose_within.new.inner.items
          (λ i u. straight_on p (FactsOf p x) flags h i c.requires.entered m u.0 u.1)
          c.loop-k.invariant.chooses c.choose_within.ensures;
    }
