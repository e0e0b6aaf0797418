use Rattle.std.proofs.Common.{◌∙◌, ap, arith, set, ◌-◌, ◌++◌, ◌∷◌, [], get_or, ◌+◌}
use Rattle.std.proofs.lemmas.List.{get_or_default}
use Rattle.argot_first.proofs.Buckets.{pushed-at}
use Rattle.argot_first.specs.Links.{bucket, flow_along}
use Rattle.argot_first.proofs.flows.push_along.Goals as goal

pub loop-at-preserved : goal.loop-at-preserved
loop-at-preserved c =
    let d = c.requires.down (c.loop-at.at - 1) in
    record {
      within = omega arith;
      adds = λ s w.
          ap (λ x. bucket (set c.loop-at.buckets (c.loop-at.at - 1) x) s ++ flow_along c.args.nexts.now c.args.base c.args.sink c.args.argument (get_or c.args.nexts.now (c.loop-at.at - 1) 0) s) (c.in_ok-push.ensures.ok ∙ ap (λ y. y ++ record { source = c.args.base + (c.loop-at.at - 1); sink = c.args.sink; argument = c.args.argument } ∷ []) (get_or_default c.loop-at.buckets (c.loop-at.at - 1) _ [] (omega arith)))
          ∙ (pushed-at c.args.nexts.now c.requires.down c.args.base c.args.sink c.args.argument c.loop-at.buckets c.loop-at.at (omega arith) (omega arith) s ∙ c.loop-at.invariant.adds s w);
    }
