use Rattle.std.proofs.Common.{◌<◌, length, arith, refl, sym, ◌∙◌}
use Rattle.argot_config.specs.Looking.{three_in}
use Rattle.argot_config.proofs.Lowered.{found_here, found_none, none_before, none_next}
use Rattle.argot_config.proofs.places.first.Goals as goal

pub loop-k-init : goal.loop-k-init
loop-k-init c = (refl, none_before (three_in c.args.look.now) c.args.kind c.args.tags.now)

pub returns-then-is_found-clause-found : goal.returns-then-is_found-clause-found
returns-then-is_found-clause-found c =
    found_here (three_in c.args.look.now) (three_in c.loop-k.look) c.args.kind c.args.tags.now c.args.limit c.loop-k.k c.index-tags-k.result c.loop-k.invariant.0 c.loop-k-test.true c.requires c.index-tags-k.is
    c.loop-k.invariant.1 c.if-is_found.ensures.found

pub returns-then-is_found-clause-same : goal.returns-then-is_found-clause-same
returns-then-is_found-clause-same c = c.is_found.ensures.same ∙ c.loop-k.invariant.0

pub loop-k-preserved : goal.loop-k-preserved
loop-k-preserved c =
    let within : c.loop-k.k < length c.args.tags.now = omega arith in (
      c.is_found.ensures.same ∙ c.loop-k.invariant.0,
      none_next (three_in c.args.look.now) (three_in c.loop-k.look) c.args.kind c.args.tags.now c.loop-k.k c.index-tags-k.result c.loop-k.invariant.0 within c.index-tags-k.is c.loop-k.invariant.1 (sym c.is_found.ensures.found ∙ c.if-is_found.false),
    )

pub returns-clause-found : goal.returns-clause-found
returns-clause-found c = found_none (three_in c.args.look.now) c.args.kind c.args.tags.now c.args.limit c.loop-k.k (omega arith) c.loop-k.invariant.1

pub returns-clause-same : goal.returns-clause-same
returns-clause-same c = c.loop-k.invariant.0
