use Rattle.std.proofs.Common.{arith}
use Rattle.std.proofs.lemmas.Grind.{common_steps}
use Rattle.argot_facts.specs.Pointing.{IsPlaceOf}
use Rattle.argot_escape.proofs.Finding.{finds_more, ready_on}
use Rattle.argot_escape.proofs.found.reach_row.Goals as goal

pub loop-y-preserved : goal.loop-y-preserved
loop-y-preserved c =
    let ls = c.args.points.now.locations in
    let rest = c.loop-y.invariant.rest in
    record {
      rest = grind (arith, common_steps);
      ready = ready_on ls (λ m. IsPlaceOf ls m c.in-Some.y) c.loop-y.found c.reach_location.new.found c.reach_location.ensures c.loop-y.invariant.ready;
      finds = finds_more (λ y m. IsPlaceOf ls m y) c.loop-y.yielded c.in-Some.y c.args.found.now c.loop-y.found c.reach_location.new.found c.loop-y.invariant.finds c.reach_location.ensures;
    }
