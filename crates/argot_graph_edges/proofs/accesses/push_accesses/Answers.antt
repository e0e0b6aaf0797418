use Rattle.std.proofs.Common.{◌≡◌, ◌<◌, ◌++◌, ◌∷◌, [], refl, sym, ap, ◌∙◌, subst, arith}
use Rattle.std.proofs.lemmas.Grind.{common_steps}
use Rattle.argot_graph_edges.specs.Accessing.{AddsPairs, Accesses}
use Rattle.argot_graph_edges.proofs.Pairing.{pairs_none, pairs_more}
use Rattle.argot_graph_edges.proofs.accesses.push_accesses.Goals as goal

pub loop-y-init : goal.loop-y-init
loop-y-init c = record { rest = grind (arith, common_steps); adds = pairs_none _ _ (λ w h. elim h.1 [ ]) }

pub loop-y-preserved : goal.loop-y-preserved
loop-y-preserved c =
    let rest = c.loop-y.invariant.rest in
    record {
      rest = grind (arith, common_steps);
      adds = pairs_more (λ y. Accesses c.args.points.now.locations y c.args.path.now c.args.node) c.loop-y.yielded (c.loop-y.yielded ++ c.in-Some.y ∷ []) c.in-Some.y _ _ _ refl c.loop-y.invariant.adds c.in_ok-push_access.ensures;
    }
