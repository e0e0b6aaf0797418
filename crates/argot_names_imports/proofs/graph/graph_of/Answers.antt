use Rattle.std.proofs.Common.{ℕ, List, [], arith, ap, length}
use Rattle.std.proofs.lemmas.List.{length-replicate}
use Rattle.argot_names_imports.proofs.Graphs.{steps_none, steps_more, steps_all}
use Rattle.argot_names_imports.proofs.graph.graph_of.Goals as goal

pub loop-k-init : goal.loop-k-init
loop-k-init c = record { count = let size = c.in-Ok.ensures in omega (arith, ap length c.in_ok-graph.ensures.lists, length-replicate {A = List ℕ} c.in-Ok.count [], size.1); edges = steps_none _ _ _ _ _ c.in_ok-graph.ensures.lists }

pub link-requires : goal.link-requires
link-requires c = λ l e. omega (arith, c.requires.below c.import_at.result.now.file l ((c.leader_at-from.ensures l).0 e), c.loop-k.invariant.count)

pub loop-k-preserved : goal.loop-k-preserved
loop-k-preserved c = record {
  count = omega (arith, c.in_ok-link.ensures.count, c.loop-k.invariant.count);
  edges =
      steps_more c.loop-k.graph.lists c.link.new.graph.lists c.args.leaders.now c.args.imports.now c.args.founds.now c.loop-k.k c.import_at.result.now c.found_at.result c.leader_at-from.result c.target_of.result
      c.import_at.ensures c.found_at.ensures c.leader_at-from.ensures c.target_of.ensures c.in_ok-link.ensures.kept c.in_ok-link.ensures.added c.in_ok-link.ensures.only c.loop-k.invariant.edges;
}

pub returns-clause-edges : goal.returns-clause-edges
returns-clause-edges c = steps_all c.loop-k.graph.lists c.args.leaders.now c.args.imports.now c.args.founds.now c.loop-k.k (omega arith) c.loop-k.invariant.edges
