use Rattle.argot_names_blocks.proofs.Generic.{all_generic}
use Rattle.argot_names_blocks.proofs.generics.generics_of.Goals as goal

pub returns-clause-each : goal.returns-clause-each
returns-clause-each c = all_generic c.args.nodes.now c.loop-k.k c.loop-k.table.items c.loop-k-test.false c.loop-k.invariant.each
