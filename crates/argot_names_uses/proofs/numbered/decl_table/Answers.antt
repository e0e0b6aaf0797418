use Rattle.std.proofs.Common.{arith}
use Rattle.argot_names_imports.proofs.Lists.{get_there}
use Rattle.argot_names_uses.proofs.FilledNames.{table_next, table_whole}
use Rattle.argot_names_uses.proofs.numbered.decl_table.Goals as goal

pub loop-number-preserved : goal.loop-number-preserved
loop-number-preserved c =
    let d = get_there c.args.decls.now c.loop-number.number (omega (arith, c.loop-number-test.true, c.in-Ok.ensures)) in
    table_next (λ d. d.node) c.args.decls.now c.args.count c.loop-number.number d.0 c.node_of.result c.loop-number.table.items c.note.new.table.items d.1 (c.node_of.ensures d.0 d.1) c.loop-number.invariant c.note.ensures

pub returns : goal.returns
returns c = table_whole (λ d. d.node) c.args.decls.now c.args.count c.loop-number.number c.loop-number.table.items (omega (arith, c.loop-number-test.false, c.in-Ok.ensures)) c.loop-number.invariant
