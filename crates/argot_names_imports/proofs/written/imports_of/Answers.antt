use Rattle.std.proofs.Common.{arith}
use Rattle.argot_names_rules.specs.Files.{SourceFile}
use Rattle.argot_names_imports.proofs.Writing.{step_below, all_below, within_nodes}
use Rattle.argot_names_imports.proofs.written.imports_of.Goals as goal

pub loop-node-preserved : goal.loop-node-preserved
loop-node-preserved c =
    step_below c.args.file (record { bytes = c.args.bytes.now; tokens = c.args.tokens.now; nodes = c.args.nodes.now }) c.loop-node.node c.loop-node.out.items c.push_some.new.out.items c.in_ok-written_at.field-0 c.loop-node.invariant
    c.in_ok-written_at.ensures.some c.in_ok-written_at.ensures.none c.in_ok-push_some.ensures

pub returns : goal.returns
returns c =
    let f : SourceFile = record { bytes = c.args.bytes.now; tokens = c.args.tokens.now; nodes = c.args.nodes.now } in
    let size = c.in-Ok.ensures in
    all_below c.args.file f c.loop-node.node c.loop-node.out.items c.loop-node.invariant (λ w h. omega (arith, within_nodes f w h, size.1))
