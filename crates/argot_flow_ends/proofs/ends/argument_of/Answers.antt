use Rattle.std.proofs.Common.{subst}
use Rattle.argot_facts.proofs.Calls.{same_kind}
use Rattle.argot_flow_ends.specs.Ends.{IsArgumentAt}
use Rattle.argot_flow_ends.proofs.Nodes.{argument_is, some_told}
use Rattle.argot_flow_ends.proofs.ends.argument_of.Goals as goal

pub returns-then-not-has_sink-clause-none : goal.returns-then-not-has_sink-clause-none
returns-then-not-has_sink-clause-none c = λ e k n.
    c.has_sink.ensures.no c.if-not-has_sink.true (argument_is c.args.asked.now.program.now c.args.asked.now.problem.now c.args.node k n).3

pub returns-clause-some : goal.returns-clause-some
returns-clause-some c =
    some_told c.args.asked.now.program.now c.args.asked.now.problem.now c.args.node c.requires.marked.0 c.requires.marked.1
    c.kind.result.now c.kind.ensures (c.has_sink.ensures.yes c.if-not-has_sink.false) c.argument_at.result c.argument_at.ensures.some

pub returns-clause-none : goal.returns-clause-none
returns-clause-none c = λ e k n.
    let p = c.args.asked.now.program.now in
    let h = argument_is p c.args.asked.now.problem.now c.args.node k n in
    c.argument_at.ensures.none e k
    (subst (λ kind. IsArgumentAt kind c.args.node.index k) (same_kind p c.args.node.place h.0 c.kind.result.now h.1 c.kind.ensures) h.2)
