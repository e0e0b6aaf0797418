use Rattle.std.proofs.Common.{inl, inr}
use Rattle.argot_flow_ends.proofs.Nodes.{named_source, given_source, source_is}
use Rattle.argot_flow_ends.proofs.ends.is_source.Goals as goal

pub returns-then-is_named-clause-yes : goal.returns-then-is_named-clause-yes
returns-then-is_named-clause-yes c = λ e. named_source c.args.asked.now.program.now c.args.asked.now.problem.now c.args.node c.requires.marked.0 c.requires.marked.1 (c.is_named.ensures.yes c.if-is_named.true)

pub returns-else-is_named-clause-yes : goal.returns-else-is_named-clause-yes
returns-else-is_named-clause-yes c = λ e. given_source c.args.asked.now.program.now c.args.asked.now.problem.now c.args.node c.requires.marked.0 c.requires.marked.1 (c.is_given.ensures.yes e)

pub returns-else-is_named-clause-no : goal.returns-else-is_named-clause-no
returns-else-is_named-clause-no c = λ e n. elim (source_is c.args.asked.now.program.now c.args.asked.now.problem.now c.args.node n) [
  | inl x ↦ c.is_named.ensures.no c.if-is_named.false x
  | inr x ↦ c.is_given.ensures.no e x
]
