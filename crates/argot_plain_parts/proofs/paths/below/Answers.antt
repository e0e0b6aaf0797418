use Rattle.std.proofs.Common.{sym, ap, ◌∙◌, Some, List}
use Rattle.argot_text.specs.declared.path.PathStep.{PathStep}
use Rattle.argot_plain_parts.proofs.Compared.{longer, begins_below, begins_not}
use Rattle.argot_plain_parts.proofs.paths.below.Goals as goal

pub returns-then-a-b-clause-none : goal.returns-then-a-b-clause-none
returns-then-a-b-clause-none c = begins_not c.args.a.now c.args.b.now (longer c.args.a.now c.args.b.now c.if-a-b.true)

pub returns-then-begins_with-clause-some : goal.returns-then-begins_with-clause-some
returns-then-begins_with-clause-some c = begins_below c.args.a.now c.args.b.now (sym c.begins_with.ensures ∙ c.if-begins_with.true) ∙ ap (λ (q : List PathStep). Some q) (sym c.split_at.ensures.back)

pub returns-else-begins_with-clause-none : goal.returns-else-begins_with-clause-none
returns-else-begins_with-clause-none c = begins_not c.args.a.now c.args.b.now (sym c.begins_with.ensures ∙ c.if-begins_with.false)
