use Rattle.argot_names_scopes.proofs.Earlier.{first_before, first_behind}
use Rattle.argot_names_scopes.proofs.earliest.earliest_of.Goals as goal

pub returns-then-b-token : goal.returns-then-b-token
returns-then-b-token c = first_before c.args.bytes.now c.args.tokens.now c.args.brought.now c.args.opens c.args.token c.spelled_at-text.result.now c.in-Some.b c.spelled_at-text.ensures c.in-Some.ensures c.if-b-token.true

pub returns-else-b-token : goal.returns-else-b-token
returns-else-b-token c = first_behind c.args.bytes.now c.args.tokens.now c.args.brought.now c.args.opens c.args.token c.spelled_at-text.result.now c.in-Some.b c.spelled_at-text.ensures c.in-Some.ensures c.if-b-token.false
