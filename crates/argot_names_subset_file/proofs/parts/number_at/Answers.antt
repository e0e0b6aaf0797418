use Rattle.argot_names_subset_file.proofs.PartLemmas.{number_some, number_plain, number_lost, number_none}
use Rattle.argot_names_subset_file.proofs.parts.number_at.Goals as goal

pub returns-in_err-token : goal.returns-in_err-token
returns-in_err-token c = rw c.from_residual.ensures (number_none c.args.file.now.nodes c.args.k c.args.file.now.tokens c.in_err-token.ensures)

pub returns-in_err-kind : goal.returns-in_err-kind
returns-in_err-kind c = rw c.from_residual-in_err-kind.ensures (number_lost c.args.file.now.nodes c.args.k c.args.file.now.tokens c.in_ok-token.token c.in_ok-token.ensures c.in_err-kind.ensures)

pub returns-in_err-feature : goal.returns-in_err-feature
returns-in_err-feature c = rw c.from_residual-in_err-feature.ensures (number_plain c.args.file.now.nodes c.args.k c.args.file.now.tokens c.in_ok-token.token c.in_ok-kind.kind c.in_ok-token.ensures c.in_ok-kind.ensures c.in_err-feature.ensures)

pub returns : goal.returns
returns c = number_some c.args.file.now.nodes c.args.k c.args.file.now.tokens c.in_ok-token.token c.in_ok-kind.kind c.in_ok-feature.feature c.in_ok-token.ensures c.in_ok-kind.ensures c.in_ok-feature.ensures
