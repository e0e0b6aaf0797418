use Rattle.argot_names_uses.proofs.FilledNames.{entry_found, entry_missed}
use Rattle.argot_names_uses.proofs.numbered.decl_number.Goals as goal

pub returns-clause-some : goal.returns-clause-some
returns-clause-some c = λ decls count is. entry_found (λ d. d.node) decls count c.args.node c.args.table.now c.entry_at.result is (λ k. (c.entry_at.ensures k).0)

pub returns-clause-none : goal.returns-clause-none
returns-clause-none c = λ decls count is low. entry_missed (λ d. d.node) decls count c.args.node c.args.table.now c.entry_at.result is low (λ k. (c.entry_at.ensures k).1)
