use Rattle.argot_names_uses.specs.DeclTables.{IsTableUpTo}
use Rattle.argot_names_uses.proofs.numbered.decl_table.Given as goal

abbrev pub invariant-loop-number : goal.invariant-loop-number
invariant-loop-number l = IsTableUpTo (λ d. d.node) l.decls l.number l.count l.table.items
