use Rattle.argot_names_subset_file.proofs.Standing.{type_declared, type_none}
use Rattle.argot_names_subset_file.proofs.standings.is_type.Goals as goal

pub returns-in-Some : goal.returns-in-Some
returns-in-Some c = type_declared c.args.types.now c.args.decls.now c.args.decl c.in-Some.node c.is_typed.result c.if-decl-lt22.false c.in-Some.ensures c.is_typed.ensures

pub returns-in-None : goal.returns-in-None
returns-in-None c = type_none c.args.types.now c.args.decls.now c.args.decl c.if-decl-lt22.false c.in-None.ensures
