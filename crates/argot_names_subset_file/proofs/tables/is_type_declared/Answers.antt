use Rattle.std.proofs.Common.{sym, ◌∙◌}
use Rattle.argot_names_subset_file.proofs.Counting.{declared_above, undeclared}
use Rattle.argot_names_subset_file.proofs.tables.is_type_declared.Goals as goal

pub returns-in-Some-parent_of : goal.returns-in-Some-parent_of
returns-in-Some-parent_of c =
    declared_above c.args.nodes.now c.args.parents.now c.requires c.args.k c.in-Some.node c.in-Some-parent_of.above c.specifies_type.result (sym c.node_at.ensures ∙ c.in-Some.is) c.in-DeclName.is c.in-Some-parent_of.ensures c.specifies_type.ensures

pub returns-in-None : goal.returns-in-None
returns-in-None c = undeclared c.args.nodes.now c.args.parents.now c.requires c.args.k c.in-None.ensures
