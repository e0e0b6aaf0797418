use Rattle.std.proofs.Common.{◌≡◌, List, sym, subst}
use Rattle.argot_lower_program.specs.Orders.{IsOrder}
use Rattle.argot_lower_scripts.specs.Script.{Note}
use Rattle.argot_lower_program.proofs.Orders.{one_order, one_variables}
use Rattle.argot_lower_program.proofs.Program.{one_program}
use Rattle.argot_lower_program.proofs.laws.one_program_by_notes.Goals as goal

pub returns : goal.returns
returns c = λ t entries c d x y same.
    one_program t entries c d x y
    (one_order t x.notes x.order y.order x.in_order (subst (λ (notes : List Note). IsOrder t notes y.order) (sym same) y.in_order))
    (one_variables t c d x.variables y.variables x.globals_are y.globals_are)
