use Rattle.std.proofs.Common.{◌≡◌, [], Some, subst}
use Rattle.std.specs.Prelude.{slice_get}
use Rattle.argot_facts.specs.Numbers.{node}
use Rattle.argot_points.specs.Meaning.{IsRow, IsParamOf}
use Rattle.argot_points.proofs.Called.{few_leaves}
use Rattle.argot_points.proofs.Lookups.{only_on, none_on, param_row_is}
use Rattle.argot_points.proofs.system.System.whole_param.Goals as goal

pub whole_leaf-requires : goal.whole_leaf-requires
whole_leaf-requires c = record { few = rw c.leaves_of.ensures (few_leaves _ c.requires.fits.well c.args.g c.args.param c.function-function.result.now c.function-function.ensures) }

pub returns-in-Some-clause-only : goal.returns-in-Some-clause-only
returns-in-Some-clause-only c =
    let s = c.args.self.now in
    let fn = c.function-function.result.now in
    let at = subst (λ xs. slice_get xs c.in-Some.leaf ≡ Some []) c.leaves_of.ensures c.in-Some.ensures.found in
    only_on c.row.result (λ n. IsRow s n (node fn.entry c.args.param c.in-Some.leaf)) (λ n. IsParamOf s c.args.g c.args.param [] n)
    (λ n q. param_row_is s c.requires.fits.well c.args.g c.args.param c.in-Some.leaf n fn c.function-function.ensures at q) c.row.ensures.only

pub returns-in-Some-clause-none : goal.returns-in-Some-clause-none
returns-in-Some-clause-none c =
    let s = c.args.self.now in
    let fn = c.function-function.result.now in
    let at = subst (λ xs. slice_get xs c.in-Some.leaf ≡ Some []) c.leaves_of.ensures c.in-Some.ensures.found in
    none_on c.row.result (λ n. IsRow s n (node fn.entry c.args.param c.in-Some.leaf)) (λ n. IsParamOf s c.args.g c.args.param [] n)
    (λ n q. param_row_is s c.requires.fits.well c.args.g c.args.param c.in-Some.leaf n fn c.function-function.ensures at q) c.row.ensures.none
