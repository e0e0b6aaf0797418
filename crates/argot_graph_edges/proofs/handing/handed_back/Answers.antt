use Rattle.std.proofs.Common.{◌≡◌, ◌<◌, Some, None, length, slice_get, refl, sym, ap, ◌∙◌, arith, subst}
use Rattle.argot_plain.specs.Code.{IsAt}
use Rattle.argot_graph_edges.proofs.Calling.{few_leaves, back_one}
use Rattle.argot_graph_edges.proofs.handing.handed_back.Goals as goal

pub kind-requires : goal.kind-requires
kind-requires c = (c.requires.well.ranges.inside c.args.g c.function-function.result.now c.function-function.ensures).2

pub leaf_of-requires : goal.leaf_of-requires
leaf_of-requires c = record { few = subst (λ xs. length xs < 4294967296) (sym c.leaves_of.ensures) (few_leaves _ c.requires.well _ _ _ c.function-function.ensures) }

pub returns-clause-only : goal.returns-clause-only
returns-clause-only c = λ b x.
    let fn = c.function-function.result.now in
    let k = c.args.value.now.index in
    let path = c.args.value.now.path.now in
    let at = subst (λ w. IsAt c.args.program.now fn.leave w) c.in-Leave.is c.kind.ensures in
    back_one c.args.program.now c.requires.well c.args.g k fn path b c.function-function.ensures c.in-Leave.from c.in-Some.register c.in-Some-leaf_of.leaf at
    (ap (λ xs. slice_get xs k) (sym c.as_slice.ensures) ∙ sym c.register_at.ensures ∙ c.in-Some.is)
    (ap (λ xs. slice_get xs c.in-Some-leaf_of.leaf) (sym c.leaves_of.ensures) ∙ c.in-Some-leaf_of.ensures.some) x
