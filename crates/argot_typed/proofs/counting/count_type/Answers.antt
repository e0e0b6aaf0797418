use Rattle.std.proofs.Common.{◌≡◌, ◌<◌, length, None, Some, subst, sym, ap, ◌∙◌}
use Rattle.std.specs.List.{AllByRecursion}
use Rattle.std.proofs.lemmas.List.{get_or_read}
use Rattle.argot_typed.specs.declared.shape.Shape.TheVariants.{NilShape}
use Rattle.argot_typed.specs.Parts.{shape_at, held_by}
use Rattle.argot_typed.specs.Counts.{count_of_shape, known_at}
use Rattle.argot_typed.proofs.Walks.{held_parts}
use Rattle.argot_typed.proofs.Counted.{right_more, type_right, unknown_falls, not_some}
use Rattle.argot_typed.proofs.counting.count_type.Goals as goal
use Rattle.argot_typed.proofs.counting.count_type.Goals.{In-Some}

pub count_of_shape-requires : goal.count_of_shape-requires
count_of_shape-requires c =
    let shapes = c.args.shapes.now in
    let read : c.index-shapes-t.result ≡ shape_at shapes c.args.t = get_or_read shapes c.args.t c.index-shapes-t.result c.requires.type_id c.index-shapes-t.is NilShape in
    let same : length c.as_slice.result.now ≡ length shapes = ap length c.as_slice.ensures.value ∙ c.requires.as_many in
    let inside = held_parts (λ p. p < length shapes) (shape_at shapes c.args.t) (c.requires.fit.in_range c.args.t c.requires.type_id) in
    subst (λ s. AllByRecursion (λ p. p < length c.as_slice.result.now) (held_by s)) (sym read) (subst (λ n. AllByRecursion (λ p. p < n) (held_by (shape_at shapes c.args.t))) (sym same) inside)

-- the shape's count is known
counted : (c : In-Some) → count_of_shape (known_at c.args.counts.now.items) (shape_at c.args.shapes.now c.args.t) ≡ Some c.in-Some.count
counted c =
    let read : c.index-shapes-t.result ≡ shape_at c.args.shapes.now c.args.t = get_or_read c.args.shapes.now c.args.t c.index-shapes-t.result c.requires.type_id c.index-shapes-t.is NilShape in
    let was : count_of_shape (known_at c.as_slice.result.now) c.index-shapes-t.result ≡ Some c.in-Some.count = sym c.count_of_shape.ensures ∙ c.in-Some.is in
    subst (λ s. count_of_shape (known_at c.args.counts.now.items) s ≡ Some c.in-Some.count) read (subst (λ xs. count_of_shape (known_at xs) c.index-shapes-t.result ≡ Some c.in-Some.count) c.as_slice.ensures.value was)

pub returns-in-Some-clause-right : goal.returns-in-Some-clause-right
returns-in-Some-clause-right c =
    let d = (goal.at.returns-in-Some-clause-right c).In-Some in
    right_more c.args.shapes.now c.args.counts.now.items c.args.t c.in-Some.count c.requires.right (type_right c.args.shapes.now c.args.counts.now.items c.args.t c.in-Some.count c.requires.fit c.requires.type_id c.requires.right (counted d))

pub returns-in-Some-clause-fewer : goal.returns-in-Some-clause-fewer
returns-in-Some-clause-fewer c = λ _.
    let within : c.args.t < length c.args.counts.now.items = rw c.requires.as_many c.requires.type_id in
    let read : c.index.result.now ≡ known_at c.args.counts.now.items c.args.t = get_or_read c.args.counts.now.items c.args.t c.index.result.now within c.index.ensures None in
    let none = not_some c.index.result.now (sym c.is_some.ensures ∙ c.if-is_some.false) in
    unknown_falls c.args.counts.now.items c.args.t c.in-Some.count within (sym read ∙ none)
