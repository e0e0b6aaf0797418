use Rattle.std.proofs.Common.{◌≡◌, ◌<◌, ◌≤◌, ◌^◌, [], ◌∷◌, length, subst, sym, ◌∙◌, rules}
use Rattle.std.specs.List.{AllByRecursion}
use Rattle.argot_typed.specs.Parts.{types_of_fields}
use Rattle.argot_typed.specs.Leaves.{leaves_of, leaves_of_fields, leaves_of_shape}
use Rattle.argot_typed.specs.Steps.{IsFound}
use Rattle.argot_typed.proofs.Onward.{by_shape, named_onward, array_onward, fields_in_range, fields_narrow, fields_few, fields_there, struct_onward}
use Rattle.argot_typed.proofs.paths.next_step.Goals as goal

pub find_field-field-requires-clause-in_range : goal.find_field-field-requires-clause-in_range
find_field-field-requires-clause-in_range c =
    let it = fields_in_range c.args.table.now c.shape.ensures.fit c.args.t.0 c.args.n c.requires.type_id c.requires.few c.requires.there c.shape.result.now c.shape.ensures.shape c.in-Struct.fields c.in-Struct.is in
    subst (λ fs. AllByRecursion (λ p. p < length c.args.table.now) (types_of_fields fs)) (sym c.as_slice.ensures) it

pub find_field-field-requires-clause-narrow : goal.find_field-field-requires-clause-narrow
find_field-field-requires-clause-narrow c =
    let it = fields_narrow c.args.table.now c.shape.ensures.fit c.args.t.0 c.args.n c.requires.type_id c.requires.few c.requires.there c.shape.result.now c.shape.ensures.shape c.in-Struct.fields c.in-Struct.is in
    subst (λ fs. length fs < 2 ^ 32) (sym c.as_slice.ensures) it

pub find_field-field-requires-clause-few : goal.find_field-field-requires-clause-few
find_field-field-requires-clause-few c =
    let it = fields_few c.args.table.now c.shape.ensures.fit c.args.t.0 c.args.n c.requires.type_id c.requires.few c.requires.there c.shape.result.now c.shape.ensures.shape c.in-Struct.fields c.in-Struct.is in
    subst (λ fs. length (leaves_of_fields (leaves_of c.args.table.now) 0 fs) ≤ 4096) (sym c.as_slice.ensures) it

pub find_field-field-requires-clause-there : goal.find_field-field-requires-clause-there
find_field-field-requires-clause-there c =
    let it = fields_there c.args.table.now c.shape.ensures.fit c.args.t.0 c.args.n c.requires.type_id c.requires.few c.requires.there c.shape.result.now c.shape.ensures.shape c.in-Struct.fields c.in-Struct.is in
    subst (λ fs. c.args.n < length (leaves_of_fields (leaves_of c.args.table.now) 0 fs)) (sym c.as_slice.ensures) it

pub returns-in-Named : goal.returns-in-Named
returns-in-Named c = named_onward c.args.table.now c.shape.ensures.fit c.args.t.0 c.args.n c.requires.type_id c.requires.few c.requires.there c.shape.result.now c.shape.ensures.shape c.in-Named.decl c.in-Named.under c.in-Named.methods c.in-Named.is

pub returns-in-Array : goal.returns-in-Array
returns-in-Array c = array_onward c.args.table.now c.shape.ensures.fit c.args.t.0 c.args.n c.requires.type_id c.requires.few c.requires.there c.shape.result.now c.shape.ensures.shape c.in-Array.len c.in-Array.of c.in-Array.is

pub returns-in-Struct : goal.returns-in-Struct
returns-in-Struct c =
    let found = subst (λ fs. IsFound c.args.table.now fs c.args.n c.find_field-field.result) c.as_slice.ensures c.find_field-field.ensures in
    struct_onward c.args.table.now c.shape.ensures.fit c.args.t.0 c.args.n c.requires.type_id c.requires.few c.requires.there c.shape.result.now c.shape.ensures.shape c.in-Struct.fields c.in-Struct.is c.find_field-field.result found

pub returns-in_default : goal.returns-in_default
returns-in_default c =
    let leaf : leaves_of_shape (leaves_of c.args.table.now) c.shape.result.now ≡ [] ∷ [] = search rules in
    by_shape c.args.table.now c.shape.ensures.fit c.args.t.0 c.args.n c.requires.type_id c.requires.few c.requires.there c.shape.result.now c.shape.ensures.shape ∙ leaf
