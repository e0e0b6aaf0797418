use Rattle.argot_names_imports.proofs.Reading.{chars_is, raw_is}
use Rattle.argot_names_imports.proofs.literals.text_value.Goals as goal

pub returns-in-Some-clause-some : goal.returns-in-Some-clause-some
returns-in-Some-clause-some c = chars_is (λ v. v.items) c.args.literal.now c.in-Some.inner.now c.in-Some.ensures.some c.elements_value.result c.elements_value.ensures.some

pub returns-in-Some-between-clause-some : goal.returns-in-Some-between-clause-some
returns-in-Some-between-clause-some c = raw_is c.args.literal.now c.in-Some-between.inner.now c.in_ok-raw_value.field-0.items c.in-Some-between.ensures.some c.in_ok-raw_value.ensures
