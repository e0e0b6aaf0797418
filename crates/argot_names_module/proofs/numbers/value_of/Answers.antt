use Rattle.std.proofs.Common.{arith}
use Rattle.argot_names_module.proofs.Decimals.{too_large}
use Rattle.argot_names_module.proofs.numbers.value_of.Goals as goal

pub returns-in_default-push_digit-clause-none : goal.returns-in_default-push_digit-clause-none
returns-in_default-push_digit-clause-none c = λ digits. too_large c.args.digits.now c.loop-b.b-index c.loop-b.value c.in-Some.digit (omega arith) c.loop-b.invariant.value c.in-Some.ensures.some c.in_default-push_digit.ensures.none
