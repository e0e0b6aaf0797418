use Rattle.std.proofs.Common.{refl}
use Rattle.argot_check_types.specs.Identity.{identical}
use Rattle.argot_check_rules.proofs.laws.worked_expressions.Goals as goal

pub returns : goal.returns
unfolding identical
returns c = record {
  name = refl;
  name_of_type = refl;
  name_of_called_type = refl;
  literal = refl;
  literal_too_wide = refl;
  function_literal = refl;
  composite = refl;
  composite_ill = refl;
  composite_of_number = refl;
  selector = refl;
  selector_ill = refl;
  selector_of_package = refl;
  index = refl;
  index_ill = refl;
  slice_ = refl;
  slice_ill = refl;
  assertion = refl;
  assertion_ill = refl;
  call = refl;
  call_ill = refl;
  conversion = refl;
  conversion_ill = refl;
  built_in_ = refl;
  built_in_ill = refl;
  unary_ = refl;
  unary_ill = refl;
  unary_wide = refl;
  sum = refl;
  sum_ill = refl;
  sum_wide = refl;
  equal_ill = refl;
  equal_nil = refl;
  quotient_ill = refl;
  shift = refl;
  deref_ill = refl;
  address = refl;
  address_ill = refl;
  receive = refl;
  receive_ill = refl;
}
