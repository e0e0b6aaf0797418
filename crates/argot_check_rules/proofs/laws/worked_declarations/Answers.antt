use Rattle.std.proofs.Common.{refl}
use Rattle.argot_check_types.specs.Identity.{identical}
use Rattle.argot_check_rules.proofs.laws.worked_declarations.Goals as goal

pub returns : goal.returns
unfolding identical
returns c = record {
  type_name_ill = refl;
  array_ = refl;
  array_ill = refl;
  map_as_value = refl;
  struct = refl;
  interface_ = refl;
  pointer_as_value = refl;
  variable_ = refl;
  variable_ill = refl;
  variables_of_call = refl;
  constant_ill = refl;
  function_ill = refl;
  main_ill = refl;
  method_ill = refl;
}
