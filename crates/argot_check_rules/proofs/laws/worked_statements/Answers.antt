use Rattle.std.proofs.Common.{refl}
use Rattle.argot_check_types.specs.Identity.{identical}
use Rattle.argot_check_rules.proofs.laws.worked_statements.Goals as goal

pub returns : goal.returns
unfolding identical
returns c = record {
  alone = refl;
  alone_called = refl;
  alone_panic = refl;
  send = refl;
  step = refl;
  assign = refl;
  assign_ill = refl;
  assign_nil = refl;
  op_assign = refl;
  define = refl;
  define_nothing_new = refl;
  if_ = refl;
  switch = refl;
  switch_true = refl;
  type_switch = refl;
  loop = refl;
  range = refl;
  range_of_channel = refl;
  select_ = refl;
  go_ = refl;
  defer_ = refl;
  return_ = refl;
  return_none = refl;
  break_ = refl;
}
