-- The programs are well formed: they pass the tests of parts.
use Rattle.std.proofs.Common.{refl}
use Rattle.argot_plain.specs.WellFormed.{WellFormed}
use Rattle.argot_plain_parts.proofs.Whole.{passing_is_well}
use Rattle.argot_plain_worked_rules.specs.Slices.{slices}
use Rattle.argot_plain_worked_rules.specs.Externals.{externals}
use Rattle.argot_plain_worked_rules.specs.Unwinding.{unwinding}
use Rattle.argot_plain_worked_rules.specs.NilFunction.{nil_function}
use Rattle.argot_plain_worked_rules.specs.Boxes.{boxes}
use Rattle.argot_plain_worked_rules.specs.Sanitized.{sanitized}
use Rattle.argot_plain_worked_rules.specs.Validated.{validated}
use Rattle.argot_plain_worked_rules.specs.SourcePlace.{source_place}
use Rattle.argot_plain_worked_rules.specs.Overwritten.{overwritten, kept_program}
use Rattle.argot_plain_worked_rules.specs.Shared.{shared}
use Rattle.argot_plain_worked_rules.specs.Handed.{handed}
use Rattle.argot_plain_worked_rules.specs.Twice.{twice}
use Rattle.argot_plain_worked_rules.specs.Variables.{variables, written_first}
use Rattle.argot_plain_worked_rules.specs.TracedBack.{traced_program}

pub slices_is_well : WellFormed slices
slices_is_well = passing_is_well slices refl

pub externals_is_well : WellFormed externals
externals_is_well = passing_is_well externals refl

pub unwinding_is_well : WellFormed unwinding
unwinding_is_well = passing_is_well unwinding refl

pub nil_function_is_well : WellFormed nil_function
nil_function_is_well = passing_is_well nil_function refl

pub boxes_is_well : WellFormed boxes
boxes_is_well = passing_is_well boxes refl

pub sanitized_is_well : WellFormed sanitized
sanitized_is_well = passing_is_well sanitized refl

pub validated_is_well : WellFormed validated
validated_is_well = passing_is_well validated refl

pub source_place_is_well : WellFormed source_place
source_place_is_well = passing_is_well source_place refl

pub overwritten_is_well : WellFormed overwritten
overwritten_is_well = passing_is_well overwritten refl

pub shared_is_well : WellFormed shared
shared_is_well = passing_is_well shared refl

pub handed_is_well : WellFormed handed
handed_is_well = passing_is_well handed refl

pub twice_is_well : WellFormed twice
twice_is_well = passing_is_well twice refl

pub variables_is_well : WellFormed variables
variables_is_well = passing_is_well variables refl

pub traced_program_is_well : WellFormed traced_program
traced_program_is_well = passing_is_well traced_program refl

pub kept_program_is_well : WellFormed kept_program
kept_program_is_well = passing_is_well kept_program refl

pub written_first_is_well : WellFormed written_first
written_first_is_well = passing_is_well written_first refl
