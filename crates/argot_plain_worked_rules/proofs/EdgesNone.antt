-- Edges that the relation has not.
use Rattle.std.proofs.Common.{refl}
use Rattle.argot_plain.specs.Counts.{traced_back}
use Rattle.argot_plain_worked_rules.specs.Worked.{asked}
use Rattle.argot_plain_worked_rules.specs.Slices.{ItKeepsApart as SlicesKeepsApart, ItComesTooLate as SlicesComesTooLate, slices}
use Rattle.argot_plain_worked_rules.specs.Handed.{ItComesTooLate as HandedComesTooLate, handed}
use Rattle.argot_plain_worked_rules.specs.Sanitized.{ItIsCut as SanitizedIsCut, cleaned, sanitized}
use Rattle.argot_plain_worked_rules.specs.Overwritten.{ItIsGone as OverwrittenIsGone, overwritten}
use Rattle.argot_plain_worked_rules.specs.Unwinding.{ItEntersAnother as UnwindingEntersAnother, ItIsNotHanded as UnwindingIsNotHanded, unwinding}
use Rattle.argot_plain_worked_rules.specs.SourcePlace.{ItIsAnother as SourcePlaceIsAnother, body_read, source_place}
use Rattle.argot_plain_worked_rules.specs.Externals.{ItStaysOutside as ExternalsStaysOutside, externals}
use Rattle.argot_plain_worked_rules.specs.NilFunction.{ItIsNotHanded as NilFunctionIsNotHanded, nil_function}
use Rattle.argot_plain_worked_rules.specs.Boxes.{ItIsAnother as BoxesIsAnother, boxes}
use Rattle.argot_plain_worked_rules.specs.Shared.{ItStartsAnother as SharedStartsAnother, shared}
use Rattle.argot_plain_worked_rules.specs.Variables.{ItGoesByTheVariable as VariablesGoesByTheVariable, variables}
use Rattle.argot_plain_worked_rules.specs.TracedBack.{ItIsAnother as TracedBackIsAnother, pointed, traced_program}
use Rattle.argot_plain_worked_rules.proofs.Leading.{no_edge}

pub slices_none : SlicesComesTooLate
slices_none = no_edge slices asked 26 1 23 0 refl

pub handed_none : HandedComesTooLate
handed_none = no_edge handed asked 22 0 20 0 refl

pub sanitized_none : SanitizedIsCut
sanitized_none = no_edge sanitized cleaned 24 0 16 0 refl

pub overwritten_none : OverwrittenIsGone
overwritten_none = no_edge overwritten asked 15 0 18 0 refl

pub unwinding_none : UnwindingIsNotHanded
unwinding_none = no_edge unwinding asked 25 0 20 0 refl

pub source_place_none : SourcePlaceIsAnother
source_place_none = no_edge source_place body_read 17 0 21 0 refl

pub traced_program_none : TracedBackIsAnother
traced_program_none = no_edge traced_program (traced_back pointed) 15 0 19 0 refl

-- the elements that a Grow copies don't come to the items of another
pub slices_apart : SlicesKeepsApart
slices_apart = no_edge slices asked 21 2 20 1 refl

-- what a Call hands on comes to no parameter of another function
pub unwinding_not_entered : UnwindingEntersAnother
unwinding_not_entered = no_edge unwinding asked 16 0 11 0 refl

-- an external whose results don't depend on its arguments hands nothing through
pub externals_none : ExternalsStaysOutside
externals_none = no_edge externals asked 20 1 20 0 refl

pub nil_function_none : NilFunctionIsNotHanded
nil_function_none = no_edge nil_function asked 15 0 18 0 refl

pub boxes_none : BoxesIsAnother
boxes_none = no_edge boxes asked 24 0 29 0 refl

-- what a Go hands on comes to no parameter of another function
pub shared_none : SharedStartsAnother
shared_none = no_edge shared asked 17 0 11 0 refl

pub variables_none : VariablesGoesByTheVariable
variables_none = no_edge variables asked 19 0 17 0 refl
