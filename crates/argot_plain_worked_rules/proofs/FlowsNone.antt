-- Flows that the relation has not.
use Rattle.std.proofs.Common.{refl}
use Rattle.argot_plain_worked_rules.specs.Worked.{asked}
use Rattle.argot_plain_worked_rules.specs.Slices.{ItFlowsNot as SlicesFlowsNot, slices}
use Rattle.argot_plain_worked_rules.specs.Externals.{ItFlowsNot as ExternalsFlowsNot, externals}
use Rattle.argot_plain_worked_rules.specs.Unwinding.{ItFlowsNot as UnwindingFlowsNot, unwinding}
use Rattle.argot_plain_worked_rules.specs.Sanitized.{ItFlowsNot as SanitizedFlowsNot, sanitized, cleaned}
use Rattle.argot_plain_worked_rules.specs.Validated.{ItFlowsNot as ValidatedFlowsNot, validated, tested}
use Rattle.argot_plain_worked_rules.specs.SourcePlace.{ItFlowsNot as SourcePlaceFlowsNot, source_place, body_read}
use Rattle.argot_plain_worked_rules.specs.Overwritten.{ItFlowsNot as OverwrittenFlowsNot, overwritten}
use Rattle.argot_plain_worked_rules.specs.Handed.{ItFlowsNot as HandedFlowsNot, handed}
use Rattle.argot_plain_worked_rules.specs.Twice.{ItFlowsNot as TwiceFlowsNot, twice}
use Rattle.argot_plain_worked_rules.proofs.Joining.{no_flow}

pub slices_flows_not : SlicesFlowsNot
slices_flows_not = no_flow slices asked 25 24 0 refl

pub externals_flows_not : ExternalsFlowsNot
externals_flows_not = no_flow externals asked 15 22 0 refl

pub unwinding_flows_not : UnwindingFlowsNot
unwinding_flows_not = no_flow unwinding asked 25 20 0 refl

pub sanitized_flows_not : SanitizedFlowsNot
sanitized_flows_not = no_flow sanitized cleaned 15 17 0 refl

pub validated_flows_not : ValidatedFlowsNot
validated_flows_not = no_flow validated tested 15 19 0 refl

pub source_place_flows_not : SourcePlaceFlowsNot
source_place_flows_not = no_flow source_place body_read 17 21 0 refl

pub overwritten_flows_not : OverwrittenFlowsNot
overwritten_flows_not = no_flow overwritten asked 15 18 0 refl

pub handed_flows_not : HandedFlowsNot
handed_flows_not = no_flow handed asked 21 20 0 refl

pub twice_flows_not : TwiceFlowsNot
twice_flows_not = no_flow twice asked 15 20 0 refl
