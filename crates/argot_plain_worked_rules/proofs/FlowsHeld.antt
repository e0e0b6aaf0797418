-- Flows that the relation has: each leak of a run is one.
use Rattle.argot_plain.specs.Code.{Code}
use Rattle.argot_plain.specs.WellFormed.{WellFormed}
use Rattle.argot_plain.specs.declared.problems.Problem.{Problem}
use Rattle.argot_sound.proofs.Conclusion.{leak_flows}
use Rattle.std.proofs.Common.{ℕ}
use Rattle.argot_plain_worked_rules.specs.Worked.{asked, Leaks, HasFlow}
use Rattle.argot_plain_worked_rules.specs.Slices.{ItFlows as SlicesFlows, slices}
use Rattle.argot_plain_worked_rules.specs.Externals.{ItFlows as ExternalsFlows, externals}
use Rattle.argot_plain_worked_rules.specs.Unwinding.{ItFlows as UnwindingFlows, unwinding}
use Rattle.argot_plain_worked_rules.specs.NilFunction.{ItFlows as NilFunctionFlows, nil_function}
use Rattle.argot_plain_worked_rules.specs.Boxes.{ItFlows as BoxesFlows, boxes}
use Rattle.argot_plain_worked_rules.specs.Sanitized.{ItFlows as SanitizedFlows, ItWouldFlow as SanitizedWouldFlow, cleaned, sanitized}
use Rattle.argot_plain_worked_rules.specs.Validated.{ItFlows as ValidatedFlows, ItWouldFlow as ValidatedWouldFlow, tested, validated}
use Rattle.argot_plain_worked_rules.specs.SourcePlace.{ItFlows as SourcePlaceFlows, body_read, source_place}
use Rattle.argot_plain_worked_rules.specs.Overwritten.{ItWouldFlow as OverwrittenWouldFlow, kept_program}
use Rattle.argot_plain_worked_rules.specs.Shared.{ItFlows as SharedFlows, shared}
use Rattle.argot_plain_worked_rules.specs.Handed.{ItFlows as HandedFlows, handed}
use Rattle.argot_plain_worked_rules.specs.Twice.{ItFlows as TwiceFlows, twice}
use Rattle.argot_plain_worked_rules.specs.Variables.{ItFlows as VariablesFlows, written_first}
use Rattle.argot_plain_worked_rules.proofs.BoxesRun as BoxesRun
use Rattle.argot_plain_worked_rules.proofs.ExternalsRun as ExternalsRun
use Rattle.argot_plain_worked_rules.proofs.HandedRun as HandedRun
use Rattle.argot_plain_worked_rules.proofs.NilFunctionRun as NilFunctionRun
use Rattle.argot_plain_worked_rules.proofs.OverwrittenRun as OverwrittenRun
use Rattle.argot_plain_worked_rules.proofs.SanitizedRun as SanitizedRun
use Rattle.argot_plain_worked_rules.proofs.SharedRun as SharedRun
use Rattle.argot_plain_worked_rules.proofs.SlicesRun as SlicesRun
use Rattle.argot_plain_worked_rules.proofs.SourcePlaceRun as SourcePlaceRun
use Rattle.argot_plain_worked_rules.proofs.TwiceRun as TwiceRun
use Rattle.argot_plain_worked_rules.proofs.UnwindingRun as UnwindingRun
use Rattle.argot_plain_worked_rules.proofs.ValidatedRun as ValidatedRun
use Rattle.argot_plain_worked_rules.proofs.VariablesRun as VariablesRun
use Rattle.argot_plain_worked_rules.proofs.Well.{boxes_is_well, externals_is_well, handed_is_well, kept_program_is_well, nil_function_is_well, sanitized_is_well, shared_is_well, slices_is_well, source_place_is_well, twice_is_well, unwinding_is_well, validated_is_well, written_first_is_well}

flows : (p : Code) (pr : Problem) (s t k : ℕ) → WellFormed p → Leaks p pr s t k → HasFlow p pr s t k
flows p pr s t k wf h = leak_flows p pr wf h.1.run s t k h.2

pub slices_flows : SlicesFlows
slices_flows = flows slices asked 17 24 0 slices_is_well SlicesRun.it_leaks

pub externals_flows : ExternalsFlows
externals_flows = flows externals asked 15 19 0 externals_is_well ExternalsRun.it_runs.0

pub unwinding_flows : UnwindingFlows
unwinding_flows = flows unwinding asked 15 20 0 unwinding_is_well UnwindingRun.it_runs.0

pub nil_function_flows : NilFunctionFlows
nil_function_flows = flows nil_function asked 15 16 0 nil_function_is_well NilFunctionRun.it_runs.0

pub boxes_flows : BoxesFlows
boxes_flows = flows boxes asked 18 25 0 boxes_is_well BoxesRun.it_leaks

pub sanitized_flows : SanitizedFlows
sanitized_flows = flows sanitized cleaned 15 18 0 sanitized_is_well SanitizedRun.it_runs.1

pub sanitized_would_flows : SanitizedWouldFlow
sanitized_would_flows = flows sanitized asked 15 17 0 sanitized_is_well SanitizedRun.it_would

pub validated_flows : ValidatedFlows
validated_flows = flows validated tested 15 21 0 validated_is_well ValidatedRun.it_leaks

pub validated_would_flows : ValidatedWouldFlow
validated_would_flows = flows validated asked 15 19 0 validated_is_well ValidatedRun.it_would

pub source_place_flows : SourcePlaceFlows
source_place_flows = flows source_place body_read 17 18 0 source_place_is_well SourcePlaceRun.it_runs.0

pub kept_program_flows : OverwrittenWouldFlow
kept_program_flows = flows kept_program asked 15 16 0 kept_program_is_well OverwrittenRun.it_would.0

pub shared_flows : SharedFlows
shared_flows = flows shared asked 25 21 0 shared_is_well SharedRun.it_runs.1

pub handed_flows : HandedFlows
handed_flows = flows handed asked 16 18 0 handed_is_well HandedRun.it_leaks

pub twice_flows : TwiceFlows
twice_flows = flows twice asked 15 19 0 twice_is_well TwiceRun.it_runs.0

pub written_first_flows : VariablesFlows
written_first_flows = flows written_first asked 16 20 0 written_first_is_well VariablesRun.it_would
