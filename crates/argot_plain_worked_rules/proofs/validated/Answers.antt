use Rattle.argot_plain_worked_rules.proofs.ValidatedRun.{it_clean, it_leaks, it_would}
use Rattle.argot_plain_worked_rules.proofs.Well.{validated_is_well}
use Rattle.argot_plain_worked_rules.proofs.FlowsHeld.{validated_flows, validated_would_flows}
use Rattle.argot_plain_worked_rules.proofs.FlowsNone.{validated_flows_not}
use Rattle.argot_plain_worked_rules.proofs.validated.Goals as goal

pub returns-clause-well_formed : goal.returns-clause-well_formed
returns-clause-well_formed c = validated_is_well

pub returns-clause-clean : goal.returns-clause-clean
returns-clause-clean c = it_clean

pub returns-clause-leaks : goal.returns-clause-leaks
returns-clause-leaks c = it_leaks

pub returns-clause-would_leak : goal.returns-clause-would_leak
returns-clause-would_leak c = it_would

pub returns-clause-flow : goal.returns-clause-flow
returns-clause-flow c = validated_flows

pub returns-clause-no_flow : goal.returns-clause-no_flow
returns-clause-no_flow c = validated_flows_not

pub returns-clause-would_flow : goal.returns-clause-would_flow
returns-clause-would_flow c = validated_would_flows
