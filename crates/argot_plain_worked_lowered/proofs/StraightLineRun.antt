-- The run of the straight line.
use Rattle.std.proofs.Common.{refl}
use Rattle.argot_plain.specs.Leak.{labelled}
use Rattle.argot_plain.specs.Machine.{Labelling}
use Rattle.argot_sound.proofs.Conclusion.{leak_flows}
use Rattle.argot_lower_worked.specs.StraightLine.{code, function_0}
use Rattle.argot_plain_worked_rules.specs.Worked.{asked}
use Rattle.argot_plain_worked_rules.proofs.Ahead.{opened, gone_ahead}
use Rattle.argot_plain_worked_rules.proofs.Small.{leaks}
use Rattle.argot_plain_worked_lowered.specs.StraightLine.{ItLeaks, ItEnds, ItFlows}
use Rattle.argot_plain_worked_lowered.proofs.Reading.{ends}
use Rattle.argot_plain_worked_lowered.proofs.Well.{straight_line_is_well}

abbrev l : Labelling
l = labelled asked

pub it_leaks : ItLeaks
it_leaks =
    let a = gone_ahead code l 0 12 _ (opened code l function_0 refl) in
    (_, a, leaks code asked _ 0 0 0 15 17 0 refl)

pub it_ends : ItEnds
it_ends = ends code asked _ (gone_ahead code l 0 19 _ (opened code l function_0 refl)) refl

pub it_flows : ItFlows
it_flows = leak_flows code asked straight_line_is_well it_leaks.1.run 15 17 0 it_leaks.2
