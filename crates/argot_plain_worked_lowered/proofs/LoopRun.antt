-- The run of the loop: a turn and the test of the next, behind which it may end.
use Rattle.std.proofs.Common.{[], refl}
use Rattle.argot_plain.specs.Leak.{labelled}
use Rattle.argot_plain.specs.Nodes.{mark}
use Rattle.argot_lower_worked.specs.Loop.{code, function_0}
use Rattle.argot_plain_worked_rules.specs.Worked.{asked}
use Rattle.argot_plain_worked_rules.proofs.Ahead.{opened, gone_ahead}
use Rattle.argot_plain_worked_lowered.specs.Loop.{ItTurns, ItEnds}
use Rattle.argot_plain_worked_lowered.specs.Words.{at_place}
use Rattle.argot_plain_worked_lowered.proofs.Reading.{bears, branches, ends}

pub it_turns : ItTurns
it_turns = bears code (at_place 14) _ (gone_ahead code (labelled (at_place 14)) 0 19 _ (opened code (labelled (at_place 14)) function_0 refl)) 13 0 (mark 14 0 []) 4 0 refl

pub it_ends : ItEnds
it_ends =
    let a = gone_ahead code (labelled asked) 0 18 _ (opened code (labelled asked) function_0 refl) in
    let b = branches code (labelled asked) 1 _ a in
    ends code asked _ (gone_ahead code (labelled asked) 0 3 _ b) refl
