-- The programs are well formed: they pass the tests of parts.
use Rattle.std.proofs.Common.{refl}
use Rattle.argot_plain_parts.proofs.Whole.{passing_is_well}
use Rattle.argot_plain_worked_lowered.specs.StraightLine as StraightLine
use Rattle.argot_plain_worked_lowered.specs.Loop as Loop
use Rattle.argot_plain_worked_lowered.specs.Closure as Closure
use Rattle.argot_plain_worked_lowered.specs.CalledMethod as CalledMethod
use Rattle.argot_plain_worked_lowered.specs.DeferredCall as DeferredCall
use Rattle.argot_lower_worked.specs.StraightLine.{code as straight_line}
use Rattle.argot_lower_worked.specs.Loop.{code as turning}
use Rattle.argot_lower_worked.specs.Closure.{code as closure}
use Rattle.argot_lower_worked.specs.CalledMethod.{code as called_method}
use Rattle.argot_lower_worked.specs.DeferredCall.{code as deferred_call}

pub straight_line_is_well : StraightLine.ItIsWellFormed
straight_line_is_well = passing_is_well straight_line refl

pub loop_is_well : Loop.ItIsWellFormed
loop_is_well = passing_is_well turning refl

pub closure_is_well : Closure.ItIsWellFormed
closure_is_well = passing_is_well closure refl

pub called_method_is_well : CalledMethod.ItIsWellFormed
called_method_is_well = passing_is_well called_method refl

pub deferred_call_is_well : DeferredCall.ItIsWellFormed
deferred_call_is_well = passing_is_well deferred_call refl
