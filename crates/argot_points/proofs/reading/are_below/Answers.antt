use Rattle.std.proofs.Common.{arith}
use Rattle.std.proofs.lemmas.Option.{slice_get_within}
use Rattle.argot_points.proofs.Columns.{number_of}
use Rattle.argot_points.proofs.reading.are_below.Goals as goal

pub returns : goal.returns
returns c = λ e g m. let r = number_of _ _ m in c.loop-n.invariant r.0 g (omega (arith, slice_get_within _ r.0 _ r.1)) r.1
