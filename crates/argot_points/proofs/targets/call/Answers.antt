use Rattle.std.proofs.Common.{refl}
use Rattle.argot_points.specs.Solved.{Refers}
use Rattle.argot_points.proofs.Called.{never_aimed}
use Rattle.argot_points.proofs.targets.call.Goals as goal

pub returns-in-None-clause-closed : goal.returns-in-None-clause-closed
returns-in-None-clause-closed c = λ a g takes m. absurd (never_aimed c.args.system.now (Refers c.args.tables.now) c.args.place c.args.by g takes (c.in-None.ensures.none refl) m)

pub call_at-requires-clause-alone : goal.call_at-requires-clause-alone
call_at-requires-clause-alone c = λ other args n k. (c.in-Some.ensures.only other args n k).0
