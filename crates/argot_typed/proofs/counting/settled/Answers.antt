use Rattle.std.proofs.Common.{refl, subst, sym}
use Rattle.std.specs.Option.{IsSome}
use Rattle.argot_typed.proofs.counting.settled.Goals as goal

pub unwrap-requires : goal.unwrap-requires
unwrap-requires c =
    let known = c.requires c.loop-count.count-index c.loop-count-test.true in
    subst IsSome (sym known.1) refl
