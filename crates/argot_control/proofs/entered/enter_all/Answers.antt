use Rattle.std.proofs.Common.{◌≡◌, ℕ, ◌<◌, Some, arith}
use Rattle.std.specs.Prelude.{slice_get}
use Rattle.argot_plain.specs.Lists.{In}
use Rattle.argot_facts.proofs.Listed.{number_of, get_within}
use Rattle.argot_control.proofs.Cutting.{marks_as}
use Rattle.argot_control.proofs.entered.enter_all.Goals as goal

pub returns : goal.returns
returns c =
    let places = c.args.places.now in
    marks_as (λ m. (j : ℕ) × (j < c.loop-k.k) × (slice_get places j ≡ Some m)) (λ m. In m places) c.args.flags.now.items c.loop-k.flags.items
    (λ m h. let n = number_of m places h in let l = get_within places n.0 m n.1 in let e = c.loop-k-test.false in (n.0, omega arith, n.1))
    c.loop-k.invariant.marks
