use Rattle.std.proofs.Common.{◌≡◌, ◌+◌, length, sym, subst, arith}
use Rattle.argot_names_tops.specs.First.{NamesFirst}
use Rattle.argot_names_tops.specs.Behind.{IsBehindBelow}
use Rattle.argot_names_tops.proofs.FirstPlaces.{below_none, below_more}
use Rattle.argot_names_tops.proofs.behind.first_behind.Goals as goal

pub loop-k-init : goal.loop-k-init
loop-k-init c = λ others are. below_none c.args.items.now others

pub loop-k-preserved : goal.loop-k-preserved
loop-k-preserved c = λ others are.
    subst (NamesFirst (IsBehindBelow c.args.items.now others (c.loop-k.k + 1))) (sym c.sooner-first.ensures)
    (below_more c.args.items.now others c.loop-k.k c.item_at.result.now c.loop-k.first c.behind.result c.item_at.ensures (c.loop-k.invariant others are) (c.behind.ensures others are))

pub returns : goal.returns
returns c = λ others are.
    let at : c.loop-k.k ≡ length c.args.items.now = omega (arith, c.loop-k-test.false) in
    subst (λ k. NamesFirst (IsBehindBelow c.args.items.now others k) c.loop-k.first) at (c.loop-k.invariant others are)
