use Rattle.std.proofs.Common.{◌≡◌, ◌+◌, true, length, take, get_or, ap, ◌∙◌, subst, arith}
use Rattle.std.proofs.Math.Seq.{take-length}
use Rattle.std.proofs.lemmas.List.{take_more}
use Rattle.argot_plain.specs.Counts.{is_named}
use Rattle.argot_roles.specs.Marking.{Marks}
use Rattle.argot_roles.proofs.Naming.{named_more}
use Rattle.argot_roles.proofs.Setting.{marks_none}
use Rattle.argot_roles.proofs.marking.set_places.Goals as goal

pub loop-k-init : goal.loop-k-init
loop-k-init c = marks_none (λ m. is_named m (take 0 c.args.places.now) ≡ true) _ (λ m h. absurd cc)

pub loop-k-preserved : goal.loop-k-preserved
loop-k-preserved c =
    let xs = c.args.places.now in
    named_more (take c.loop-k.k xs) (take (c.loop-k.k + 1) xs) (get_or xs c.loop-k.k c.index-places-k.result) _ _ _ (take_more xs c.loop-k.k c.index-places-k.result c.loop-k-test.true) c.loop-k.invariant c.set.ensures

pub returns : goal.returns
returns c =
    let xs = c.args.places.now in
    let e : c.loop-k.k ≡ length xs = omega arith in
    subst (λ ys. Marks (λ m. is_named m ys ≡ true) c.args.flags.now.items c.loop-k.flags.items) (ap (λ n. take n xs) e ∙ take-length xs) c.loop-k.invariant
