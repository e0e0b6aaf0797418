use Rattle.std.proofs.Common.{◌≡◌, ◌+◌, length, take, get_or, ap, ◌∙◌, subst, arith}
use Rattle.std.proofs.Math.Seq.{take-length}
use Rattle.std.proofs.lemmas.List.{take_more}
use Rattle.argot_plain.specs.Lists.{In}
use Rattle.argot_roles.specs.Marking.{Marks}
use Rattle.argot_roles.proofs.Setting.{marks_none, marks_more}
use Rattle.argot_roles.proofs.marking.set_all.Goals as goal

pub loop-k-init : goal.loop-k-init
loop-k-init c = marks_none (λ m. In m (take 0 c.args.numbers.now)) _ (λ m h. elim h [ ])

pub loop-k-preserved : goal.loop-k-preserved
loop-k-preserved c =
    let xs = c.args.numbers.now in
    marks_more (take c.loop-k.k xs) (take (c.loop-k.k + 1) xs) (get_or xs c.loop-k.k 0) _ _ _ (take_more xs c.loop-k.k 0 c.loop-k-test.true) c.loop-k.invariant c.set.ensures

pub returns : goal.returns
returns c =
    let xs = c.args.numbers.now in
    let e : c.loop-k.k ≡ length xs = omega arith in
    subst (λ ys. Marks (λ m. In m ys) c.args.flags.now.items c.loop-k.flags.items) (ap (λ n. take n xs) e ∙ take-length xs) c.loop-k.invariant
