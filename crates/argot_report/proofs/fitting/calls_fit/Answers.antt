use Rattle.std.proofs.Common.{◌≡◌, ℕ, ◌<◌, get_or, arith}
use Rattle.argot_report.proofs.Every.{all_of, its, one_more}
use Rattle.argot_report.proofs.fitting.calls_fit.Goals as goal

pub returns-then-targets-k-clause-no : goal.returns-then-targets-k-clause-no
returns-then-targets-k-clause-no c = λ h.
    let l = its (λ (y : ℕ × ℕ). y.0 < c.args.places) c.args.targets.now c.loop-k.k (0, 0) h c.loop-k-test.true in
    let t = c.if-targets-k.true in
    absurd (omega arith)

pub loop-k-preserved : goal.loop-k-preserved
loop-k-preserved c =
    let t = c.if-targets-k.false in
    one_more (λ (y : ℕ × ℕ). y.0 < c.args.places) c.args.targets.now c.loop-k.k (0, 0) c.loop-k.invariant c.loop-k-test.true (omega arith)

pub returns-clause-yes : goal.returns-clause-yes
returns-clause-yes c = λ t. all_of (λ (y : ℕ × ℕ). y.0 < c.args.places) c.args.targets.now c.loop-k.k c.loop-k.invariant c.loop-k-test.false
