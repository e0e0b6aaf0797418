use Rattle.std.proofs.Common.{◌+◌, sym, subst, arith}
use Rattle.argot_names_rules.specs.Faults.{FindsNone}
use Rattle.argot_names_packages.specs.Spots.{IsLeast, IsBelow}
use Rattle.argot_names_packages.specs.Missing.{IsMissingAt}
use Rattle.argot_names_packages.proofs.Least.{least_start, least_step, least_all}
use Rattle.argot_names_packages.proofs.FindingNone.{missing_there, missing_is}
use Rattle.argot_names_packages.proofs.unfound.missing.Goals as goal

pub loop-k-init : goal.loop-k-init
loop-k-init c = least_start (IsMissingAt c.args.survey.now c.args.lexed.now)

pub loop-k-preserved : goal.loop-k-preserved
loop-k-preserved c =
    subst (IsLeast (IsBelow (IsMissingAt c.args.survey.now c.args.lexed.now) (c.loop-k.k + 1))) (sym c.sooner-least.ensures)
    (least_step (IsMissingAt c.args.survey.now c.args.lexed.now) c.loop-k.k c.loop-k.least c.missing_at.result c.loop-k.invariant c.missing_at.ensures)

pub returns : goal.returns
returns c = λ h main same is.
    least_all (IsMissingAt c.args.survey.now c.args.lexed.now) (FindsNone h main) c.loop-k.k c.loop-k.least
    (λ k place m. let r = missing_is h main c.args.lexed.now same c.args.survey.now is k place m in (omega (arith, r.0), r.1))
    (missing_there h main c.args.lexed.now same c.args.survey.now is) c.loop-k.invariant
