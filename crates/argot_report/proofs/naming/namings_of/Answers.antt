use Rattle.std.proofs.Common.{◌≡◌, ℕ, ◌+◌, ◌++◌, ◌∷◌, [], take, get_or, sym, ap, ◌∙◌, subst}
use Rattle.std.proofs.lemmas.List.{take_more}
use Rattle.argot_report.specs.Counted.{AreNamings}
use Rattle.argot_report.proofs.Tables.{namings_more}
use Rattle.argot_report.proofs.naming.namings_of.Goals as goal

pub loop-problem-preserved : goal.loop-problem-preserved
loop-problem-preserved c =
    let p = c.args.program.now in
    let prs = c.args.problems.now in
    let k = c.loop-problem.problem-index in
    let x = c.problem-item.result in
    let all = c.loop-problem.namings.items in
    let n = c.in_ok-of.field-0 in
    let t : take (k + 1) prs ≡ take k prs ++ x ∷ [] = take_more prs k x c.loop-problem-test.true ∙ ap (λ z. take k prs ++ z ∷ []) (sym c.problem-item.is) in
    let m = namings_more p (take k prs) x all n c.loop-problem.invariant c.in_ok-of.ensures.problem c.in_ok-of.ensures.tables in
    subst (λ ys. AreNamings p ys c.push.new.self.items) (sym t) (subst (AreNamings p (take k prs ++ x ∷ [])) (sym c.in_ok-push.ensures.items) m)
