use Rattle.std.proofs.Common.{◌≡◌, arith, subst, sym}
use Rattle.argot_names.specs.Naming.{NamesAt}
use Rattle.argot_names.proofs.Ordered.{AreNamedBelow, named_none, named_more, named_all}
use Rattle.argot_names.proofs.texts.list_named.Goals as goal

pub loop-k-init : goal.loop-k-init
loop-k-init c = subst (AreNamedBelow c.args.survey.now 0) (sym c.new-paths.ensures) (named_none c.args.survey.now)

pub loop-k-preserved : goal.loop-k-preserved
loop-k-preserved c =
    named_more c.args.survey.now c.loop-k.k c.library_path-path.result.now c.loop-k.paths c.push_named.new.paths c.names.result c.loop-k.invariant c.library_path-path.ensures
    (λ e. let n = c.names.ensures.yes e in (n.0, subst (λ p. NamesAt c.args.survey.now p n.0) c.as_bytes.ensures.value n.1))
    (λ e k at. c.names.ensures.no e k (subst (λ p. NamesAt c.args.survey.now p k) (sym c.as_bytes.ensures.value) at))
    c.in_ok-push_named.ensures

pub returns : goal.returns
returns c = let at : c.loop-k.k ≡ 8 = omega arith in named_all c.args.survey.now c.loop-k.paths (subst (λ k. AreNamedBelow c.args.survey.now k c.loop-k.paths) at c.loop-k.invariant)
