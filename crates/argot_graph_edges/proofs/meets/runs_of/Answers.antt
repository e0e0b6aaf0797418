use Rattle.std.proofs.Common.{◌≡◌, ℕ, ◌<◌, sym, ap, subst}
use Rattle.std.specs.Prelude.{IfOk}
use Rattle.argot_links.specs.Runs.{run, seconds}
use Rattle.argot_plain.specs.Lists.{In}
use Rattle.argot_facts.proofs.Listed.{in_of_get}
use Rattle.argot_facts.proofs.Seconds.{seconds_in, in_seconds}
use Rattle.argot_graph_edges.proofs.Pairing.{if_ok}
use Rattle.argot_graph_edges.proofs.meets.runs_of.Goals as goal

pub of-requires-clause-headed : goal.of-requires-clause-headed
of-requires-clause-headed c = λ k x e. c.requires x (in_of_get c.args.pairs.now k x e)

pub returns-clause-runs : goal.returns-clause-runs
returns-clause-runs c =
    if_ok c.of.result _ _
    (λ r f h n l. (
      λ m. seconds_in h n c.args.pairs.now (subst (In n) (f h l) m),
      λ m. subst (In n) (sym (f h l)) (in_seconds h n c.args.pairs.now m),
    )) c.of.ensures.runs
