use Rattle.std.proofs.Common.{None, Some, subst}
use Rattle.argot_names_rules.specs.declared.flag.Feature.TheVariants.{DotImport}
use Rattle.argot_answers.specs.Answers.{Exactly}
use Rattle.argot_names_subset_file.specs.Parts.{IsDot}
use Rattle.argot_names_subset_file.proofs.PartLemmas.{dot_some, dot_other, dot_none}
use Rattle.argot_names_subset_file.proofs.parts.dot_at.Goals as goal

pub returns-in_err-site : goal.returns-in_err-site
returns-in_err-site c = rw c.from_residual.ensures (subst (λ ns. Exactly (IsDot ns c.args.k) None) c.nodes.ensures.nodes (dot_none c.nodes.result.now c.args.k c.in_err-site.ensures.none))

pub returns-in-Dotted : goal.returns-in-Dotted
returns-in-Dotted c =
    let s = c.in_ok-site.site in
    subst (λ ns. Exactly (IsDot ns c.args.k) (Some (record { feature = DotImport; token = s.at }))) c.nodes.ensures.nodes (dot_some c.nodes.result.now c.args.k s.at s.path_at s.alias c.in_ok-site.ensures.some c.in-Dotted.is)

pub returns-in_default : goal.returns-in_default
returns-in_default c =
    let s = c.in_ok-site.site in
    subst (λ ns. Exactly (IsDot ns c.args.k) None) c.nodes.ensures.nodes (dot_other c.nodes.result.now c.args.k s.at s.path_at s.alias c.in_ok-site.ensures.some c.in_default.not-Dotted)
