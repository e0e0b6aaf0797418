use Rattle.argot_names_imports.proofs.Options.{if_none, none_map}
use Rattle.argot_names_imports.proofs.Siting.{named_none}
use Rattle.argot_names_imports.proofs.sites.by_name.Goals as goal

pub returns-in_err-name_at-clause-none : goal.returns-in_err-name_at-clause-none
returns-in_err-name_at-clause-none c = if_none c.from_residual.result _ (λ s h. c.in_err-name_at.ensures.none h.name_at h.next h.is_name)

pub returns-clause-none : goal.returns-clause-none
returns-clause-none c = none_map c.by_path.result _ _ (named_none c.args.nodes.now c.args.at c.args.name c.in_ok-name_at.name_at c.in_ok-name_at.path c.in_ok-name_at.ensures.some) c.by_path.ensures.none
