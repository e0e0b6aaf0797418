use Rattle.std.proofs.Common.{rules, ◌∙◌, ◌==◌}
use Rattle.std.proofs.lemmas.Iterator.Search.{all_from_yields_List}
use Rattle.std.proofs.lemmas.Iterator.Splits.{YieldsList-from_slice_split}
use Rattle.argot_names_rules.specs.Agreeing.{is_open_part}
use Rattle.argot_names_files.proofs.paths.is_open_path.Goals as goal

pub returns : goal.returns
returns c =
    all_from_yields_List is_open_part _ _ _ c.all.ensures.ran
    (YieldsList-from_slice_split _ (λ b. b == 47) c.args.path.now (c.split.ensures.rest ∙ c.as_bytes.ensures.value) c.split.ensures.done c.split.ensures.closure (λ x b q k. search rules))
    (λ x b q k. search rules)
