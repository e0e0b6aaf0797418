use Rattle.std.specs.Prelude.{codes}
use Rattle.std.proofs.lemmas.Str.Pattern.{ends_text}
use Rattle.argot_names_subset.proofs.others.is_assembly.Goals as goal

pub returns : goal.returns
returns c = ends_text c.ends_with.result (codes ".s") c.args.path.now c.ends_with.ensures.cases
