use Rattle.std.specs.Prelude.{codes}
use Rattle.std.proofs.lemmas.Str.Pattern.{ends_text}
use Rattle.argot_names_imports.proofs.firsts.is_go.Goals as goal

pub returns : goal.returns
returns c = ends_text c.ends_with.result (codes ".go") c.args.path.now c.ends_with.ensures.cases
