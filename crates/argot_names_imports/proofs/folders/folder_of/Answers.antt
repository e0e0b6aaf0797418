use Rattle.std.proofs.Common.{arith, rules}
use Rattle.argot_names_imports.proofs.Splits.{split_is}
use Rattle.argot_names_imports.proofs.folders.folder_of.Goals as goal

pub returns-in-Some : goal.returns-in-Some
returns-in-Some c =
    let split = split_is 47 c.args.path.now _ c.rsplit_once.ensures.cases (omega arith) in
    rw (← split) (grind rules)

pub returns-in-None : goal.returns-in-None
returns-in-None c =
    let split = split_is 47 c.args.path.now _ c.rsplit_once.ensures.cases (omega arith) in
    rw (← split) (grind rules)
