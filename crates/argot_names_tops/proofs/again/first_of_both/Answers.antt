use Rattle.std.proofs.Common.{length, sym, subst}
use Rattle.argot_names_tops.specs.First.{NamesFirst, Either}
use Rattle.argot_names_tops.specs.Behind.{IsBehindBelow}
use Rattle.argot_names_tops.proofs.FirstPlaces.{sooner_first}
use Rattle.argot_names_tops.proofs.again.first_of_both.Goals as goal

pub returns : goal.returns
returns c =
    let xs = c.args.tops.now in
    let ys = c.args.imports.now in
    subst (NamesFirst (Either (IsBehindBelow ys xs (length ys)) (IsBehindBelow xs ys (length xs)))) (sym c.sooner.ensures)
    (sooner_first (IsBehindBelow ys xs (length ys)) (IsBehindBelow xs ys (length xs)) c.first_behind.result c.first_behind-2.result (c.first_behind.ensures xs c.requires.tops) (c.first_behind-2.ensures ys c.requires.imports))
