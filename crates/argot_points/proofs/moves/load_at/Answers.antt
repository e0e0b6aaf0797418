use Rattle.std.proofs.Common.{◌≡◌, true, rules, refl}
use Rattle.argot_links.specs.Table.{has}
use Rattle.argot_points.proofs.moves.load_at.Goals as goal

pub load_row_of-requires-clause-rule : goal.load_row_of-requires-clause-rule
load_row_of-requires-clause-rule c =
    let h : has c.args.tables.now.refers c.args.m c.args.y ≡ true = search rules in
    c.requires.rule (c.requires.sound.nodes c.args.m c.args.y c.requires.source h) c.in-Some.z c.in-Some.ensures.found

pub returns-in-None-clause-closed : goal.returns-in-None-clause-closed
returns-in-None-clause-closed c = λ a h z k. absurd (c.in-None.ensures.none refl z k)
