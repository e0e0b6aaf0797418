use Rattle.std.proofs.Common.{arith, sym, length, ◌∙◌}
use Rattle.argot_points_rules.proofs.Counting.{first_hit}
use Rattle.argot_points_rules.proofs.Placed.{at_of, first_skips, first_none}
use Rattle.argot_points_rules.proofs.nodes.own_site.Goals as goal

pub returns-then-first-end : goal.returns-then-first-end
returns-then-first-end c =
    let begin = c.first_site-first.ensures in
    let stop = c.end_of_sites-end.ensures in
    let x = at_of c.args.program.now.sites c.first_site-first.result (omega (arith, stop.inside, c.if-first-end.true)) in
    sym (first_skips c.args.place (length c.args.program.now.globals) c.first_site-first.result c.args.program.now.sites begin.from begin.inside (λ m site e l o t. absurd (omega (arith, begin.before m site e l o, t)))
    ∙ first_hit c.args.place c.first_site-first.result c.args.program.now.sites x.0 x.1 (stop.here c.first_site-first.result x.0 x.1 (omega arith) c.if-first-end.true))

pub returns-else-first-end : goal.returns-else-first-end
returns-else-first-end c =
    let begin = c.first_site-first.ensures in
    let stop = c.end_of_sites-end.ensures in
    sym (first_skips c.args.place (length c.args.program.now.globals) c.first_site-first.result c.args.program.now.sites begin.from begin.inside (λ m site e l o t. absurd (omega (arith, begin.before m site e l o, t)))
    ∙ first_none c.args.place c.first_site-first.result c.args.program.now.sites begin.inside (λ m site e l o t. absurd (omega (arith, stop.behind m site e (omega (arith, l, c.if-first-end.false)), t))))
