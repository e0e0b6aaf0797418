use Rattle.std.proofs.Common.{◌≡◌, ◌<◌, ◌-◌, true, nat_lt, length, sym, ap, ◌∙◌, arith, subst}
use Rattle.std.proofs.lemmas.Bool.Decides.{nat_tests}
use Rattle.argot_graph_edges.proofs.outside.is_argument.Goals as goal

pub returns-clause-yes : goal.returns-clause-yes
returns-clause-yes c = λ h.
    let t = c.args.node.index - c.args.call.now.behind in
    let l : t < c.arguments.result = grind (arith, nat_tests, h) in
    (c.if-node-call.false, (t, subst (λ w. t < w) c.arguments.ensures l, omega (arith, c.if-index-call.false)))
