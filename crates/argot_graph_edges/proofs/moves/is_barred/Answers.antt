use Rattle.std.proofs.Common.{◌≡◌, Some, sym, ap, ◌∙◌, subst}
use Rattle.argot_plain.specs.Code.{IsAt}
use Rattle.argot_graph_edges.specs.Rows.{is_barred}
use Rattle.argot_graph_edges.proofs.Tabling.{validator_is}
use Rattle.argot_graph_edges.proofs.moves.is_barred.Goals as goal

pub returns-in-Passed : goal.returns-in-Passed
returns-in-Passed c =
    let d = c.args.drawing.now in
    let at = subst (λ w. IsAt d.program.now c.args.place w) c.in-Passed.is c.kind.ensures in
    c.is_validator.ensures ∙ validator_is d.program.now d.problem.now d.tables.now c.requires.tables c.in-Passed.callee (c.requires.well.numbers.passed c.args.place c.in-Passed.to c.in-Passed.callee at)
    ∙ sym (ap (is_barred d.problem.now) at)
