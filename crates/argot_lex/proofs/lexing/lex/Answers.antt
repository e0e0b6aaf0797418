use Rattle.argot_lex.proofs.Cuts.{lexed_more, lexed_all, lexed_bad}
use Rattle.argot_lex.proofs.lexing.lex.Goals as goal

pub returns-in_default-clause-bad : goal.returns-in_default-clause-bad
returns-in_default-clause-bad c = lexed_bad c.loop-at.invariant c.loop-at-test.true c.in_default.ensures.none

pub loop-at-preserved : goal.loop-at-preserved
loop-at-preserved c =
    lexed_more c.loop-at.invariant c.in-Some.ensures.longest.1 c.in_ok-pending.ensures.tokens c.in_ok-take_directive.ensures c.in_ok-pending.ensures.value

pub returns-clause-ok : goal.returns-clause-ok
returns-clause-ok c =
    lexed_all (record { tokens = c.from_vec.result; directives = c.from_vec-2.result }) c.loop-at.invariant c.loop-at-test.false c.in_ok-end_line.ensures c.from_vec.ensures c.from_vec-2.ensures
