use Rattle.std.proofs.Common.{arith}
use Rattle.argot_names_uses.proofs.Predeclaring.{names_more, names_all}
use Rattle.argot_names_uses.proofs.decls.predeclared_decls.Goals as goal

pub loop-number-preserved : goal.loop-number-preserved
loop-number-preserved c =
    names_more c.loop-number.number c.predeclared_name.result.now c.in_ok-predeclared_of.field-0 c.loop-number.decls.items c.push.new.self.items c.predeclared_name.ensures c.in_ok-predeclared_of.ensures c.loop-number.invariant c.in_ok-push.ensures.items

pub returns : goal.returns
returns c = names_all c.loop-number.number c.loop-number.decls.items (omega (arith, c.loop-number-test.false)) c.loop-number.invariant
