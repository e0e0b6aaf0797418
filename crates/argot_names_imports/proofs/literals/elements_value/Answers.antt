use Rattle.std.proofs.Common.{arith, rules}
use Rattle.argot_names_rules.specs.TextValues.{none}
use Rattle.argot_names_imports.proofs.Reading.{step_more, step_none}
use Rattle.argot_names_imports.proofs.literals.elements_value.Goals as goal

pub loop-at-init : goal.loop-at-init
loop-at-init c = record { within = omega arith; read = search (rules, none) }

pub returns-in_default-clause-none : goal.returns-in_default-clause-none
returns-in_default-clause-none c = step_none c.args.inner.now c.rest.result.now c.loop-at.at c.loop-at.out.items c.element_step.result c.loop-at.invariant c.loop-at-test.true c.rest.ensures c.element_step.ensures.value c.in_default.is

pub loop-at-preserved : goal.loop-at-preserved
loop-at-preserved c = step_more c.args.inner.now c.rest.result.now c.loop-at.at c.loop-at.out.items c.push_stands.new.out.items c.in-Some.size c.in-Some.stands c.loop-at.invariant c.rest.ensures c.in-Some.ensures.value c.in_ok-push_stands.ensures
