use Rattle.std.proofs.Common.{sym, subst, List}
use Rattle.argot_text.specs.declared.path.PathStep.{PathStep}
use Rattle.argot_points_rules.specs.declared.rules.Rule.TheVariants.{Load, Store}
use Rattle.argot_points.specs.Meaning.{RuleHolds, HandHolds}
use Rattle.argot_points.specs.Solved.{ClosedUnder, HandClosed}
use Rattle.argot_points.proofs.passes.follow.Goals as goal

pub load-requires-clause-rule : goal.load-requires-clause-rule
load-requires-clause-rule c =
    subst (λ (q : List PathStep). RuleHolds c.args.system.now (Load c.in-Load.to c.in-Load.at q)) (sym c.as_slice-in-Load.ensures) (subst (λ r. RuleHolds c.args.system.now r) c.in-Load.is c.requires.holds)

pub store-requires-clause-rule : goal.store-requires-clause-rule
store-requires-clause-rule c =
    subst (λ (q : List PathStep). RuleHolds c.args.system.now (Store c.in-Store.at q c.in-Store.source)) (sym c.as_slice-in-Store.ensures) (subst (λ r. RuleHolds c.args.system.now r) c.in-Store.is c.requires.holds)

pub call-requires-in-Return-clause-rule : goal.call-requires-in-Return-clause-rule
call-requires-in-Return-clause-rule c = λ g takes m.
    subst (λ r. HandHolds c.args.system.now r g takes) (sym c.in-Return.is) ((subst (λ r. RuleHolds c.args.system.now r) c.in-Return.is c.requires.holds) g takes m)

pub returns-in-Load-clause-closed : goal.returns-in-Load-clause-closed
returns-in-Load-clause-closed c = λ a.
    subst (λ r. ClosedUnder c.args.system.now c.load.new.tables r) (sym c.in-Load.is)
    (subst (λ (q : List PathStep). ClosedUnder c.args.system.now c.load.new.tables (Load c.in-Load.to c.in-Load.at q)) c.as_slice-in-Load.ensures (c.load.ensures.closed a))

pub returns-in-Return-clause-closed : goal.returns-in-Return-clause-closed
returns-in-Return-clause-closed c = λ a.
    let t = c.call-in-Return.new.tables in
    subst (λ r. ClosedUnder c.args.system.now t r) (sym c.in-Return.is)
    (λ g takes m. subst (λ r. HandClosed c.args.system.now t r g takes) c.in-Return.is (c.call-in-Return.ensures.closed a g takes m))
