use Rattle.std.proofs.Common.{ℕ, sym, subst, List}
use Rattle.argot_text.specs.declared.path.PathStep.{PathStep}
use Rattle.argot_points.specs.Meaning.{IsRow, NodeTo, IsHanded, HandHolds}
use Rattle.argot_points.specs.Solved.{IsPart, HandClosed}
use Rattle.argot_points.proofs.targets.hand.Goals as goal

pub hand_back-requires-clause-rule : goal.hand_back-requires-clause-rule
hand_back-requires-clause-rule c =
    let s = c.args.system.now in
    subst (λ (q : List PathStep). (n m y : ℕ) → IsHanded s c.args.g c.in-Return.index q m → IsRow s n c.in-Return.to → NodeTo s m y → NodeTo s n y) (sym c.as_slice-in-Return.ensures)
    (subst (λ r. HandHolds s r c.args.g c.args.takes) c.in-Return.is c.requires.rule)

pub returns-in-Return-clause-closed : goal.returns-in-Return-clause-closed
returns-in-Return-clause-closed c = λ a.
    let s = c.args.system.now in
    let t = c.hand_back.new.tables in
    subst (λ r. HandClosed s t r c.args.g c.args.takes) (sym c.in-Return.is)
    (subst (λ (q : List PathStep). (n m : ℕ) → IsHanded s c.args.g c.in-Return.index q m → IsRow s n c.in-Return.to → IsPart t.refers m n) c.as_slice-in-Return.ensures (c.hand_back.ensures.closed a))
