use Rattle.argot_points.specs.Meaning.{NodeTo}
use Rattle.argot_points.specs.Solved.{Refers}
use Rattle.argot_points.proofs.Called.{number_aim, object_aim, aim_number, aim_object}
use Rattle.argot_points.proofs.targets.call_at.Goals as goal

pub hand-requires-clause-rule : goal.hand-requires-clause-rule
hand-requires-clause-rule c = c.requires.rule _ _ (aim_number c.args.system.now (NodeTo c.args.system.now) c.args.place c.args.by c.args.callee.now c.in-Static.g c.in-Static.is c.requires.there)

pub returns-in-Static-clause-closed : goal.returns-in-Static-clause-closed
returns-in-Static-clause-closed c = λ a g takes m.
    let o = number_aim c.args.system.now (Refers c.hand.new.tables) c.args.place c.args.by c.args.callee.now c.requires.alone g c.in-Static.g takes c.in-Static.is m in
    rw (o.0, o.1) (c.hand.ensures.closed a)

pub hand_all-requires : goal.hand_all-requires
hand_all-requires c = record {
  fits = c.requires.fits;
  rule = λ row y e node g takes means. c.requires.rule g takes (aim_object c.args.system.now (NodeTo c.args.system.now) c.args.place c.args.by c.args.callee.now row y g takes c.requires.there e node means);
  sound = c.requires.sound;
}

pub returns-in_default : goal.returns-in_default
returns-in_default c = record {
  sound = c.hand_all.ensures.sound;
  advances = c.hand_all.ensures.advances;
  closed = λ a g takes m.
      let o = object_aim c.args.system.now (Refers c.hand_all.new.tables) c.args.place c.args.by c.args.callee.now c.requires.alone g takes (λ h. c.in_default.not-Static h) m in
      c.hand_all.ensures.closed a o.0 o.1 o.2 o.3 g takes o.4;
  same = c.hand_all.ensures.same;
  room = c.hand_all.ensures.room;
}
