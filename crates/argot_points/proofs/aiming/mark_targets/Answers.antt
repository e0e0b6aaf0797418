use Rattle.std.proofs.Common.{false, subst, sym, inl, inr, rules}
use Rattle.std.proofs.lemmas.Bool.{both_ways}
use Rattle.argot_points.specs.Meaning.{Aimed}
use Rattle.argot_points.specs.Solved.{Refers}
use Rattle.argot_points.proofs.Called.{number_aim, object_aim, aim_number, aim_object}
use Rattle.argot_points.proofs.aiming.mark_targets.Goals as goal

pub returns-in-Static-clause-there : goal.returns-in-Static-clause-there
returns-in-Static-clause-there c = λ g takes m.
    rw (number_aim c.args.system.now (Refers c.args.tables.now) c.args.place c.args.by c.args.callee.now c.requires.alone g c.in-Static.g takes c.in-Static.is m).0 c.add.ensures.adds.there

pub returns-in-Static-clause-only : goal.returns-in-Static-clause-only
returns-in-Static-clause-only c = λ g h. elim (c.add.ensures.adds.only 0 g h) [
  | inl old ↦ absurd (both_ways _ (c.clear.ensures.empty 0 g) old)
  | inr new ↦ (
    false,
    subst (λ x. Aimed c.args.system.now (Refers c.args.tables.now) c.args.place c.args.by x false) (sym new.1)
        (aim_number c.args.system.now (Refers c.args.tables.now) c.args.place c.args.by c.args.callee.now c.in-Static.g c.in-Static.is c.requires.there),
  )
]

pub returns-in_default : goal.returns-in_default
returns-in_default c = record {
  shape = search rules;
  there = λ g takes m.
      let o = object_aim c.args.system.now (Refers c.args.tables.now) c.args.place c.args.by c.args.callee.now c.requires.alone g takes (λ h. c.in_default.not-Static h) m in
      c.mark_by.ensures.there o.0 o.1 g takes o.2 o.3 o.4;
  only = λ g h. elim (c.mark_by.ensures.only g h) [
    | inl old ↦ absurd (both_ways _ (c.clear.ensures.empty 0 g) old)
    | inr x ↦ (x.2, aim_object c.args.system.now (Refers c.args.tables.now) c.args.place c.args.by c.args.callee.now x.0 x.1 g x.2 c.requires.there x.3 x.4 x.5)
  ];
}
