use Rattle.std.proofs.Common.{inl, inr}
use Rattle.argot_control.proofs.Flagging.{reading}
use Rattle.argot_control.proofs.accesses.reads_of.Goals as goal

pub returns-clause-exact : goal.returns-clause-exact
returns-clause-exact c =
    let p = c.args.program.now in
    let was = c.in_ok-flags.ensures.exact in
    let now = c.mark_exits.ensures.each in
    λ m. (
      (λ s. (reading p m).0 (elim ((now m).0 s) [ inl o ↦ inl ((was m).0 o) | inr d ↦ inr d ])),
      λ r. (now m).1 (elim ((reading p m).1 r) [ inl o ↦ inl ((was m).1 o) | inr d ↦ inr d ]),
    )
