use Rattle.std.proofs.Common.{◌≡◌, Some, refl, sym, subst}
use Rattle.std.specs.Prelude.{slice_get}
use Rattle.argot_names_imports.specs.declared.find.Found.TheVariants as finds
use Rattle.argot_names_uses.specs.Packages.{IsPackageMeant}
use Rattle.argot_names_uses.proofs.Faulty.{member_passed, by_none, by_left_out, by_member, by_no_member}
use Rattle.argot_names_uses.proofs.faults.member_fault.Goals as goal

pub returns-then-is_passed_over : goal.returns-then-is_passed_over
returns-then-is_passed_over c h main home tops file at meant member = member_passed h home file c.args.names.now at.names_are c.args.dotted (c.is_passed_over.ensures.there c.if-is_passed_over.true)

pub returns-in_default : goal.returns-in_default
returns-in_default c h main home tops file at meant member =
    by_none h main c.args.reached.now home tops file c.args.names.now at c.args.dotted (subst (IsPackageMeant h c.args.reached.now home file c.args.dotted.token) c.in_default.is meant)

pub returns-then-is_left_out : goal.returns-then-is_left_out
returns-then-is_left_out c h main home tops file at meant member =
    by_left_out h main c.args.reached.now home tops file c.args.names.now at c.args.dotted c.in-Some.number c.args.import c.in-Some.is meant (subst (λ fs. slice_get fs c.in-Some.number ≡ Some finds.LeftOut) c.deref.ensures.value (c.if-is_left_out.ensures.0 refl))

pub returns-in-Some-member : goal.returns-in-Some-member
returns-in-Some-member c h main home tops file at meant member =
    by_member h main c.args.reached.now home tops file c.args.names.now at c.args.dotted c.in-Some.number c.args.import c.in-Some-member.field-0 c.args.member c.in-Some.is meant c.in-Some-member.is member

pub returns-in-None : goal.returns-in-None
returns-in-None c h main home tops file at meant member =
    by_no_member h main c.args.reached.now home tops file c.args.names.now at c.args.dotted c.in-Some.number c.args.import c.args.member c.start_at.result c.in-Some.is meant c.in-None.is member (c.is_passed_over.ensures.none c.if-is_passed_over.false)
    (λ out. let never = c.if-is_left_out.ensures.1 (subst (λ fs. slice_get fs c.in-Some.number ≡ Some finds.LeftOut) (sym c.deref.ensures.value) out) in absurd (cc)) c.start_at.ensures
