use Rattle.std.proofs.Common.{subst, arith}
use Rattle.argot_names_uses.specs.Faults.{IsFirstOf, MemberAt}
use Rattle.argot_names_uses.proofs.FirstUnresolved.{first_none, first_more}
use Rattle.argot_names_uses.specs.UseTables.{IsFilled, Seen}
use Rattle.argot_names_uses.proofs.filling.fill_members.Goals as goal

pub loop-k-init : goal.loop-k-init
loop-k-init c = (λ h main home decls lone here filled. filled, λ h main home here. first_none (MemberAt h home c.args.file c.args.names.now.bindings.dotted.items))

pub loop-k-preserved : goal.loop-k-preserved
loop-k-preserved c = (
  λ h main home decls lone here filled. c.fill_member-fault.ensures.table h main home decls lone here (c.loop-k.invariant.0 h main home decls lone here filled),
  λ h main home here. first_more (MemberAt h home c.args.file c.args.names.now.bindings.dotted.items) c.loop-k.k c.loop-k.first c.fill_member-fault.result c.sooner-first.result (c.loop-k.invariant.1 h main home here) (c.fill_member-fault.ensures.fault h main home here) c.sooner-first.ensures,
)

pub returns-clause-table : goal.returns-clause-table
returns-clause-table c h main home decls lone here filled =
    subst (λ x. IsFilled h c.args.known.now.reached.now decls (Seen c.args.names.now c.args.file lone x 0) c.loop-k.table.items) (omega (arith, c.loop-k-test.false, c.loop-k.auto.k-end, c.len-k-end.ensures)) (c.loop-k.invariant.0 h main home decls lone here filled)

pub returns-clause-fault : goal.returns-clause-fault
returns-clause-fault c h main home here =
    subst (λ x. IsFirstOf (MemberAt h home c.args.file c.args.names.now.bindings.dotted.items) x c.loop-k.first) (omega (arith, c.loop-k-test.false, c.loop-k.auto.k-end, c.len-k-end.ensures)) (c.loop-k.invariant.1 h main home here)
