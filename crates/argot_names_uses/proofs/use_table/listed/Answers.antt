use Rattle.std.proofs.Common.{refl, ap, ◌∙◌, arith}
use Rattle.argot_names_uses.proofs.Reading.{below_none, below_same, below_more, below_all}
use Rattle.argot_names_uses.proofs.use_table.listed.Goals as goal
use Rattle.argot_names_uses.proofs.use_table.listed.Goals.{in-Some+in_ok-push, in_default}

pub loop-node-init : goal.loop-node-init
loop-node-init c h homes decls is = below_none h homes decls c.new-uses.result.items c.new-uses.ensures.items

pub loop-node-preserved : goal.loop-node-preserved
loop-node-preserved c h homes decls is =
    let k = c.loop-node.node in
    let uses = c.loop-node.uses.items in
    let new = c.match-entry_at.uses.items in
    elim c.match-entry_at.branch [
      | in-Some+in_ok-push w ↦
          below_more h homes decls c.args.count c.args.table.now is k w.in-Some.decl uses new (c.loop-node.invariant h homes decls is) ((w.in-Some.ensures w.in-Some.decl).0 refl) (ap (λ v. v.items) w.uses-is ∙ w.in_ok-push.ensures.items)
      | in_default w ↦
          below_same h homes decls c.args.count c.args.table.now is k uses new (c.loop-node.invariant h homes decls is) (λ d e. absurd (cc ((w.in_default.ensures d).1 e))) (ap (λ v. v.items) w.uses-is)
    ]

pub returns : goal.returns
returns c h homes decls is = below_all h homes decls c.args.count c.args.table.now is c.loop-node.node c.loop-node.uses.items (omega (arith, c.loop-node-test.false, c.loop-node.auto.node-end)) (c.loop-node.invariant h homes decls is)
