use Rattle.argot_names_rules.specs.Nodes.{IsChild}
use Rattle.argot_answers.proofs.Walks.{walk_starts, walk_at, walk_on, walk_ends}
use Rattle.argot_answers.proofs.Tests.{no_iff, yes_iff, iff_no}
use Rattle.argot_names_subset_file.specs.Receivers.{IsWithout}
use Rattle.argot_names_subset_file.proofs.receivers.some_without.Goals as goal

pub loop-at-init : goal.loop-at-init
loop-at-init c = walk_starts (IsChild c.args.view.now.file.now.nodes c.args.decl) (IsWithout c.args.view.now.file.now c.args.view.now.entries.now c.args.path.now c.args.name.now) _ _ c.into_iter-at-iterator.ensures.into_iter_gives c.children-at-items.ensures.each

pub returns-then-is_without : goal.returns-then-is_without
returns-then-is_without c = yes_iff (record {
  list = c.in-Some.at;
  under = walk_at (IsChild c.args.view.now.file.now.nodes c.args.decl) (IsWithout c.args.view.now.file.now c.args.view.now.entries.now c.args.path.now c.args.name.now) _ _ _ c.in-Some.ensures.steps c.loop-at.invariant;
  without = c.is_without.ensures.0 c.if-is_without.true;
})

pub loop-at-preserved : goal.loop-at-preserved
loop-at-preserved c = walk_on (IsChild c.args.view.now.file.now.nodes c.args.decl) (IsWithout c.args.view.now.file.now c.args.view.now.entries.now c.args.path.now c.args.name.now) _ _ _ c.in-Some.ensures.steps c.loop-at.invariant (iff_no c.is_without.result c.if-is_without.false c.is_without.ensures)

pub returns : goal.returns
returns c = no_iff (λ w. walk_ends (IsChild c.args.view.now.file.now.nodes c.args.decl) (IsWithout c.args.view.now.file.now c.args.view.now.entries.now c.args.path.now c.args.name.now) _ c.in-None.ensures.steps.0 c.loop-at.invariant w.list w.under w.without)
