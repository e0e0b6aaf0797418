use Rattle.std.proofs.Common.{sym, ◌∙◌}
use Rattle.argot_names_subset_file.specs.Atoms.{IsBeforeDot}
use Rattle.argot_answers.proofs.Exactly.{exact_as}
use Rattle.argot_names_subset_file.proofs.NameLemmas.{dot_here, dot_through, dot_other, dot_none, above_before}
use Rattle.argot_names_subset_file.proofs.names.before_dot.Goals as goal

pub returns-then-is_selector : goal.returns-then-is_selector
returns-then-is_selector c =
    exact_as (IsBeforeDot c.args.file.now.nodes c.loop-above.at) (IsBeforeDot c.args.file.now.nodes c.args.k) _ (λ s h. (c.loop-above.invariant s).1 h) (λ s h. (c.loop-above.invariant s).0 h)
    (dot_here c.args.file.now.nodes c.loop-above.at c.in-Some.above c.in-Some.ensures (c.is_selector.ensures.0 c.if-is_selector.true))

pub returns-then-not-wraps_type : goal.returns-then-not-wraps_type
returns-then-not-wraps_type c =
    exact_as (IsBeforeDot c.args.file.now.nodes c.loop-above.at) (IsBeforeDot c.args.file.now.nodes c.args.k) _ (λ s h. (c.loop-above.invariant s).1 h) (λ s h. (c.loop-above.invariant s).0 h)
    (dot_other c.args.file.now.nodes c.loop-above.at c.in-Some.above c.in-Some.ensures (λ e. let yes = c.is_selector.ensures.1 e in let never = c.if-is_selector.false in absurd (cc)) (sym c.wraps_type.ensures ∙ c.if-not-wraps_type.true))

pub loop-above-smaller : goal.loop-above-smaller
loop-above-smaller c = above_before c.args.file.now.nodes c.loop-above.at c.nodes-linked.ensures.linked c.in-Some.above c.in-Some.ensures

pub loop-above-preserved : goal.loop-above-preserved
loop-above-preserved c = λ s.
    let step = dot_through c.args.file.now.nodes c.loop-above.at c.in-Some.above c.in-Some.ensures (sym c.wraps_type.ensures ∙ c.if-not-wraps_type.false) s in
    (λ h. step.0 ((c.loop-above.invariant s).0 h), λ h. (c.loop-above.invariant s).1 (step.1 h))

pub returns : goal.returns
returns c =
    exact_as (IsBeforeDot c.args.file.now.nodes c.loop-above.at) (IsBeforeDot c.args.file.now.nodes c.args.k) _ (λ s h. (c.loop-above.invariant s).1 h) (λ s h. (c.loop-above.invariant s).0 h)
    (dot_none c.args.file.now.nodes c.loop-above.at c.in_default.ensures)
