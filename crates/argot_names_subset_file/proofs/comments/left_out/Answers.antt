use Rattle.std.proofs.Common.{sym, ◌∙◌}
use Rattle.argot_names_subset_file.proofs.Commenting.{out_unsafe, out_reflect, out_foreign, out_none}
use Rattle.argot_names_subset_file.proofs.comments.left_out.Goals as goal

pub returns-then-is_text : goal.returns-then-is_text
returns-then-is_text c = out_unsafe c.args.path.now (c.is_text.ensures.0 c.if-is_text.true ∙ c.as_bytes.ensures.value)

pub returns-then-is_text-2 : goal.returns-then-is_text-2
returns-then-is_text-2 c = out_reflect c.args.path.now (c.is_text-2.ensures.0 c.if-is_text-2.true ∙ c.as_bytes-2.ensures.value)

pub returns-then-is_text-3 : goal.returns-then-is_text-3
returns-then-is_text-3 c = out_foreign c.args.path.now (c.is_text-3.ensures.0 c.if-is_text-3.true ∙ c.as_bytes-3.ensures.value)

pub returns : goal.returns
returns c =
    out_none c.args.path.now (λ e. let yes = c.is_text.ensures.1 (e ∙ sym c.as_bytes.ensures.value) in let never = c.if-is_text.false in absurd (cc))
    (λ e. let yes = c.is_text-2.ensures.1 (e ∙ sym c.as_bytes-2.ensures.value) in let never = c.if-is_text-2.false in absurd (cc))
    (λ e. let yes = c.is_text-3.ensures.1 (e ∙ sym c.as_bytes-3.ensures.value) in let never = c.if-is_text-3.false in absurd (cc))
