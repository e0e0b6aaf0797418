use Rattle.std.proofs.Common.{rules, ◌++◌, sym, ap, ◌∙◌}
use Rattle.std.proofs.lemmas.List.{append-nil}
use Rattle.argot_points_rules.proofs.Counting.{no_definition}
use Rattle.argot_points_rules.proofs.reaching.push_definition.Goals as goal

pub returns-then-place-len : goal.returns-then-place-len
returns-then-place-len c =
    sym (append-nil c.args.found.now.items) ∙ ap (λ xs. c.args.found.now.items ++ xs) (sym (no_definition c.args.program.now c.args.function.now c.args.register c.args.place c.if-place-function.false (search rules)))
