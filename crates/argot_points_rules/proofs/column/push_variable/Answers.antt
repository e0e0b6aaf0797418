use Rattle.std.proofs.Common.{◌++◌, ◌≤◌, length, sym, ap, subst, ◌∙◌}
use Rattle.std.proofs.lemmas.List.{append-nil}
use Rattle.std.proofs.lemmas.Option.{slice_get_past}
use Rattle.argot_points_rules.specs.Column.{variable_rules}
use Rattle.argot_points_rules.proofs.column.push_variable.Goals as goal

pub returns-in-None : goal.returns-in-None
returns-in-None c =
    let rules = c.args.rules.now.items in
    let globals = c.args.at.now.program.now.globals in
    let past = subst (λ xs. length xs ≤ c.args.variable) (c.deref.ensures.value ∙ c.globals.ensures) c.in-None.ensures.lookup.3 in
    sym (append-nil rules) ∙ ap (λ xs. rules ++ xs) (sym (ap (variable_rules c.args.at.now.owner c.args.at.now.place) (slice_get_past globals c.args.variable past)))
