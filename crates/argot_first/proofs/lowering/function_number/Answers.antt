use Rattle.std.proofs.Common.{◌≡◌, ◌+◌, length, ap, ◌∙◌, arith}
use Rattle.std.specs.Prelude.{unwrap_or}
use Rattle.argot_first.specs.Code.{function_number}
use Rattle.argot_first.proofs.Numbers.{function-is, number-least}
use Rattle.argot_first.proofs.lowering.function_number.Goals as goal

pub returns : goal.returns
returns c =
    ap (λ n. n + 1) (c.unwrap_or.ensures ∙ ap (λ o. unwrap_or o (length c.args.scope.now.functions.now)) c.number_of.ensures)
    ∙ function-is c.args.scope.now.numbers c.args.scope.now.functions.now c.requires.functions c.args.name.now

pub overflow_add-result : goal.overflow_add-result
overflow_add-result c =
    let same : c.unwrap_or.result + 1 ≡ function_number c.args.scope.now.functions.now c.args.name.now =
    ap (λ n. n + 1) (c.unwrap_or.ensures ∙ ap (λ o. unwrap_or o (length c.args.scope.now.functions.now)) c.number_of.ensures)
    ∙ function-is c.args.scope.now.numbers c.args.scope.now.functions.now c.requires.functions c.args.name.now in
    let least = number-least c.args.scope.now.functions.now c.args.name.now in
    let few = c.requires.few in
    omega arith
