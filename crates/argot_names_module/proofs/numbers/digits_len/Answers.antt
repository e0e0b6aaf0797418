use Rattle.std.proofs.Common.{sym, ◌∙◌, arith}
use Rattle.std.proofs.lemmas.List.Sums.{prefix_len_is}
use Rattle.argot_names_module.specs.Lines.{is_decimal}
use Rattle.argot_names_module.proofs.numbers.digits_len.Goals as goal

pub returns-then-not-is_decimal-clause-len : goal.returns-then-not-is_decimal-clause-len
returns-then-not-is_decimal-clause-len c = sym (prefix_len_is is_decimal c.args.text.now c.loop-i.i 0 (omega arith) c.loop-i.invariant (λ _. sym c.is_decimal.ensures ∙ c.if-not-is_decimal.true))

pub returns-clause-len : goal.returns-clause-len
returns-clause-len c = sym (prefix_len_is is_decimal c.args.text.now _ 0 (omega arith) (λ k l. c.loop-i.invariant k (omega arith)) (λ l. absurd (omega arith)))
