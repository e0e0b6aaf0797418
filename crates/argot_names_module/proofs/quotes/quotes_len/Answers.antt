use Rattle.std.proofs.Common.{sym, ◌∙◌, arith}
use Rattle.std.proofs.lemmas.List.Sums.{prefix_len_is}
use Rattle.argot_names_rules.specs.GoMod.{is_quote}
use Rattle.argot_names_module.proofs.quotes.quotes_len.Goals as goal

pub returns-then-not-is_quote-clause-len : goal.returns-then-not-is_quote-clause-len
returns-then-not-is_quote-clause-len c = sym (prefix_len_is is_quote c.args.text.now c.loop-i.i 0 (omega arith) c.loop-i.invariant (λ _. sym c.is_quote.ensures ∙ c.if-not-is_quote.true))

pub returns-clause-len : goal.returns-clause-len
returns-clause-len c = sym (prefix_len_is is_quote c.args.text.now _ 0 (omega arith) (λ k l. c.loop-i.invariant k (omega arith)) (λ l. absurd (omega arith)))
