use Rattle.std.proofs.Common.{sym, ◌∙◌, arith}
use Rattle.std.proofs.lemmas.List.Sums.{prefix_len_is}
use Rattle.argot_names_rules.specs.GoMod.{separates}
use Rattle.argot_names_module.proofs.words.blank_len.Goals as goal

pub returns-then-not-separates-clause-len : goal.returns-then-not-separates-clause-len
returns-then-not-separates-clause-len c = sym (prefix_len_is separates c.args.text.now c.loop-i.i 0 (omega arith) c.loop-i.invariant (λ _. sym c.separates.ensures ∙ c.if-not-separates.true))

pub returns-clause-len : goal.returns-clause-len
returns-clause-len c = sym (prefix_len_is separates c.args.text.now _ 0 (omega arith) (λ k l. c.loop-i.invariant k (omega arith)) (λ l. absurd (omega arith)))
