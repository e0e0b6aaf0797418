use Rattle.std.proofs.Common.{sym, ◌∙◌, arith, ap, not}
use Rattle.std.proofs.lemmas.List.Sums.{prefix_len_is}
use Rattle.argot_names_module.specs.Lines.{is_in_word}
use Rattle.argot_names_module.proofs.words.word_len.Goals as goal

pub returns-then-separates-clause-len : goal.returns-then-separates-clause-len
returns-then-separates-clause-len c = sym (prefix_len_is is_in_word c.args.text.now c.loop-i.i 0 (omega arith) c.loop-i.invariant (λ _. ap not (sym c.separates.ensures ∙ c.if-separates.true)))

pub returns-clause-len : goal.returns-clause-len
returns-clause-len c = sym (prefix_len_is is_in_word c.args.text.now _ 0 (omega arith) (λ k l. c.loop-i.invariant k (omega arith)) (λ l. absurd (omega arith)))
