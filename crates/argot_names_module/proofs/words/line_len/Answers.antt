use Rattle.std.proofs.Common.{sym, arith, ap, not}
use Rattle.std.proofs.lemmas.List.Sums.{prefix_len_is}
use Rattle.std.proofs.lemmas.Bool.{eq-eqb}
use Rattle.argot_names_module.specs.Lines.{is_in_line}
use Rattle.argot_names_module.proofs.words.line_len.Goals as goal

pub returns-then-b-eq10-clause-len : goal.returns-then-b-eq10-clause-len
returns-then-b-eq10-clause-len c = sym (prefix_len_is is_in_line c.args.text.now c.loop-i.i 0 (omega arith) c.loop-i.invariant (λ _. ap not (eq-eqb _ _ c.if-b-eq10.true)))

pub returns-clause-len : goal.returns-clause-len
returns-clause-len c = sym (prefix_len_is is_in_line c.args.text.now _ 0 (omega arith) (λ k l. c.loop-i.invariant k (omega arith)) (λ l. absurd (omega arith)))
