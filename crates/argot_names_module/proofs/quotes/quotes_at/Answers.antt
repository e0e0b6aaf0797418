use Rattle.std.proofs.Common.{sym, ◌∙◌, arith}
use Rattle.argot_names_module.proofs.Unquoted.{quotes_from, one_more}
use Rattle.argot_names_module.proofs.quotes.quotes_at.Goals as goal

pub returns-then-not-is_quote-clause-quotes : goal.returns-then-not-is_quote-clause-quotes
returns-then-not-is_quote-clause-quotes c = quotes_from c.args.text.now c.loop-at.at c.loop-at.invariant.quotes

pub loop-at-preserved : goal.loop-at-preserved
loop-at-preserved c = record {
  within = (let l = c.loop-at.invariant.within in omega (arith, l));
  quotes = one_more c.args.text.now c.loop-at.at c.loop-at-test.true c.loop-at.invariant.quotes (sym c.is_quote.ensures ∙ c.if-not-is_quote.false);
}

pub returns-clause-quotes : goal.returns-clause-quotes
returns-clause-quotes c = quotes_from c.args.text.now 0 (λ k b l e. c.loop-at.invariant.quotes k b (let zero = c.loop-at-test.false in omega (arith, zero)) e)
