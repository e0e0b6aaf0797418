use Rattle.std.proofs.Common.{◌<◌, ◌/◌, ◌^◌, arith}
use Rattle.argot_links.proofs.Wordwise.{rest_none, rest_found, rest_first, rest_below}
use Rattle.argot_links.proofs.words.first_in_word.Goals as goal

pub returns-then-rest-eq0-clause-none : goal.returns-then-rest-eq0-clause-none
returns-then-rest-eq0-clause-none c = λ _ i l. rest_none c.args.word c.args.from c.if-rest-eq0.true i l

pub returns-clause-found : goal.returns-clause-found
returns-clause-found c =
    let some : 0 < c.args.word / 2 ^ c.args.from = omega arith in
    (omega arith, rest_below c.args.word c.args.from c.ranges.word.fits some, rest_found c.args.word c.args.from c.ranges.word.fits some)

pub returns-clause-first : goal.returns-clause-first
returns-clause-first c =
    let some : 0 < c.args.word / 2 ^ c.args.from = omega arith in
    rest_first c.args.word c.args.from c.ranges.word.fits some
