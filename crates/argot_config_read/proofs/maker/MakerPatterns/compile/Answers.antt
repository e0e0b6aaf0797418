use Rattle.argot_config_read.proofs.Readings.{no_pattern}
use Rattle.argot_config_read.proofs.maker.MakerPatterns.compile.Goals as goal

pub returns-in-Err-Syntax-clause-compiles : goal.returns-in-Err-Syntax-clause-compiles
returns-in-Err-Syntax-clause-compiles c =
    let e = c.in-Err-Syntax.field-0-0 in
    let ok = rw c.in-Err-Syntax.field-0-is at c.in-Err-Syntax.ensures.kind in
    (no_pattern c.args.text.now e.kind ok (c.in-Err-Syntax.ensures.by_grammar e c.in-Err-Syntax.field-0-is), cc, cc)
