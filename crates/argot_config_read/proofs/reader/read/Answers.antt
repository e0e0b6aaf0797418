use Rattle.std.proofs.Common.{arith, rules}
use Rattle.serde_json.specs.View.{view}
use Rattle.argot_config_read.specs.Answers.{HasCause, IsJson}
use Rattle.argot_config_read.proofs.Causes.{has_cause}
use Rattle.argot_config_read.proofs.reader.read.Goals as goal

pub returns-in_err-wanted-clause-cause : goal.returns-in_err-wanted-clause-cause
returns-in_err-wanted-clause-cause g c =
    let e = c.in_err-wanted.field-0.0 in
    let d = view c.in-Ok.value in
    let j : IsJson c.args.bytes.now d = record { utf8 = c.in-Ok.ensures.ok.0; reads = c.in-Ok.ensures.ok.1 } in
    let h : HasCause c.args.bytes.now (g.P.Patterns.refusals c.args.patterns.now) (g.P.Patterns.refusals c.args.patterns.now) (g.P.Patterns.last c.args.patterns.now) e =
    has_cause c.args.bytes.now d _ _ _ e j c.in_err-wanted.ensures.fault in
    first_of (grind (arith, h), search (rules, h))
