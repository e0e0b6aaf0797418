use Rattle.std.proofs.Common.{sym, subst}
use Rattle.argot_names_rules.specs.GoMod.{FirstLine}
use Rattle.argot_names_rules.specs.GoMod.GivesNumbers.{none}
use Rattle.argot_names_module.proofs.GoLines.{line_gives}
use Rattle.argot_names_module.proofs.go_mod.go_line_of.Goals as goal

pub returns-in-Some : goal.returns-in-Some
returns-in-Some c =
    line_gives c.args.bytes.now c.in-Some.line.offset c.in-Some.line.second.now c.numbers_of.result
    (subst (λ w. FirstLine c.args.bytes.now w c.in-Some.line.offset c.in-Some.line.second.now) c.as_bytes.ensures.value c.in-Some.ensures.some)
    (λ o t other. c.in-Some.ensures.one o t (subst (λ w. FirstLine c.args.bytes.now w o t) (sym c.as_bytes.ensures.value) other))
    c.numbers_of.ensures.some c.numbers_of.ensures.none

pub returns-in-None : goal.returns-in-None
returns-in-None c = none (λ offset major minor word line has. c.in-None.ensures.none offset word (subst (λ w. FirstLine c.args.bytes.now w offset word) (sym c.as_bytes.ensures.value) line))
