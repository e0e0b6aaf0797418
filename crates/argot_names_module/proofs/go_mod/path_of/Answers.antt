use Rattle.std.proofs.Common.{sym, subst}
use Rattle.argot_names_rules.specs.GoMod.{FirstLine}
use Rattle.argot_names_rules.specs.GoMod.GivesModule.{given, none}
use Rattle.argot_names_module.proofs.go_mod.path_of.Goals as goal

pub returns-in-Some : goal.returns-in-Some
returns-in-Some c = given (subst (λ w. FirstLine c.args.bytes.now w c.in-Some.line.offset c.in-Some.line.second.now) c.as_bytes.ensures.value c.in-Some.ensures.some) c.unquoted.ensures

pub returns-in-None : goal.returns-in-None
returns-in-None c = none (λ offset word line. c.in-None.ensures.none offset word (subst (λ w. FirstLine c.args.bytes.now w offset word) (sym c.as_bytes.ensures.value) line))
