use Rattle.std.proofs.Common.{◌≡◌, take}
use Rattle.std.specs.Prelude.{map}
use Rattle.argot_names_rules.specs.Loaded.{predeclared_decl}
use Rattle.argot_names_rules.specs.Universe.{predeclared}
use Rattle.argot_names_uses.proofs.decls.predeclared_decls.Given as goal

abbrev pub invariant-loop-number : goal.invariant-loop-number
invariant-loop-number l = l.decls.items ≡ map predeclared_decl (take l.number predeclared)
