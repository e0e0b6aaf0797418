use Rattle.argot_names_imports.specs.Firsts.{AreFirsts}
use Rattle.argot_names_imports.proofs.firsts.firsts_of.Given as goal

abbrev pub invariant-loop-file : goal.invariant-loop-file
invariant-loop-file l = AreFirsts l.sort l.paths l.file l.firsts
