use Rattle.std.proofs.Common.{List, ℕ, sym, subst}
use Rattle.argot_names_rules.specs.Agreeing.{Agrees, HasLibrary}
use Rattle.argot_names.proofs.flag_tests.told_of.Goals as goal

pub load-requires-clause-agrees : goal.load-requires-clause-agrees
load-requires-clause-agrees c = subst Agrees (sym c.files-files.ensures) c.requires.agrees

pub load-requires-clause-library : goal.load-requires-clause-library
load-requires-clause-library c = subst (λ h. (main : List ℕ) → HasLibrary h main) (sym c.files-files.ensures) c.requires.library _

pub flags-requires-clause-agrees : goal.flags-requires-clause-agrees
flags-requires-clause-agrees c = subst Agrees (sym c.files-files.ensures) c.requires.agrees
