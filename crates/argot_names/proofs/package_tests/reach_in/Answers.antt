use Rattle.std.proofs.Common.{List, ℕ, sym, subst}
use Rattle.argot_names_rules.specs.Agreeing.{Agrees, HasLibrary}
use Rattle.argot_names.proofs.package_tests.reach_in.Goals as goal

pub reach-requires-clause-agrees : goal.reach-requires-clause-agrees
reach-requires-clause-agrees c = subst Agrees (sym c.files.ensures) c.requires.agrees

pub reach-requires-clause-library : goal.reach-requires-clause-library
reach-requires-clause-library c = subst (λ h. (main : List ℕ) → HasLibrary h main) (sym c.files.ensures) c.requires.library _
