use Rattle.argot_first_sound.proofs.Conclusion.{no-leak, clean}
use Rattle.argot_first_sound.proofs.no_run_leaks.Goals as goal

pub returns : goal.returns
returns c = record { flowless = no-leak; clean = clean }
