use Rattle.std.proofs.Common.{ap}
use Rattle.std.specs.Prelude.{option_map}
use Rattle.argot_names_subset_file.proofs.Noting.{bodiless_known}
use Rattle.argot_names_subset_file.proofs.notes.bodiless_in.Goals as goal

pub returns-in-Some : goal.returns-in-Some
returns-in-Some c = bodiless_known c.args.view.now c.args.k c.in-Some.path.now c.bodiless_at.result (ap (option_map (λ r. r.now)) c.in-Some.is) c.bodiless_at.ensures
