use Rattle.std.proofs.Common.{sym}
use Rattle.argot_names_subset_file.proofs.Outcomes.{on_ok_map}
use Rattle.argot_names_subset.proofs.Foldering.{package_put}
use Rattle.argot_names_subset.proofs.folders.put_package.Goals as goal

pub returns-in-Some : goal.returns-in-Some
returns-in-Some c =
    on_ok_map c.put_folder.result _ _
    (package_put c.args.folders.now c.put_folder.new.folders c.args.sources.now c.args.package.now c.in-Some.path.now (sym c.in-Some.ensures))
    c.put_folder.ensures
