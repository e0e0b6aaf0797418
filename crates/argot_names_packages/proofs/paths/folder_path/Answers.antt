use Rattle.argot_names_imports.proofs.Options.{ok_map}
use Rattle.argot_names_packages.specs.Paths.{stubs_of}
use Rattle.argot_names_packages.proofs.PackagePaths.{below_stubs, map_some}
use Rattle.argot_names_packages.proofs.paths.folder_path.Goals as goal

pub returns-in-Some : goal.returns-in-Some
returns-in-Some c =
    ok_map c.from_str.result _ _
    (λ t e. below_stubs c.args.module.now c.args.folder.now c.in-Some.path.now t (map_some c.stub_path.result c.in-Some.path (stubs_of c.args.folder.now) c.stub_path.ensures c.in-Some.is) e) c.from_str.ensures
