use Rattle.argot_files.specs.Reading.{files_in}
use Rattle.argot_names_tops.specs.Tops.{of_package}
use Rattle.argot_names_tops.proofs.ReadFiles.{number_read, no_package}
use Rattle.argot_names_tops.proofs.files.names_if.Goals as goal

pub names_in-requires-clause-read : goal.names_in-requires-clause-read
names_in-requires-clause-read c =
    let h = files_in c.args.files.now in
    let q = c.requires.reached in
    number_read h q.0 c.args.reached.now q.1 q.2 c.args.file c.in-Some.field-0 (c.in-Some.ensures.some h q.0 q.2)

pub returns-in_ok-names_in-in-Some : goal.returns-in_ok-names_in-in-Some
returns-in_ok-names_in-in-Some c =
    let h = files_in c.args.files.now in
    let q = c.requires.reached in
    of_package c.in-Some.field-0 (c.in-Some.ensures.some h q.0 q.2) c.in_ok-names_in-in-Some.ensures

pub returns-in-None : goal.returns-in-None
returns-in-None c =
    let h = files_in c.args.files.now in
    let q = c.requires.reached in
    no_package h q.0 c.args.reached.now q.1 q.2 c.args.file (c.in-None.ensures.none h q.0 q.2)
