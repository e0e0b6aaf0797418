use Rattle.std.proofs.Common.{arith}
use Rattle.argot_files.specs.Reading.{files_in}
use Rattle.argot_names_tops.proofs.ReadFiles.{files_all, files_none, files_more}
use Rattle.argot_names_tops.proofs.files.files_of.Goals as goal

pub loop-file-init : goal.loop-file-init
loop-file-init c = files_none (files_in c.args.files.now) c.args.reached.now c.new-names.result.items c.new-names.ensures.items

pub loop-file-preserved : goal.loop-file-preserved
loop-file-preserved c =
    files_more (files_in c.args.files.now) c.args.reached.now c.loop-file.file c.loop-file.names.items c.push.new.self.items c.in_ok-names_if.field-0 c.loop-file.invariant
    c.in_ok-names_if.ensures c.in_ok-push.ensures.items

pub returns : goal.returns
returns c =
    let size = c.in-Ok.ensures in
    let q = c.requires in
    files_all (files_in c.args.files.now) q.0 c.args.reached.now q.1 q.2 c.loop-file.file c.loop-file.names.items c.loop-file.invariant (omega (arith, size.1))
