use Rattle.std.proofs.Common.{arith, sym, subst}
use Rattle.argot_files.specs.Reading.{files_in}
use Rattle.argot_names_imports.proofs.AllImports.{AreImportsBelow, read_is, imports_none, imports_more, imports_all}
use Rattle.argot_names_imports.proofs.all_written.all_imports.Goals as goal

pub loop-file-init : goal.loop-file-init
loop-file-init c =
    subst (AreImportsBelow (files_in c.args.files.now) 0) (sym c.new-all.ensures.items) (imports_none (files_in c.args.files.now))

pub loop-file-preserved : goal.loop-file-preserved
loop-file-preserved c =
    imports_more (files_in c.args.files.now) c.loop-file.file _ c.loop-file.all.items c.in_ok-imports.imports.items c.append.new.self.items c.loop-file.invariant
    (read_is c.args.files.now.sources.now c.args.files.now.lexed.now c.args.files.now.trees.now c.loop-file.file _ _ _ c.bytes_at.ensures c.tokens_at.ensures c.nodes_at.ensures) c.in_ok-imports.ensures c.in_ok-append.ensures.items

pub returns : goal.returns
returns c =
    let size = c.in-Ok.ensures in
    imports_all (files_in c.args.files.now) c.loop-file.file c.loop-file.all.items c.loop-file.invariant (omega (arith, size.1))
