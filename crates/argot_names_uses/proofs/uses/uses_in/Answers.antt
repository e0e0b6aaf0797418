use Rattle.std.proofs.Common.{arith, rules, sym, subst}
use Rattle.argot_names_imports.specs.Reached.{homes_of}
use Rattle.argot_names_uses.specs.UseTables.{IsTable}
use Rattle.argot_names_uses.proofs.FilledFiles.{filled_begun, files_filled}
use Rattle.argot_names_uses.proofs.Firsts.{none_anywhere}
use Rattle.argot_names_uses.proofs.uses.uses_in.Goals as goal

pub returns-clause-uses : goal.returns-clause-uses
returns-clause-uses c h main decls known all =
    let r = c.args.known.now.reached.now in
    let begun = filled_begun h r decls c.args.count c.in_ok-table.table.items all (c.in_ok-table.ensures.items_if_clones_equal (search rules)) in
    let table = files_filled h r decls main c.args.known.now.tops.now c.in-Ok.files c.args.count c.fill_files-unresolved.new.table.items known.tops_are (omega (arith, c.in-Ok.ensures, c.len.ensures)) all (c.fill_files-unresolved.ensures.table h main decls known begun) in
    c.in_ok-uses.ensures h (homes_of h r) decls (subst (IsTable h (homes_of h r) decls c.args.count) (sym c.deref.ensures.value) table)

pub returns-clause-some : goal.returns-clause-some
returns-clause-some c h main tops = (c.fill_files-unresolved.ensures.first h main tops).some

pub returns-clause-none : goal.returns-clause-none
returns-clause-none c h main tops =
    none_anywhere h main c.args.known.now.reached.now c.args.known.now.tops.now tops c.in-Ok.files (omega (arith, c.in-Ok.ensures, c.len.ensures)) c.fill_files-unresolved.result (c.fill_files-unresolved.ensures.first h main tops)
