use Rattle.std.proofs.Common.{Some, subst}
use Rattle.argot_names_rules.specs.Scopes.{Predeclared, Declared}
use Rattle.argot_names_imports.specs.Reached.{homes_of}
use Rattle.argot_names_tops.specs.Meanings.{IsMeaning}
use Rattle.argot_names_uses.proofs.Numbering.{predeclared_number_is}
use Rattle.argot_names_uses.proofs.Meanings.{means_there, meant_exactly, nothing_meant}
use Rattle.argot_names_uses.proofs.numbers.meant_number.Goals as goal

pub returns-in-Local : goal.returns-in-Local
returns-in-Local c h main home decls token name known m =
    let means = subst (IsMeaning h c.args.known.now.reached.now home c.args.file token name) c.in-Local.is m in
    let n = means_there h home c.args.file token name c.args.file c.in-Local.node means in
    meant_exactly h home c.args.file token name decls (Declared c.args.file c.in-Local.node) c.number_at.result means (c.number_at.ensures h main decls n.0 known n.1)

pub returns-in-Import : goal.returns-in-Import
returns-in-Import c h main home decls token name known m = c.import_number.ensures h main home decls token name known (subst (IsMeaning h c.args.known.now.reached.now home c.args.file token name) c.in-Import.is m)

pub returns-in-PackageDecl : goal.returns-in-PackageDecl
returns-in-PackageDecl c h main home decls token name known m =
    let means = subst (IsMeaning h c.args.known.now.reached.now home c.args.file token name) c.in-PackageDecl.is m in
    let n = means_there h home c.args.file token name c.in-PackageDecl.top.file c.in-PackageDecl.top.node means in
    meant_exactly h home c.args.file token name decls (Declared c.in-PackageDecl.top.file c.in-PackageDecl.top.node) c.number_at-in-PackageDecl.result means (c.number_at-in-PackageDecl.ensures h main decls n.0 known n.1)

pub returns-in-Predeclared : goal.returns-in-Predeclared
returns-in-Predeclared c h main home decls token name known m =
    let means = subst (IsMeaning h c.args.known.now.reached.now home c.args.file token name) c.in-Predeclared.is m in
    meant_exactly h home c.args.file token name decls (Predeclared name) (Some c.in-Predeclared.number) means.means (predeclared_number_is h (homes_of h c.args.known.now.reached.now) decls known.decls_are name c.in-Predeclared.number means.there)

pub returns-in-Nothing : goal.returns-in-Nothing
returns-in-Nothing c h main home decls token name known m = nothing_meant h home c.args.file token name decls (subst (IsMeaning h c.args.known.now.reached.now home c.args.file token name) c.in-Nothing.is m)
