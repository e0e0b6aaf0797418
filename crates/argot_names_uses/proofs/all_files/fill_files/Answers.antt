use Rattle.std.proofs.Common.{◌≡◌, subst, arith}
use Rattle.argot_names_uses.specs.UseTables.{IsFilled, FilesBefore}
use Rattle.argot_names_uses.specs.Firsts.{IsFirstBelow}
use Rattle.argot_names_uses.proofs.Firsts.{none_yet}
use Rattle.argot_names_uses.proofs.all_files.fill_files.Goals as goal

pub loop-file-init : goal.loop-file-init
loop-file-init c = (λ h main decls known filled. filled, λ h main tops. none_yet h main)

pub loop-file-preserved : goal.loop-file-preserved
loop-file-preserved c =
    (λ h main decls known filled. c.fill_file-offset.ensures.table h main decls known (c.loop-file.invariant.0 h main decls known filled), λ h main tops. c.earlier-first.ensures h main (c.loop-file.invariant.1 h main tops) (c.fill_file-offset.ensures.fault h main tops))

pub returns-clause-table : goal.returns-clause-table
returns-clause-table c h main decls known filled =
    let all : c.loop-file.file ≡ c.args.files = omega (arith, c.loop-file-test.false, c.loop-file.auto.file-end) in
    subst (λ x. IsFilled h c.args.known.now.reached.now decls (FilesBefore x) c.loop-file.table.items) all (c.loop-file.invariant.0 h main decls known filled)

pub returns-clause-first : goal.returns-clause-first
returns-clause-first c h main tops =
    let all : c.loop-file.file ≡ c.args.files = omega (arith, c.loop-file-test.false, c.loop-file.auto.file-end) in
    subst (λ x. IsFirstBelow h main x c.loop-file.first) all (c.loop-file.invariant.1 h main tops)
