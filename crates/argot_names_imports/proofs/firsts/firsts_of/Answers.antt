use Rattle.std.proofs.Common.{rules, sym, ◌∙◌, ap, Some}
use Rattle.argot_names_imports.proofs.FirstFiles.{firsts_none, firsts_more}
use Rattle.argot_names_imports.proofs.firsts.firsts_of.Goals as goal

pub loop-file-init : goal.loop-file-init
loop-file-init c = firsts_none c.args.sort c.args.paths.now c.new-firsts.result (λ q. search rules)

pub loop-file-preserved : goal.loop-file-preserved
loop-file-preserved c =
    firsts_more c.args.sort c.args.paths.now c.loop-file.file c.as_str.result.now c.loop-file.firsts c.note_file.new.firsts
    (c.get.ensures ∙ ap (λ x. Some x) (sym c.as_str.ensures)) c.loop-file.invariant c.in_ok-note_file.ensures
