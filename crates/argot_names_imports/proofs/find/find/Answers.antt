use Rattle.std.proofs.Common.{sym, ◌∙◌}
use Rattle.argot_names_imports.proofs.Finding.{left_found, module_found, stub_found, text_found}
use Rattle.argot_names_imports.proofs.find.find.Goals as goal

pub returns-then-is_left_out : goal.returns-then-is_left_out
returns-then-is_left_out c = λ h t. left_found h c.args.module.now c.args.path.now c.args.folders.now c.args.libraries.now t (sym c.is_left_out.ensures ∙ c.if-is_left_out.true)

pub returns-in-Some : goal.returns-in-Some
returns-in-Some c = λ h t. module_found h c.args.module.now c.args.path.now c.args.folders.now c.args.libraries.now t c.in-Some.file (sym c.is_left_out.ensures ∙ c.if-is_left_out.false) (sym c.module_folder.ensures ∙ c.in-Some.is)

pub returns-in-Some-2 : goal.returns-in-Some-2
returns-in-Some-2 c = λ h t. stub_found h c.args.module.now c.args.path.now c.args.folders.now c.args.libraries.now t c.in-Some-2.file (sym c.is_left_out.ensures ∙ c.if-is_left_out.false) (sym c.module_folder.ensures ∙ c.in_default.is) (sym c.in_ok-file.ensures ∙ c.in-Some-2.is)

pub returns : goal.returns
returns c = λ h t. text_found h c.args.module.now c.args.path.now c.args.folders.now c.args.libraries.now t (sym c.is_left_out.ensures ∙ c.if-is_left_out.false) (sym c.module_folder.ensures ∙ c.in_default.is) (sym c.in_ok-file.ensures ∙ c.in_default-2.is) c.find_text.result c.find_text.ensures
