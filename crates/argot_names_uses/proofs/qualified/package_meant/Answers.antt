use Rattle.std.proofs.Common.{refl, subst, ap, ◌∙◌}
use Rattle.argot_names_rules.specs.Files.{SourceFile, read_of, text_at}
use Rattle.argot_names_scopes.specs.Files.{MeansLocal, MeansNoLocal}
use Rattle.argot_names_tops.proofs.Inside.{file_is}
use Rattle.argot_names_uses.specs.Packages.{nothing}
use Rattle.argot_names_uses.proofs.OfPackages.{local_no_package, package_is}
use Rattle.argot_names_uses.proofs.qualified.package_meant.Goals as goal

pub returns-in-Some : goal.returns-in-Some
returns-in-Some c h main r home at =
    let file = file_is h c.args.file c.args.names.now at.names_are in
    let name = c.spelled_at-name.ensures ∙ ap (λ (f : SourceFile). text_at f c.args.token) file in
    let local = subst (λ (f : SourceFile). MeansLocal f c.args.token c.spelled_at-name.result.now c.in-Some.field-0) file c.in-Some.ensures.some in
    nothing (local_no_package h home c.args.file c.args.token c.in-Some.field-0 (subst (λ n. MeansLocal (read_of h c.args.file) c.args.token n c.in-Some.field-0) name local))

pub returns-in-None : goal.returns-in-None
returns-in-None c h main r home at =
    let file = file_is h c.args.file c.args.names.now at.names_are in
    let name = c.spelled_at-name.ensures ∙ ap (λ (f : SourceFile). text_at f c.args.token) file in
    let none = subst (λ (f : SourceFile). MeansNoLocal f c.args.token c.spelled_at-name.result.now) file (c.in-None.ensures.none refl) in
    package_is h home c.args.file c.args.token main r c.spelled_at-name.result.now c.import_meant.result name none (c.import_meant.ensures.some h main r at.tops_are) (λ node path place. c.import_meant.ensures.none h main r home node path place at.tops_are at.reached)
