use Rattle.std.proofs.Common.{subst, refl}
use Rattle.argot_names_scopes.specs.Files.{MeansLocal, MeansNoLocal}
use Rattle.argot_names_tops.proofs.Inside.{file_is, means_local, means_import, means_top, means_predeclared, means_nothing}
use Rattle.argot_names_tops.proofs.meaning.meaning_of.Goals as goal

pub returns-in-Some : goal.returns-in-Some
returns-in-Some c h main r home tops names there of =
    means_local h home c.args.file c.args.token c.args.name.now c.in-Some.local
    (subst (λ f. MeansLocal f c.args.token c.args.name.now c.in-Some.local) (file_is h c.args.file c.args.names.now names) c.in-Some.ensures.some)

pub returns-in-Some-import_meant : goal.returns-in-Some-import_meant
returns-in-Some-import_meant c h main r home tops names there of =
    means_import h home c.args.file c.args.token c.args.name.now
    (subst (λ f. MeansNoLocal f c.args.token c.args.name.now) (file_is h c.args.file c.args.names.now names) (c.in_default.ensures.none refl))
    r c.in-Some-import_meant.import (c.in-Some-import_meant.ensures.some h main r tops)

pub returns-in-Some-top_meant : goal.returns-in-Some-top_meant
returns-in-Some-top_meant c h main r home tops names there of =
    means_top h home c.args.file c.args.token c.args.name.now
    (subst (λ f. MeansNoLocal f c.args.token c.args.name.now) (file_is h c.args.file c.args.names.now names) (c.in_default.ensures.none refl))
    (λ node path place i. c.in_default-import_meant.ensures.none h main r home node path place tops of i)
    c.in-Some-top_meant.top.file c.in-Some-top_meant.top.node (c.in-Some-top_meant.ensures.some h main r home tops there)

pub returns-in-Some-predeclared_number : goal.returns-in-Some-predeclared_number
returns-in-Some-predeclared_number c h main r home tops names there of =
    let known = c.in-Some-predeclared_number.ensures.some in
    means_predeclared h home c.args.file c.args.token c.args.name.now
    (subst (λ f. MeansNoLocal f c.args.token c.args.name.now) (file_is h c.args.file c.args.names.now names) (c.in_default.ensures.none refl))
    (λ node path place i. c.in_default-import_meant.ensures.none h main r home node path place tops of i)
    (λ file node place t. c.in_default-top_meant.ensures.none h main r home file node place tops there t)
    c.in-Some-predeclared_number.number known.0 known.1

pub returns-in-None : goal.returns-in-None
returns-in-None c h main r home tops names there of =
    means_nothing h home c.args.file c.args.token c.args.name.now
    (subst (λ f. MeansNoLocal f c.args.token c.args.name.now) (file_is h c.args.file c.args.names.now names) (c.in_default.ensures.none refl))
    (λ node path place i. c.in_default-import_meant.ensures.none h main r home node path place tops of i)
    (λ file node place t. c.in_default-top_meant.ensures.none h main r home file node place tops there t)
    (c.in-None.ensures.none refl)
