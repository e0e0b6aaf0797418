use Rattle.std.proofs.Common.{◌≡◌, Some, refl, sym, ◌∙◌, subst}
use Rattle.std.specs.Prelude.{slice_get}
use Rattle.argot_names_imports.specs.declared.written.Written.{Written}
use Rattle.argot_names_imports.specs.Reads.{handed}
use Rattle.argot_names_tops.specs.declared.named.Named.{Named}
use Rattle.argot_names_tops.specs.ImportNames.{IsImportAt, IsImportItem, GivesImport}
use Rattle.argot_names_tops.proofs.Results.{some_onto, none_onto}
use Rattle.argot_names_tops.proofs.ImportLists.{item_gives, gives_item, gives_no_item, gives_nowhere}
use Rattle.argot_names_tops.proofs.imported.import_named.Goals as goal

pub returns-in-Some-import_name-clause-some : goal.returns-in-Some-import_name-clause-some
returns-in-Some-import_name-clause-some c = λ trees main w is there.
    let h = handed c.args.sources.now c.args.lexed.now trees in
    let r = c.args.reached.now in
    let v : Written = c.import_at-import.result.now in
    let at_v : slice_get r.survey.imports.items c.args.k ≡ Some v = subst (λ ws. slice_get ws c.args.k ≡ Some v) c.deref.ensures.value c.import_at-import.ensures in
    let at : IsImportAt h r c.args.k v = record { package_ = c.in-Some.field-0; there = at_v; of_package = c.in-Some.ensures.some h main is } in
    let name = c.in-Some-import_name.name.now in
    let same : v ≡ w = some_is v w (sym at_v ∙ there) in
    some_onto (IsImportItem c.tokens_at-tokens.result.now v.file v.at c.args.k name) (GivesImport h r c.args.k w) c.import_item.result
    (λ n i. subst (λ x. GivesImport h r c.args.k x n) same (item_gives h main r is c.bytes_at.result.now c.tokens_at-tokens.result.now v.file c.bytes_at.ensures c.tokens_at-tokens.ensures c.args.k v name n refl at (c.in-Some-import_name.ensures.some h main is at) i))
    c.import_item.ensures.some
  where
    some_is : (x y : Written) → Some x ≡ Some y → x ≡ y
    some_is x y e = cc

pub returns-in-Some-import_name-clause-none : goal.returns-in-Some-import_name-clause-none
returns-in-Some-import_name-clause-none c = λ trees main w n is there.
    let h = handed c.args.sources.now c.args.lexed.now trees in
    let r = c.args.reached.now in
    let v : Written = c.import_at-import.result.now in
    let at_v : slice_get r.survey.imports.items c.args.k ≡ Some v = subst (λ ws. slice_get ws c.args.k ≡ Some v) c.deref.ensures.value c.import_at-import.ensures in
    let at : IsImportAt h r c.args.k v = record { package_ = c.in-Some.field-0; there = at_v; of_package = c.in-Some.ensures.some h main is } in
    let name = c.in-Some-import_name.name.now in
    let same : v ≡ w = some_is v w (sym at_v ∙ there) in
    none_onto ((m : Named) → IsImportItem c.tokens_at-tokens.result.now v.file v.at c.args.k name m → ⊥) (GivesImport h r c.args.k w n → ⊥) c.import_item.result
    (λ none g. gives_no_item h main r is c.bytes_at.result.now c.tokens_at-tokens.result.now v.file c.bytes_at.ensures c.tokens_at-tokens.ensures c.args.k v name n refl at_v (c.in-Some-import_name.ensures.some h main is at) none (subst (λ x. GivesImport h r c.args.k x n) (sym same) g))
    c.import_item.ensures.none
  where
    some_is : (x y : Written) → Some x ≡ Some y → x ≡ y
    some_is x y e = cc

pub returns-in-None-import_name-clause-none : goal.returns-in-None-import_name-clause-none
returns-in-None-import_name-clause-none c = λ trees main w n is there g.
    let h = handed c.args.sources.now c.args.lexed.now trees in
    let r = c.args.reached.now in
    let v : Written = c.import_at-import.result.now in
    let at_v : slice_get r.survey.imports.items c.args.k ≡ Some v = subst (λ ws. slice_get ws c.args.k ≡ Some v) c.deref.ensures.value c.import_at-import.ensures in
    let at : IsImportAt h r c.args.k v = record { package_ = c.in-Some.field-0; there = at_v; of_package = c.in-Some.ensures.some h main is } in
    let same : v ≡ w = some_is v w (sym at_v ∙ there) in
    c.in-None-import_name.ensures.none h main n.name.now is at
    (gives_item h main r is c.bytes_at.result.now c.tokens_at-tokens.result.now v.file c.bytes_at.ensures c.tokens_at-tokens.ensures c.args.k v n refl at_v (subst (λ x. GivesImport h r c.args.k x n) (sym same) g)).0
  where
    some_is : (x y : Written) → Some x ≡ Some y → x ≡ y
    some_is x y e = cc

pub returns-in-None-clause-none : goal.returns-in-None-clause-none
returns-in-None-clause-none c = λ trees main w n is there g.
    let h = handed c.args.sources.now c.args.lexed.now trees in
    let r = c.args.reached.now in
    let v : Written = c.import_at-import.result.now in
    let at_v : slice_get r.survey.imports.items c.args.k ≡ Some v = subst (λ ws. slice_get ws c.args.k ≡ Some v) c.deref.ensures.value c.import_at-import.ensures in
    let same : v ≡ w = some_is v w (sym at_v ∙ there) in
    gives_nowhere h main r is c.args.k v n at_v (c.in-None.ensures.none h main is) (subst (λ x. GivesImport h r c.args.k x n) (sym same) g)
  where
    some_is : (x y : Written) → Some x ≡ Some y → x ≡ y
    some_is x y e = cc
