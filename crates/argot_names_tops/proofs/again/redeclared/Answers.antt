use Rattle.std.proofs.Common.{◌≡◌, List, length, Option, Some, ◌∙◌, sym, ap, subst}
use Rattle.std.specs.Prelude.{slice_get}
use Rattle.argot_names_rules.specs.Faults.{IsRedeclared}
use Rattle.argot_names_scopes.specs.declared.file.FileNames.{FileNames}
use Rattle.argot_names_tops.specs.declared.named.Named.{Named}
use Rattle.argot_names_tops.specs.Collecting.{AreCollected}
use Rattle.argot_names_tops.specs.First.{NamesFirst, sooner_of}
use Rattle.argot_names_tops.specs.Behind.{GivesPackaged}
use Rattle.argot_names_tops.specs.Tops.{AreFiles}
use Rattle.argot_names_tops.proofs.FirstPlaces.{first_some, first_nowhere}
use Rattle.argot_names_tops.proofs.Redeclaring.{first_all}
use Rattle.argot_names_tops.proofs.again.redeclared.Goals as goal

pub first_in_functions-requires : goal.first_in_functions-requires
first_in_functions-requires c = λ k n at.
    (c.requires.1.1.files.there k n (subst (λ (fs : List (Option FileNames)). slice_get fs k ≡ Some (Some n)) c.deref-7.ensures.value at)).0.names

pub returns-clause-some : goal.returns-clause-some
returns-clause-some c = λ h main are.
    let r = c.args.reached.now in
    let t = c.args.tops.now in
    let packaged : List Named = c.in_ok-packaged.packaged.items in
    let by_package = subst (λ (xs : List Named). AreCollected (GivesPackaged h r) xs (length xs) packaged) c.deref.ensures.value (c.in_ok-packaged.ensures h main are.reach) in
    let files = subst (λ fs. AreFiles h r fs) (sym c.deref-7.ensures.value) are.files in
    let made = first_all h main r t are packaged by_package c.deref-3.result.now c.deref-4.result.now c.deref-5.result.now c.deref-6.result.now c.deref-7.result.now
    c.deref-3.ensures.value c.deref-4.ensures.value c.deref-5.ensures.value c.deref-6.ensures.value c.deref-7.ensures.value
    c.first_of_a_kind-one.result c.first_of_both-both.result c.in_ok-inner.inner c.first_of_a_kind-one.ensures c.first_of_both-both.ensures (c.in_ok-inner.ensures h main r are.reach files) in
    first_some (IsRedeclared h main) c.sooner-2.result (subst (NamesFirst (IsRedeclared h main)) (sym (c.sooner-2.ensures ∙ ap (λ o. sooner_of o c.in_ok-inner.inner) c.sooner.ensures)) made)

pub returns-clause-none : goal.returns-clause-none
returns-clause-none c = λ h main are.
    let r = c.args.reached.now in
    let t = c.args.tops.now in
    let packaged : List Named = c.in_ok-packaged.packaged.items in
    let by_package = subst (λ (xs : List Named). AreCollected (GivesPackaged h r) xs (length xs) packaged) c.deref.ensures.value (c.in_ok-packaged.ensures h main are.reach) in
    let files = subst (λ fs. AreFiles h r fs) (sym c.deref-7.ensures.value) are.files in
    let made = first_all h main r t are packaged by_package c.deref-3.result.now c.deref-4.result.now c.deref-5.result.now c.deref-6.result.now c.deref-7.result.now
    c.deref-3.ensures.value c.deref-4.ensures.value c.deref-5.ensures.value c.deref-6.ensures.value c.deref-7.ensures.value
    c.first_of_a_kind-one.result c.first_of_both-both.result c.in_ok-inner.inner c.first_of_a_kind-one.ensures c.first_of_both-both.ensures (c.in_ok-inner.ensures h main r are.reach files) in
    first_nowhere (IsRedeclared h main) c.sooner-2.result (subst (NamesFirst (IsRedeclared h main)) (sym (c.sooner-2.ensures ∙ ap (λ o. sooner_of o c.in_ok-inner.inner) c.sooner.ensures)) made)
