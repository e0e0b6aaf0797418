use Rattle.std.proofs.Common.{◌≡◌, Some, None, sym, subst}
use Rattle.std.specs.Prelude.{slice_get}
use Rattle.argot_names_rules.specs.PackageScope.{Imported}
use Rattle.argot_names_rules.specs.declared.alias.Alias.TheVariants.{Unnamed}
use Rattle.argot_names_imports.specs.declared.find.Found.TheVariants.{LeftOut}
use Rattle.argot_names_tops.proofs.ImportLists.{found_package, package_there, left_out_path, found_none}
use Rattle.argot_names_tops.proofs.imported_names.found_name.Goals as goal

pub returns-in-Some-package_of_number-clause-some : goal.returns-in-Some-package_of_number-clause-some
returns-in-Some-package_of_number-clause-some c = λ h main f is at.
    let p = c.in-Some-package_of_number.is'.now in
    let there = subst (λ ps. slice_get ps c.in-Some.number ≡ Some p) c.deref.ensures.value c.in-Some-package_of_number.ensures.some in
    subst (λ x. Imported h f c.args.import.now.path Unnamed x) (sym c.name_of.ensures) (found_package h main c.args.reached.now is c.args.k c.in-Some.number c.args.import.now p f at (c.in-Some.ensures.some h main is) there)

pub returns-in-None-package_of_number-clause-none : goal.returns-in-None-package_of_number-clause-none
returns-in-None-package_of_number-clause-none c = λ h main f name is at i.
    let none = subst (λ ps. slice_get ps c.in-Some.number ≡ None) c.deref.ensures.value c.in-None-package_of_number.ensures.none in
    package_there h main c.args.reached.now is c.args.k c.in-Some.number (c.in-Some.ensures.some h main is) none

pub returns-then-is_left_out-clause-some : goal.returns-then-is_left_out-clause-some
returns-then-is_left_out-clause-some c = λ h main f is at.
    let out = subst (λ fs. slice_get fs c.args.k ≡ Some LeftOut) c.deref-in-None.ensures.value (c.is_left_out.ensures.there c.if-is_left_out.true) in
    subst (λ x. Imported h f c.args.import.now.path Unnamed x) (sym c.as_slice.ensures) (left_out_path h main c.args.reached.now is c.args.k c.args.import.now f at out)

pub returns-else-is_left_out-clause-none : goal.returns-else-is_left_out-clause-none
returns-else-is_left_out-clause-none c = λ h main f name is at.
    found_none h main c.args.reached.now is c.args.k c.args.import.now f name at (c.in-None.ensures.none h main is)
    (λ e. c.is_left_out.ensures.none c.if-is_left_out.false (subst (λ fs. slice_get fs c.args.k ≡ Some LeftOut) (sym c.deref-in-None.ensures.value) e))
