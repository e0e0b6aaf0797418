use Rattle.std.proofs.Common.{subst}
use Rattle.std.specs.Prelude.{IfSome, IfNone}
use Rattle.argot_names_rules.specs.Files.{IsFirst}
use Rattle.argot_names_rules.specs.Faults.{IsRedeclared, IsNowhere, Again}
use Rattle.argot_files.specs.Places.{place_of}
use Rattle.argot_files.specs.Reading.{files_in}
use Rattle.argot_names_packages.proofs.Refusing.{by_memory}
use Rattle.argot_names.proofs.Refusing.{again_refused}
use Rattle.argot_names.proofs.checks.check_again.Goals as goal

pub returns-in_err-place-clause-fault : goal.returns-in_err-place-clause-fault
returns-in_err-place-clause-fault c = λ main t. by_memory (files_in c.args.files.now) main c.from_residual.result c.from_residual.ensures.1

pub returns-in-Some-clause-fault : goal.returns-in-Some-clause-fault
returns-in-Some-clause-fault c = λ main t.
    let h = files_in c.args.files.now in
    again_refused h main c.args.reached.now c.args.tops.now t (place_of c.in-Some.place) c.place_at.result (subst (λ o. IfSome o (λ p. IsFirst (IsRedeclared h main) (place_of p))) c.in-Some.is (c.in_ok-place.ensures.some h main t)) c.place_at.ensures

pub returns-in-None-clause-fine : goal.returns-in-None-clause-fine
returns-in-None-clause-fine c = λ main t.
    let h = files_in c.args.files.now in
    subst (λ o. IfNone o (IsNowhere h main Again)) c.in-None.is (c.in_ok-place.ensures.none h main t)
