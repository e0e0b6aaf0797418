use Rattle.std.proofs.Common.{sym, subst}
use Rattle.argot_stubs.specs.Stubs.{HasStub}
use Rattle.argot_names_imports.proofs.Options.{none_from}
use Rattle.argot_names_imports.proofs.Candidates.{stub_utf8}
use Rattle.argot_names_imports.proofs.paths.library_text.Goals as goal

pub returns-in-Ok-clause-none : goal.returns-in-Ok-clause-none
returns-in-Ok-clause-none c = none_from c.stub.result _ (λ is text h. c.stub.ensures.none is text (subst (λ p. HasStub p text) (sym c.in-Ok.ensures.cases.0) h))

pub returns-in-Err-clause-none : goal.returns-in-Err-clause-none
returns-in-Err-clause-none c = λ text h. c.in-Err.ensures.cases.0 (stub_utf8 c.args.path.now text h)
