use Rattle.argot_plain.specs.Leak.{labelled}
use Rattle.argot_sound.proofs.Conclusion.{label_escapes}
use Rattle.argot_sound.proofs.Shared.{shared}
use Rattle.argot_sound.proofs.what_is_shared_escapes.Goals as goal

pub returns-clause-shared : goal.returns-clause-shared
returns-clause-shared c = λ p pr wf n m x y r s g h o ne a b. shared p wf (labelled pr) r s g h o ne a b

pub returns-clause-labelled : goal.returns-clause-labelled
returns-clause-labelled c = λ p pr wf n x r slot m e l i. label_escapes p pr wf r slot m e l i
