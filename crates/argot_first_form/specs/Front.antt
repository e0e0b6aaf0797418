-- What is left of a file's text, and the steps that were read before it.
use Rattle.std.specs.Prelude.{ℕ, List}
use Rattle.argot_first_form.specs.declared.steps.Step.{Step}

pub record Front : Type 0 where
  -- the file's length
  pub total : ℕ
  pub rest : List ℕ
  pub steps : List Step
