-- Two codes are the same but for the lists of wrappers and of implementations, which are ordered sets.
use Rattle.std.specs.Prelude.{◌≡◌}
use Rattle.argot_plain.specs.Code.{Code}

pub record AreSame (c d : Code) : Type 0 where
  pub functions : c.functions ≡ d.functions
  pub instrs : c.instrs ≡ d.instrs
  pub sites : c.sites ≡ d.sites
  pub globals : c.globals ≡ d.globals
  pub files : c.files ≡ d.files
