-- Problems that speak of a program.
use Rattle.std.specs.Prelude.{◌<◌, ℕ, List, length}
use Rattle.argot_plain.specs.Code.{Code}
use Rattle.argot_plain.specs.Lists.{In}
use Rattle.argot_plain.specs.declared.problems.Problem.{Problem}

-- the functions and places that the problem names are the program's
pub record Fits (p : Code) (pr : Problem) : Type 0 where
  pub sources : (h : ℕ) → In h pr.sources → h < length p.functions
  pub sinks : (h : ℕ) → In h pr.sinks → h < length p.functions
  pub sanitizers : (h : ℕ) → In h pr.sanitizers → h < length p.functions
  pub validators : (h : ℕ) → In h pr.validators → h < length p.functions
  pub points : (h : ℕ) → In h pr.points → h < length p.functions
  pub places : (i : ℕ) (name : List ℕ) → In (i, name) pr.source_places → i < length p.instrs
