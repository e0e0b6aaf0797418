-- What matchers name is the program's.
use Rattle.std.proofs.Common.{ℕ, ◌<◌, List, length}
use Rattle.std.proofs.lemmas.Option.{slice_get_within}
use Rattle.argot_plain.specs.Code.{Code}
use Rattle.argot_plain.specs.Fitting.{Fits}
use Rattle.argot_plain.specs.declared.problems.Problem.{Problem}
use Rattle.argot_config_read.specs.declared.config.Asked.{Asked}
use Rattle.argot_config_read.specs.declared.config.Matcher.{Matcher}
use Rattle.argot_config.specs.Asking.{IsNamed, IsProblem}

named_below : (p : Code) (ms : List Matcher) (g : ℕ) → IsNamed p ms g → g < length p.functions
named_below p ms g n = slice_get_within p.functions g n.fn n.is

pub problem_fits : (p : Code) (asked : Asked) (k : ℕ) (pr : Problem) → IsProblem p asked k pr → Fits p pr
problem_fits p asked k pr is =
    record {
      sources = λ g m. named_below p asked.sources g (is.sources.only g m);
      sinks = λ g m. named_below p asked.sinks g (is.sinks.only g m);
      sanitizers = λ g m. named_below p asked.sanitizers g (is.sanitizers.only g m);
      validators = λ g m. named_below p asked.validators g (is.validators.only g m);
      points = λ g m. named_below p asked.points g (is.points.only g m);
      places = λ i name m. let s = is.places.only i name m in slice_get_within p.instrs i s.instr s.is;
    }
