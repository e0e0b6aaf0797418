-- The configuration that counts where none is given: one problem, whose names are compared whole.
use Rattle.std.specs.Prelude.{ℕ, List, [], ◌∷◌, codes, false}
use Rattle.argot_config_read.specs.declared.config.Config.{Config}
use Rattle.argot_config_read.specs.declared.config.Asked.{Asked}
use Rattle.argot_config_read.specs.declared.config.Matcher.{Matcher}
use Rattle.argot_config_read.specs.declared.config.MatchKind.TheVariants.{Func}
use Rattle.argot_config_read.specs.declared.config.Test.TheVariants.{All, Whole}

-- the functions of this name, in any package and with any receiver
abbrev pub named : List ℕ → List Matcher
named name = record { kind = Func; «package» = All; receiver = All; name = Whole name } ∷ []

abbrev pub default_problem : Asked
default_problem =
    record {
      name = codes "default";
      sources = named (codes "source");
      sinks = named (codes "sink");
      sanitizers = named (codes "sanitize");
      validators = named (codes "validate");
      points = named (codes "sink");
      escapes = false;
    }

abbrev pub default_config : Config
default_config = record { main = []; problems = default_problem ∷ []; externals = [] }
