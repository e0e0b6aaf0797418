-- What a configuration without faults says. A key that is missing has its default.
use Rattle.std.specs.Prelude.{ℕ, List, [], map, codes, bytes_eq, Bool, true, false, if◌then◌else◌, Option, unwrap_or, option_and_then}
use Rattle.std.specs.Option.{option_map_or}
use Rattle.serde_json.specs.Data.{Data}
use Rattle.serde_json.specs.Find.{get, as_str, as_bool}
use Rattle.argot_tree.specs.declared.entries.Entry.{Entry}
use Rattle.argot_config_read.specs.declared.config.MatchKind.{MatchKind}
use Rattle.argot_config_read.specs.declared.config.MatchKind.TheVariants.{Func, Field, Global}
use Rattle.argot_config_read.specs.declared.wanted.Wanted.{Wanted}
use Rattle.argot_config_read.specs.declared.wanted.WantedMatcher.{WantedMatcher}
use Rattle.argot_config_read.specs.declared.wanted.WantedProblem.{WantedProblem}
use Rattle.argot_config_read.specs.Shapes.{as_list}
use Rattle.argot_config_read.specs.Table.{text_in}

abbrev pub text_at : List ℕ → Data → Option (List ℕ)
text_at key d = option_and_then as_str (get key d)

-- the truth value at the key, else the default
abbrev pub flag_at : List ℕ → Bool → Data → Bool
flag_at key default d = unwrap_or (option_and_then as_bool (get key d)) default

-- the items of the list at the key, none without it
abbrev pub items_at : List ℕ → Data → List Data
items_at key d = unwrap_or (option_and_then as_list (get key d)) []

abbrev pub kind_named : List ℕ → MatchKind
kind_named s = if bytes_eq s (codes "func") then Func else (if bytes_eq s (codes "field") then Field else Global)

abbrev pub kind_in : Data → MatchKind
kind_in d = option_map_or kind_named (text_at (codes "kind") d) Func

unfoldable pub wanted_matcher : Data → WantedMatcher
wanted_matcher d =
    record {
      kind = kind_in d;
      «package» = text_at (codes "package") d;
      receiver = text_at (codes "receiver") d;
      name = text_at (codes "name") d;
    }

abbrev pub matchers_at : List ℕ → Data → List WantedMatcher
matchers_at key d = map wanted_matcher (items_at key d)

unfoldable pub wanted_problem : Data → WantedProblem
wanted_problem d =
    record {
      name = text_in (codes "name") d;
      sources = matchers_at (codes "sources") d;
      sinks = matchers_at (codes "sinks") d;
      sanitizers = matchers_at (codes "sanitizers") d;
      validators = matchers_at (codes "validators") d;
      points = matchers_at (codes "points") d;
      escapes = flag_at (codes "escapes") false d;
    }

unfoldable pub wanted_entry : Data → Entry
wanted_entry d =
    record {
      «package» = text_in (codes "package") d;
      receiver = text_in (codes "receiver") d;
      name = text_in (codes "name") d;
      flow = flag_at (codes "flow") true d;
    }

unfoldable pub wanted : Data → Wanted
wanted d =
    record {
      main = text_in (codes "main") d;
      problems = map wanted_problem (items_at (codes "problems") d);
      externals = map wanted_entry (items_at (codes "externals") d);
    }
