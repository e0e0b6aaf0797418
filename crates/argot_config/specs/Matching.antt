-- What a matcher names.
use Rattle.std.specs.Prelude.{◌&&◌, ℕ, List, Bool, true, false, not, bytes_eq, is_some, Option, Some, None}
use Rattle.std.specs.List.{list_any}
use Rattle.regex.specs.Patterns.{find_str}
use Rattle.regex.specs.Strings.{regex_pattern}
use Rattle.argot_plain.specs.declared.functions.Ident.{Ident}
use Rattle.argot_plain.specs.declared.instructions.Tag.{Tag}
use Rattle.argot_config_read.specs.declared.config.Matcher.{Matcher}
use Rattle.argot_config_read.specs.declared.config.MatchKind.{MatchKind}
use Rattle.argot_config_read.specs.declared.config.MatchKind.TheVariants.{Func, Field, Global}
use Rattle.argot_config_read.specs.declared.config.Test.{Test}
use Rattle.argot_config_read.specs.declared.config.Test.TheVariants.{All, Whole, Built}

-- whether the text passes the test: any text, the text itself, or one in which the pattern matches somewhere
abbrev pub passes : Test → List ℕ → Bool
passes All text = true
passes (Whole wanted) text = bytes_eq text wanted
passes (Built pattern) text = is_some (find_str (regex_pattern pattern) text 0)

-- whether the package's path, the receiver's type and the name each pass
abbrev pub passes_all : Matcher → Ident → Bool
passes_all m ident = passes m.package ident.package && (passes m.receiver ident.receiver && passes m.name ident.name)

-- whether matchers of the kind look at functions
abbrev pub looks_at_functions : MatchKind → Bool
looks_at_functions Func = true
looks_at_functions Field = false
looks_at_functions Global = false

-- whether they look at tags of package variables, or of fields
abbrev pub looks_at_tags : MatchKind → Bool → Bool
looks_at_tags Func global = false
looks_at_tags Field global = not global
looks_at_tags Global global = global

-- whether a matcher names the function of this name; a function without one is none that a package declares
abbrev pub names_function : Option Ident → Matcher → Bool
names_function None m = false
names_function (Some ident) m = looks_at_functions m.kind && passes_all m ident

abbrev pub names_tag : Tag → Matcher → Bool
names_tag tag m = looks_at_tags m.kind tag.global && passes_all m tag.ident

-- whether one of the matchers names it
abbrev pub name_function : List Matcher → Option Ident → Bool
name_function ms ident = list_any (names_function ident) ms

abbrev pub name_tag : List Matcher → Tag → Bool
name_tag ms tag = list_any (names_tag tag) ms
