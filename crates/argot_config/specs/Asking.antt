-- What a problem of a configuration asks of a program.
use Rattle.std.specs.Prelude.{◌≡◌, ◌<◌, ◌++◌, ℕ, Some, List, [], ◌∷◌, AllPairs, codes, true, false, slice_get, if◌then◌else◌}
use Rattle.argot_plain.specs.Code.{Code, IsFunction}
use Rattle.argot_plain.specs.Lists.{In}
use Rattle.argot_plain.specs.WellFormed.{IsReadOrMove}
use Rattle.argot_plain.specs.declared.functions.Function.{Function}
use Rattle.argot_plain.specs.declared.instructions.Instr.{Instr}
use Rattle.argot_plain.specs.declared.instructions.Tag.{Tag}
use Rattle.argot_plain.specs.declared.problems.Problem.{Problem}
use Rattle.argot_config_read.specs.declared.config.Asked.{Asked}
use Rattle.argot_config_read.specs.declared.config.Matcher.{Matcher}
use Rattle.argot_config.specs.Matching.{name_function, name_tag}

-- one of the matchers names the function g
pub record IsNamed (p : Code) (ms : List Matcher) (g : ℕ) : Type 0 where
  pub fn : Function
  pub is : IsFunction p g fn
  pub named : name_function ms fn.ident ≡ true

-- the numbers of all functions that the matchers name, ascending
pub record AreFunctions (p : Code) (ms : List Matcher) (found : List ℕ) : Type 0 where
  pub ascending : AllPairs (λ a b. a < b) found
  pub only : (g : ℕ) → In g found → IsNamed p ms g
  pub all : (g : ℕ) → IsNamed p ms g → In g found

-- the first of the tags that the matchers name
pub record IsFirstNamed (ms : List Matcher) (tags : List Tag) (tag : Tag) : Type 0 where
  pub at : ℕ
  pub is : slice_get tags at ≡ Some tag
  pub named : name_tag ms tag ≡ true
  pub earlier : (k : ℕ) (t : Tag) → k < at → slice_get tags k ≡ Some t → name_tag ms t ≡ false

-- a type without a name is called `struct`
abbrev pub type_name : List ℕ → List ℕ
type_name [] = codes "struct"
type_name (b ∷ bs) = b ∷ bs

-- a variable is printed as `PATH.NAME`, a field as `PATH.TYPE.FIELD`
abbrev pub printed : Tag → List ℕ
printed tag =
    if tag.global then (tag.ident.package ++ codes ".") ++ tag.ident.name
    else (((tag.ident.package ++ codes ".") ++ type_name tag.ident.receiver) ++ codes ".") ++ tag.ident.name

-- the place i is a Read or Move whose place expression goes through a field or variable that the matchers name; the
-- first of these has this name
pub record IsSourcePlace (p : Code) (ms : List Matcher) (i : ℕ) (name : List ℕ) : Type 0 where
  pub instr : Instr
  pub is : slice_get p.instrs i ≡ Some instr
  pub kind : IsReadOrMove instr.kind
  pub tag : Tag
  pub first : IsFirstNamed ms instr.tags tag
  pub same_name : name ≡ printed tag

-- all such places, ascending, each with its name
pub record ArePlaces (p : Code) (ms : List Matcher) (found : List (ℕ × List ℕ)) : Type 0 where
  pub ascending : AllPairs (λ a b. a.0 < b.0) found
  pub only : (i : ℕ) (name : List ℕ) → In (i, name) found → IsSourcePlace p ms i name
  pub all : (i : ℕ) (name : List ℕ) → IsSourcePlace p ms i name → In (i, name) found

-- the problem number k of a configuration, for this program
pub record IsProblem (p : Code) (asked : Asked) (k : ℕ) (pr : Problem) : Type 0 where
  pub same_number : pr.number ≡ k
  pub same_name : pr.name ≡ asked.name
  pub sources : AreFunctions p asked.sources pr.sources
  pub sinks : AreFunctions p asked.sinks pr.sinks
  pub sanitizers : AreFunctions p asked.sanitizers pr.sanitizers
  pub validators : AreFunctions p asked.validators pr.validators
  pub points : AreFunctions p asked.points pr.points
  pub places : ArePlaces p asked.sources pr.source_places
  pub same_escapes : pr.escapes ≡ asked.escapes
