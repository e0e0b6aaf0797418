-- The table of a configuration: for each object its keys, what their values may be and which are required.
use Rattle.std.specs.Prelude.{ℕ, List, [], ◌∷◌, length, map, codes, bytes_eq, Bool, true, false, not, ◌&&◌, ◌||◌, nat_le, unwrap_or, option_and_then}
use Rattle.std.specs.List.{list_any, list_all}
use Rattle.serde_json.specs.Data.{Data}
use Rattle.serde_json.specs.Find.{get, as_str}
use Rattle.argot_config_read.specs.declared.faults.ConfigFault.{ConfigFault}
use Rattle.argot_config_read.specs.declared.objects.Object.{Object}
use Rattle.argot_config_read.specs.declared.objects.Object.TheVariants.{Top, Problem, Matcher, Entry}
use Rattle.argot_config_read.specs.Paths.{top_path}
use Rattle.argot_config_read.specs.Shapes.{Judge, Row, row, flag, text_that, list_of, object_of}

abbrev pub any_text : Judge
any_text = text_that (λ _. true)

-- the kinds of a matcher; fields and package variables are sources alone
abbrev pub is_kind : Bool → List ℕ → Bool
is_kind in_sources s = bytes_eq s (codes "func") || (in_sources && (bytes_eq s (codes "field") || bytes_eq s (codes "global")))

-- a pattern has at most 1,000 bytes
abbrev pub is_short : List ℕ → Bool
is_short s = nat_le (length s) 1000

-- an ASCII letter, a digit, `_` or `-`
abbrev pub is_name_byte : ℕ → Bool
is_name_byte b =
    (nat_le 65 b && nat_le b 90) || ((nat_le 97 b && nat_le b 122) || ((nat_le 48 b && nat_le b 57) || (nat_le 95 b && nat_le b 95 || nat_le 45 b && nat_le b 45)))

-- 1 to 64 of these
abbrev pub is_problem_name : List ℕ → Bool
is_problem_name s = nat_le 1 (length s) && (nat_le (length s) 64 && list_all is_name_byte s)

-- the text at a key, empty where there is none
abbrev pub text_in : List ℕ → Data → List ℕ
text_in key d = unwrap_or (option_and_then as_str (get key d)) []

abbrev pub matcher_rows : Bool → List Row
matcher_rows in_sources =
    row (codes "kind") false (text_that (is_kind in_sources))
    ∷ row (codes "package") false (text_that is_short)
    ∷ row (codes "receiver") false (text_that is_short)
    ∷ row (codes "name") false (text_that is_short) ∷ []

unfoldable pub matcher : Bool → Judge
matcher in_sources = object_of (matcher_rows in_sources)

abbrev pub matchers : Bool → Judge
matchers in_sources = list_of 0 64 (λ _. matcher in_sources)

-- a problem behind others of these names
abbrev pub problem_rows : List (List ℕ) → List Row
problem_rows taken =
    row (codes "name") true (text_that (λ s. is_problem_name s && not (list_any (bytes_eq s) taken)))
    ∷ row (codes "sources") false (matchers true)
    ∷ row (codes "sinks") false (matchers false)
    ∷ row (codes "sanitizers") false (matchers false)
    ∷ row (codes "validators") false (matchers false)
    ∷ row (codes "points") false (matchers false)
    ∷ row (codes "escapes") false flag ∷ []

unfoldable pub problem : List (List ℕ) → Judge
problem taken = object_of (problem_rows taken)

abbrev pub problems : Judge
problems = list_of 1 16 (λ before. problem (map (text_in (codes "name")) before))

abbrev pub entry_rows : List Row
entry_rows =
    row (codes "package") true any_text
    ∷ row (codes "name") true any_text
    ∷ row (codes "receiver") false any_text
    ∷ row (codes "flow") false flag ∷ []

unfoldable pub entry : Judge
entry = object_of entry_rows

abbrev pub entries : Judge
entries = list_of 0 1024 (λ _. entry)

abbrev pub top_rows : List Row
top_rows =
    row (codes "main") false any_text
    ∷ row (codes "problems") true problems
    ∷ row (codes "externals") false entries ∷ []

-- all faults of a configuration, in order
unfoldable pub faults_of : Data → List ConfigFault
faults_of d = object_of top_rows top_path d

-- the keys that an object of a kind knows
abbrev pub keys_for : Object → List (List ℕ)
keys_for Top = map (λ r. r.key) top_rows
keys_for Problem = map (λ r. r.key) (problem_rows [])
keys_for Matcher = map (λ r. r.key) (matcher_rows true)
keys_for Entry = map (λ r. r.key) entry_rows
