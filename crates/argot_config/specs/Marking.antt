-- What is known while the matchers are gone through one by one: marks of functions, and the first named tag of each place.
use Rattle.std.specs.Prelude.{◌≡◌, ◌<◌, ◌≤◌, ◌||◌, ℕ, List, Bool, true, false, Some, AllPairs, length, slice_get}
use Rattle.argot_plain.specs.Code.{Code, IsFunction}
use Rattle.argot_plain.specs.Lists.{In}
use Rattle.argot_plain.specs.WellFormed.{IsReadOrMove}
use Rattle.argot_plain.specs.declared.functions.Function.{Function}
use Rattle.argot_plain.specs.declared.instructions.Instr.{Instr}
use Rattle.argot_plain.specs.declared.instructions.Tag.{Tag}
use Rattle.argot_config_read.specs.declared.config.Matcher.{Matcher}
use Rattle.argot_config.specs.Asking.{printed}
use Rattle.argot_config.specs.Matching.{names_function, names_tag, name_function, name_tag}

-- all items of Q whose numbers are below n, ascending
pub record Gathers {A : Type 0} (number : A → ℕ) (Q : A → Type 0) (n : ℕ) (found : List A) : Type 0 where
  pub ascending : AllPairs (λ x y. number x < number y) found
  pub below : (x : A) → In x found → number x < n
  pub only : (x : A) → In x found → Q x
  pub all : (x : A) → number x < n → Q x → In x found

abbrev pub IsMarked : List Bool → ℕ → Type 0
IsMarked marks g = slice_get marks g ≡ Some true

-- the mark of each function says whether one of the matchers names it
pub record AreMarks (p : Code) (ms : List Matcher) (marks : List Bool) : Type 0 where
  pub count : length marks ≡ length p.functions
  pub each : (g : ℕ) (fn : Function) → IsFunction p g fn → slice_get marks g ≡ Some (name_function ms fn.ident)

-- the functions that the matcher names are marked besides
pub record MarksMore (p : Code) (m : Matcher) (old new : List Bool) : Type 0 where
  pub count : length new ≡ length old
  pub each : (g : ℕ) (fn : Function) (b : Bool) → IsFunction p g fn → slice_get old g ≡ Some b → slice_get new g ≡ Some (b || names_function fn.ident m)

-- n is the number of the first tag that the matchers name, or else of all tags
pub record IsFirst (ms : List Matcher) (tags : List Tag) (n : ℕ) : Type 0 where
  pub within : n ≤ length tags
  pub earlier : (k : ℕ) (t : Tag) → k < n → slice_get tags k ≡ Some t → name_tag ms t ≡ false
  pub here : (t : Tag) → slice_get tags n ≡ Some t → name_tag ms t ≡ true

-- each place has a number, at most that of its tags
pub record AreCounted (p : Code) (firsts : List ℕ) : Type 0 where
  pub count : length firsts ≡ length p.instrs
  pub each : (i n : ℕ) (x : Instr) → slice_get p.instrs i ≡ Some x → slice_get firsts i ≡ Some n → n ≤ length x.tags

pub record AreFirsts (p : Code) (ms : List Matcher) (firsts : List ℕ) : Type 0 where
  pub count : length firsts ≡ length p.instrs
  pub each : (i n : ℕ) (x : Instr) → slice_get p.instrs i ≡ Some x → slice_get firsts i ≡ Some n → IsFirst ms x.tags n

-- b is the number of the first tag before a that the matcher names, or else a
pub record IsLower (m : Matcher) (tags : List Tag) (a b : ℕ) : Type 0 where
  pub least : b ≤ a
  pub earlier : (k : ℕ) (t : Tag) → k < b → slice_get tags k ≡ Some t → names_tag t m ≡ false
  pub here : (t : Tag) → b < a → slice_get tags b ≡ Some t → names_tag t m ≡ true

pub record FirstsFall (p : Code) (m : Matcher) (old new : List ℕ) : Type 0 where
  pub count : length new ≡ length old
  pub each : (i a b : ℕ) (x : Instr) → slice_get p.instrs i ≡ Some x → slice_get old i ≡ Some a → slice_get new i ≡ Some b → IsLower m x.tags a b

-- a Read or Move whose number is that of a tag, with the tag's printed name
pub record IsListed (p : Code) (firsts : List ℕ) (found : ℕ × List ℕ) : Type 0 where
  pub instr : Instr
  pub is : slice_get p.instrs found.0 ≡ Some instr
  pub kind : IsReadOrMove instr.kind
  pub first : ℕ
  pub at : slice_get firsts found.0 ≡ Some first
  pub tag : Tag
  pub is_tag : slice_get instr.tags first ≡ Some tag
  pub same_name : found.1 ≡ printed tag
