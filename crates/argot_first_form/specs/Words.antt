-- That the names of a tree are names and its texts may stand in quotes.
use Rattle.std.specs.Prelude.{◌≡◌, ℕ, List, [], ◌∷◌, true}
use Rattle.std.specs.List.{list_all}
use Rattle.argot_first_form.specs.Bytes.{is_name, is_quotable}
use Rattle.argot_first_form.specs.Tree.{Value, Variable, Quoted, Called, Values, no_value, beside, Atom, Parameter, Fixed, Item, Blank, Func, Void, Statement, Define, Assign, Do, File}

-- a letter followed by letters and digits that is no keyword, no predeclared name, not `main` and not `init`
abbrev pub IsName : List ℕ → Type 0
IsName n = is_name n ≡ true

-- letters, digits and spaces alone
abbrev pub IsQuotable : List ℕ → Type 0
IsQuotable t = list_all is_quotable t ≡ true

abbrev mutual
  pub HasWords : Value → Type 0
  HasWords (Variable n) = IsName n
  HasWords (Quoted t) = IsQuotable t
  HasWords (Called f vs) = IsName f × HaveWords vs

  pub HaveWords : Values → Type 0
  HaveWords no_value = Unit {0}
  HaveWords (beside v vs) = HasWords v × HaveWords vs

abbrev pub StatementWords : Statement → Type 0
StatementWords (Define n v) = IsName n × HasWords v
StatementWords (Assign n v) = IsName n × HasWords v
StatementWords (Do f vs) = IsName f × HaveWords vs

abbrev pub BodyWords : List Statement → Type 0
BodyWords [] = Unit {0}
BodyWords (x ∷ xs) = StatementWords x × BodyWords xs

abbrev pub AllNames : List (List ℕ) → Type 0
AllNames [] = Unit {0}
AllNames (n ∷ ns) = IsName n × AllNames ns

abbrev pub AtomWords : Atom → Type 0
AtomWords (Parameter n) = IsName n
AtomWords (Fixed t) = IsQuotable t

abbrev pub ItemWords : Item → Type 0
ItemWords Blank = Unit {0}
ItemWords (Func f ps a) = IsName f × AllNames ps × AtomWords a
ItemWords (Void f ps) = IsName f × AllNames ps

abbrev pub ItemsWords : List Item → Type 0
ItemsWords [] = Unit {0}
ItemsWords (x ∷ xs) = ItemWords x × ItemsWords xs

pub record FileWords (file : File) : Type 0 where
  pub before : ItemsWords file.items
  pub inside : BodyWords file.body
