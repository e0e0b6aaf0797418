-- The tree of a program of the first form, and its text: one case for each production of the grammar.
-- Each text is given together with the text that follows it.
use Rattle.std.specs.Prelude.{ℕ, zero, suc, List, [], ◌∷◌, ◌++◌, codes}

-- a value: a variable, a text in quotes, or a call with its arguments
mutual
  pub data Value : Type 0 where
    Variable : List ℕ → Value
    Quoted : List ℕ → Value
    Called : List ℕ → Values → Value

  pub data Values : Type 0 where
    no_value : Values
    beside : Value → Values → Values

-- what a function gives back: one of its parameters, or a text in quotes
pub data Atom : Type 0 where
  Parameter : List ℕ → Atom
  Fixed : List ℕ → Atom

-- what stands before main: a blank line, a function with a result, or one without
pub data Item : Type 0 where
  Blank : Item
  Func : List ℕ → List (List ℕ) → Atom → Item
  Void : List ℕ → List (List ℕ) → Item

pub data Statement : Type 0 where
  Define : List ℕ → Value → Statement
  Assign : List ℕ → Value → Statement
  Do : List ℕ → Values → Statement

-- a file: what stands before main, main's statements, and the blank lines behind it
pub record File : Type 0 where
  pub items : List Item
  pub body : List Statement
  pub blanks : ℕ

abbrev mutual
  pub value_text : Value → List ℕ → List ℕ
  value_text (Variable n) rest = n ++ rest
  value_text (Quoted t) rest = 34 ∷ (t ++ (34 ∷ rest))
  value_text (Called f vs) rest = f ++ (40 ∷ values_text vs (41 ∷ rest))

  -- values with a comma and a space between
  pub values_text : Values → List ℕ → List ℕ
  values_text no_value rest = rest
  values_text (beside v vs) rest = value_text v (more_text vs rest)

  pub more_text : Values → List ℕ → List ℕ
  more_text no_value rest = rest
  more_text (beside v vs) rest = codes ", " ++ value_text v (more_text vs rest)

abbrev pub atom_text : Atom → List ℕ → List ℕ
atom_text (Parameter n) rest = n ++ rest
atom_text (Fixed t) rest = 34 ∷ (t ++ (34 ∷ rest))

abbrev pub more_parameters_text : List (List ℕ) → List ℕ → List ℕ
more_parameters_text [] rest = rest
more_parameters_text (p ∷ ps) rest = codes ", " ++ (p ++ (codes " string" ++ more_parameters_text ps rest))

-- parameters with a comma and a space between
abbrev pub parameters_text : List (List ℕ) → List ℕ → List ℕ
parameters_text [] rest = rest
parameters_text (p ∷ ps) rest = p ++ (codes " string" ++ more_parameters_text ps rest)

-- a newline is 10
abbrev pub item_text : Item → List ℕ → List ℕ
item_text Blank rest = 10 ∷ rest
item_text (Func f ps a) rest = codes "func " ++ (f ++ (40 ∷ parameters_text ps (codes ") string { return " ++ atom_text a (codes " }" ++ (10 ∷ rest)))))
item_text (Void f ps) rest = codes "func " ++ (f ++ (40 ∷ parameters_text ps (codes ") {}" ++ (10 ∷ rest))))

abbrev pub items_text : List Item → List ℕ → List ℕ
items_text [] rest = rest
items_text (x ∷ xs) rest = item_text x (items_text xs rest)

abbrev pub statement_text : Statement → List ℕ → List ℕ
statement_text (Define n v) rest = n ++ (codes " := " ++ value_text v rest)
statement_text (Assign n v) rest = n ++ (codes " = " ++ value_text v rest)
statement_text (Do f vs) rest = value_text (Called f vs) rest

-- each statement stands on a line of its own behind a tab
abbrev pub body_text : List Statement → List ℕ → List ℕ
body_text [] rest = rest
body_text (x ∷ xs) rest = 9 ∷ statement_text x (10 ∷ body_text xs rest)

abbrev pub blanks_text : ℕ → List ℕ
blanks_text zero = []
blanks_text (suc n) = 10 ∷ blanks_text n

abbrev pub main_text : List Statement → ℕ → List ℕ
main_text body blanks = codes "func main() {" ++ (10 ∷ body_text body (codes "}" ++ (10 ∷ blanks_text blanks)))

abbrev pub text_of : File → List ℕ
text_of file = codes "package main" ++ (10 ∷ items_text file.items (main_text file.body file.blanks))
