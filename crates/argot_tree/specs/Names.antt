-- Names and keywords (Go specification: Characters, Identifiers, Keywords).
use Rattle.std.specs.Prelude.{◌≡◌, ℕ, Bool, true, false, ◌||◌, ◌==◌, List, [], ◌∷◌, codes}
use Rattle.std.specs.List.{list_all}
use Rattle.ucd_category.specs.GeneralCategory.{general_category}
use Rattle.ucd_category.specs.declared.GeneralCategory.{GeneralCategory}
use Rattle.ucd_category.specs.declared.GeneralCategory.TheVariants.{UppercaseLetter, LowercaseLetter, TitlecaseLetter, ModifierLetter, OtherLetter, DecimalNumber}
use Rattle.argot_tree.specs.declared.keyword.Keyword.{Keyword}
use Rattle.argot_tree.specs.declared.keyword.Keyword.TheVariants.{Break, Case, Chan, Const, Continue, Default, Defer, Else, Fallthrough, For, Func, Go, Goto, If, Import, Interface, Map, Package, Range, Return, Select, Struct, Switch, TypeWord, Var}
use Rattle.argot_tree.specs.Characters.{AreCharacters}

-- the categories Lu, Ll, Lt, Lm and Lo
abbrev pub is_letter_category : GeneralCategory → Bool
is_letter_category UppercaseLetter = true
is_letter_category LowercaseLetter = true
is_letter_category TitlecaseLetter = true
is_letter_category ModifierLetter = true
is_letter_category OtherLetter = true
is_letter_category _ = false

-- the category Nd
abbrev pub is_digit_category : GeneralCategory → Bool
is_digit_category DecimalNumber = true
is_digit_category _ = false

-- a letter or `_`
abbrev pub is_letter : ℕ → Bool
is_letter c = c == 95 || is_letter_category (general_category c)

abbrev pub is_letter_or_digit : ℕ → Bool
is_letter_or_digit c = is_letter c || is_digit_category (general_category c)

-- the first character passes the one test, and the others pass the other
abbrev pub Begins : (ℕ → Bool) → (ℕ → Bool) → List ℕ → Type 0
Begins first others [] = ⊥
Begins first others (c ∷ cs) = (first c ≡ true) × (list_all others cs ≡ true)

-- a letter, and then letters and digits
abbrev pub IsIdentifier : List ℕ → Type 0
IsIdentifier bytes = (characters : List ℕ) × AreCharacters is_letter_or_digit characters bytes × Begins is_letter is_letter_or_digit characters

abbrev pub keyword_text : Keyword → List ℕ
keyword_text Break = codes "break"
keyword_text Case = codes "case"
keyword_text Chan = codes "chan"
keyword_text Const = codes "const"
keyword_text Continue = codes "continue"
keyword_text Default = codes "default"
keyword_text Defer = codes "defer"
keyword_text Else = codes "else"
keyword_text Fallthrough = codes "fallthrough"
keyword_text For = codes "for"
keyword_text Func = codes "func"
keyword_text Go = codes "go"
keyword_text Goto = codes "goto"
keyword_text If = codes "if"
keyword_text Import = codes "import"
keyword_text Interface = codes "interface"
keyword_text Map = codes "map"
keyword_text Package = codes "package"
keyword_text Range = codes "range"
keyword_text Return = codes "return"
keyword_text Select = codes "select"
keyword_text Struct = codes "struct"
keyword_text Switch = codes "switch"
keyword_text TypeWord = codes "type"
keyword_text Var = codes "var"

-- an identifier that is no keyword
pub record IsName (bytes : List ℕ) : Type 0 where
  pub identifier : IsIdentifier bytes
  pub free : (word : Keyword) → bytes ≡ keyword_text word → ⊥
