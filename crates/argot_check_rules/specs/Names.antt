-- Names. Rule 1: a name in the place of a value is that of a constant, a variable, a function or `nil`, and isn't `_`.
use Rattle.std.specs.Prelude.{ℕ, Option, Some, None, pos}
use Rattle.argot_consts.specs.declared.constants.Const.TheVariants.{Whole, Truth}
use Rattle.argot_check_asking.specs.Rules.{Ask, Say, Silent}
use Rattle.argot_check_types.specs.Types.{bool, int, Ty, named, structure, untyped}
use Rattle.argot_check_types.specs.Facts.{BuiltIn, Fact, value, no_value, kind, built_in, package_name, done, ill, constant_value}
use Rattle.argot_check_rules.specs.Rows.{Row, Rule, Setting}
use Rattle.argot_check_rules.specs.Expected.{Source, Form, ClosedForm, asks_expected}

-- where an expression stands, and what it may be there
pub data Stands : Type 0 where
  -- a value
  AsValue : Stands
  -- a value or a type
  AsEither : Stands
  -- a value, a type or a built-in function: what is called
  AsCallee : Stands
  -- a package: the name before a dot behind which one of its members is named
  AsQualifier : Stands

-- what a lone name stands for
pub data Meaning : Type 0 where
  -- a variable, a constant or a function, by the row of the name that is declared
  Declared : Row → Meaning
  -- a type that is declared without `=`, a predeclared one, and one that is declared with `=`, by its specification
  DeclaredType : (decl : ℕ) → Meaning
  PredeclaredType : Ty → Meaning
  AliasType : Row → Meaning
  -- `true` and `false`
  TruthName : Meaning
  -- `iota`, with its number where it stands in a list of constants
  IotaName : Option ℕ → Meaning
  NilName : Meaning
  BuiltInName : BuiltIn → Meaning
  PackageName : Meaning
  -- `_`, or a name for which nothing is declared
  NoMeaning : Meaning
  -- what argot leaves out by name
  LeftOut : Meaning

-- a type where it may stand, and ill by the rule where only a value may
abbrev pub kind_at : Stands → ℕ → Fact → Fact
kind_at AsValue rule (kind t) = ill rule
kind_at stands rule f = f

abbrev pub built_in_at : Stands → ℕ → BuiltIn → Fact
built_in_at AsCallee rule b = built_in b
built_in_at stands rule b = ill rule

abbrev pub package_at : Stands → ℕ → Fact
package_at AsQualifier rule = package_name
package_at stands rule = ill rule

-- what the meaning says of a name that stands there, ill by that rule where it may not
abbrev pub meaning_rule : Stands → ℕ → Meaning → Rule
meaning_rule stands rule (Declared row) = Ask row (λ f. Say f)
meaning_rule stands rule (DeclaredType d) = Say (kind_at stands rule (kind (named d)))
meaning_rule stands rule (PredeclaredType t) = Say (kind_at stands rule (kind t))
meaning_rule stands rule (AliasType spec) = Ask spec (λ f. Say (kind_at stands rule f))
meaning_rule stands rule TruthName = Say (value (constant_value (untyped bool) Truth))
meaning_rule stands rule (IotaName (Some k)) = Say (value (constant_value (untyped int) (Whole (pos k))))
meaning_rule stands rule (IotaName None) = Say (ill rule)
meaning_rule stands rule NilName = Say no_value
meaning_rule stands rule (BuiltInName b) = Say (built_in_at stands rule b)
meaning_rule stands rule PackageName = Say (package_at stands rule)
meaning_rule stands rule NoMeaning = Say (ill rule)
meaning_rule stands rule LeftOut = Silent

-- a lone name
abbrev pub name_rule : Stands → Meaning → Rule
name_rule stands meaning = meaning_rule stands 1 meaning

-- as the key of an item it names a field where the literal is a struct
abbrev pub key_by : Form → Stands → Meaning → Rule
key_by (ClosedForm t (structure fields)) stands m = Say done
key_by form stands m = name_rule stands m

abbrev pub key_rule : Setting → Source → Stands → Meaning → Rule
key_rule s source stands meaning = asks_expected s source (λ form. key_by form stands meaning)
