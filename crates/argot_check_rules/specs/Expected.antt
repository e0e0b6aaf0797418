-- What a composite literal's elements in braces expect: the type of the literal, also where it isn't written.
use Rattle.std.specs.Prelude.{Option, Some, None}
use Rattle.argot_check_asking.specs.Rules.{Ask}
use Rattle.argot_check_types.specs.Types.{Ty}
use Rattle.argot_check_types.specs.Facts.{Fact, expects, type_in}
use Rattle.argot_check_rules.specs.Rows.{Row, Rule, Setting}
use Rattle.argot_check_rules.specs.Stages.{asks_under, asks_behind}

-- where the type comes from
pub data Source : Type 0 where
  -- it is written before the braces
  Written : Row → Source
  -- the type of the elements is, behind `[...]`
  OpenArray : Row → Source
  -- it is that of a key or of a value of an item, whose row says what is expected there
  OfKey : Row → Source
  OfValue : Row → Source

pub data Form : Type 0 where
  -- no type is expected
  NoForm : Form
  -- an array of these elements, as long as it has to be
  OpenForm : (of : Ty) → Form
  -- a type, and what is under it, or behind it where it is a pointer and isn't written
  ClosedForm : (of under : Ty) → Form

abbrev pub key_expected : Fact → Option Ty
key_expected (expects k v) = k
key_expected _ = None

abbrev pub value_expected : Fact → Option Ty
value_expected (expects k v) = v
value_expected _ = None

abbrev pub asks_elided : Setting → Option Ty → (Form → Rule) → Rule
asks_elided s None k = k NoForm
asks_elided s (Some t) k = asks_behind s t (λ u w. k (ClosedForm t w))

-- goes on with the literal's type
abbrev pub asks_expected : Setting → Source → (Form → Rule) → Rule
asks_expected s (Written row) k = Ask row (λ f. asks_under s (type_in f) (λ u. k (ClosedForm (type_in f) u)))
asks_expected s (OpenArray row) k = Ask row (λ f. k (OpenForm (type_in f)))
asks_expected s (OfKey row) k = Ask row (λ f. asks_elided s (key_expected f) k)
asks_expected s (OfValue row) k = Ask row (λ f. asks_elided s (value_expected f) k)
