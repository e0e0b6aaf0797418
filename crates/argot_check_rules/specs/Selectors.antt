-- Selectors. Rule 6: a member of a package, or the one field or method of that name, other than `_`, at the least depth; a
-- method with a pointer receiver is selected of what has a place, or through a pointer.
use Rattle.std.specs.Prelude.{ℕ, Bool, not, ◌||◌, List, [], Option, Some, None, if◌then◌else◌, codes}
use Rattle.argot_check_asking.specs.Rules.{Ask, Say}
use Rattle.argot_check_types.specs.Types.{Ty, is_untyped}
use Rattle.argot_check_types.specs.Identity.{same_text}
use Rattle.argot_check_types.specs.Facts.{Value, Way, Plain, Place, Fact, value, ill, type_in, is_place}
use Rattle.argot_check_types.specs.Known.{Method}
use Rattle.argot_check_types.specs.Members.{Member, a_field, a_method, an_interface_method, Found, selected}
use Rattle.argot_check_rules.specs.Rows.{Row, Rule, Setting}
use Rattle.argot_check_rules.specs.Stages.{asks_embedded, known_by}
use Rattle.argot_check_rules.specs.Names.{Stands, Meaning, meaning_rule}

-- `p.x` where p is a package
abbrev pub member_rule : Row → Stands → Meaning → Rule
member_rule qualifier stands meaning = Ask qualifier (λ f. meaning_rule stands 6 meaning)

-- a field has a place where its value has one, or a pointer was gone through
abbrev pub field_way : Bool → Way → Way
field_way through way = if through || is_place way then Place else Plain

abbrev pub selected_value : Ty → Way → Value → Fact
selected_value t way v = value (record { of = t; constant = None; way = way; busy = v.busy })

abbrev pub can_receive : Method → Bool → Way → Bool
can_receive m through way = not m.pointer || (through || is_place way)

abbrev pub select_member : Setting → Value → Bool → Member → Rule
select_member s v through (a_field of) = Say (selected_value of (field_way through v.way) v)
select_member s v through (an_interface_method of holder) = Say (selected_value of Plain v)
select_member s v through (a_method m holder) =
    Ask (s.signature m.node) (λ f. Say (if can_receive m through v.way then selected_value (type_in f) Plain v else ill 6))

abbrev pub select_found : Setting → Value → Option Found → Rule
select_found s v None = Say (ill 6)
select_found s v (Some f) = select_member s v f.through f.member

abbrev pub select_in : Setting → List ℕ → Value → Rule
select_in s name v =
    if is_untyped v.of || same_text name (codes "_") then Say (ill 6)
    else asks_embedded s v.of (λ us. select_found s v (selected (known_by s us []) (record { name = name; home = s.home }) v.of))

abbrev pub select_by : Setting → List ℕ → Fact → Rule
select_by s name (value v) = select_in s name v
select_by s name f = Say (ill 6)

abbrev pub selector_rule : Setting → Row → List ℕ → Rule
selector_rule s x name = Ask x (select_by s name)
