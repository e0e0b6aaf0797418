-- Rule 43: `range` goes over a slice, an array, a pointer to one, a text, a map, or a channel, which gives one part alone; there
-- are no more places than parts, and the parts fit them. What `:=` declares are names, distinct but for `_`.
use Rattle.std.specs.Prelude.{ℕ, Bool, true, ◌&&◌, List, [], ◌∷◌, length, nat_le, Option, Some, None, if◌then◌else◌}
use Rattle.argot_typed.specs.declared.shape.Dir.TheVariants.{Send}
use Rattle.argot_check_asking.specs.Rules.{Ask, AskAll, Say}
use Rattle.argot_check_types.specs.Types.{Ty, chars, pointer, array, slice, mapping, channel, int_type, rune_type, behind_pointer}
use Rattle.argot_check_types.specs.Facts.{Fact, value, ill, lost}
use Rattle.argot_check_rules.specs.Rows.{Row, Rule, Setting}
use Rattle.argot_check_rules.specs.Stages.{asks_under, asks_form}
use Rattle.argot_check_rules.specs.Calls.{plain_values}
use Rattle.argot_check_rules.specs.Structs.{are_distinct}
use Rattle.argot_check_rules.specs.Assignments.{Target, target_rows, done_if, asks_all_stored}
use Rattle.argot_check_rules.specs.Decl.{result_at, variable_or_lost}

-- the parts that a loop over such an operand gives, by its form and by what is behind it where it is a pointer
abbrev pub parts_of : Ty → Ty → Option (List Ty)
parts_of chars w = Some (int_type ∷ rune_type ∷ [])
parts_of (slice of) w = Some (int_type ∷ of ∷ [])
parts_of (array len of) w = Some (int_type ∷ of ∷ [])
parts_of (pointer to) (array len of) = Some (int_type ∷ of ∷ [])
parts_of (mapping key of) w = Some (key ∷ of ∷ [])
parts_of (channel Send of) w = None
parts_of (channel d of) w = Some (of ∷ [])
parts_of u w = None

abbrev pub asks_parts : Setting → Fact → (Option (List Ty) → Rule) → Rule
asks_parts s (value v) k = asks_form s v.of (λ u. asks_under s (behind_pointer u) (λ w. k (parts_of u w)))
asks_parts s f k = k None

-- the parts, if there are enough of them
abbrev pub enough : ℕ → Option (List Ty) → Option (List Ty)
enough n None = None
enough n (Some ts) = if nat_le n (length ts) then Some ts else None

-- without places, and with names that `:=` declares
abbrev pub range_done : Bool → Option (List Ty) → Fact
range_done b None = ill 43
range_done b (Some ts) = done_if b 43

abbrev pub range_rule : Setting → Row → Rule
range_rule s x = Ask x (λ f. asks_parts s f (λ ps. Say (range_done true ps)))

-- what stands before `:=`: a name, or another expression
abbrev pub define_range_by : Setting → ℕ → List (List ℕ) → List Row → List Fact → Rule
define_range_by s n names others (f ∷ fs) = asks_parts s f (λ ps. Say (range_done (are_distinct names && nat_le (length others) 0) (enough n ps)))
define_range_by s n names others fs = Say (ill 43)

-- so many expressions on the left: the names among them, and the rows of all others
abbrev pub define_range_rule : Setting → Row → ℕ → List (List ℕ) → List Row → Rule
define_range_rule s x n names others = AskAll (x ∷ others) (define_range_by s n names others)

abbrev pub range_stored : Setting → List Target → List Fact → Option (List Ty) → Rule
range_stored s ts places None = Say (ill 43)
range_stored s ts places (Some parts) = asks_all_stored s ts places (plain_values parts) (λ b. Say (done_if b 43))

abbrev pub assign_range_by : Setting → List Target → List Fact → Rule
assign_range_by s ts (f ∷ places) = asks_parts s f (λ ps. range_stored s ts places (enough (length ts) ps))
assign_range_by s ts fs = Say (ill 43)

abbrev pub assign_range_rule : Setting → Row → List Target → Rule
assign_range_rule s x ts = AskAll (x ∷ target_rows ts) (assign_range_by s ts)

-- a variable that `:=` declares for part number j
abbrev pub part_fact : ℕ → Option (List Ty) → Fact
part_fact j None = lost
part_fact j (Some ts) = variable_or_lost (result_at j ts)

abbrev pub range_name_rule : Setting → ℕ → Row → Rule
range_name_rule s j x = Ask x (λ f. asks_parts s f (λ ps. Say (part_fact j ps)))
