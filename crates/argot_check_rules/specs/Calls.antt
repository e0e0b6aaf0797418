-- Calls. Rule 10: what is called is a function, and the arguments are as many as its parameters and fit them; behind `...` the last
-- one fits the slice of a variadic function, and one call of several results may be all arguments. A call of a type is a
-- conversion (rule 11), one of a built-in function is rule 12's.
use Rattle.std.specs.Prelude.{Bool, true, false, ◌&&◌, List, [], ◌∷◌, Option, Some, None, if◌then◌else◌}
use Rattle.argot_check_asking.specs.Rules.{AskAll, Say}
use Rattle.argot_check_types.specs.Types.{Ty, slice, function, nothing, types_in}
use Rattle.argot_check_types.specs.Facts.{Plain, Fact, value, results, kind, built_in, ill, plain, is_operand}
use Rattle.argot_check_rules.specs.Rows.{Row, Rule, Setting}
use Rattle.argot_check_rules.specs.Stages.{Pair, asks_under, asks_all_fit}
use Rattle.argot_check_rules.specs.Conversions.{convert}
use Rattle.argot_check_rules.specs.BuiltIns.{built_in_call}

abbrev pub plain_values : List Ty → List Fact
plain_values [] = []
plain_values (t ∷ ts) = value (plain t) ∷ plain_values ts

-- the results of one call, where they are two or more
abbrev pub several : List Ty → Option (List Fact)
several (t ∷ u ∷ ts) = Some (plain_values (t ∷ u ∷ ts))
several _ = None

-- the arguments that one call hands over by its results
abbrev pub handed_over : List Fact → List Fact
handed_over (results ts ∷ []) = elim (several ts) [ None ↦ results ts ∷ [] | Some fs ↦ fs ]
handed_over fs = fs

abbrev pub arguments : Bool → List Fact → List Fact
arguments spread fs = if spread then fs else handed_over fs

abbrev pub are_operands : List Fact → Bool
are_operands [] = true
are_operands (f ∷ fs) = is_operand f && are_operands fs

-- each argument with the type of its parameter, if there are as many
abbrev pub paired : List Fact → List Ty → Option (List Pair)
paired [] [] = Some []
paired (f ∷ fs) (t ∷ ts) = elim (paired fs ts) [ None ↦ None | Some ps ↦ Some (record { it = f; of = t } ∷ ps) ]
paired _ _ = None

-- of a variadic function: the arguments from its last parameter on fit that one's elements
abbrev pub element_of : Ty → Ty
element_of (slice t) = t
element_of t = nothing

abbrev pub all_paired : List Fact → Ty → List Pair
all_paired [] t = []
all_paired (f ∷ fs) t = record { it = f; of = t } ∷ all_paired fs t

abbrev pub spread_pairs : List Fact → List Ty → Option (List Pair)
spread_pairs fs [] = None
spread_pairs fs (t ∷ []) = Some (all_paired fs (element_of t))
spread_pairs [] (t ∷ u ∷ ts) = None
spread_pairs (f ∷ fs) (t ∷ u ∷ ts) = elim (spread_pairs fs (u ∷ ts)) [ None ↦ None | Some ps ↦ Some (record { it = f; of = t } ∷ ps) ]

-- the pairs of a call: `...` is for variadic functions alone
abbrev pub call_pairs : (variadic spread : Bool) → List Fact → List Ty → Option (List Pair)
call_pairs true true fs ts = paired fs ts
call_pairs true false fs ts = spread_pairs fs ts
call_pairs false true fs ts = None
call_pairs false false fs ts = paired fs ts

-- what a call of such a function says
abbrev pub result_fact : List Ty → Fact
result_fact (t ∷ []) = value (record { of = t; constant = None; way = Plain; busy = true })
result_fact ts = results ts

abbrev pub call_fitting : Setting → Ty → Option (List Pair) → Rule
call_fitting s rs None = Say (ill 10)
call_fitting s rs (Some ps) = asks_all_fit s ps (λ b. Say (if b then result_fact (types_in rs) else ill 10))

abbrev pub call_of : Setting → Bool → List Fact → Ty → Rule
call_of s spread fs (function ps rs variadic) =
    if are_operands (arguments spread fs) then call_fitting s rs (call_pairs variadic spread (arguments spread fs) (types_in ps)) else Say (ill 10)
call_of s spread fs u = Say (ill 10)

-- a type that is called converts its one argument
abbrev pub converting : Setting → Bool → List Fact → Ty → Rule
converting s false (f ∷ []) t = convert s f t
converting s spread fs t = Say (ill 11)

-- by what is called
abbrev pub call_by : Setting → Bool → List Fact → Rule
call_by s spread (value v ∷ fs) = asks_under s v.of (call_of s spread fs)
call_by s spread (kind t ∷ fs) = converting s spread fs t
call_by s spread (built_in b ∷ fs) = built_in_call s b spread fs
call_by s spread fs = Say (ill 10)

-- a call: what is called, the arguments, and whether `...` follows them
abbrev pub call_rule : Setting → Bool → Row → List Row → Rule
call_rule s spread callee args = AskAll (callee ∷ args) (call_by s spread)
