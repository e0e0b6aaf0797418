-- Calls of built-in functions.
use Rattle.std.specs.Prelude.{ℕ, Bool, true, false, ◌||◌, List, [], ◌∷◌, codes, bytes_eq, if◌then◌else◌}
use Rattle.argot_plain.specs.declared.instructions.Callee.TheVariants.{Static}
use Rattle.argot_plain.specs.declared.instructions.Kind.TheVariants.{Op, Move, Grow, Call, Goto, Panic}
use Rattle.argot_text.specs.declared.path.PathStep.TheVariants.{Element}
use Rattle.argot_text.specs.declared.position.Pos.{Pos}
use Rattle.argot_lower_scripts.specs.Script.{Leaves, SiteOf, Script, take, now, until, site, note, Called}
use Rattle.argot_lower_scripts.specs.Words.{scalar, nothing, answer, does, one, new, load_at, put_at, or_at, value, values}
use Rattle.argot_lower_locals.specs.Typed.{Typed}
use Rattle.argot_lower_locals.specs.Nodes.{at, strip}
use Rattle.argot_lower_locals.specs.Types.{type_at, leaves, value_type, value_form, element_of, key_of, is_text, slice_of_any}
use Rattle.argot_lower_rows.specs.Sites.{variable_site, parts_site}
use Rattle.argot_lower_rows.specs.Conversions.{AsType, AsAny, value_as, values_as, print_name, println_name}
use Rattle.argot_lower_rows.specs.Calls.{variadic_part}

-- r := Grow a items
abbrev pub grown : Pos → SiteOf → ℕ → ℕ → List ℕ → Script → Script
grown p s r a items c = site s (λ _. does p (Grow r a items) c)

-- L: Branch next end; q := Step a []; v := Read q; ..; Goto L; end:
abbrev pub each_element : Pos → Leaves → ℕ → (ℕ → Script → Script) → Script → Script
each_element p ls a turn c = now (λ top. until (λ end. or_at p end (load_at p ls a Element (λ v. turn v (does p (Goto top) nothing)))) (λ _. c))

-- append(s, x..): a = value s; the items as elements; r := Grow a [..]
abbrev pub append_row : Typed → ℕ → ℕ → List ℕ → Script
append_row t n s items =
    value s (λ a.
    values_as t (AsType (element_of (value_form t n))) items (λ rs.
    take scalar (λ r.
    grown (at t n) (parts_site t (value_type t n)) r a rs (
    answer r))))

-- append(s, x...): r := Move a, and the elements one by one; of a text o := Op [b], r := Grow a [o]
abbrev pub append_all_row : Typed → ℕ → ℕ → ℕ → Script
append_all_row t n s x =
    value s (λ a.
    value x (λ b.
    if is_text (value_form t x) then one (at t n) (λ o. Op o (b ∷ [])) (λ o. take scalar (λ r. grown (at t n) (parts_site t (value_type t n)) r a (o ∷ []) (answer r)))
    else one (at t n) (λ r. Move r a []) (λ r.
    each_element (at t n) (leaves t (element_of (value_form t n))) b (λ v c. grown (at t n) (parts_site t (value_type t n)) r r (v ∷ []) c) (
    answer r))))

-- the elements of b into a, or of the text b; r := Op []
abbrev pub copied : Pos → Leaves → Bool → ℕ → ℕ → (ℕ → Script) → Script
copied p ls text a b k =
    if text then one p (λ o. Op o (b ∷ [])) (λ o. put_at p a Element o (one p (λ r. Op r []) k))
    else each_element p ls b (λ v c. put_at p a Element v c) (one p (λ r. Op r []) k)

-- copy(d, s)
abbrev pub copy_row : Typed → ℕ → ℕ → ℕ → Script
copy_row t n d s = value d (λ a. value s (λ b. copied (at t n) (leaves t (element_of (value_form t d))) (is_text (value_form t s)) a b answer))

-- delete(m, k): the operands alone
abbrev pub delete_row : Typed → ℕ → ℕ → Script
delete_row t m k = value m (λ _. value_as t k (AsType (key_of (value_form t m))) (λ _. nothing))

-- clear(x), close(x): the operand alone
abbrev pub operand_row : ℕ → Script
operand_row x = value x (λ _. nothing)

-- len, cap, min, max: r := Op [all of them]
abbrev pub computed_row : Pos → List ℕ → Script
computed_row p args = values args (λ rs. one p (λ r. Op r rs) answer)

-- make(T, n..): the sizes; r := New
abbrev pub make_row : Typed → ℕ → List ℕ → Script
make_row t n sizes = values sizes (λ _. new (at t n) (parts_site t (value_type t n)) answer)

-- new(T): r := New
abbrev pub new_row : Typed → ℕ → ℕ → Script
new_row t n x = new (at t n) (variable_site t (type_at t (strip t x))) answer

-- panic(e): a = value e; Panic a
abbrev pub panic_row : Pos → ℕ → Script
panic_row p x = value x (λ a. does p (Panic a) nothing)

-- print(..), println(..): each argument as `any`, the variadic part, and the Call
abbrev pub printed : Typed → Pos → ℕ → List ℕ → Script → Script
printed t p name items c = variadic_part t p (slice_of_any t) items (λ v. note (Called name) (does p (Call [] (Static name) (v ∷ [])) c))

abbrev pub print_row : Typed → Pos → ℕ → List ℕ → Script
print_row t p name args = values_as t AsAny args (λ rs. printed t p name rs nothing)

-- whether a name is one of these
abbrev pub is_name_of : List ℕ → List ℕ → Bool
is_name_of name word = bytes_eq name word

abbrev pub computes : List ℕ → Bool
computes name = is_name_of name (codes "len") || (is_name_of name (codes "cap") || (is_name_of name (codes "min") || is_name_of name (codes "max")))

-- with any number of arguments
abbrev pub any_row : Typed → ℕ → List ℕ → List ℕ → Script
any_row t n name args =
    if computes name then computed_row (at t n) args
    else (if is_name_of name (codes "print") then print_row t (at t n) (print_name t) args
    else (if is_name_of name (codes "println") then print_row t (at t n) (println_name t) args
    else nothing))

-- with a first argument, not spread
abbrev pub first_row : Typed → ℕ → List ℕ → ℕ → List ℕ → Script
first_row t n name x args =
    if is_name_of name (codes "append") then append_row t n x args
    else (if is_name_of name (codes "make") then make_row t n args
    else (if is_name_of name (codes "new") then new_row t n x
    else (if is_name_of name (codes "panic") then panic_row (at t n) x
    else (if is_name_of name (codes "clear") || is_name_of name (codes "close") then operand_row x
    else any_row t n name (x ∷ args)))))

-- with two arguments, not spread
abbrev pub second_row : Typed → ℕ → List ℕ → ℕ → ℕ → Script
second_row t n name x y =
    if is_name_of name (codes "copy") then copy_row t n x y
    else (if is_name_of name (codes "delete") then delete_row t x y
    else first_row t n name x (y ∷ []))

-- a call of the built-in function of this name; of a spread one the last argument has `...` behind it
abbrev pub built_in_row : Typed → ℕ → List ℕ → List ℕ → Bool → Script
built_in_row t n name (x ∷ y ∷ []) true = append_all_row t n x y
built_in_row t n name (x ∷ y ∷ []) false = second_row t n name x y
built_in_row t n name (x ∷ args) spread = first_row t n name x args
built_in_row t n name [] spread = any_row t n name []
