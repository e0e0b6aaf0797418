-- The rules of a place by those definitions alone that reach it.
use Rattle.std.proofs.Common.{Bool, get_or, true, false, ⊎_elim, add-zero, add-suc, ◌≡◌, ℕ, zero, suc, ◌+◌, ◌-◌, ◌<◌, ◌≤◌, List, [], ◌∷◌, ◌++◌, Some, None, arith, sym, ap, refl, length, take, drop, eqb-true, ◌∙◌}
use Rattle.std.specs.Prelude.{Option, slice_get, ◌==◌, ◌&&◌, if◌then◌else◌}
use Rattle.std.specs.List.{All, AllAdjacentBelow, IsAllAdjacentAnswer}
use Rattle.std.specs.Cmp.{nat_cmp_is}
use Rattle.std.specs.declared.cmp.Ordering.TheVariants.{Less, Equal}
use Rattle.std.proofs.lemmas.List.{get_or-take, get_or-drop, length-take}
use Rattle.std.specs.List.Sorted.{IsNonDecreasingBy, IsPartitionPoint}
use Rattle.std.specs.Ordering.{is_some_and, is_le, nat_cmp}
use Rattle.std.proofs.lemmas.Option.{slice_get_within, get_or_from_slice_get}
use Rattle.std.proofs.lemmas.Bool.{false_from_ne_true, ltb-true, ltb-false, leb-true, leb-false, cases_lt}
use Rattle.std.proofs.lemmas.List.Sorted.{IsNonDecreasingBy-from_all_adjacent}
use Rattle.std.proofs.lemmas.Map.Keys.{le_from_is_le}
use Rattle.std.proofs.Math.Dec.{leb, ltb}
use Rattle.argot_plain.specs.Code.{Code, handed_values}
use Rattle.argot_plain.specs.declared.instructions.Callee.{Callee}
use Rattle.argot_plain.specs.declared.functions.Function.{Function}
use Rattle.argot_plain.specs.declared.instructions.Kind.{Kind}
use Rattle.argot_plain.specs.declared.instructions.Kind.TheVariants as kinds
use Rattle.argot_facts.specs.Numbers.{node, leaves_of, own_site, shape_at}
use Rattle.argot_facts.specs.declared.nodes.Node.{Node}
use Rattle.argot_text.specs.declared.path.PathStep.{PathStep}
use Rattle.argot_points_rules.specs.Column.{definitions, definitions_at, register_copies, item_copies, join_copies, part_copies, value_copies, value_loads, move_copies, shifts, keeps, grow_rules, hand_rules, kind_rules, reference}
use Rattle.argot_points_rules.specs.Stretches.{reached, AreEnough}

-- one of another place adds nothing
miss : (p : Code) (fn : Function) (i r : ℕ) (x : ℕ × ℕ × ℕ) (ds : List (ℕ × ℕ × ℕ)) → (x.1 ≡ i → ⊥) → definitions p fn i r (x ∷ ds) ≡ definitions p fn i r ds
miss p fn i r x ds h = ap (λ b. (if b && x.2 == r then definitions_at p fn r x.0 else []) ++ definitions p fn i r ds) (false_from_ne_true (x.1 == i) (λ e. h (eqb-true x.1 i e)))

-- of none of another place there is nothing
none : (p : Code) (fn : Function) (i r : ℕ) (ds : List (ℕ × ℕ × ℕ)) → ((n : ℕ) (d : ℕ × ℕ × ℕ) → slice_get ds n ≡ Some d → d.1 ≡ i → ⊥) → definitions p fn i r ds ≡ []
none p fn i r [] h = refl
none p fn i r (x ∷ ds) h = miss p fn i r x ds (h zero x refl) ∙ none p fn i r ds (λ n d e. h (suc n) d e)

-- what stands in front and is of other places can go
front : (p : Code) (fn : Function) (i r a : ℕ) (ds : List (ℕ × ℕ × ℕ)) → ((n : ℕ) (d : ℕ × ℕ × ℕ) → slice_get ds n ≡ Some d → n < a → d.1 ≡ i → ⊥) → definitions p fn i r (drop a ds) ≡ definitions p fn i r ds
front p fn i r zero ds h = refl
front p fn i r (suc a) [] h = refl
front p fn i r (suc a) (x ∷ ds) h = front p fn i r a ds (λ n d e l. h (suc n) d e (omega (arith, l))) ∙ sym (miss p fn i r x ds (h zero x refl (omega arith)))

-- and so can what stands behind
back : (p : Code) (fn : Function) (i r a : ℕ) (ds : List (ℕ × ℕ × ℕ)) → ((n : ℕ) (d : ℕ × ℕ × ℕ) → slice_get ds n ≡ Some d → a ≤ n → d.1 ≡ i → ⊥) → definitions p fn i r (take a ds) ≡ definitions p fn i r ds
back p fn i r zero ds h = sym (none p fn i r ds (λ n d e. h n d e (omega arith)))
back p fn i r (suc a) [] h = refl
back p fn i r (suc a) (x ∷ ds) h = ap (λ ys. (if x.1 == i && x.2 == r then definitions_at p fn r x.0 else []) ++ ys) (back p fn i r a ds (λ n d e l. h (suc n) d e (omega (arith, l))))

registers_same : (p : Code) (fn : Function) (ds es : List (ℕ × ℕ × ℕ)) (h i k : ℕ) (rs : List ℕ) → AreEnough ds es i → register_copies p fn es h i k rs ≡ register_copies p fn ds h i k rs
registers_same p fn ds es h i k [] e = refl
registers_same p fn ds es h i k (r ∷ rs) e =
    ap (λ found. value_copies h i k 0 (leaves_of fn r) found ++ register_copies p fn es h i (k + 1) rs) (e p fn r)
    ∙ ap (λ ys. value_copies h i k 0 (leaves_of fn r) (definitions p fn i r ds) ++ ys) (registers_same p fn ds es h i (k + 1) rs e)

items_same : (p : Code) (fn : Function) (ds es : List (ℕ × ℕ × ℕ)) (h i : ℕ) (shape : List (List PathStep)) (rs : List ℕ) → AreEnough ds es i → item_copies p fn es h i shape rs ≡ item_copies p fn ds h i shape rs
items_same p fn ds es h i shape [] e = refl
items_same p fn ds es h i shape (r ∷ rs) e =
    ap (λ found. value_copies h i 1 0 shape found ++ item_copies p fn es h i shape rs) (e p fn r)
    ∙ ap (λ ys. value_copies h i 1 0 shape (definitions p fn i r ds) ++ ys) (items_same p fn ds es h i shape rs e)

parts_same : (p : Code) (fn : Function) (ds es : List (ℕ × ℕ × ℕ)) (h i : ℕ) (to : List (List PathStep)) (parts : List (List PathStep × ℕ)) → AreEnough ds es i → join_copies p fn es h i to parts ≡ join_copies p fn ds h i to parts
parts_same p fn ds es h i to [] e = refl
parts_same p fn ds es h i to (x ∷ parts) e =
    ap (λ found. part_copies h i x.0 parts 0 to (leaves_of fn x.1) found ++ join_copies p fn es h i to parts) (e p fn x.1)
    ∙ ap (λ ys. part_copies h i x.0 parts 0 to (leaves_of fn x.1) (definitions p fn i x.1 ds) ++ ys) (parts_same p fn ds es h i to parts e)

grow_same : (p : Code) (fn : Function) (ds es : List (ℕ × ℕ × ℕ)) (h i at : ℕ) (items : List ℕ) (site : Option ℕ) → AreEnough ds es i → grow_rules p fn es h i at items site ≡ grow_rules p fn ds h i at items site
grow_same p fn ds es h i at items None e = refl
grow_same p fn ds es h i at items (Some s) e = rw (e p fn at, items_same p fn ds es h i (shape_at p (Some s)) items e) refl

hand_same : (p : Code) (fn : Function) (ds es : List (ℕ × ℕ × ℕ)) (h i : ℕ) (by : Node) (n : ℕ) (callee : Callee) (args : List ℕ) → AreEnough ds es i → hand_rules p fn es h i by n callee args ≡ hand_rules p fn ds h i by n callee args
hand_same p fn ds es h i by n callee args e = rw (registers_same p fn ds es h i n (handed_values callee args) e) refl

-- the rules of an instruction are the same
pub kind_same : (p : Code) (fn : Function) (ds es : List (ℕ × ℕ × ℕ)) (h i : ℕ) (kind : Kind) → AreEnough ds es i → kind_rules p fn es h i kind ≡ kind_rules p fn ds h i kind
kind_same p fn ds es h i (kinds.Move to from path) e = ap (λ found. move_copies h i path 0 (leaves_of fn to) (leaves_of fn from) found) (e p fn from)
kind_same p fn ds es h i (kinds.Join to parts) e = parts_same p fn ds es h i (leaves_of fn to) parts e
kind_same p fn ds es h i (kinds.New to s) e = refl
kind_same p fn ds es h i (kinds.Step to from path) e = ap (λ found. shifts h (node i 0 0) path found) (e p fn from)
kind_same p fn ds es h i (kinds.Read to at qs) e = ap (λ found. value_loads h i 0 0 qs found) (e p fn at)
kind_same p fn ds es h i (kinds.Write at from) e = rw (e p fn at, e p fn from) refl
kind_same p fn ds es h i (kinds.Grow to at items) e = grow_same p fn ds es h i at items (own_site p i) e
kind_same p fn ds es h i (kinds.Global to k) e = refl
kind_same p fn ds es h i (kinds.Assert to from target) e = ap (λ found. keeps h (node i 0 0) target found) (e p fn from)
kind_same p fn ds es h i (kinds.Call to callee args) e = rw (hand_same p fn ds es h i (reference i callee args (length to)) (length to) callee args e) refl
kind_same p fn ds es h i (kinds.Go callee args) e = hand_same p fn ds es h i (reference i callee args 0) 0 callee args e
kind_same p fn ds es h i (kinds.Defer callee args) e = hand_same p fn ds es h i (reference i callee args 0) 0 callee args e
kind_same p fn ds es h i (kinds.Leave from) e = registers_same p fn ds es h i 0 from e
kind_same p fn ds es h i (kinds.Passed to callee) e = registers_same p fn ds es h i 0 (to ∷ []) e
kind_same p fn ds es h i (kinds.Op to from) e = refl
kind_same p fn ds es h i kinds.RunDefers e = refl
kind_same p fn ds es h i (kinds.Goto target) e = refl
kind_same p fn ds es h i (kinds.Branch targets) e = refl
kind_same p fn ds es h i (kinds.Panic from) e = refl

get_drop : (ds : List (ℕ × ℕ × ℕ)) (a n : ℕ) (d : ℕ × ℕ × ℕ) → slice_get (drop a ds) n ≡ Some d → slice_get ds (n + a) ≡ Some d
get_drop ds zero n d e = rw add-zero e
get_drop [] (suc a) n d e = absurd cc
get_drop (x ∷ ds) (suc a) n d e = rw add-suc (get_drop ds a n d e)

-- where the definitions of the place begin, those of places behind don't
pub begin_before_end : (ds : List (ℕ × ℕ × ℕ)) (i a b : ℕ) → IsPartitionPoint (λ d. ltb (reached d) i ≡ true) (λ d. ltb (reached d) i ≡ false) ds a → IsPartitionPoint (λ d. leb (reached d) i ≡ true) (λ d. leb (reached d) i ≡ false) ds b
    → a ≤ length ds → a ≤ b
begin_before_end ds i a b begin stop inside = ⊎_elim (λ (l : b < a). absurd (omega (arith, ltb-true _ _ (begin.0 b (0, 0, 0) (omega arith) l), leb-false _ _ (stop.1 b (0, 0, 0) (omega arith) (omega (arith, l, inside)))))) (λ (l : a ≤ b). l) (cases_lt b a)

-- the definitions between those of places before and those of places behind are enough
pub between : (ds : List (ℕ × ℕ × ℕ)) (i a b : ℕ) → IsPartitionPoint (λ d. ltb (reached d) i ≡ true) (λ d. ltb (reached d) i ≡ false) ds a → IsPartitionPoint (λ d. leb (reached d) i ≡ true) (λ d. leb (reached d) i ≡ false) ds b
    → AreEnough ds (take (b - a) (drop a ds)) i
between ds i a b begin stop p fn r =
    back p fn i r (b - a) (drop a ds) (λ n d e m t. absurd (omega (arith, behind (n + a) d (get_drop ds a n d e) (omega (arith, m)), t)))
    ∙ front p fn i r a ds (λ n d e m t. absurd (omega (arith, before n d e m, t)))
  where
    before : (n : ℕ) (d : ℕ × ℕ × ℕ) → slice_get ds n ≡ Some d → n < a → d.1 < i
    before n d e l = let k = ltb-true _ _ (begin.0 n d (omega arith) l) in omega (arith, k, ap (λ x. x.1) (get_or_from_slice_get ds n d d e))

    behind : (n : ℕ) (d : ℕ × ℕ × ℕ) → slice_get ds n ≡ Some d → b ≤ n → i < d.1
    behind n d e l = let k = leb-false _ _ (stop.1 n d l (slice_get_within ds n d e)) in omega (arith, k, ap (λ x. x.1) (get_or_from_slice_get ds n d d e))

-- each no later than the next
pub order_from_tests : (ds : List (ℕ × ℕ × ℕ)) → AllAdjacentBelow (λ x y. true ≡ is_some_and is_le (Some (nat_cmp (reached x) (reached y)))) ds (length ds) → IsNonDecreasingBy reached ds
order_from_tests ds h = IsNonDecreasingBy-from_all_adjacent reached ds (λ k d l. le_from_is_le _ _ (sym (h k d l)))

is_le_from : (a b : ℕ) → a ≤ b → is_le (nat_cmp a b) ≡ true
is_le_from a b l = ⊎_elim (λ (less : a < b). ap is_le (sym (nat_cmp_is a b Less less))) (λ (no : b ≤ a). ap is_le (sym (nat_cmp_is a b Equal (omega (arith, l, no))))) (cases_lt a b)

pub tests_from_order : (ds : List (ℕ × ℕ × ℕ)) (r : Bool) → IsAllAdjacentAnswer (λ x y b. b ≡ is_some_and is_le (Some (nat_cmp (reached x) (reached y)))) ds r → IsNonDecreasingBy reached ds → r ≡ true
tests_from_order ds true h up = refl
tests_from_order ds false h up = h.2 (0, 0, 0) ∙ is_le_from _ _ (up h.0 (h.0 + 1) (0, 0, 0) (omega arith) h.1)

-- those between are all of the place
pub all_here : (ds : List (ℕ × ℕ × ℕ)) (i a b : ℕ) → IsPartitionPoint (λ d. ltb (reached d) i ≡ true) (λ d. ltb (reached d) i ≡ false) ds a → IsPartitionPoint (λ d. leb (reached d) i ≡ true) (λ d. leb (reached d) i ≡ false) ds b
    → b ≤ length ds → All (λ d. reached d ≡ i) (take (b - a) (drop a ds))
all_here ds i a b begin stop inside k d l =
    let m : k < b - a = omega (arith, l, length-take (b - a) (drop a ds)) in
    let here : get_or (take (b - a) (drop a ds)) k d ≡ get_or ds (a + k) d = get_or-take (b - a) (drop a ds) k d m ∙ get_or-drop a ds k d in
    let low = ltb-false _ _ (begin.1 (a + k) d (omega arith) (omega (arith, m, inside))) in
    let high = leb-true _ _ (stop.0 (a + k) d (omega arith) (omega (arith, m))) in
    omega (arith, low, high, ap reached here)
