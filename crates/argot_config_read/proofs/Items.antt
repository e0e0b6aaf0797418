-- The items of a list, one after another.
use Rattle.std.proofs.Common.{◌≡◌, ℕ, ◌+◌, ◌<◌, ◌≤◌, unwrap_or, codes, List, [], ◌∷◌, ◌++◌, length, take, drop, get_or, map, refl, ap, ◌∙◌, sym, arith, add-one, drop-cons, Option, Some, None, option_map, option_and_then, Bool, true, false, ◌&&◌, nat_le, if◌then◌else◌}
use Rattle.std.proofs.lemmas.List.{drop_all, length-take-le, length-map, map-append, take_all}
use Rattle.std.proofs.Math.ListN as lists
use Rattle.std.proofs.lemmas.Bool.Decides.{nat_tests}
use Rattle.std.proofs.Math.Seq.{take-suc}
use Rattle.serde_json.specs.Data.{Data, Items}
use Rattle.serde_json.specs.View.{items_of, items_view, view}
use Rattle.serde_json.specs.declared.value.Value.{Value}
use Rattle.argot_config_read.specs.declared.faults.ConfigFault.{ConfigFault}
use Rattle.argot_config_read.specs.Paths.{item_path}
use Rattle.argot_config_read.specs.Table.{text_in}
use Rattle.argot_config_read.specs.Wanted.{wanted_problem}
use Rattle.argot_config_read.proofs.Firsts.{first_of_both}
use Rattle.argot_config_read.specs.Shapes.{IsFirst, Judge, each_item, items_between, items_list, list_of}

pub items_list_of : (ds : List Data) → items_list (items_of ds) ≡ ds
items_list_of [] = refl
items_list_of (d ∷ ds) = ap (λ es. d ∷ es) (items_list_of ds)

-- a list of values has the data of its values
pub as_list_of : (a : Option Items) (vs : List Value) → Some (items_view vs) ≡ a → option_map items_list a ≡ Some (map view vs)
as_list_of a vs is = rw (sym is, items_list_of) refl

kept : (p q : Bool) (ds es : List Data) → p ≡ true → q ≡ true → ds ≡ es → (if p && q then Some ds else None) ≡ Some es
kept p q ds es hp hq same = rw (hp, hq, same) refl

dropped_first : (p q : Bool) (ds : List Data) → p ≡ false → (if p && q then Some ds else None) ≡ None
dropped_first p q ds hp = rw hp refl

dropped_second : (p q : Bool) (ds : List Data) → q ≡ false → (if p && q then Some ds else None) ≡ None
dropped_second true q ds hq = rw hq refl
dropped_second false q ds hq = refl

pub between : (least most : ℕ) (l : Option (List Data)) (vs : List Value) → l ≡ Some (map view vs) → least ≤ length vs → length vs ≤ most
    → option_and_then (λ ds. if nat_le least (length ds) && nat_le (length ds) most then Some ds else None) l ≡ Some (map view vs)
between least most l vs is low high =
    rw (is, length-map) (kept (nat_le least (length vs)) (nat_le (length vs) most) _ _ (grind (arith, nat_tests)) (grind (arith, nat_tests)) refl)

pub too_few : (least most : ℕ) (l : Option (List Data)) (vs : List Value) → l ≡ Some (map view vs) → length vs < least
    → option_and_then (λ ds. if nat_le least (length ds) && nat_le (length ds) most then Some ds else None) l ≡ None
too_few least most l vs is low = rw (is, length-map) (dropped_first (nat_le least (length vs)) (nat_le (length vs) most) _ (grind (arith, nat_tests)))

pub too_many : (least most : ℕ) (l : Option (List Data)) (vs : List Value) → l ≡ Some (map view vs) → most < length vs
    → option_and_then (λ ds. if nat_le least (length ds) && nat_le (length ds) most then Some ds else None) l ≡ None
too_many least most l vs is high = rw (is, length-map) (dropped_second (nat_le least (length vs)) (nat_le (length vs) most) _ (grind (arith, nat_tests)))

-- the faults of what is left begin with those of the next item
pub next_item : (judge : List Data → Judge) (path : List ℕ) (ds : List Data) (i : ℕ) (d : Data) → i < length ds → get_or ds i d ≡ d
    → each_item judge path (take i ds) (drop i ds)
    ≡ judge (take i ds) (item_path path i) d ++ each_item judge path (take (i + 1) ds) (drop (i + 1) ds)
unfolding each_item
next_item judge path ds i d within is =
    let from = drop-cons ds i d within in
    let to = take-suc ds i d within in
    let long = length-take-le i ds (omega arith) in
    rw (add-one, from, to, is, long) refl

-- behind the last item there are none
pub no_item : (judge : List Data → Judge) (path : List ℕ) (ds : List Data) (i : ℕ) → length ds ≤ i → each_item judge path (take i ds) (drop i ds) ≡ []
unfolding each_item
no_item judge path ds i past = rw (drop_all i ds past) refl

pub ruleset sizes = (as_list_of, between, too_few, too_many)

-- the data of the value at a place
pub value_at : (xs : List Value) (i : ℕ) (x : Value) → x ≡ get_or xs i x → get_or (map view xs) i (view x) ≡ view x
value_at xs i x is = lists.get_or-map view xs i x ∙ ap view (sym is)

-- a first fault of the next item is that of the list
pub first_in_item : (judge : List Data → Judge) (path : List ℕ) (ds : List Data) (i : ℕ) (d : Data) (e : ConfigFault) → i < length ds → get_or ds i d ≡ d
    → each_item judge path [] ds ≡ each_item judge path (take i ds) (drop i ds)
    → IsFirst (judge (take i ds) (item_path path i) d) e → IsFirst (each_item judge path [] ds) e
first_in_item judge path ds i d e within is so_far h =
    λ ne. rw (so_far ∙ next_item judge path ds i d within is) (first_of_both _ _ e (h ne))

-- an item without faults is passed
pub item_passed : (judge : List Data → Judge) (path : List ℕ) (ds : List Data) (i : ℕ) (d : Data) → i < length ds → get_or ds i d ≡ d
    → each_item judge path [] ds ≡ each_item judge path (take i ds) (drop i ds)
    → judge (take i ds) (item_path path i) d ≡ []
    → each_item judge path [] ds ≡ each_item judge path (take (i + 1) ds) (drop (i + 1) ds)
item_passed judge path ds i d within is so_far h =
    so_far ∙ next_item judge path ds i d within is ∙ ap (λ fs. fs ++ each_item judge path (take (i + 1) ds) (drop (i + 1) ds)) h

-- a first fault of the items is that of the list
pub first_in_list : (least most : ℕ) (judge : List Data → Judge) (path : List ℕ) (v : Data) (ds : List Data) (e : ConfigFault) → items_between least most v ≡ Some ds
    → IsFirst (each_item judge path [] ds) e → IsFirst (list_of least most judge path v) e
first_in_list least most judge path v ds e is h = λ ne. rw is (h ne)

-- a list whose items are all passed has no fault
pub list_done : (least most : ℕ) (judge : List Data → Judge) (path : List ℕ) (v : Data) (ds : List Data) (i : ℕ) → items_between least most v ≡ Some ds → length ds ≤ i
    → each_item judge path [] ds ≡ each_item judge path (take i ds) (drop i ds) → list_of least most judge path v ≡ []
list_done least most judge path v ds i is past so_far = rw is (so_far ∙ no_item judge path ds i past)

-- what is made of all items
pub made_done : {B : Type 0} (f : Data → B) (l : Option (List Data)) (ds : List Data) (i : ℕ) (made : List B) → l ≡ Some ds → length ds ≤ i → made ≡ map f (take i ds) → made ≡ map f (unwrap_or l [])
made_done f l ds i made is past h = h ∙ ap (λ es. map f es) (take_all i ds past ∙ ap (λ o. unwrap_or o []) (sym is))

-- what is made of one more
pub made_more : {B : Type 0} (f : Data → B) (ds : List Data) (i : ℕ) (d : Data) (made more : List B) (b : B) → i < length ds → get_or ds i d ≡ d
    → made ≡ map f (take i ds) → b ≡ f d → more ≡ made ++ b ∷ [] → more ≡ map f (take (i + 1) ds)
made_more f ds i d made more b within is so_far same pushed =
    let to = take-suc ds i d within in
    pushed ∙ rw (add-one, to, is, map-append, so_far, same) refl

-- the names of the problems that were made
pub names_of : (ds : List Data) → map (λ p. p.name) (map wanted_problem ds) ≡ map (text_in (codes "name")) ds
unfolding wanted_problem
names_of [] = refl
names_of (d ∷ ds) = ap (λ ns. text_in (codes "name") d ∷ ns) (names_of ds)
