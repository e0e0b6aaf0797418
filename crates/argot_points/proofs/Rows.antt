-- What tables have, and the lists of it.
use Rattle.std.proofs.Common.{◌≡◌, ℕ, zero, suc, ◌+◌, ◌<◌, ◌≤◌, true, ◌==◌, List, [], ◌∷◌, ◌++◌, Option, Some, None, drop, option_to_list, append_assoc, refl, sym, ap, ◌∙◌, inl, inr, arith, subst, eqb-true, eq-eqb}
use Rattle.std.specs.Prelude.{slice_get}
use Rattle.std.specs.List.{filter_map}
use Rattle.std.specs.List.{cons_option}
use Rattle.std.proofs.lemmas.List.Elements.{filter_map-append}
use Rattle.std.proofs.lemmas.Bool.{or_cases, or_left, or_right}
use Rattle.argot_links.specs.Members.{has as contains, IsAscendingFrom, IsAscending}
use Rattle.argot_links.specs.Table.{Table, has, row}
use Rattle.argot_plain.specs.Lists.{In, here, there}
use Rattle.argot_facts.proofs.Listed.{In-append, In-left, In-right, Sorted, sorted_cons}
use Rattle.argot_facts.specs.declared.nodes.Node.{Node}
use Rattle.argot_facts.specs.declared.pointing.Loc.{Loc}
use Rattle.argot_facts.specs.declared.pointing.Spot.{Spot}
use Rattle.argot_facts.specs.declared.pointing.Spot.TheVariants as spot
use Rattle.argot_facts.specs.Pointing.{paired, of_row, of_nodes, of_places}

-- ---- a row as a list

contains_in : (xs : List ℕ) (i : ℕ) → contains xs i ≡ true → In i xs
contains_in [] i h = absurd cc
contains_in (x ∷ xs) i h = elim (or_cases (x == i) (contains xs i) h) [
  | inl e ↦ here (sym (eqb-true x i e))
  | inr m ↦ there (contains_in xs i m)
]

in_contains : (xs : List ℕ) (i : ℕ) → In i xs → contains xs i ≡ true
in_contains (x ∷ xs) i (here e) = or_left (x == i) (contains xs i) (eq-eqb x i (sym e))
in_contains (x ∷ xs) i (there m) = or_right (x == i) (contains xs i) (in_contains xs i m)
in_contains [] i m = elim m [ ]

pub has_row : (t : Table) (r c : ℕ) → has t r c ≡ true → In c (row t r)
unfolding has
has_row t r c h = contains_in (row t r) c h

pub row_has : (t : Table) (r c : ℕ) → In c (row t r) → has t r c ≡ true
unfolding has
row_has t r c m = in_contains (row t r) c m

above : (low : ℕ) (xs : List ℕ) (i : ℕ) → IsAscendingFrom low xs → In i xs → low ≤ i
above low (x ∷ xs) i a (here e) = omega (arith, a.0, e)
above low (x ∷ xs) i a (there m) = omega (arith, a.0, above (suc x) xs i a.1 m)
above low [] i a m = elim m [ ]

abbrev Less : ℕ → ℕ → Type 0
Less g h = g < h

ascending_from : (low : ℕ) (xs : List ℕ) → IsAscendingFrom low xs → Sorted Less xs
ascending_from low [] a = λ m n x y l h k. absurd cc
ascending_from low (x ∷ xs) a = sorted_cons Less x xs (ascending_from (suc x) xs a.1) (λ y m. omega (arith, above (suc x) xs y a.1 m))

pub ascending_sorted : (xs : List ℕ) → IsAscending xs → Sorted Less xs
ascending_sorted xs a = ascending_from 0 xs a

-- ---- pairs of a spot and a location

module _ (ls : List Loc) (t : Table) where
  -- the row r has the location l
  pub record IsIn (l : Loc) (r : ℕ) : Type 0 where
    pub column : ℕ
    pub at : slice_get ls column ≡ Some l
    pub has : has t r column ≡ true

  abbrev Chosen : Spot → Spot → Loc → List ℕ → Type 0
  Chosen a b l cs = (c : ℕ) × (In c cs) × (slice_get ls c ≡ Some l) × (b ≡ a)

  abbrev pairs_of : Spot → List ℕ → List (Spot × Loc)
  pairs_of b cs = filter_map (λ c. paired b (slice_get ls c)) cs

  first_of : (a b : Spot) (l : Loc) (c : ℕ) (cs : List ℕ) (o : Option Loc) → (In (a, l) (pairs_of b cs) → Chosen a b l cs) → slice_get ls c ≡ o → In (a, l) (cons_option (paired b o) (pairs_of b cs)) → Chosen a b l (c ∷ cs)
  first_of a b l c cs None later e m = let x = later m in (x.0, there x.1, x.2, x.3)
  first_of a b l c cs (Some k) later e (here f) = let g : l ≡ k = ap (λ z. z.1) f in let h : a ≡ b = ap (λ z. z.0) f in (c, here refl, e ∙ ap Some (sym g), sym h)
  first_of a b l c cs (Some k) later e (there n) = let x = later n in (x.0, there x.1, x.2, x.3)

  of_columns : (a b : Spot) (l : Loc) (cs : List ℕ) → In (a, l) (pairs_of b cs) → Chosen a b l cs
  of_columns a b l [] m = elim m [ ]
  of_columns a b l (c ∷ cs) m = first_of a b l c cs (slice_get ls c) (of_columns a b l cs) refl m

  behind_first : (a : Spot) (l : Loc) (cs : List ℕ) (o : Option Loc) → In (a, l) (pairs_of a cs) → In (a, l) (cons_option (paired a o) (pairs_of a cs))
  behind_first a l cs (Some k) m = there m
  behind_first a l cs None m = m

  at_first : (a : Spot) (l : Loc) (cs : List ℕ) (o : Option Loc) → o ≡ Some l → In (a, l) (cons_option (paired a o) (pairs_of a cs))
  at_first a l cs (Some k) e = let g : k ≡ l = cc in here (ap (λ x. (a, x)) (sym g))
  at_first a l cs None e = absurd cc

  columns_of : (a : Spot) (l : Loc) (c : ℕ) (cs : List ℕ) → In c cs → slice_get ls c ≡ Some l → In (a, l) (pairs_of a cs)
  columns_of a l c [] m e = elim m [ ]
  columns_of a l c (x ∷ cs) (here f) e = at_first a l cs (slice_get ls x) (ap (slice_get ls) (sym f) ∙ e)
  columns_of a l c (x ∷ cs) (there m) e = behind_first a l cs (slice_get ls x) (columns_of a l c cs m e)

  row_pairs : (a b : Spot) (l : Loc) (r : ℕ) → In (a, l) (of_row ls t b r) → IsIn l r × (b ≡ a)
  row_pairs a b l r m = let x = of_columns a b l (row t r) m in (record { column = x.0; at = x.2; has = row_has t r x.0 x.1 }, x.3)

  pairs_row : (a : Spot) (l : Loc) (r : ℕ) → IsIn l r → In (a, l) (of_row ls t a r)
  pairs_row a l r x = columns_of a l x.column (row t r) (has_row t r x.column x.has) x.at

  pub of_nodes_is : (a : Spot) (l : Loc) (r : ℕ) (ns : List Node) → In (a, l) (of_nodes ls t r ns) → (n : ℕ) × (node : Node) × (slice_get ns n ≡ Some node) × (a ≡ spot.Node node) × IsIn l (r + n)
  of_nodes_is a l r [] m = elim m [ ]
  of_nodes_is a l r (x ∷ ns) m = elim (In-append (a, l) (of_row ls t (spot.Node x) r) (of_nodes ls t (r + 1) ns) m) [
    | inl h ↦ let p = row_pairs a (spot.Node x) l r h in let z : r ≡ r + 0 = omega arith in (0, x, refl, sym p.1, subst (IsIn l) z p.0)
    | inr h ↦ let y = of_nodes_is a l (r + 1) ns h in let z : r + 1 + y.0 ≡ r + suc y.0 = omega arith in (suc y.0, y.1, y.2, y.3, subst (IsIn l) z y.4)
  ]

  pub is_of_nodes : (l : Loc) (r n : ℕ) (node : Node) (ns : List Node) → slice_get ns n ≡ Some node → IsIn l (r + n) → In (spot.Node node, l) (of_nodes ls t r ns)
  is_of_nodes l r n node [] e x = absurd cc
  is_of_nodes l r zero node (a ∷ ns) e x =
      let same : a ≡ node = cc in
      let z : r + 0 ≡ r = omega arith in
      In-left (spot.Node node, l) (of_row ls t (spot.Node a) r) (of_nodes ls t (r + 1) ns)
      (subst (λ (b : Node). In (spot.Node node, l) (of_row ls t (spot.Node b) r)) (sym same) (pairs_row (spot.Node node) l r (subst (IsIn l) z x)))
  is_of_nodes l r (suc n) node (a ∷ ns) e x =
      let z : r + suc n ≡ r + 1 + n = omega arith in
      In-right (spot.Node node, l) (of_row ls t (spot.Node a) r) (of_nodes ls t (r + 1) ns) (is_of_nodes l (r + 1) n node ns e (subst (IsIn l) z x))

  pub of_places_is : (a : Spot) (l : Loc) (r : ℕ) (ks : List Loc) → In (a, l) (of_places ls t r ks) → (n : ℕ) × (k : Loc) × (slice_get ks n ≡ Some k) × (a ≡ spot.Loc k) × IsIn l (r + n)
  of_places_is a l r [] m = elim m [ ]
  of_places_is a l r (x ∷ ks) m = elim (In-append (a, l) (of_row ls t (spot.Loc x) r) (of_places ls t (r + 1) ks) m) [
    | inl h ↦ let p = row_pairs a (spot.Loc x) l r h in let z : r ≡ r + 0 = omega arith in (0, x, refl, sym p.1, subst (IsIn l) z p.0)
    | inr h ↦ let y = of_places_is a l (r + 1) ks h in let z : r + 1 + y.0 ≡ r + suc y.0 = omega arith in (suc y.0, y.1, y.2, y.3, subst (IsIn l) z y.4)
  ]

  pub is_of_places : (l : Loc) (r n : ℕ) (k : Loc) (ks : List Loc) → slice_get ks n ≡ Some k → IsIn l (r + n) → In (spot.Loc k, l) (of_places ls t r ks)
  is_of_places l r n k [] e x = absurd cc
  is_of_places l r zero k (a ∷ ks) e x =
      let same : a ≡ k = cc in
      let z : r + 0 ≡ r = omega arith in
      In-left (spot.Loc k, l) (of_row ls t (spot.Loc a) r) (of_places ls t (r + 1) ks)
      (subst (λ (b : Loc). In (spot.Loc k, l) (of_row ls t (spot.Loc b) r)) (sym same) (pairs_row (spot.Loc k) l r (subst (IsIn l) z x)))
  is_of_places l r (suc n) k (a ∷ ks) e x =
      let z : r + suc n ≡ r + 1 + n = omega arith in
      In-right (spot.Loc k, l) (of_row ls t (spot.Loc a) r) (of_places ls t (r + 1) ks) (is_of_places l (r + 1) n k ks e (subst (IsIn l) z x))

-- ---- lists that grow

one_pair : {X : Type 0} (o : Option X) → cons_option o [] ≡ option_to_list o
one_pair (Some x) = refl
one_pair None = refl

-- one more item
pub pairs_pushed : {X : Type 0} (f : ℕ → Option X) (old now new : List X) (ys : List ℕ) (y : ℕ) → now ≡ old ++ filter_map f ys → new ≡ now ++ option_to_list (f y) → new ≡ old ++ filter_map f (ys ++ y ∷ [])
pairs_pushed f old now new ys y h e =
    e ∙ ap (λ xs. xs ++ option_to_list (f y)) h ∙ append_assoc old (filter_map f ys) (option_to_list (f y))
    ∙ ap (λ xs. old ++ xs) (sym (filter_map-append f ys (y ∷ []) ∙ ap (λ xs. filter_map f ys ++ xs) (one_pair (f y))))

drop_at : {X : Type 0} (xs : List X) (i : ℕ) (x : X) → slice_get xs i ≡ Some x → drop i xs ≡ x ∷ drop (suc i) xs
drop_at [] i x h = absurd cc
drop_at (y ∷ ys) zero x h = cc
drop_at (y ∷ ys) (suc i) x h = drop_at ys i x h

-- the next row is that of the next location
pub places_step : (ls : List Loc) (t : Table) (n z : ℕ) (k : Loc) (ks : List Loc) (now new all : List (Spot × Loc)) → slice_get ks z ≡ Some k → now ++ of_places ls t (n + z) (drop z ks) ≡ all → new ≡ now ++ of_row ls t (spot.Loc k) (n + z)
    → new ++ of_places ls t (n + (z + 1)) (drop (z + 1) ks) ≡ all
places_step ls t n z k ks now new all is h e =
    let z' : n + (z + 1) ≡ n + z + 1 = omega arith in
    let y : suc z ≡ z + 1 = omega arith in
    ap (λ xs. xs ++ of_places ls t (n + (z + 1)) (drop (z + 1) ks)) e ∙ ap (λ m. (now ++ of_row ls t (spot.Loc k) (n + z)) ++ of_places ls t m (drop (z + 1) ks)) z'
    ∙ append_assoc now (of_row ls t (spot.Loc k) (n + z)) (of_places ls t (n + z + 1) (drop (z + 1) ks))
    ∙ ap (λ xs. now ++ of_places ls t (n + z) xs) (sym (drop_at ks z k is ∙ ap (λ m. k ∷ drop m ks) y)) ∙ h
