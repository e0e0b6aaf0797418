-- The same of the lists of parts, registers, calls, places and functions.
use Rattle.std.proofs.Common.{◌≡◌, ℕ, zero, suc, ◌+◌, true, false, List, [], ◌∷◌, ◌++◌, Some, refl, sym, inl, inr, arith, subst}
use Rattle.std.specs.Prelude.{slice_get, if◌then◌else◌}
use Rattle.argot_plain.specs.Lists.{In, here, there, same_path}
use Rattle.argot_plain.specs.Machine.{is_covered}
use Rattle.argot_plain.specs.Code.{Code}
use Rattle.argot_plain.specs.declared.functions.Function.{Function}
use Rattle.argot_text.specs.declared.path.PathStep.{PathStep}
use Rattle.argot_facts.specs.Copies.{Lasts, last_here, last_there}
use Rattle.argot_facts.specs.Numbers.{node, leaves_of}
use Rattle.argot_facts.specs.declared.nodes.Node.{Node}
use Rattle.argot_points_rules.specs.declared.rules.Owned.{Owned}
use Rattle.argot_points_rules.specs.declared.rules.Rule.TheVariants.{Copy}
use Rattle.argot_points_rules.specs.Column.{owned, copies, value_copies, below_copies, move_copies, leaf_copies, part_copies, join_copies, register_copies, item_copies, definitions}
use Rattle.argot_points.proofs.Each.{In-append, In-left, In-right, In-if, if-In, In-unless, unless-In, each_copies, copies_have, each_value_copies, value_copies_have}

pub each_below : (P : Owned → Type 0) (o : Owned) (h : ℕ) (to : Node) (path q : List PathStep) (a : ℕ) (from : List (List PathStep)) (xs : List (ℕ × ℕ)) → In o (below_copies h to path q a from xs)
    → ((c b : ℕ) (leaf : List PathStep) → c ≡ a + b → slice_get from b ≡ Some leaf → same_path leaf (path ++ q) ≡ true → (x : ℕ × ℕ) → In x xs → P (owned h (Copy to (node x.0 x.1 c)))) → P o
each_below P o h to path q a [] xs m f = elim m [ ]
each_below P o h to path q a (leaf ∷ from) xs m f = elim (In-append o (if same_path leaf (path ++ q) then copies h to a xs else []) (below_copies h to path q (a + 1) from xs) m) [
  | inl l ↦ let r = In-if o (copies h to a xs) (same_path leaf (path ++ q)) l in each_copies P o h to a xs r.1 (λ x y. f a 0 leaf (omega arith) refl r.0 x y)
  | inr l ↦ each_below P o h to path q (a + 1) from xs l (λ c b leaf e g s x y. f c (suc b) leaf (omega (arith, e)) g s x y)
]

pub below_have : (h : ℕ) (to : Node) (path q : List PathStep) (a : ℕ) (from : List (List PathStep)) (xs : List (ℕ × ℕ)) (c b : ℕ) (leaf : List PathStep) → c ≡ a + b → slice_get from b ≡ Some leaf → same_path leaf (path ++ q) ≡ true
    → (x : ℕ × ℕ) → In x xs → In (owned h (Copy to (node x.0 x.1 c))) (below_copies h to path q a from xs)
below_have h to path q a [] xs c b leaf e g s x m = absurd cc
below_have h to path q a (p ∷ from) xs c zero leaf e g s x m =
    let z : a ≡ c = omega (arith, e) in let y : leaf ≡ p = cc in
    In-left (owned h (Copy to (node x.0 x.1 c))) (if same_path p (path ++ q) then copies h to a xs else []) (below_copies h to path q (a + 1) from xs)
    (if-In (owned h (Copy to (node x.0 x.1 c))) (copies h to a xs) (same_path p (path ++ q)) (subst (λ l. same_path l (path ++ q) ≡ true) y s) (subst (λ d. In (owned h (Copy to (node x.0 x.1 d))) (copies h to a xs)) z (copies_have h to a xs x m)))
below_have h to path q a (p ∷ from) xs c (suc b) leaf e g s x m =
    In-right (owned h (Copy to (node x.0 x.1 c))) (if same_path p (path ++ q) then copies h to a xs else []) (below_copies h to path q (a + 1) from xs) (below_have h to path q (a + 1) from xs c b leaf (omega (arith, e)) g s x m)

pub each_move : (P : Owned → Type 0) (o : Owned) (h i : ℕ) (path : List PathStep) (a : ℕ) (to from : List (List PathStep)) (xs : List (ℕ × ℕ)) → In o (move_copies h i path a to from xs)
    → ((d b : ℕ) (q : List PathStep) → d ≡ a + b → slice_get to b ≡ Some q → (c : ℕ) (leaf : List PathStep) → slice_get from c ≡ Some leaf → same_path leaf (path ++ q) ≡ true → (x : ℕ × ℕ) → In x xs → P (owned h (Copy (node i 0 d) (node x.0 x.1 c)))) → P o
each_move P o h i path a [] from xs m f = elim m [ ]
each_move P o h i path a (q ∷ to) from xs m f = elim (In-append o (below_copies h (node i 0 a) path q 0 from xs) (move_copies h i path (a + 1) to from xs) m) [
  | inl l ↦ each_below P o h (node i 0 a) path q 0 from xs l (λ c b leaf e g s x y. let z : b ≡ c = omega (arith, e) in f a 0 q (omega arith) refl c leaf (subst (λ k. slice_get from k ≡ Some leaf) z g) s x y)
  | inr l ↦ each_move P o h i path (a + 1) to from xs l (λ d b q e g. f d (suc b) q (omega (arith, e)) g)
]

pub move_have : (h i : ℕ) (path : List PathStep) (a : ℕ) (to from : List (List PathStep)) (xs : List (ℕ × ℕ)) (d b : ℕ) (q : List PathStep) → d ≡ a + b → slice_get to b ≡ Some q → (c : ℕ) (leaf : List PathStep) → slice_get from c ≡ Some leaf → same_path leaf (path ++ q) ≡ true
    → (x : ℕ × ℕ) → In x xs → In (owned h (Copy (node i 0 d) (node x.0 x.1 c))) (move_copies h i path a to from xs)
move_have h i path a [] from xs d b q e g c leaf k s x m = absurd cc
move_have h i path a (p ∷ to) from xs d zero q e g c leaf k s x m =
    let z : a ≡ d = omega (arith, e) in let y : q ≡ p = cc in
    In-left (owned h (Copy (node i 0 d) (node x.0 x.1 c))) (below_copies h (node i 0 a) path p 0 from xs) (move_copies h i path (a + 1) to from xs)
    (subst (λ v. In (owned h (Copy (node i 0 v) (node x.0 x.1 c))) (below_copies h (node i 0 a) path p 0 from xs)) z (below_have h (node i 0 a) path p 0 from xs c c leaf (omega arith) k (subst (λ v. same_path leaf (path ++ v) ≡ true) y s) x m))
move_have h i path a (p ∷ to) from xs d (suc b) q e g c leaf k s x m =
    In-right (owned h (Copy (node i 0 d) (node x.0 x.1 c))) (below_copies h (node i 0 a) path p 0 from xs) (move_copies h i path (a + 1) to from xs) (move_have h i path (a + 1) to from xs d b q (omega (arith, e)) g c leaf k s x m)

pub each_leaf : (P : Owned → Type 0) (o : Owned) (h : ℕ) (to : Node) (q path : List PathStep) (a : ℕ) (from : List (List PathStep)) (xs : List (ℕ × ℕ)) → In o (leaf_copies h to q path a from xs)
    → ((c b : ℕ) (leaf : List PathStep) → c ≡ a + b → slice_get from b ≡ Some leaf → same_path q (path ++ leaf) ≡ true → (x : ℕ × ℕ) → In x xs → P (owned h (Copy to (node x.0 x.1 c)))) → P o
each_leaf P o h to q path a [] xs m f = elim m [ ]
each_leaf P o h to q path a (leaf ∷ from) xs m f = elim (In-append o (if same_path q (path ++ leaf) then copies h to a xs else []) (leaf_copies h to q path (a + 1) from xs) m) [
  | inl l ↦ let r = In-if o (copies h to a xs) (same_path q (path ++ leaf)) l in each_copies P o h to a xs r.1 (λ x y. f a 0 leaf (omega arith) refl r.0 x y)
  | inr l ↦ each_leaf P o h to q path (a + 1) from xs l (λ c b leaf e g s x y. f c (suc b) leaf (omega (arith, e)) g s x y)
]

pub leaf_have : (h : ℕ) (to : Node) (q path : List PathStep) (a : ℕ) (from : List (List PathStep)) (xs : List (ℕ × ℕ)) (c b : ℕ) (leaf : List PathStep) → c ≡ a + b → slice_get from b ≡ Some leaf → same_path q (path ++ leaf) ≡ true
    → (x : ℕ × ℕ) → In x xs → In (owned h (Copy to (node x.0 x.1 c))) (leaf_copies h to q path a from xs)
leaf_have h to q path a [] xs c b leaf e g s x m = absurd cc
leaf_have h to q path a (p ∷ from) xs c zero leaf e g s x m =
    let z : a ≡ c = omega (arith, e) in let y : leaf ≡ p = cc in
    In-left (owned h (Copy to (node x.0 x.1 c))) (if same_path q (path ++ p) then copies h to a xs else []) (leaf_copies h to q path (a + 1) from xs)
    (if-In (owned h (Copy to (node x.0 x.1 c))) (copies h to a xs) (same_path q (path ++ p)) (subst (λ l. same_path q (path ++ l) ≡ true) y s) (subst (λ d. In (owned h (Copy to (node x.0 x.1 d))) (copies h to a xs)) z (copies_have h to a xs x m)))
leaf_have h to q path a (p ∷ from) xs c (suc b) leaf e g s x m =
    In-right (owned h (Copy to (node x.0 x.1 c))) (if same_path q (path ++ p) then copies h to a xs else []) (leaf_copies h to q path (a + 1) from xs) (leaf_have h to q path (a + 1) from xs c b leaf (omega (arith, e)) g s x m)

pub each_part : (P : Owned → Type 0) (o : Owned) (h i : ℕ) (path : List PathStep) (later : List (List PathStep × ℕ)) (a : ℕ) (to from : List (List PathStep)) (xs : List (ℕ × ℕ)) → In o (part_copies h i path later a to from xs)
    → ((d b : ℕ) (q : List PathStep) → d ≡ a + b → slice_get to b ≡ Some q → is_covered q later ≡ false → (c : ℕ) (leaf : List PathStep) → slice_get from c ≡ Some leaf → same_path q (path ++ leaf) ≡ true → (x : ℕ × ℕ) → In x xs → P (owned h (Copy (node i 0 d) (node x.0 x.1 c)))) → P o
each_part P o h i path later a [] from xs m f = elim m [ ]
each_part P o h i path later a (q ∷ to) from xs m f = elim (In-append o (if is_covered q later then [] else leaf_copies h (node i 0 a) q path 0 from xs) (part_copies h i path later (a + 1) to from xs) m) [
  | inl l ↦ let r = In-unless o (leaf_copies h (node i 0 a) q path 0 from xs) (is_covered q later) l in
      each_leaf P o h (node i 0 a) q path 0 from xs r.1 (λ c b leaf e g s x y. let z : b ≡ c = omega (arith, e) in f a 0 q (omega arith) refl r.0 c leaf (subst (λ k. slice_get from k ≡ Some leaf) z g) s x y)
  | inr l ↦ each_part P o h i path later (a + 1) to from xs l (λ d b q e g. f d (suc b) q (omega (arith, e)) g)
]

pub part_have : (h i : ℕ) (path : List PathStep) (later : List (List PathStep × ℕ)) (a : ℕ) (to from : List (List PathStep)) (xs : List (ℕ × ℕ)) (d b : ℕ) (q : List PathStep) → d ≡ a + b → slice_get to b ≡ Some q → is_covered q later ≡ false → (c : ℕ) (leaf : List PathStep) → slice_get from c ≡ Some leaf → same_path q (path ++ leaf) ≡ true
    → (x : ℕ × ℕ) → In x xs → In (owned h (Copy (node i 0 d) (node x.0 x.1 c))) (part_copies h i path later a to from xs)
part_have h i path later a [] from xs d b q e g v c leaf k s x m = absurd cc
part_have h i path later a (p ∷ to) from xs d zero q e g v c leaf k s x m =
    let z : a ≡ d = omega (arith, e) in let y : q ≡ p = cc in
    In-left (owned h (Copy (node i 0 d) (node x.0 x.1 c))) (if is_covered p later then [] else leaf_copies h (node i 0 a) p path 0 from xs) (part_copies h i path later (a + 1) to from xs)
    (unless-In (owned h (Copy (node i 0 d) (node x.0 x.1 c))) (leaf_copies h (node i 0 a) p path 0 from xs) (is_covered p later) (subst (λ w. is_covered w later ≡ false) y v)
    (subst (λ w. In (owned h (Copy (node i 0 w) (node x.0 x.1 c))) (leaf_copies h (node i 0 a) p path 0 from xs)) z (leaf_have h (node i 0 a) p path 0 from xs c c leaf (omega arith) k (subst (λ w. same_path w (path ++ leaf) ≡ true) y s) x m)))
part_have h i path later a (p ∷ to) from xs d (suc b) q e g v c leaf k s x m =
    In-right (owned h (Copy (node i 0 d) (node x.0 x.1 c))) (if is_covered p later then [] else leaf_copies h (node i 0 a) p path 0 from xs) (part_copies h i path later (a + 1) to from xs) (part_have h i path later (a + 1) to from xs d b q (omega (arith, e)) g v c leaf k s x m)

-- of a function
module _ (p : Code) (fn : Function) (ds : List (ℕ × ℕ × ℕ)) (h i : ℕ) where
  pub each_join : (P : Owned → Type 0) (o : Owned) (to : List (List PathStep)) (parts : List (List PathStep × ℕ)) → In o (join_copies p fn ds h i to parts)
      → ((path : List PathStep) (r : ℕ) (d : ℕ) (q : List PathStep) → In (path, r) parts → Lasts path r q parts → slice_get to d ≡ Some q → (c : ℕ) (leaf : List PathStep) → slice_get (leaves_of fn r) c ≡ Some leaf → same_path q (path ++ leaf) ≡ true
      → (x : ℕ × ℕ) → In x (definitions p fn i r ds) → P (owned h (Copy (node i 0 d) (node x.0 x.1 c)))) → P o
  each_join P o to [] m f = elim m [ ]
  each_join P o to (part ∷ parts) m f = elim (In-append o (part_copies h i part.0 parts 0 to (leaves_of fn part.1) (definitions p fn i part.1 ds)) (join_copies p fn ds h i to parts) m) [
    | inl l ↦ each_part P o h i part.0 parts 0 to (leaves_of fn part.1) (definitions p fn i part.1 ds) l
        (λ d b q e g v c leaf k s x y. let z : b ≡ d = omega (arith, e) in f part.0 part.1 d q (here refl) (last_here refl refl v) (subst (λ w. slice_get to w ≡ Some q) z g) c leaf k s x y)
    | inr l ↦ each_join P o to parts l (λ path r d q m l. f path r d q (there m) (last_there l))
  ]

  pub join_have : (to : List (List PathStep)) (parts : List (List PathStep × ℕ)) (path : List PathStep) (r d : ℕ) (q : List PathStep) → Lasts path r q parts → slice_get to d ≡ Some q → (c : ℕ) (leaf : List PathStep) → slice_get (leaves_of fn r) c ≡ Some leaf → same_path q (path ++ leaf) ≡ true
      → (x : ℕ × ℕ) → In x (definitions p fn i r ds) → In (owned h (Copy (node i 0 d) (node x.0 x.1 c))) (join_copies p fn ds h i to parts)
  join_have to (part ∷ parts) path r d q (last_here e f v) g c leaf k s x m =
      In-left (owned h (Copy (node i 0 d) (node x.0 x.1 c))) (part_copies h i part.0 parts 0 to (leaves_of fn part.1) (definitions p fn i part.1 ds)) (join_copies p fn ds h i to parts)
      (part_have h i part.0 parts 0 to (leaves_of fn part.1) (definitions p fn i part.1 ds) d d q (omega arith) g v c leaf (subst (λ w. slice_get (leaves_of fn w) c ≡ Some leaf) (sym f) k) (subst (λ w. same_path q (w ++ leaf) ≡ true) (sym e) s) x (subst (λ w. In x (definitions p fn i w ds)) (sym f) m))
  join_have to (part ∷ parts) path r d q (last_there l) g c leaf k s x m =
      In-right (owned h (Copy (node i 0 d) (node x.0 x.1 c))) (part_copies h i part.0 parts 0 to (leaves_of fn part.1) (definitions p fn i part.1 ds)) (join_copies p fn ds h i to parts) (join_have to parts path r d q l g c leaf k s x m)
  join_have to [] path r d q l g c leaf k s x m = elim l [ ]

  pub each_register : (P : Owned → Type 0) (o : Owned) (k : ℕ) (rs : List ℕ) → In o (register_copies p fn ds h i k rs)
      → ((l j r : ℕ) → l ≡ k + j → slice_get rs j ≡ Some r → (a : ℕ) (q : List PathStep) → slice_get (leaves_of fn r) a ≡ Some q → (x : ℕ × ℕ) → In x (definitions p fn i r ds) → P (owned h (Copy (node i l a) (node x.0 x.1 a)))) → P o
  each_register P o k [] m f = elim m [ ]
  each_register P o k (r ∷ rs) m f = elim (In-append o (value_copies h i k 0 (leaves_of fn r) (definitions p fn i r ds)) (register_copies p fn ds h i (k + 1) rs) m) [
    | inl l ↦ each_value_copies P o h i k 0 (leaves_of fn r) (definitions p fn i r ds) l (λ c b q e g x y. let z : b ≡ c = omega (arith, e) in f k 0 r (omega arith) refl c q (subst (λ w. slice_get (leaves_of fn r) w ≡ Some q) z g) x y)
    | inr l ↦ each_register P o (k + 1) rs l (λ l j r e g. f l (suc j) r (omega (arith, e)) g)
  ]

  pub register_have : (k : ℕ) (rs : List ℕ) (l j r : ℕ) → l ≡ k + j → slice_get rs j ≡ Some r → (a : ℕ) (q : List PathStep) → slice_get (leaves_of fn r) a ≡ Some q → (x : ℕ × ℕ) → In x (definitions p fn i r ds) → In (owned h (Copy (node i l a) (node x.0 x.1 a))) (register_copies p fn ds h i k rs)
  register_have k [] l j r e g a q s x m = absurd cc
  register_have k (t ∷ rs) l zero r e g a q s x m =
      let z : k ≡ l = omega (arith, e) in let y : t ≡ r = cc in
      In-left (owned h (Copy (node i l a) (node x.0 x.1 a))) (value_copies h i k 0 (leaves_of fn t) (definitions p fn i t ds)) (register_copies p fn ds h i (k + 1) rs)
      (subst (λ w. In (owned h (Copy (node i w a) (node x.0 x.1 a))) (value_copies h i k 0 (leaves_of fn t) (definitions p fn i t ds))) z
      (value_copies_have h i k 0 (leaves_of fn t) (definitions p fn i t ds) a a q (omega arith) (subst (λ w. slice_get (leaves_of fn w) a ≡ Some q) (sym y) s) x (subst (λ w. In x (definitions p fn i w ds)) (sym y) m)))
  register_have k (t ∷ rs) l (suc j) r e g a q s x m =
      In-right (owned h (Copy (node i l a) (node x.0 x.1 a))) (value_copies h i k 0 (leaves_of fn t) (definitions p fn i t ds)) (register_copies p fn ds h i (k + 1) rs) (register_have (k + 1) rs l j r (omega (arith, e)) g a q s x m)

  pub each_item : (P : Owned → Type 0) (o : Owned) (shape : List (List PathStep)) (rs : List ℕ) → In o (item_copies p fn ds h i shape rs)
      → ((r : ℕ) → In r rs → (a : ℕ) (q : List PathStep) → slice_get shape a ≡ Some q → (x : ℕ × ℕ) → In x (definitions p fn i r ds) → P (owned h (Copy (node i 1 a) (node x.0 x.1 a)))) → P o
  each_item P o shape [] m f = elim m [ ]
  each_item P o shape (r ∷ rs) m f = elim (In-append o (value_copies h i 1 0 shape (definitions p fn i r ds)) (item_copies p fn ds h i shape rs) m) [
    | inl l ↦ each_value_copies P o h i 1 0 shape (definitions p fn i r ds) l (λ c b q e g x y. let z : b ≡ c = omega (arith, e) in f r (here refl) c q (subst (λ w. slice_get shape w ≡ Some q) z g) x y)
    | inr l ↦ each_item P o shape rs l (λ r m. f r (there m))
  ]

  pub item_have : (shape : List (List PathStep)) (rs : List ℕ) (r : ℕ) → In r rs → (a : ℕ) (q : List PathStep) → slice_get shape a ≡ Some q → (x : ℕ × ℕ) → In x (definitions p fn i r ds) → In (owned h (Copy (node i 1 a) (node x.0 x.1 a))) (item_copies p fn ds h i shape rs)
  item_have shape [] r m a q s x y = elim m [ ]
  item_have shape (t ∷ rs) r (here e) a q s x y =
      In-left (owned h (Copy (node i 1 a) (node x.0 x.1 a))) (value_copies h i 1 0 shape (definitions p fn i t ds)) (item_copies p fn ds h i shape rs)
      (value_copies_have h i 1 0 shape (definitions p fn i t ds) a a q (omega arith) s x (subst (λ w. In x (definitions p fn i w ds)) e y))
  item_have shape (t ∷ rs) r (there m) a q s x y =
      In-right (owned h (Copy (node i 1 a) (node x.0 x.1 a))) (value_copies h i 1 0 shape (definitions p fn i t ds)) (item_copies p fn ds h i shape rs) (item_have shape rs r m a q s x y)
