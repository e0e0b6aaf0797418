-- The nodes that are listed are the nodes of the program.
use Rattle.std.proofs.Common.{◌≡◌, ℕ, zero, suc, ◌+◌, ◌-◌, ◌<◌, ◌≤◌, List, [], ◌∷◌, Some, refl, sym, ap, ◌∙◌, inl, inr, arith, subst}
use Rattle.std.specs.Prelude.{slice_get, length}
use Rattle.std.proofs.lemmas.Bool.{cases_eq, cases_lt}
use Rattle.argot_plain.specs.Lists.{In, here, there}
use Rattle.argot_plain.specs.Code.{Code, IsFunction, IsIn}
use Rattle.argot_plain.specs.WellFormed.{HasRanges}
use Rattle.argot_plain.specs.declared.functions.Function.{Function}
use Rattle.argot_text.specs.declared.path.PathStep.{PathStep}
use Rattle.argot_facts.specs.Graphs.{IsBefore, by_place, by_index, by_leaf}
use Rattle.argot_facts.specs.Numbers.{node, place_leaves, leaf_nodes, index_nodes, place_nodes, function_nodes, nodes_of}
use Rattle.argot_facts.specs.declared.nodes.Node.{Node}
use Rattle.argot_facts.proofs.Listed.{In-append, In-left, In-right, get_within, get_at, Sorted, sorted_append, sorted_cons}

-- nodes by leaf
leaf_found : (i k a n : ℕ) (x : Node) → In x (leaf_nodes i k a n) → (b : ℕ) × (b < n) × (x ≡ node i k (a + b))
leaf_found i k a zero x h = elim h [ ]
leaf_found i k a (suc n) x (here e) = let z : a ≡ a + 0 = omega arith in (0, omega arith, e ∙ ap (node i k) z)
leaf_found i k a (suc n) x (there h) = let r = leaf_found i k (a + 1) n x h in let z : a + 1 + r.0 ≡ a + suc r.0 = omega arith in (suc r.0, omega (arith, r.1), r.2 ∙ ap (node i k) z)

leaf_listed : (i k a n b : ℕ) → b < n → In (node i k (a + b)) (leaf_nodes i k a n)
leaf_listed i k a zero b h = absurd (omega arith)
leaf_listed i k a (suc n) zero h = let z : a + 0 ≡ a = omega arith in here (ap (node i k) z)
leaf_listed i k a (suc n) (suc b) h = let z : a + 1 + b ≡ a + suc b = omega arith in there (subst (λ c. In (node i k c) (leaf_nodes i k (a + 1) n)) z (leaf_listed i k (a + 1) n b (omega arith)))

leaf_sorted : (i k a n : ℕ) → Sorted IsBefore (leaf_nodes i k a n)
leaf_sorted i k a zero = λ m n x y l h e. absurd cc
leaf_sorted i k a (suc n) = sorted_cons IsBefore (node i k a) (leaf_nodes i k (a + 1) n) (leaf_sorted i k (a + 1) n)
    (λ b h. let r = leaf_found i k (a + 1) n b h in subst (IsBefore (node i k a)) (sym r.2) (by_leaf refl refl (omega arith)))

-- by index
pub index_found : (i k : ℕ) (lists : List (List (List PathStep))) (x : Node) → In x (index_nodes i k lists) → (j : ℕ) × (qs : List (List PathStep)) × (slice_get lists j ≡ Some qs) × (b : ℕ) × (b < length qs) × (x ≡ node i (k + j) b)
index_found i k [] x h = elim h [ ]
index_found i k (qs ∷ lists) x h = elim (In-append x (leaf_nodes i k 0 (length qs)) (index_nodes i (k + 1) lists) h) [
  | inl l ↦ let r = leaf_found i k 0 (length qs) x l in let z : k ≡ k + 0 = omega arith in let y : 0 + r.0 ≡ r.0 = omega arith in (0, qs, refl, r.0, r.1, r.2 ∙ ap (λ c. node i c (0 + r.0)) z ∙ ap (node i (k + 0)) y)
  | inr l ↦ let r = index_found i (k + 1) lists x l in let z : k + 1 + r.0 ≡ k + suc r.0 = omega arith in (suc r.0, r.1, r.2, r.3, r.4, r.5 ∙ ap (λ c. node i c r.3) z)
]

pub index_listed : (i k : ℕ) (lists : List (List (List PathStep))) (j : ℕ) (qs : List (List PathStep)) (b : ℕ) → slice_get lists j ≡ Some qs → b < length qs → In (node i (k + j) b) (index_nodes i k lists)
index_listed i k [] j qs b h l = absurd cc
index_listed i k (q ∷ lists) zero qs b h l =
    let z : k ≡ k + 0 = omega arith in let y : 0 + b ≡ b = omega arith in let e : qs ≡ q = cc in let s : b < length q = subst (λ (x : List (List PathStep)). b < length x) e l in
    In-left _ _ _ (subst (λ c. In (node i c b) (leaf_nodes i k 0 (length q))) z (subst (λ c. In (node i k c) (leaf_nodes i k 0 (length q))) y (leaf_listed i k 0 (length q) b s)))
index_listed i k (q ∷ lists) (suc j) qs b h l =
    let z : k + 1 + j ≡ k + suc j = omega arith in
    In-right _ (leaf_nodes i k 0 (length q)) _ (subst (λ c. In (node i c b) (index_nodes i (k + 1) lists)) z (index_listed i (k + 1) lists j qs b h l))

index_sorted : (i k : ℕ) (lists : List (List (List PathStep))) → Sorted IsBefore (index_nodes i k lists)
index_sorted i k [] = λ m n x y l h e. absurd cc
index_sorted i k (qs ∷ lists) = sorted_append IsBefore (leaf_nodes i k 0 (length qs)) (index_nodes i (k + 1) lists) (leaf_sorted i k 0 (length qs)) (index_sorted i (k + 1) lists)
    (λ a b h e. let r = leaf_found i k 0 (length qs) a h in let t = index_found i (k + 1) lists b e in subst (λ x. IsBefore x b) (sym r.2) (subst (IsBefore (node i k (0 + r.0))) (sym t.5) (by_index refl (omega arith))))

-- by place
pub place_found : (p : Code) (fn : Function) (i n : ℕ) (x : Node) → In x (place_nodes p fn i n) → (j : ℕ) × (i ≤ j) × (j < i + n) × In x (index_nodes j 0 (place_leaves p fn j))
place_found p fn i zero x h = elim h [ ]
place_found p fn i (suc n) x h = elim (In-append x (index_nodes i 0 (place_leaves p fn i)) (place_nodes p fn (i + 1) n) h) [
  | inl l ↦ (i, omega arith, omega arith, l)
  | inr l ↦ let r = place_found p fn (i + 1) n x l in (r.0, omega (arith, r.1), omega (arith, r.2), r.3)
]

pub place_listed : (p : Code) (fn : Function) (i n j : ℕ) (x : Node) → i ≤ j → j < i + n → In x (index_nodes j 0 (place_leaves p fn j)) → In x (place_nodes p fn i n)
place_listed p fn i zero j x l h m = absurd (omega arith)
place_listed p fn i (suc n) j x l h m = elim (cases_eq i j) [
  | inl e ↦ In-left _ _ _ (subst (λ c. In x (index_nodes c 0 (place_leaves p fn c))) (sym e) m)
  | inr e ↦ In-right _ (index_nodes i 0 (place_leaves p fn i)) _ (place_listed p fn (i + 1) n j x (omega arith) (omega arith) m)
]

its_place : (p : Code) (fn : Function) (j : ℕ) (x : Node) → In x (index_nodes j 0 (place_leaves p fn j)) → x.place ≡ j
its_place p fn j x h = let r = index_found j 0 (place_leaves p fn j) x h in ap (λ (y : Node). y.place) r.5

place_sorted : (p : Code) (fn : Function) (i n : ℕ) → Sorted IsBefore (place_nodes p fn i n)
place_sorted p fn i zero = λ m n x y l h e. absurd cc
place_sorted p fn i (suc n) = sorted_append IsBefore (index_nodes i 0 (place_leaves p fn i)) (place_nodes p fn (i + 1) n) (index_sorted i 0 (place_leaves p fn i)) (place_sorted p fn (i + 1) n)
    (λ a b h e. let r = place_found p fn (i + 1) n b e in by_place (omega (arith, its_place p fn i a h, its_place p fn r.0 b r.3, r.1)))

-- by function
pub function_found : (p : Code) (fns : List Function) (x : Node) → In x (function_nodes p fns) → (g : ℕ) × (fn : Function) × (slice_get fns g ≡ Some fn) × In x (place_nodes p fn fn.entry (fn.leave + 1 - fn.entry))
function_found p [] x h = elim h [ ]
function_found p (fn ∷ fns) x h = elim (In-append x (place_nodes p fn fn.entry (fn.leave + 1 - fn.entry)) (function_nodes p fns) h) [
  | inl l ↦ (0, fn, refl, l)
  | inr l ↦ let r = function_found p fns x l in (suc r.0, r.1, r.2, r.3)
]

pub function_listed : (p : Code) (fns : List Function) (g : ℕ) (fn : Function) (x : Node) → slice_get fns g ≡ Some fn → In x (place_nodes p fn fn.entry (fn.leave + 1 - fn.entry)) → In x (function_nodes p fns)
function_listed p [] g fn x h m = absurd cc
function_listed p (f ∷ fns) zero fn x h m = let e : fn ≡ f = cc in In-left _ _ _ (subst (λ (c : Function). In x (place_nodes p c c.entry (c.leave + 1 - c.entry))) e m)
function_listed p (f ∷ fns) (suc g) fn x h m = In-right _ (place_nodes p f f.entry (f.leave + 1 - f.entry)) _ (function_listed p fns g fn x h m)

-- each function begins behind the one before it
abbrev InOrder : ℕ → List Function → Type 0
InOrder e [] = Unit {0}
InOrder e (fn ∷ fns) = (e ≤ fn.entry) × (fn.entry ≤ fn.leave) × InOrder (fn.leave + 1) fns

in_order_from : (p : Code) (r : HasRanges p) (fns : List Function) (g e : ℕ) → ((k : ℕ) (fn : Function) → slice_get fns k ≡ Some fn → IsFunction p (g + k) fn) → ((fn : Function) → slice_get fns 0 ≡ Some fn → e ≤ fn.entry) → InOrder e fns
in_order_from p r [] g e same first = tt
in_order_from p r (fn ∷ fns) g e same first =
    let z : g + 0 ≡ g = omega arith in
    let is : IsFunction p g fn = subst (λ c. IsFunction p c fn) z (same 0 fn refl) in
    let i = r.inside g fn is in (
      first fn refl,
      omega (arith, i.0, i.1),
      in_order_from p r fns (g + 1) (fn.leave + 1)
          (λ k f h. let y : g + suc k ≡ g + 1 + k = omega arith in subst (λ c. IsFunction p c f) y (same (suc k) f h))
          (λ f h. let n = r.next g fn f is (same 1 f h) in omega (arith, n)),
    )

ordered_ranges : (p : Code) → HasRanges p → InOrder 0 p.functions
ordered_ranges p r = in_order_from p r p.functions 0 0 (λ k fn h. let z : k ≡ 0 + k = omega arith in subst (λ c. IsFunction p c fn) z h) (λ fn h. omega arith)

behind : (p : Code) (fns : List Function) (e : ℕ) → InOrder e fns → (x : Node) → In x (function_nodes p fns) → e ≤ x.place
behind p [] e o x h = elim h [ ]
behind p (fn ∷ fns) e o x h = elim (In-append x (place_nodes p fn fn.entry (fn.leave + 1 - fn.entry)) (function_nodes p fns) h) [
  | inl l ↦ let r = place_found p fn fn.entry (fn.leave + 1 - fn.entry) x l in omega (arith, o.0, r.1, its_place p fn r.0 x r.3)
  | inr l ↦ omega (arith, o.0, o.1, behind p fns (fn.leave + 1) o.2 x l)
]

function_sorted : (p : Code) (fns : List Function) (e : ℕ) → InOrder e fns → Sorted IsBefore (function_nodes p fns)
function_sorted p [] e o = λ m n x y l h k. absurd cc
function_sorted p (fn ∷ fns) e o = sorted_append IsBefore (place_nodes p fn fn.entry (fn.leave + 1 - fn.entry)) (function_nodes p fns) (place_sorted p fn fn.entry (fn.leave + 1 - fn.entry)) (function_sorted p fns (fn.leave + 1) o.2)
    (λ a b h k. let r = place_found p fn fn.entry (fn.leave + 1 - fn.entry) a h in by_place (omega (arith, r.2, o.1, its_place p fn r.0 a r.3, behind p fns (fn.leave + 1) o.2 b k)))

-- each node stands before all that follow it
pub nodes_sorted : (p : Code) → HasRanges p → Sorted IsBefore (nodes_of p)
nodes_sorted p r = function_sorted p p.functions 0 (ordered_ranges p r)

module _ (p : Code) (r : HasRanges p) where
  -- the places of a function come before those of each later one
  pub apart : (n g : ℕ) (fn after : Function) → IsFunction p g fn → IsFunction p (g + suc n) after → fn.leave < after.entry
  apart zero g fn after is later = let z : g + suc zero ≡ g + 1 = omega arith in omega (arith, r.next g fn after is (subst (λ c. IsFunction p c after) z later))
  apart (suc n) g fn after is later =
      let w = get_within p.functions (g + suc (suc n)) after later in
      let mid = get_at p.functions (g + suc n) (omega (arith, w)) in
      let z : g + suc (suc n) ≡ g + suc n + 1 = omega arith in
      let e = r.next (g + suc n) mid.0 after mid.1 (subst (λ c. IsFunction p c after) z later) in
      let i = r.inside (g + suc n) mid.0 mid.1 in
      omega (arith, apart n g fn mid.0 is mid.1, e, i.0, i.1)

  same_fn : (g : ℕ) (a b : Function) → IsFunction p g a → IsFunction p g b → a ≡ b
  same_fn g a b h k = let e = sym h ∙ k in cc

  -- a place is in one function
  pub one_function : (i g h : ℕ) → IsIn p i g → IsIn p i h → g ≡ h
  one_function i g h a b = elim (cases_eq g h) [
    | inl e ↦ e
    | inr e ↦ elim (cases_lt g h) [
      | inl l ↦ let z : h ≡ g + suc (h - (g + 1)) = omega arith in absurd (omega (arith, apart (h - (g + 1)) g a.fn b.fn a.is (subst (λ c. IsFunction p c b.fn) z b.is), a.high, b.low))
      | inr l ↦ let z : g ≡ h + suc (g - (h + 1)) = omega arith in absurd (omega (arith, apart (g - (h + 1)) h b.fn a.fn b.is (subst (λ c. IsFunction p c a.fn) z a.is), b.high, a.low))
    ]
  ]

  -- and each place is in one
  find_in : (i n g : ℕ) (fn : Function) → IsFunction p g fn → g + n ≡ length p.functions → fn.entry ≤ i → i < length p.instrs → (h : ℕ) × IsIn p i h
  find_in i zero g fn is e low within = absurd (omega (arith, get_within p.functions g fn is))
  find_in i (suc n) g fn is e low within = elim (cases_lt fn.leave i) [
    | inl past ↦ elim (cases_eq (g + 1) (length p.functions)) [
      | inl end ↦ absurd (omega (arith, r.last g fn is end))
      | inr more ↦
          let after = get_at p.functions (g + 1) (omega (arith, get_within p.functions g fn is)) in
          find_in i n (g + 1) after.0 after.1 (omega (arith, e)) (omega (arith, r.next g fn after.0 is after.1)) within
    ]
    | inr l ↦ (g, record { fn = fn; is = is; low = low; high = omega arith })
  ]

  pub place_in : (fn : Function) → IsFunction p 0 fn → (i : ℕ) → i < length p.instrs → (h : ℕ) × IsIn p i h
  place_in fn is i within = find_in i (length p.functions) 0 fn is (omega arith) (omega (arith, r.first fn is)) within
