-- Where data may go from a node at most, by evaluation: a bound from above of the edges, which looks at places and indices and not
-- at leaves, at which registers are read and where definitions reach, and at the functions that a callee may mean at most.
use Rattle.std.proofs.Common.{◌≡◌, ℕ, zero, suc, ◌+◌, ◌<◌, Bool, true, false, not, List, [], ◌∷◌, ◌++◌, Option, Some, None, refl, sym, ap, ◌∙◌, subst, inl, inr, arith, length, eqb-true, eq-eqb, lt-ltb}
use Rattle.std.specs.Prelude.{◌||◌, ◌&&◌, ◌==◌, slice_get, nat_lt, map}
use Rattle.argot_plain.specs.Lists.{In, here, there, member}
use Rattle.argot_plain.specs.Code.{by_call, by_go, by_defer, Code, IsAt, Next, Successor, successor, Defines, by_kind, by_entry, Hands, kind_of, defined, handed_values, parts_registers}
use Rattle.argot_plain.specs.declared.functions.Function.{Function}
use Rattle.argot_plain.specs.declared.instructions.Callee.{Callee}
use Rattle.argot_plain.specs.declared.instructions.Callee.TheVariants.{Static, Value, Method}
use Rattle.argot_plain.specs.declared.instructions.Instr.{Instr}
use Rattle.argot_plain.specs.declared.instructions.Kind.{Kind}
use Rattle.argot_plain.specs.declared.instructions.Kind.TheVariants.{Op, Move, Join, New, Step, Read, Write, Grow, Global, Assert, Call, Go, Defer, RunDefers, Leave, Goto, Branch, Panic, Passed}
use Rattle.argot_plain.specs.declared.problems.Problem.{Problem}
use Rattle.argot_plain.specs.declared.sites.Site.{Site}
use Rattle.argot_text.specs.declared.path.PathStep.{PathStep}
use Rattle.argot_facts.specs.Copies.{Takes, Lasts, last_here, last_there}
use Rattle.argot_facts.specs.Reaching.{Reaches, next, on}
use Rattle.argot_facts.specs.Refers.{Holds, Targets, target_static, target_value, target_method}

-- lists

pub in_left : {A : Type 0} (x : A) (xs ys : List A) → In x xs → In x (xs ++ ys)
in_left x [] ys h = elim h [ ]
in_left x (y ∷ xs) ys (here e) = here e
in_left x (y ∷ xs) ys (there h) = there (in_left x xs ys h)

pub in_right : {A : Type 0} (x : A) (xs ys : List A) → In x ys → In x (xs ++ ys)
in_right x [] ys h = h
in_right x (y ∷ xs) ys h = there (in_right x xs ys h)

pub in_map : {A B : Type 0} (f : A → B) (x : A) (xs : List A) → In x xs → In (f x) (map f xs)
in_map f x [] h = elim h [ ]
in_map f x (y ∷ xs) (here e) = here (ap f e)
in_map f x (y ∷ xs) (there h) = there (in_map f x xs h)

-- the lists of all items, one after the other
abbrev pub each : {A B : Type 0} → (A → List B) → List A → List B
each f [] = []
each f (x ∷ xs) = f x ++ each f xs

pub in_each : {A B : Type 0} (f : A → List B) (x : A) (y : B) (xs : List A) → In x xs → In y (f x) → In y (each f xs)
in_each {A} {B} f x y [] h k = elim h [ ]
in_each {A} {B} f x y (z ∷ xs) (here e) k = in_left y (f z) (each f xs) (subst (λ w. In y (f w)) e k)
in_each {A} {B} f x y (z ∷ xs) (there h) k = in_right y (f z) (each f xs) (in_each f x y xs h k)

abbrev pub when : {A : Type 0} → Bool → List A → List A
when true xs = xs
when false xs = []

pub in_when : {A : Type 0} (x : A) (xs : List A) (b : Bool) → b ≡ true → In x xs → In x (when b xs)
in_when x xs true e h = h
in_when x xs false e h = absurd cc

pub in_member : (n : ℕ) (ns : List ℕ) → In n ns → member n ns ≡ true
in_member n [] h = elim h [ ]
in_member n (m ∷ ns) (here e) = ap (λ b. b || member n ns) (eq-eqb n m e)
in_member n (m ∷ ns) (there h) = or_true (n == m) (member n ns) (in_member n ns h)
  where
    or_true : (a b : Bool) → b ≡ true → (a || b) ≡ true
    or_true true b e = refl
    or_true false b e = e

pub in_got : {A : Type 0} (xs : List A) (k : ℕ) (x : A) → slice_get xs k ≡ Some x → In x xs
in_got [] k x h = absurd cc
in_got (y ∷ xs) zero x h = let e : x ≡ y = cc in here e
in_got (y ∷ xs) (suc k) x h = there (in_got xs k x h)

-- what f gives of the instruction at each place, from the place i on
abbrev pub at_places : {A : Type 0} → (ℕ → Kind → List A) → ℕ → List Instr → List A
at_places f i [] = []
at_places f i (x ∷ xs) = f i x.kind ++ at_places f (i + 1) xs

pub in_places : {A : Type 0} (f : ℕ → Kind → List A) (y : A) (i k : ℕ) (kind : Kind) (xs : List Instr) → kind_of (slice_get xs k) ≡ Some kind → In y (f (i + k) kind) → In y (at_places f i xs)
in_places f y i k kind [] h m = absurd cc
in_places f y i zero kind (x ∷ xs) h m =
    let z : i + 0 ≡ i = omega arith in
    let e : kind ≡ x.kind = cc in
    in_left y (f i x.kind) (at_places f (i + 1) xs) (subst (λ n. In y (f n x.kind)) z (subst (λ k. In y (f (i + 0) k)) e m))
in_places f y i (suc k) kind (x ∷ xs) h m =
    let z : i + suc k ≡ i + 1 + k = omega arith in
    in_right y (f i x.kind) (at_places f (i + 1) xs) (in_places f y (i + 1) k kind xs h (subst (λ n. In y (f n kind)) z m))

-- targets

abbrev with_function : Option ℕ → List (ℕ × Bool) → List (ℕ × Bool)
with_function None rest = rest
with_function (Some h) rest = (h, true) ∷ (h, false) ∷ rest

abbrev site_functions : List Site → List (ℕ × Bool)
site_functions [] = []
site_functions (site ∷ sites) = with_function site.function (site_functions sites)

-- the functions that a callee may mean at most, each with whether it takes the reference
abbrev pub may_mean : Code → Callee → List (ℕ × Bool)
may_mean p (Static h) = (h, false) ∷ []
may_mean p (Value r) = site_functions p.sites
may_mean p (Method r name) = map (λ (x : ℕ × List ℕ × ℕ). (x.2, false)) p.methods

abbrev pub may_target : Code → Kind → List (ℕ × Bool)
may_target p (Call to callee args) = may_mean p callee
may_target p (Go callee args) = may_mean p callee
may_target p (Defer callee args) = may_mean p callee
may_target p _ = []

in_sites : (sites : List Site) (s h : ℕ) (site : Site) (takes : Bool) → slice_get sites s ≡ Some site → site.function ≡ Some h → In (h, takes) (site_functions sites)
in_sites [] s h site takes e f = absurd cc
in_sites (x ∷ sites) zero h site takes e f =
    let g : x.function ≡ Some h = ap (λ (y : Site). y.function) (some_is x site e) ∙ f in
    subst (λ o. In (h, takes) (with_function o (site_functions sites))) (sym g) (either takes)
  where
    some_is : (a b : Site) → Some a ≡ Some b → a ≡ b
    some_is a b h = cc

    either : (b : Bool) → In (h, b) ((h, true) ∷ (h, false) ∷ site_functions sites)
    either true = here refl
    either false = there (here refl)
in_sites (x ∷ sites) (suc s) h site takes e f = behind x.function (in_sites sites s h site takes e f)
  where
    behind : (o : Option ℕ) → In (h, takes) (site_functions sites) → In (h, takes) (with_function o (site_functions sites))
    behind None m = m
    behind (Some g) m = there (there m)

hands_mean : (p : Code) (kind : Kind) (callee : Callee) (args : List ℕ) (n : ℕ) → Hands kind callee args n → may_target p kind ≡ may_mean p callee
hands_mean p kind callee args n by_call = refl
hands_mean p kind callee args n by_go = refl
hands_mean p kind callee args n by_defer = refl

pub same_kind : (o : Option Kind) (a b : Kind) → o ≡ Some a → o ≡ Some b → a ≡ b
same_kind o a b h k = let e = sym h ∙ k in cc

-- each target of a place is among them
pub in_targets : (p : Code) (i g : ℕ) (takes : Bool) (kind : Kind) → IsAt p i kind → Holds p (Targets i g takes) → In (g, takes) (may_target p kind)
in_targets p i g takes kind at (target_static h n other args inside live is hands) =
    subst (λ k. In (g, false) (may_target p k)) (same_kind _ other kind is at) (subst (In (g, false)) (sym (hands_mean p other (Static g) args n hands)) (here refl))
in_targets p i g takes kind at (target_value h n d j r s path other args site fn inside live is hands reached refers site_is function is_fn takes_is) =
    subst (λ k. In (g, takes) (may_target p k)) (same_kind _ other kind is at) (subst (In (g, takes)) (sym (hands_mean p other (Value r) args n hands)) (in_sites p.sites s g site takes site_is function))
in_targets p i g takes kind at (target_method h n d j r s name path other args site inside live is hands reached refers site_is method) =
    subst (λ k. In (g, false) (may_target p k)) (same_kind _ other kind is at)
    (subst (In (g, false)) (sym (hands_mean p other (Method r name) args n hands)) (in_map (λ (x : ℕ × List ℕ × ℕ). (x.2, false)) (site.dynamic, name, g) p.methods method))

-- definitions

abbrev from_option : Option ℕ → List ℕ
from_option None = []
from_option (Some r) = r ∷ []

abbrev defined_by : Option Kind → ℕ → List ℕ
defined_by None j = []
defined_by (Some kind) j = from_option (slice_get (defined kind) j)

abbrev params_at : List Function → ℕ → ℕ → List ℕ
params_at [] d j = []
params_at (fn ∷ fns) d j = when ((fn.entry == d) && nat_lt j fn.params) (j ∷ []) ++ params_at fns d j

-- the registers that the place d defines as its result j
abbrev pub defines : Code → ℕ → ℕ → List ℕ
defines p d j = defined_by (kind_of (slice_get p.instrs d)) j ++ params_at p.functions d j

in_params : (fns : List Function) (g d j : ℕ) (fn : Function) → slice_get fns g ≡ Some fn → d ≡ fn.entry → j < fn.params → In j (params_at fns d j)
in_params [] g d j fn is at below = absurd cc
in_params (x ∷ fns) zero d j fn is at below =
    let e : fn ≡ x = cc in
    in_left j (when ((x.entry == d) && nat_lt j x.params) (j ∷ [])) (params_at fns d j)
    (in_when j (j ∷ []) ((x.entry == d) && nat_lt j x.params)
    (both (x.entry == d) (nat_lt j x.params) (eq-eqb x.entry d (sym (at ∙ ap (λ (f : Function). f.entry) e))) (lt-ltb j x.params (subst (λ (f : Function). j < f.params) e below))) (here refl))
  where
    both : (a b : Bool) → a ≡ true → b ≡ true → (a && b) ≡ true
    both true b e f = f
    both false b e f = absurd cc
in_params (x ∷ fns) (suc g) d j fn is at below = in_right j (when ((x.entry == d) && nat_lt j x.params) (j ∷ [])) (params_at fns d j) (in_params fns g d j fn is at below)

pub in_defines : (p : Code) (d j r : ℕ) → Defines p d j r → In r (defines p d j)
in_defines p d j r (by_kind kind at got) =
    in_left r (defined_by (kind_of (slice_get p.instrs d)) j) (params_at p.functions d j)
    (subst (λ o. In r (defined_by o j)) (sym at) (subst (λ o. In r (from_option o)) (sym got) (here refl)))
in_defines p d j r (by_entry g e below same) =
    in_right r (defined_by (kind_of (slice_get p.instrs d)) j) (params_at p.functions d j)
    (subst (λ n. In n (params_at p.functions d j)) (sym same) (in_params p.functions g d j e.fn e.is e.at below))

-- where definitions reach

abbrev nexts : Option Kind → ℕ → List ℕ
nexts None i = []
nexts (Some (Leave from)) i = []
nexts (Some (Panic from)) i = []
nexts (Some (Goto target)) i = target ∷ []
nexts (Some (Branch targets)) i = targets
nexts (Some _) i = (i + 1) ∷ []

abbrev pub successors : Code → ℕ → List ℕ
successors p i = nexts (kind_of (slice_get p.instrs i)) i

in_nexts : (kind : Kind) (i j : ℕ) → Next kind i j → In j (nexts (Some kind) i)
in_nexts (Op to from) i j h = here h
in_nexts (Move to from path) i j h = here h
in_nexts (Join to parts) i j h = here h
in_nexts (New to site) i j h = here h
in_nexts (Step to from path) i j h = here h
in_nexts (Read to at qs) i j h = here h
in_nexts (Write at from) i j h = here h
in_nexts (Grow to at items) i j h = here h
in_nexts (Global to global) i j h = here h
in_nexts (Assert to from target) i j h = here h
in_nexts (Call to callee args) i j h = here h
in_nexts (Go callee args) i j h = here h
in_nexts (Defer callee args) i j h = here h
in_nexts RunDefers i j h = here h
in_nexts (Leave from) i j h = absurd h
in_nexts (Panic from) i j h = absurd h
in_nexts (Goto target) i j h = here h.0
in_nexts (Branch targets) i j h = in_got targets h.0 j h.1
in_nexts (Passed to callee) i j h = here h

pub in_successors : (p : Code) (i j : ℕ) → Successor p i j → In j (successors p i)
in_successors p i j (successor kind at goes) = subst (λ o. In j (nexts o i)) (sym at) (in_nexts kind i j goes)

abbrev redefines : Option Kind → ℕ → Bool
redefines None r = false
redefines (Some kind) r = member r (defined kind)

abbrev pub all_in : List ℕ → List ℕ → Bool
all_in [] ms = true
all_in (n ∷ ns) ms = member n ms && all_in ns ms

abbrev each_closed : Code → ℕ → List ℕ → List ℕ → Bool
each_closed p r [] all = true
each_closed p r (i ∷ is) all = (redefines (kind_of (slice_get p.instrs i)) r || all_in (successors p i) all) && each_closed p r is all

-- whether these places are closed under going on from the place d without a definition of r between
abbrev closed : Code → ℕ → ℕ → List ℕ → Bool
closed p d r all = all_in (successors p d) all && each_closed p r all all

pub and_left : (a b : Bool) → (a && b) ≡ true → a ≡ true
and_left true b h = refl
and_left false b h = absurd cc

pub and_right : (a b : Bool) → (a && b) ≡ true → b ≡ true
and_right true b h = h
and_right false b h = absurd cc

pub all_have : (ns ms : List ℕ) (n : ℕ) → all_in ns ms ≡ true → In n ns → member n ms ≡ true
all_have [] ms n h m = elim m [ ]
all_have (x ∷ ns) ms n h (here e) = subst (λ y. member y ms ≡ true) (sym e) (and_left (member x ms) (all_in ns ms) h)
all_have (x ∷ ns) ms n h (there m) = all_have ns ms n (and_right (member x ms) (all_in ns ms) h) m

pub member_in : (n : ℕ) (ns : List ℕ) → member n ns ≡ true → In n ns
member_in n [] h = absurd cc
member_in n (m ∷ ns) h = found (n == m) refl h (member_in n ns)
  where
    found : (b : Bool) → (n == m) ≡ b → (b || member n ns) ≡ true → (member n ns ≡ true → In n ns) → In n (m ∷ ns)
    found true e k rec = here (eqb-true n m e)
    found false e k rec = there (rec k)

got_in : {A : Type 0} (x : A) (xs : List A) → In x xs → (k : ℕ) × (slice_get xs k ≡ Some x)
got_in x [] h = elim h [ ]
got_in x (y ∷ xs) (here e) = (0, ap Some (sym e))
got_in x (y ∷ xs) (there h) = let r = got_in x xs h in (suc r.0, r.1)

redefined : (p : Code) (i r : ℕ) (o : Option Kind) → kind_of (slice_get p.instrs i) ≡ o → redefines o r ≡ true → (k : ℕ) × Defines p i k r
redefined p i r None e h = absurd cc
redefined p i r (Some kind) e h = let g = got_in r (defined kind) (member_in r (defined kind) h) in (g.0, by_kind kind e g.1)

closed_at : (p : Code) (r i j : ℕ) (is all : List ℕ) → each_closed p r is all ≡ true → In i is → ((k : ℕ) → Defines p i k r → ⊥) → In j (successors p i) → member j all ≡ true
closed_at p r i j [] all h m other goes = elim m [ ]
closed_at p r i j (x ∷ is) all h (there m) other goes = closed_at p r i j is all (and_right (redefines (kind_of (slice_get p.instrs x)) r || all_in (successors p x) all) (each_closed p r is all) h) m other goes
closed_at p r i j (x ∷ is) all h (here e) other goes =
    let g = and_left (redefines (kind_of (slice_get p.instrs x)) r || all_in (successors p x) all) (each_closed p r is all) h in
    case (redefines (kind_of (slice_get p.instrs i)) r) refl (subst (λ y. (redefines (kind_of (slice_get p.instrs y)) r || all_in (successors p y) all) ≡ true) (sym e) g)
  where
    case : (b : Bool) → redefines (kind_of (slice_get p.instrs i)) r ≡ b → (b || all_in (successors p i) all) ≡ true → member j all ≡ true
    case true e k = let d = redefined p i r (kind_of (slice_get p.instrs i)) refl e in absurd (other d.0 d.1)
    case false e k = all_have (successors p i) all j k goes

stays : (p : Code) (d r i : ℕ) (all : List ℕ) → closed p d r all ≡ true → Reaches p d r i → member i all ≡ true
stays p d r i all h (next goes) = all_have (successors p d) all i (and_left (all_in (successors p d) all) (each_closed p r all all) h) (in_successors p d i goes)
stays p d r i all h (on {i = m} before other goes) =
    closed_at p r m i all all (and_right (all_in (successors p d) all) (each_closed p r all all) h) (member_in m all (stays p d r m all h before)) other (in_successors p m i goes)

abbrev grown_front : Bool → List ℕ → List ℕ → List ℕ
grown_front true more front = front
grown_front false more front = more ++ front

abbrev grown_seen : Bool → ℕ → List ℕ → List ℕ
grown_seen true i seen = seen
grown_seen false i seen = i ∷ seen

abbrev spread : ℕ → Code → ℕ → List ℕ → List ℕ → List ℕ
spread zero p r front seen = seen
spread (suc n) p r [] seen = seen
spread (suc n) p r (i ∷ front) seen =
    spread n p r (grown_front (member i seen || redefines (kind_of (slice_get p.instrs i)) r) (successors p i) front) (grown_seen (member i seen) i seen)

abbrev or_all : Bool → List ℕ → Code → List ℕ
or_all true is p = is
or_all false is p = at_places (λ i kind. i ∷ []) 0 p.instrs

-- the places that a definition of r at d reaches at most
abbrev pub may_reach : Code → ℕ → ℕ → List ℕ
may_reach p d r = or_all (closed p d r (spread 100 p r (successors p d) [])) (spread 100 p r (successors p d) []) p

in_or_all : (p : Code) (d r i : ℕ) (kind : Kind) (is : List ℕ) (b : Bool) → closed p d r is ≡ b → IsAt p i kind → Reaches p d r i → In i (or_all b is p)
in_or_all p d r i kind is true e at h = member_in i is (stays p d r i is e h)
in_or_all p d r i kind is false e at h = let z : 0 + i ≡ i = omega arith in in_places (λ i kind. i ∷ []) i 0 i kind p.instrs at (here (sym z))

pub in_reach : (p : Code) (d r i : ℕ) (kind : Kind) → IsAt p i kind → Reaches p d r i → In i (may_reach p d r)
in_reach p d r i kind at h = in_or_all p d r i kind (spread 100 p r (successors p d) []) (closed p d r (spread 100 p r (successors p d) [])) refl at h

-- what an instruction takes

abbrev at_zero : Bool → List ℕ
at_zero true = 0 ∷ []
at_zero false = []

abbrev at_one : Bool → List ℕ
at_one true = 1 ∷ []
at_one false = []

-- the numbers from n on at which r stands in the list
abbrev positions : ℕ → List ℕ → ℕ → List ℕ
positions r [] n = []
positions r (x ∷ xs) n = when (x == r) (n ∷ []) ++ positions r xs (n + 1)

-- the indices to which an instruction of this kind moves data that the register r holds
abbrev pub may_take : Problem → ℕ → Kind → List ℕ
may_take pr r (Op to from) = at_zero (member r from)
may_take pr r (Move to from path) = at_zero (from == r)
may_take pr r (Join to parts) = at_zero (member r (parts_registers parts))
may_take pr r (Step to from path) = at_zero (from == r)
may_take pr r (Read to at qs) = at_zero (at == r)
may_take pr r (Write at from) = at_zero (from == r)
may_take pr r (Grow to at items) = at_zero (at == r) ++ at_one (member r items)
may_take pr r (Assert to from target) = at_zero (from == r)
may_take pr r (Call to callee args) = positions r (handed_values callee args) (length to)
may_take pr r (Go callee args) = positions r (handed_values callee args) 0
may_take pr r (Defer callee args) = positions r (handed_values callee args) 0
may_take pr r (Leave from) = positions r from 0
may_take pr r (Passed to callee) = at_zero ((to == r) && not (member callee pr.validators))
may_take pr r _ = []

in_positions : (r k n : ℕ) (xs : List ℕ) → slice_get xs k ≡ Some r → In (n + k) (positions r xs n)
in_positions r k n [] h = absurd cc
in_positions r zero n (x ∷ xs) h =
    let z : n + 0 ≡ n = omega arith in
    let e : x ≡ r = cc in
    in_left (n + 0) (when (x == r) (n ∷ [])) (positions r xs (n + 1)) (in_when (n + 0) (n ∷ []) (x == r) (eq-eqb x r e) (here z))
in_positions r (suc k) n (x ∷ xs) h =
    let z : n + 1 + k ≡ n + suc k = omega arith in
    in_right (n + suc k) (when (x == r) (n ∷ [])) (positions r xs (n + 1)) (subst (λ m. In m (positions r xs (n + 1))) z (in_positions r k (n + 1) xs h))

zero_in : (b : Bool) (k : ℕ) → b ≡ true → k ≡ 0 → In k (at_zero b)
zero_in true k e z = here z
zero_in false k e z = absurd cc

one_in : (b : Bool) (k : ℕ) → b ≡ true → k ≡ 1 → In k (at_one b)
one_in true k e z = here z
one_in false k e z = absurd cc

lasts_in : (path q : List PathStep) (r : ℕ) (parts : List (List PathStep × ℕ)) → Lasts path r q parts → In r (parts_registers parts)
lasts_in path q r [] h = elim h [ ]
lasts_in path q r (x ∷ parts) (last_here a b c) = here (sym b)
lasts_in path q r (x ∷ parts) (last_there h) = there (lasts_in path q r parts h)

pub in_take : (pr : Problem) (kind : Kind) (r k : ℕ) (q q' : List PathStep) → Takes pr kind r q k q' → In k (may_take pr r kind)
in_take pr (Op to from) r k q q' h = zero_in (member r from) k h.0 h.1
in_take pr (Move to from path) r k q q' h = zero_in (from == r) k (eq-eqb from r (sym h.0)) h.1
in_take pr (Join to parts) r k q q' h = zero_in (member r (parts_registers parts)) k (in_member r (parts_registers parts) (lasts_in h.0 q' r parts h.1)) h.2
in_take pr (Step to from path) r k q q' h = zero_in (from == r) k (eq-eqb from r (sym h.0)) h.1
in_take pr (Read to at qs) r k q q' h = zero_in (at == r) k (eq-eqb at r (sym h.0)) h.1
in_take pr (Write at from) r k q q' h = zero_in (from == r) k (eq-eqb from r (sym h.0)) h.1
in_take pr (Grow to at items) r k q q' (inl h) = in_left k (at_zero (at == r)) (at_one (member r items)) (zero_in (at == r) k (eq-eqb at r (sym h.0)) h.1)
in_take pr (Grow to at items) r k q q' (inr h) = in_right k (at_zero (at == r)) (at_one (member r items)) (one_in (member r items) k (in_member r items h.0) h.1)
in_take pr (Assert to from target) r k q q' h = zero_in (from == r) k (eq-eqb from r (sym h.0)) h.1
in_take pr (Call to callee args) r k q q' h = subst (λ n. In n (positions r (handed_values callee args) (length to))) (sym h.2) (in_positions r h.0 (length to) (handed_values callee args) h.1)
in_take pr (Go callee args) r k q q' h = let z : 0 + k ≡ k = omega arith in subst (λ n. In n (positions r (handed_values callee args) 0)) z (in_positions r k 0 (handed_values callee args) h.0)
in_take pr (Defer callee args) r k q q' h = let z : 0 + k ≡ k = omega arith in subst (λ n. In n (positions r (handed_values callee args) 0)) z (in_positions r k 0 (handed_values callee args) h.0)
in_take pr (Leave from) r k q q' h = let z : 0 + k ≡ k = omega arith in subst (λ n. In n (positions r from 0)) z (in_positions r k 0 from h.0)
in_take pr (Passed to callee) r k q q' h = zero_in ((to == r) && not (member callee pr.validators)) k (both (to == r) (member callee pr.validators) (eq-eqb to r (sym h.0)) h.3) h.1
  where
    both : (a b : Bool) → a ≡ true → b ≡ false → (a && not b) ≡ true
    both true true e f = absurd cc
    both true false e f = refl
    both false b e f = absurd cc
in_take pr (New to site) r k q q' h = absurd h
in_take pr (Global to global) r k q q' h = absurd h
in_take pr RunDefers r k q q' h = absurd h
in_take pr (Goto target) r k q q' h = absurd h
in_take pr (Branch targets) r k q q' h = absurd h
in_take pr (Panic from) r k q q' h = absurd h
