-- What the tests of sites say.
use Rattle.std.proofs.Common.{◌≡◌, ℕ, zero, suc, ◌+◌, ◌<◌, ◌≤◌, Bool, true, false, List, [], ◌∷◌, Some, None, Option, refl, sym, ap, ◌∙◌, inl, inr, arith, subst, eqb-true, ltb-true, ltb-false, leb-true, map}
use Rattle.std.specs.Prelude.{slice_get, length, ◌==◌, ◌&&◌, ◌||◌, not, is_none, nat_lt, nat_le, if◌then◌else◌}
use Rattle.std.proofs.lemmas.Bool.{and_parts, or_cases, cases_lt, cases_Bool}
use Rattle.argot_plain.specs.Lists.{In, without_first}
use Rattle.argot_plain.specs.Lists.In.{here, there}
use Rattle.argot_plain.specs.Code.{kind_of}
use Rattle.argot_plain.specs.WellFormed.{MakesObjects, StandsBefore}
use Rattle.argot_plain.specs.WellFormed.MakesObjects.{by_new, by_grow, by_call}
use Rattle.argot_plain.specs.WellFormed.StandsBefore.{by_place, by_result, by_leaf}
use Rattle.argot_plain.specs.declared.functions.Function.{Function}
use Rattle.argot_plain.specs.declared.functions.Ident.{Ident}
use Rattle.argot_plain.specs.declared.instructions.Instr.{Instr}
use Rattle.argot_plain.specs.declared.instructions.Kind.{Kind}
use Rattle.argot_plain.specs.declared.instructions.Kind.TheVariants.{New, Grow, Call}
use Rattle.argot_plain.specs.declared.sites.Site.{Site}
use Rattle.argot_plain_parts.proofs.Parted.{three, four, five}
use Rattle.argot_plain_parts.proofs.Alike.{same_elements_are}
use Rattle.argot_plain_parts.specs.Leaves.{no_path_twice, same_elements}
use Rattle.argot_plain_parts.specs.Parts.{leaves_of}
use Rattle.argot_plain_parts.specs.Sites.{stands_before, before_next, in_order, is_single, is_made_by, shape_fits, site_fits, sites_fit, items_fit, fits_function, from_place, fits_first, owned_fit, from_site, stands_at, is_grow, grows_fit, is_of_global, globals_fit}
use Rattle.argot_text.specs.declared.path.PathStep.{PathStep}
use Rattle.argot_text.specs.declared.position.Pos.{Pos}

-- their order
stands_is : (a b : Site) → stands_before a b ≡ true → StandsBefore a b
stands_is a b h = elim (or_cases (nat_lt a.place b.place) _ h) [
  | inl p ↦ by_place (ltb-true a.place b.place p)
  | inr q ↦
      let s = and_parts (a.place == b.place) _ q in
      let place = eqb-true a.place b.place s.0 in
      elim (or_cases (nat_lt a.result b.result) _ s.1) [
        | inl r ↦ by_result place (ltb-true a.result b.result r)
        | inr t ↦ let u = and_parts (a.result == b.result) (nat_lt a.leaf b.leaf) t in by_leaf place (eqb-true a.result b.result u.0) (ltb-true a.leaf b.leaf u.1)
      ]
]

pub before_at : (sites : List Site) (k : ℕ) (a b : Site) → in_order sites ≡ true → slice_get sites k ≡ Some a → slice_get sites (suc k) ≡ Some b → StandsBefore a b
before_at [] k a b h e f = absurd cc
before_at (x ∷ []) zero a b h e f = absurd cc
before_at (x ∷ y ∷ sites) zero a b h e f =
    let s = stands_is x y (and_parts (stands_before x y) (in_order (y ∷ sites)) h).0 in
    subst (λ z. StandsBefore z b) (let c : x ≡ a = cc in c) (subst (StandsBefore x) (let c : y ≡ b = cc in c) s)
before_at (x ∷ sites) (suc k) a b h e f = before_at sites k a b (and_parts (before_next x sites) (in_order sites) h).1 e f

in_turn : (a b c : Site) → StandsBefore a b → StandsBefore b c → StandsBefore a c
in_turn a b c (by_place x) (by_place y) = by_place (omega arith)
in_turn a b c (by_place x) (by_result e y) = by_place (omega arith)
in_turn a b c (by_place x) (by_leaf e f y) = by_place (omega arith)
in_turn a b c (by_result d x) (by_place y) = by_place (omega arith)
in_turn a b c (by_result d x) (by_result e y) = by_result (d ∙ e) (omega arith)
in_turn a b c (by_result d x) (by_leaf e f y) = by_result (d ∙ e) (omega arith)
in_turn a b c (by_leaf d g x) (by_place y) = by_place (omega arith)
in_turn a b c (by_leaf d g x) (by_result e y) = by_result (d ∙ e) (omega arith)
in_turn a b c (by_leaf d g x) (by_leaf e f y) = by_leaf (d ∙ e) (g ∙ f) (omega arith)

first_before : (x : Site) (sites : List Site) (m : ℕ) (b : Site) → in_order (x ∷ sites) ≡ true → slice_get sites m ≡ Some b → StandsBefore x b
first_before x [] m b h f = absurd cc
first_before x (y ∷ sites) zero b h f = before_at (x ∷ y ∷ sites) 0 x b h refl f
first_before x (y ∷ sites) (suc m) b h f = in_turn x y b (before_at (x ∷ y ∷ sites) 0 x y h refl refl) (first_before y sites m b (and_parts (stands_before x y) (in_order (y ∷ sites)) h).1 f)

all_before : (sites : List Site) (k m : ℕ) (a b : Site) → in_order sites ≡ true → slice_get sites k ≡ Some a → slice_get sites m ≡ Some b → k < m → StandsBefore a b
all_before [] k m a b h e f low = absurd cc
all_before (x ∷ sites) k zero a b h e f low = absurd (omega arith)
all_before (x ∷ sites) zero (suc m) a b h e f low = subst (λ z. StandsBefore z b) (let c : x ≡ a = cc in c) (first_before x sites m b h f)
all_before (x ∷ sites) (suc k) (suc m) a b h e f low = all_before sites k m a b (and_parts (before_next x sites) (in_order sites) h).1 e f (omega arith)

pub record Single (site : Site) : Type 0 where
  pub result : site.result ≡ 0
  pub leaf : site.leaf ≡ 0

pub single_is : (site : Site) → is_single site ≡ true → Single site
single_is site h = let a = and_parts (site.result == 0) (site.leaf == 0) h in record { result = eqb-true site.result 0 a.0; leaf = eqb-true site.leaf 0 a.1 }

two_singles : (a b : Site) → Single a → Single b → a.place ≡ b.place → StandsBefore a b → ⊥
two_singles a b s t e (by_place x) = omega arith
two_singles a b s t e (by_result d x) = let p = s.result in let q = t.result in omega arith
two_singles a b s t e (by_leaf d f x) = let p = s.leaf in let q = t.leaf in omega arith

pub one_single : (sites : List Site) (k m : ℕ) (a b : Site) → in_order sites ≡ true → slice_get sites k ≡ Some a → slice_get sites m ≡ Some b → Single a → Single b → a.place ≡ b.place → k ≡ m
one_single sites k m a b h e f s t place = elim (cases_lt k m) [
  | inl low ↦ absurd (two_singles a b s t place (all_before sites k m a b h e f low))
  | inr high ↦ elim (cases_lt m k) [
    | inl low ↦ absurd (two_singles b a t s (sym place) (all_before sites m k b a h f e low))
    | inr same ↦ omega arith
  ]
]

-- what makes them
pub fits_at : (fns : List Function) (instrs : List Instr) (n : ℕ) (sites : List Site) (k : ℕ) (site : Site) → sites_fit fns instrs n sites ≡ true → slice_get sites k ≡ Some site → (m : ℕ) → m ≡ n + k → site_fits fns instrs m site ≡ true
fits_at fns instrs n [] k site h e m is = absurd cc
fits_at fns instrs n (x ∷ sites) zero site h e m is =
    subst (λ j. site_fits fns instrs j site ≡ true) (let c : n ≡ m = omega arith in c) (subst (λ z. site_fits fns instrs n z ≡ true) (let c : x ≡ site = cc in c) (and_parts (site_fits fns instrs n x) (sites_fit fns instrs (n + 1) sites) h).0)
fits_at fns instrs n (x ∷ sites) (suc k) site h e m is = fits_at fns instrs (n + 1) sites k site (and_parts (site_fits fns instrs n x) (sites_fit fns instrs (n + 1) sites) h).1 e m (omega arith)

pub record Sited (fns : List Function) (instrs : List Instr) (n : ℕ) (site : Site) : Type 0 where
  pub made : is_made_by fns n site (kind_of (slice_get instrs site.place)) ≡ true
  pub shape : shape_fits fns site.shape site.function ≡ true
  pub distinct : no_path_twice site.shape ≡ true

pub sited : (fns : List Function) (instrs : List Instr) (n : ℕ) (site : Site) → site_fits fns instrs n site ≡ true → Sited fns instrs n site
sited fns instrs n site h =
    let a = and_parts (is_made_by fns n site (kind_of (slice_get instrs site.place))) (shape_fits fns site.shape site.function && no_path_twice site.shape) (three (is_made_by fns n site (kind_of (slice_get instrs site.place))) (shape_fits fns site.shape site.function) (no_path_twice site.shape) h) in
    let b = and_parts (shape_fits fns site.shape site.function) (no_path_twice site.shape) a.1 in
    record { made = a.0; shape = b.0; distinct = b.1 }

pub maker : (fns : List Function) (n : ℕ) (site : Site) (o : Option Kind) → is_made_by fns n site o ≡ true → (kind : Kind) × (o ≡ Some kind) × MakesObjects kind
maker fns n site None h = absurd cc
maker fns n site (Some (New to s)) h = (New to s, refl, by_new)
maker fns n site (Some (Grow to at items)) h = (Grow to at items, refl, by_grow)
maker fns n site (Some (Call to callee args)) h = (Call to callee args, refl, by_call)
maker fns n site (Some _) h = absurd cc

-- the functions that have them
from_some : (i : ℕ) (fns : List Function) (k : ℕ) (fn : Function) → slice_get (from_place i fns) k ≡ Some fn → (g : ℕ) × (slice_get fns g ≡ Some fn)
from_some i [] k fn h = absurd cc
from_some i (x ∷ fns) k fn h = elim (cases_Bool (nat_lt x.leave i)) [
  | inl t ↦ let o = from_some i fns k fn (sym (ap (λ b. slice_get (if b then from_place i fns else x ∷ fns) k) t) ∙ h) in (suc o.0, o.1)
  | inr f ↦ (k, sym (ap (λ b. slice_get (if b then from_place i fns else x ∷ fns) k) f) ∙ h)
]

from_high : (i : ℕ) (fns : List Function) (fn : Function) → slice_get (from_place i fns) 0 ≡ Some fn → i ≤ fn.leave
from_high i [] fn h = absurd cc
from_high i (x ∷ fns) fn h = elim (cases_Bool (nat_lt x.leave i)) [
  | inl t ↦ from_high i fns fn (sym (ap (λ b. slice_get (if b then from_place i fns else x ∷ fns) 0) t) ∙ h)
  | inr f ↦
      let e : slice_get (x ∷ fns) 0 ≡ Some fn = sym (ap (λ b. slice_get (if b then from_place i fns else x ∷ fns) 0) f) ∙ h in
      subst (λ (y : Function). i ≤ y.leave) (let s : x ≡ fn = cc in s) (ltb-false x.leave i f)
]

pub record First (instrs : List Instr) (site : Site) (fns : List Function) : Type 0 where
  pub fn : Function
  pub is : slice_get fns 0 ≡ Some fn
  pub low : fn.entry ≤ site.place
  pub fits : fits_function site (kind_of (slice_get instrs site.place)) fn ≡ true

first_is : (instrs : List Instr) (site : Site) (fns : List Function) → fits_first instrs site fns ≡ true → First instrs site fns
first_is instrs site [] h = absurd cc
first_is instrs site (fn ∷ fns) h = let a = and_parts (nat_le fn.entry site.place) (fits_function site (kind_of (slice_get instrs site.place)) fn) h in record { fn = fn; is = refl; low = leb-true fn.entry site.place a.0; fits = a.1 }

pub record Keeper (instrs : List Instr) (fns : List Function) (site : Site) : Type 0 where
  pub number : ℕ
  pub fn : Function
  pub is : slice_get fns number ≡ Some fn
  pub low : fn.entry ≤ site.place
  pub high : site.place ≤ fn.leave
  pub fits : fits_function site (kind_of (slice_get instrs site.place)) fn ≡ true

pub keeper : (instrs : List Instr) (fns : List Function) (sites : List Site) (k : ℕ) (site : Site) → owned_fit instrs fns sites ≡ true → slice_get sites k ≡ Some site → Keeper instrs fns site
keeper instrs fns [] k site h e = absurd cc
keeper instrs fns (x ∷ sites) zero site h e =
    let f = first_is instrs x (from_place x.place fns) (and_parts (fits_first instrs x (from_place x.place fns)) (owned_fit instrs (from_place x.place fns) sites) h).0 in
    let o = from_some x.place fns 0 f.fn f.is in
    subst (Keeper instrs fns) (let s : x ≡ site = cc in s) (record { number = o.0; fn = f.fn; is = o.1; low = f.low; high = from_high x.place fns f.fn f.is; fits = f.fits })
keeper instrs fns (x ∷ sites) (suc k) site h e =
    let r = keeper instrs (from_place x.place fns) sites k site (and_parts (fits_first instrs x (from_place x.place fns)) (owned_fit instrs (from_place x.place fns) sites) h).1 e in
    let o = from_some x.place fns r.number r.fn r.is in
    record { number = o.0; fn = r.fn; is = o.1; low = r.low; high = r.high; fits = r.fits }

pub item_in : (fn : Function) (shape : List (List PathStep)) (rs : List ℕ) (r : ℕ) → items_fit fn shape rs ≡ true → In r rs → leaves_of fn r ≡ map without_first shape
item_in fn shape [] r h m = elim m [ ]
item_in fn shape (s ∷ rs) r h (here e) = subst (λ x. leaves_of fn x ≡ map without_first shape) (sym e) (same_elements_are (leaves_of fn s) shape (and_parts (same_elements (leaves_of fn s) shape) (items_fit fn shape rs) h).0)
item_in fn shape (s ∷ rs) r h (there m) = item_in fn shape rs r (and_parts (same_elements (leaves_of fn s) shape) (items_fit fn shape rs) h).1 m

-- the site of each Grow
site_from : (i : ℕ) (sites : List Site) (k : ℕ) (site : Site) → slice_get (from_site i sites) k ≡ Some site → (n : ℕ) × (slice_get sites n ≡ Some site)
site_from i [] k site h = absurd cc
site_from i (x ∷ sites) k site h = elim (cases_Bool (nat_lt x.place i)) [
  | inl t ↦ let o = site_from i sites k site (sym (ap (λ b. slice_get (if b then from_site i sites else x ∷ sites) k) t) ∙ h) in (suc o.0, o.1)
  | inr f ↦ (k, sym (ap (λ b. slice_get (if b then from_site i sites else x ∷ sites) k) f) ∙ h)
]

pub record Stood (sites : List Site) (i : ℕ) : Type 0 where
  pub number : ℕ
  pub site : Site
  pub is : slice_get sites number ≡ Some site
  pub place : site.place ≡ i

stood : (i : ℕ) (sites : List Site) → stands_at i sites ≡ true → Stood sites i
stood i [] h = absurd cc
stood i (x ∷ sites) h = record { number = 0; site = x; is = refl; place = eqb-true x.place i h }

not_grow : (b c : Bool) → (not b || c) ≡ true → b ≡ true → c ≡ true
not_grow true c h e = h
not_grow false c h e = cc

pub grown : (i : ℕ) (xs : List Instr) (sites : List Site) (k : ℕ) (x : Instr) → grows_fit i xs sites ≡ true → slice_get xs k ≡ Some x → is_grow x.kind ≡ true → (n : ℕ) → n ≡ i + k → Stood sites n
grown i [] sites k x h e g n is = absurd cc
grown i (y ∷ xs) sites zero x h e g n is =
    let a = and_parts (not (is_grow y.kind) || stands_at i (from_site i sites)) (grows_fit (i + 1) xs (from_site i sites)) h in
    let s = stood i (from_site i sites) (not_grow (is_grow y.kind) (stands_at i (from_site i sites)) a.0 (subst (λ (z : Instr). is_grow z.kind ≡ true) (let c : x ≡ y = cc in c) g)) in
    let o = site_from i sites s.number s.site s.is in
    let place = s.place in
    record { number = o.0; site = s.site; is = o.1; place = omega arith }
grown i (y ∷ xs) sites (suc k) x h e g n is =
    let a = and_parts (not (is_grow y.kind) || stands_at i (from_site i sites)) (grows_fit (i + 1) xs (from_site i sites)) h in
    let s = grown (i + 1) xs (from_site i sites) k x a.1 e g n (omega arith) in
    let o = site_from i sites s.number s.site s.is in
    record { number = o.0; site = s.site; is = o.1; place = s.place }

-- package variables
pub record GlobalSite (o : Option Site) : Type 0 where
  pub site : Site
  pub is : o ≡ Some site
  pub place : site.place ≡ 0
  pub single : Single site
  pub function : is_none site.function ≡ true
  pub few : length site.shape ≤ 8192
  pub distinct : no_path_twice site.shape ≡ true

of_global : (o : Option Site) → is_of_global o ≡ true → GlobalSite o
of_global None h = absurd cc
of_global (Some site) h =
    let a = and_parts (site.place == 0) (is_single site && (is_none site.function && (nat_le (length site.shape) 8192 && no_path_twice site.shape))) (five (site.place == 0) (is_single site) (is_none site.function) (nat_le (length site.shape) 8192) (no_path_twice site.shape) h) in
    let b = and_parts (is_single site) (is_none site.function && (nat_le (length site.shape) 8192 && no_path_twice site.shape)) a.1 in
    let c = and_parts (is_none site.function) (nat_le (length site.shape) 8192 && no_path_twice site.shape) b.1 in
    let d = and_parts (nat_le (length site.shape) 8192) (no_path_twice site.shape) c.1 in
    record { site = site; is = refl; place = eqb-true site.place 0 a.0; single = single_is site b.0; function = c.0; few = leb-true (length site.shape) 8192 d.0; distinct = d.1 }

pub record Variable (files : ℕ) (sites : List Site) (m : ℕ) (x : Ident × Pos × ℕ) : Type 0 where
  pub number : x.2 ≡ m
  pub file : x.1.file < files
  pub site : GlobalSite (slice_get sites m)

pub variable : (files : ℕ) (sites : List Site) (k : ℕ) (xs : List (Ident × Pos × ℕ)) (n : ℕ) (x : Ident × Pos × ℕ) → globals_fit files sites k xs ≡ true → slice_get xs n ≡ Some x → (m : ℕ) → m ≡ k + n → Variable files sites m x
variable files sites k [] n x h e m is = absurd cc
variable files sites k (y ∷ xs) zero x h e m is =
    let a = and_parts (y.2 == k) (nat_lt y.1.file files && (is_of_global (slice_get sites k) && globals_fit files sites (k + 1) xs)) (four (y.2 == k) (nat_lt y.1.file files) (is_of_global (slice_get sites k)) (globals_fit files sites (k + 1) xs) h) in
    let b = and_parts (nat_lt y.1.file files) (is_of_global (slice_get sites k) && globals_fit files sites (k + 1) xs) a.1 in
    let c = and_parts (is_of_global (slice_get sites k)) (globals_fit files sites (k + 1) xs) b.1 in
    let v : Variable files sites k y = record { number = eqb-true y.2 k a.0; file = ltb-true y.1.file files b.0; site = of_global (slice_get sites k) c.0 } in
    subst (λ j. Variable files sites j x) (let s : k ≡ m = omega arith in s) (subst (Variable files sites k) (let s : y ≡ x = cc in s) v)
variable files sites k (y ∷ xs) (suc n) x h e m is =
    let a = and_parts (y.2 == k) (nat_lt y.1.file files && (is_of_global (slice_get sites k) && globals_fit files sites (k + 1) xs)) (four (y.2 == k) (nat_lt y.1.file files) (is_of_global (slice_get sites k)) (globals_fit files sites (k + 1) xs) h) in
    let b = and_parts (nat_lt y.1.file files) (is_of_global (slice_get sites k) && globals_fit files sites (k + 1) xs) a.1 in
    let c = and_parts (is_of_global (slice_get sites k)) (globals_fit files sites (k + 1) xs) b.1 in
    variable files sites (k + 1) xs n x c.1 e m (omega arith)
