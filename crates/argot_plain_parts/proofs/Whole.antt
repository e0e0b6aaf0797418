-- Parts that pass every test are well formed.
use Rattle.std.proofs.Common.{◌≡◌, ℕ, zero, suc, ◌+◌, ◌-◌, ◌<◌, ◌≤◌, ◌++◌, Bool, true, false, List, [], ◌∷◌, Some, None, Option, refl, sym, ap, ◌∙◌, inl, inr, arith, subst, eqb-true, ltb-true, leb-true}
use Rattle.std.specs.Prelude.{slice_get, length, ◌==◌, ◌&&◌, ◌||◌, ◌≢◌, is_none, is_some, nat_lt, nat_le, drop}
use Rattle.std.specs.List.{filter_map}
use Rattle.std.proofs.lemmas.Bool.{and_parts, or_cases, cases_lt}
use Rattle.std.proofs.lemmas.Option.{slice_get_within}
use Rattle.argot_plain.specs.Lists.{In, below, IsDistinct}
use Rattle.argot_plain.specs.Code.{Code, IsAt, IsFunction, IsEntry, IsIn, IsSiteOf, Successor, Next, leaves, element_leaves, kind_of, defined, reads}
use Rattle.argot_plain.specs.Code.Successor.{successor}
use Rattle.argot_plain.specs.WellFormed.{WellFormed, HasEntry, IsExternal, MayOwnSites, CallSite, GrowSite, HasOneSite, FunctionSite, Wraps, IsReadOrMove, MakesObjects, reference_registers}
use Rattle.argot_plain.specs.WellFormed.MayOwnSites.{by_number, by_value}
use Rattle.argot_plain.specs.WellFormed.IsReadOrMove.{by_read, by_move}
use Rattle.argot_plain.specs.declared.functions.Function.{Function}
use Rattle.argot_plain.specs.declared.functions.Ident.{Ident}
use Rattle.argot_plain.specs.declared.functions.Role.TheVariants.{Own, Wrapper}
use Rattle.argot_plain.specs.declared.instructions.Callee.{Callee}
use Rattle.argot_plain.specs.declared.instructions.Callee.TheVariants.{Static, Value, Method}
use Rattle.argot_plain.specs.declared.instructions.Instr.{Instr}
use Rattle.argot_plain.specs.declared.instructions.Kind.{Kind}
use Rattle.argot_plain.specs.declared.instructions.Kind.TheVariants.{Op, Move, Join, New, Read, Grow, Global, Call, RunDefers, Leave, Goto, Branch, Passed}
use Rattle.argot_plain.specs.declared.sites.Site.{Site}
use Rattle.argot_text.specs.declared.path.PathStep.{PathStep}
use Rattle.argot_text.specs.declared.position.Pos.{Pos}
use Rattle.argot_plain_parts.proofs.Parted.{three, five, six}
use Rattle.argot_plain_parts.specs.Functions.{ranges_fit, has_entry, each_function_fits}
use Rattle.argot_plain_parts.specs.Instructions.{callee_there, is_site_of, names_there, may_have_tags, instrs_fit}
use Rattle.argot_plain_parts.specs.Leaves.{are_of_elements, are_of_captures}
use Rattle.argot_plain_parts.specs.Numbers.{no_number_twice}
use Rattle.argot_plain_parts.specs.Parts.{leaves_of, is_own, is_wrapper}
use Rattle.argot_plain_parts.specs.Passing.{functions_pass, sites_pass, names_pass, passes}
use Rattle.argot_plain_parts.specs.Places.{each_place_fits}
use Rattle.argot_plain_parts.specs.Sites.{in_order, is_single, is_external, may_own, is_made_by, captures_fit, shape_fits, sites_fit, has_leaf, fits_function, owned_fit, is_grow, grows_fit, globals_fit}
use Rattle.argot_plain_parts.specs.Wrappers.{can_wrap, methods_fit}
use Rattle.argot_plain_parts.proofs.Alike.{same_paths_is, root_is, elements_are, captures_are, paths_distinct, numbers_distinct, below_are, all_are_below}
use Rattle.argot_plain_parts.proofs.Handing.{callee_named, leaves_at, static_fits}
use Rattle.argot_plain_parts.proofs.Named.{instr_at, Named, named, wrapper_in, one_wrapper}
use Rattle.argot_plain_parts.proofs.Ranges.{each_function, inside, first_at, next_at, last_at, Owned, owned, one_owner}
use Rattle.argot_plain_parts.proofs.Roles.{Fitted, fitted, own_is, wrapper_is, body, outside, bound_env, wrapper_env, declared_is, declared, wraps_is, reference_is, all_short, none_is}
use Rattle.argot_plain_parts.proofs.Sited.{before_at, Single, single_is, one_single, fits_at, Sited, sited, maker, keeper, item_in, Stood, grown, GlobalSite, Variable, variable}
use Rattle.argot_plain_parts.proofs.Standing.{in_append, get_drop, standing, Stands, stands, in_inside, next_in, read_behind, root_in, part_in}

record Facts (p : Code) : Type 0 where
  few_functions : length p.functions ≤ 65536
  few_instrs : length p.instrs ≤ 1048576
  ranges : ranges_fit 0 (length p.instrs) p.functions ≡ true
  entry : has_entry p.functions ≡ true
  functions : each_function_fits p.functions p.instrs (length p.files) p.functions ≡ true
  places : each_place_fits p.functions p.instrs p.functions ≡ true
  enough : length p.globals ≤ length p.sites
  globals : globals_fit (length p.files) p.sites 0 p.globals ≡ true
  order : in_order (drop (length p.globals) p.sites) ≡ true
  sites : sites_fit p.functions p.instrs (length p.globals) (drop (length p.globals) p.sites) ≡ true
  owned : owned_fit p.instrs p.functions (drop (length p.globals) p.sites) ≡ true
  grows : grows_fit 0 p.instrs (drop (length p.globals) p.sites) ≡ true
  instrs : instrs_fit (length p.functions) (length p.globals) p.sites (length p.files) 0 p.instrs ≡ true
  methods : methods_fit p.functions p.methods ≡ true

facts : (p : Code) → passes p ≡ true → Facts p
facts p h =
    let x = and_parts (functions_pass p) (sites_pass p && names_pass p) (three (functions_pass p) (sites_pass p) (names_pass p) h) in
    let y = and_parts (sites_pass p) (names_pass p) x.1 in
    let a = and_parts (nat_le (length p.functions) 65536) (nat_le (length p.instrs) 1048576 && (ranges_fit 0 (length p.instrs) p.functions && (has_entry p.functions && (each_function_fits p.functions p.instrs (length p.files) p.functions && each_place_fits p.functions p.instrs p.functions)))) (six (nat_le (length p.functions) 65536) (nat_le (length p.instrs) 1048576) (ranges_fit 0 (length p.instrs) p.functions) (has_entry p.functions) (each_function_fits p.functions p.instrs (length p.files) p.functions) (each_place_fits p.functions p.instrs p.functions) x.0) in
    let b = and_parts (nat_le (length p.instrs) 1048576) (ranges_fit 0 (length p.instrs) p.functions && (has_entry p.functions && (each_function_fits p.functions p.instrs (length p.files) p.functions && each_place_fits p.functions p.instrs p.functions))) a.1 in
    let c = and_parts (ranges_fit 0 (length p.instrs) p.functions) (has_entry p.functions && (each_function_fits p.functions p.instrs (length p.files) p.functions && each_place_fits p.functions p.instrs p.functions)) b.1 in
    let d = and_parts (has_entry p.functions) (each_function_fits p.functions p.instrs (length p.files) p.functions && each_place_fits p.functions p.instrs p.functions) c.1 in
    let e = and_parts (each_function_fits p.functions p.instrs (length p.files) p.functions) (each_place_fits p.functions p.instrs p.functions) d.1 in
    let i = and_parts (nat_le (length p.globals) (length p.sites)) (globals_fit (length p.files) p.sites 0 p.globals && (in_order (drop (length p.globals) p.sites) && (sites_fit p.functions p.instrs (length p.globals) (drop (length p.globals) p.sites) && (owned_fit p.instrs p.functions (drop (length p.globals) p.sites) && grows_fit 0 p.instrs (drop (length p.globals) p.sites))))) (six (nat_le (length p.globals) (length p.sites)) (globals_fit (length p.files) p.sites 0 p.globals) (in_order (drop (length p.globals) p.sites)) (sites_fit p.functions p.instrs (length p.globals) (drop (length p.globals) p.sites)) (owned_fit p.instrs p.functions (drop (length p.globals) p.sites)) (grows_fit 0 p.instrs (drop (length p.globals) p.sites)) y.0) in
    let j = and_parts (globals_fit (length p.files) p.sites 0 p.globals) (in_order (drop (length p.globals) p.sites) && (sites_fit p.functions p.instrs (length p.globals) (drop (length p.globals) p.sites) && (owned_fit p.instrs p.functions (drop (length p.globals) p.sites) && grows_fit 0 p.instrs (drop (length p.globals) p.sites)))) i.1 in
    let k = and_parts (in_order (drop (length p.globals) p.sites)) (sites_fit p.functions p.instrs (length p.globals) (drop (length p.globals) p.sites) && (owned_fit p.instrs p.functions (drop (length p.globals) p.sites) && grows_fit 0 p.instrs (drop (length p.globals) p.sites))) j.1 in
    let l = and_parts (sites_fit p.functions p.instrs (length p.globals) (drop (length p.globals) p.sites)) (owned_fit p.instrs p.functions (drop (length p.globals) p.sites) && grows_fit 0 p.instrs (drop (length p.globals) p.sites)) k.1 in
    let m = and_parts (owned_fit p.instrs p.functions (drop (length p.globals) p.sites)) (grows_fit 0 p.instrs (drop (length p.globals) p.sites)) l.1 in
    let n = and_parts (instrs_fit (length p.functions) (length p.globals) p.sites (length p.files) 0 p.instrs) (methods_fit p.functions p.methods) y.1 in
    record {
      few_functions = leb-true (length p.functions) 65536 a.0;
      few_instrs = leb-true (length p.instrs) 1048576 b.0;
      ranges = c.0;
      entry = d.0;
      functions = e.0;
      places = e.1;
      enough = leb-true (length p.globals) (length p.sites) i.0;
      globals = j.0;
      order = k.0;
      sites = l.0;
      owned = m.0;
      grows = m.1;
      instrs = n.0;
      methods = n.1;
    }

-- helpers over plain lists
record Begun (fns : List Function) : Type 0 where
  fn : Function
  is : slice_get fns 0 ≡ Some fn
  body : fn.external ≡ None
  params : fn.params ≡ 0
  results : fn.results ≡ 0
  own : fn.role ≡ Own
  nameless : fn.ident ≡ None

begun : (fns : List Function) → has_entry fns ≡ true → Begun fns
begun [] h = absurd cc
begun (fn ∷ fns) h =
    let a = and_parts (is_none fn.external) (fn.params == 0 && (fn.results == 0 && (is_own fn.role && is_none fn.ident))) (five (is_none fn.external) (fn.params == 0) (fn.results == 0) (is_own fn.role) (is_none fn.ident) h) in
    let b = and_parts (fn.params == 0) (fn.results == 0 && (is_own fn.role && is_none fn.ident)) a.1 in
    let c = and_parts (fn.results == 0) (is_own fn.role && is_none fn.ident) b.1 in
    let d = and_parts (is_own fn.role) (is_none fn.ident) c.1 in
    record { fn = fn; is = refl; body = none_is fn.external a.0; params = eqb-true fn.params 0 b.0; results = eqb-true fn.results 0 c.0; own = own_is fn.role d.0; nameless = none_is fn.ident d.1 }

at_some : (o : Option Instr) (kind : Kind) → kind_of o ≡ Some kind → (x : Instr) × (o ≡ Some x) × (x.kind ≡ kind)
at_some None kind h = absurd cc
at_some (Some x) kind h = (x, refl, cc)

get_at : {X : Type 0} (xs : List X) (n : ℕ) → n < length xs → (x : X) × (slice_get xs n ≡ Some x)
get_at [] n h = absurd (omega arith)
get_at (x ∷ xs) zero h = (x, refl)
get_at (x ∷ xs) (suc n) h = get_at xs n (omega arith)

some_is : {X : Type 0} (x y : X) → Some x ≡ Some y → x ≡ y
some_is x y h = cc

site_there : (globals i s : ℕ) (o : Option Site) → is_site_of globals i s o ≡ true → (site : Site) × (o ≡ Some site) × (globals ≤ s) × (site.place ≡ i)
site_there globals i s None h = absurd cc
site_there globals i s (Some site) h = let a = and_parts (nat_le globals s) (site.place == i) h in (site, refl, leb-true globals s a.0, eqb-true site.place i a.1)

wraps_of : (o : Option Function) → can_wrap o ≡ true → (fn : Function) × (o ≡ Some fn) × (fn.role ≡ Wrapper) × (fn.external ≡ None)
wraps_of None h = absurd cc
wraps_of (Some fn) h = let a = and_parts (is_wrapper fn.role) (is_none fn.external) h in (fn, refl, wrapper_is fn.role a.0, none_is fn.external a.1)

external_of : (o : Option Function) → is_external o ≡ true → (fn : Function) × (flows : Bool) × (o ≡ Some fn) × (fn.external ≡ Some flows)
external_of None h = absurd cc
external_of (Some fn) h = let e = some_of fn.external h in (fn, e.0, refl, e.1)
  where
    some_of : (o : Option Bool) → is_some o ≡ true → (b : Bool) × (o ≡ Some b)
    some_of None g = absurd cc
    some_of (Some b) g = (b, refl)

own_sites : (p : Code) (callee : Callee) → may_own p.functions callee ≡ true → MayOwnSites p callee
own_sites p (Static h) e = let x = external_of (slice_get p.functions h) e in by_number {h = h} {fn = x.0} {flows = x.1} x.2 x.3
own_sites p (Value r) e = by_value
own_sites p (Method r name) e = absurd cc

leaf_of : (fn : Function) (leaf : ℕ) (o : Option ℕ) → has_leaf fn leaf o ≡ true → (r : ℕ) × (o ≡ Some r) × (leaf < length (leaves_of fn r))
leaf_of fn leaf None h = absurd cc
leaf_of fn leaf (Some r) h = (r, refl, ltb-true leaf (length (leaves_of fn r)) h)

captures_of : (shape : List (List PathStep)) (o : Option Function) → captures_fit shape o ≡ true → (fn : Function) × (o ≡ Some fn) × (are_of_captures shape ≡ true) × ((fn.has_env || (length shape == 0)) ≡ true)
captures_of shape None h = absurd cc
captures_of shape (Some fn) h = let a = and_parts (are_of_captures shape) (fn.has_env || (length shape == 0)) h in (fn, refl, a.0, a.1)

empty_is : {X : Type 0} (xs : List X) → (length xs == 0) ≡ true → xs ≡ []
empty_is [] h = refl
empty_is (x ∷ xs) h = absurd (let e = eqb-true (length (x ∷ xs)) 0 h in omega arith)

no_shape : (env : Bool) (shape : List (List PathStep)) → (env || (length shape == 0)) ≡ true → env ≡ false → shape ≡ []
no_shape true shape h e = cc
no_shape false shape h e = empty_is shape h

-- a site with a function is made by a New of its number
new_of : (fns : List Function) (n h : ℕ) (site : Site) (o : Option Kind) → is_made_by fns n site o ≡ true → site.function ≡ Some h → (to : ℕ) × (o ≡ Some (New to n))
new_of fns n h site None m e = absurd cc
new_of fns n h site (Some (New to s)) m e = (to, ap (λ k. Some (New to k)) (eqb-true s n (and_parts (s == n) (is_single site) m).0))
new_of fns n h site (Some (Grow to at items)) m e = absurd (no_function site h (is_single site && are_of_elements site.shape) (three (is_none site.function) (is_single site) (are_of_elements site.shape) m) e)
  where
    no_function : (y : Site) (k : ℕ) (b : Bool) → (is_none y.function && b) ≡ true → y.function ≡ Some k → ⊥
    no_function y k b f g = let a = none_is y.function (and_parts (is_none y.function) b f).0 in cc
new_of fns n h site (Some (Call to callee args)) m e = absurd (no_function site h (may_own fns callee) m e)
  where
    no_function : (y : Site) (k : ℕ) (b : Bool) → (is_none y.function && b) ≡ true → y.function ≡ Some k → ⊥
    no_function y k b f g = let a = none_is y.function (and_parts (is_none y.function) b f).0 in cc
new_of fns n h site (Some _) m e = absurd cc

few_shape : (fns : List Function) (shape : List (List PathStep)) (o : Option ℕ) → shape_fits fns shape o ≡ true → o ≡ None → length shape ≤ 8192
few_shape fns shape None h e = leb-true (length shape) 8192 h
few_shape fns shape (Some n) h e = absurd cc

tagged_is : (kind : Kind) → may_have_tags kind ≡ true → IsReadOrMove kind
tagged_is (Read to at qs) h = by_read
tagged_is (Move to from path) h = by_move
tagged_is _ h = absurd cc

module _ (p : Code) (f : Facts p) where
  fitted_at : (g : ℕ) (fn : Function) → IsFunction p g fn → Fitted p.functions p.instrs (length p.files) fn
  fitted_at g fn is = fitted p.functions p.instrs (length p.files) fn (each_function p.functions p.instrs (length p.files) p.functions g fn f.functions is)

  same_fn : (g : ℕ) (a b : Function) → IsFunction p g a → IsFunction p g b → a ≡ b
  same_fn g a b x y = some_is a b (sym x ∙ y)

  stands_at : (i g : ℕ) (kind : Kind) (inside : IsIn p i g) → IsAt p i kind → Stands p.functions p.instrs inside.fn i kind
  stands_at i g kind inside at =
      let x = at_some (slice_get p.instrs i) kind at in
      subst (Stands p.functions p.instrs inside.fn i) x.2 (stands p.functions p.instrs inside.fn i x.0.kind (standing p.functions p.instrs g i inside.fn x.0 f.places inside.is inside.low inside.high x.1))

  stands_in : (i g : ℕ) (kind : Kind) (fn : Function) → IsFunction p g fn → IsIn p i g → IsAt p i kind → Stands p.functions p.instrs fn i kind
  stands_in i g kind fn is inside at = subst (λ (x : Function). Stands p.functions p.instrs x i kind) (same_fn g inside.fn fn inside.is is) (stands_at i g kind inside at)

  named_at : (i : ℕ) (x : Instr) → slice_get p.instrs i ≡ Some x → Named (length p.functions) (length p.globals) p.sites (length p.files) i x
  named_at i x e = named (length p.functions) (length p.globals) p.sites (length p.files) i x (instr_at (length p.functions) (length p.globals) p.sites (length p.files) 0 p.instrs i x f.instrs e i (omega arith))

  names_at : (i : ℕ) (kind : Kind) → IsAt p i kind → names_there (length p.functions) (length p.globals) p.sites i kind ≡ true
  names_at i kind at =
      let x = at_some (slice_get p.instrs i) kind at in
      subst (λ k. names_there (length p.functions) (length p.globals) p.sites i k ≡ true) x.2 (named_at i x.0 x.1).names

  made_at : (n : ℕ) (site : Site) → slice_get p.sites n ≡ Some site → length p.globals ≤ n → slice_get (drop (length p.globals) p.sites) (n - length p.globals) ≡ Some site
  made_at n site e low = get_drop (length p.globals) p.sites (n - length p.globals) ∙ ap (slice_get p.sites) (let m : length p.globals + (n - length p.globals) ≡ n = omega arith in m) ∙ e

  sited_at : (n : ℕ) (site : Site) → slice_get p.sites n ≡ Some site → length p.globals ≤ n → Sited p.functions p.instrs n site
  sited_at n site e low = sited p.functions p.instrs n site (fits_at p.functions p.instrs (length p.globals) (drop (length p.globals) p.sites) (n - length p.globals) site f.sites (made_at n site e low) n (omega arith))

  made_as : (n : ℕ) (site : Site) (i : ℕ) (kind : Kind) → slice_get p.sites n ≡ Some site → length p.globals ≤ n → site.place ≡ i → IsAt p i kind → is_made_by p.functions n site (Some kind) ≡ true
  made_as n site i kind e low place at =
      subst (λ o. is_made_by p.functions n site o ≡ true) (ap (λ j. kind_of (slice_get p.instrs j)) place ∙ at) (sited_at n site e low).made

  keeper_of : (i g n : ℕ) (kind : Kind) (site : Site) (inside : IsIn p i g) → IsAt p i kind → IsSiteOf p i n site → fits_function site (Some kind) inside.fn ≡ true
  keeper_of i g n kind site inside at of =
      let k = keeper p.instrs p.functions (drop (length p.globals) p.sites) (n - length p.globals) site f.owned (made_at n site of.is of.behind) in
      let place = of.place in
      let low = k.low in
      let high = k.high in
      let same : k.number ≡ g = one_owner 0 (length p.instrs) p.functions k.number g k.fn inside.fn i f.ranges k.is inside.is (omega arith) (omega arith) inside.low inside.high in
      let fn : k.fn ≡ inside.fn = same_fn g k.fn inside.fn (subst (λ m. IsFunction p m k.fn) same k.is) inside.is in
      subst (λ (x : Function). fits_function site (Some kind) x ≡ true) fn (subst (λ o. fits_function site o k.fn ≡ true) (ap (λ j. kind_of (slice_get p.instrs j)) place ∙ at) k.fits)

  variable_at : (k : ℕ) (x : Ident × Pos × ℕ) → slice_get p.globals k ≡ Some x → Variable (length p.files) p.sites k x
  variable_at k x e = variable (length p.files) p.sites 0 p.globals k x f.globals e k (omega arith)

  global_at : (k : ℕ) → k < length p.globals → GlobalSite (slice_get p.sites k)
  global_at k low = let x = get_at p.globals k low in (variable_at k x.0 x.1).site

  owner_of : (i : ℕ) (kind : Kind) → IsAt p i kind → Owned p.functions i
  owner_of i kind at =
      let x = at_some (slice_get p.instrs i) kind at in
      owned 0 (length p.instrs) p.functions i f.ranges (omega arith) (slice_get_within p.instrs i x.0 x.1)

  up_to : (g : ℕ) (fn : Function) → IsFunction p g fn → fn.exit ≤ fn.leave
  up_to g fn is = (inside 0 (length p.instrs) p.functions g fn f.ranges is).leave

  next_of : (i j g : ℕ) (kind : Kind) (in_it : IsIn p i g) → IsAt p i kind → Next kind i j → (in_it.fn.entry < j) × (j ≤ in_it.fn.leave)
  next_of i j g kind in_it at next = next_in in_it.fn i j kind (up_to g in_it.fn in_it.is) in_it.low (stands_at i g kind in_it at).goes next

  no_entry : (i j g : ℕ) → Successor p i j → IsEntry p j g → ⊥
  no_entry i j g (successor kind at next) e =
      let o = owner_of i kind at in
      let n = next_of i j o.number kind (record { fn = o.fn; is = o.is; low = o.low; high = o.high }) at next in
      let low = n.0 in
      let high = n.1 in
      let at_j = e.at in
      let r = inside 0 (length p.instrs) p.functions g e.fn f.ranges e.is in
      let exit = r.exit in
      let leave = r.leave in
      let same : g ≡ o.number = one_owner 0 (length p.instrs) p.functions g o.number e.fn o.fn j f.ranges e.is o.is (omega arith) (omega arith) (omega arith) high in
      let entry : e.fn.entry ≡ o.fn.entry = ap (λ (x : Function). x.entry) (same_fn o.number e.fn o.fn (subst (λ m. IsFunction p m e.fn) same e.is) o.is) in
      omega arith

  stays : (i j g : ℕ) → Successor p i j → IsIn p i g → IsIn p j g
  stays i j g (successor kind at next) in_it =
      let n = next_of i j g kind in_it at next in
      let low = n.0 in
      record { fn = in_it.fn; is = in_it.is; low = omega arith; high = n.1 }

  reads_behind : (i g : ℕ) (fn : Function) → IsFunction p g fn → fn.exit < i → i < fn.leave → (to : ℕ) × (at : ℕ) × (qs : List (List PathStep)) × IsAt p i (Read to at qs)
  reads_behind i g fn is low up =
      let r = inside 0 (length p.instrs) p.functions g fn f.ranges is in
      let exit = r.exit in
      let last = r.low in
      let x = get_at p.instrs i (omega arith) in
      let at : IsAt p i x.0.kind = ap kind_of x.1 in
      let b = read_behind fn i x.0.kind low up (stands_in i g x.0.kind fn is (record { fn = fn; is = is; low = omega arith; high = omega arith }) at).stands in
      (b.0, b.1, b.2, at ∙ ap (λ k. Some k) b.3)

  there_in : (i g r : ℕ) (kind : Kind) (fn : Function) → IsFunction p g fn → IsIn p i g → IsAt p i kind → In r (defined kind ++ reads kind) → r < length fn.registers
  there_in i g r kind fn is in_it at m =
      let s = stands_in i g kind fn is in_it at in
      elim (in_append r (defined kind) (reads kind) m) [
        | inl a ↦ all_are_below (length fn.registers) (defined kind) r s.defines a
        | inr b ↦ all_are_below (length fn.registers) (reads kind) r s.reads b
      ]

  once : (i : ℕ) (to args : List ℕ) (callee : Callee) → IsAt p i (Call to callee args) → IsDistinct to
  once i to args callee at = numbers_distinct to (and_parts (callee_there (length p.functions) callee) (no_number_twice to) (names_at i (Call to callee args) at)).1

  grow_leaves : (i g n to at r : ℕ) (items : List ℕ) (site : Site) → IsIn p i g → IsAt p i (Grow to at items) → IsSiteOf p i n site → In r items → leaves p g r ≡ element_leaves site
  grow_leaves i g n to at r items site in_it is of m = leaves_at p g r in_it.fn in_it.is ∙ item_in in_it.fn site.shape items r (keeper_of i g n (Grow to at items) site in_it is of) m

  -- sites of a New and a Grow
  new_number : (i to s n : ℕ) (site : Site) → IsAt p i (New to s) → IsSiteOf p i n site → (n ≡ s) × Single site
  new_number i to s n site at of =
      let a = and_parts (s == n) (is_single site) (made_as n site i (New to s) of.is of.behind of.place at) in
      (sym (eqb-true s n a.0), single_is site a.1)

  new_site : (i to s : ℕ) → IsAt p i (New to s) → HasOneSite p i s
  new_site i to s at =
      let x = site_there (length p.globals) i s (slice_get p.sites s) (names_at i (New to s) at) in
      let of : IsSiteOf p i s x.0 = record { is = x.1; behind = x.2; place = x.3 } in
      let one = (new_number i to s s x.0 at of).1 in
      record { site = x.0; is = of; alone = λ n other o. (new_number i to s n other at o).0; result = one.result; leaf = one.leaf }

  grow_single : (i to at n : ℕ) (items : List ℕ) (site : Site) → IsAt p i (Grow to at items) → IsSiteOf p i n site → Single site × (are_of_elements site.shape ≡ true)
  grow_single i to at n items site is of =
      let a = and_parts (is_none site.function) (is_single site && are_of_elements site.shape) (three (is_none site.function) (is_single site) (are_of_elements site.shape) (made_as n site i (Grow to at items) of.is of.behind of.place is)) in
      let b = and_parts (is_single site) (are_of_elements site.shape) a.1 in
      (single_is site b.0, b.1)

  only_grow : (i to at n m : ℕ) (items : List ℕ) (a b : Site) → IsAt p i (Grow to at items) → IsSiteOf p i n a → IsSiteOf p i m b → n ≡ m
  only_grow i to at n m items a b is x y =
      let low = x.behind in
      let high = y.behind in
      let same = one_single (drop (length p.globals) p.sites) (n - length p.globals) (m - length p.globals) a b f.order (made_at n a x.is x.behind) (made_at m b y.is y.behind) (grow_single i to at n items a is x).0 (grow_single i to at m items b is y).0 (x.place ∙ sym y.place) in
      omega arith

  grow_stood : (i to at : ℕ) (items : List ℕ) → IsAt p i (Grow to at items) → Stood (drop (length p.globals) p.sites) i
  grow_stood i to at items is =
      let x = at_some (slice_get p.instrs i) (Grow to at items) is in
      grown 0 p.instrs (drop (length p.globals) p.sites) i x.0 f.grows x.1 (ap is_grow x.2) i (omega arith)

  grow_site : (i to at : ℕ) (items : List ℕ) → IsAt p i (Grow to at items) → GrowSite p i
  grow_site i to at items is =
      let s = grow_stood i to at items is in
      let n = length p.globals + s.number in
      let of : IsSiteOf p i n s.site = record { is = sym (get_drop (length p.globals) p.sites s.number) ∙ s.is; behind = omega arith; place = s.place } in
      let one = grow_single i to at n items s.site is of in
      record {
        number = n;
        one = record { site = s.site; is = of; alone = λ m other o. only_grow i to at m n items other s.site is o of; result = one.0.result; leaf = one.0.leaf };
        elements = λ q m. elements_are s.site.shape q one.1 m;
      }

  call_sites : (i g n : ℕ) (to args : List ℕ) (callee : Callee) (site : Site) → IsIn p i g → IsAt p i (Call to callee args) → IsSiteOf p i n site → CallSite p g to callee site
  call_sites i g n to args callee site in_it at of =
      let a = and_parts (is_none site.function) (may_own p.functions callee) (made_as n site i (Call to callee args) of.is of.behind of.place at) in
      let l = leaf_of in_it.fn site.leaf (slice_get to site.result) (keeper_of i g n (Call to callee args) site in_it at of) in
      record { owns = own_sites p callee a.1; register = l.0; result = l.1; leaf = subst (λ (qs : List (List PathStep)). site.leaf < length qs) (sym (leaves_at p g l.0 in_it.fn in_it.is)) l.2 }

  makes : (n : ℕ) (site : Site) → slice_get p.sites n ≡ Some site → length p.globals ≤ n → (kind : Kind) × IsAt p site.place kind × MakesObjects kind
  makes n site e low = maker p.functions n site (kind_of (slice_get p.instrs site.place)) (sited_at n site e low).made

  -- the site of a package variable
  variable_site : (n : ℕ) (site : Site) → slice_get p.sites n ≡ Some site → n < length p.globals → (v : GlobalSite (slice_get p.sites n)) × (v.site ≡ site)
  variable_site n site e low = let v = global_at n low in (v, some_is v.site site (sym v.is ∙ e))

  site_function : (n h : ℕ) (site : Site) → slice_get p.sites n ≡ Some site → site.function ≡ Some h → FunctionSite p n h site
  site_function n h site e has = elim (cases_lt n (length p.globals)) [
    | inl low ↦ absurd (let v = variable_site n site e low in let none = none_is v.0.site.function v.0.function in let same = ap (λ (x : Site). x.function) v.1 in cc)
    | inr high ↦
        let s = sited_at n site e high in
        let new = new_of p.functions n h site (kind_of (slice_get p.instrs site.place)) s.made has in
        let c = captures_of site.shape (slice_get p.functions h) (subst (λ (o : Option ℕ). shape_fits p.functions site.shape o ≡ true) has s.shape) in
        record { to = new.0; new = new.1; fn = c.0; is = c.1; captures = λ q m. captures_are site.shape q c.2 m; none = λ no. no_shape c.0.has_env site.shape c.3 no }
  ]

  site_shape : (n : ℕ) (site : Site) → slice_get p.sites n ≡ Some site → IsDistinct site.shape
  site_shape n site e = elim (cases_lt n (length p.globals)) [
    | inl low ↦ let v = variable_site n site e low in subst (λ (x : Site). IsDistinct x.shape) v.1 (paths_distinct v.0.site.shape v.0.distinct)
    | inr high ↦ paths_distinct site.shape (sited_at n site e high).distinct
  ]

  few_paths : (n : ℕ) (site : Site) → slice_get p.sites n ≡ Some site → site.function ≡ None → length site.shape ≤ 8192
  few_paths n site e none = elim (cases_lt n (length p.globals)) [
    | inl low ↦ let v = variable_site n site e low in subst (λ (x : Site). length x.shape ≤ 8192) v.1 v.0.few
    | inr high ↦ few_shape p.functions site.shape site.function (sited_at n site e high).shape none
  ]

  place_within : (n : ℕ) (site : Site) → slice_get p.sites n ≡ Some site → site.place < length p.instrs
  place_within n site e = elim (cases_lt n (length p.globals)) [
    | inl low ↦
        let v = variable_site n site e low in
        let b = begun p.functions f.entry in
        let r = inside 0 (length p.instrs) p.functions 0 b.fn f.ranges b.is in
        let last = r.low in
        let zero_is = v.0.place in
        let same = ap (λ (x : Site). x.place) v.1 in
        omega arith
    | inr high ↦
        let m = makes n site e high in
        let x = at_some (slice_get p.instrs site.place) m.0 m.1 in
        slice_get_within p.instrs site.place x.0 x.1
  ]

  tagged : (i : ℕ) (x : Instr) → slice_get p.instrs i ≡ Some x → x.tags ≢ [] → IsReadOrMove x.kind
  tagged i x e some = elim (or_cases (length x.tags == 0) (may_have_tags x.kind) (named_at i x e).tags) [
    | inl none ↦ absurd (some (empty_is x.tags none))
    | inr may ↦ tagged_is x.kind may
  ]

  entry_function : HasEntry p
  entry_function = let b = begun p.functions f.entry in record { fn = b.fn; is = b.is; body = b.body; params = b.params; results = b.results; own = b.own; nameless = b.nameless }

  externals : (g : ℕ) (flows : Bool) (fn : Function) → IsFunction p g fn → fn.external ≡ Some flows → IsExternal p fn
  externals g flows fn is e = let o = outside p.instrs fn flows (fitted_at g fn is).frame e in record { exit = o.exit; leave = o.leave; goto = o.goto; own = o.own }

  wraps : (g h : ℕ) (fn : Function) → IsFunction p g fn → fn.wraps ≡ Some h → Wraps p fn h
  wraps g h fn is e =
      let w = wraps_is p.functions fn h (fitted_at g fn is).wraps e in
      let d = declared (slice_get p.functions h) w.1 in
      record { role = w.0; method = d.0; is = d.1; declared = d.2 }

  well : WellFormed p
  well = record {
    ranges = record {
      inside = λ g fn is. (let r = inside 0 (length p.instrs) p.functions g fn f.ranges is in (r.exit, r.leave, r.low));
      first = λ fn is. first_at 0 (length p.instrs) p.functions fn f.ranges is;
      next = λ g fn after is is2. next_at 0 (length p.instrs) p.functions g fn after f.ranges is (ap (slice_get p.functions) (let e : suc g ≡ g + 1 = omega arith in e) ∙ is2);
      last = λ g fn is e. last_at 0 (length p.instrs) p.functions g fn f.ranges is e;
    };
    entry_function = entry_function;
    externals = externals;
    bodies = λ g fn is e. (let b = body p.instrs fn (fitted_at g fn is).frame e in (b.entry, b.exit));
    entry_goto = λ g fn is e. (body p.instrs fn (fitted_at g fn is).frame e).begins;
    no_entry = no_entry;
    stays = stays;
    runs_at_exit = record {
      stands = λ g fn is e. (body p.instrs fn (fitted_at g fn is).frame e).runs;
      alone = λ i g fn at in_it is. eqb-true i fn.exit (stands_in i g RunDefers fn is in_it at).stands;
    };
    leaves_at_leave = record {
      stands = λ g fn is e. (body p.instrs fn (fitted_at g fn is).frame e).leaves;
      alone = λ i g from fn at in_it is. eqb-true i fn.leave (and_parts (i == fn.leave) (length from == fn.results) (stands_in i g (Leave from) fn is in_it at).stands).0;
    };
    reads_behind_exit = record {
      reads = reads_behind;
      goto = λ i g target fn is in_it at. leb-true target fn.exit (and_parts (nat_le target fn.exit) ((target == i) || nat_lt fn.entry target) (stands_in i g (Goto target) fn is in_it at).goes).0;
      branch = λ i g target targets fn is in_it at m. in_inside fn targets target (stands_in i g (Branch targets) fn is in_it at).goes m;
    };
    registers = record {
      there = there_in;
      params = λ g fn is. (fitted_at g fn is).params;
      once = once;
      distinct = λ g r. (all_short p.functions p.instrs (length p.files) g r f.functions).distinct;
    };
    references = record {
      each = λ i g r kind in_it at m. leaves_at p g r in_it.fn in_it.is ∙ root_in in_it.fn (reference_registers kind) r (stands_at i g kind in_it at).references m;
      param = λ g fn is e. leaves_at p g 0 fn is ∙ reference_is fn (fitted_at g fn is).reference e;
    };
    op_leaf = λ i g to from in_it at. leaves_at p g to in_it.fn in_it.is ∙ root_is (leaves_of in_it.fn to) (stands_at i g (Op to from) in_it at).values;
    move_leaves = λ i g to from path in_it at. leaves_at p g to in_it.fn in_it.is ∙ below_are path (leaves_of in_it.fn from) (leaves_of in_it.fn to) (stands_at i g (Move to from path) in_it at).values ∙ ap (filter_map (below path)) (sym (leaves_at p g from in_it.fn in_it.is));
    join_leaves = λ i g to r parts path q in_it at m n. subst (λ (qs : List (List PathStep)). In (path ++ q) qs) (sym (leaves_at p g to in_it.fn in_it.is)) (part_in in_it.fn (leaves_of in_it.fn to) parts path q r (stands_at i g (Join to parts) in_it at).values m (subst (λ (qs : List (List PathStep)). In q qs) (leaves_at p g r in_it.fn in_it.is) n));
    read_leaves = λ i g to at qs in_it is. same_paths_is qs (leaves_of in_it.fn to) (stands_at i g (Read to at qs) in_it is).values ∙ sym (leaves_at p g to in_it.fn in_it.is);
    grow_leaves = grow_leaves;
    static_fits = λ i g h n kind args in_it at hands. static_fits p g h n in_it.fn kind args in_it.is (stands_at i g kind in_it at).calls hands;
    leave_count = λ i g from fn is in_it at. eqb-true (length from) fn.results (and_parts (i == fn.leave) (length from == fn.results) (stands_in i g (Leave from) fn is in_it at).stands).1;
    global_sites = record {
      site = λ k ident at s e. (variable_at k (ident, at, s) e).number;
      is = λ k low. (let v = global_at k low in (v.site, v.is, v.place, v.single.result, v.single.leaf, none_is v.site.function v.function));
    };
    new_site = new_site;
    grow_site = grow_site;
    call_sites = call_sites;
    no_other_site = record {
      makes = makes;
      order = λ n a b e g low. before_at (drop (length p.globals) p.sites) (n - length p.globals) a b f.order (made_at n a e low) (ap (slice_get (drop (length p.globals) p.sites)) (let m : suc (n - length p.globals) ≡ n + 1 - length p.globals = omega arith in m) ∙ made_at (n + 1) b g (omega arith));
    };
    site_function = site_function;
    site_shape = site_shape;
    one_wrapper = record {
      one = λ type a b name m n. one_wrapper p.functions p.methods type a b name f.methods m n;
      is = λ type h name m. (let w = wraps_of (slice_get p.functions h) (wrapper_in p.functions p.methods type h name f.methods m) in w);
    };
    wraps = wraps;
    environments = record {
      bound = λ g fn is e. bound_env fn (fitted_at g fn is).role e;
      wrapper = λ g fn is e. wrapper_env fn (fitted_at g fn is).role e;
      declared = λ g fn ident is e. (declared_is fn ident (fitted_at g fn is).name e).1;
    };
    identified = λ g fn ident is e. (declared_is fn ident (fitted_at g fn is).name e).0;
    numbers = record {
      callee = λ i h n kind args at hands. callee_named (length p.functions) (length p.globals) p.sites i h n kind args (names_at i kind at) hands;
      passed = λ i to h at. ltb-true h (length p.functions) (names_at i (Passed to h) at);
      global = λ i to k at. ltb-true k (length p.globals) (names_at i (Global to k) at);
      new = λ i to s at. (let x = site_there (length p.globals) i s (slice_get p.sites s) (names_at i (New to s) at) in slice_get_within p.sites s x.0 x.1);
      place = place_within;
      function = λ n h site e g. (let s = site_function n h site e g in slice_get_within p.functions h s.fn s.is);
      instr_file = λ i x e. (named_at i x e).file;
      function_file = λ g fn is. (fitted_at g fn is).file;
      global_file = λ k s ident at e. (variable_at k (ident, at, s) e).file;
    };
    tagged = tagged;
    limits = record {
      functions = f.few_functions;
      instrs = f.few_instrs;
      leaves = λ g r. (all_short p.functions p.instrs (length p.files) g r f.functions).few;
      shapes = few_paths;
    };
  }

-- parts that pass every test are well formed
pub passing_is_well : (p : Code) → passes p ≡ true → WellFormed p
passing_is_well p h = well p (facts p h)
