-- Tests of sites: where they stand, in which order, and what they hold.
use Rattle.std.specs.Prelude.{ℕ, ◌+◌, ◌==◌, ◌&&◌, ◌||◌, not, Bool, true, false, Option, Some, None, List, [], ◌∷◌, nat_lt, nat_le, length, slice_get, is_none, is_some, if◌then◌else◌}
use Rattle.argot_plain.specs.Code.{kind_of}
use Rattle.argot_plain.specs.declared.functions.Function.{Function}
use Rattle.argot_plain.specs.declared.functions.Ident.{Ident}
use Rattle.argot_plain.specs.declared.instructions.Callee.{Callee}
use Rattle.argot_plain.specs.declared.instructions.Callee.TheVariants.{Static, Value, Method}
use Rattle.argot_plain.specs.declared.instructions.Instr.{Instr}
use Rattle.argot_plain.specs.declared.instructions.Kind.{Kind}
use Rattle.argot_plain.specs.declared.instructions.Kind.TheVariants.{New, Grow, Call}
use Rattle.argot_plain.specs.declared.sites.Site.{Site}
use Rattle.argot_plain_parts.specs.Leaves.{are_of_elements, are_of_captures, no_path_twice, same_elements}
use Rattle.argot_plain_parts.specs.Parts.{leaves_of}
use Rattle.argot_text.specs.declared.path.PathStep.{PathStep}
use Rattle.argot_text.specs.declared.position.Pos.{Pos}

-- whether one site stands before another, by place, then by result, then by leaf
abbrev pub stands_before : Site → Site → Bool
stands_before a b = nat_lt a.place b.place || ((a.place == b.place) && (nat_lt a.result b.result || ((a.result == b.result) && nat_lt a.leaf b.leaf)))

abbrev pub before_next : Site → List Site → Bool
before_next a [] = true
before_next a (b ∷ sites) = stands_before a b

abbrev pub in_order : List Site → Bool
in_order [] = true
in_order (a ∷ sites) = before_next a sites && in_order sites

-- whether the site is that of no result of a call
abbrev pub is_single : Site → Bool
is_single site = (site.result == 0) && (site.leaf == 0)

abbrev pub is_external : Option Function → Bool
is_external None = false
is_external (Some fn) = is_some fn.external

-- whether a call of it may have sites
abbrev pub may_own : List Function → Callee → Bool
may_own fns (Static h) = is_external (slice_get fns h)
may_own fns (Value r) = true
may_own fns (Method r name) = false

-- whether the site number n can be one of an instruction of this kind
abbrev pub is_made_by : List Function → ℕ → Site → Option Kind → Bool
is_made_by fns n site (Some (New to s)) = (s == n) && is_single site
is_made_by fns n site (Some (Grow to at items)) = is_none site.function && is_single site && are_of_elements site.shape
is_made_by fns n site (Some (Call to callee args)) = is_none site.function && may_own fns callee
is_made_by fns n site _ = false

-- whether the leaves are those of an object that stands for the function
abbrev pub captures_fit : List (List PathStep) → Option Function → Bool
captures_fit shape None = false
captures_fit shape (Some fn) = are_of_captures shape && (fn.has_env || (length shape == 0))

-- whether the leaves of a site are those of a function value, or few
abbrev pub shape_fits : List Function → List (List PathStep) → Option ℕ → Bool
shape_fits fns shape None = nat_le (length shape) 8192
shape_fits fns shape (Some h) = captures_fit shape (slice_get fns h)

abbrev pub site_fits : List Function → List Instr → ℕ → Site → Bool
site_fits fns instrs n site = is_made_by fns n site (kind_of (slice_get instrs site.place)) && shape_fits fns site.shape site.function && no_path_twice site.shape

-- whether the sites from the n-th on are what sites of instructions are
abbrev pub sites_fit : List Function → List Instr → ℕ → List Site → Bool
sites_fit fns instrs n [] = true
sites_fit fns instrs n (site ∷ sites) = site_fits fns instrs n site && sites_fit fns instrs (n + 1) sites

-- whether the items of a slice have the leaves of its elements
abbrev pub items_fit : Function → List (List PathStep) → List ℕ → Bool
items_fit fn shape [] = true
items_fit fn shape (r ∷ rs) = same_elements (leaves_of fn r) shape && items_fit fn shape rs

-- whether the register has so many leaves
abbrev pub has_leaf : Function → ℕ → Option ℕ → Bool
has_leaf fn leaf None = false
has_leaf fn leaf (Some r) = nat_lt leaf (length (leaves_of fn r))

-- whether the site goes with the registers of its function
abbrev pub fits_function : Site → Option Kind → Function → Bool
fits_function site (Some (Grow to at items)) fn = items_fit fn site.shape items
fits_function site (Some (Call to callee args)) fn = has_leaf fn site.leaf (slice_get to site.result)
fits_function site _ fn = true

-- the functions from the one on that ends at the place or behind it
abbrev pub from_place : ℕ → List Function → List Function
from_place i [] = []
from_place i (fn ∷ fns) = if nat_lt fn.leave i then from_place i fns else fn ∷ fns

abbrev pub fits_first : List Instr → Site → List Function → Bool
fits_first instrs site [] = false
fits_first instrs site (fn ∷ fns) = nat_le fn.entry site.place && fits_function site (kind_of (slice_get instrs site.place)) fn

-- whether each site goes with the registers of the function that has its place
abbrev pub owned_fit : List Instr → List Function → List Site → Bool
owned_fit instrs fns [] = true
owned_fit instrs fns (site ∷ sites) = fits_first instrs site (from_place site.place fns) && owned_fit instrs (from_place site.place fns) sites

-- the sites from the one on that stands at the place or behind it
abbrev pub from_site : ℕ → List Site → List Site
from_site i [] = []
from_site i (site ∷ sites) = if nat_lt site.place i then from_site i sites else site ∷ sites

abbrev pub stands_at : ℕ → List Site → Bool
stands_at i [] = false
stands_at i (site ∷ sites) = site.place == i

abbrev pub is_grow : Kind → Bool
is_grow (Grow to at items) = true
is_grow _ = false

-- whether each Grow from the place on has a site
abbrev pub grows_fit : ℕ → List Instr → List Site → Bool
grows_fit i [] sites = true
grows_fit i (x ∷ xs) sites = (not (is_grow x.kind) || stands_at i (from_site i sites)) && grows_fit (i + 1) xs (from_site i sites)

-- whether the site is one of a package variable
abbrev pub is_of_global : Option Site → Bool
is_of_global None = false
is_of_global (Some site) = (site.place == 0) && is_single site && is_none site.function && nat_le (length site.shape) 8192 && no_path_twice site.shape

-- whether the package variables from the k-th on have the sites of their numbers
abbrev pub globals_fit : ℕ → List Site → ℕ → List (Ident × Pos × ℕ) → Bool
globals_fit files sites k [] = true
globals_fit files sites k (x ∷ xs) = (x.2 == k) && nat_lt x.1.file files && is_of_global (slice_get sites k) && globals_fit files sites (k + 1) xs
