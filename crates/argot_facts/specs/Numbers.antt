-- The nodes of a program one after the other, place by place, and its locations, site by site. What stands in these lists is
-- numbered by them.
use Rattle.std.specs.Prelude.{ℕ, zero, suc, ◌+◌, ◌-◌, ◌==◌, List, [], ◌∷◌, ◌++◌, Option, Some, None, map, length, drop, take, slice_get, if◌then◌else◌}
use Rattle.argot_plain.specs.Lists.{has_path}
use Rattle.argot_plain.specs.Code.{Code, kind_of, leaves_in, element_leaves, node_registers}
use Rattle.argot_plain.specs.declared.functions.Function.{Function}
use Rattle.argot_plain.specs.declared.instructions.Kind.{Kind}
use Rattle.argot_plain.specs.declared.instructions.Kind.TheVariants.{Grow}
use Rattle.argot_plain.specs.declared.sites.Site.{Site}
use Rattle.argot_text.specs.declared.path.PathStep.{PathStep}
use Rattle.argot_facts.specs.declared.nodes.Node.{Node}
use Rattle.argot_facts.specs.declared.pointing.Loc.{Loc}

abbrev pub node : ℕ → ℕ → ℕ → Node
node i k a = record { place = i; index = k; leaf = a }

abbrev pub location : ℕ → List PathStep → Loc
location s q = record { site = s; path = q }

-- the leaf paths of a register of the function
abbrev pub leaves_of : Function → ℕ → List (List PathStep)
leaves_of fn r = leaves_in (Some fn) r

-- the first site of the place i among these, which are numbered from n on
abbrev pub first_site : ℕ → ℕ → List Site → Option ℕ
first_site i n [] = None
first_site i n (site ∷ sites) = if site.place == i then Some n else first_site i (n + 1) sites

-- the site of the instruction at the place i, if it has one; package variables have the first sites
abbrev pub own_site : Code → ℕ → Option ℕ
own_site p i = first_site i (length p.globals) (drop (length p.globals) p.sites)

abbrev pub shape_at : Code → Option ℕ → List (List PathStep)
shape_at p None = []
shape_at p (Some n) = shape_of (slice_get p.sites n)
  where
    shape_of : Option Site → List (List PathStep)
    shape_of None = []
    shape_of (Some site) = site.shape

abbrev pub elements_at : Code → Option ℕ → List (List PathStep)
elements_at p None = []
elements_at p (Some n) = elements_of (slice_get p.sites n)
  where
    elements_of : Option Site → List (List PathStep)
    elements_of None = []
    elements_of (Some site) = element_leaves site

-- the leaf paths of each index of an instruction of the function
abbrev pub kind_leaves : Code → Function → ℕ → Option Kind → List (List (List PathStep))
kind_leaves p fn i None = []
kind_leaves p fn i (Some (Grow to at items)) = leaves_of fn to ∷ elements_at p (own_site p i) ∷ elements_at p (own_site p i) ∷ []
kind_leaves p fn i (Some kind) = map (leaves_of fn) (node_registers kind)

-- the leaf paths of each index of the place i of the function: at its first place those of the parameters
abbrev pub place_leaves : Code → Function → ℕ → List (List (List PathStep))
place_leaves p fn i = if i == fn.entry then take fn.params fn.registers else kind_leaves p fn i (kind_of (slice_get p.instrs i))

-- the nodes of n leaves, numbered from a on
abbrev pub leaf_nodes : ℕ → ℕ → ℕ → ℕ → List Node
leaf_nodes i k a zero = []
leaf_nodes i k a (suc n) = node i k a ∷ leaf_nodes i k (a + 1) n

-- the nodes of these indices, numbered from k on
abbrev pub index_nodes : ℕ → ℕ → List (List (List PathStep)) → List Node
index_nodes i k [] = []
index_nodes i k (qs ∷ lists) = leaf_nodes i k 0 (length qs) ++ index_nodes i (k + 1) lists

-- the nodes of n places of the function, from the place i on
abbrev pub place_nodes : Code → Function → ℕ → ℕ → List Node
place_nodes p fn i zero = []
place_nodes p fn i (suc n) = index_nodes i 0 (place_leaves p fn i) ++ place_nodes p fn (i + 1) n

-- the nodes of these functions
abbrev pub function_nodes : Code → List Function → List Node
function_nodes p [] = []
function_nodes p (fn ∷ fns) = place_nodes p fn fn.entry (fn.leave + 1 - fn.entry) ++ function_nodes p fns

abbrev pub nodes_of : Code → List Node
nodes_of p = function_nodes p p.functions

-- the paths with this one, which stands there once
abbrev pub with_path : List (List PathStep) → List PathStep → List (List PathStep)
with_path qs q = if has_path q qs then qs else qs ++ q ∷ []

-- the paths with all that lead from the first of these two on along the second
abbrev pub with_prefixes : List (List PathStep) → List PathStep → List PathStep → List (List PathStep)
with_prefixes qs front [] = qs
with_prefixes qs front (s ∷ rest) = with_prefixes (with_path qs (front ++ s ∷ [])) (front ++ s ∷ []) rest

abbrev pub with_leaves : List (List PathStep) → List (List PathStep) → List (List PathStep)
with_leaves qs [] = qs
with_leaves qs (leaf ∷ shape) = with_leaves (with_prefixes qs [] leaf) shape

-- the paths of a site: the empty one, and all that lead to a leaf of its shape
abbrev pub paths_of : Site → List (List PathStep)
paths_of site = with_leaves ([] ∷ []) site.shape

-- the locations of these sites, numbered from s on
abbrev pub locations_from : ℕ → List Site → List Loc
locations_from s [] = []
locations_from s (site ∷ sites) = map (location s) (paths_of site) ++ locations_from (s + 1) sites

abbrev pub locations_of : Code → List Loc
locations_of p = locations_from 0 p.sites
