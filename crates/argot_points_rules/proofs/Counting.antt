-- Lists that a loop pushes, by their next part.
use Rattle.std.proofs.Common.{◌≡◌, ℕ, zero, suc, ◌+◌, ◌-◌, ◌<◌, ◌≤◌, nat_lt, List, [], ◌∷◌, ◌++◌, Some, arith, sym, ap, subst, inl, inr, length-append, eqb-true, eq-eqb, ◌∙◌, map, drop}
use Rattle.std.specs.Prelude.{slice_get, length, ◌⊎◌, ◌==◌, if◌then◌else◌}
use Rattle.std.proofs.lemmas.Bool.{false_from_ne_true}
use Rattle.std.proofs.lemmas.List.{append_assoc}
use Rattle.std.proofs.lemmas.Option.{slice_get_past, slice_get-get_or}
use Rattle.argot_plain.specs.Code.{Code, kind_of, IsAt}
use Rattle.argot_plain.specs.declared.instructions.Kind.{Kind}
use Rattle.argot_plain.specs.declared.functions.Function.{Function}
use Rattle.argot_plain.specs.declared.sites.Site.{Site}
use Rattle.argot_facts.specs.Numbers.{node, leaf_nodes, index_nodes, place_nodes, place_leaves, function_nodes, nodes_of, first_site, location, locations_from, locations_of, paths_of}
use Rattle.argot_facts.specs.declared.nodes.Node.{Node}
use Rattle.argot_points_rules.specs.Column.{positions, defined_by, definitions_at, copies, value_copies, owned, fresh_from, kind_rules, optional_rules, place_rules, function_rules}
use Rattle.argot_points_rules.specs.declared.rules.Rule.TheVariants.{Fresh}
use Rattle.argot_text.specs.declared.path.PathStep.{PathStep}
use Rattle.argot_points_rules.specs.Listing.{LacksNodes, LacksLocations}
use Rattle.argot_points_rules.specs.declared.rules.PointsFault.{PointsFault}
use Rattle.argot_points_rules.specs.declared.rules.PointsFault.TheVariants.{Nodes, Locations, Memory}

-- what was pushed stands before what is still to come
pub pushed_all : {A : Type 0} (old new more rest full whole : List A) → old ++ full ≡ whole → full ≡ more ++ rest → new ≡ old ++ more → new ++ rest ≡ whole
pushed_all old new more rest full whole h f e = ap (λ xs. xs ++ rest) e ∙ append_assoc old more rest ∙ ap (λ xs. old ++ xs) (sym f) ∙ h

pub part_of : {A : Type 0} (old more rest full whole : List A) → old ++ full ≡ whole → full ≡ more ++ rest → (old ++ more) ++ rest ≡ whole
part_of old more rest full whole h f = append_assoc old more rest ∙ ap (λ xs. old ++ xs) (sym f) ∙ h

one_less : (a n : ℕ) → a < n → n - a ≡ suc (n - (a + 1))
one_less a n h = omega arith

pub leaf_nodes_next : (i k a n : ℕ) → a < n → leaf_nodes i k a (n - a) ≡ node i k a ∷ leaf_nodes i k (a + 1) (n - (a + 1))
leaf_nodes_next i k a n h = ap (leaf_nodes i k a) (one_less a n h)

pub place_nodes_next : (p : Code) (fn : Function) (i n : ℕ) → i < n → place_nodes p fn i (n - i) ≡ index_nodes i 0 (place_leaves p fn i) ++ place_nodes p fn (i + 1) (n - (i + 1))
place_nodes_next p fn i n h = ap (place_nodes p fn i) (one_less i n h)

drop_suc : {X : Type 0} (xs : List X) (n : ℕ) (x : X) → slice_get xs n ≡ Some x → drop n xs ≡ x ∷ drop (suc n) xs
drop_suc [] n x h = absurd cc
drop_suc (y ∷ xs) zero x h = cc
drop_suc (y ∷ xs) (suc n) x h = drop_suc xs n x h

one_more : (n : ℕ) → suc n ≡ n + 1
one_more n = omega arith

pub drop_next : {X : Type 0} (xs : List X) (n : ℕ) (x : X) → slice_get xs n ≡ Some x → drop n xs ≡ x ∷ drop (n + 1) xs
drop_next xs n x h = drop_suc xs n x h ∙ ap (λ m. x ∷ drop m xs) (one_more n)

pub first_hit : (i n : ℕ) (sites : List Site) (site : Site) → slice_get sites n ≡ Some site → site.place ≡ i → first_site i n (drop n sites) ≡ Some n
first_hit i n sites site h t = ap (first_site i n) (drop_next sites n site h) ∙ ap (λ b. if b then Some n else first_site i (n + 1) (drop (n + 1) sites)) (eq-eqb site.place i t)

pub first_miss : (i n : ℕ) (sites : List Site) (site : Site) → slice_get sites n ≡ Some site → (site.place ≡ i → ⊥) → first_site i n (drop n sites) ≡ first_site i (n + 1) (drop (n + 1) sites)
first_miss i n sites site h t = ap (first_site i n) (drop_next sites n site h) ∙ ap (λ b. if b then Some n else first_site i (n + 1) (drop (n + 1) sites)) (false_from_ne_true (site.place == i) (λ e. t (eqb-true site.place i e)))

-- a part is no longer than the whole
pub too_many : {A : Type 0} (n : ℕ) (new rest whole : List A) → new ++ rest ≡ whole → n < length new → n < length whole
too_many n new rest whole e h = omega (arith, length-append new rest, ap length e)

pub functions_next : (p : Code) (g : ℕ) (fns : List Function) (fn : Function) → slice_get fns g ≡ Some fn → function_nodes p (drop g fns) ≡ place_nodes p fn fn.entry (fn.leave + 1 - fn.entry) ++ function_nodes p (drop (g + 1) fns)
functions_next p g fns fn h = ap (function_nodes p) (drop_next fns g fn h)

pub lacks_nodes : (p : Code) (e : PointsFault) → (e ≡ Nodes) ⊎ (e ≡ Memory) → (e ≡ Nodes → 262144 < length (nodes_of p)) → LacksNodes p e
lacks_nodes p e (inl n) h = subst (LacksNodes p) (sym n) (h n)
lacks_nodes p e (inr m) h = subst (LacksNodes p) (sym m) tt

pub sites_next : (s : ℕ) (sites : List Site) (site : Site) → slice_get sites s ≡ Some site → locations_from s (drop s sites) ≡ map (location s) (paths_of site) ++ locations_from (s + 1) (drop (s + 1) sites)
sites_next s sites site h = ap (locations_from s) (drop_next sites s site h)

pub lacks_locations : (p : Code) (e : PointsFault) → (e ≡ Locations) ⊎ (e ≡ Memory) → (e ≡ Locations → 65536 < length (locations_of p)) → LacksLocations p e
lacks_locations p e (inl n) h = subst (LacksLocations p) (sym n) (h n)
lacks_locations p e (inr m) h = subst (LacksLocations p) (sym m) tt

-- behind the last place nothing is defined
pub no_definition : (p : Code) (fn : Function) (r d : ℕ) → (d ≡ fn.entry → ⊥) → length p.instrs ≤ d → definitions_at p fn r d ≡ []
no_definition p fn r d other past =
    ap (λ b. if b then (if nat_lt r fn.params then (d, r) ∷ [] else []) else positions d r 0 (defined_by (kind_of (slice_get p.instrs d)))) (false_from_ne_true (d == fn.entry) (λ e. other (eqb-true d fn.entry e)))
    ∙ ap (λ o. positions d r 0 (defined_by (kind_of o))) (slice_get_past p.instrs d past)

pub values_next : (h i k a : ℕ) (leaves : List (List PathStep)) (found : List (ℕ × ℕ)) → a < length leaves → value_copies h i k a (drop a leaves) found ≡ copies h (node i k a) a found ++ value_copies h i k (a + 1) (drop (a + 1) leaves) found
values_next h i k a leaves found l = ap (λ qs. value_copies h i k a qs found) (drop_next leaves a _ (slice_get-get_or leaves a [] l))

pub fresh_next : (h i : ℕ) (by : Node) (s : ℕ) (sites : List Site) (site : Site) → slice_get sites s ≡ Some site
    → fresh_from h i by s (drop s sites) ≡ (if site.place == i then owned h (Fresh i by (node i site.result site.leaf) s) ∷ [] else []) ++ fresh_from h i by (s + 1) (drop (s + 1) sites)
fresh_next h i by s sites site e = ap (fresh_from h i by s) (drop_next sites s site e)

pub places_next : (p : Code) (fn : Function) (ds : List (ℕ × ℕ × ℕ)) (h i n : ℕ) (kind : Kind) → i < n → IsAt p i kind
    → place_rules p fn ds h i (n - i) ≡ kind_rules p fn ds h i kind ++ place_rules p fn ds h (i + 1) (n - (i + 1))
places_next p fn ds h i n kind l is = ap (place_rules p fn ds h i) (one_less i n l) ∙ ap (λ o. optional_rules p fn ds h i o ++ place_rules p fn ds h (i + 1) (n - (i + 1))) is

pub owners_next : (p : Code) (ds : List (ℕ × ℕ × ℕ)) (h : ℕ) (fns : List Function) (fn : Function) → slice_get fns h ≡ Some fn
    → function_rules p ds h (drop h fns) ≡ place_rules p fn ds h fn.entry (fn.leave + 1 - fn.entry) ++ function_rules p ds (h + 1) (drop (h + 1) fns)
owners_next p ds h fns fn e = ap (function_rules p ds h) (drop_next fns h fn e)
