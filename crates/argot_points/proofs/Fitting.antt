-- The lists of nodes and locations of a program are ordered as the solver's searches want them.
use Rattle.std.proofs.Common.{◌≡◌, ℕ, ◌+◌, ◌≤◌, List, [], ◌∷◌, Some, map, sym, ap, ◌∙◌, inl, inr, arith}
use Rattle.std.specs.Prelude.{slice_get, length}
use Rattle.std.proofs.lemmas.Bool.{cases_lt}
use Rattle.argot_plain.specs.Lists.{In}
use Rattle.argot_plain.specs.WellFormed.{WellFormed}
use Rattle.argot_plain.specs.declared.sites.Site.{Site}
use Rattle.argot_facts.specs.Numbers.{location, locations_from, paths_of, nodes_of, locations_of}
use Rattle.argot_facts.specs.declared.pointing.Loc.{Loc}
use Rattle.argot_facts.proofs.Listed.{In-append, In-mapped, Sorted, sorted_append, get-map}
use Rattle.argot_facts.proofs.Located.{locations_are}
use Rattle.argot_facts.proofs.Placed.{nodes_sorted}
use Rattle.argot_points.specs.declared.system.System.{System}
use Rattle.argot_points.specs.Solved.{Fits}

-- no location of these stands before the first site
behind_first : (s : ℕ) (sites : List Site) (l : Loc) → In l (locations_from s sites) → s ≤ l.site
behind_first s [] l m = elim m [ ]
behind_first s (site ∷ sites) l m = elim (In-append l (map (location s) (paths_of site)) (locations_from (s + 1) sites) m) [
  | inl h ↦ let x = In-mapped (location s) l (paths_of site) h in omega (arith, ap (λ (y : Loc). y.site) x.2)
  | inr h ↦ omega (arith, behind_first (s + 1) sites l h)
]

abbrev SiteOrder : Loc → Loc → Type 0
SiteOrder a b = a.site ≤ b.site

by_site : (s : ℕ) (sites : List Site) → Sorted SiteOrder (locations_from s sites)
by_site s [] = λ m n a b l h k. absurd cc
by_site s (site ∷ sites) = sorted_append SiteOrder (map (location s) (paths_of site)) (locations_from (s + 1) sites)
    (λ m n a b l h k.
    let x = get-map (location s) (paths_of site) m a h in
    let y = get-map (location s) (paths_of site) n b k in
    omega (arith, ap (λ (z : Loc). z.site) x.2, ap (λ (z : Loc). z.site) y.2))
    (by_site (s + 1) sites)
    (λ a b h k.
    let x = In-mapped (location s) a (paths_of site) h in
    omega (arith, ap (λ (z : Loc). z.site) x.2, behind_first (s + 1) sites b k))

pub fits_of : (s : System) → WellFormed s.program.now → s.nodes.items ≡ nodes_of s.program.now → s.locations.items ≡ locations_of s.program.now → length s.nodes.items ≤ 262144 → length s.locations.items ≤ 65536 → Fits s
fits_of s wf nodes locations few_nodes few_locations = record {
  well = wf;
  nodes = λ m n a b l h k. nodes_sorted s.program.now wf.ranges m n a b l (ap (λ xs. slice_get xs m) (sym nodes) ∙ h) (ap (λ xs. slice_get xs n) (sym nodes) ∙ k);
  sites = λ m n a b l h k. elim (cases_lt m n) [
    | inl o ↦ by_site 0 s.program.now.sites m n a b o (ap (λ xs. slice_get xs m) (sym locations) ∙ h) (ap (λ xs. slice_get xs n) (sym locations) ∙ k)
    | inr o ↦ let z : m ≡ n = omega arith in let e : Some a ≡ Some b = sym h ∙ ap (slice_get s.locations.items) z ∙ k in let f : a ≡ b = cc in omega (arith, ap (λ (x : Loc). x.site) f)
  ];
  distinct = λ m n a h k. (locations_are s.program.now).distinct m n a (ap (λ xs. slice_get xs m) (sym locations) ∙ h) (ap (λ xs. slice_get xs n) (sym locations) ∙ k);
  few_nodes = few_nodes;
  few_locations = few_locations;
}
