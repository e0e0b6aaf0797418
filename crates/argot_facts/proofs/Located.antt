-- The locations that are listed are those of the program, each once.
use Rattle.std.proofs.Common.{◌≡◌, ℕ, zero, suc, ◌+◌, true, List, [], ◌∷◌, ◌++◌, Some, map, refl, sym, ap, ◌∙◌, inl, inr, arith, subst, eqb-true, eq-eqb}
use Rattle.std.specs.Prelude.{◌⊎◌, slice_get, ◌||◌, if◌then◌else◌}
use Rattle.std.proofs.lemmas.Bool.{cases_Bool, and_parts, and_from, or_cases, or_left, or_right, both_ways}
use Rattle.std.proofs.lemmas.List.{append_assoc}
use Rattle.argot_plain.specs.Lists.{In, here, there, IsDistinct, same_step, same_path, has_path, begins_with, leads_on}
use Rattle.argot_plain.specs.Code.{Code}
use Rattle.argot_plain.specs.Machine.{is_path_of, shape_of}
use Rattle.argot_plain.specs.declared.sites.Site.{Site}
use Rattle.argot_text.specs.declared.path.PathStep.{PathStep}
use Rattle.argot_text.specs.declared.path.PathStep.TheVariants.{Field, Element, Key, Value, Channel, Capture}
use Rattle.argot_facts.specs.Exact.{IsLocation, AreLocations}
use Rattle.argot_facts.specs.Numbers.{location, with_path, with_prefixes, with_leaves, paths_of, locations_from, locations_of}
use Rattle.argot_facts.specs.declared.pointing.Loc.{Loc}
use Rattle.argot_facts.proofs.Listed.{In-append, In-left, In-right, In-mapped, In-map, in_of_get, get-append, get-map, get_within, get_at}

same_step_is : (s t : PathStep) → same_step s t ≡ true → s ≡ t
same_step_is (Field a) (Field b) h = ap Field (eqb-true a b h)
same_step_is Element Element h = refl
same_step_is Key Key h = refl
same_step_is Value Value h = refl
same_step_is Channel Channel h = refl
same_step_is (Capture a) (Capture b) h = ap Capture (eqb-true a b h)
same_step_is _ _ h = cc

same_step_self : (s : PathStep) → same_step s s ≡ true
same_step_self (Field n) = eq-eqb n n refl
same_step_self Element = refl
same_step_self Key = refl
same_step_self Value = refl
same_step_self Channel = refl
same_step_self (Capture n) = eq-eqb n n refl

pub same_path_is : (p q : List PathStep) → same_path p q ≡ true → p ≡ q
same_path_is [] [] h = refl
same_path_is [] (t ∷ q) h = cc
same_path_is (s ∷ p) [] h = cc
same_path_is (s ∷ p) (t ∷ q) h = let b = and_parts (same_step s t) (same_path p q) h in let x = same_step_is s t b.0 in let y = same_path_is p q b.1 in cc

pub same_path_self : (p : List PathStep) → same_path p p ≡ true
same_path_self [] = refl
same_path_self (s ∷ p) = and_from (same_step s s) (same_path p p) (same_step_self s) (same_path_self p)

has_is : (q : List PathStep) (qs : List (List PathStep)) → has_path q qs ≡ true → In q qs
has_is q [] h = cc
has_is q (p ∷ ps) h = elim (or_cases (same_path q p) (has_path q ps) h) [ inl a ↦ here (same_path_is q p a) | inr b ↦ there (has_is q ps b) ]

is_has : (q : List PathStep) (qs : List (List PathStep)) → In q qs → has_path q qs ≡ true
is_has q [] h = elim h [ ]
is_has q (p ∷ ps) (here e) = or_left (same_path q p) (has_path q ps) (subst (λ x. same_path q x ≡ true) e (same_path_self q))
is_has q (p ∷ ps) (there h) = or_right (same_path q p) (has_path q ps) (is_has q ps h)

-- one path more
with_keeps : (qs : List (List PathStep)) (f q : List PathStep) → In q qs → In q (with_path qs f)
with_keeps qs f q h = elim (cases_Bool (has_path f qs)) [
  | inl t ↦ subst (In q) (sym (ap (λ b. if b then qs else qs ++ f ∷ []) t)) h
  | inr t ↦ subst (In q) (sym (ap (λ b. if b then qs else qs ++ f ∷ []) t)) (In-left q qs (f ∷ []) h)
]

with_has : (qs : List (List PathStep)) (f : List PathStep) → In f (with_path qs f)
with_has qs f = elim (cases_Bool (has_path f qs)) [
  | inl t ↦ subst (In f) (sym (ap (λ b. if b then qs else qs ++ f ∷ []) t)) (has_is f qs t)
  | inr t ↦ subst (In f) (sym (ap (λ b. if b then qs else qs ++ f ∷ []) t)) (In-right f qs (f ∷ []) (here refl))
]

with_only : (qs : List (List PathStep)) (f q : List PathStep) → In q (with_path qs f) → In q qs ⊎ (q ≡ f)
with_only qs f q h = elim (cases_Bool (has_path f qs)) [
  | inl t ↦ inl (subst (In q) (ap (λ b. if b then qs else qs ++ f ∷ []) t) h)
  | inr t ↦ elim (In-append q qs (f ∷ []) (subst (In q) (ap (λ b. if b then qs else qs ++ f ∷ []) t) h)) [ inl a ↦ inl a | inr b ↦ inr (only b) ]
]
  where
    only : In q (f ∷ []) → q ≡ f
    only (here e) = e
    only (there m) = elim m [ ]

distinct_more : (qs : List (List PathStep)) (f : List PathStep) → IsDistinct qs → (In f qs → ⊥) → IsDistinct (qs ++ f ∷ [])
distinct_more qs f d n a b x h k = elim (get-append qs (f ∷ []) a x h) [
  | inl e ↦ elim (get-append qs (f ∷ []) b x k) [ inl g ↦ d a b x e g | inr g ↦ absurd (n (subst (λ y. In y qs) (last g.0 g.1) (in_of_get qs a x e))) ]
  | inr e ↦ elim (get-append qs (f ∷ []) b x k) [
    | inl g ↦ absurd (n (subst (λ y. In y qs) (last e.0 e.1) (in_of_get qs b x g)))
    | inr g ↦ omega (arith, e.2, g.2, get_within (f ∷ []) e.0 x e.1, get_within (f ∷ []) g.0 x g.1)
  ]
]
  where
    last : (m : ℕ) → slice_get (f ∷ []) m ≡ Some x → x ≡ f
    last zero e = cc
    last (suc m) e = absurd cc

distinct_with : (qs : List (List PathStep)) (f : List PathStep) → IsDistinct qs → IsDistinct (with_path qs f)
distinct_with qs f d = elim (cases_Bool (has_path f qs)) [
  | inl t ↦ subst (λ (xs : List (List PathStep)). IsDistinct xs) (sym (ap (λ b. if b then qs else qs ++ f ∷ []) t)) d
  | inr t ↦ subst (λ (xs : List (List PathStep)). IsDistinct xs) (sym (ap (λ b. if b then qs else qs ++ f ∷ []) t)) (distinct_more qs f d (λ m. both_ways _ t (is_has f qs m)))
]

-- all that lead to a leaf
prefixes_keep : (qs : List (List PathStep)) (front rest q : List PathStep) → In q qs → In q (with_prefixes qs front rest)
prefixes_keep qs front [] q h = h
prefixes_keep qs front (s ∷ rest) q h = prefixes_keep (with_path qs (front ++ s ∷ [])) (front ++ s ∷ []) rest q (with_keeps qs (front ++ s ∷ []) q h)

prefixes_have : (qs : List (List PathStep)) (front rest : List PathStep) (t : PathStep) (pre : List PathStep) → begins_with (t ∷ pre) rest ≡ true → In (front ++ t ∷ pre) (with_prefixes qs front rest)
prefixes_have qs front [] t pre h = cc
prefixes_have qs front (s ∷ rest) t [] h =
    let b = and_parts (same_step t s) (begins_with [] rest) h in
    let e : t ≡ s = same_step_is t s b.0 in
    prefixes_keep (with_path qs (front ++ s ∷ [])) (front ++ s ∷ []) rest (front ++ t ∷ []) (subst (λ x. In (front ++ x ∷ []) (with_path qs (front ++ s ∷ []))) (sym e) (with_has qs (front ++ s ∷ [])))
prefixes_have qs front (s ∷ rest) t (u ∷ pre) h =
    let b = and_parts (same_step t s) (begins_with (u ∷ pre) rest) h in
    let e : t ≡ s = same_step_is t s b.0 in
    let r = prefixes_have (with_path qs (front ++ s ∷ [])) (front ++ s ∷ []) rest u pre b.1 in
    subst (λ x. In (front ++ x ∷ u ∷ pre) (with_prefixes (with_path qs (front ++ s ∷ [])) (front ++ s ∷ []) rest)) (sym e) (subst (λ x. In x (with_prefixes (with_path qs (front ++ s ∷ [])) (front ++ s ∷ []) rest)) (append_assoc front (s ∷ []) (u ∷ pre)) r)

prefixes_only : (qs : List (List PathStep)) (front rest q : List PathStep) → In q (with_prefixes qs front rest) → In q qs ⊎ ((pre : List PathStep) × (q ≡ front ++ pre) × (begins_with pre rest ≡ true))
prefixes_only qs front [] q h = inl h
prefixes_only qs front (s ∷ rest) q h = elim (prefixes_only (with_path qs (front ++ s ∷ [])) (front ++ s ∷ []) rest q h) [
  | inl a ↦ elim (with_only qs (front ++ s ∷ []) q a) [ inl b ↦ inl b | inr e ↦ inr (s ∷ [], e, and_from (same_step s s) (begins_with [] rest) (same_step_self s) refl) ]
  | inr r ↦ inr (s ∷ r.0, r.1 ∙ append_assoc front (s ∷ []) r.0, and_from (same_step s s) (begins_with r.0 rest) (same_step_self s) r.2)
]

distinct_prefixes : (qs : List (List PathStep)) (front rest : List PathStep) → IsDistinct qs → IsDistinct (with_prefixes qs front rest)
distinct_prefixes qs front [] d = d
distinct_prefixes qs front (s ∷ rest) d = distinct_prefixes (with_path qs (front ++ s ∷ [])) (front ++ s ∷ []) rest (distinct_with qs (front ++ s ∷ []) d)

-- for all leaves
leaves_keep : (qs shape : List (List PathStep)) (q : List PathStep) → In q qs → In q (with_leaves qs shape)
leaves_keep qs [] q h = h
leaves_keep qs (leaf ∷ shape) q h = leaves_keep (with_prefixes qs [] leaf) shape q (prefixes_keep qs [] leaf q h)

leaves_have : (qs shape : List (List PathStep)) (t : PathStep) (pre : List PathStep) → leads_on (t ∷ pre) shape ≡ true → In (t ∷ pre) (with_leaves qs shape)
leaves_have qs [] t pre h = cc
leaves_have qs (leaf ∷ shape) t pre h = elim (or_cases (begins_with (t ∷ pre) leaf) (leads_on (t ∷ pre) shape) h) [
  | inl a ↦ leaves_keep (with_prefixes qs [] leaf) shape (t ∷ pre) (prefixes_have qs [] leaf t pre a)
  | inr b ↦ leaves_have (with_prefixes qs [] leaf) shape t pre b
]

leaves_only : (qs shape : List (List PathStep)) (q : List PathStep) → In q (with_leaves qs shape) → In q qs ⊎ (leads_on q shape ≡ true)
leaves_only qs [] q h = inl h
leaves_only qs (leaf ∷ shape) q h = elim (leaves_only (with_prefixes qs [] leaf) shape q h) [
  | inl a ↦ elim (prefixes_only qs [] leaf q a) [ inl b ↦ inl b | inr r ↦ inr (or_left (begins_with q leaf) (leads_on q shape) (subst (λ x. begins_with x leaf ≡ true) (sym r.1) r.2)) ]
  | inr b ↦ inr (or_right (begins_with q leaf) (leads_on q shape) b)
]

distinct_leaves : (qs shape : List (List PathStep)) → IsDistinct qs → IsDistinct (with_leaves qs shape)
distinct_leaves qs [] d = d
distinct_leaves qs (leaf ∷ shape) d = distinct_leaves (with_prefixes qs [] leaf) shape (distinct_prefixes qs [] leaf d)

distinct_one : IsDistinct {A = List PathStep} ([] ∷ [])
distinct_one a b x h k = omega (arith, get_within ([] ∷ []) a x h, get_within ([] ∷ []) b x k)

path_listed : (site : Site) (q : List PathStep) → (same_path q [] || leads_on q site.shape) ≡ true → In q (paths_of site)
path_listed site [] h = leaves_keep ([] ∷ []) site.shape [] (here refl)
path_listed site (t ∷ pre) h = elim (or_cases (same_path (t ∷ pre) []) (leads_on (t ∷ pre) site.shape) h) [
  | inl a ↦ cc
  | inr b ↦ leaves_have ([] ∷ []) site.shape t pre b
]

path_only : (site : Site) (q : List PathStep) → In q (paths_of site) → (same_path q [] || leads_on q site.shape) ≡ true
path_only site q h = elim (leaves_only ([] ∷ []) site.shape q h) [
  | inl a ↦ or_left (same_path q []) (leads_on q site.shape) (root a)
  | inr b ↦ or_right (same_path q []) (leads_on q site.shape) b
]
  where
    root : In q ([] ∷ []) → same_path q [] ≡ true
    root (here e) = subst (λ x. same_path x [] ≡ true) (sym e) refl
    root (there m) = elim m [ ]

-- site by site
location_found : (s : ℕ) (sites : List Site) (l : Loc) → In l (locations_from s sites) → (k : ℕ) × (site : Site) × (slice_get sites k ≡ Some site) × (l.site ≡ s + k) × In l.path (paths_of site)
location_found s [] l h = elim h [ ]
location_found s (site ∷ sites) l h = elim (In-append l (map (location s) (paths_of site)) (locations_from (s + 1) sites) h) [
  | inl a ↦ let r = In-mapped (location s) l (paths_of site) a in let z : s ≡ s + 0 = omega arith in (0, site, refl, ap (λ (y : Loc). y.site) r.2 ∙ z, subst (λ x. In x (paths_of site)) (sym (ap (λ (y : Loc). y.path) r.2)) r.1)
  | inr b ↦ let r = location_found (s + 1) sites l b in let z : s + 1 + r.0 ≡ s + suc r.0 = omega arith in (suc r.0, r.1, r.2, r.3 ∙ z, r.4)
]

location_listed : (s : ℕ) (sites : List Site) (k : ℕ) (site : Site) (q : List PathStep) → slice_get sites k ≡ Some site → In q (paths_of site) → In (location (s + k) q) (locations_from s sites)
location_listed s [] k site q h m = absurd cc
location_listed s (x ∷ sites) zero site q h m =
    let e : site ≡ x = cc in let z : s ≡ s + 0 = omega arith in
    In-left (location (s + 0) q) (map (location s) (paths_of x)) (locations_from (s + 1) sites)
    (subst (λ c. In (location c q) (map (location s) (paths_of x))) z (In-map (location s) q (paths_of x) (subst (λ (y : Site). In q (paths_of y)) e m)))
location_listed s (x ∷ sites) (suc k) site q h m =
    let z : s + 1 + k ≡ s + suc k = omega arith in
    In-right (location (s + suc k) q) (map (location s) (paths_of x)) (locations_from (s + 1) sites)
    (subst (λ c. In (location c q) (locations_from (s + 1) sites)) z (location_listed (s + 1) sites k site q h m))

-- lists without doubles, one behind the other
distinct_append : {X : Type 0} (xs ys : List X) → IsDistinct xs → IsDistinct ys → ((x : X) → In x xs → In x ys → ⊥) → IsDistinct (xs ++ ys)
distinct_append xs ys d e n a b x h k = elim (get-append xs ys a x h) [
  | inl f ↦ elim (get-append xs ys b x k) [ inl g ↦ d a b x f g | inr g ↦ absurd (n x (in_of_get xs a x f) (in_of_get ys g.0 x g.1)) ]
  | inr f ↦ elim (get-append xs ys b x k) [
    | inl g ↦ absurd (n x (in_of_get xs b x g) (in_of_get ys f.0 x f.1))
    | inr g ↦ let z = e f.0 g.0 x f.1 g.1 in omega (arith, f.2, g.2, z)
  ]
]

distinct_map : (s : ℕ) (qs : List (List PathStep)) → IsDistinct qs → IsDistinct (map (location s) qs)
distinct_map s qs d a b x h k =
    let f = get-map (location s) qs a x h in
    let g = get-map (location s) qs b x k in
    let e : g.0 ≡ f.0 = ap (λ (y : Loc). y.path) (sym g.2 ∙ f.2) in
    d a b f.0 f.1 (g.1 ∙ ap Some e)

distinct_locations : (s : ℕ) (sites : List Site) → IsDistinct (locations_from s sites)
distinct_locations s [] = λ a b x h k. absurd cc
distinct_locations s (site ∷ sites) = distinct_append (map (location s) (paths_of site)) (locations_from (s + 1) sites)
    (distinct_map s (paths_of site) (distinct_leaves ([] ∷ []) site.shape distinct_one)) (distinct_locations (s + 1) sites)
    (λ x h k. let f = In-mapped (location s) x (paths_of site) h in let g = location_found (s + 1) sites x k in absurd (omega (arith, ap (λ (y : Loc). y.site) f.2, g.3)))

module _ (p : Code) where
  path_of_site : (n : ℕ) (site : Site) (q : List PathStep) → slice_get p.sites n ≡ Some site → is_path_of p n q ≡ (same_path q [] || leads_on q site.shape)
  path_of_site n site q h = ap (λ o. same_path q [] || leads_on q (shape_of o)) h

  listed_is : (l : Loc) → In l (locations_of p) → IsLocation p l
  listed_is l h =
      let r = location_found 0 p.sites l h in
      let z : l.site ≡ r.0 = omega (arith, r.3) in
      let at : slice_get p.sites l.site ≡ Some r.1 = ap (slice_get p.sites) z ∙ r.2 in
      record { site = get_within p.sites l.site r.1 at; path = path_of_site l.site r.1 l.path at ∙ path_only r.1 l.path r.4 }

  is_listed : (l : Loc) → IsLocation p l → In l (locations_of p)
  is_listed l h =
      let s = get_at p.sites l.site h.site in
      let z : 0 + l.site ≡ l.site = omega arith in
      subst (λ c. In (location c l.path) (locations_of p)) z (location_listed 0 p.sites l.site s.0 l.path s.1 (path_listed s.0 l.path (sym (path_of_site l.site s.0 l.path s.1) ∙ h.path)))

  pub locations_are : AreLocations p (locations_of p)
  locations_are = record { distinct = distinct_locations 0 p.sites; each = λ l. (listed_is l, is_listed l) }
