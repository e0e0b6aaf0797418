-- Sites in the order of places, and what the sites of other places add to: nothing.
use Rattle.std.proofs.Common.{◌≡◌, ℕ, zero, suc, ◌+◌, ◌-◌, ◌<◌, ◌≤◌, List, [], ◌∷◌, ◌++◌, Some, None, arith, sym, ap, refl, length, drop, eqb-true, add-zero, ◌∙◌}
use Rattle.std.specs.Prelude.{slice_get, ◌==◌, if◌then◌else◌}
use Rattle.std.proofs.lemmas.Bool.{false_from_ne_true}
use Rattle.std.proofs.lemmas.Option.{slice_get_within}
use Rattle.argot_plain.specs.Code.{Code}
use Rattle.argot_plain.specs.WellFormed.{WellFormed, HasSitesInOrder, StandsBefore}
use Rattle.argot_plain.specs.WellFormed.StandsBefore.{by_place, by_result, by_leaf}
use Rattle.argot_plain.specs.declared.sites.Site.{Site}
use Rattle.argot_facts.specs.Numbers.{first_site, node}
use Rattle.argot_facts.specs.declared.nodes.Node.{Node}
use Rattle.argot_points_rules.specs.Column.{fresh_from, owned}
use Rattle.argot_points_rules.specs.declared.rules.Rule.TheVariants.{Fresh}
use Rattle.argot_points_rules.proofs.Counting.{first_miss, fresh_next}

-- inside a list something stands
pub at_of : (sites : List Site) (n : ℕ) → n < length sites → (site : Site) × (slice_get sites n ≡ Some site)
at_of [] n l = absurd (omega (arith, l))
at_of (x ∷ xs) zero l = (x, refl)
at_of (x ∷ xs) (suc n) l = at_of xs n (omega (arith, l))

no_later : (a b : Site) → StandsBefore a b → a.place ≤ b.place
no_later a b (by_place l) = omega (arith, l)
no_later a b (by_result e l) = omega (arith, e)
no_later a b (by_leaf e f l) = omega (arith, e)

same_place : (a b : Site) → Some a ≡ Some b → a.place ≤ b.place
same_place a b e = grind arith

-- behind those of the package variables, a site that stands later belongs to no earlier place
steps_up : (p : Code) → HasSitesInOrder p → (m k : ℕ) (a b : Site) → length p.globals ≤ m → slice_get p.sites m ≡ Some a → slice_get p.sites (m + k) ≡ Some b → a.place ≤ b.place
steps_up p h m zero a b l e f = same_place a b (sym e ∙ (rw add-zero at f))
steps_up p h m (suc k) a b l e f =
    let x = at_of p.sites (m + k) (omega (arith, slice_get_within p.sites (m + suc k) b f)) in
    let o : a.place ≤ x.0.place = steps_up p h m k a x.0 l e x.1 in
    let t : (m + k) + 1 ≡ m + suc k = omega arith in
    let s : x.0.place ≤ b.place = no_later x.0 b (h.order (m + k) x.0 b x.1 (rw t f) (omega (arith, l))) in
    omega (arith, o, s)

pub in_order : (p : Code) → WellFormed p → (m n : ℕ) (a b : Site) → length p.globals ≤ m → m ≤ n → slice_get p.sites m ≡ Some a → slice_get p.sites n ≡ Some b → a.place ≤ b.place
in_order p w m n a b l o e f = let t : m + (n - m) ≡ n = omega (arith, o) in steps_up p w.no_other_site m (n - m) a b l e (rw t f)

-- the sites of the package variables are there
pub variables_inside : (p : Code) → WellFormed p → length p.globals ≤ length p.sites
variables_inside p w = inside (length p.globals) (λ k l. (w.global_sites.is k l).0) (λ k l. (w.global_sites.is k l).1)
  where
    inside : (n : ℕ) (site : (k : ℕ) → k < n → Site) → ((k : ℕ) (l : k < n) → slice_get p.sites k ≡ Some (site k l)) → n ≤ length p.sites
    inside zero site h = omega arith
    inside (suc n) site h = let o = slice_get_within p.sites n _ (h n (omega arith)) in omega (arith, o)

-- where the sites of the place begin, and behind where they end, none before and none behind belongs to it
pub from_place : (p : Code) → WellFormed p → (i m : ℕ) (x : Site) → length p.globals ≤ m → slice_get p.sites m ≡ Some x → i ≤ x.place → (n : ℕ) (site : Site) → slice_get p.sites n ≡ Some site → m ≤ n → i ≤ site.place
from_place p w i m x l e o n site f k = let s : x.place ≤ site.place = in_order p w m n x site l k e f in omega (arith, o, s)

pub up_to_place : (p : Code) → WellFormed p → (i m : ℕ) (x : Site) → slice_get p.sites m ≡ Some x → x.place < i → (n : ℕ) (site : Site) → slice_get p.sites n ≡ Some site → length p.globals ≤ n → n < m + 1 → site.place < i
up_to_place p w i m x e o n site f l k = let s : site.place ≤ x.place = in_order p w n m site x l (omega (arith, k)) f e in omega (arith, o, s)

-- what no step changes stays the same
skip : {A : Type 0} (f : ℕ → A) (d n : ℕ) → ((m : ℕ) → n ≤ m → m < n + d → f m ≡ f (m + 1)) → f n ≡ f (n + d)
skip f zero n h = ap f (sym (add-zero n))
skip f (suc d) n h = h n (omega arith) (omega arith) ∙ skip f d (n + 1) (λ m l o. h m (omega (arith, l)) (omega (arith, o))) ∙ ap f (omega arith)

pub skipped : {A : Type 0} (f : ℕ → A) (n k : ℕ) → n ≤ k → ((m : ℕ) → n ≤ m → m < k → f m ≡ f (m + 1)) → f n ≡ f k
skipped f n k l h = skip f (k - n) n (λ m o s. h m o (omega (arith, s, l))) ∙ ap f (omega (arith, l))

-- between n and k no site belongs to the place i
abbrev pub AreElsewhere : List Site → ℕ → ℕ → ℕ → Type 0
AreElsewhere sites i n k = (m : ℕ) (site : Site) → slice_get sites m ≡ Some site → n ≤ m → m < k → site.place ≡ i → ⊥

pub first_skips : (i n k : ℕ) (sites : List Site) → n ≤ k → k ≤ length sites → AreElsewhere sites i n k → first_site i n (drop n sites) ≡ first_site i k (drop k sites)
first_skips i n k sites l o h = skipped (λ m. first_site i m (drop m sites)) n k l (λ m a b. let x = at_of sites m (omega (arith, b, o)) in first_miss i m sites x.0 x.1 (h m x.0 x.1 a b))

fresh_miss : (h i : ℕ) (by : Node) (s : ℕ) (sites : List Site) (site : Site) → slice_get sites s ≡ Some site → (site.place ≡ i → ⊥) → fresh_from h i by s (drop s sites) ≡ fresh_from h i by (s + 1) (drop (s + 1) sites)
fresh_miss h i by s sites site e t = fresh_next h i by s sites site e ∙ ap (λ b. (if b then owned h (Fresh i by (node i site.result site.leaf) s) ∷ [] else []) ++ fresh_from h i by (s + 1) (drop (s + 1) sites)) (false_from_ne_true (site.place == i) (λ u. t (eqb-true site.place i u)))

pub fresh_skips : (h i : ℕ) (by : Node) (n k : ℕ) (sites : List Site) → n ≤ k → k ≤ length sites → AreElsewhere sites i n k → fresh_from h i by n (drop n sites) ≡ fresh_from h i by k (drop k sites)
fresh_skips h i by n k sites l o t = skipped (λ m. fresh_from h i by m (drop m sites)) n k l (λ m a b. let x = at_of sites m (omega (arith, b, o)) in fresh_miss h i by m sites x.0 x.1 (t m x.0 x.1 a b))

drop_all : (sites : List Site) → drop (length sites) sites ≡ []
drop_all [] = refl
drop_all (x ∷ xs) = drop_all xs

-- where none is left of the place, there is none, and nothing is fresh
pub first_none : (i n : ℕ) (sites : List Site) → n ≤ length sites → AreElsewhere sites i n (length sites) → first_site i n (drop n sites) ≡ None
first_none i n sites l h = first_skips i n (length sites) sites l (omega arith) h ∙ ap (first_site i (length sites)) (drop_all sites)

pub fresh_none : (h i : ℕ) (by : Node) (n : ℕ) (sites : List Site) → n ≤ length sites → AreElsewhere sites i n (length sites) → fresh_from h i by n (drop n sites) ≡ []
fresh_none h i by n sites l t = fresh_skips h i by n (length sites) sites l (omega arith) t ∙ ap (fresh_from h i by (length sites)) (drop_all sites)
