-- What stands among the second numbers of pairs, and what runs have.
use Rattle.std.proofs.Common.{◌≡◌, ℕ, zero, suc, ◌+◌, ◌<◌, ◌≤◌, List, [], ◌∷◌, ◌++◌, Some, Result, Ok, Err, sym, ap, ◌∙◌, inl, inr, arith, subst, eqb-true, eq-eqb, length}
use Rattle.std.specs.Prelude.{◌==◌, ◌↔◌, slice_get, IfOk, if◌then◌else◌}
use Rattle.std.proofs.lemmas.Bool.{cases_Bool, cases_lt}
use Rattle.std.proofs.lemmas.List.{length-append, get_or_past}
use Rattle.argot_links.specs.Runs.{seconds, run, AreHeaded}
use Rattle.argot_plain.specs.Lists.{In, here, there}
use Rattle.argot_facts.specs.Pointing.{IsPlaceOf}
use Rattle.argot_facts.specs.declared.pointing.Loc.{Loc}
use Rattle.argot_facts.proofs.Listed.{number_of, in_of_get, get_at, get_within, get-append}

seconds_first : (h y : ℕ) (x : ℕ × ℕ) (ps : List (ℕ × ℕ)) → (In y (seconds h ps) → In (h, y) ps) → In y (x.1 ∷ seconds h ps) → x.0 ≡ h → In (h, y) (x ∷ ps)
seconds_first h y x ps rec (here e) s = here (ap (λ a. (a, y)) (sym s) ∙ ap (λ a. (x.0, a)) e)
seconds_first h y x ps rec (there k) s = there (rec k)

pub seconds_in : (h y : ℕ) (ps : List (ℕ × ℕ)) → In y (seconds h ps) → In (h, y) ps
seconds_in h y [] m = elim m [ ]
seconds_in h y (x ∷ ps) m = elim (cases_Bool (x.0 == h)) [
  | inl t ↦ seconds_first h y x ps (seconds_in h y ps) (subst (In y) (ap (λ b. if b then x.1 ∷ seconds h ps else seconds h ps) t) m) (eqb-true x.0 h t)
  | inr f ↦ there (seconds_in h y ps (subst (In y) (ap (λ b. if b then x.1 ∷ seconds h ps else seconds h ps) f) m))
]

pub in_seconds : (h y : ℕ) (ps : List (ℕ × ℕ)) → In (h, y) ps → In y (seconds h ps)
in_seconds h y [] m = elim m [ ]
in_seconds h y (x ∷ ps) (here e) =
    let s : x.0 ≡ h = ap (λ a. a.0) (sym e) in
    subst (In y) (sym (ap (λ b. if b then x.1 ∷ seconds h ps else seconds h ps) (eq-eqb x.0 h s))) (here (ap (λ a. a.1) e))
in_seconds h y (x ∷ ps) (there m) = elim (cases_Bool (x.0 == h)) [
  | inl t ↦ subst (In y) (sym (ap (λ b. if b then x.1 ∷ seconds h ps else seconds h ps) t)) (there (in_seconds h y ps m))
  | inr f ↦ subst (In y) (sym (ap (λ b. if b then x.1 ∷ seconds h ps else seconds h ps) f)) (in_seconds h y ps m)
]

pub ok_then : {A E : Type 0} (r : Result A E) (P Q : A → Type 0) → IfOk r P → ((x : A) → P x → Q x) → IfOk r Q
ok_then (Ok x) P Q h f = f x h
ok_then (Err e) P Q h f = h

pub run_past : (runs : List (List ℕ)) (h : ℕ) → length runs ≤ h → run runs h ≡ []
run_past runs h l = get_or_past runs h [] l

-- runs have exactly the pairs
pub runs_are : {E : Type 0} (r : Result (List (List ℕ)) E) (heads : ℕ) (ps : List (ℕ × ℕ)) → AreHeaded heads ps → IfOk r (λ x. length x ≡ heads)
    → IfOk r (λ x. (h : ℕ) → h < heads → run x h ≡ seconds h ps) → IfOk r (λ x. (h y : ℕ) → In y (run x h) ↔ In (h, y) ps)
runs_are (Err e) heads ps headed a b = a
runs_are (Ok x) heads ps headed a b = λ h y. elim (cases_lt h heads) [
  | inl l ↦ (λ m. seconds_in h y ps (subst (In y) (b h l) m), λ m. subst (In y) (sym (b h l)) (in_seconds h y ps m))
  | inr l ↦ (
    (λ m. let n = subst (In y) (run_past x h (omega arith)) m in elim n [ ]),
    λ m. let k = number_of (h, y) ps m in absurd (omega (arith, headed k.0 (h, y) k.1)),
  )
]

-- each location with its site
pub record IsPaired (n : ℕ) (ls : List Loc) (ps : List (ℕ × ℕ)) : Type 0 where
  pub count : length ps ≡ n
  pub each : (k : ℕ) (a : ℕ × ℕ) → slice_get ps k ≡ Some a → (x : Loc) × (slice_get ls k ≡ Some x) × (a ≡ (x.site, k))

pub paired_more : (ls : List Loc) (ps : List (ℕ × ℕ)) (n : ℕ) (x : Loc) → slice_get ls n ≡ Some x → IsPaired n ls ps → IsPaired (n + 1) ls (ps ++ (x.site, n) ∷ [])
paired_more ls ps n x e i = let c = i.count in record {
  count = omega (arith, length-append ps ((x.site, n) ∷ []));
  each = λ k a h. elim (get-append ps ((x.site, n) ∷ []) k a h) [
    | inl f ↦ i.each k a f
    | inr f ↦ last k a f.0 f.1 f.2
  ];
}
  where
    last : (k : ℕ) (a : ℕ × ℕ) (m : ℕ) → slice_get ((x.site, n) ∷ []) m ≡ Some a → k ≡ length ps + m → (y : Loc) × (slice_get ls k ≡ Some y) × (a ≡ (y.site, k))
    last k a zero f z = let y : k ≡ n = omega (arith, i.count) in let b : (x.site, n) ≡ a = cc in (x, ap (slice_get ls) y ∙ e, sym b ∙ ap (λ c. (x.site, c)) (sym y))
    last k a (suc m) f z = absurd cc

pub paired_are : (ls : List Loc) (ps : List (ℕ × ℕ)) → IsPaired (length ls) ls ps → (s y : ℕ) → In (s, y) ps ↔ IsPlaceOf ls s y
paired_are ls ps i s y = (
  (λ m. let k = number_of (s, y) ps m in let f = i.each k.0 (s, y) k.1 in
      let a : y ≡ k.0 = ap (λ z. z.1) f.2 in let b : s ≡ f.0.site = ap (λ z. z.0) f.2 in
      record { location = f.0; is = ap (slice_get ls) a ∙ f.1; site = sym b }),
  λ h. let c = i.count in let k = get_at ps y (omega (arith, get_within ls y h.location h.is)) in let f = i.each y k.0 k.1 in
      let o : Some f.0 ≡ Some h.location = sym f.1 ∙ h.is in
      let z : f.0 ≡ h.location = cc in
      let b : k.0 ≡ (s, y) = f.2 ∙ ap (λ n. (n, y)) (ap (λ (l : Loc). l.site) z ∙ h.site) in
      in_of_get ps y (s, y) (k.1 ∙ ap Some b),
)
