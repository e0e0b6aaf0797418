-- Sites that are found, one after the other.
use Rattle.std.proofs.Common.{◌≡◌, ℕ, zero, suc, ◌+◌, ◌≤◌, Bool, true, false, List, [], ◌∷◌, ◌++◌, Some, length, refl, sym, ap, ◌∙◌, inl, inr, arith, subst}
use Rattle.std.specs.Prelude.{◌⊎◌}
use Rattle.argot_plain.specs.Lists.{In, here, there}
use Rattle.argot_facts.specs.Marked.{IsSet}
use Rattle.argot_facts.specs.declared.pointing.Loc.{Loc}
use Rattle.argot_facts.proofs.Listed.{In-append, In-left, In-right}
use Rattle.argot_facts.specs.Pointing.{Pointing}
use Rattle.argot_escape.specs.Flooding.{unset, Finds, FoundBy, at_start, led_to, IsReady, LeadsTo}
use Rattle.argot_escape.specs.declared.found.Found.{Found}

-- nothing is found where all is found already
pub finds_none : (W : ℕ → Type 0) (f : Found) → ((m : ℕ) → W m → IsSet f.flags.items m) → Finds W f f
finds_none W f all = record {
  count = refl;
  size = refl;
  kept = λ m s. s;
  still = λ m w. w;
  fresh = λ m s. inl s;
  set = λ m w. inl w;
  there = all;
  only = λ m s. inl s;
  less = omega arith;
}

-- first what has the one property, then what has the other
pub finds_both : (V W U : ℕ → Type 0) (a b c : Found) → ((m : ℕ) → V m ⊎ W m → U m) → ((m : ℕ) → U m → V m ⊎ W m) → Finds V a b → Finds W b c → Finds U a c
finds_both V W U a b c to from v w =
    let l = v.less in
    let k = w.less in
    record {
      count = w.count ∙ v.count;
      size = w.size ∙ v.size;
      kept = λ m s. w.kept m (v.kept m s);
      still = λ m s. w.still m (v.still m s);
      fresh = λ m s. elim (w.fresh m s) [ inl t ↦ elim (v.fresh m t) [ inl u ↦ inl u | inr u ↦ inr (w.still m u) ] | inr t ↦ inr t ];
      set = λ m s. elim (w.set m s) [ inl t ↦ elim (v.set m t) [ inl u ↦ inl u | inr u ↦ inr (w.kept m u) ] | inr u ↦ inr u ];
      there = λ m u. elim (from m u) [ inl x ↦ w.kept m (v.there m x) | inr x ↦ w.there m x ];
      only = λ m s. elim (w.only m s) [ inl t ↦ elim (v.only m t) [ inl u ↦ inl u | inr x ↦ inr (to m (inl x)) ] | inr x ↦ inr (to m (inr x)) ];
      less = omega arith;
    }

-- the property may be said otherwise
pub finds_as : (W U : ℕ → Type 0) (a b : Found) → ((m : ℕ) → W m → U m) → ((m : ℕ) → U m → W m) → Finds W a b → Finds U a b
finds_as W U a b to from w = record {
  count = w.count;
  size = w.size;
  kept = w.kept;
  still = w.still;
  fresh = w.fresh;
  set = w.set;
  there = λ m u. w.there m (from m u);
  only = λ m s. elim (w.only m s) [ inl t ↦ inl t | inr x ↦ inr (to m x) ];
  less = w.less;
}

-- what is said of one item more of a list
pub finds_more : {A : Type 0} (W : A → ℕ → Type 0) (xs : List A) (x : A) (a b c : Found)
    → Finds (λ m. (y : A) × In y xs × W y m) a b → Finds (W x) b c → Finds (λ m. (y : A) × In y (xs ++ x ∷ []) × W y m) a c
finds_more {A} W xs x a b c v w = finds_both (λ m. (y : A) × In y xs × W y m) (W x) (λ m. (y : A) × In y (xs ++ x ∷ []) × W y m) a b c
    (λ m s. elim s [ inl h ↦ (h.0, In-left h.0 xs (x ∷ []) h.1, h.2) | inr h ↦ (x, In-right x xs (x ∷ []) (here refl), h) ])
    (λ m h. elim (In-append h.0 xs (x ∷ []) h.1) [ inl k ↦ inl (h.0, k, h.2) | inr k ↦ inr (subst (λ z. W z m) (one h.0 k) h.2) ])
    v w
  where
    one : (y : A) → In y (x ∷ []) → y ≡ x
    one y (here e) = e
    one y (there k) = elim k [ ]

pub finds_empty : {A : Type 0} (W : A → ℕ → Type 0) (f : Found) → Finds (λ m. (y : A) × In y [] × W y m) f f
finds_empty {A} W f = finds_none (λ m. (y : A) × In y [] × W y m) f (λ m h. elim h.1 [ ])

pub ready_on : (ls : List Loc) (W : ℕ → Type 0) (a b : Found) → Finds W a b → IsReady ls a → IsReady ls b
ready_on ls W a b f r = record {
  sites = λ s y h. let l = r.sites s y h in let c = f.count in omega arith;
  size = f.size ∙ r.size ∙ sym f.count;
}

head_set : (a b : Bool) (old new : List Bool) → ((m : ℕ) → IsSet (a ∷ old) m → IsSet (b ∷ new) m) → a ≡ true → b ≡ true
head_set a b old new kept e = let h : Some b ≡ Some true = kept 0 (ap Some e) in cc

-- where flags are kept, no more of them are unset
pub unset_le : (old new : List Bool) → length new ≡ length old → ((m : ℕ) → IsSet old m → IsSet new m) → unset new ≤ unset old
unset_le [] [] l kept = omega arith
unset_le [] (b ∷ new) l kept = absurd (omega arith)
unset_le (a ∷ old) [] l kept = absurd (omega arith)
unset_le (true ∷ old) (true ∷ new) l kept = let h = unset_le old new (omega arith) (λ m. kept (suc m)) in omega (arith, h)
unset_le (true ∷ old) (false ∷ new) l kept = let e = head_set true false old new kept refl in absurd cc
unset_le (false ∷ old) (true ∷ new) l kept = let h = unset_le old new (omega arith) (λ m. kept (suc m)) in omega (arith, h)
unset_le (false ∷ old) (false ∷ new) l kept = let h = unset_le old new (omega arith) (λ m. kept (suc m)) in omega (arith, h)

-- and where one is new, fewer
pub unset_lt : (old new : List Bool) (n : ℕ) → length new ≡ length old → ((m : ℕ) → IsSet old m → IsSet new m) → IsSet new n → (IsSet old n → ⊥) → unset new + 1 ≤ unset old
unset_lt [] new n l kept s none = let e : new ≡ [] = empty new l in let z : IsSet [] n = subst (λ xs. IsSet xs n) e s in absurd cc
  where
    empty : (xs : List Bool) → length xs ≡ 0 → xs ≡ []
    empty [] h = refl
    empty (x ∷ xs) h = absurd (omega arith)
unset_lt (a ∷ old) [] n l kept s none = absurd (omega arith)
unset_lt (true ∷ old) (b ∷ new) zero l kept s none = absurd (none refl)
unset_lt (false ∷ old) (true ∷ new) zero l kept s none = let h = unset_le old new (omega arith) (λ m. kept (suc m)) in omega (arith, h)
unset_lt (false ∷ old) (false ∷ new) zero l kept s none = absurd cc
unset_lt (true ∷ old) (true ∷ new) (suc n) l kept s none = let h = unset_lt old new n (omega arith) (λ m. kept (suc m)) s none in omega (arith, h)
unset_lt (true ∷ old) (false ∷ new) (suc n) l kept s none = let e = head_set true false old new kept refl in absurd cc
unset_lt (false ∷ old) (true ∷ new) (suc n) l kept s none = let h = unset_lt old new n (omega arith) (λ m. kept (suc m)) s none in omega (arith, h)
unset_lt (false ∷ old) (false ∷ new) (suc n) l kept s none = let h = unset_lt old new n (omega arith) (λ m. kept (suc m)) s none in omega (arith, h)

-- what is found from the one is found from the other
pub found_as : (x : Pointing) (V W : ℕ → Type 0) → ((m : ℕ) → V m → W m) → (s : ℕ) → FoundBy x V s → FoundBy x W s
found_as x V W f s (at_start v) = at_start (f s v)
found_as x V W f s (led_to o h l) = led_to o (found_as x V W f o h) l

-- and has each property that those at the start have and that is kept
pub all_found : (x : Pointing) (W S : ℕ → Type 0) → ((m : ℕ) → W m → S m) → ((o m : ℕ) → S o → LeadsTo x o m → S m) → (s : ℕ) → FoundBy x W s → S s
all_found x W S f closed s (at_start w) = f s w
all_found x W S f closed s (led_to o h l) = closed o s (all_found x W S f closed o h) l
