-- Flags of places that write or read memory.
use Rattle.std.proofs.Common.{◌≡◌, ℕ, zero, suc, ◌+◌, ◌<◌, Bool, true, List, [], ◌∷◌, ◌++◌, Some, length, refl, sym, ap, ◌∙◌, inl, inr, arith, subst}
use Rattle.std.specs.Prelude.{◌⊎◌, ◌↔◌, slice_get}
use Rattle.std.proofs.lemmas.Bool.{cases_lt}
use Rattle.argot_plain.specs.Code.{Code, IsAt}
use Rattle.argot_plain.specs.declared.instructions.Kind.{Kind}
use Rattle.argot_plain.specs.declared.instructions.Kind.TheVariants.{Read, Write, Grow, Call, Go}
use Rattle.argot_facts.specs.Exact.{WritesMemory, by_write, by_grow, ReadsMemory, by_read, by_grow as grow_reads, by_call, by_go, at_exit}
use Rattle.argot_facts.specs.Marked.{IsSet, Sets}
use Rattle.argot_control.specs.Accesses.{Writes, Reads, StandsAt, GainsFlags, DefersIn}

get_more : (xs : List Bool) (x : Bool) (i : ℕ) (a : Bool) → slice_get (xs ++ x ∷ []) i ≡ Some a → (slice_get xs i ≡ Some a) ⊎ ((i ≡ length xs) × (a ≡ x))
get_more [] x zero a h = let e : Some x ≡ Some a = h in let f : a ≡ x = cc in inr (refl, f)
get_more [] x (suc i) a h = absurd cc
get_more (y ∷ xs) x zero a h = inl h
get_more (y ∷ xs) x (suc i) a h = elim (get_more xs x i a h) [ inl g ↦ inl g | inr e ↦ let f = e.0 in inr (omega (arith, f), e.1) ]

kept : (xs : List Bool) (x : Bool) (i : ℕ) (a : Bool) → slice_get xs i ≡ Some a → slice_get (xs ++ x ∷ []) i ≡ Some a
kept [] x i a h = absurd cc
kept (y ∷ xs) x zero a h = h
kept (y ∷ xs) x (suc i) a h = kept xs x i a h

last : (xs : List Bool) (x : Bool) → slice_get (xs ++ x ∷ []) (length xs) ≡ Some x
last [] x = refl
last (y ∷ xs) x = last xs x

pub count_more : (xs : List Bool) (x : Bool) → length (xs ++ x ∷ []) ≡ length xs + 1
count_more [] x = refl
count_more (y ∷ xs) x = let h = count_more xs x in omega (arith, h)

-- one flag more
pub flags_more : (A : ℕ → Type 0) (flags : List Bool) (w : Bool) → (w ≡ true → A (length flags)) → (A (length flags) → w ≡ true)
    → ((m : ℕ) → IsSet flags m ↔ ((m < length flags) × A m)) → (m : ℕ) → IsSet (flags ++ w ∷ []) m ↔ ((m < length (flags ++ w ∷ [])) × A m)
flags_more A flags w to from was m = (
  (λ s. let c = count_more flags w in elim (get_more flags w m true s) [
    | inl h ↦ let a = (was m).0 h in let l = a.0 in (omega arith, a.1)
    | inr h ↦ let e = h.0 in (omega arith, subst A (sym e) (to (sym h.1)))
  ]),
  λ h. (let c = count_more flags w in let l = h.0 in elim (cases_lt m (length flags)) [
    | inl k ↦ kept flags w m true ((was m).1 (k, h.1))
    | inr k ↦ let e : m ≡ length flags = omega arith in subst (IsSet (flags ++ w ∷ [])) (sym e) (last flags w ∙ ap Some (from (subst A e h.1)))
  ]),
)

pub flags_none : (A : ℕ → Type 0) (m : ℕ) → IsSet [] m ↔ ((m < length {A = Bool} []) × A m)
flags_none A m = ((λ s. absurd cc), λ h. let l = h.0 in absurd (omega arith))

-- what is gained
pub flags_both : (V W U : ℕ → Type 0) (xs ys zs : List Bool) → ((m : ℕ) → V m → U m) → ((m : ℕ) → W m → U m) → ((m : ℕ) → U m → V m ⊎ W m) → GainsFlags V xs ys → GainsFlags W ys zs → GainsFlags U xs zs
flags_both V W U xs ys zs one two split v w = record {
  count = w.count ∙ v.count;
  each = λ m. (
    (λ s. elim ((w.each m).0 s) [ inl n ↦ elim ((v.each m).0 n) [ inl o ↦ inl o | inr r ↦ inr (one m r) ] | inr r ↦ inr (two m r) ]),
    λ s. elim s [
      | inl o ↦ (w.each m).1 (inl ((v.each m).1 (inl o)))
      | inr r ↦ elim (split m r) [ inl x ↦ (w.each m).1 (inl ((v.each m).1 (inr x))) | inr x ↦ (w.each m).1 (inr x) ]
    ],
  );
}

pub flags_as : (W U : ℕ → Type 0) (xs ys : List Bool) → ((m : ℕ) → W m → U m) → ((m : ℕ) → U m → W m) → GainsFlags W xs ys → GainsFlags U xs ys
flags_as W U xs ys to from w = record {
  count = w.count;
  each = λ m. (
    (λ s. elim ((w.each m).0 s) [ inl n ↦ inl n | inr r ↦ inr (to m r) ]),
    λ s. elim s [ inl n ↦ (w.each m).1 (inl n) | inr r ↦ (w.each m).1 (inr (from m r)) ],
  );
}

pub flags_same : (U : ℕ → Type 0) (xs : List Bool) → ((m : ℕ) → U m → ⊥) → GainsFlags U xs xs
flags_same U xs none = record { count = refl; each = λ m. ((λ s. inl s), λ s. elim s [ inl n ↦ n | inr r ↦ absurd (none m r) ]) }

pub flags_set : (xs ys : List Bool) (n : ℕ) → Sets xs ys n → GainsFlags (λ m. m ≡ n) xs ys
flags_set xs ys n s = record { count = s.count; each = λ m. ((λ h. s.only m h), λ h. elim h [ inl o ↦ s.kept m o | inr e ↦ subst (IsSet ys) (sym e) s.there ]) }

-- a place writes memory where such an instruction stands there
writes_by : (p : Code) (m : ℕ) (kind : Kind) → IsAt p m kind → Writes kind → WritesMemory p m
writes_by p m (Write at from) is w = by_write at from is
writes_by p m (Grow to at items) is w = by_grow to at items is
writes_by p m _ is w = elim w [ ]

by_writes : (p : Code) (m : ℕ) → WritesMemory p m → StandsAt p Writes m
by_writes p m (by_write at from is) = (Write at from, is, record {})
by_writes p m (by_grow to at items is) = (Grow to at items, is, record {})

pub writing : (p : Code) (m : ℕ) → StandsAt p Writes m ↔ WritesMemory p m
writing p m = ((λ h. writes_by p m h.0 h.1 h.2), by_writes p m)

reads_by : (p : Code) (m : ℕ) (kind : Kind) → IsAt p m kind → Reads kind → ReadsMemory p m
reads_by p m (Read to at qs) is w = by_read to at qs is
reads_by p m (Grow to at items) is w = grow_reads to at items is
reads_by p m (Call to callee args) is w = by_call to args callee is w
reads_by p m (Go callee args) is w = by_go args callee is w
reads_by p m _ is w = elim w [ ]

by_reads : (p : Code) (m : ℕ) → ReadsMemory p m → StandsAt p Reads m ⊎ ((h : ℕ) × DefersIn p h m)
by_reads p m (by_read to at qs is) = inl (Read to at qs, is, record {})
by_reads p m (grow_reads to at items is) = inl (Grow to at items, is, record {})
by_reads p m (by_call to args callee is some) = inl (Call to callee args, is, some)
by_reads p m (by_go args callee is some) = inl (Go callee args, is, some)
by_reads p m (at_exit d h args callee fn at inside is e) = inr (h, (d, inside, record { callee = callee; args = args; fn = fn; at = at; is = is; exit = e }))

pub reading : (p : Code) (m : ℕ) → (StandsAt p Reads m ⊎ ((h : ℕ) × DefersIn p h m)) ↔ ReadsMemory p m
reading p m = (
  (λ s. elim s [ inl h ↦ reads_by p m h.0 h.1 h.2 | inr h ↦ let d = h.1.2 in at_exit h.1.0 h.0 d.args d.callee d.fn d.at h.1.1 d.is d.exit ]),
  by_reads p m,
)
