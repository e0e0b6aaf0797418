-- Targets that count, found by marks.
use Rattle.std.proofs.Common.{◌≡◌, ℕ, zero, suc, ◌-◌, ◌<◌, ◌≤◌, Bool, true, false, Option, Some, None, List, [], ◌∷◌, length, get_or, refl, sym, ap, ◌∙◌, inl, inr, arith, subst}
use Rattle.std.specs.Prelude.{slice_get, slice_index_or, ◌==◌, ◌&&◌, not, if◌then◌else◌}
use Rattle.std.specs.List.{find}
use Rattle.std.proofs.lemmas.Bool.{cases_Bool, cases_lt}
use Rattle.std.proofs.lemmas.Option.{slice_get_past, get_or_from_slice_get}
use Rattle.argot_links.specs.Runs.{seconds}
use Rattle.argot_plain.specs.Code.{Code}
use Rattle.argot_plain.specs.Counts.{counts, counted_as, is_among, is_left_out, is_wrapper, stands_for}
use Rattle.argot_plain.specs.WellFormed.{WellFormed}
use Rattle.argot_plain.specs.declared.functions.Function.{Function}
use Rattle.argot_plain.specs.declared.problems.Problem.{Problem}
use Rattle.argot_facts.proofs.Listed.{get_at, get_within}
use Rattle.argot_report.specs.Counted.{AreListed, AreMarks, entry_before, is_marked, is_set}
use Rattle.argot_report.specs.Names.{counted_text, named_or, numbered_name, source_text}
use Rattle.argot_report.proofs.Finding.{find_none, find_same}

module _ (p : Code) (targets : List (ℕ × ℕ)) (fs : List ℕ) (i : ℕ) where
  -- the call of a wrapper counts as nothing
  pub left_out : is_left_out p i ≡ true → counted_text p targets fs i ≡ []
  unfolding counted_text
  left_out out = ap (numbered_name p) (find_none (λ h. counts p i h fs) (seconds i targets) (λ k h is. rw out refl))

  module _ (marks : List Bool) (are : AreMarks p fs marks) where
    -- a mark tells whether the function counts; no number beyond the functions does
    marked : (h : ℕ) → is_set marks h ≡ is_among (stands_for p h) fs
    marked h = elim (cases_lt h (length p.functions)) [
      | inl l ↦ are.each h l
      | inr l ↦
          let count = are.count in
          let past : slice_get marks h ≡ None = slice_get_past marks h (omega arith) in
          let none : slice_get p.functions h ≡ None = slice_get_past p.functions h l in
          let stands : is_among (stands_for p h) fs ≡ false = ap (λ z. is_among (counted_as z h) fs) none in
          unset marks h past ∙ sym stands
    ]
      where
        unset : (bs : List Bool) (n : ℕ) → slice_get bs n ≡ None → is_set bs n ≡ false
        unset [] n none = refl
        unset (b ∷ bs) zero none = absurd cc
        unset (b ∷ bs) (suc n) none = unset bs n none

    -- where the place isn't left out, the first target that counts is the first that is marked
    pub same_target : is_left_out p i ≡ false → find (is_set marks) (seconds i targets) ≡ find (λ h. counts p i h fs) (seconds i targets)
    same_target kept = find_same (is_set marks) (λ h. counts p i h fs) (seconds i targets) (λ k h is. rw kept (marked h))

    pub counted_is : is_left_out p i ≡ false → counted_text p targets fs i ≡ numbered_name p (find (is_set marks) (seconds i targets))
    unfolding counted_text
    counted_is kept = ap (numbered_name p) (sym (same_target kept))

-- the function as which a target counts is one of the program
stands_within : (p : Code) → WellFormed p → (h m : ℕ) → (fn : Function) × (slice_get p.functions h ≡ Some fn) → stands_for p h ≡ Some m → m < length p.functions
stands_within p wf h m fn is = elim (cases_Bool (is_wrapper fn.0.role)) [
  | inl w ↦
      let e : fn.0.wraps ≡ Some m = ap (λ b. if b then fn.0.wraps else Some h) (sym w) ∙ ap (λ z. counted_as z h) (sym fn.1) ∙ is in
      let r = wf.wraps h m fn.0 fn.1 e in
      get_within p.functions m r.method r.is
  | inr o ↦
      let e : Some h ≡ Some m = ap (λ b. if b then fn.0.wraps else Some h) (sym o) ∙ ap (λ z. counted_as z h) (sym fn.1) ∙ is in
      let f : h ≡ m = cc in
      subst (λ z. z < length p.functions) f (get_within p.functions h fn.0 fn.1)
]

-- the name of a source place, and of another source
pub source_named : (p : Code) (targets : List (ℕ × ℕ)) (pr : Problem) (i : ℕ) (x : ℕ × List ℕ) → find (λ y. y.0 == i) pr.source_places ≡ Some x → source_text p targets pr i ≡ x.1
unfolding source_text
source_named p targets pr i x is = ap (λ z. named_or z (counted_text p targets pr.sources i)) is

pub source_counted : (p : Code) (targets : List (ℕ × ℕ)) (pr : Problem) (i : ℕ) → find (λ y. y.0 == i) pr.source_places ≡ None
    → source_text p targets pr i ≡ counted_text p targets pr.sources i
unfolding source_text
source_counted p targets pr i none = ap (λ z. named_or z (counted_text p targets pr.sources i)) none

pub before_some : {A : Type 0} (xs : List A) (n : ℕ) → 0 < n → entry_before xs n ≡ slice_get xs (n - 1)
before_some xs zero l = absurd (omega arith)
before_some xs (suc n) l = let e : suc n - 1 ≡ n = omega arith in ap (slice_get xs) (sym e)

-- a mark of the function as which a target counts tells whether it is listed
pub marked_as : (p : Code) → WellFormed p → (fs : List ℕ) (listed : List Bool) → AreListed (length p.functions) fs listed → (h : ℕ) → h < length p.functions
    → is_marked (stands_for p h) listed ≡ is_among (stands_for p h) fs
marked_as p wf fs listed are h l = as_listed (stands_for p h) (λ m is. stands_within p wf h m (get_at p.functions h l) is)
  where
    as_listed : (x : Option ℕ) → ((m : ℕ) → x ≡ Some m → m < length p.functions) → is_marked x listed ≡ is_among x fs
    as_listed None within = refl
    as_listed (Some m) within = are.each m (within m refl)
