-- Tables that are filled one entry at a time.
use Rattle.std.proofs.Common.{◌≡◌, ℕ, zero, suc, ◌+◌, ◌-◌, ◌<◌, ◌≤◌, Bool, true, false, cond, Option, Some, None, List, [], ◌∷◌, ◌++◌, length, get_or, set, map, take, drop, refl, sym, ap, ◌∙◌, inl, inr, arith, subst}
use Rattle.std.specs.Prelude.{slice_get, ◌==◌, ◌||◌}
use Rattle.std.specs.List.{find}
use Rattle.std.proofs.lemmas.Bool.{cases_eq, cases_lt}
use Rattle.std.proofs.lemmas.Grind.{common_steps}
use Rattle.std.proofs.lemmas.List.{get_or-set_same, get_or-set_other, set_past, map-append, take_more}
use Rattle.argot_plain.specs.Code.{Code}
use Rattle.argot_facts.proofs.Listed.{get-append}
use Rattle.argot_plain.specs.Lists.{member}
use Rattle.argot_plain.specs.declared.problems.Problem.{Problem}
use Rattle.argot_report.specs.Counted.{AreListed, HasNumbered, AreNamings, IsNaming, is_set, entry_before}
use Rattle.argot_report.specs.declared.naming.Naming.{Naming}

member_more : (k h : ℕ) (xs : List ℕ) → member k (xs ++ h ∷ []) ≡ (member k xs || k == h)
member_more k h [] = grind (arith, common_steps)
member_more k h (x ∷ xs) = let r = member_more k h xs in grind (arith, common_steps)

same_number : (k : ℕ) → (k == k) ≡ true
same_number k = grind (arith, common_steps)

other_number : (k h : ℕ) → (k ≡ h → ⊥) → (k == h) ≡ false
other_number k h n = grind (arith, common_steps)

or_true : (b : Bool) → (b || true) ≡ true
or_true true = refl
or_true false = refl

or_false : (b : Bool) → (b || false) ≡ b
or_false true = refl
or_false false = refl

-- one number more is listed
pub listed_more : (n : ℕ) (xs : List ℕ) (h : ℕ) (marks : List Bool) → AreListed n xs marks → length (set marks h true) ≡ length marks → AreListed n (xs ++ h ∷ []) (set marks h true)
listed_more n xs h marks are size = record {
  count = size ∙ are.count;
  each = λ k l. elim (cases_eq k h) [
    | inl e ↦
        let c = are.count in
        let m : member k (xs ++ h ∷ []) ≡ true = member_more k h xs ∙ ap (λ b. member k xs || b) (ap (λ z. k == z) (sym e) ∙ same_number k) ∙ or_true (member k xs) in
        ap (λ z. get_or (set marks h true) z false) e ∙ get_or-set_same marks h true false (omega arith) ∙ sym m
    | inr d ↦
        let m : member k (xs ++ h ∷ []) ≡ member k xs = member_more k h xs ∙ ap (λ b. member k xs || b) (other_number k h d) ∙ or_false (member k xs) in
        get_or-set_other marks h k true false d ∙ are.each k l ∙ sym m
  ];
}

-- one entry more is looked at, from the last on
pub numbered_more : (places : ℕ) (entries : List (ℕ × List ℕ)) (n : ℕ) (x : ℕ × List ℕ) (table : List ℕ) → HasNumbered places entries (n + 1) table → length table ≡ places
    → slice_get entries n ≡ Some x → drop n entries ≡ x ∷ drop (n + 1) entries → HasNumbered places entries n (set table x.0 (n + 1))
numbered_more places entries n x table has size is rest = record {
  each = λ i l. elim (cases_eq i x.0) [
    | inl e ↦
        let t : (x.0 == i) ≡ true = ap (λ z. x.0 == z) e ∙ same_number x.0 in
        let f : find (λ y. y.0 == i) (drop n entries) ≡ Some x = ap (find (λ y. y.0 == i)) rest ∙ ap (λ b. cond b (Some x) (find (λ y. y.0 == i) (drop (n + 1) entries))) t in
        let g : get_or (set table x.0 (n + 1)) i 0 ≡ suc n = ap (λ z. get_or (set table x.0 (n + 1)) z 0) e ∙ get_or-set_same table x.0 (n + 1) 0 (omega arith) ∙ omega arith in
        f ∙ sym (ap (entry_before entries) g ∙ is)
    | inr d ↦
        let t : (x.0 == i) ≡ false = other_number x.0 i (λ e. d (sym e)) in
        let f : find (λ y. y.0 == i) (drop n entries) ≡ find (λ y. y.0 == i) (drop (n + 1) entries) =
        ap (find (λ y. y.0 == i)) rest ∙ ap (λ b. cond b (Some x) (find (λ y. y.0 == i) (drop (n + 1) entries))) t in
        f ∙ has.each i l ∙ ap (entry_before entries) (sym (get_or-set_other table x.0 i (n + 1) 0 d))
  ];
}

-- one problem more has its tables
pub namings_more : (p : Code) (prs : List Problem) (pr : Problem) (all : List Naming) (n : Naming) → AreNamings p prs all → n.problem.now ≡ pr → IsNaming p n → AreNamings p (prs ++ pr ∷ []) (all ++ n ∷ [])
namings_more p prs pr all n are is tables = record {
  are = map-append (λ (m : Naming). m.problem.now) all (n ∷ []) ∙ ap (λ ys. ys ++ n.problem.now ∷ []) are.are ∙ ap (λ z. prs ++ z ∷ []) is;
  each = λ k m at. elim (get-append all (n ∷ []) k m at) [
    | inl h ↦ are.each k m h
    | inr h ↦ let e = last m n h.0 h.1 in subst (IsNaming p) e tables
  ];
}
  where
    last : (m n : Naming) (k : ℕ) → slice_get (n ∷ []) k ≡ Some m → n ≡ m
    last m n zero h = cc
    last m n (suc k) h = absurd cc
