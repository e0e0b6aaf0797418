-- Pairs that are added one after the other.
use Rattle.std.proofs.Common.{◌≡◌, ℕ, ◌<◌, ◌++◌, ◌∷◌, [], List, Some, refl, sym, ap, ◌∙◌, subst, inl, inr}
use Rattle.std.specs.Prelude.{◌⊎◌, ◌↔◌, length, Result, Ok, Err, IfOk, OnOk, slice_get}
use Rattle.argot_plain.specs.Lists.{In, IsDistinct, here, there}
use Rattle.argot_text.specs.declared.path.PathStep.{PathStep}
use Rattle.argot_facts.specs.Pointing.{IsPlaceOf}
use Rattle.argot_facts.specs.declared.pointing.Loc.{Loc}
use Rattle.argot_facts.proofs.Listed.{In-append, In-left, In-right}
use Rattle.argot_graph_edges.specs.Whole.{AreRuns}
use Rattle.argot_links.specs.Runs.{run}
use Rattle.argot_graph_edges.specs.Accessing.{AddsPairs, ArePairs, HasPath, IsMovedTo}
use Rattle.argot_graph_edges.proofs.Sketching.{on_ok}

pub pairs_none : (A : ℕ × ℕ → Type 0) (old : List (ℕ × ℕ)) → ((w : ℕ × ℕ) → A w → ⊥) → AddsPairs A old old
pairs_none A old none w = (λ m. inl m, λ s. elim s [ inl m ↦ m | inr a ↦ absurd (none w a) ])

pub pairs_both : (A B C : ℕ × ℕ → Type 0) (a b c : List (ℕ × ℕ)) → ((w : ℕ × ℕ) → A w ⊎ B w → C w) → ((w : ℕ × ℕ) → C w → A w ⊎ B w) → AddsPairs A a b → AddsPairs B b c → AddsPairs C a c
pairs_both A B C a b c to from v u w = (
  λ m. elim ((u w).0 m) [
    | inl n ↦ elim ((v w).0 n) [ inl o ↦ inl o | inr x ↦ inr (to w (inl x)) ]
    | inr x ↦ inr (to w (inr x))
  ],
  λ s. elim s [
    | inl m ↦ (u w).1 (inl ((v w).1 (inl m)))
    | inr x ↦ elim (from w x) [ inl y ↦ (u w).1 (inl ((v w).1 (inr y))) | inr y ↦ (u w).1 (inr y) ]
  ],
)

pub pairs_as : (A B : ℕ × ℕ → Type 0) (a b : List (ℕ × ℕ)) → ((w : ℕ × ℕ) → A w → B w) → ((w : ℕ × ℕ) → B w → A w) → AddsPairs A a b → AddsPairs B a b
pairs_as A B a b to from v w = (
  λ m. elim ((v w).0 m) [ inl n ↦ inl n | inr x ↦ inr (to w x) ],
  λ s. elim s [ inl m ↦ (v w).1 (inl m) | inr x ↦ (v w).1 (inr (from w x)) ],
)

pub pairs_as_last : {X E : Type 0} (r : Result X E) (A B : ℕ × ℕ → Type 0) (a b : List (ℕ × ℕ)) → ((w : ℕ × ℕ) → A w → B w) → ((w : ℕ × ℕ) → B w → A w) → OnOk r (AddsPairs A a b) → OnOk r (AddsPairs B a b)
pairs_as_last r A B a b to from = on_ok r (AddsPairs A a b) (AddsPairs B a b) (pairs_as A B a b to from)

pub pairs_more : {X : Type 0} (A : X → ℕ × ℕ → Type 0) (xs ys : List X) (x : X) (a b c : List (ℕ × ℕ)) → ys ≡ xs ++ x ∷ []
    → AddsPairs (λ w. (y : X) × In y xs × A y w) a b → AddsPairs (A x) b c → AddsPairs (λ w. (y : X) × In y ys × A y w) a c
pairs_more {X} A xs ys x a b c h = pairs_both (λ w. (y : X) × In y xs × A y w) (A x) (λ w. (y : X) × In y ys × A y w) a b c
    (λ w s. elim s [
      | inl m ↦ (m.0, subst (In m.0) (sym h) (In-left m.0 xs (x ∷ []) m.1), m.2)
      | inr m ↦ (x, subst (In x) (sym h) (In-right x xs (x ∷ []) (here refl)), m)
    ])
    (λ w m. elim (In-append m.0 xs (x ∷ []) (subst (In m.0) h m.1)) [ inl n ↦ inl (m.0, n, m.2) | inr n ↦ inr (subst (λ y. A y w) (only m.0 n) m.2) ])
  where
    only : (y : X) → In y (x ∷ []) → y ≡ x
    only y (here s) = s
    only y (there m) = elim m [ ]

-- one pair more
pub pairs_one : (a : List (ℕ × ℕ)) (x : ℕ × ℕ) → AddsPairs (λ w. w ≡ x) a (a ++ x ∷ [])
pairs_one a x w = (
  λ m. elim (In-append w a (x ∷ []) m) [ inl n ↦ inl n | inr n ↦ inr (only n) ],
  λ s. elim s [ inl n ↦ In-left w a (x ∷ []) n | inr e ↦ In-right w a (x ∷ []) (here e) ],
)
  where
    only : In w (x ∷ []) → w ≡ x
    only (here s) = s
    only (there m) = elim m [ ]

pub pairs_are : (A : ℕ × ℕ → Type 0) (b : List (ℕ × ℕ)) → AddsPairs A [] b → ArePairs A b
pairs_are A b v w = (λ m. elim ((v w).0 m) [ inl n ↦ elim n [ ] | inr x ↦ x ], λ x. (v w).1 (inr x))

-- a location moved along a path is one of its site with the longer path
pub moved_of : (ls : List Loc) (y z : ℕ) (path : List PathStep) (start : Loc) → slice_get ls y ≡ Some start → IsPlaceOf ls start.site z → HasPath ls z (start.path ++ path) → IsMovedTo ls y path z
moved_of ls y z path start is at has =
    let e : Some at.location ≡ Some has.0 = sym at.is ∙ has.1 in
    let f : at.location ≡ has.0 = cc in
    record { from = start; is = is; to = at.location; at = at.is; site = at.site; along = ap (λ (l : Loc). l.path) f ∙ has.2 }

pub moved_from : (ls : List Loc) (y z : ℕ) (path : List PathStep) (start : Loc) → slice_get ls y ≡ Some start → IsMovedTo ls y path z → IsPlaceOf ls start.site z × HasPath ls z (start.path ++ path)
moved_from ls y z path start is x =
    let e : Some x.from ≡ Some start = sym x.is ∙ is in
    let f : x.from ≡ start = cc in (
      record { location = x.to; is = x.at; site = x.site ∙ ap (λ (l : Loc). l.site) f },
      (x.to, x.at, x.along ∙ ap (λ (l : Loc). l.path ++ path) f),
    )

pub same_location : (a b : Loc) → a.site ≡ b.site → a.path ≡ b.path → a ≡ b
same_location a b s q = ap (λ w. record { site = w; path = a.path }) s ∙ ap (λ w. record { site = b.site; path = w }) q

-- and there is one
pub one_moved : (ls : List Loc) → IsDistinct ls → (y : ℕ) (path : List PathStep) (a b : ℕ) → IsMovedTo ls y path a → IsMovedTo ls y path b → a ≡ b
one_moved ls apart y path a b u v =
    let e : Some u.from ≡ Some v.from = sym u.is ∙ v.is in
    let f : u.from ≡ v.from = cc in
    let same : u.to ≡ v.to = same_location u.to v.to (u.site ∙ (ap (λ (l : Loc). l.site) f ∙ sym v.site)) (u.along ∙ (ap (λ (l : Loc). l.path ++ path) f ∙ sym v.along)) in
    apart a b u.to u.at (v.at ∙ ap Some (sym same))

pub if_ok : {A E : Type 0} (r : Result A E) (P Q : A → Type 0) → ((x : A) → P x → Q x) → IfOk r P → IfOk r Q
if_ok (Ok x) P Q f h = f x h
if_ok (Err e) P Q f h = h

-- the runs of pairs with a property
pub runs_from : (A : ℕ × ℕ → Type 0) (count long : ℕ) (runs : List (List ℕ)) (pairs : List (ℕ × ℕ)) → count ≡ long → length runs ≡ count
    → ((z n : ℕ) → z < count → In n (run runs z) ↔ In (z, n) pairs) → ArePairs A pairs → AreRuns A long runs
runs_from A count long runs pairs same size are pairs_are = record {
  long = size ∙ same;
  are = λ z n l.
      let h = are z n (subst (λ k. z < k) (sym same) l) in
      (λ m. (pairs_are (z, n)).0 (h.0 m), λ a. h.1 ((pairs_are (z, n)).1 a));
}
