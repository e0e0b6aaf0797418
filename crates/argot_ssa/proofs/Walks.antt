-- A walk over a list of ends: what it has yielded, and what is left.
use Rattle.std.proofs.Common.{◌≡◌, ℕ, true, false, List, [], ◌∷◌, ◌++◌, slice_index_or, refl, sym, ap, subst, ◌∙◌, eq-eqb}
use Rattle.std.proofs.lemmas.Bool.{or_left, or_right}
use Rattle.std.proofs.lemmas.List.{append-nil}
use Rattle.argot_links.specs.Members.{has}
use Rattle.argot_ssa.specs.Edges.{leads}

pub has_mid : (ys rest : List ℕ) (b : ℕ) → has (ys ++ (b ∷ rest)) b ≡ true
has_mid [] rest b = or_left _ _ (eq-eqb b b refl)
has_mid (y ∷ ys) rest b = or_right _ _ (has_mid ys rest b)

-- what is yielded is in the list
pub walked_one : (lists : List (List ℕ)) (a b : ℕ) (ys rest : List ℕ) → ys ++ (b ∷ rest) ≡ slice_index_or lists a [] → leads lists a b ≡ true
unfolding leads
walked_one lists a b ys rest whole = subst (λ list. has list b ≡ true) whole (has_mid ys rest b)

-- at the end all of the list is yielded
pub walked_all : (lists : List (List ℕ)) (a b : ℕ) (ys : List ℕ) → ys ++ [] ≡ slice_index_or lists a [] → leads lists a b ≡ true → has ys b ≡ true
unfolding leads
walked_all lists a b ys whole h = subst (λ list. has list b ≡ true) (sym whole ∙ append-nil ys) h

pub walked_none : (lists : List (List ℕ)) (a : ℕ) → slice_index_or lists a [] ≡ [] → (b : ℕ) → leads lists a b ≡ false
unfolding leads
walked_none lists a none b = ap (λ list. has list b) none
