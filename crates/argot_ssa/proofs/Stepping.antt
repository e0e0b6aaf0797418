-- The list of the places where an instruction goes on, against the steps inside its function.
use Rattle.std.proofs.Common.{◌≡◌, ℕ, ◌+◌, ◌<◌, true, List, Some, length, slice_index, sym, subst, ◌∙◌, arith}
use Rattle.std.proofs.lemmas.Option.{get_or_from_slice_get, slice_get-get_or}
use Rattle.argot_links.specs.Members.{has}
use Rattle.argot_plain.specs.Code.{Code, IsAt, IsFunction, Successor, Next}
use Rattle.argot_plain.specs.Code.Successor.{successor}
use Rattle.argot_plain.specs.WellFormed.{WellFormed}
use Rattle.argot_plain.specs.declared.functions.Function.{Function}
use Rattle.argot_plain.specs.declared.instructions.Kind.{Kind}
use Rattle.argot_ssa.specs.Places.{size, Goes, IsPlain, next_places, falls_through}
use Rattle.argot_ssa.proofs.Nexts.{get_has, has_get, next_has, has_next, falls_next, next_falls}
use Rattle.argot_ssa.proofs.Ranges.{get_within, goes}

pub index_has : (xs : List ℕ) (j : ℕ) → j < length xs → has xs (slice_index xs j) ≡ true
index_has xs j low = get_has xs j (slice_index xs j) (slice_get-get_or xs j 0 low)

pub has_index : (xs : List ℕ) (x : ℕ) → has xs x ≡ true → (j : ℕ) × (j < length xs) × (slice_index xs j ≡ x)
has_index xs x h = let found = has_get xs x h in (found.0, get_within xs found.0 x found.1, get_or_from_slice_get xs found.0 x 0 found.1)

pub same_kind : (p : Code) (i : ℕ) (kind other : Kind) → IsAt p i kind → IsAt p i other → kind ≡ other
same_kind p i kind other a b = let e : Some kind ≡ Some other = sym a ∙ b in cc

pub next_of : (p : Code) (i j : ℕ) (kind : Kind) → IsAt p i kind → Successor p i j → Next kind i j
next_of p i j kind at (successor other there next) = subst (λ k. Next k i j) (same_kind p i other kind there at) next

module _ (p : Code) (w : WellFormed p) (g : ℕ) (fn : Function) (is : IsFunction p g fn) (k : ℕ) (low : k < size fn) (kind : Kind) (at : IsAt p (fn.entry + k) kind) where
  pub plain : falls_through kind ≡ true → IsPlain p fn k
  plain f = record {
    only = λ s e. let next = falls_next kind (fn.entry + k) (fn.entry + s) f (next_of p _ _ kind at e.step) in omega arith;
    step = λ within. let shift : fn.entry + k + 1 ≡ fn.entry + (k + 1) = omega arith in
        record { from = low; to = within; step = successor kind at (subst (Next kind (fn.entry + k)) shift (next_falls kind (fn.entry + k) f)) };
  }

  -- each place of the list is one of the function
  pub listed : (t : ℕ) → has (next_places kind (fn.entry + k)) t ≡ true → (s : ℕ) × (fn.entry + s ≡ t) × Goes p fn k s
  listed t h = goes p w g fn is k t low (successor kind at (has_next kind (fn.entry + k) t h))

  pub in_list : (s : ℕ) → Goes p fn k s → has (next_places kind (fn.entry + k)) (fn.entry + s) ≡ true
  in_list s e = next_has kind (fn.entry + k) (fn.entry + s) (next_of p _ _ kind at e.step)
