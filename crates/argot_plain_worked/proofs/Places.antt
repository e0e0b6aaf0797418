-- What stands at the places of the first program, and where they lead.
use Rattle.std.proofs.Common.{◌≡◌, ℕ, zero, suc, ◌+◌, List, [], ◌∷◌, Some, refl, sym, ◌∙◌, subst, inl, inr, arith}
use Rattle.std.specs.Prelude.{slice_get, ◌⊎◌, replicate}
use Rattle.argot_plain.specs.Code.{Code, kind_of, IsAt, IsFunction, IsEntry, Next, successor, Defines, by_kind, by_entry, defined, leaves, leaves_in}
use Rattle.argot_plain.specs.declared.functions.Function.{Function}
use Rattle.argot_plain.specs.declared.instructions.Callee.TheVariants.{Static}
use Rattle.argot_plain.specs.declared.instructions.Instr.{Instr}
use Rattle.argot_plain.specs.declared.instructions.Kind.{Kind}
use Rattle.argot_plain.specs.declared.instructions.Kind.TheVariants.{Op, Move, Call, RunDefers, Goto}
use Rattle.argot_text.specs.declared.path.PathStep.{PathStep}
use Rattle.argot_facts.specs.Reaching.{Reaches, next, on, DefinedAt}
use Rattle.argot_plain_worked.specs.FirstFlow.{Look, program_of, one_leaf, entry_function, source_function, sink_function, main_function}

abbrev EachPlace : (ℕ → Kind → Type 0) → ℕ → List Instr → Type 0
EachPlace P n [] = Unit {0}
EachPlace P n (x ∷ xs) = P n x.kind × EachPlace P (n + 1) xs

by_place : (P : ℕ → Kind → Type 0) (xs : List Instr) (n : ℕ) → EachPlace P n xs → (k : ℕ) (kind : Kind) → kind_of (slice_get xs k) ≡ Some kind → P (n + k) kind
by_place P [] n h k kind e = absurd cc
by_place P (x ∷ xs) n h zero kind e = let same : x.kind ≡ kind = cc in let z : n ≡ n + 0 = omega arith in subst (λ m. P m kind) z (subst (P n) same h.0)
by_place P (x ∷ xs) n h (suc k) kind e = let z : n + 1 + k ≡ n + suc k = omega arith in subst (λ m. P m kind) z (by_place P xs (n + 1) h.1 k kind e)

pub only_one : (a b k : ℕ) → slice_get (a ∷ []) k ≡ Some b → (k ≡ 0) × (a ≡ b)
only_one a b zero h = (refl, cc)
only_one a b (suc k) h = absurd cc

not_number : (a b : ℕ) → (a ≡ b → ⊥) → a ≡ b → ⊥
not_number a b h e = h e

-- a register has one leaf, the empty path, or none
leaf_case : (qs : List (List PathStep)) → (qs ≡ []) ⊎ (qs ≡ [] ∷ []) → (a : ℕ) (q : List PathStep) → slice_get qs a ≡ Some q → (a ≡ 0) × (q ≡ [])
leaf_case qs (inl e) a q h = let x = subst (λ (z : List (List PathStep)). slice_get z a ≡ Some q) e h in absurd cc
leaf_case qs (inr e) zero q h = let x = subst (λ (z : List (List PathStep)). slice_get z 0 ≡ Some q) e h in (refl, cc)
leaf_case qs (inr e) (suc a) q h = let x = subst (λ (z : List (List PathStep)). slice_get z (suc a) ≡ Some q) e h in absurd cc

-- the leaf of a register that nothing uses
spare_leaves : (fn : Function) (n r : ℕ) → (leaves_in (Some (record fn { registers = replicate n one_leaf })) r ≡ []) ⊎ (leaves_in (Some (record fn { registers = replicate n one_leaf })) r ≡ [] ∷ [])
spare_leaves fn zero r = inl refl
spare_leaves fn (suc n) zero = inr refl
spare_leaves fn (suc n) (suc r) = spare_leaves fn n r

-- of any program that does what the first one does
module _ (l : Look) where
  abbrev first_flow : Code
  first_flow = program_of l

  -- what holds of each place holds of any
  pub at_place : (P : ℕ → Kind → Type 0) → EachPlace P 0 first_flow.instrs → (i : ℕ) (kind : Kind) → IsAt first_flow i kind → P i kind
  at_place P h i kind e = let z : 0 + i ≡ i = omega arith in subst (λ m. P m kind) z (by_place P first_flow.instrs 0 h i kind e)

  -- the function of a number
  pub functions_are : (P : ℕ → Function → Type 0) → P 0 (entry_function l) → P 1 (source_function l) → P 2 (sink_function l) → P 3 (main_function l) → (g : ℕ) (fn : Function) → IsFunction first_flow g fn → P g fn
  functions_are P a b c d zero fn h = let e : (entry_function l) ≡ fn = cc in subst (P 0) e a
  functions_are P a b c d (suc zero) fn h = let e : (source_function l) ≡ fn = cc in subst (P 1) e b
  functions_are P a b c d (suc (suc zero)) fn h = let e : (sink_function l) ≡ fn = cc in subst (P 2) e c
  functions_are P a b c d (suc (suc (suc zero))) fn h = let e : (main_function l) ≡ fn = cc in subst (P 3) e d
  functions_are P a b c d (suc (suc (suc (suc g)))) fn h = absurd cc

  -- the places before a place

  pub before_7 : (i : ℕ) (kind : Kind) → IsAt first_flow i kind → Next kind i 7 → i ≡ 6
  before_7 = at_place (λ i kind. Next kind i 7 → i ≡ 6) (λ e. (let x = e.0 in absurd (omega arith)), (λ e. (let x = (only_one 2 7 e.0 e.1).1 in absurd (omega arith)), (λ e. absurd (omega arith), (λ e. absurd (omega arith), (λ e. absurd e, (λ e. (let x = e.0 in absurd (omega arith)), (λ e. refl, (λ e. absurd (omega arith), (λ e. (let x = e.0 in absurd (omega arith)), (λ e. absurd (omega arith), (λ e. absurd e, (λ e. (let x = e.0 in absurd (omega arith)), (λ e. absurd (omega arith), (λ e. absurd e, (λ e. (let x = e.0 in absurd (omega arith)), (λ e. absurd (omega arith), (λ e. absurd (omega arith), (λ e. absurd (omega arith), (λ e. absurd (omega arith), (λ e. absurd e, tt))))))))))))))))))))

  pub before_8 : (i : ℕ) (kind : Kind) → IsAt first_flow i kind → Next kind i 8 → i ≡ 7
  before_8 = at_place (λ i kind. Next kind i 8 → i ≡ 7) (λ e. (let x = e.0 in absurd (omega arith)), (λ e. (let x = (only_one 2 8 e.0 e.1).1 in absurd (omega arith)), (λ e. absurd (omega arith), (λ e. absurd (omega arith), (λ e. absurd e, (λ e. (let x = e.0 in absurd (omega arith)), (λ e. absurd (omega arith), (λ e. refl, (λ e. (let x = e.0 in absurd (omega arith)), (λ e. absurd (omega arith), (λ e. absurd e, (λ e. (let x = e.0 in absurd (omega arith)), (λ e. absurd (omega arith), (λ e. absurd e, (λ e. (let x = e.0 in absurd (omega arith)), (λ e. absurd (omega arith), (λ e. absurd (omega arith), (λ e. absurd (omega arith), (λ e. absurd (omega arith), (λ e. absurd e, tt))))))))))))))))))))

  pub before_9 : (i : ℕ) (kind : Kind) → IsAt first_flow i kind → Next kind i 9 → i ≡ 8
  before_9 = at_place (λ i kind. Next kind i 9 → i ≡ 8) (λ e. (let x = e.0 in absurd (omega arith)), (λ e. (let x = (only_one 2 9 e.0 e.1).1 in absurd (omega arith)), (λ e. absurd (omega arith), (λ e. absurd (omega arith), (λ e. absurd e, (λ e. (let x = e.0 in absurd (omega arith)), (λ e. absurd (omega arith), (λ e. absurd (omega arith), (λ e. refl, (λ e. absurd (omega arith), (λ e. absurd e, (λ e. (let x = e.0 in absurd (omega arith)), (λ e. absurd (omega arith), (λ e. absurd e, (λ e. (let x = e.0 in absurd (omega arith)), (λ e. absurd (omega arith), (λ e. absurd (omega arith), (λ e. absurd (omega arith), (λ e. absurd (omega arith), (λ e. absurd e, tt))))))))))))))))))))

  pub before_10 : (i : ℕ) (kind : Kind) → IsAt first_flow i kind → Next kind i 10 → i ≡ 9
  before_10 = at_place (λ i kind. Next kind i 10 → i ≡ 9) (λ e. (let x = e.0 in absurd (omega arith)), (λ e. (let x = (only_one 2 10 e.0 e.1).1 in absurd (omega arith)), (λ e. absurd (omega arith), (λ e. absurd (omega arith), (λ e. absurd e, (λ e. (let x = e.0 in absurd (omega arith)), (λ e. absurd (omega arith), (λ e. absurd (omega arith), (λ e. (let x = e.0 in absurd (omega arith)), (λ e. refl, (λ e. absurd e, (λ e. (let x = e.0 in absurd (omega arith)), (λ e. absurd (omega arith), (λ e. absurd e, (λ e. (let x = e.0 in absurd (omega arith)), (λ e. absurd (omega arith), (λ e. absurd (omega arith), (λ e. absurd (omega arith), (λ e. absurd (omega arith), (λ e. absurd e, tt))))))))))))))))))))

  pub before_16 : (i : ℕ) (kind : Kind) → IsAt first_flow i kind → Next kind i 16 → i ≡ 15
  before_16 = at_place (λ i kind. Next kind i 16 → i ≡ 15) (λ e. (let x = e.0 in absurd (omega arith)), (λ e. (let x = (only_one 2 16 e.0 e.1).1 in absurd (omega arith)), (λ e. absurd (omega arith), (λ e. absurd (omega arith), (λ e. absurd e, (λ e. (let x = e.0 in absurd (omega arith)), (λ e. absurd (omega arith), (λ e. absurd (omega arith), (λ e. (let x = e.0 in absurd (omega arith)), (λ e. absurd (omega arith), (λ e. absurd e, (λ e. (let x = e.0 in absurd (omega arith)), (λ e. absurd (omega arith), (λ e. absurd e, (λ e. (let x = e.0 in absurd (omega arith)), (λ e. refl, (λ e. absurd (omega arith), (λ e. absurd (omega arith), (λ e. absurd (omega arith), (λ e. absurd e, tt))))))))))))))))))))

  pub before_17 : (i : ℕ) (kind : Kind) → IsAt first_flow i kind → Next kind i 17 → i ≡ 16
  before_17 = at_place (λ i kind. Next kind i 17 → i ≡ 16) (λ e. (let x = e.0 in absurd (omega arith)), (λ e. (let x = (only_one 2 17 e.0 e.1).1 in absurd (omega arith)), (λ e. absurd (omega arith), (λ e. absurd (omega arith), (λ e. absurd e, (λ e. (let x = e.0 in absurd (omega arith)), (λ e. absurd (omega arith), (λ e. absurd (omega arith), (λ e. (let x = e.0 in absurd (omega arith)), (λ e. absurd (omega arith), (λ e. absurd e, (λ e. (let x = e.0 in absurd (omega arith)), (λ e. absurd (omega arith), (λ e. absurd e, (λ e. (let x = e.0 in absurd (omega arith)), (λ e. absurd (omega arith), (λ e. refl, (λ e. absurd (omega arith), (λ e. absurd (omega arith), (λ e. absurd e, tt))))))))))))))))))))

  -- a place that is no entry
  no_entry : (i : ℕ) → (i ≡ 0 → ⊥) → (i ≡ 5 → ⊥) → (i ≡ 11 → ⊥) → (i ≡ 14 → ⊥) → (g : ℕ) → IsEntry first_flow i g → ⊥
  no_entry i a b c d g e = functions_are (λ g fn. i ≡ fn.entry → ⊥) a b c d g e.fn e.is e.at

  same_kind : (i : ℕ) (a b : Kind) → IsAt first_flow i a → IsAt first_flow i b → a ≡ b
  same_kind i a b h k = let e = sym h ∙ k in cc

  -- where a register may have been defined, at a place that one other leads to
  reaches_from : (d r t s : ℕ) → ((i : ℕ) (kind : Kind) → IsAt first_flow i kind → Next kind i t → i ≡ s) → Reaches first_flow d r t → (d ≡ s) ⊎ (Reaches first_flow d r s × ((k : ℕ) → Defines first_flow s k r → ⊥))
  reaches_from d r t s before (next (successor kind at onward)) = inl (before d kind at onward)
  reaches_from d r t s before (on {i = i} h other (successor kind at onward)) = let e = before i kind at onward in inr (subst (Reaches first_flow d r) e h, subst (λ n. (k : ℕ) → Defines first_flow n k r → ⊥) e other)

  -- the index of the only register that a place defines
  one_defined : (i r s k : ℕ) (kind : Kind) → IsAt first_flow i kind → defined kind ≡ s ∷ [] → ((g : ℕ) → IsEntry first_flow i g → ⊥) → Defines first_flow i k r → (k ≡ 0) × (s ≡ r)
  one_defined i r s k kind at is inner (by_kind other at' get) =
      let e = same_kind i other kind at' at in
      only_one s r k (subst (λ (rs : List ℕ). slice_get rs k ≡ Some r) is (subst (λ (x : Kind). slice_get (defined x) k ≡ Some r) e get))
  one_defined i r s k kind at is inner (by_entry g e within same) = absurd (inner g e)

  pub none_defined : (i r k : ℕ) (kind : Kind) → IsAt first_flow i kind → defined kind ≡ [] → ((g : ℕ) → IsEntry first_flow i g → ⊥) → Defines first_flow i k r → ⊥
  none_defined i r k kind at is inner (by_kind other at' get) =
      let e = same_kind i other kind at' at in
      let x = subst (λ (rs : List ℕ). slice_get rs k ≡ Some r) is (subst (λ (x : Kind). slice_get (defined x) k ≡ Some r) e get) in absurd cc
  none_defined i r k kind at is inner (by_entry g e within same) = inner g e

  inner_6 : (g : ℕ) → IsEntry first_flow 6 g → ⊥
  inner_6 = no_entry 6 (λ e. absurd (omega arith)) (λ e. absurd (omega arith)) (λ e. absurd (omega arith)) (λ e. absurd (omega arith))

  inner_7 : (g : ℕ) → IsEntry first_flow 7 g → ⊥
  inner_7 = no_entry 7 (λ e. absurd (omega arith)) (λ e. absurd (omega arith)) (λ e. absurd (omega arith)) (λ e. absurd (omega arith))

  pub inner_8 : (g : ℕ) → IsEntry first_flow 8 g → ⊥
  inner_8 = no_entry 8 (λ e. absurd (omega arith)) (λ e. absurd (omega arith)) (λ e. absurd (omega arith)) (λ e. absurd (omega arith))

  pub inner_9 : (g : ℕ) → IsEntry first_flow 9 g → ⊥
  inner_9 = no_entry 9 (λ e. absurd (omega arith)) (λ e. absurd (omega arith)) (λ e. absurd (omega arith)) (λ e. absurd (omega arith))

  inner_15 : (g : ℕ) → IsEntry first_flow 15 g → ⊥
  inner_15 = no_entry 15 (λ e. absurd (omega arith)) (λ e. absurd (omega arith)) (λ e. absurd (omega arith)) (λ e. absurd (omega arith))

  inner_16 : (g : ℕ) → IsEntry first_flow 16 g → ⊥
  inner_16 = no_entry 16 (λ e. absurd (omega arith)) (λ e. absurd (omega arith)) (λ e. absurd (omega arith)) (λ e. absurd (omega arith))

  pub defined_7 : (d j : ℕ) → DefinedAt first_flow d j 1 7 → (d ≡ 6) × (j ≡ 0)
  defined_7 d j h = elim (reaches_from d 1 7 6 before_7 h.reaches) [
    | inl e ↦ (e, (one_defined 6 1 1 j (Op 1 []) refl refl inner_6 (subst (λ n. Defines first_flow n j 1) e h.defines)).0)
    | inr x ↦ absurd (x.1 0 (by_kind (Op 1 []) refl refl))
  ]

  pub defined_16 : (d j : ℕ) → DefinedAt first_flow d j 0 16 → (d ≡ 15) × (j ≡ 0)
  defined_16 d j h = elim (reaches_from d 0 16 15 before_16 h.reaches) [
    | inl e ↦ (e, (one_defined 15 0 0 j (Call (0 ∷ []) (Static 1) []) refl refl inner_15 (subst (λ n. Defines first_flow n j 0) e h.defines)).0)
    | inr x ↦ absurd (x.1 0 (by_kind (Call (0 ∷ []) (Static 1) []) refl refl))
  ]

  pub defined_17 : (d j : ℕ) → DefinedAt first_flow d j 1 17 → (d ≡ 16) × (j ≡ 0)
  defined_17 d j h = elim (reaches_from d 1 17 16 before_17 h.reaches) [
    | inl e ↦ (e, (one_defined 16 1 1 j (Move 1 0 []) refl refl inner_16 (subst (λ n. Defines first_flow n j 1) e h.defines)).0)
    | inr x ↦ absurd (x.1 0 (by_kind (Move 1 0 []) refl refl))
  ]

  pub defined_10 : (d j : ℕ) → DefinedAt first_flow d j 0 10 → (d ≡ 7) × (j ≡ 0)
  defined_10 d j h = nine (reaches_from d 0 10 9 before_10 h.reaches)
    where
      seven : (d ≡ 7) ⊎ (Reaches first_flow d 0 7 × ((k : ℕ) → Defines first_flow 7 k 0 → ⊥)) → (d ≡ 7) × (j ≡ 0)
      seven (inl e) = (e, (one_defined 7 0 0 j (Move 0 1 []) refl refl inner_7 (subst (λ n. Defines first_flow n j 0) e h.defines)).0)
      seven (inr x) = absurd (x.1 0 (by_kind (Move 0 1 []) refl refl))

      eight : (d ≡ 8) ⊎ (Reaches first_flow d 0 8 × ((k : ℕ) → Defines first_flow 8 k 0 → ⊥)) → (d ≡ 7) × (j ≡ 0)
      eight (inl e) = absurd (none_defined 8 0 j (Goto 9) refl refl inner_8 (subst (λ n. Defines first_flow n j 0) e h.defines))
      eight (inr x) = seven (reaches_from d 0 8 7 before_8 x.0)

      nine : (d ≡ 9) ⊎ (Reaches first_flow d 0 9 × ((k : ℕ) → Defines first_flow 9 k 0 → ⊥)) → (d ≡ 7) × (j ≡ 0)
      nine (inl e) = absurd (none_defined 9 0 j RunDefers refl refl inner_9 (subst (λ n. Defines first_flow n j 0) e h.defines))
      nine (inr x) = eight (reaches_from d 0 9 8 before_9 x.0)

  pub leaves_are : (g r : ℕ) → (leaves first_flow g r ≡ []) ⊎ (leaves first_flow g r ≡ [] ∷ [])
  leaves_are zero r = spare_leaves (entry_function l) l.entry.spare r
  leaves_are (suc zero) zero = inr refl
  leaves_are (suc zero) (suc zero) = inr refl
  leaves_are (suc zero) (suc (suc r)) = spare_leaves (source_function l) l.source.spare r
  leaves_are (suc (suc zero)) zero = inr refl
  leaves_are (suc (suc zero)) (suc r) = spare_leaves (sink_function l) l.sink.spare r
  leaves_are (suc (suc (suc zero))) zero = inr refl
  leaves_are (suc (suc (suc zero))) (suc zero) = inr refl
  leaves_are (suc (suc (suc zero))) (suc (suc r)) = spare_leaves (main_function l) l.main.spare r
  leaves_are (suc (suc (suc (suc g)))) r = inl refl

  pub one_leaf_of : (g r a : ℕ) (q : List PathStep) → slice_get (leaves first_flow g r) a ≡ Some q → (a ≡ 0) × (q ≡ [])
  one_leaf_of g r = leaf_case (leaves first_flow g r) (leaves_are g r)
