-- What a state shows, by evaluation: that the program ends in one step, what a branch leads to, and which label stands where.
use Rattle.std.proofs.Common.{◌≡◌, ℕ, ◌+◌, Bool, true, false, List, [], ◌∷◌, ◌++◌, Option, Some, None, refl, ap, subst}
use Rattle.std.specs.Prelude.{slice_get, slice_set}
use Rattle.argot_plain.specs.Code.{Code, kind_of}
use Rattle.argot_plain.specs.Leak.{labelled}
use Rattle.argot_plain.specs.Lists.{In}
use Rattle.argot_plain.specs.Machine.{Labelling, Cell, Frame, State}
use Rattle.argot_plain.specs.Nodes.{Mark}
use Rattle.argot_plain.specs.Step.{one_step, act_ends, act_puts, goes_on}
use Rattle.argot_plain.specs.declared.instructions.Kind.{Kind}
use Rattle.argot_plain.specs.declared.instructions.Kind.TheVariants.{Branch, Leave}
use Rattle.argot_plain.specs.declared.problems.Problem.{Problem}
use Rattle.argot_plain_worked_rules.specs.Worked.{IsReached, Ends}
use Rattle.argot_plain_worked_rules.proofs.Ahead.{stepped_to}
use Rattle.argot_plain_worked_rules.proofs.Possible.{in_got}
use Rattle.argot_plain_worked_lowered.specs.Words.{Bears}

-- the end

abbrev is_leave : Option Kind → Bool
is_leave (Some (Leave from)) = true
is_leave _ = false

abbrev if_calm : Bool → Bool → Bool
if_calm true b = false
if_calm false b = b

abbrev frames_end : Code → Option (List Frame) → Bool
frames_end p (Some (f ∷ [])) = if_calm f.panics (is_leave (kind_of (slice_get p.instrs f.place)))
frames_end p _ = false

-- whether the first goroutine leaves its last frame
abbrev pub is_last : Code → State → Bool
is_last p x = if_calm x.ended (frames_end p (slice_get x.goroutines 0))

module _ (p : Code) (pr : Problem) (x : State) (r : IsReached p (labelled pr) x) where
  last_kind : (f : Frame) → x.ended ≡ false → slice_get x.goroutines 0 ≡ Some (f ∷ []) → f.panics ≡ false → (kind : Option Kind) → kind_of (slice_get p.instrs f.place) ≡ kind → is_leave kind ≡ true → Ends p pr
  last_kind f going get calm (Some (Leave from)) is h = (_, stepped_to p (labelled pr) r (one_step 0 (f ∷ []) going get (act_ends from is calm)), refl)
  last_kind f going get calm _ is h = absurd cc

  last_calm : (f : Frame) → x.ended ≡ false → slice_get x.goroutines 0 ≡ Some (f ∷ []) → (b : Bool) → f.panics ≡ b → if_calm b (is_leave (kind_of (slice_get p.instrs f.place))) ≡ true → Ends p pr
  last_calm f going get true calm h = absurd cc
  last_calm f going get false calm h = last_kind f going get calm (kind_of (slice_get p.instrs f.place)) refl h

  last_frames : x.ended ≡ false → (frames : Option (List Frame)) → slice_get x.goroutines 0 ≡ frames → frames_end p frames ≡ true → Ends p pr
  last_frames going None get h = absurd cc
  last_frames going (Some []) get h = absurd cc
  last_frames going (Some (f ∷ [])) get h = last_calm f going get f.panics refl h
  last_frames going (Some (f ∷ (e ∷ rest))) get h = absurd cc

  last_going : (b : Bool) → x.ended ≡ b → if_calm b (frames_end p (slice_get x.goroutines 0)) ≡ true → Ends p pr
  last_going true going h = absurd cc
  last_going false going h = last_frames going (slice_get x.goroutines 0) refl h

  -- then the program ends
  pub ends : is_last p x ≡ true → Ends p pr
  ends h = last_going x.ended refl h

-- a branch

abbrev moved_to : State → Frame → List Frame → Option ℕ → State
moved_to x f rest None = x
moved_to x f rest (Some j) =
    record { slots = x.slots; fresh = x.fresh + 1; goroutines = slice_set x.goroutines 0 (goes_on f [] [] j ∷ rest) ++ []; ended = false }

abbrev by_kind : State → Frame → List Frame → ℕ → Option Kind → State
by_kind x f rest k (Some (Branch targets)) = moved_to x f rest (slice_get targets k)
by_kind x f rest k _ = x

abbrev by_calm : State → Bool → State → State
by_calm x true y = x
by_calm x false y = y

abbrev by_frames : Code → State → ℕ → Option (List Frame) → State
by_frames p x k (Some (f ∷ rest)) = by_calm x f.panics (by_kind x f rest k (kind_of (slice_get p.instrs f.place)))
by_frames p x k _ = x

-- the state behind the target number k of the branch at which the first goroutine stands
abbrev pub branched : Code → ℕ → State → State
branched p k x = by_calm x x.ended (by_frames p x k (slice_get x.goroutines 0))

module _ (p : Code) (l : Labelling) (k : ℕ) (x : State) (r : IsReached p l x) where
  to_target : (f : Frame) (rest : List Frame) (targets : List ℕ) → x.ended ≡ false → slice_get x.goroutines 0 ≡ Some (f ∷ rest) → f.panics ≡ false → kind_of (slice_get p.instrs f.place) ≡ Some (Branch targets)
      → (o : Option ℕ) → slice_get targets k ≡ o → IsReached p l (moved_to x f rest o)
  to_target f rest targets going get calm is None e = r
  to_target f rest targets going get calm is (Some j) e = stepped_to p l r (one_step 0 (f ∷ rest) going get (act_puts (Branch targets) [] j is calm refl (k, e)))

  of_kind : (f : Frame) (rest : List Frame) → x.ended ≡ false → slice_get x.goroutines 0 ≡ Some (f ∷ rest) → f.panics ≡ false → (kind : Option Kind) → kind_of (slice_get p.instrs f.place) ≡ kind → IsReached p l (by_kind x f rest k kind)
  of_kind f rest going get calm (Some (Branch targets)) is = to_target f rest targets going get calm is (slice_get targets k) refl
  of_kind f rest going get calm _ is = r

  of_calm : (f : Frame) (rest : List Frame) → x.ended ≡ false → slice_get x.goroutines 0 ≡ Some (f ∷ rest) → (b : Bool) → f.panics ≡ b → IsReached p l (by_calm x b (by_kind x f rest k (kind_of (slice_get p.instrs f.place))))
  of_calm f rest going get true calm = r
  of_calm f rest going get false calm = of_kind f rest going get calm (kind_of (slice_get p.instrs f.place)) refl

  of_frames : x.ended ≡ false → (frames : Option (List Frame)) → slice_get x.goroutines 0 ≡ frames → IsReached p l (by_frames p x k frames)
  of_frames going None get = r
  of_frames going (Some []) get = r
  of_frames going (Some (f ∷ rest)) get = of_calm f rest going get f.panics refl

  of_going : (b : Bool) → x.ended ≡ b → IsReached p l (by_calm x b (by_frames p x k (slice_get x.goroutines 0)))
  of_going true going = r
  of_going false going = of_frames going (slice_get x.goroutines 0) refl

  -- is reached
  pub branches : IsReached p l (branched p k x)
  branches = of_going x.ended refl

-- a label

abbrev of_label : ℕ → ℕ → Option Mark → Option (ℕ × ℕ × Mark)
of_label i r None = None
of_label i r (Some m) = Some (i, r, m)

abbrev of_cell : ℕ → ℕ → Option Cell → Option (ℕ × ℕ × Mark)
of_cell i n None = None
of_cell i n (Some c) = of_label i c.register (slice_get c.atom.labels n)

abbrev of_frame : ℕ → ℕ → Option (List Frame) → Option (ℕ × ℕ × Mark)
of_frame c n (Some (f ∷ rest)) = of_cell f.place n (slice_get f.cells c)
of_frame c n _ = None

-- the place of the first goroutine, the register of its cell number c, and the label number n of that
abbrev pub shown : State → ℕ → ℕ → Option (ℕ × ℕ × Mark)
shown x c n = of_frame c n (slice_get x.goroutines 0)

module _ (p : Code) (pr : Problem) (x : State) (reached : IsReached p (labelled pr) x) (i r : ℕ) (s : Mark) where
  in_label : (f : Frame) (rest : List Frame) → slice_get x.goroutines 0 ≡ Some (f ∷ rest) → (c n : ℕ) (cell : Cell) → slice_get f.cells c ≡ Some cell → (o : Option Mark) → slice_get cell.atom.labels n ≡ o
      → of_label f.place cell.register o ≡ Some (i, r, s) → Bears p pr i r s
  in_label f rest get c n cell has None e h = absurd cc
  in_label f rest get c n cell has (Some m) e h =
      let z : (f.place, cell.register, m) ≡ (i, r, s) = cc in
      let a : f.place ≡ i = ap (λ (y : ℕ × ℕ × Mark). y.0) z in
      let b : cell.register ≡ r = ap (λ (y : ℕ × ℕ × Mark). y.1) z in
      let d : m ≡ s = ap (λ (y : ℕ × ℕ × Mark). y.2) z in
      (x, reached, f, rest, get, a, cell, in_got f.cells c cell has, b, subst (λ y. In y cell.atom.labels) d (in_got cell.atom.labels n m e))

  in_cell : (f : Frame) (rest : List Frame) → slice_get x.goroutines 0 ≡ Some (f ∷ rest) → (c n : ℕ) (o : Option Cell) → slice_get f.cells c ≡ o → of_cell f.place n o ≡ Some (i, r, s) → Bears p pr i r s
  in_cell f rest get c n None e h = absurd cc
  in_cell f rest get c n (Some cell) e h = in_label f rest get c n cell e (slice_get cell.atom.labels n) refl h

  in_frame : (c n : ℕ) (o : Option (List Frame)) → slice_get x.goroutines 0 ≡ o → of_frame c n o ≡ Some (i, r, s) → Bears p pr i r s
  in_frame c n None e h = absurd cc
  in_frame c n (Some []) e h = absurd cc
  in_frame c n (Some (f ∷ rest)) e h = in_cell f rest e c n (slice_get f.cells c) refl h

  -- is what it bears
  pub bears : (c n : ℕ) → shown x c n ≡ Some (i, r, s) → Bears p pr i r s
  bears c n h = in_frame c n (slice_get x.goroutines 0) refl h
