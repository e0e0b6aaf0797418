-- Edges that the relation has, one of each kind that goes through a slice, a goroutine, an external or an object.
use Rattle.std.proofs.Common.{◌≡◌, ℕ, zero, suc, Bool, true, false, [], ◌∷◌, List, Some, refl, sym, ap, ◌∙◌, subst, inl, inr, leb-true, eq-eqb}
use Rattle.std.specs.Prelude.{◌||◌, ◌==◌, slice_get, nat_le}
use Rattle.argot_plain.specs.Lists.{member}
use Rattle.argot_plain.specs.Code.{Code, IsAt, IsFunction, IsIn, by_call, by_go, successor, Defines, by_kind, by_entry, defined}
use Rattle.argot_plain.specs.Counts.{traced_back}
use Rattle.argot_plain.specs.Leak.{a_sink}
use Rattle.argot_plain.specs.Nodes.{mark, HasLeaf, of_kind, of_items, of_elements, of_entry}
use Rattle.argot_plain.specs.declared.functions.Function.{Function}
use Rattle.argot_plain.specs.declared.instructions.Callee.TheVariants.{Static}
use Rattle.argot_plain.specs.declared.instructions.Kind.{Kind}
use Rattle.argot_plain.specs.declared.instructions.Kind.TheVariants.{Call, Global, Go, New, Op, Read, Write}
use Rattle.argot_text.specs.declared.path.PathStep.{PathStep}
use Rattle.argot_facts.specs.Edges.{plain, grown, go, external, by_object, by_argument, by_write, by_read, direct, at_call}
use Rattle.argot_facts.specs.Escapes.{by_variable}
use Rattle.argot_facts.specs.Follows.{goes, one, then}
use Rattle.argot_facts.specs.Graphs.{IsMarked}
use Rattle.argot_facts.specs.Reaching.{Reaches, next, on, DefinedAt}
use Rattle.argot_facts.specs.Refers.{Holds, IsLive, NodeRefers, loc, IsLivePlace, entry_is_live, target_is_live, target_static, new, copy, global}
use Rattle.argot_facts.specs.declared.graphs.EdgeKind.TheVariants.{Plain, Reset}
use Rattle.argot_plain_worked_rules.specs.Worked.{node, HasEdge, asked, entry_function}
use Rattle.argot_plain_worked_rules.specs.Slices as Slices
use Rattle.argot_plain_worked_rules.specs.Shared as Shared
use Rattle.argot_plain_worked_rules.specs.Externals as Externals
use Rattle.argot_plain_worked_rules.specs.Overwritten as Overwritten
use Rattle.argot_plain_worked_rules.specs.Handed as Handed
use Rattle.argot_plain_worked_rules.specs.TracedBack as TracedBack
use Rattle.argot_plain_worked_rules.specs.Variables as Variables
use Rattle.argot_plain_worked_rules.proofs.Small.{own_site, below}

pub stands_in : (p : Code) (i g : ℕ) (fn : Function) → IsFunction p g fn → nat_le fn.entry i ≡ true → nat_le i fn.leave ≡ true → IsIn p i g
stands_in p i g fn is low high = record { fn = fn; is = is; low = leb-true fn.entry i low; high = leb-true i fn.leave high }

pub marked : (p : Code) (i k : ℕ) (q : List PathStep) → HasLeaf p i k 0 q → IsMarked p (node i k) (mark i k q)
marked p i k q has = record { place = refl; index = refl; has = has }

-- main is live, and so are its places
main_is_live : (p : Code) → IsFunction p 0 entry_function → IsAt p 2 (Call [] (Static 3) []) → Holds p (IsLive 3)
main_is_live p is at = target_is_live 2 false (target_static 0 0 (Call [] (Static 3) []) [] (stands_in p 2 0 entry_function is refl refl) entry_is_live at by_call)

pub live_place : (p : Code) (i g : ℕ) → IsIn p i g → Holds p (IsLive g) → IsLivePlace p i
live_place p i g inside live = record { function = g; is_in = inside; is_live = live }

abbrev is_entry : ℕ → List Function → Bool
is_entry i [] = false
is_entry i (fn ∷ fns) = (fn.entry == i) || is_entry i fns

no_entry : (i g : ℕ) (fns : List Function) (fn : Function) → slice_get fns g ≡ Some fn → is_entry i fns ≡ false → i ≡ fn.entry → ⊥
no_entry i g [] fn is none at = absurd cc
no_entry i zero (x ∷ fns) fn is none at =
    let e : x ≡ fn = cc in
    apart (x.entry == i) (is_entry i fns) none (eq-eqb x.entry i (ap (λ (f : Function). f.entry) e ∙ sym at))
  where
    apart : (a b : Bool) → (a || b) ≡ false → a ≡ true → ⊥
    apart true b h e = absurd cc
    apart false b h e = absurd cc
no_entry i (suc g) (x ∷ fns) fn is none at = no_entry i g fns fn is (behind (x.entry == i) (is_entry i fns) none) at
  where
    behind : (a b : Bool) → (a || b) ≡ false → b ≡ false
    behind true b h = absurd cc
    behind false b h = h

got_member : (r k : ℕ) (rs : List ℕ) → slice_get rs k ≡ Some r → member r rs ≡ false → ⊥
got_member r k [] h none = absurd cc
got_member r zero (x ∷ rs) h none =
    let e : r ≡ x = cc in
    apart (r == x) (member r rs) none (eq-eqb r x e)
  where
    apart : (a b : Bool) → (a || b) ≡ false → a ≡ true → ⊥
    apart true b h e = absurd cc
    apart false b h e = absurd cc
got_member r (suc k) (x ∷ rs) h none = got_member r k rs h (behind (r == x) (member r rs) none)
  where
    behind : (a b : Bool) → (a || b) ≡ false → b ≡ false
    behind true b h = absurd cc
    behind false b h = h

-- a place that is no entry and gives other registers doesn't define the register
pub not_defined : (p : Code) (i r : ℕ) (kind : Kind) → IsAt p i kind → member r (defined kind) ≡ false → is_entry i p.functions ≡ false → (k : ℕ) → Defines p i k r → ⊥
not_defined p i r kind at other inner k (by_kind x is got) =
    let e : x ≡ kind = (let z = sym is ∙ at in cc) in
    got_member r k (defined kind) (subst (λ (y : Kind). slice_get (defined y) k ≡ Some r) e got) other
not_defined p i r kind at other inner k (by_entry g e within same) = no_entry i g p.functions e.fn e.is inner e.at

-- slices: the elements that line 8 copies stand with its items
pub slices_grown : HasEdge Slices.slices asked 21 2 Plain 21 1
slices_grown =
    let site = own_site Slices.slices 21 3 _ refl refl refl in
    record {
      from = mark 21 2 [];
      to = mark 21 1 [];
      is_from = marked Slices.slices 21 2 [] (of_elements 3 6 5 (4 ∷ []) _ refl site refl refl);
      is_to = marked Slices.slices 21 1 [] (of_items 3 6 5 (4 ∷ []) _ refl site refl refl);
      moves = grown 6 5 (4 ∷ []) (live_place Slices.slices 21 3 (stands_in Slices.slices 21 3 Slices.main_function refl refl refl) (main_is_live Slices.slices refl refl)) refl;
    }

-- a goroutine: what line 6 hands on comes to the parameter of fill
pub shared_go : HasEdge Shared.shared asked 17 0 Reset 24 0
shared_go =
    let inside = stands_in Shared.shared 17 3 Shared.main_function refl refl refl in
    record {
      from = mark 17 0 [];
      to = mark 24 0 [];
      is_from = marked Shared.shared 17 0 [] (of_kind 3 0 (Go (Static 4) (0 ∷ [])) inside refl refl refl);
      is_to = marked Shared.shared 24 0 [] (of_entry 4 (record { fn = Shared.fill_function; is = refl; at = refl }) (below 0 1 refl) refl);
      moves = go 4 false (Static 4) (0 ∷ []) Shared.fill_function refl (target_static 3 0 (Go (Static 4) (0 ∷ [])) (0 ∷ []) inside (main_is_live Shared.shared refl refl) refl by_go) refl refl;
    }

-- an external: what upper is handed comes to its result
pub externals_flow : HasEdge Externals.externals asked 18 1 Plain 18 0
externals_flow =
    let inside = stands_in Externals.externals 18 3 Externals.main_function refl refl refl in
    let call = Call (1 ∷ []) (Static 4) (0 ∷ []) in
    record {
      from = mark 18 1 [];
      to = mark 18 0 [];
      is_from = marked Externals.externals 18 1 [] (of_kind 3 0 call inside refl refl refl);
      is_to = marked Externals.externals 18 0 [] (of_kind 3 1 call inside refl refl refl);
      moves = external 0 4 false (1 ∷ []) (0 ∷ []) (Static 4) Externals.upper_function refl (target_static 3 1 call (0 ∷ []) inside (main_is_live Externals.externals refl refl) refl by_call) refl refl refl (below 0 1 refl) (below 0 1 refl);
    }

abbrev over : Code
over = Overwritten.overwritten

over_place : (i : ℕ) → nat_le 14 i ≡ true → nat_le i 27 ≡ true → IsLivePlace over i
over_place i low high = live_place over i 3 (stands_in over i 3 Overwritten.main_function refl low high) (main_is_live over refl refl)

over_made : Holds over (NodeRefers (mark 19 0 []) (loc 0 []))
over_made = new 2 3 (stands_in over 19 3 Overwritten.main_function refl refl refl) (main_is_live over refl refl) refl

over_20 : Reaches over 19 2 20
over_20 = next (successor (New 2 0) refl refl)

over_21 : Reaches over 19 2 21
over_21 = on over_20 (not_defined over 20 2 (Call (3 ∷ []) (Static 1) []) refl refl refl) (successor (Call (3 ∷ []) (Static 1) []) refl refl)

over_24 : Reaches over 19 2 24
over_24 =
    on (on (on over_21 (not_defined over 21 2 (Write 2 3) refl refl refl) (successor (Write 2 3) refl refl))
    (not_defined over 22 2 (Op 4 []) refl refl refl) (successor (Op 4 []) refl refl))
    (not_defined over 23 2 (Write 2 4) refl refl refl) (successor (Write 2 4) refl refl)

over_defined : (i : ℕ) → Reaches over 19 2 i → DefinedAt over 19 0 2 i
over_defined i r = record { defines = by_kind (New 2 0) refl refl; reaches = r }

-- an object: what line 8 writes may be read in line 10, since the relation takes nothing away for line 9
pub overwritten_object : HasEdge Overwritten.overwritten asked 21 0 Reset 24 0
overwritten_object = record {
  from = mark 21 0 [];
  to = mark 24 0 [];
  is_from = marked over 21 0 [] (of_kind 3 3 (Write 2 3) (stands_in over 21 3 Overwritten.main_function refl refl refl) refl refl refl);
  is_to = marked over 24 0 [] (of_kind 3 5 (Read 5 2 ([] ∷ [])) (stands_in over 24 3 Overwritten.main_function refl refl refl) refl refl refl);
  moves = by_object 0 [] (by_write 19 0 2 3 (over_place 21 refl refl) refl (over_defined 21 over_21) over_made refl)
      (by_read 19 0 5 2 ([] ∷ []) (over_place 24 refl refl) refl (over_defined 24 over_24) over_made refl)
      (inr (then (then (one (goes (over_place 21 refl refl) (successor (Write 2 3) refl refl))) (goes (over_place 22 refl refl) (successor (Op 4 []) refl refl))) (goes (over_place 23 refl refl) (successor (Write 2 4) refl refl))));
}

abbrev hand : Code
hand = Handed.handed

hand_place : (i : ℕ) → nat_le 14 i ≡ true → nat_le i 24 ≡ true → IsLivePlace hand i
hand_place i low high = live_place hand i 3 (stands_in hand i 3 Handed.main_function refl low high) (main_is_live hand refl refl)

hand_17 : Reaches hand 15 0 17
hand_17 = on (next (successor (New 0 0) refl refl)) (not_defined hand 16 0 (Call (1 ∷ []) (Static 1) []) refl refl refl) (successor (Call (1 ∷ []) (Static 1) []) refl refl)

hand_18 : Reaches hand 15 0 18
hand_18 = on hand_17 (not_defined hand 17 0 (Write 0 1) refl refl refl) (successor (Write 0 1) refl refl)

hand_defined : (i : ℕ) → Reaches hand 15 0 i → DefinedAt hand 15 0 0 i
hand_defined i r = record { defines = by_kind (New 0 0) refl refl; reaches = r }

hand_made : Holds hand (NodeRefers (mark 15 0 []) (loc 0 []))
hand_made = new 0 3 (stands_in hand 15 3 Handed.main_function refl refl refl) (main_is_live hand refl refl) refl

-- an argument of a sink: what line 5 writes stands in what line 6 hands to the sink
pub handed_argument : HasEdge Handed.handed asked 17 0 Reset 18 0
handed_argument =
    let inside = stands_in hand 18 3 Handed.main_function refl refl refl in
    let call = Call [] (Static 2) (0 ∷ []) in
    let live = main_is_live hand refl refl in
    let has = of_kind 3 0 call inside refl refl refl in
    record {
      from = mark 17 0 [];
      to = mark 18 0 [];
      is_from = marked hand 17 0 [] (of_kind 3 1 (Write 0 1) (stands_in hand 17 3 Handed.main_function refl refl refl) refl refl refl);
      is_to = marked hand 18 0 [] has;
      moves = by_argument 0 0 2 0 18 false [] call (Static 2) (0 ∷ []) refl by_call (target_static 3 0 call (0 ∷ []) inside live refl by_call) (a_sink refl) (below 0 1 refl) has
          (direct [] [] (copy 3 15 0 0 [] call inside live refl (0, refl, refl, refl) (hand_defined 18 hand_18) hand_made))
          (by_write 15 0 0 1 (hand_place 17 refl refl) refl (hand_defined 17 hand_17) hand_made refl)
          (at_call [] (0 ∷ []) (Static 2) refl)
          (inr (one (goes (hand_place 17 refl refl) (successor (Write 0 1) refl refl))));
    }

-- data that is traced back: the text of line 4 comes to the sum of line 5
pub traced_plain : HasEdge TracedBack.traced_program (traced_back TracedBack.pointed) 15 0 Plain 16 0
traced_plain =
    let inside = stands_in TracedBack.traced_program 15 3 TracedBack.main_function refl refl refl in
    let there = stands_in TracedBack.traced_program 16 3 TracedBack.main_function refl refl refl in
    record {
      from = mark 15 0 [];
      to = mark 16 0 [];
      is_from = marked TracedBack.traced_program 15 0 [] (of_kind 3 0 (Op 0 []) inside refl refl refl);
      is_to = marked TracedBack.traced_program 16 0 [] (of_kind 3 1 (Op 1 (0 ∷ 0 ∷ [])) there refl refl refl);
      moves = plain 0 (Op 1 (0 ∷ 0 ∷ [])) (live_place TracedBack.traced_program 16 3 there (main_is_live TracedBack.traced_program refl refl)) refl (refl, refl, refl)
          (record { defines = by_kind (Op 0 []) refl refl; reaches = next (successor (Op 0 []) refl refl) });
    }

abbrev kept : Code
kept = Variables.variables

kept_in : (i : ℕ) → nat_le 14 i ≡ true → nat_le i 22 ≡ true → IsIn kept i 3
kept_in i low high = stands_in kept i 3 Variables.main_function refl low high

kept_place : (i : ℕ) → nat_le 14 i ≡ true → nat_le i 22 ≡ true → IsLivePlace kept i
kept_place i low high = live_place kept i 3 (kept_in i low high) (main_is_live kept refl refl)

kept_20 : Reaches kept 18 2 20
kept_20 = on (next (successor (Global 2 0) refl refl)) (not_defined kept 19 2 (Call (3 ∷ []) (Static 1) []) refl refl refl) (successor (Call (3 ∷ []) (Static 1) []) refl refl)

-- a package variable: what line 5 writes may be read in line 4, since any goroutine may run at any time
pub variables_object : HasEdge Variables.variables asked 20 0 Reset 16 0
variables_object = record {
  from = mark 20 0 [];
  to = mark 16 0 [];
  is_from = marked kept 20 0 [] (of_kind 3 3 (Write 2 3) (kept_in 20 refl refl) refl refl refl);
  is_to = marked kept 16 0 [] (of_kind 3 1 (Read 1 0 ([] ∷ [])) (kept_in 16 refl refl) refl refl refl);
  moves = by_object 0 []
      (by_write 18 0 2 3 (kept_place 20 refl refl) refl (record { defines = by_kind (Global 2 0) refl refl; reaches = kept_20 })
      (global 3 2 0 _ _ (kept_in 18 refl refl) (main_is_live kept refl refl) refl refl) refl)
      (by_read 15 0 1 0 ([] ∷ []) (kept_place 16 refl refl) refl (record { defines = by_kind (Global 0 0) refl refl; reaches = next (successor (Global 0 0) refl refl) })
      (global 3 0 0 _ _ (kept_in 15 refl refl) (main_is_live kept refl refl) refl refl) refl)
      (inl (by_variable 0 _ _ refl));
}
