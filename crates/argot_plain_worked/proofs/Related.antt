-- What the relation says of the programs that aren't the first one: that they are well formed, and flows and edges that it has
-- or hasn't.
use Rattle.std.proofs.Common.{◌≡◌, ℕ, true, false, [], ◌∷◌, refl, inl}
use Rattle.std.specs.Prelude.{nat_le}
use Rattle.argot_plain.specs.Code.{Code, IsAt, IsFunction, by_call, by_defer, by_kind, successor, IsIn}
use Rattle.argot_text.specs.declared.path.PathStep.TheVariants.{Field}
use Rattle.argot_plain.specs.Nodes.{mark, of_kind, of_entry}
use Rattle.argot_plain.specs.declared.functions.Function.{Function}
use Rattle.argot_plain.specs.declared.instructions.Callee.TheVariants.{Static}
use Rattle.argot_plain.specs.declared.instructions.Kind.TheVariants.{Call, Defer, Go, Move, New, Read, Step, Write}
use Rattle.argot_plain_parts.proofs.Whole.{passing_is_well}
use Rattle.argot_facts.specs.Edges.{plain, call, a_defer, by_object, by_write, by_read}
use Rattle.argot_facts.specs.Escapes.{Escapes, by_go}
use Rattle.argot_facts.specs.Reaching.{DefinedAt, Reaches, next, on}
use Rattle.argot_facts.specs.Refers.{Holds, IsLive, IsLivePlace, NodeRefers, loc, entry_is_live, target_is_live, target_static, new, copy, step}
use Rattle.argot_sound.proofs.Conclusion.{leak_flows}
use Rattle.argot_plain_worked_rules.proofs.EdgesHeld.{live_place, marked, not_defined, stands_in}
use Rattle.argot_plain_worked_rules.proofs.Joining.{no_flow}
use Rattle.argot_plain_worked_rules.proofs.Leading.{no_edge}
use Rattle.argot_plain_worked_rules.proofs.Small.{below}
use Rattle.argot_plain_worked.specs.FilledBox as FilledBox
use Rattle.argot_plain_worked.specs.DeferredCall as DeferredCall
use Rattle.argot_plain_worked.specs.CalledMethod as CalledMethod
use Rattle.argot_plain_worked.specs.DeferredLiteral as DeferredLiteral
use Rattle.argot_plain_worked.specs.ReadFirst as ReadFirst
use Rattle.argot_plain_worked.proofs.FilledBoxRun as FilledBoxRun
use Rattle.argot_plain_worked.proofs.CalledMethodLeak as CalledMethodLeak
use Rattle.argot_plain_worked.proofs.DeferredLiteralLeak as DeferredLiteralLeak

pub filled_box_is_well : FilledBox.ItIsWellFormed
filled_box_is_well = passing_is_well FilledBox.filled_box refl

pub deferred_call_is_well : DeferredCall.ItIsWellFormed
deferred_call_is_well = passing_is_well DeferredCall.deferred_call refl

pub called_methods_are_well : CalledMethod.BothAreWellFormed
called_methods_are_well = (passing_is_well (CalledMethod.calling 0) refl, passing_is_well (CalledMethod.calling 3) refl)

pub deferred_literal_is_well : DeferredLiteral.ItIsWellFormed
deferred_literal_is_well = passing_is_well DeferredLiteral.deferred_literal refl

pub read_first_is_well : ReadFirst.ItIsWellFormed
read_first_is_well = passing_is_well ReadFirst.read_first refl

-- each leak of a run is a flow
pub filled_box_flows : FilledBox.ItFlows
filled_box_flows = let r = FilledBoxRun.it_runs in leak_flows FilledBox.filled_box FilledBox.asked filled_box_is_well r.2 28 40 0 r.3

pub called_method_flows : CalledMethod.ItFlows
called_method_flows = let r = CalledMethodLeak.it_leaks in leak_flows (CalledMethod.calling 0) CalledMethod.asked called_methods_are_well.0 r.2 27 48 0 r.3

pub deferred_literal_flows : DeferredLiteral.ItFlows
deferred_literal_flows = let r = DeferredLiteralLeak.it_leaks in leak_flows DeferredLiteral.deferred_literal DeferredCall.asked deferred_literal_is_well r.2 34 42 0 r.3

-- none of these comes there
pub filled_box_none : FilledBox.ItIsNotHanded
filled_box_none = no_edge FilledBox.filled_box FilledBox.asked 29 0 11 0 refl

pub deferred_call_none : DeferredCall.ItComesTooLate
deferred_call_none = no_flow DeferredCall.deferred_call DeferredCall.asked 30 29 0 refl

pub called_method_none : CalledMethod.ItIsAnotherMethod
called_method_none = no_edge (CalledMethod.calling 3) CalledMethod.asked 31 0 58 0 refl

pub deferred_literal_none : DeferredLiteral.ItIsTheVariable
deferred_literal_none = no_edge DeferredLiteral.deferred_literal DeferredCall.asked 34 0 42 0 refl

pub read_first_none : ReadFirst.ItComesTooLate
read_first_none = no_flow ReadFirst.read_first ReadFirst.asked 38 36 0 refl

-- the function that the entry calls is live
called_is_live : (p : Code) (h : ℕ) (fn : Function) → IsFunction p 0 fn → nat_le fn.entry 2 ≡ true → nat_le 2 fn.leave ≡ true → IsAt p 2 (Call [] (Static h) []) → Holds p (IsLive h)
called_is_live p h fn is low high at = target_is_live 2 false (target_static 0 0 (Call [] (Static h) []) [] (stands_in p 2 0 fn is low high) entry_is_live at by_call)

-- a deferred call: what it hands on comes to the parameter
pub deferred_call_edge : DeferredCall.ItIsHanded
deferred_call_edge =
    let p = DeferredCall.deferred_call in
    let inside = stands_in p 29 5 DeferredCall.function_5 refl refl refl in
    let defers = Defer (Static 2) (0 ∷ []) in
    record {
      from = mark 29 0 [];
      to = mark 11 0 [];
      is_from = marked p 29 0 [] (of_kind 5 0 defers inside refl refl refl);
      is_to = marked p 11 0 [] (of_entry 2 (record { fn = DeferredCall.function_2; is = refl; at = refl }) (below 0 1 refl) refl);
      moves = call 0 2 0 false defers (Static 2) (0 ∷ []) DeferredCall.function_2 refl a_defer by_defer
          (target_static 5 0 defers (0 ∷ []) inside (called_is_live p 5 DeferredCall.function_0 refl refl refl refl) refl by_defer) refl refl;
    }

-- an assignment: what the call gives comes to the write
pub read_first_edge : ReadFirst.ItIsWritten
read_first_edge =
    let p = ReadFirst.read_first in
    let gives = stands_in p 38 6 ReadFirst.function_6 refl refl refl in
    let writes = stands_in p 39 6 ReadFirst.function_6 refl refl refl in
    record {
      from = mark 38 0 [];
      to = mark 39 0 [];
      is_from = marked p 38 0 [] (of_kind 6 6 (Call (6 ∷ []) (Static 1) []) gives refl refl refl);
      is_to = marked p 39 0 [] (of_kind 6 6 (Write 5 6) writes refl refl refl);
      moves = plain 6 (Write 5 6) (live_place p 39 6 writes (called_is_live p 6 ReadFirst.function_0 refl refl refl refl)) refl (refl, refl, refl)
          (record { defines = by_kind (Call (6 ∷ []) (Static 1) []) refl refl; reaches = next (successor (Call (6 ∷ []) (Static 1) []) refl refl) });
    }

pub read_first_back : ReadFirst.ItIsNotReadBack
read_first_back = no_edge ReadFirst.read_first ReadFirst.asked 39 0 35 0 refl

pub shared_first_is_well : ReadFirst.ItIsWellShared
shared_first_is_well = passing_is_well ReadFirst.shared_first refl

-- a box that a goroutine is handed: the reference goes from its site to the goroutine, to the write and to the read
abbrev p : Code
p = ReadFirst.shared_first

in_main : (i : ℕ) → nat_le 29 i ≡ true → nat_le i 42 ≡ true → IsIn p i 6
in_main i low high = stands_in p i 6 ReadFirst.main_sharing refl low high

live : Holds p (IsLive 6)
live = called_is_live p 6 ReadFirst.function_0 refl refl refl refl

live_at : (i : ℕ) → nat_le 29 i ≡ true → nat_le i 42 ≡ true → IsLivePlace p i
live_at i low high = live_place p i 6 (in_main i low high) live

-- the box in register 2, made at 31
made : Holds p (NodeRefers (mark 31 0 []) (loc 0 []))
made = new 2 6 (in_main 31 refl refl) live refl

made_33 : DefinedAt p 31 0 2 33
made_33 = record {
  defines = by_kind (New 2 0) refl refl;
  reaches = on (next (successor (New 2 0) refl refl)) (not_defined p 32 2 (Write 2 1) refl refl refl) (successor (Write 2 1) refl refl);
}

-- in register 0, put there at 33
moved : Holds p (NodeRefers (mark 33 0 []) (loc 0 []))
moved = copy 6 31 0 2 [] (Move 0 2 []) (in_main 33 refl refl) live refl (refl, refl, refl) made_33 made

moved_34 : Reaches p 33 0 34
moved_34 = next (successor (Move 0 2 []) refl refl)

moved_35 : Reaches p 33 0 35
moved_35 = on moved_34 (not_defined p 34 0 (Go (Static 5) (0 ∷ [])) refl refl refl) (successor (Go (Static 5) (0 ∷ [])) refl refl)

moved_38 : Reaches p 33 0 38
moved_38 =
    on (on (on moved_35 (not_defined p 35 0 (Step 3 0 (Field 0 ∷ [])) refl refl refl) (successor (Step 3 0 (Field 0 ∷ [])) refl refl))
    (not_defined p 36 0 (Read 4 3 ([] ∷ [])) refl refl refl) (successor (Read 4 3 ([] ∷ [])) refl refl))
    (not_defined p 37 0 (Call [] (Static 2) (4 ∷ [])) refl refl refl) (successor (Call [] (Static 2) (4 ∷ [])) refl refl)

moved_at : (i : ℕ) → Reaches p 33 0 i → DefinedAt p 33 0 0 i
moved_at i r = record { defines = by_kind (Move 0 2 []) refl refl; reaches = r }

shared : Escapes p 0
shared = by_go 34 0 [] [] (Static 5) (0 ∷ []) (live_at 34 refl refl) refl
    (copy 6 33 0 0 [] (Go (Static 5) (0 ∷ [])) (in_main 34 refl refl) live refl (refl, refl) (moved_at 34 moved_34) moved)

read_from : Holds p (NodeRefers (mark 35 0 []) (loc 0 (Field 0 ∷ [])))
read_from = step 6 33 0 3 0 (in_main 35 refl refl) live refl (moved_at 35 moved_35) moved refl

written_to : Holds p (NodeRefers (mark 38 0 []) (loc 0 (Field 0 ∷ [])))
written_to = step 6 33 0 5 0 (in_main 38 refl refl) live refl (moved_at 38 moved_38) moved refl

read_36 : DefinedAt p 35 0 3 36
read_36 = record { defines = by_kind (Step 3 0 (Field 0 ∷ [])) refl refl; reaches = next (successor (Step 3 0 (Field 0 ∷ [])) refl refl) }

written_40 : DefinedAt p 38 0 5 40
written_40 = record {
  defines = by_kind (Step 5 0 (Field 0 ∷ [])) refl refl;
  reaches = on (next (successor (Step 5 0 (Field 0 ∷ [])) refl refl)) (not_defined p 39 5 (Call (6 ∷ []) (Static 1) []) refl refl refl) (successor (Call (6 ∷ []) (Static 1) []) refl refl);
}

pub shared_first_edge : ReadFirst.ItMayBeReadBack
shared_first_edge = record {
  from = mark 40 0 [];
  to = mark 36 0 [];
  is_from = marked p 40 0 [] (of_kind 6 6 (Write 5 6) (in_main 40 refl refl) refl refl refl);
  is_to = marked p 36 0 [] (of_kind 6 4 (Read 4 3 ([] ∷ [])) (in_main 36 refl refl) refl refl refl);
  moves = by_object 0 (Field 0 ∷ []) (by_write 38 0 5 6 (live_at 40 refl refl) refl written_40 written_to refl)
      (by_read 35 0 4 3 ([] ∷ []) (live_at 36 refl refl) refl read_36 read_from refl)
      (inl shared);
}
