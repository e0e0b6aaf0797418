-- What follows: leaks are flows, labels in shared objects are escapes, and labels at points are origins.
use Rattle.std.proofs.Common.{◌≡◌, ℕ, Bool, true, false, [], Option, Some, None, refl, subst, inl, inr}
use Rattle.std.specs.Prelude.{◌&&◌, not}
use Rattle.argot_plain.specs.Lists.{In}
use Rattle.argot_plain.specs.Code.{Code}
use Rattle.argot_plain.specs.Counts.{is_left_out, stands_for, is_among, traced_back}
use Rattle.argot_plain.specs.Leak.{Leak, LabelReaches, labelled, traced}
use Rattle.argot_plain.specs.WellFormed.{WellFormed}
use Rattle.argot_plain.specs.Machine.{Slot, State}
use Rattle.argot_plain.specs.Nodes.{Mark}
use Rattle.argot_plain.specs.Step.{Run}
use Rattle.argot_plain.specs.declared.problems.Problem.{Problem}
use Rattle.argot_facts.specs.declared.nodes.Node.{Node}
use Rattle.argot_facts.specs.Escapes.{Escapes}
use Rattle.argot_facts.specs.Flows.{Flow, EscapeOf, IsSource}
use Rattle.argot_facts.specs.Flows as Flowing
use Rattle.argot_facts.specs.Graphs.{IsMarked}
use Rattle.argot_facts.specs.Origins.{IsOrigin}
use Rattle.argot_sound.specs.Laws.{IsBegun}
use Rattle.argot_sound.specs.Sound.{BeginsWhereNothingLeads}
use Rattle.argot_sound.proofs.Leaks.{arrives, leads_nodes}
use Rattle.argot_sound.proofs.Runs.{runs}

module _ (p : Code) (pr : Problem) (wf : WellFormed p) where
  -- under a problem no label begins but at a source
  source_of : (s : Mark) → IsBegun p (labelled pr) s → IsSource p pr s.place s
  source_of s (inl h) = h
  source_of s (inr e) = absurd cc

  pub leak_flows : {n : ℕ} {x : State} → Run p (labelled pr) n x → (s t k : ℕ) → Leak p pr x s t k → Flow p pr s t k
  leak_flows r s t k h =
      let a = arrives p wf (labelled pr) r h.label t k h.reaches in
      let b = leads_nodes p pr a.joined.leads a.node in
      record {
        start = h.label;
        end = a.end;
        source = subst (λ z. IsSource p pr z h.label) h.place (source_of h.label a.joined.begun);
        argument = a.argument;
        from = b.0;
        to = b.2;
        is_from = b.1;
        is_to = b.3;
        joins = record { kinds = a.joined.kinds; calls = a.calls; leads = b.4; realizable = a.joined.realizable };
      }

  pub label_escapes : {n : ℕ} {x : State} → Run p (labelled pr) n x → (slot : Slot) → In slot x.slots → Escapes p slot.object.site → (s : Mark) → In s slot.atom.labels → EscapeOf p pr s.place slot.object.site
  label_escapes r slot m e s i =
      let sl = (runs p wf (labelled pr) r).slot slot m in
      let j = sl.joined s i in
      let b = leads_nodes p pr j.1.leads sl.owned.node in
      record {
        escapes = e;
        start = s;
        end = slot.atom.put;
        path = slot.path;
        source = source_of s j.1.begun;
        writes = sl.owned.written;
        from = b.0;
        to = b.2;
        is_from = b.1;
        is_to = b.3;
        joins = record { kinds = j.1.kinds; calls = j.0; leads = b.4; realizable = j.1.realizable };
      }

  -- where data is traced back nothing is a source
  among_none : (o : Option ℕ) → is_among o [] ≡ false
  among_none None = refl
  among_none (Some h) = refl

  no_count : (b : Bool) (o : Option ℕ) → (b && is_among o []) ≡ true → ⊥
  no_count true o e = let n = among_none o in absurd cc
  no_count false o e = absurd cc

  no_source : (s : ℕ) (m : Mark) → IsSource p (traced_back pr) s m → ⊥
  no_source s m (Flowing.by_call to args callee g takes at targets source within) = no_count (not (is_left_out p s)) (stands_for p g) source
  no_source s m (Flowing.by_place e node) = absurd cc

  begins_of : (begins : Mark → Bool) (s : Mark) → IsBegun p (traced pr begins) s → begins s ≡ true
  begins_of begins s (inl h) = absurd (no_source s.place s h)
  begins_of begins s (inr e) = e

  pub label_origin : (begins : Mark → Bool) → BeginsWhereNothingLeads p pr begins → {n : ℕ} {x : State} → Run p (traced pr begins) n x → (s : Mark) (t k : ℕ) → LabelReaches p (traced pr begins) x s t k → (node : Node) × IsMarked p node s × IsOrigin p pr node t k
  label_origin begins first r s t k h =
      let a = arrives p wf (traced pr begins) r s t k h in
      let b = leads_nodes p (traced_back pr) a.joined.leads a.node in (
        b.0,
        b.1,
        record {
          first = (first s).0 (begins_of begins s a.joined.begun) b.0 b.1;
          end = a.end;
          argument = a.argument;
          to = b.2;
          is_to = b.3;
          joins = record { kinds = a.joined.kinds; calls = a.calls; leads = b.4; realizable = a.joined.realizable };
        },
      )
