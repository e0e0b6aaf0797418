-- What is handed on and handed back, over all targets.
use Rattle.std.proofs.Common.{◌≡◌, ◌<◌, ℕ, length, false, List, refl, sym, ap, ◌∙◌, subst}
use Rattle.argot_plain.specs.Code.{Code}
use Rattle.argot_plain.specs.Lists.{In}
use Rattle.argot_plain.specs.declared.problems.Problem.{Problem}
use Rattle.argot_facts.specs.Pointing.{Pointing}
use Rattle.argot_facts.specs.declared.graphs.Edge.{Edge}
use Rattle.argot_graph_edges.specs.Handing.{EntersAt, Entered, BackAt, HandedBack}
use Rattle.argot_graph_edges.specs.declared.handing.Value.{Value}

module _ (p : Code) (x : Pointing) (pr : Problem) (i : ℕ) (v : Value) (ts : List ℕ) (e : Edge) where
  pub entered_of : ((g : ℕ) → In g ts → In (i, g) x.targets) → ((g : ℕ) × In g ts × EntersAt p x i v g e) → Entered p x pr i v e
  entered_of listed h =
      let r = h.2 in
      record {
        from = r.is.from;
        to = r.is.to;
        is_from = r.is.is_from;
        is_to = r.is.is_to;
        row = record { target = h.0; listed = listed h.0 h.1; parameter = r.parameter; becomes = r.becomes; just = r.is.row };
      }

  pub entered_from : ((g : ℕ) → In (i, g) x.targets → In g ts) → Entered p x pr i v e → (g : ℕ) × In g ts × EntersAt p x i v g e
  entered_from listed r = (
    r.row.target,
    listed r.row.target r.row.listed,
    record {
      parameter = r.row.parameter;
      becomes = r.row.becomes;
      is = record { from = r.from; to = r.to; is_from = r.is_from; is_to = r.is_to; row = r.row.just };
    },
  )

  pub back_of : i < length p.instrs → ((g : ℕ) → In g ts → In (i, g) x.targets) → ((g : ℕ) × In g ts × BackAt p x pr i v g e) → HandedBack p x pr i v e
  back_of inside listed h =
      let r = h.2 in
      record {
        from = r.is.from;
        to = r.is.to;
        is_from = r.is.is_from;
        is_to = r.is.is_to;
        row = record { inside = inside; target = h.0; listed = listed h.0 h.1; passes = r.passes; value = r.value; back = r.back; just = r.is.row };
      }

  pub back_from : ((g : ℕ) → In (i, g) x.targets → In g ts) → HandedBack p x pr i v e → (g : ℕ) × In g ts × BackAt p x pr i v g e
  back_from listed r = (
    r.row.target,
    listed r.row.target r.row.listed,
    record {
      passes = r.row.passes;
      value = r.row.value;
      back = r.row.back;
      is = record { from = r.from; to = r.to; is_from = r.is_from; is_to = r.is_to; row = r.row.just };
    },
  )
