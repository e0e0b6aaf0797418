-- Resets through objects: by the tables they are those of the definition.
use Rattle.std.proofs.Common.{◌≡◌, ℕ, zero, suc, ◌+◌, ◌<◌, ◌≤◌, true, false, Bool, List, [], ◌∷◌, ◌++◌, Option, Some, None, refl, sym, ap, ◌∙◌, subst, inl, inr, arith}
use Rattle.std.specs.Prelude.{◌⊎◌, ◌↔◌, slice_get, length}
use Rattle.argot_links.specs.Runs.{run}
use Rattle.argot_plain.specs.Code.{Code, IsAt, IsFunction, IsIn, Hands, by_call, by_go, by_defer, arguments, handed_values, kind_of, node_registers, takes_reference}
use Rattle.argot_plain.specs.Leak.{LooksInside}
use Rattle.argot_plain.specs.Lists.{In}
use Rattle.argot_plain.specs.Nodes.{Mark, mark, HasLeaf, IsNode}
use Rattle.argot_plain.specs.WellFormed.{WellFormed}
use Rattle.argot_plain.specs.declared.functions.Function.{Function}
use Rattle.argot_plain.specs.declared.instructions.Callee.{Callee}
use Rattle.argot_plain.specs.declared.instructions.Callee.TheVariants.{Static, Value, Method}
use Rattle.argot_plain.specs.declared.instructions.Kind.{Kind}
use Rattle.argot_plain.specs.declared.instructions.Kind.TheVariants.{Write, Grow, Read, Call, Go, Defer}
use Rattle.argot_plain.specs.declared.problems.Problem.{Problem}
use Rattle.argot_text.specs.declared.path.PathStep.{PathStep}
use Rattle.argot_facts.specs.Edges.{WritesBy, IsReadBy, MayMeetBy, ReachableBy, ReadAt, at_call, at_go, at_exit}
use Rattle.argot_facts.specs.Edges.MovesBy.{by_object, by_argument}
use Rattle.argot_facts.specs.Edges.WritesBy.{by_write as put_by_write, by_grow as put_by_grow}
use Rattle.argot_facts.specs.Edges.IsReadBy.{by_read as got_by_read, by_grow as got_by_grow}
use Rattle.argot_facts.specs.Escapes.{EscapesBy}
use Rattle.argot_facts.specs.Exact.{AreDefs, AreEscapingBy, AreFollowingBy, WritesMemory, ReadsMemory}
use Rattle.argot_facts.specs.Exact.WritesMemory.{by_write as memory_by_write, by_grow as memory_by_grow}
use Rattle.argot_facts.specs.Exact.ReadsMemory.{by_read as reads_by_read, by_grow as reads_by_grow, by_call as reads_by_call, by_go as reads_by_go, at_exit as reads_at_exit}
use Rattle.argot_facts.specs.Follows.{FollowsBy}
use Rattle.argot_facts.specs.Graphs.{IsMarked, IsNumberedBy}
use Rattle.argot_facts.specs.Handed.{FactsOf}
use Rattle.argot_facts.specs.Marked.{IsSet}
use Rattle.argot_facts.specs.Numbers.{node, location}
use Rattle.argot_facts.specs.Pointing.{Pointing, FitsPoints}
use Rattle.argot_facts.specs.Reaching.{DefinedAt}
use Rattle.argot_facts.specs.declared.graphs.Edge.{Edge}
use Rattle.argot_facts.specs.declared.graphs.EdgeKind.TheVariants.{Reset}
use Rattle.argot_facts.specs.declared.nodes.Node.{Node}
use Rattle.argot_facts.specs.declared.pointing.Loc.{Loc}
use Rattle.argot_facts.proofs.Listed.{get_within}
use Rattle.argot_points_rules.specs.Column.{rules_of}
use Rattle.argot_graph_edges.specs.Accessing.{Written, Readable}
use Rattle.argot_graph_edges.specs.Whole.{RunsAre}
use Rattle.argot_graph_edges.specs.Meeting.{MayMeetIn, MeetOf, MeetsAtAll}
use Rattle.argot_facts.proofs.Located.{locations_are}
use Rattle.argot_graph_edges.proofs.Pairing.{same_location}
use Rattle.argot_graph_edges.proofs.Writing.{is_location, written_is, write_is}

module _ (p : Code) (x : Pointing) (wf : WellFormed p) (fits : FitsPoints p x) (pr : Problem) (esc : List Bool) (ctl : List (ℕ × ℕ)) (escaping : AreEscapingBy p (FactsOf p x) esc) (following : AreFollowingBy p (FactsOf p x) ctl) where
  -- an object that is known to meet
  pub meets_by : (s w i : ℕ) → s < length p.sites → MayMeetIn esc ctl s w i → MayMeetBy p (FactsOf p x) s w i
  meets_by s w i low (inl set) = inl ((escaping.each s low).0 set)
  meets_by s w i low (inr m) = inr ((following.each w i).0 m).follows

  pub meets_in : (s w i : ℕ) → s < length p.sites → WritesMemory p w → ReadsMemory p i → MayMeetBy p (FactsOf p x) s w i → MayMeetIn esc ctl s w i
  meets_in s w i low writes reads (inl e) = inl ((escaping.each s low).1 e)
  meets_in s w i low writes reads (inr f) = inr ((following.each w i).1 (record { writes = writes; reads = reads; follows = f }))

  pub write_memory : (m : Mark) (s : ℕ) (path : List PathStep) → WritesBy p (DefinedAt p) (FactsOf p x) m s path → WritesMemory p m.place
  write_memory _ s _ (put_by_write d j at from live is def refers ok) = memory_by_write at from is
  write_memory _ s _ (put_by_grow to at items live is refers ok) = memory_by_grow to at items is

  read_memory : (m : Mark) (s : ℕ) (path : List PathStep) → IsReadBy p (DefinedAt p) (FactsOf p x) m s path → ReadsMemory p m.place
  read_memory _ s _ (got_by_read d j to at qs live is def refers ok) = reads_by_read to at qs is
  read_memory _ s _ (got_by_grow d j to at items live is def refers ok) = reads_by_grow to at items is

  module _ (ds : List (ℕ × ℕ × ℕ)) (exact : AreDefs p ds) (writes reads : List (List ℕ)) (ws : RunsAre (length x.locations) (Written x (rules_of p ds)) writes) (rs : RunsAre (length x.locations) (Readable x (rules_of p ds)) reads)
      (readable_is : (z n : ℕ) (l : Loc) → slice_get x.locations z ≡ Some l → Readable x (rules_of p ds) (z, n) → (a : Node) × (m : Mark) × (slice_get x.nodes n ≡ Some a) × IsMarked p a m × IsReadBy p (DefinedAt p) (FactsOf p x) m l.site l.path)
      (read_is : (m : Mark) (s : ℕ) (path : List PathStep) → IsReadBy p (DefinedAt p) (FactsOf p x) m s path → (a : Node) (n : ℕ) → IsMarked p a m → slice_get x.nodes n ≡ Some a
      → (z : ℕ) × (l : Loc) × (slice_get x.locations z ≡ Some l) × (l.site ≡ s) × (l.path ≡ path) × Readable x (rules_of p ds) (z, n)) where
    pub object_is : (e : Edge) → MeetsAtAll x esc ctl writes reads e → IsNumberedBy p (DefinedAt p) (FactsOf p x) pr x.nodes e.from e.kind e.to
    object_is e (z, (l, g, (w, mw, (r, mr, meet)))) =
        let low = get_within x.locations z l g in
        let a = written_is p x wf fits ds exact z w l g ((ws z w low).0 mw) in
        let b = readable_is z r l g ((rs z r low).0 mr) in
        let sa : Some meet.write ≡ Some a.0 = sym meet.is_write ∙ a.2 in
        let sb : Some meet.read ≡ Some b.0 = sym meet.is_read ∙ b.2 in
        let fa : meet.write ≡ a.0 = cc in
        let fb : meet.read ≡ b.0 = cc in
        let pa : meet.write.place ≡ a.1.place = ap (λ (v : Node). v.place) fa ∙ a.3.place in
        let pb : meet.read.place ≡ b.1.place = ap (λ (v : Node). v.place) fb ∙ b.3.place in
        let may = subst (λ v. MayMeetIn esc ctl l.site v b.1.place) pa (subst (λ v. MayMeetIn esc ctl l.site meet.write.place v) pb meet.meet) in
        let row : IsNumberedBy p (DefinedAt p) (FactsOf p x) pr x.nodes w Reset r = record {
          from = a.0;
          to = b.0;
          is_from = a.2;
          is_to = b.2;
          edge = record {
            from = a.1;
            to = b.1;
            is_from = a.3;
            is_to = b.3;
            moves = by_object l.site l.path a.4 b.4 (meets_by l.site a.1.place b.1.place (is_location p x wf fits ds exact z l g).site may);
          };
        } in
        subst (λ (v : Edge). IsNumberedBy p (DefinedAt p) (FactsOf p x) pr x.nodes v.from v.kind v.to) (sym meet.edge) row

    pub is_object : (m n : Mark) (s : ℕ) (path : List PathStep) → WritesBy p (DefinedAt p) (FactsOf p x) m s path → IsReadBy p (DefinedAt p) (FactsOf p x) n s path → MayMeetBy p (FactsOf p x) s m.place n.place
        → (e : Edge) (a b : Node) → slice_get x.nodes e.from ≡ Some a → slice_get x.nodes e.to ≡ Some b → IsMarked p a m → IsMarked p b n → e.kind ≡ Reset → MeetsAtAll x esc ctl writes reads e
    is_object m n s path wr rd may e a b ga gb ma mb kind =
        let w = write_is p x wf fits ds exact m s path wr a e.from ma ga in
        let r = read_is n s path rd b e.to mb gb in
        let same : w.1 ≡ r.1 = same_location w.1 r.1 (w.3 ∙ sym r.3) (w.4 ∙ sym r.4) in
        let z : w.0 ≡ r.0 = (locations_are p).distinct w.0 r.0 w.1 (ap (λ ls. slice_get ls w.0) (sym fits.locations) ∙ w.2) (ap (λ ls. slice_get ls r.0) (sym fits.locations) ∙ (r.2 ∙ ap Some (sym same))) in
        let low = get_within x.locations w.0 w.1 w.2 in
        let site = (is_location p x wf fits ds exact w.0 w.1 w.2).site in
        let site' : s < length p.sites = subst (λ k. k < length p.sites) w.3 site in
        let may' = meets_in s m.place n.place site' (write_memory m s path wr) (read_memory n s path rd) may in
        let pa = subst (λ v. MayMeetIn esc ctl s v b.place) (sym ma.place) (subst (λ v. MayMeetIn esc ctl s m.place v) (sym mb.place) may') in (
          w.0,
          (
            w.1,
            w.2,
            (
              e.from,
              (ws w.0 e.from low).1 w.5,
              (
                e.to,
                (rs w.0 e.to low).1 (subst (λ k. Readable x (rules_of p ds) (k, e.to)) (sym z) r.5),
                record {
                  write = a;
                  read = b;
                  is_write = ga;
                  is_read = gb;
                  meet = subst (λ k. MayMeetIn esc ctl k a.place b.place) (sym w.3) pa;
                  edge = ap (λ k. record { from = e.from; to = e.to; kind = k }) kind;
                },
              ),
            ),
          ),
        )
