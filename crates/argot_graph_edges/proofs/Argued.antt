-- Resets to arguments: by the tables they are those of the definition.
use Rattle.std.proofs.Common.{◌≡◌, ℕ, zero, suc, ◌+◌, ◌<◌, ◌≤◌, true, false, Bool, List, [], ◌∷◌, ◌++◌, Option, Some, None, refl, sym, ap, ◌∙◌, subst, inl, inr, arith}
use Rattle.std.specs.Prelude.{◌⊎◌, slice_get, length}
use Rattle.argot_links.specs.Runs.{run}
use Rattle.argot_plain.specs.Code.{Code, IsAt, IsFunction, IsIn, Hands, by_call, by_go, by_defer, arguments, handed_values, kind_of, node_registers, takes_reference}
use Rattle.argot_plain.specs.Leak.{LooksInside}
use Rattle.argot_plain.specs.Lists.{In}
use Rattle.argot_plain.specs.Nodes.{Mark, mark, HasLeaf}
use Rattle.argot_plain.specs.WellFormed.{WellFormed}
use Rattle.argot_plain.specs.declared.functions.Function.{Function}
use Rattle.argot_plain.specs.declared.instructions.Callee.{Callee}
use Rattle.argot_plain.specs.declared.instructions.Callee.TheVariants.{Static, Value, Method}
use Rattle.argot_plain.specs.declared.instructions.Kind.{Kind}
use Rattle.argot_plain.specs.declared.instructions.Kind.TheVariants.{Call, Go, Defer}
use Rattle.argot_plain.specs.declared.problems.Problem.{Problem}
use Rattle.argot_text.specs.declared.path.PathStep.{PathStep}
use Rattle.argot_facts.specs.Edges.{WritesBy, MayMeetBy, ReachableBy, ReadAt, at_call, at_go, at_exit}
use Rattle.argot_facts.specs.Edges.MovesBy.{by_argument}
use Rattle.argot_facts.specs.Exact.{AreDefs, AreEscapingBy, AreFollowingBy, ReadsMemory}
use Rattle.argot_facts.specs.Exact.ReadsMemory.{by_call as reads_by_call, by_go as reads_by_go, at_exit as reads_at_exit}
use Rattle.argot_facts.specs.Graphs.{AreNodes, IsMarked, IsNumberedBy}
use Rattle.argot_facts.specs.Handed.{FactsOf, IsTakenAt}
use Rattle.argot_facts.specs.Numbers.{node, leaves_of, nodes_of}
use Rattle.argot_facts.specs.Pointing.{Pointing, FitsPoints, IsPlaceOf}
use Rattle.argot_facts.specs.Reaching.{DefinedAt}
use Rattle.argot_facts.specs.Refers.{Targets}
use Rattle.argot_facts.specs.declared.graphs.Edge.{Edge}
use Rattle.argot_facts.specs.declared.graphs.EdgeKind.TheVariants.{Reset}
use Rattle.argot_facts.specs.declared.nodes.Node.{Node}
use Rattle.argot_facts.specs.declared.pointing.Loc.{Loc}
use Rattle.argot_facts.proofs.Listed.{get_within, get_at, in_of_get}
use Rattle.argot_facts.proofs.Marked.{nodes_are}
use Rattle.argot_facts.proofs.Ordered.{same_node}
use Rattle.argot_facts.proofs.Placed.{one_function, place_in}
use Rattle.argot_escape.specs.Flooding.{FoundBy, IndexLeadsTo}
use Rattle.argot_points.proofs.Justified.{handed_register, get-front}
use Rattle.argot_points.proofs.LeafOf.{node_leaf}
use Rattle.argot_points_rules.specs.Column.{rules_of}
use Rattle.argot_graph_edges.specs.Accessing.{Written}
use Rattle.argot_graph_edges.specs.Inward.{reading, LooksIn, OfCall, OfFunctions}
use Rattle.argot_graph_edges.specs.Meeting.{MayMeetIn}
use Rattle.argot_graph_edges.specs.Whole.{RunsAre}
use Rattle.argot_graph_edges.specs.Rows.{IsCallAt}
use Rattle.argot_graph_edges.specs.declared.arguments.Writes.{Writes}
use Rattle.argot_graph_edges.proofs.Calling.{one_call, one_leaf, place_within}
use Rattle.argot_graph_edges.proofs.Resets.{meets_by, meets_in, write_memory}
use Rattle.argot_graph_edges.proofs.Writing.{is_location, written_is, write_is}

-- where handed values are read
pub read_at : (p : Code) (i h n : ℕ) (kind : Kind) (callee : Callee) (args : List ℕ) (fn : Function) → IsAt p i kind → Hands kind callee args n → IsIn p i h → IsFunction p h fn → ReadAt p i (reading (kind_of (slice_get p.instrs i)) i fn.exit)
read_at p i h n _ callee args fn at (by_call {to = to}) inside is = subst (λ v. ReadAt p i (reading v i fn.exit)) (sym at) (at_call to args callee at)
read_at p i h n _ callee args fn at by_go inside is = subst (λ v. ReadAt p i (reading v i fn.exit)) (sym at) (at_go args callee at)
read_at p i h n _ callee args fn at by_defer inside is = subst (λ v. ReadAt p i (reading v i fn.exit)) (sym at) (at_exit h args callee fn at inside is)

module _ (p : Code) (wf : WellFormed p) where
  pub reading_is : (i at h : ℕ) (inside : IsIn p i h) → ReadAt p i at → at ≡ reading (kind_of (slice_get p.instrs i)) i inside.fn.exit
  reading_is i _ h inside (at_call to args callee is) = sym (ap (λ v. reading v i inside.fn.exit) is)
  reading_is i _ h inside (at_go args callee is) = sym (ap (λ v. reading v i inside.fn.exit) is)
  reading_is i _ h inside (at_exit g args callee fn is own of) =
      let same = one_function p wf.ranges i g h own inside in
      let s : Some fn ≡ Some inside.fn = sym of ∙ ap (slice_get p.functions) same ∙ inside.is in
      let f : fn ≡ inside.fn = cc in
      ap (λ (w : Function). w.exit) f ∙ sym (ap (λ v. reading v i inside.fn.exit) is)

  pub reads_there : (i at n k : ℕ) (kind : Kind) (callee : Callee) (args : List ℕ) → IsAt p i kind → Hands kind callee args n → k < length (arguments callee args) → ReadAt p i at → ReadsMemory p at
  reads_there i _ n k kind callee args at hands l (at_call to args' callee' is) =
      let o = one_call p i callee callee' args args' n (length to) (record { kind = kind; at = at; hands = hands }) (record { kind = Call to callee' args'; at = is; hands = by_call }) in
      let l' = subst (λ xs. k < length (arguments callee' xs)) o.1 (subst (λ c. k < length (arguments c args)) o.0 l) in
      reads_by_call to args' callee' is (omega arith)
  reads_there i _ n k kind callee args at hands l (at_go args' callee' is) =
      let o = one_call p i callee callee' args args' n 0 (record { kind = kind; at = at; hands = hands }) (record { kind = Go callee' args'; at = is; hands = by_go }) in
      let l' = subst (λ xs. k < length (arguments callee' xs)) o.1 (subst (λ c. k < length (arguments c args)) o.0 l) in
      reads_by_go args' callee' is (omega arith)
  reads_there i _ n k kind callee args at hands l (at_exit h args' callee' fn is own of) = reads_at_exit i h args' callee' fn is own of refl

  -- an argument is a handed value
  argument_register : (callee : Callee) (args : List ℕ) (k : ℕ) → k < length (arguments callee args) → (r : ℕ) × (slice_get (handed_values callee args) k ≡ Some r)
  argument_register (Static h) args k l = get_at args k l
  argument_register (Value r) args k l = let x = get_at args k l in (x.0, get-front args (r ∷ []) k x.0 x.1)
  argument_register (Method r name) args k l = get_at (r ∷ args) k l

  -- its leaf with a path is one
  one_argument_leaf : (i n k a b : ℕ) (q : List PathStep) (kind : Kind) (callee : Callee) (args : List ℕ) → IsAt p i kind → Hands kind callee args n → k < length (arguments callee args) → HasLeaf p i (n + k) a q → HasLeaf p i (n + k) b q → a ≡ b
  one_argument_leaf i n k a b q kind callee args at hands l ha hb =
      let r = argument_register callee args k l in
      let reg = handed_register kind callee args n k r.0 hands r.1 in
      let e = wf.entry_function in
      let h = place_in p wf.ranges e.fn e.is i (place_within p i kind at) in
      let fn = h.1.fn in
      one_leaf p wf h.0 r.0 a b fn q h.1.is (node_leaf p wf h.0 fn h.1.is i (n + k) a r.0 q kind h.1 at reg ha) (node_leaf p wf h.0 fn h.1.is i (n + k) b r.0 q kind h.1 at reg hb)

module _ (p : Code) (x : Pointing) (wf : WellFormed p) (fits : FitsPoints p x) (pr : Problem) (W : Writes) (escaping : AreEscapingBy p (FactsOf p x) W.order.now.escaping.now) (following : AreFollowingBy p (FactsOf p x) W.order.now.control.now)
    (ds : List (ℕ × ℕ × ℕ)) (exact : AreDefs p ds) (ws : RunsAre (length x.locations) (Written x (rules_of p ds)) W.runs.now)
    (found_reachable : (i k s : ℕ) → FoundBy x (IndexLeadsTo x i k) s → ReachableBy p (FactsOf p x) i k s) (reachable_found : (i k s : ℕ) → ReachableBy p (FactsOf p x) i k s → FoundBy x (IndexLeadsTo x i k) s) where
  abbrev esc : List Bool
  esc = W.order.now.escaping.now

  abbrev ctl : List (ℕ × ℕ)
  ctl = W.order.now.control.now

  pub argument_is : (e : Edge) → OfFunctions p x pr W e → IsNumberedBy p (DefinedAt p) (FactsOf p x) pr x.nodes e.from e.kind e.to
  argument_is e (h, (i, inside, r)) =
      let c = r.call in
      let k = r.argument.0 in
      let low = r.argument.1 in
      let o = r.argument.2 in
      let s = o.site in
      let z = o.write.0 in
      let place = o.write.1 in
      let w = o.write.2.0 in
      let t = o.write.2.2 in
      let a = written_is p x wf fits ds exact z w place.location place.is ((ws z w (get_within x.locations z place.location place.is)).0 o.write.2.1) in
      let sa : Some t.write ≡ Some a.0 = sym t.is ∙ a.2 in
      let fa : t.write ≡ a.0 = cc in
      let pa : t.write.place ≡ a.1.place = ap (λ (v : Node). v.place) fa ∙ a.3.place in
      let at = reading (kind_of (slice_get p.instrs i)) i inside.fn.exit in
      let site : s < length p.sites = subst (λ v. v < length p.sites) place.site (is_location p x wf fits ds exact z place.location place.is).site in
      let may = meets_by p x wf fits pr esc ctl escaping following s a.1.place at site (subst (λ v. MayMeetIn esc ctl s v at) pa t.meet) in
      let writes = subst (λ v. WritesBy p (DefinedAt p) (FactsOf p x) a.1 v place.location.path) place.site a.4 in
      let m = ((nodes_are p wf).each (node i (r.behind + k) 0)).0 (subst (In (node i (r.behind + k) 0)) fits.nodes (in_of_get x.nodes o.number (node i (r.behind + k) 0) o.is)) in
      let leaf : HasLeaf p i (r.behind + k) 0 m.0.leaf = subst (λ v. HasLeaf p v (r.behind + k) 0 m.0.leaf) (sym m.1.place) (subst (λ v. HasLeaf p m.0.place v 0 m.0.leaf) (sym m.1.index) m.1.has) in
      let g = r.looks.0 in
      let f = get_at p.functions g (fits.callees i g r.looks.1) in
      let target : FactsOf p x (Targets i g (takes_reference r.callee f.0)) = (r.looks.1, record { kind = c.kind; callee = r.callee; args = r.args; behind = r.behind; fn = f.0; at = c.at; hands = c.hands; is = f.1; takes_it = refl }) in
      let row : IsNumberedBy p (DefinedAt p) (FactsOf p x) pr x.nodes w Reset o.number = record {
        from = a.0;
        to = node i (r.behind + k) 0;
        is_from = a.2;
        is_to = o.is;
        edge = record {
          from = a.1;
          to = mark i (r.behind + k) m.0.leaf;
          is_from = a.3;
          is_to = record { place = refl; index = refl; has = leaf };
          moves = by_argument k s g r.behind at (takes_reference r.callee f.0) place.location.path c.kind r.callee r.args c.at c.hands target r.looks.2 low leaf (found_reachable i (r.behind + k) s o.leads) writes
              (read_at p i h r.behind c.kind r.callee r.args inside.fn c.at c.hands inside inside.is) may;
        };
      } in
      subst (λ (v : Edge). IsNumberedBy p (DefinedAt p) (FactsOf p x) pr x.nodes v.from v.kind v.to) (sym t.edge) row

  pub is_argument : (m : Mark) (i k s target n at : ℕ) (q : List PathStep) (takes : Bool) (path : List PathStep) (kind : Kind) (callee : Callee) (args : List ℕ) → IsAt p i kind → Hands kind callee args n → FactsOf p x (Targets i target takes)
      → LooksInside p pr i target → k < length (arguments callee args) → HasLeaf p i (n + k) 0 q → ReachableBy p (FactsOf p x) i (n + k) s → WritesBy p (DefinedAt p) (FactsOf p x) m s path → ReadAt p i at → MayMeetBy p (FactsOf p x) s m.place at
      → (e : Edge) (a b : Node) → slice_get x.nodes e.from ≡ Some a → slice_get x.nodes e.to ≡ Some b → IsMarked p a m → IsMarked p b (mark i (n + k) q) → e.kind ≡ Reset → OfFunctions p x pr W e
  is_argument m i k s target n at q takes path kind callee args is hands listed looks low leaf reach wr read may e a b ga gb ma mb plain =
      let w = write_is p x wf fits ds exact m s path wr a e.from ma ga in
      let t = wf.entry_function in
      let own = place_in p wf.ranges t.fn t.is i (place_within p i kind is) in
      let h = own.0 in
      let inside = own.1 in
      let exit = inside.fn.exit in
      let here : at ≡ reading (kind_of (slice_get p.instrs i)) i exit = reading_is p wf i at h inside read in
      let zero' : b.leaf ≡ 0 = one_argument_leaf p wf i n k b.leaf 0 q kind callee args is hands low mb.has leaf in
      let same : b ≡ node i (n + k) 0 = same_node b (node i (n + k) 0) mb.place mb.index zero' in
      let bound = get_within x.locations w.0 w.1 w.2 in
      let site : s < length p.sites = subst (λ v. v < length p.sites) w.3 (is_location p x wf fits ds exact w.0 w.1 w.2).site in
      let meet = meets_in p x wf fits pr esc ctl escaping following s m.place at site (write_memory p x wf fits pr esc ctl escaping following m s path wr) (reads_there p wf i at n k kind callee args is hands low read) may in
      let meet' = subst (λ v. MayMeetIn esc ctl s v (reading (kind_of (slice_get p.instrs i)) i exit)) (sym ma.place) (subst (λ v. MayMeetIn esc ctl s m.place v) here meet) in (
        h,
        (
          i,
          inside,
          record {
            callee = callee;
            args = args;
            behind = n;
            call = record { kind = kind; at = is; hands = hands };
            looks = (target, listed.0, looks);
            argument = (
              k,
              low,
              record {
                number = e.to;
                is = gb ∙ ap Some same;
                site = s;
                leads = reachable_found i (n + k) s reach;
                write = (w.0, record { location = w.1; is = w.2; site = w.3 }, (e.from, (ws w.0 e.from bound).1 w.5, record { write = a; is = ga; meet = meet'; edge = ap (λ v. record { from = e.from; to = e.to; kind = v }) plain }));
              },
            );
          },
        ),
      )
