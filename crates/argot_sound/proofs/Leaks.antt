-- Each label that reaches a sink is joined to the argument.
use Rattle.std.proofs.Common.{◌≡◌, ℕ, ◌+◌, ◌<◌, Bool, true, false, List, [], ◌∷◌, length, Some, refl, sym, ap, ◌∙◌, subst, arith}
use Rattle.std.specs.Prelude.{◌⊎◌, slice_get}
use Rattle.argot_plain.specs.Lists.{In, here}
use Rattle.argot_plain.specs.Code.{Code, IsAt, IsFunction, IsIn, Hands, arguments}
use Rattle.argot_plain.specs.Code as Handing
use Rattle.argot_plain.specs.Counts.{is_sink}
use Rattle.argot_plain.specs.Leak.{Enters, LabelReaches, LooksInside, a_sink}
use Rattle.argot_plain.specs.Leak as Entering
use Rattle.argot_plain.specs.WellFormed.{WellFormed}
use Rattle.argot_plain.specs.Machine.{Labelling, Cell, Slot, Found, Deferred, Frame, State}
use Rattle.argot_plain.specs.Nodes.{Mark, mark, IsNode}
use Rattle.argot_plain.specs.declared.problems.Problem.{Problem}
use Rattle.argot_plain.specs.Outside.{Resolves, ArgumentBears, Bears, itself, inside}
use Rattle.argot_plain.specs.Step.{Run, handing}
use Rattle.argot_plain.specs.declared.instructions.Callee.{Callee}
use Rattle.argot_plain.specs.declared.instructions.Kind.{Kind}
use Rattle.argot_plain.specs.declared.instructions.Kind.TheVariants.{Call, Go, Defer, RunDefers}
use Rattle.argot_text.specs.declared.path.PathStep.{PathStep}
use Rattle.argot_facts.specs.declared.graphs.EdgeKind.{EdgeKind}
use Rattle.argot_facts.specs.declared.nodes.Node.{Node}
use Rattle.argot_facts.specs.Edges.{MarkEdge, ReadAt}
use Rattle.argot_facts.specs.Edges as Drawn
use Rattle.argot_facts.specs.Escapes.{Escapes}
use Rattle.argot_facts.specs.Flows.{IsArgument, is_argument}
use Rattle.argot_facts.specs.Follows.{Follows}
use Rattle.argot_facts.specs.Graphs.{IsMarked, IsEdge}
use Rattle.argot_facts.specs.Lists.{Leads, stay}
use Rattle.argot_facts.specs.Lists as Paths
use Rattle.argot_facts.specs.Refers.{Holds, Targets}
use Rattle.argot_sound.specs.Effects.{HandsOn}
use Rattle.argot_sound.specs.Laws.{Laws, IsOwned, IsJoined, IsJoinedWithin, SlotOwned, in_record, call_sites}
use Rattle.argot_sound.proofs.Handing.{call_hands}
use Rattle.argot_sound.proofs.Joined.{label_handed, joined_inside}
use Rattle.argot_sound.proofs.Owned.{given_owned}
use Rattle.argot_sound.proofs.Points.{targets_of}
use Rattle.argot_sound.proofs.Runs.{runs, meets}

-- the node of a mark
pub node_at : (p : Code) (m : Mark) → IsNode p m → (a : Node) × IsMarked p a m
node_at p m n = (record { place = m.place; index = m.index; leaf = n.number }, record { place = refl; index = refl; has = n.has })

-- edges between marks lead between their nodes
pub leads_nodes : (p : Code) (pr : Problem) {m n : Mark} {kinds : List EdgeKind} → Leads (MarkEdge p pr) m kinds n → IsNode p n
    → (a : Node) × IsMarked p a m × (b : Node) × IsMarked p b n × Leads (IsEdge p pr) a kinds b
leads_nodes p pr {m} {n} stay node = let x = node_at p n node in (x.0, x.1, x.0, x.1, stay)
leads_nodes p pr {m} (Paths.go {b = b} e rest) node =
    let x = leads_nodes p pr rest node in
    let y = node_at p m e.from in
    (y.0, y.1, x.2, x.3, Paths.go (record { from = m; to = b; is_from = y.1; is_to = x.1; moves = e.moves }) x.4)

module _ (p : Code) (wf : WellFormed p) (l : Labelling) where
  -- a label that an argument of the place t bears is joined to a node of it
  pub record Arrives (s : Mark) (t k : ℕ) : Type 0 where
    pub end : Mark
    pub node : IsNode p end
    pub argument : IsArgument p l.problem t k end
    pub calls : List ℕ
    pub joined : IsJoined p l s calls end

  -- by a Call or Go
  at_once : (x : State) (s : Mark) (g n h k : ℕ) (f : Frame) (rest : List Frame) (kind : Kind) (callee : Callee) (args : List ℕ) (takes : Bool) → Laws p l x → slice_get x.goroutines g ≡ Some (f ∷ rest) → f.panics ≡ false → IsAt p f.place kind → Hands kind callee args n
      → Resolves p f.cells callee (Found h takes) → ReadAt p f.place f.place → is_sink p l.problem f.place h ≡ true → k < length (arguments callee args) → ArgumentBears k (handing p l f n callee args) x.slots s → Arrives s f.place k
  at_once x s g n h k f rest kind callee args takes laws get calm at hands is read sink within b =
      let gl = laws.goroutine g (f ∷ rest) get in
      let d = gl.are_defined.0 in let v = gl.covered.0 in let w = gl.owned.0 in
      let so : (y : Slot) → In y x.slots → SlotOwned p y = λ y m. (laws.slot y m).owned in
      let sm : (y : Slot) → In y x.slots → y.object.maker ≡ g → Escapes p y.object.site ⊎ Follows p y.atom.put.place f.place = λ y m. meets p g x.goroutines (f ∷ rest) y get (laws.slot y m).ordered in
      let sj : (y : Slot) → In y x.slots → (z : Mark) → In z y.atom.labels → (calls : List ℕ) × IsJoined p l z calls y.atom.put = λ y m. (laws.slot y m).joined in
      let c = b.cell in
      let hd = call_hands p wf l g x.slots f kind callee args n v.place at hands c b.held in
      let targets = targets_of p wf g f rest kind callee args n h takes d v w calm at hands is in
      let inner : c.register < length (arguments callee args) = subst (λ z. z < length (arguments callee args)) (sym b.at) within in
      let arg : (q : List PathStep) → IsArgument p l.problem f.place c.register (mark f.place (n + c.register) q) = λ q. is_argument kind callee args n h takes at hands targets sink inner in
      let ow = subst (λ m. IsOwned p g m c.atom.value) hd.given.put (given_owned p wf l g f rest x.slots kind d v w so calm at (n + c.register) c.leaf c hd.given) in
      subst (Arrives s f.place) b.at (bears_case c hd targets inner arg ow so sm sj (λ i. label_handed p wf l g f rest x.slots kind d v w so sm sj gl.joined.0 calm at n c hd s i) b.bears)
    where
      bears_case : (c : Cell) (hd : HandsOn p l kind g x.slots f n c) → Holds p (Targets f.place h takes) → c.register < length (arguments callee args) → ((q : List PathStep) → IsArgument p l.problem f.place c.register (mark f.place (n + c.register) q)) → IsOwned p g (mark f.place (n + c.register) c.leaf) c.atom.value
          → ((y : Slot) → In y x.slots → SlotOwned p y) → ((y : Slot) → In y x.slots → y.object.maker ≡ g → Escapes p y.object.site ⊎ Follows p y.atom.put.place f.place) → ((y : Slot) → In y x.slots → (z : Mark) → In z y.atom.labels → (calls : List ℕ) × IsJoined p l z calls y.atom.put)
          → (In s c.atom.labels → IsJoinedWithin p l s (call_sites f rest) (mark f.place (n + c.register) c.leaf)) → Bears x.slots c.atom s → Arrives s f.place c.register
      bears_case c hd targets inner arg ow so sm sj own (itself i) = let j = own i in record { end = mark f.place (n + c.register) c.leaf; node = hd.given.node; argument = arg c.leaf; calls = j.calls; joined = j.joined }
      bears_case c hd targets inner arg ow so sm sj own (inside o slot r m same i) =
          let y = joined_inside p wf l g x.slots f.place n c.register h f.place takes kind callee args c.leaf c.atom.value o slot s [] so sm sj at hands targets (a_sink sink) inner read ow r m same i in
          record { end = mark f.place (n + c.register) y.0; node = y.1; argument = arg y.0; calls = y.2.calls; joined = y.2.joined }

  -- by a record at an exit
  at_exit : (x : State) (s : Mark) (g h k : ℕ) (f : Frame) (rest : List Frame) (d : Deferred) (takes : Bool) → Laws p l x → slice_get x.goroutines g ≡ Some (f ∷ rest) → IsAt p f.place RunDefers → In d f.records → d.target ≡ Found h takes
      → is_sink p l.problem d.place h ≡ true → k < d.count → ArgumentBears k d.cells x.slots s → Arrives s d.place k
  at_exit x s g h k f rest d takes laws get at md target sink within b =
      let gl = laws.goroutine g (f ∷ rest) get in
      let v = gl.covered.0 in
      let rc = v.records d md in
      let c = b.cell in
      let z : c.register ≡ 0 + c.register = omega arith in
      let mark_is : c.atom.put ≡ mark d.place (0 + c.register) c.leaf = rc.each c b.held ∙ ap (λ k. mark d.place k c.leaf) z in
      let count = rc.count in
      let reg = b.at in
      let inner : c.register < length (arguments rc.callee rc.args) = omega arith in
      let targets = rc.targets h takes target in
      let arg : (q : List PathStep) → IsArgument p l.problem d.place c.register (mark d.place (0 + c.register) q) = λ q. is_argument (Defer rc.callee rc.args) rc.callee rc.args 0 h takes rc.is Handing.by_defer targets sink inner in
      let ow = subst (λ m. IsOwned p g m c.atom.value) mark_is (gl.owned.0.each c (in_record d md b.held)) in
      subst (Arrives s d.place) b.at (bears_case c rc.callee rc.args rc.is targets inner arg ow
      (Drawn.at_exit f.function rc.args rc.callee v.place.fn rc.is rc.place v.place.is) (sym (wf.runs_at_exit.alone f.place f.function v.place.fn at v.place v.place.is))
      (λ i. subst (IsJoinedWithin p l s (call_sites f rest)) mark_is (gl.joined.0.each c (in_record d md b.held) s i)) b.bears)
    where
      bears_case : (c : Cell) (callee : Callee) (args : List ℕ) → IsAt p d.place (Defer callee args) → Holds p (Targets d.place h takes) → c.register < length (arguments callee args) → ((q : List PathStep) → IsArgument p l.problem d.place c.register (mark d.place (0 + c.register) q)) → IsOwned p g (mark d.place (0 + c.register) c.leaf) c.atom.value
          → {i : ℕ} → ReadAt p d.place i → i ≡ f.place → (In s c.atom.labels → IsJoinedWithin p l s (call_sites f rest) (mark d.place (0 + c.register) c.leaf)) → Bears x.slots c.atom s → Arrives s d.place c.register
      bears_case c callee args is targets inner arg ow read here_is own (itself i) = let j = own i in record { end = mark d.place (0 + c.register) c.leaf; node = ow.node; argument = arg c.leaf; calls = j.calls; joined = j.joined }
      bears_case c callee args is targets inner arg ow read here_is own (inside o slot r m same i) =
          let y = joined_inside p wf l g x.slots d.place 0 c.register h f.place takes (Defer callee args) callee args c.leaf c.atom.value o slot s [] (λ y m. (laws.slot y m).owned) (λ y m. meets p g x.goroutines (f ∷ rest) y get (laws.slot y m).ordered) (λ y m. (laws.slot y m).joined)
          is Handing.by_defer targets (a_sink sink) inner (subst (ReadAt p d.place) here_is read) ow r m same i in
          record { end = mark d.place (0 + c.register) y.0; node = y.1; argument = arg y.0; calls = y.2.calls; joined = y.2.joined }

  enters_case : (x : State) (s : Mark) (g t h n k : ℕ) (cells : List Cell) → Laws p l x → Enters p l x g t h n cells → is_sink p l.problem t h ≡ true → k < n → ArgumentBears k cells x.slots s → Arrives s t k
  enters_case x s g t h n k cells laws (Entering.by_call f rest to callee args takes get calm at is) sink within b = at_once x s g (length to) h k f rest (Call to callee args) callee args takes laws get calm at Handing.by_call is (Drawn.at_call to args callee at) sink within b
  enters_case x s g t h n k cells laws (Entering.by_go f rest callee args takes get calm at is) sink within b = at_once x s g 0 h k f rest (Go callee args) callee args takes laws get calm at Handing.by_go is (Drawn.at_go args callee at) sink within b
  enters_case x s g t h n k cells laws (Entering.by_record f rest d ds takes get at records target) sink within b = at_exit x s g h k f rest d takes laws get at (subst (In d) (sym records) (here refl)) target sink within b

  pub arrives : {n : ℕ} {x : State} → Run p l n x → (s : Mark) (t k : ℕ) → LabelReaches p l x s t k → Arrives s t k
  arrives {x = x} r s t k h = enters_case x s h.goroutine t h.sink h.count k h.cells (runs p wf l r) h.enters h.is_one h.within h.bears
