-- An object that two goroutines touch escapes.
use Rattle.std.proofs.Common.{◌≡◌, ℕ, ◌+◌, false, List, [], ◌∷◌, length, Some, refl, sym, ◌∙◌, subst, inl, inr}
use Rattle.std.specs.Prelude.{◌⊎◌, ◌≢◌, slice_get}
use Rattle.argot_plain.specs.Lists.{In, here}
use Rattle.argot_plain.specs.Code.{Code, IsAt, Hands}
use Rattle.argot_plain.specs.Code as Handing
use Rattle.argot_plain.specs.Leak.{Enters, Touches}
use Rattle.argot_plain.specs.Leak as Entering
use Rattle.argot_plain.specs.WellFormed.{WellFormed}
use Rattle.argot_plain.specs.Machine.{Labelling, Ref, Object, Content, Cell, Frame, State, value_at}
use Rattle.argot_plain.specs.Nodes.{mark}
use Rattle.argot_plain.specs.Outside.{Reached}
use Rattle.argot_plain.specs.Step.{Run, handing}
use Rattle.argot_plain.specs.declared.instructions.Callee.{Callee}
use Rattle.argot_plain.specs.declared.instructions.Kind.{Kind}
use Rattle.argot_plain.specs.declared.instructions.Kind.TheVariants.{Read, Write, Grow, Call, Go, Goto}
use Rattle.argot_text.specs.declared.path.PathStep.{PathStep}
use Rattle.argot_facts.specs.Escapes.{Escapes}
use Rattle.argot_sound.specs.Laws.{Laws, IsOwned, in_record}
use Rattle.argot_sound.proofs.Given.{refers_of}
use Rattle.argot_sound.proofs.Handing.{call_hands}
use Rattle.argot_sound.proofs.Owned.{given_owned, go_owned}
use Rattle.argot_sound.proofs.Points.{points_to}
use Rattle.argot_sound.proofs.Puts.{In-value}
use Rattle.argot_sound.proofs.Reached.{reaches}
use Rattle.argot_sound.proofs.Runs.{runs}

module _ (p : Code) (wf : WellFormed p) (l : Labelling) where
  through_register : (x : State) (g : ℕ) (o : Object) (f : Frame) (rest : List Frame) (kind : Kind) (at : ℕ) (base : List PathStep) (y : Content) → Laws p l x → slice_get x.goroutines g ≡ Some (f ∷ rest) → f.panics ≡ false → IsAt p f.place kind → ((j : ℕ) → kind ≡ Goto j → ⊥)
      → In y (value_at at [] f.cells) → y.value ≡ Ref o base → Escapes p o.site ⊎ (o.maker ≡ g)
  through_register x g o f rest kind at base y laws get calm is inner m e =
      let gl = laws.goroutine g (f ∷ rest) get in
      (points_to p wf g f rest kind at o base gl.are_defined.0 gl.owned.0 calm is inner (refers_of at f.cells y o base (In-value at [] f.cells y m) e)).2

  read_inner : (to at : ℕ) (qs : List (List PathStep)) (j : ℕ) → Read to at qs ≡ Goto j → ⊥
  read_inner to at qs j e = cc

  write_inner : (at from : ℕ) (j : ℕ) → Write at from ≡ Goto j → ⊥
  write_inner at from j e = cc

  grow_inner : (to at : ℕ) (items : List ℕ) (j : ℕ) → Grow to at items ≡ Goto j → ⊥
  grow_inner to at items j e = cc

  -- what is handed on is this goroutine's, or escapes
  handed_owned : (x : State) (g n : ℕ) (f : Frame) (rest : List Frame) (kind : Kind) (callee : Callee) (args : List ℕ) (c : Cell) → Laws p l x → slice_get x.goroutines g ≡ Some (f ∷ rest) → f.panics ≡ false → IsAt p f.place kind → Hands kind callee args n → In c (handing p l f n callee args)
      → IsOwned p g (mark f.place (n + c.register) c.leaf) c.atom.value
  handed_owned x g n f rest kind callee args c laws get calm at hands m =
      let gl = laws.goroutine g (f ∷ rest) get in
      let hd = call_hands p wf l g x.slots f kind callee args n gl.covered.0.place at hands c m in
      subst (λ z. IsOwned p g z c.atom.value) hd.given.put
      (given_owned p wf l g f rest x.slots kind gl.are_defined.0 gl.covered.0 gl.owned.0 (λ y k. (laws.slot y k).owned) calm at (n + c.register) c.leaf c hd.given)

  entering_case : (x : State) (g t h n : ℕ) (cells : List Cell) (c : Cell) (o : Object) → Laws p l x → Enters p l x g t h n cells → In c cells → Reached x.slots c.atom.value o → Escapes p o.site ⊎ (o.maker ≡ g)
  entering_case x g t h n cells c o laws (Entering.by_call f rest to callee args takes get calm at is) m r =
      (reaches p wf g x.slots f.place (length to + c.register) c.leaf c.atom.value (λ y k. (laws.slot y k).owned) (handed_owned x g (length to) f rest (Call to callee args) callee args c laws get calm at Handing.by_call m) r).1
  entering_case x g t h n cells c o laws (Entering.by_go f rest callee args takes get calm at is) m r =
      (reaches p wf g x.slots f.place (0 + c.register) c.leaf c.atom.value (λ y k. (laws.slot y k).owned) (handed_owned x g 0 f rest (Go callee args) callee args c laws get calm at Handing.by_go m) r).1
  entering_case x g t h n cells c o laws (Entering.by_record f rest d ds takes get at records target) m r =
      let gl = laws.goroutine g (f ∷ rest) get in
      let w = gl.owned.0.each c (in_record d (subst (In d) (sym records) (here refl)) m) in
      (reaches p wf g x.slots c.atom.put.place c.atom.put.index c.atom.put.leaf c.atom.value (λ y k. (laws.slot y k).owned) w r).1

  pub touched : (x : State) (g : ℕ) (o : Object) → Laws p l x → Touches p l x g o → Escapes p o.site ⊎ (o.maker ≡ g)
  touched x g o laws (Entering.by_read f rest to at qs q base y get calm is m e among leaf) = through_register x g o f rest (Read to at qs) at base y laws get calm is (read_inner to at qs) m e
  touched x g o laws (Entering.by_write f rest at from q base y get calm is m e among leaf) = through_register x g o f rest (Write at from) at base y laws get calm is (write_inner at from) m e
  touched x g o laws (Entering.by_grow f rest to at items s site q base y get calm is sited m e among leaf) = through_register x g o f rest (Grow to at items) at base y laws get calm is (grow_inner to at items) m e
  touched x g o laws (Entering.by_grow_anew f rest to at items s site q get calm is sited among) = inr refl
  touched x g o laws (Entering.by_entering t h n k cells c enters looks within m same r) = entering_case x g t h n cells c o laws enters m r
  touched x g o laws (Entering.by_starting g' h k f rest callee args takes fn c get calm at is sink found inside within m same r) =
      let gl = laws.goroutine g' (f ∷ rest) get in
      let w = handed_owned x g' 0 f rest (Go callee args) callee args c laws get calm at Handing.by_go m in
      (reaches p wf (length x.goroutines) x.slots f.place (0 + c.register) c.leaf c.atom.value (λ y k. (laws.slot y k).owned)
      (go_owned p wf l g' (length x.goroutines) f rest callee args (0 + c.register) c.leaf (mark f.place (0 + c.register) c.leaf) c.atom.value gl.covered.0 at refl w) r).1

  both : (g h : ℕ) (o : Object) → g ≢ h → Escapes p o.site ⊎ (o.maker ≡ g) → Escapes p o.site ⊎ (o.maker ≡ h) → Escapes p o.site
  both g h o ne (inl e) b = e
  both g h o ne (inr a) (inl e) = e
  both g h o ne (inr a) (inr b) = absurd (ne (sym a ∙ b))

  pub shared : {n m : ℕ} {x y : State} → Run p l n x → Run p l m y → (g h : ℕ) (o : Object) → g ≢ h → Touches p l x g o → Touches p l y h o → Escapes p o.site
  shared {x = x} {y = y} r s g h o ne a b = both g h o ne (touched x g o (runs p wf l r) a) (touched y h o (runs p wf l s) b)
