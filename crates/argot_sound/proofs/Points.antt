-- What the laws say of the registers that an instruction reads.
use Rattle.std.proofs.Common.{Bool, ◌≡◌, ℕ, true, false, List, [], refl, ◌∙◌, subst}
use Rattle.std.specs.Prelude.{◌⊎◌}
use Rattle.argot_plain.specs.Lists.{In}
use Rattle.argot_plain.specs.Code.{Code, IsAt, Hands, by_call, by_go, by_defer}
use Rattle.argot_plain.specs.WellFormed.{WellFormed}
use Rattle.argot_plain.specs.Machine.{Datum, Object, Content, Found, Frame, is_path_of, is_leaf_of, value_at}
use Rattle.argot_plain.specs.Nodes.{Mark, mark}
use Rattle.argot_plain.specs.Outside.{Resolves, by_number, by_reference, by_nothing, Names, GoesBy, goes_by_value, goes_by_method}
use Rattle.argot_plain.specs.Outside as Named
use Rattle.argot_plain.specs.declared.instructions.Callee.{Callee}
use Rattle.argot_plain.specs.declared.instructions.Callee.TheVariants.{Value, Method}
use Rattle.argot_plain.specs.declared.instructions.Kind.{Kind}
use Rattle.argot_plain.specs.declared.instructions.Kind.TheVariants.{Goto}
use Rattle.argot_plain.specs.declared.problems.Problem.{Problem}
use Rattle.argot_text.specs.declared.path.PathStep.{PathStep}
use Rattle.argot_facts.specs.Copies.{Copies, Takes}
use Rattle.argot_facts.specs.Edges.{Writes}
use Rattle.argot_facts.specs.Edges as Drawn
use Rattle.argot_facts.specs.Escapes.{Escapes}
use Rattle.argot_facts.specs.Reaching.{DefinedAt}
use Rattle.argot_facts.specs.Refers.{Holds, Targets, NodeRefers, loc, IsLivePlace}
use Rattle.argot_facts.specs.Refers as Rules
use Rattle.argot_sound.specs.Effects.{RefersTo}
use Rattle.argot_sound.specs.Laws.{in_register, FrameDefined, FrameCovered, FrameOwned}
use Rattle.argot_sound.proofs.Defined.{not_entry, taken_from}
use Rattle.argot_sound.proofs.Given.{refers_of}
use Rattle.argot_sound.proofs.Lists.{or_right, leads_itself}
use Rattle.argot_sound.proofs.Puts.{In-value}

-- a leaf of a site is one of its paths
pub leaf_is_path : (p : Code) (s : ℕ) (q : List PathStep) → is_leaf_of p s q ≡ true → is_path_of p s q ≡ true
leaf_is_path p s q h = or_right _ _ (leads_itself q _ h)

-- a location that is written is one of its site
pub written_path : (p : Code) (n : Mark) (s : ℕ) (q : List PathStep) → Writes p n s q → is_path_of p s q ≡ true
written_path p n s q (Drawn.by_write d j at from live is def refers ok) = ok
written_path p n s q (Drawn.by_grow to at items live is refers ok) = ok

pub hands_inner : (kind : Kind) (callee : Callee) (args : List ℕ) (n : ℕ) → Hands kind callee args n → (j : ℕ) → kind ≡ Goto j → ⊥
hands_inner kind callee args n by_call j e = cc
hands_inner kind callee args n by_go j e = cc
hands_inner kind callee args n by_defer j e = cc

module _ (p : Code) (wf : WellFormed p) where
  pub copies_inner : (kind : Kind) (r : ℕ) (q : List PathStep) (k : ℕ) (q' : List PathStep) → Copies kind r q k q' → (j : ℕ) → kind ≡ Goto j → ⊥
  copies_inner kind r q k q' c j e = subst (λ (x : Kind). Copies x r q k q') e c

  pub takes_inner : (pr : Problem) (kind : Kind) (r : ℕ) (q : List PathStep) (k : ℕ) (q' : List PathStep) → Takes pr kind r q k q' → (j : ℕ) → kind ≡ Goto j → ⊥
  takes_inner pr kind r q k q' c j e = subst (λ (x : Kind). Takes pr x r q k q') e c

  pub live_place : (f : Frame) (rest : List Frame) → FrameCovered p f rest → IsLivePlace p f.place
  live_place f rest v = record { function = f.function; is_in = v.place; is_live = v.live }

  -- a register that an instruction goes by refers to the object's location
  pub points_to : (g : ℕ) (f : Frame) (rest : List Frame) (kind : Kind) (at : ℕ) (o : Object) (base : List PathStep) → FrameDefined p f rest → FrameOwned p g f rest → f.panics ≡ false → IsAt p f.place kind → ((j : ℕ) → kind ≡ Goto j → ⊥)
      → (t : RefersTo at f.cells o base)
      → DefinedAt p t.cell.atom.put.place t.cell.atom.put.index at f.place × Holds p (NodeRefers (mark t.cell.atom.put.place t.cell.atom.put.index []) (loc o.site base)) × (Escapes p o.site ⊎ (o.maker ≡ g))
  points_to g f rest kind at o base d w calm is inner t =
      let c = t.cell in
      let a = taken_from p wf f rest c d calm (not_entry p wf kind f.place is inner) t.held in
      let x = (w.each c (in_register t.held)).each o base t.value in (
        subst (λ r. DefinedAt p c.atom.put.place c.atom.put.index r f.place) t.register a,
        subst (λ q. Holds p (NodeRefers (mark c.atom.put.place c.atom.put.index q) (loc o.site base))) ((d.each calm c t.held).leaf ∙ t.leaf) x.0,
        x.1,
      )

  names_target : (g : ℕ) (f : Frame) (rest : List Frame) (kind : Kind) (callee : Callee) (args : List ℕ) (n r h : ℕ) (takes : Bool) (x : Content) (v : Datum) → FrameDefined p f rest → FrameCovered p f rest → FrameOwned p g f rest → f.panics ≡ false → IsAt p f.place kind → Hands kind callee args n
      → GoesBy callee r → In x (value_at r [] f.cells) → x.value ≡ v → Names p callee v h takes → Holds p (Targets f.place h takes)
  names_target g f rest kind callee args n r h takes x v d c w calm at hands goes_by_value m e (Named.by_value {o = o} {path = path} site fn is function isf env) =
      let t = refers_of r f.cells x o path (In-value r [] f.cells x m) e in
      let a = points_to g f rest kind r o path d w calm at (hands_inner kind (Value r) args n hands) t in
      Rules.target_value f.function n t.cell.atom.put.place t.cell.atom.put.index r o.site path kind args site fn c.place c.live at hands a.0 a.1 is function isf env
  names_target g f rest kind callee args n r h takes x v d c w calm at hands (goes_by_method {name = name}) m e (Named.by_method {o = o} {path = path} site is wrapper) =
      let t = refers_of r f.cells x o path (In-value r [] f.cells x m) e in
      let a = points_to g f rest kind r o path d w calm at (hands_inner kind (Method r name) args n hands) t in
      Rules.target_method f.function n t.cell.atom.put.place t.cell.atom.put.index r o.site name path kind args site c.place c.live at hands a.0 a.1 is wrapper

  -- what a callee means to the registers is a target of the place
  pub targets_of : (g : ℕ) (f : Frame) (rest : List Frame) (kind : Kind) (callee : Callee) (args : List ℕ) (n h : ℕ) (takes : Bool) → FrameDefined p f rest → FrameCovered p f rest → FrameOwned p g f rest → f.panics ≡ false → IsAt p f.place kind → Hands kind callee args n
      → Resolves p f.cells callee (Found h takes) → Holds p (Targets f.place h takes)
  targets_of g f rest kind callee args n h takes d c w calm at hands by_number = Rules.target_static f.function n kind args c.place c.live at hands
  targets_of g f rest kind callee args n h takes d c w calm at hands (by_reference r x by m names) = names_target g f rest kind callee args n r h takes x x.value d c w calm at hands by m refl names
