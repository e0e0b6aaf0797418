-- The law of definitions: what stands in a register was put by a definition that reaches.
use Rattle.std.proofs.Common.{◌≡◌, ℕ, ◌<◌, Bool, true, false, List, [], Option, Some, None, refl, sym, ap, ◌∙◌, subst, inl, inr}
use Rattle.std.specs.Prelude.{◌⊎◌, ◌+◌, slice_get}
use Rattle.argot_plain.specs.Lists.{In, here, there, member}
use Rattle.argot_plain.specs.Code.{Code, IsAt, IsEntry, defined, Next, Defines, by_kind, by_entry, Successor, successor}
use Rattle.argot_plain.specs.WellFormed.{WellFormed}
use Rattle.argot_plain.specs.Machine.{Labelling, Cell, Slot, Frame, View}
use Rattle.argot_plain.specs.Nodes.{Mark, mark}
use Rattle.argot_plain.specs.declared.functions.Function.{Function}
use Rattle.argot_plain.specs.declared.instructions.Kind.{Kind}
use Rattle.argot_plain.specs.declared.instructions.Kind.TheVariants.{Call, Go, Defer, Goto}
use Rattle.argot_facts.specs.Reaching.{Reaches, next, on, DefinedAt}
use Rattle.argot_sound.specs.Effects.{Effect, put, store, enter, enter_record, start, keep, leave, leave_record, leave_last, move, unwind, unwind_drop, Puts, Keeps, Begins}
use Rattle.argot_sound.specs.Laws.{EachFrame, Stands, IsDefined, FrameDefined}
use Rattle.argot_sound.proofs.Lists.{member_at}

-- a frame that panics does not also stay calm
pub both_ways : {A : Type 0} (b : Bool) → b ≡ true → b ≡ false → A
both_ways b t f = absurd cc

module _ (p : Code) (wf : WellFormed p) where
  -- one instruction stands at a place
  pub same_kind : (i : ℕ) (a b : Kind) → IsAt p i a → IsAt p i b → a ≡ b
  same_kind i a b h g = let e = sym h ∙ g in cc

  -- a Goto stands at the first place of each function
  entry_case : (i g : ℕ) (e : IsEntry p i g) (o : Option Bool) → e.fn.external ≡ o → (j : ℕ) × IsAt p i (Goto j)
  entry_case i g e None x = (_, subst (λ n. IsAt p n (Goto (e.fn.entry + 1))) (sym e.at) (wf.entry_goto g e.fn e.is x))
  entry_case i g e (Some flows) x = (_, subst (λ n. IsAt p n (Goto e.fn.entry)) (sym e.at) (wf.externals g flows e.fn e.is x).goto)

  pub not_entry : (kind : Kind) (i : ℕ) → IsAt p i kind → ((j : ℕ) → kind ≡ Goto j → ⊥) → (g : ℕ) → IsEntry p i g → ⊥
  not_entry kind i at other g e = let b = entry_case i g e e.fn.external refl in other b.0 (same_kind i kind (Goto b.0) at b.1)

  reaching_no_entry : {d r i : ℕ} → (g : ℕ) → Reaches p d r i → IsEntry p i g → ⊥
  reaching_no_entry {d} {r} {i} g (next s) e = wf.no_entry d i g s e
  reaching_no_entry {d} {r} {i} g (on {i = m} h n s) e = wf.no_entry m i g s e

  not_defined : (kind : Kind) (d r i : ℕ) → IsAt p i kind → member r (defined kind) ≡ false → Reaches p d r i → (k : ℕ) → Defines p i k r → ⊥
  not_defined kind d r i at other h k (by_kind kind' at' is) =
      let e = same_kind i kind' kind at' at in
      let m = member_at (defined kind) k r (subst (λ (x : Kind). slice_get (defined x) k ≡ Some r) e is) in cc
  not_defined kind d r i at other h k (by_entry g e within same) = reaching_no_entry g h e

  -- what reaches i and isn't defined there reaches j
  stands_on : (kind : Kind) (d r i j : ℕ) → IsAt p i kind → Next kind i j → member r (defined kind) ≡ false → Stands p d r i → Reaches p d r j
  stands_on kind d r i j at onward other (inl h) = on h (not_defined kind d r i at other h) (successor kind at onward)
  stands_on kind d r i j at onward other (inr e) = next (subst (λ m. Successor p m j) (sym e.0) (successor kind at onward))

  kept_at : (kind : Kind) (f : Frame) (rest : List Frame) (j : ℕ) (c : Cell) → IsAt p f.place kind → Next kind f.place j → f.panics ≡ false → FrameDefined p f rest → Keeps kind f c → IsDefined p j c
  kept_at kind f rest j c at onward calm d h =
      let o = d.each calm c h.held in
      record { leaf = o.leaf; defines = o.defines; stands = inl (stands_on kind c.atom.put.place c.register f.place j at onward h.other o.stands) }

  -- a cell that stands at result k of an instruction that defines it
  put_at : (kind : Kind) (i j k : ℕ) (c : Cell) → IsAt p i kind → Next kind i j → slice_get (defined kind) k ≡ Some c.register → c.atom.put ≡ mark i k c.leaf → IsDefined p j c
  put_at kind i j k c at onward is mark_is =
      let D : Mark → Type 0 = λ n. Defines p n.place n.index c.register in
      let S : Mark → Type 0 = λ n. Stands p n.place c.register j in
      record {
        leaf = ap (λ (n : Mark). n.leaf) mark_is;
        defines = subst D (sym mark_is) (by_kind kind at is);
        stands = subst S (sym mark_is) (inl (next (successor kind at onward)));
      }

  -- a parameter
  param_at : (h : Frame) (fn : Function) (site : ℕ) (c : Cell) → Begins p h fn site → c.register < fn.params → c.atom.put ≡ mark fn.entry c.register c.leaf → IsDefined p h.place c
  param_at h fn site c b within mark_is =
      let e : IsEntry p fn.entry h.function = record { fn = fn; is = b.is; at = refl } in
      let D : Mark → Type 0 = λ n. Defines p n.place n.index c.register in
      subst (λ i. IsDefined p i c) (sym b.place) (record {
        leaf = ap (λ (n : Mark). n.leaf) mark_is;
        defines = subst D (sym mark_is) (by_entry h.function e within refl);
        stands = inr (ap (λ (n : Mark). n.place) mark_is, h.function, e);
      })

  -- the frame f as it stands at j, where the instruction defines nothing
  stays_at : (kind : Kind) (f h : Frame) (rest : List Frame) → IsAt p f.place kind → defined kind ≡ [] → Next kind f.place h.place → f.panics ≡ false → h.cells ≡ f.cells → FrameDefined p f rest → FrameDefined p h rest
  stays_at kind f h rest at none onward calm cells d = record {
    each = λ _ c m.
        kept_at kind f rest h.place c at onward calm d (record { held = subst (In c) cells m; other = ap (λ rs. member c.register rs) none });
  }

  same_place : (f h : Frame) (rest : List Frame) → h.panics ≡ f.panics → h.place ≡ f.place → h.cells ≡ f.cells → FrameDefined p f rest → FrameDefined p h rest
  same_place f h rest panics place cells d = record { each = λ calm c m. subst (λ i. IsDefined p i c) (sym place) (d.each (sym panics ∙ calm) c (subst (In c) cells m)) }

  module _ (l : Labelling) (g : ℕ) where
    put_defined : (kind : Kind) (ss : List Slot) (f h : Frame) (rest : List Frame) → IsAt p f.place kind → f.panics ≡ false → Next kind f.place h.place → ((c : Cell) → In c h.cells → Puts p l kind g ss f c ⊎ Keeps kind f c) → FrameDefined p f rest → FrameDefined p h rest
    put_defined kind ss f h rest at calm onward cells d = record {
      each = λ _ c m. elim (cells c m) [ inl a ↦ put_at kind f.place h.place a.index c at onward a.defines a.given.put | inr b ↦ kept_at kind f rest h.place c at onward calm d b ];
    }

    -- each step keeps it
    pub keeps_defined : {old new : View} {started : List (List Frame)} → Effect p l g old new started → EachFrame (FrameDefined p) old.frames → EachFrame (FrameDefined p) new.frames
    keeps_defined (put {ss = ss} {f = f} {h = h} {rest = rest} kind at calm onward same cells) d = (put_defined kind ss f h rest at calm onward cells d.0, d.1)
    keeps_defined (store {ss = ss} {f = f} {h = h} {rest = rest} kind at calm onward same cells slots) d = (put_defined kind ss f h rest at calm onward cells d.0, d.1)
    keeps_defined (enter {f = f} {h = h} {rest = rest} to args callee takes fn at calm is b hands cells) d =
        (record { each = λ _ c m. (let a = cells c m in param_at h fn f.place c b a.within a.put) }, d)
    keeps_defined (enter_record {f = f} {f' = f'} {h = h} {rest = rest} y takes fn at same place cells records target b again) d =
        (record { each = λ _ c m. (let a = again c m in param_at h fn y.place c b a.within a.put) }, (same_place f f' rest same.panics place cells d.0, d.1))
    keeps_defined (start {f = f} {f' = f'} {rest = rest} args callee takes fn at calm is onward same cells b hands again) d =
        (stays_at (Go callee args) f f' rest at refl onward calm cells d.0, d.1)
    keeps_defined (keep {f = f} {h = h} {rest = rest} args callee y at calm is onward same cells records place count all hands) d =
        (stays_at (Defer callee args) f h rest at refl onward calm cells d.0, d.1)
    keeps_defined (leave {f = f} {e = e} {h = h} {rest = rest} from to args callee at calm site below onward same hands cells) d = (
      record {
        each = λ calm' c m. elim (cells c m) [
          | inl a ↦ put_at (Call to callee args) e.place h.place a.index c below onward a.result a.put
          | inr b ↦ kept_at (Call to callee args) e rest h.place c below onward (sym same.same.panics ∙ calm') d.1.0 b
        ];
      },
      d.1.1,
    )
    keeps_defined (leave_record from at below) d = d.1
    keeps_defined leave_last d = tt
    keeps_defined (move {f = f} {h = h} {rest = rest} at same place cells records) d = (same_place f h rest same.panics place cells d.0, d.1)
    keeps_defined (unwind {f = f} {h = h} {rest = rest} b) d = (record { each = λ calm c m. both_ways h.panics b.panics calm }, d.1)
    keeps_defined (unwind_drop {f = f} {e = e} {h = h} {rest = rest} at b) d = (record { each = λ calm c m. both_ways h.panics b.panics calm }, d.1.1)

    pub starts_defined : {old new : View} {started : List (List Frame)} → Effect p l g old new started → (frames : List Frame) → In frames started → EachFrame (FrameDefined p) frames
    starts_defined (start {f = f} {f' = f'} {h = h} {rest = rest} args callee takes fn at calm is onward same cells b hands again) frames (here e) = subst (EachFrame (FrameDefined p)) (sym e)
        (record { each = λ _ c m. (let a = again c m in param_at h fn f.place c b a.within a.put) }, tt)
    starts_defined (start args callee takes fn at calm is onward same cells b hands again) frames (there m) = elim m [ ]
    starts_defined _ frames m = elim m [ ]

  -- what stands in a register where an instruction takes it: the definition that reaches
  pub taken_from : (f : Frame) (rest : List Frame) (c : Cell) → FrameDefined p f rest → f.panics ≡ false → ((g : ℕ) → IsEntry p f.place g → ⊥) → In c f.cells → DefinedAt p c.atom.put.place c.atom.put.index c.register f.place
  taken_from f rest c d calm inner m = let o = d.each calm c m in
      record { defines = o.defines; reaches = elim o.stands [ inl a ↦ a | inr b ↦ absurd (inner b.1 b.2) ] }
