-- The blocks around a token, from the innermost outwards.
use Rattle.std.proofs.Common.{◌≡◌, ℕ, ◌+◌, ◌<◌, ◌≤◌, List, length, Option, Some, None, inl, inr, refl, sym, subst, arith}
use Rattle.std.specs.Prelude.{slice_get}
use Rattle.std.proofs.lemmas.Bool.{cases_eq}
use Rattle.std.proofs.lemmas.Option.{slice_get_within}
use Rattle.argot_names_rules.specs.Blocks.{IsAround}
use Rattle.argot_names_rules.proofs.Nesting.{blocks_nest}
use Rattle.argot_names_blocks.specs.declared.blocks.Block.{Block}
use Rattle.argot_names_blocks.specs.declared.binding.Binding.{Binding}
use Rattle.argot_names_blocks.specs.Blocks.{IsInnermostIn}
use Rattle.argot_names_blocks.specs.Binding.{manner_of}
use Rattle.argot_names_blocks.proofs.Outwards.{height, one_there, stands_before}
use Rattle.argot_names_scopes.specs.declared.file.FileNames.{FileNames}
use Rattle.argot_names_scopes.specs.Names.{AreNames}
use Rattle.argot_names_scopes.specs.Meant.{IsScoped, IsBest, IsBestFrom}
use Rattle.argot_names_scopes.proofs.Within.{comes_within}

module _ (n : FileNames) (token : ℕ) (name : List ℕ) where
  abbrev Scoped : ℕ → Binding → Type 0
  Scoped = IsScoped n.bytes.now n.tokens.now n.bindings.brought.items n.news.items token name

  -- block k
  abbrev pub At : ℕ → Block → Type 0
  At k s = slice_get n.bindings.blocks.items k ≡ Some s

  -- each declaration in scope is of this block, or of one around it
  pub record Reaches (at : Option ℕ) : Type 0 where
    pub there : (k : ℕ) → at ≡ Some k → (s : Block) × At k s × IsAround n.tree.now.nodes token s.opens s.closes
    pub within : (j k : ℕ) (b : Binding) (s : Block) → Scoped j b → at ≡ Some k → At k s → b.opens ≤ s.opens
    pub none : (j : ℕ) (b : Binding) → Scoped j b → at ≡ None → ⊥

module _ (n : FileNames) (names : AreNames n) (token : ℕ) (name : List ℕ) where
  abbrev Here : ℕ → Binding → Type 0
  Here = Scoped n token name

  abbrev blocks : List Block
  blocks = n.bindings.blocks.items

  -- the block of a declaration in scope is around the token
  around : (k : ℕ) (b : Binding) → Here k b → IsAround n.tree.now.nodes token b.opens b.closes
  around k b s =
      let w = comes_within n.tree.now names.spelled names.spells (manner_of b.manner) b.node b.token b.opens b.closes b.from (names.brings.brought.sound b (k, s.there)) in
      record { block = w.0; from = omega (arith, w.1, s.is.from); to = s.is.to }

  pub first_reaches : (at : Option ℕ) → IsInnermostIn n.tree.now.nodes blocks token at → Reaches n token name at
  first_reaches at h =
      record {
        there = λ k e.
            let w = h.inside k e in
            (w.0, w.1, w.2.around);
        within = λ j k b s c e f.
            let w = h.inside k e in
            subst (λ (x : Block). b.opens ≤ x.opens) (one_there blocks k w.0 s w.1 f) (w.2.innermost b.opens b.closes (around j b c));
        none = λ j b c e. h.outside e b.opens b.closes (around j b c);
      }

  -- the block at which the walk stands
  pub here_is : (at : Option ℕ) (k : ℕ) (s : Block) → Reaches n token name at → at ≡ Some k → At n token name k s → IsAround n.tree.now.nodes token s.opens s.closes
  here_is at k s h e f =
      let w = h.there k e in
      subst (λ (x : Block). IsAround n.tree.now.nodes token x.opens x.closes) (one_there blocks k w.0 s w.1 f) w.2

  pub in_list : (at : Option ℕ) (k : ℕ) → Reaches n token name at → at ≡ Some k → k < length blocks
  in_list at k h e =
      let w = h.there k e in
      slice_get_within blocks k w.0 w.1

  pub next_reaches : (at : Option ℕ) (k : ℕ) (s : Block) → Reaches n token name at → at ≡ Some k → At n token name k s → IsBestFrom n.bytes.now n.tokens.now n.bindings.brought.items n.news.items token name s.opens 0 None → Reaches n token name s.outer
  next_reaches at k s h e f nothing =
      let here = here_is at k s h e f in
      let outer = names.brings.blocks.outers k s f in
      record {
        there = λ o g.
            let w = outer.inside o g in
            let nest = blocks_nest n.tree.now names.spelled w.0.opens w.0.closes s.opens s.closes names.spells w.2.block here.block w.3 w.2.to in
            (w.0, w.1, record { block = w.2.block; from = omega (arith, w.3, here.from); to = omega (arith, nest, here.to) });
        within = λ j o b r c g i. outer.innermost o r b.opens b.closes g i (at_start j b c) (lower j b c);
        none = λ j b c g. outer.outside b.opens b.closes g (at_start j b c) (lower j b c);
      }
    where
      lower : (j : ℕ) (b : Binding) → Here j b → b.opens < s.opens
      lower j b c = elim (cases_eq b.opens s.opens) [
        | inl same ↦ absurd (nothing.none b j refl (omega arith) c same)
        | inr apart ↦ omega (arith, apart, h.within j k b s c e f)
      ]

      at_start : (j : ℕ) (b : Binding) → Here j b → IsAround n.tree.now.nodes s.opens b.opens b.closes
      at_start j b c =
          let a = around j b c in
          record { block = a.block; from = omega (arith, lower j b c); to = omega (arith, a.to, (here_is at k s h e f).from) }

  pub lowers : (at : Option ℕ) (k : ℕ) (s : Block) → at ≡ Some k → At n token name k s → height s.outer < height at
  lowers at k s e f =
      subst (λ x. height s.outer < height x) (sym e) (by s.outer refl)
    where
      by : (o : Option ℕ) → s.outer ≡ o → height o < k + 1
      by None g = omega arith
      by (Some o) g =
          let w = (names.brings.blocks.outers k s f).inside o g in
          omega (arith, stands_before blocks names.brings.blocks.ascend o k w.0 s w.1 f w.3)

  -- the block has it
  pub found_here : (at : Option ℕ) (k : ℕ) (s : Block) (b : Binding) → Reaches n token name at → at ≡ Some k → At n token name k s → IsBestFrom n.bytes.now n.tokens.now n.bindings.brought.items n.news.items token name s.opens 0 (Some b)
      → IsBest n.bytes.now n.tokens.now n.bindings.brought.items n.news.items token name (length n.bindings.brought.items) (Some b)
  found_here at k s b h e f found =
      record {
        there = λ a g.
            let w = found.there a g in
            (w.0, slice_get_within n.bindings.brought.items w.0 a w.1.there, w.1);
        best = λ a other j g l c.
            let w = found.there a g in
            elim (cases_eq other.opens s.opens) [
              | inl same ↦ found.best a other j g (omega arith) c same
              | inr apart ↦ inl (omega (arith, apart, h.within j k other s c e f, w.2))
            ];
        none = λ other j g l c. absurd (cc);
      }

  -- no block has it
  pub found_nowhere : (at : Option ℕ) → Reaches n token name at → at ≡ None → IsBest n.bytes.now n.tokens.now n.bindings.brought.items n.news.items token name (length n.bindings.brought.items) None
  found_nowhere at h e =
      record {
        there = λ a f. absurd (cc);
        best = λ a other k f l c. absurd (cc);
        none = λ other k f l c. h.none k other c e;
      }
