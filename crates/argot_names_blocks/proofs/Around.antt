-- The last block of a list that is around a token is the innermost one.
use Rattle.std.proofs.Common.{◌≡◌, ℕ, zero, suc, ◌<◌, ◌≤◌, Bool, true, false, List, [], ◌∷◌, Option, Some, None, inl, inr, refl, sym, ap, ◌∙◌, subst, arith}
use Rattle.std.specs.Prelude.{◌⊎◌, ◌&&◌, leb, slice_get}
use Rattle.std.proofs.lemmas.Bool.{cases_lt, le-leb, leb-true}
use Rattle.argot_tree.specs.declared.tree.TreeNode.{TreeNode}
use Rattle.argot_names_rules.specs.Blocks.{IsInnermost, IsOutside}
use Rattle.argot_names_blocks.specs.declared.blocks.Block.{Block}
use Rattle.argot_names_blocks.specs.declared.blocks.Span.{Span}
use Rattle.argot_names_blocks.specs.Blocks.{AreBlocks, IsInnermostIn, is_around, span_if, later, span_in}
use Rattle.argot_files.proofs.Listed.{some_is}
use Rattle.argot_names_blocks.proofs.Outwards.{no_later}

-- the tokens of a block
abbrev pub span_of : Block → Span
span_of b = record { opens = b.opens; closes = b.closes }

-- this block of the list is around the token, and none behind it is
pub record IsLastAround (blocks : List Block) (token : ℕ) (k : ℕ) (b : Block) : Type 0 where
  pub there : slice_get blocks k ≡ Some b
  pub from : b.opens ≤ token
  pub to : token ≤ b.closes
  pub last : (j : ℕ) (c : Block) → k < j → slice_get blocks j ≡ Some c → c.opens ≤ token → token ≤ c.closes → ⊥

-- none is
abbrev pub NoneAround : List Block → ℕ → Type 0
NoneAround blocks token = (j : ℕ) (c : Block) → slice_get blocks j ≡ Some c → c.opens ≤ token → token ≤ c.closes → ⊥

yes_around : (b : Block) (token : ℕ) → b.opens ≤ token → token ≤ b.closes → is_around b token ≡ true
yes_around b token from to = ap (λ x. x && leb token b.closes) (le-leb b.opens token from) ∙ le-leb token b.closes to

both_true : (x y : Bool) → (x && y) ≡ true → (x ≡ true) × (y ≡ true)
both_true true y e = (refl, e)
both_true false y e = absurd (cc)

around_yes : (b : Block) (token : ℕ) → is_around b token ≡ true → (b.opens ≤ token) × (token ≤ b.closes)
around_yes b token e =
    let both = both_true (leb b.opens token) (leb token b.closes) e in
    (leb-true b.opens token both.0, leb-true token b.closes both.1)

not_around : (b : Block) (token : ℕ) → (b.opens ≤ token → token ≤ b.closes → ⊥) → is_around b token ≡ false
not_around b token out = by (is_around b token) refl
  where
    by : (x : Bool) → is_around b token ≡ x → is_around b token ≡ false
    by true e =
        let in_it = around_yes b token e in
        absurd (out in_it.0 in_it.1)
    by false e = e

pub none_is : (blocks : List Block) (token : ℕ) → NoneAround blocks token → span_in blocks token ≡ None
none_is [] token h = refl
none_is (b ∷ blocks) token h =
    ap (λ x. later (span_if x b) (span_in blocks token)) (not_around b token (λ from to. h zero b refl from to))
    ∙ ap (λ x. later None x) (none_is blocks token (λ j c e from to. h (suc j) c e from to))

pub last_is : (blocks : List Block) (token k : ℕ) (b : Block) → IsLastAround blocks token k b → span_in blocks token ≡ Some (span_of b)
last_is [] token k b h =
    let there = h.there in
    absurd (cc)
last_is (a ∷ blocks) token zero b h =
    let one : a ≡ b = some_is a b h.there in
    let around : is_around a token ≡ true = subst (λ x. is_around x token ≡ true) (sym one) (yes_around b token h.from h.to) in
    let rest : span_in blocks token ≡ None = none_is blocks token (λ j c e from to. h.last (suc j) c (omega arith) e from to) in
    ap (λ x. later (span_if x a) (span_in blocks token)) around ∙ (ap (λ x. later (Some (span_of a)) x) rest ∙ ap (λ x. Some (span_of x)) one)
last_is (a ∷ blocks) token (suc k) b h =
    ap (λ x. later (span_if (is_around a token) a) x) (last_is blocks token k b (record { there = h.there; from = h.from; to = h.to; last = λ j c l e from to. h.last (suc j) c (omega (arith, l)) e from to }))

last_behind : (a : Block) (blocks : List Block) (token k : ℕ) (b : Block) → IsLastAround blocks token k b → IsLastAround (a ∷ blocks) token (suc k) b
last_behind a blocks token k b h = record { there = h.there; from = h.from; to = h.to; last = last }
  where
    last : (j : ℕ) (c : Block) → suc k < j → slice_get (a ∷ blocks) j ≡ Some c → c.opens ≤ token → token ≤ c.closes → ⊥
    last zero c l e from to = absurd (omega (arith, l))
    last (suc j) c l e from to = h.last j c (omega (arith, l)) e from to

last_first : (a : Block) (blocks : List Block) (token : ℕ) → a.opens ≤ token → token ≤ a.closes → NoneAround blocks token → IsLastAround (a ∷ blocks) token zero a
last_first a blocks token from to none = record { there = refl; from = from; to = to; last = last }
  where
    last : (j : ℕ) (c : Block) → zero < j → slice_get (a ∷ blocks) j ≡ Some c → c.opens ≤ token → token ≤ c.closes → ⊥
    last zero c l e low high = absurd (omega (arith, l))
    last (suc j) c l e low high = none j c e low high

none_more : (a : Block) (blocks : List Block) (token : ℕ) → (a.opens ≤ token → token ≤ a.closes → ⊥) → NoneAround blocks token → NoneAround (a ∷ blocks) token
none_more a blocks token out none zero c e from to =
    let one : a ≡ c = some_is a c e in
    out (subst (λ (x : Block). x.opens ≤ token) (sym one) from) (subst (λ (x : Block). token ≤ x.closes) (sym one) to)
none_more a blocks token out none (suc j) c e from to = none j c e from to

-- one is the last, or there is none
last_or : (blocks : List Block) (token : ℕ) → ((k : ℕ) × (b : Block) × IsLastAround blocks token k b) ⊎ NoneAround blocks token
last_or [] token = inr (λ j c e from to. absurd (cc))
last_or (a ∷ blocks) token = elim (last_or blocks token) [
  | inl w ↦ inl (suc w.0, w.1, last_behind a blocks token w.0 w.1 w.2)
  | inr none ↦ elim (cases_lt token a.opens) [
    | inl before ↦ inr (none_more a blocks token (λ from to. absurd (omega (arith, before, from))) none)
    | inr from ↦ elim (cases_lt a.closes token) [
      | inl behind ↦ inr (none_more a blocks token (λ low to. absurd (omega (arith, behind, to))) none)
      | inr to ↦ inl (zero, a, last_first a blocks token from to none)
    ]
  ]
]

module _ (tree : List TreeNode) (blocks : List Block) (h : AreBlocks tree blocks) where
  last_around : (token opens closes : ℕ) → (i : IsInnermost tree token opens closes) → (k : ℕ) (b : Block) → slice_get blocks k ≡ Some b → b.opens ≡ opens → b.closes ≡ closes → IsLastAround blocks token k b
  last_around token opens closes i k b there begins ends =
      record {
        there = there;
        from = omega (arith, begins, i.around.from);
        to = omega (arith, ends, i.around.to);
        last = λ j c l e from to.
            let low = i.innermost c.opens c.closes (record { block = h.sound j c e; from = from; to = to }) in
            omega (arith, low, begins, h.ascend k j b c l there e);
      }

  none_around : (token : ℕ) → IsOutside tree token → NoneAround blocks token
  none_around token out j c e from to = out c.opens c.closes (record { block = h.sound j c e; from = from; to = to })

  pub inside_is : (token opens closes : ℕ) → IsInnermost tree token opens closes → span_in blocks token ≡ Some (record { opens = opens; closes = closes })
  inside_is token opens closes i =
      let s = h.complete opens closes i.around.block in
      last_is blocks token s.number s.block (last_around token opens closes i s.number s.block s.there s.begins s.ends)
      ∙ (λ x. Some (record { opens = s.begins x; closes = s.ends x }))

  pub outside_is : (token : ℕ) → IsOutside tree token → span_in blocks token ≡ None
  outside_is token out = none_is blocks token (none_around token out)

  -- what is found by number is what the list has
  pub found_is : (token k : ℕ) (b : Block) (result : Option ℕ) → IsInnermostIn tree blocks token result → result ≡ Some k → slice_get blocks k ≡ Some b → Some (span_of b) ≡ span_in blocks token
  found_is token k b result is e there =
      let w = is.inside k e in
      let one : w.0 ≡ b = some_is w.0 b (sym w.1 ∙ there) in
      ap (λ x. Some (span_of x)) (sym one) ∙ sym (inside_is token w.0.opens w.0.closes w.2)

  innermost_of : (token k : ℕ) (b : Block) → IsLastAround blocks token k b → IsInnermost tree token b.opens b.closes
  innermost_of token k b l =
      record {
        around = record { block = h.sound k b l.there; from = l.from; to = l.to };
        innermost = λ other end a.
            let s = h.complete other end a.block in
            elim (cases_lt k s.number) [
              | inl behind ↦ absurd (l.last s.number s.block behind s.there (omega (arith, s.begins, a.from)) (omega (arith, s.ends, a.to)))
              | inr front ↦ omega (arith, s.begins, no_later blocks h.ascend s.number k s.block b s.there l.there front)
            ];
      }

  pub is_inside : (token : ℕ) (span : Span) → span_in blocks token ≡ Some span → IsInnermost tree token span.opens span.closes
  is_inside token span e = elim (last_or blocks token) [
    | inl w ↦
        let one : span_of w.1 ≡ span = some_is (span_of w.1) span (sym (last_is blocks token w.0 w.1 w.2) ∙ e) in
        subst (λ (x : Span). IsInnermost tree token x.opens x.closes) one (innermost_of token w.0 w.1 w.2)
    | inr none ↦
        let nothing = none_is blocks token none in
        absurd (cc)
  ]

  pub is_outside : (token : ℕ) → span_in blocks token ≡ None → IsOutside tree token
  is_outside token e opens closes a = elim (last_or blocks token) [
    | inl w ↦
        let some = last_is blocks token w.0 w.1 w.2 in
        absurd (cc)
    | inr none ↦
        let s = h.complete opens closes a.block in
        none s.number s.block s.there (omega (arith, s.begins, a.from)) (omega (arith, s.ends, a.to))
  ]
