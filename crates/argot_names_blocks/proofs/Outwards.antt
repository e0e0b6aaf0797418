-- The last block that closes at a token or behind it is found by going outwards, and is the innermost one around the token.
use Rattle.std.proofs.Common.{◌≡◌, ℕ, zero, suc, ◌+◌, ◌-◌, ◌<◌, ◌≤◌, true, false, List, length, get_or, Option, Some, None, inl, inr, refl, sym, ap, ◌∙◌, subst, arith}
use Rattle.std.specs.Prelude.{leb, slice_get}
use Rattle.std.specs.List.Sorted.{IsNonDecreasingBy, IsPartitionPoint}
use Rattle.std.proofs.lemmas.Bool.{cases_eq, cases_lt, leb-true, leb-false}
use Rattle.std.proofs.lemmas.Option.{slice_get_within, get_or_from_slice_get}
use Rattle.argot_tree.specs.declared.tree.TreeNode.{TreeNode}
use Rattle.argot_names_rules.specs.Blocks.{IsAround}
use Rattle.argot_names_blocks.specs.declared.blocks.Block.{Block}
use Rattle.argot_names_blocks.specs.Blocks.{Stands, Ascend, AreBlocks, IsInnermostIn, ClosesBehind, IsLastTo, AreLinked, BeginBy}
use Rattle.argot_files.proofs.Listed.{some_is}
use Rattle.argot_names_blocks.proofs.Finding.{get_some}

-- one more than the number of a block, or none
abbrev pub height : Option ℕ → ℕ
height None = 0
height (Some k) = k + 1

-- one item stands at a number
pub one_there : (blocks : List Block) (k : ℕ) (a b : Block) → slice_get blocks k ≡ Some a → slice_get blocks k ≡ Some b → a ≡ b
one_there blocks k a b e f = some_is a b (sym e ∙ f)

module _ (blocks : List Block) (ascend : Ascend blocks) where
  -- a block's number is no greater than its first token
  pub rises : (k : ℕ) (b : Block) → slice_get blocks k ≡ Some b → k ≤ b.opens
  rises zero b e = omega arith
  rises (suc k) b e =
      let before = get_some blocks k (omega (arith, slice_get_within blocks (suc k) b e)) in
      let low = rises k before.0 before.1 in
      let less = ascend k (suc k) before.0 b (omega arith) before.1 e in
      omega (arith, low, less)

  -- a block that begins before another stands before it
  pub stands_before : (j k : ℕ) (a b : Block) → slice_get blocks j ≡ Some a → slice_get blocks k ≡ Some b → a.opens < b.opens → j < k
  stands_before j k a b e f l = elim (cases_lt j k) [
    | inl less ↦ less
    | inr more ↦ elim (cases_eq j k) [
      | inl same ↦
          let one : a ≡ b = one_there blocks k a b (subst (λ x. slice_get blocks x ≡ Some a) same e) f in
          let opens : a.opens ≡ b.opens = ap (λ (x : Block). x.opens) one in
          absurd (omega (arith, l, opens))
      | inr apart ↦ absurd (omega (arith, l, ascend k j b a (omega (arith, more, apart)) f e))
    ]
  ]

  -- and one that doesn't stand behind another begins no later
  pub no_later : (j k : ℕ) (a b : Block) → slice_get blocks j ≡ Some a → slice_get blocks k ≡ Some b → j ≤ k → a.opens ≤ b.opens
  no_later j k a b e f l = elim (cases_lt j k) [
    | inl less ↦
        let low = ascend j k a b less e f in
        omega (arith, low)
    | inr more ↦
        let same : j ≡ k = omega (arith, l, more) in
        let one : a ≡ b = one_there blocks k a b (subst (λ x. slice_get blocks x ≡ Some a) same e) f in
        let opens : a.opens ≡ b.opens = ap (λ (x : Block). x.opens) one in
        omega (arith, opens)
  ]

-- each of the first `count` blocks that closes at the token or behind it is this one or stands before it
pub record Bounds (blocks : List Block) (count token : ℕ) (at : Option ℕ) : Type 0 where
  pub there : (k : ℕ) → at ≡ Some k → k < count
  pub last : (k j : ℕ) → at ≡ Some k → j < count → ClosesBehind blocks token j → j ≤ k
  pub none : (j : ℕ) → at ≡ None → j < count → ClosesBehind blocks token j → ⊥

pub bounds_first : (blocks : List Block) (count token : ℕ) (at : Option ℕ) → (at ≡ None → count ≡ 0) → ((k : ℕ) → at ≡ Some k → k + 1 ≡ count) → Bounds blocks count token at
bounds_first blocks count token at none last =
    record {
      there = λ k e. omega (arith, last k e);
      last = λ k j e l c. omega (arith, last k e, l);
      none = λ j e l c. absurd (omega (arith, none e, l));
    }

module _ (blocks : List Block) (count token : ℕ) (linked : AreLinked blocks) (before : BeginBy blocks count token) where
  -- block k closes before the token, and so do those in it
  pub bounds_next : (at : Option ℕ) (k : ℕ) (b : Block) → Bounds blocks count token at → at ≡ Some k → slice_get blocks k ≡ Some b → b.closes < token → Bounds blocks count token b.outer
  bounds_next at k b h e there short =
      let outer = linked.outers k b there in
      record {
        there = λ o f. omega (arith, (outer.there o f).0, h.there k e);
        last = λ o j f l c. outer.last o j f (lower j l c) (wider j c);
        none = λ j f l c. outer.none j f (lower j l c) (wider j c);
      }
    where
      lower : (j : ℕ) → j < count → ClosesBehind blocks token j → j < k
      lower j l c = elim (cases_eq j k) [
        | inl same ↦
            let one : c.block ≡ b = one_there blocks k c.block b (subst (λ x. slice_get blocks x ≡ Some c.block) same c.there) there in
            absurd (omega (arith, short, subst (λ (x : Block). token ≤ x.closes) one c.to))
        | inr apart ↦ omega (arith, apart, h.last k j e l c)
      ]

      wider : (j : ℕ) → ClosesBehind blocks token j → ClosesBehind blocks b.opens j
      wider j c = record { block = c.block; there = c.there; to = omega (arith, c.to, before k b (h.there k e) there) }

  pub outer_lower : (k : ℕ) (b : Block) → slice_get blocks k ≡ Some b → height b.outer < k + 1
  outer_lower k b e = by b.outer refl
    where
      by : (o : Option ℕ) → b.outer ≡ o → height o < k + 1
      by None f = omega arith
      by (Some j) f = omega (arith, ((linked.outers k b e).there j f).0)

  pub bounds_found : (at : Option ℕ) (k : ℕ) (b : Block) → Bounds blocks count token at → at ≡ Some k → slice_get blocks k ≡ Some b → token ≤ b.closes → IsLastTo blocks count token (Some k)
  bounds_found at k b h e there to =
      record {
        there = λ j f.
            let same : k ≡ j = some_is k j f in
            subst (λ x. (x < count) × ClosesBehind blocks token x) same (h.there k e, record { block = b; there = there; to = to });
        last = λ j i f l c.
            let same : k ≡ j = some_is k j f in
            omega (arith, same, h.last k i e l c);
        none = λ j f l c. absurd (cc);
      }

  pub bounds_none : (at : Option ℕ) → Bounds blocks count token at → at ≡ None → IsLastTo blocks count token None
  bounds_none at h e =
      record {
        there = λ k f. absurd (cc);
        last = λ k j f l c. absurd (cc);
        none = λ j f l c. h.none j e l c;
      }

module _ (tree : List TreeNode) (blocks : List Block) (h : AreBlocks tree blocks) where
  -- a block before another that reaches to its first token is around that
  around : (j k : ℕ) (b : Block) → slice_get blocks k ≡ Some b → j < k → (c : ClosesBehind blocks b.opens j) → IsAround tree b.opens c.block.opens c.block.closes × (c.block.opens < b.opens)
  around j k b e l c =
      let low = h.ascend j k c.block b l c.there e in
      (record { block = h.sound j c.block c.there; from = omega (arith, low); to = c.to }, low)

  pub linked_of : AreLinked blocks
  linked_of = record { ascend = h.ascend; outers = outers }
    where
      outers : (k : ℕ) (b : Block) → slice_get blocks k ≡ Some b → IsLastTo blocks k b.opens b.outer
      outers k b e =
          let outer = h.outers k b e in
          record {
            there = λ o f.
                let w = outer.inside o f in
                (stands_before blocks h.ascend o k w.0 b w.1 e w.3, record { block = w.0; there = w.1; to = w.2.to });
            last = λ o j f l c.
                let w = outer.inside o f in
                let a = around j k b e l c in
                let high = outer.innermost o w.0 c.block.opens c.block.closes f w.1 a.0 a.1 in
                elim (cases_lt o j) [
                  | inl less ↦ absurd (omega (arith, high, h.ascend o j w.0 c.block less w.1 c.there))
                  | inr more ↦ more
                ];
            none = λ j f l c.
                let a = around j k b e l c in
                outer.outside c.block.opens c.block.closes f a.0 a.1;
          }

  -- the first `count` blocks begin at the token or before it, the others behind it
  pub innermost_is : (count token : ℕ) (result : Option ℕ) → BeginBy blocks count token → ((k : ℕ) (b : Block) → count ≤ k → slice_get blocks k ≡ Some b → token < b.opens) → IsLastTo blocks count token result → IsInnermostIn tree blocks token result
  innermost_is count token result before behind is =
      record {
        inside = λ k e.
            let w = is.there k e in
            let b = w.1.block in (
              b,
              w.1.there,
              record {
                around = record { block = h.sound k b w.1.there; from = before k b w.0 w.1.there; to = w.1.to };
                innermost = λ other end a.
                    let s = h.complete other end a.block in
                    let low = is.last k s.number e (early other end a s) (reaches other end a s) in
                    omega (arith, no_later blocks h.ascend s.number k s.block b s.there w.1.there low, s.begins);
              },
            );
        outside = λ e other end a.
            let s = h.complete other end a.block in
            is.none s.number e (early other end a s) (reaches other end a s);
      }
    where
      reaches : (other end : ℕ) → IsAround tree token other end → (s : Stands blocks other end) → ClosesBehind blocks token s.number
      reaches other end a s = record { block = s.block; there = s.there; to = omega (arith, a.to, s.ends) }

      early : (other end : ℕ) → IsAround tree token other end → (s : Stands blocks other end) → s.number < count
      early other end a s = elim (cases_lt s.number count) [
        | inl less ↦ less
        | inr more ↦ absurd (omega (arith, behind s.number s.block more s.there, s.begins, a.from))
      ]

-- the number of the last of these blocks is no greater than the token
pub number_fits : (blocks : List Block) (count token : ℕ) → count ≤ length blocks → AreLinked blocks → BeginBy blocks count token → count - 1 ≤ token
number_fits blocks zero token within linked before = omega arith
number_fits blocks (suc k) token within linked before =
    let last = get_some blocks k (omega arith) in
    let low = rises blocks linked.ascend k last.0 last.1 in
    let high = before k last.0 (omega arith) last.1 in
    omega (arith, low, high)

-- what the search asks of the list, and what it tells
pub in_order : (blocks : List Block) → Ascend blocks → IsNonDecreasingBy (λ (b : Block). b.opens) blocks
in_order blocks ascend i j d l within =
    let a = get_some blocks i (omega arith) in
    let b = get_some blocks j within in
    let low = no_later blocks ascend i j a.0 b.0 a.1 b.1 l in
    let first : get_or blocks i d ≡ a.0 = get_or_from_slice_get blocks i a.0 d a.1 in
    let second : get_or blocks j d ≡ b.0 = get_or_from_slice_get blocks j b.0 d b.1 in
    omega (arith, low, ap (λ (x : Block). x.opens) first, ap (λ (x : Block). x.opens) second)

module _ (blocks : List Block) (count token : ℕ) (point : IsPartitionPoint (λ (b : Block). leb b.opens token ≡ true) (λ (b : Block). leb b.opens token ≡ false) blocks count) where
  pub begin_by_point : BeginBy blocks count token
  begin_by_point k b l e =
      let here : get_or blocks k b ≡ b = get_or_from_slice_get blocks k b b e in
      let low = leb-true _ _ (point.0 k b (omega arith) l) in
      omega (arith, low, ap (λ (x : Block). x.opens) here)

  pub behind_point : (k : ℕ) (b : Block) → count ≤ k → slice_get blocks k ≡ Some b → token < b.opens
  behind_point k b l e =
      let here : get_or blocks k b ≡ b = get_or_from_slice_get blocks k b b e in
      let high = leb-false _ _ (point.1 k b l (slice_get_within blocks k b e)) in
      omega (arith, high, ap (λ (x : Block). x.opens) here)
