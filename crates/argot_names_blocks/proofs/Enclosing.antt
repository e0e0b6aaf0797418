-- The list of blocks grows by one node after the other.
use Rattle.std.proofs.Common.{◌≡◌, ℕ, ◌+◌, ◌<◌, ◌≤◌, List, [], ◌∷◌, ◌++◌, length, true, false, Option, Some, inl, inr, refl, sym, ap, ◌∙◌, subst, arith}
use Rattle.std.specs.Prelude.{slice_get}
use Rattle.std.proofs.lemmas.Bool.{cases_eq}
use Rattle.std.proofs.lemmas.Option.{slice_get_within}
use Rattle.argot_tree.specs.declared.tree.TreeNode.{TreeNode}
use Rattle.argot_names_rules.specs.Nodes.{IsOf}
use Rattle.argot_names_rules.specs.Blocks.{is_block, IsAround}
use Rattle.argot_names_blocks.specs.declared.blocks.Block.{Block}
use Rattle.argot_files.specs.Forms.{IsFormed}
use Rattle.argot_names_blocks.specs.Blocks.{Stands, IsOuter, AreBlocks, ClosesBehind, IsLastTo, AreLinked, BeginBy, IsBlockBefore, AreBlocksUpTo}
use Rattle.argot_names_blocks.proofs.Growing.{get_left, get_end, in_more}
use Rattle.argot_files.proofs.Listed.{some_is}
use Rattle.argot_names_blocks.proofs.Outwards.{stands_before, no_later}

-- the node of a block
abbrev node_of : {tree : List TreeNode} {node a b : ℕ} → IsOf tree node is_block a b → TreeNode
node_of {tree} {node} {a} {b} h = record { kind = h.kind; token = a; last = b; first = h.spans.first; next = h.spans.next }

same_node : (tree : List TreeNode) (k opens closes : ℕ) (n : TreeNode) → (b : IsBlockBefore tree (k + 1) opens closes) → b.node ≡ k → slice_get tree k ≡ Some n → node_of b.is ≡ n
same_node tree k opens closes n b same e =
    some_is (node_of b.is) n (sym b.is.spans.there ∙ subst (λ x. slice_get tree x ≡ Some n) (sym same) e)

further : (tree : List TreeNode) (k opens closes : ℕ) → IsBlockBefore tree k opens closes → IsBlockBefore tree (k + 1) opens closes
further tree k opens closes b = record { node = b.node; before = omega (arith, b.before); is = b.is }

nearer : (tree : List TreeNode) (k opens closes : ℕ) → (b : IsBlockBefore tree (k + 1) opens closes) → (b.node ≡ k → ⊥) → IsBlockBefore tree k opens closes
nearer tree k opens closes b apart =
    let other : b.node < k = omega (arith, b.before, apart) in
    record { node = b.node; before = other; is = b.is }

pub no_blocks : (tree : List TreeNode) → AreBlocksUpTo tree 0 []
no_blocks tree =
    record {
      sound = λ j b e. absurd (cc);
      complete = λ opens closes b. absurd (omega (arith, b.before));
      linked = record { ascend = λ j k a b l e f. absurd (cc); outers = λ k b e. absurd (cc) };
    }

-- node k is no block
pub passes_by : (tree : List TreeNode) (k : ℕ) (n : TreeNode) (blocks : List Block) → AreBlocksUpTo tree k blocks → slice_get tree k ≡ Some n → is_block n.kind ≡ false → AreBlocksUpTo tree (k + 1) blocks
passes_by tree k n blocks h e none =
    record {
      sound = λ j b f. further tree k b.opens b.closes (h.sound j b f);
      complete = λ opens closes b. elim (cases_eq b.node k) [
        | inl same ↦
            let one = same_node tree k opens closes n b same e in
            let yes : is_block n.kind ≡ true = subst (λ m. is_block m.kind ≡ true) one b.is.passes in
            absurd (cc)
        | inr apart ↦ h.complete opens closes (nearer tree k opens closes b apart)
      ];
      linked = h.linked;
    }

-- all blocks so far begin before node k
pub begin_before : (tree : List TreeNode) (k : ℕ) (n : TreeNode) (blocks : List Block) → IsFormed tree → AreBlocksUpTo tree k blocks → slice_get tree k ≡ Some n → (j : ℕ) (b : Block) → slice_get blocks j ≡ Some b → b.opens < n.token
begin_before tree k n blocks formed h e j b f =
    let w = h.sound j b f in
    formed.apart w.node k (node_of w.is) n w.before w.is.spans.there e w.is.passes

pub begin_by : (tree : List TreeNode) (k : ℕ) (n : TreeNode) (blocks : List Block) → IsFormed tree → AreBlocksUpTo tree k blocks → slice_get tree k ≡ Some n → BeginBy blocks (length blocks) n.token
begin_by tree k n blocks formed h e j b l f = omega (arith, begin_before tree k n blocks formed h e j b f)

-- the blocks so far stand in the longer list as they stand in this one
module _ (blocks : List Block) (new : Block) where
  abbrev more : List Block
  more = blocks ++ new ∷ []

  kept : (k : ℕ) (b : Block) → slice_get blocks k ≡ Some b → slice_get more k ≡ Some b
  kept k b e = get_left blocks (new ∷ []) k (slice_get_within blocks k b e) ∙ e

  closes_still : (token k : ℕ) → ClosesBehind blocks token k → ClosesBehind more token k
  closes_still token k c = record { block = c.block; there = kept k c.block c.there; to = c.to }

  closed_before : (token k : ℕ) → k < length blocks → ClosesBehind more token k → ClosesBehind blocks token k
  closed_before token k l c = record { block = c.block; there = sym (get_left blocks (new ∷ []) k l) ∙ c.there; to = c.to }

  last_still : (count token : ℕ) (result : Option ℕ) → count ≤ length blocks → IsLastTo blocks count token result → IsLastTo more count token result
  last_still count token result long h =
      record {
        there = λ k e.
            let w = h.there k e in
            (w.0, closes_still token k w.1);
        last = λ k j e l c. h.last k j e l (closed_before token j (omega (arith, l, long)) c);
        none = λ j e l c. h.none j e l (closed_before token j (omega (arith, l, long)) c);
      }

  pub links_on : AreLinked blocks → ((j : ℕ) (b : Block) → slice_get blocks j ≡ Some b → b.opens < new.opens) → IsLastTo blocks (length blocks) new.opens new.outer → AreLinked more
  links_on h low is =
      record {
        ascend = λ j k a b l e f. elim (in_more blocks new k b f) [
          | inl front ↦ h.ascend j k a b l (sym (get_left blocks (new ∷ []) j (omega (arith, l, front.0))) ∙ e) front.1
          | inr back ↦
              let here : slice_get blocks j ≡ Some a = sym (get_left blocks (new ∷ []) j (omega (arith, l, back.0))) ∙ e in
              subst (λ (x : Block). a.opens < x.opens) (sym back.1) (low j a here)
        ];
        outers = λ k b e. elim (in_more blocks new k b e) [
          | inl front ↦
              let long : k ≤ length blocks = omega (arith, front.0) in
              last_still k b.opens b.outer long (h.outers k b front.1)
          | inr back ↦
              let same : IsLastTo more (length blocks) new.opens new.outer = last_still (length blocks) new.opens new.outer (omega arith) is in
              subst (λ x. IsLastTo more x b.opens b.outer) (sym back.0) (subst (λ (x : Block). IsLastTo more (length blocks) x.opens x.outer) (sym back.1) same)
        ];
      }

  pub stands_still : (opens closes : ℕ) → Stands blocks opens closes → Stands more opens closes
  stands_still opens closes s = record { number = s.number; block = s.block; there = kept s.number s.block s.there; begins = s.begins; ends = s.ends }

  pub stands_last : Stands more new.opens new.closes
  stands_last = record { number = length blocks; block = new; there = get_end blocks new (length blocks) refl; begins = refl; ends = refl }

-- node k is a block, and is put at the end
pub encloses : (tree : List TreeNode) (k : ℕ) (n : TreeNode) (blocks : List Block) (new : Block) → IsFormed tree → AreBlocksUpTo tree k blocks → slice_get tree k ≡ Some n → is_block n.kind ≡ true → new.opens ≡ n.token → new.closes ≡ n.last → IsLastTo blocks (length blocks) new.opens new.outer → AreBlocksUpTo tree (k + 1) (blocks ++ new ∷ [])
encloses tree k n blocks new formed h e full opens_is closes_is outer =
    record {
      sound = λ j b f. elim (in_more blocks new j b f) [
        | inl front ↦ further tree k b.opens b.closes (h.sound j b front.1)
        | inr back ↦ subst (λ (x : Block). IsBlockBefore tree (k + 1) x.opens x.closes) (sym back.1) own
      ];
      complete = λ opens closes b. elim (cases_eq b.node k) [
        | inl same ↦
            let one = same_node tree k opens closes n b same e in
            let begins : new.opens ≡ opens = opens_is ∙ sym (ap (λ (x : TreeNode). x.token) one) in
            let ends : new.closes ≡ closes = closes_is ∙ sym (ap (λ (x : TreeNode). x.last) one) in
            subst (λ x. Stands (blocks ++ new ∷ []) opens x) ends (subst (λ x. Stands (blocks ++ new ∷ []) x new.closes) begins (stands_last blocks new))
        | inr apart ↦ stands_still blocks new opens closes (h.complete opens closes (nearer tree k opens closes b apart))
      ];
      linked = links_on blocks new h.linked low outer;
    }
  where
    own : IsBlockBefore tree (k + 1) new.opens new.closes
    own =
        let is : IsOf tree k is_block n.token n.last = record { kind = n.kind; spans = record { first = n.first; next = n.next; there = e }; passes = full } in
        let is' : IsOf tree k is_block new.opens new.closes = subst (λ x. IsOf tree k is_block x new.closes) (sym opens_is) (subst (λ x. IsOf tree k is_block n.token x) (sym closes_is) is) in
        record { node = k; before = omega arith; is = is' }

    low : (j : ℕ) (b : Block) → slice_get blocks j ≡ Some b → b.opens < new.opens
    low j b f = omega (arith, begin_before tree k n blocks formed h e j b f, opens_is)

-- all nodes have been looked at
pub all_blocks : (tree : List TreeNode) (k : ℕ) (blocks : List Block) → length tree ≤ k → AreBlocksUpTo tree k blocks → AreBlocks tree blocks
all_blocks tree k blocks long h =
    record {
      sound = λ j b e.
          let w = h.sound j b e in
          record { node = w.node; is = w.is };
      complete = λ opens closes b.
          h.complete opens closes (record { node = b.node; before = omega (arith, long, slice_get_within tree b.node (node_of b.is) b.is.spans.there); is = b.is });
      ascend = h.linked.ascend;
      outers = outers;
    }
  where
    known : (token other end : ℕ) → IsAround tree token other end → Stands blocks other end
    known token other end a =
        h.complete other end (record { node = a.block.node; before = omega (arith, long, slice_get_within tree a.block.node (node_of a.block.is) a.block.is.spans.there); is = a.block.is })

    outers : (j : ℕ) (b : Block) → slice_get blocks j ≡ Some b → IsOuter tree blocks b.opens b.outer
    outers j b e =
        let last = h.linked.outers j b e in
        record {
          inside = λ o f.
              let w = last.there o f in
              let c = w.1.block in
              let less = h.linked.ascend o j c b w.0 w.1.there e in
              let before = h.sound o c w.1.there in
              (c, w.1.there, record { block = record { node = before.node; is = before.is }; from = omega (arith, less); to = w.1.to }, less);
          innermost = λ o c other end f there a less.
              let s = known b.opens other end a in
              let early = stands_before blocks h.linked.ascend s.number j s.block b s.there e (omega (arith, s.begins, less)) in
              let low = last.last o s.number f early (record { block = s.block; there = s.there; to = omega (arith, s.ends, a.to) }) in
              omega (arith, s.begins, no_later blocks h.linked.ascend s.number o s.block c s.there there low);
          outside = λ other end f a less.
              let s = known b.opens other end a in
              let early = stands_before blocks h.linked.ascend s.number j s.block b s.there e (omega (arith, s.begins, less)) in
              last.none s.number f early (record { block = s.block; there = s.there; to = omega (arith, s.ends, a.to) });
        }
