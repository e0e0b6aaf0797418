-- What comes into a block is in scope within it.
use Rattle.std.proofs.Common.{◌≡◌, ℕ, ◌+◌, ◌<◌, ◌≤◌, List, [], ◌∷◌, ◌++◌, true, Some, refl, sym, subst, arith}
use Rattle.std.specs.Prelude.{slice_get, length}
use Rattle.std.specs.List.{AllByRecursion}
use Rattle.std.proofs.lemmas.Bool.Decides.{nat_tests}
use Rattle.argot_tree.specs.declared.node_kind.NodeKind.{NodeKind}
use Rattle.argot_tree.specs.declared.node_kind.NodeKind.TheVariants as nodes
use Rattle.argot_tree.specs.declared.token.Token.{Token}
use Rattle.argot_tree.specs.declared.tree.Tree.{Tree}
use Rattle.argot_tree.specs.declared.tree.TreeNode.{TreeNode}
use Rattle.argot_tree.specs.Forests.{Forest, leaf, tree, nodes_from, size, last_token}
use Rattle.argot_tree.specs.Trees.{SpellsTree}
use Rattle.argot_names_rules.specs.Nodes.{Spans, IsChild, IsNext, first, next}
use Rattle.argot_names_rules.specs.Blocks.{is_block, IsBlock, IsInnermost}
use Rattle.argot_names_rules.specs.Bindings.{BindingKind, HasColon, of_case, of_default, Brings, value, type_, define, range, receive, parameter, switched}
use Rattle.argot_names_rules.proofs.Lying.{Lies}
use Rattle.argot_names_rules.proofs.LyingTrees.{lies}
use Rattle.argot_names_rules.proofs.NodeOrder.{all_at, nodes_follow}
use Rattle.argot_files.specs.Links.{to_child, to_sibling}
use Rattle.argot_files.proofs.Linked.{linked}

abbrev Up : TreeNode → Type 0
Up n = n.token ≤ n.last

all_beside : (xs ys : List TreeNode) → AllByRecursion Up xs → AllByRecursion Up ys → AllByRecursion Up (xs ++ ys)
all_beside [] ys h k = k
all_beside (x ∷ xs) ys h k = (h.0, all_beside xs ys h.1 k)

last_up : (token behind : ℕ) → token ≤ behind → token ≤ last_token token behind
last_up token behind h = grind (arith, nat_tests)

all_up : (x : Forest) (at from to : ℕ) → Lies x from to → AllByRecursion Up (nodes_from at x)
all_up leaf at from to h = tt
all_up (tree kind token last kids rest) at from to h =
    (subst (λ x. token ≤ x) (sym h.3) (last_up token h.0 h.2), all_beside (nodes_from (at + 1) kids) (nodes_from (at + (size kids + 1)) rest) (all_up kids (at + 1) token h.0 h.4) (all_up rest (at + (size kids + 1)) h.0 to h.6))

module _ (t : Tree) (tokens : List Token) (spells : SpellsTree t tokens) where
  up : (k : ℕ) (kind : NodeKind) (token last : ℕ) → Spans t.nodes k kind token last → token ≤ last
  up k kind token last s =
      all_at Up (nodes_from 0 spells.0) k (record { kind = kind; token = token; last = last; first = s.first; next = s.next }) (all_up spells.0 0 0 (length tokens) (lies tokens spells.1))
      (subst (λ ns. slice_get ns k ≡ Some (record { kind = kind; token = token; last = last; first = s.first; next = s.next })) spells.2 s.there)

  child_behind : (p c : ℕ) → IsChild t.nodes p c → p < c
  child_behind p c (first f) = (linked t tokens spells).ahead p c f.is f.there (to_child f.first)
  child_behind p c (next {before = b} h n) =
      let one = child_behind p b h in
      let two = next_behind b c n in
      omega arith
    where
      next_behind : (b c : ℕ) → IsNext t.nodes b c → b < c
      next_behind b c n = (linked t tokens spells).ahead b c n.is n.there (to_sibling n.next)

  next_after : (b c : ℕ) → IsNext t.nodes b c → b < c
  next_after b c n = (linked t tokens spells).ahead b c n.is n.there (to_sibling n.next)

  -- a node further on begins no earlier
  no_earlier : (j k : ℕ) (m n : NodeKind) (a b c d : ℕ) → j < k → Spans t.nodes j m a b → Spans t.nodes k n c d → a ≤ c
  no_earlier j k m n a b c d l s r =
      (nodes_follow t tokens spells j k (record { kind = m; token = a; last = b; first = s.first; next = s.next }) (record { kind = n; token = c; last = d; first = r.first; next = r.next }) l s.there r.there).ascends

  block_of : (node : ℕ) (kind : NodeKind) (opens closes : ℕ) → is_block kind ≡ true → Spans t.nodes node kind opens closes → IsBlock t.nodes opens closes
  block_of node kind opens closes full s = record { node = node; is = record { kind = kind; spans = s; passes = full } }

  behind_start : (at last opens closes : ℕ) → at ≤ last → IsInnermost t.nodes at opens closes → IsBlock t.nodes opens closes × (opens ≤ last + 1)
  behind_start at last opens closes h i = (i.around.block, omega (arith, i.around.from))

  pub comes_within : (m : BindingKind) (node token opens closes from : ℕ) → Brings t.nodes m node token opens closes from → IsBlock t.nodes opens closes × (opens ≤ from)
  comes_within m node token opens closes from (value {spec = spec} {at = at} {last = last} is of i) = behind_start at last opens closes (up spec is.kind at last is.spans) i
  comes_within m node token opens closes from (type_ {spec = spec} {name = name} {at = at} {last = last} {end = end} is child s i) =
      let low = no_earlier spec name is.kind nodes.DeclName at last token end (child_behind spec name child) is.spans s in
      (i.around.block, omega (arith, i.around.from))
  comes_within m node token opens closes from (define {stmt = stmt} {at = at} {last = last} s of i) = behind_start at last opens closes (up stmt nodes.Define at last s) i
  comes_within m node token opens closes from (range {stmt = stmt} {body = body} {to = to} s left child b) =
      (block_of stmt nodes.DefineRange opens closes refl s, no_earlier stmt body nodes.DefineRange nodes.Block opens closes from to (child_behind stmt body child) s b)
  comes_within m node token opens closes from (receive {clause = clause} {list = list} {operand = operand} {at = at} {last = last} {kind = kind} s left n o) =
      let one = child_behind clause list left.under in
      let two = next_after list operand n in
      let low = no_earlier clause operand nodes.DefineCase kind opens closes at last (omega arith) s o in
      let high = up operand kind at last o in
      (block_of clause nodes.DefineCase opens closes refl s, omega arith)
  comes_within m node token opens closes from (parameter {body = body} is p child b) = (block_of body nodes.Block opens closes refl b, omega arith)
  comes_within m node token opens closes from (switched {clause = clause} {colon = colon} s g gs d n c colons) = by colon colons
    where
      by : (at : ℕ) → HasColon t.nodes clause opens closes at → IsBlock t.nodes opens closes × (opens ≤ at + 1)
      by at (of_case {values = values} {from = low} {last = high} k v w) =
          let ahead = no_earlier clause values nodes.Case nodes.Values opens closes low high (child_behind clause values v) k w in
          let rise = up values nodes.Values low high w in
          (block_of clause nodes.Case opens closes refl k, omega arith)
      by at (of_default k) = (block_of clause nodes.Default opens closes refl k, omega arith)
