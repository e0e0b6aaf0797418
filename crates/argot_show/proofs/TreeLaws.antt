-- What the list of a tree's nodes prints is what the tree does.
use Rattle.std.proofs.Common.{◌≡◌, ℕ, ◌+◌, List, [], ◌∷◌, ◌++◌, length, Bool, true, false, Option, Some, None, refl, sym, ap, ◌∙◌, arith, append_assoc, length-append}
use Rattle.std.specs.Prelude.{reverse, codes, drop, get_or, if◌then◌else◌, Result, Ok, Err, IfOk, ◌<◌, zero, suc}
use Rattle.std.proofs.lemmas.List.{append-nil, length-reverse}
use Rattle.argot_io.specs.Taken.{taken_with}
use Rattle.argot_tree.specs.declared.node_kind.NodeKind.{NodeKind}
use Rattle.argot_tree.specs.declared.token.Token.{Token}
use Rattle.argot_tree.specs.declared.tree.TreeNode.{TreeNode}
use Rattle.argot_tree.specs.Forests.{Forest, leaf, tree, size, begins, nodes_from}
use Rattle.argot_show.specs.TreeLines.{node_onto, indent_onto, forest_onto, is_tree, nodes_onto, around_by, popped, count_line}
use Rattle.argot_io.specs.Told.{Entry}
use Rattle.argot_tree.specs.declared.lexed.Lexed.{Lexed}
use Rattle.argot_tree.specs.Grammar.{File}
use Rattle.argot_tree.specs.Trees.{SpellsNodes}
use Rattle.argot_show.specs.declared.tokens.Fault.{Fault}
use Rattle.argot_show.specs.declared.trees.Outcome.{Outcome}
use Rattle.argot_show.specs.declared.trees.Outcome.TheVariants as outcomes
use Rattle.argot_show.specs.ShowsTrees.{PrintsTree, IsParsed, HasTokens, IsTreeOutcome, no_tree}
use Rattle.argot_show.proofs.LineLaws.{taken_twice}

-- a tree, or trees beside it
abbrev behind : Forest → List Bool → List Bool
behind leaf around = around
behind (tree kind token last kids rest) around = popped around

module _ (bytes : List ℕ) (tokens : List Token) where
  -- the nodes of trees side by side print them, and leave what is around the node behind the last of them
  abbrev Prints : Forest → Type 0
  Prints x = (n : ℕ) (before : List ℕ) (around : List Bool) (more : List TreeNode) → nodes_onto before bytes tokens around (nodes_from n x ++ more) ≡ nodes_onto (forest_onto before bytes tokens around x) bytes tokens (behind x around) more

  tree_prints : (kind : NodeKind) (token last : ℕ) (kids rest : Forest) → Prints kids → Prints rest → Prints (tree kind token last kids rest)
  tree_prints kind token last leaf leaf ihk ihr n before around more = refl
  tree_prints kind token last leaf (tree kind2 token2 last2 kids2 rest2) ihk ihr n before around more =
      ihr (n + (0 + 1)) (node_onto (indent_onto before around) bytes tokens kind token last) around more
  tree_prints kind token last (tree kind2 token2 last2 kids2 rest2) leaf ihk ihr n before around more =
      ap (λ l. nodes_onto (node_onto (indent_onto before around) bytes tokens kind token last) bytes tokens (false ∷ around) (l ++ more)) (append-nil (nodes_from (n + 1) (tree kind2 token2 last2 kids2 rest2)))
      ∙ ihk (n + 1) (node_onto (indent_onto before around) bytes tokens kind token last) (false ∷ around) more
  tree_prints kind token last (tree kind2 token2 last2 kids2 rest2) (tree kind3 token3 last3 kids3 rest3) ihk ihr n before around more =
      let kids = tree kind2 token2 last2 kids2 rest2 in
      let rest = tree kind3 token3 last3 kids3 rest3 in
      let line = node_onto (indent_onto before around) bytes tokens kind token last in
      ap (λ l. nodes_onto line bytes tokens (true ∷ around) l) (append_assoc (nodes_from (n + 1) kids) (nodes_from (n + (size kids + 1)) rest) more)
      ∙ ihk (n + 1) line (true ∷ around) (nodes_from (n + (size kids + 1)) rest ++ more)
      ∙ ihr (n + (size kids + 1)) (forest_onto line bytes tokens (true ∷ around) kids) around more

  printed : (x : Forest) → Prints x
  printed leaf = λ n before around more. refl
  printed (tree kind token last kids rest) = tree_prints kind token last kids rest (printed kids) (printed rest)

  pub nodes_print : (x : Forest) → nodes_onto [] bytes tokens [] (nodes_from 0 x) ≡ forest_onto [] bytes tokens [] x
  nodes_print x = ap (nodes_onto [] bytes tokens []) (sym (append-nil (nodes_from 0 x))) ∙ printed x 0 [] [] []

  -- the indentation depends on the number of nodes around alone
  indent_long : (before : List ℕ) (a b : List Bool) → length a ≡ length b → indent_onto before a ≡ indent_onto before b
  indent_long before [] [] e = refl
  indent_long before [] (x ∷ b) e = absurd (omega (arith, e))
  indent_long before (x ∷ a) [] e = absurd (omega (arith, e))
  indent_long before (x ∷ a) (y ∷ b) e = indent_long (before ++ codes "  ") a b (omega (arith, e))

  -- a line stands behind what stood there
  indent_is : (before : List ℕ) (around : List Bool) → indent_onto before around ≡ before ++ indent_onto [] around
  indent_is before [] = refl
  indent_is before (x ∷ around) =
      indent_is (before ++ codes "  ") around ∙ append_assoc before (codes "  ") (indent_onto [] around) ∙ ap (λ l. before ++ l) (sym (indent_is (codes "  ") around))

  node_is : (before : List ℕ) (around : List Bool) (node : TreeNode) → node_onto (indent_onto before around) bytes tokens node.kind node.token node.last ≡ before ++ node_onto (indent_onto [] around) bytes tokens node.kind node.token node.last
  node_is before around node =
      ap (λ l. node_onto l bytes tokens node.kind node.token node.last) (indent_is before around) ∙ simp append_assoc

  nodes_is : (before : List ℕ) (around : List Bool) (nodes : List TreeNode) → nodes_onto before bytes tokens around nodes ≡ before ++ nodes_onto [] bytes tokens around nodes
  nodes_is before around [] = sym (append-nil before)
  nodes_is before around (node ∷ rest) =
      let line = node_onto (indent_onto [] around) bytes tokens node.kind node.token node.last in
      let next = around_by node.first node.next around in
      nodes_is (node_onto (indent_onto before around) bytes tokens node.kind node.token node.last) next rest
      ∙ ap (λ l. l ++ nodes_onto [] bytes tokens next rest) (node_is before around node)
      ∙ append_assoc before line (nodes_onto [] bytes tokens next rest)
      ∙ ap (λ l. before ++ l) (sym (nodes_is line next rest))

  -- one line more, with what was written so far and what waits to be
  pub one_more : (taken : Option (List ℕ)) (waiting : List ℕ) (stored : List Bool) (node : TreeNode) (rest : List TreeNode) → taken_with (taken_with taken (node_onto (indent_onto waiting stored) bytes tokens node.kind node.token node.last)) (nodes_onto [] bytes tokens (around_by node.first node.next (reverse stored)) rest) ≡ taken_with (taken_with taken waiting) (nodes_onto [] bytes tokens (reverse stored) (node ∷ rest))
  one_more taken waiting stored node rest =
      let around = reverse stored in
      let line = node_onto (indent_onto [] around) bytes tokens node.kind node.token node.last in
      let next = around_by node.first node.next around in
      let tail = nodes_onto [] bytes tokens next rest in
      let same : node_onto (indent_onto waiting stored) bytes tokens node.kind node.token node.last ≡ waiting ++ line =
      ap (λ l. node_onto l bytes tokens node.kind node.token node.last) (indent_long waiting stored around (sym (length-reverse stored))) ∙ node_is waiting around node in
      ap (λ l. taken_with (taken_with taken l) tail) same
      ∙ ap (λ t. taken_with t tail) (sym (taken_twice taken waiting line))
      ∙ taken_twice (taken_with taken waiting) line tail
      ∙ ap (taken_with (taken_with taken waiting)) (sym (nodes_is line next rest))

pub length_nodes : (x : Forest) (n : ℕ) → length (nodes_from n x) ≡ size x
length_nodes leaf n = refl
length_nodes (tree kind token last kids rest) n =
    omega (arith, length-append (nodes_from (n + 1) kids) (nodes_from (n + (size kids + 1)) rest), length_nodes kids (n + 1), length_nodes rest (n + (size kids + 1)))

pub indent_step : (before : List ℕ) (i : ℕ) (around : List Bool) → i < length around → indent_onto before (drop i around) ≡ indent_onto (before ++ codes "  ") (drop (i + 1) around)
indent_step before i [] h = absurd (omega arith)
indent_step before zero (x ∷ around) h = refl
indent_step before (suc i) (x ∷ around) h =
    let next : suc i + 1 ≡ suc (i + 1) = omega arith in
    indent_step before i around (omega arith) ∙ ap (λ j. indent_onto (before ++ codes "  ") (drop j (x ∷ around))) (sym next)

-- what was written is the tree, or the number of its nodes
pub prints : (bytes : List ℕ) (tokens : List Token) (count : Bool) (before now : Option (List ℕ)) (nodes : List TreeNode) → SpellsNodes tokens File nodes 0 (length tokens) → now ≡ taken_with before (if count then count_line (length nodes) else nodes_onto [] bytes tokens [] nodes) → PrintsTree bytes tokens count before now
prints bytes tokens count before now nodes s e =
    record {
      tree = s.0;
      spelled = s.1;
      taken =
          e
          ∙ ap (λ l. taken_with before (if count then count_line (length l) else nodes_onto [] bytes tokens [] l)) s.2
          ∙ ap (λ n. taken_with before (if count then count_line n else nodes_onto [] bytes tokens [] (nodes_from 0 s.0))) (length_nodes s.0 0)
          ∙ ap (λ l. taken_with before (if count then count_line (size s.0) else l)) (nodes_print bytes tokens s.0);
    }

outcome_is : (told : Option (List Entry)) (path bytes : List ℕ) (lexed : Lexed) (count : Bool) (before now : Option (List ℕ)) → HasTokens told path bytes lexed → (o : Outcome) → IsParsed bytes lexed.tokens count before now o → IsTreeOutcome told path count before now o
outcome_is told path bytes lexed count before now t outcomes.Shown h = record { bytes = bytes; lexed = lexed; tokens = t; prints = h }
outcome_is told path bytes lexed count before now t (outcomes.Bad at) h = absurd h
outcome_is told path bytes lexed count before now t (outcomes.Syntax at) h = no_tree bytes lexed t h
outcome_is told path bytes lexed count before now t (outcomes.Deep at) h = record { bytes = bytes; lexed = lexed; tokens = t; token = h.0; deep = h.1 }

pub outcome_of : (told : Option (List Entry)) (path bytes : List ℕ) (lexed : Lexed) (count : Bool) (before now : Option (List ℕ)) → HasTokens told path bytes lexed → (r : Result Outcome Fault) → IfOk r (IsParsed bytes lexed.tokens count before now) → IfOk r (IsTreeOutcome told path count before now)
outcome_of told path bytes lexed count before now t (Ok o) h = outcome_is told path bytes lexed count before now t o h
outcome_of told path bytes lexed count before now t (Err e) h = h

drop_node : (nodes : List TreeNode) (i : ℕ) (d : TreeNode) → i < length nodes → drop i nodes ≡ get_or nodes i d ∷ drop (i + 1) nodes
drop_node [] i d h = absurd (omega arith)
drop_node (node ∷ nodes) zero d h = refl
drop_node (node ∷ nodes) (suc i) d h =
    let next : suc i + 1 ≡ suc (i + 1) = omega arith in
    drop_node nodes i d (omega arith) ∙ ap (λ j. get_or nodes i d ∷ drop j (node ∷ nodes)) (sym next)

-- a node more: what was written and what waits is then what it was before, and its line
pub node_more : (bytes : List ℕ) (tokens : List Token) (nodes : List TreeNode) (i : ℕ) (d : TreeNode) (taken taken2 whole : Option (List ℕ)) (waiting waiting1 waiting2 : List ℕ) (lent stored stored2 : List Bool) → i < length nodes → lent ≡ stored → waiting1 ≡ node_onto (indent_onto waiting lent) bytes tokens (get_or nodes i d).kind (get_or nodes i d).token (get_or nodes i d).last → reverse stored2 ≡ around_by (get_or nodes i d).first (get_or nodes i d).next (reverse stored) → taken_with taken2 waiting2 ≡ taken_with taken waiting1 → taken_with (taken_with taken waiting) (nodes_onto [] bytes tokens (reverse stored) (drop i nodes)) ≡ whole → taken_with (taken_with taken2 waiting2) (nodes_onto [] bytes tokens (reverse stored2) (drop (i + 1) nodes)) ≡ whole
node_more bytes tokens nodes i d taken taken2 whole waiting waiting1 waiting2 lent stored stored2 h same line around flushed before =
    ap (λ t. taken_with t (nodes_onto [] bytes tokens (reverse stored2) (drop (i + 1) nodes))) flushed
    ∙ ap (λ a. taken_with (taken_with taken waiting1) (nodes_onto [] bytes tokens a (drop (i + 1) nodes))) around
    ∙ ap (λ l. taken_with (taken_with taken l) (nodes_onto [] bytes tokens (around_by (get_or nodes i d).first (get_or nodes i d).next (reverse stored)) (drop (i + 1) nodes))) (line ∙ ap (λ a. node_onto (indent_onto waiting a) bytes tokens (get_or nodes i d).kind (get_or nodes i d).token (get_or nodes i d).last) same)
    ∙ one_more bytes tokens taken waiting stored (get_or nodes i d) (drop (i + 1) nodes)
    ∙ ap (λ l. taken_with (taken_with taken waiting) (nodes_onto [] bytes tokens (reverse stored) l)) (sym (drop_node nodes i d h))
    ∙ before
