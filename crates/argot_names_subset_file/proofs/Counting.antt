-- The numbers of nodes among those of all trees.
use Rattle.std.proofs.Common.{◌≡◌, ◌≢◌, ℕ, zero, suc, ◌+◌, ◌<◌, ◌≤◌, ◌⊎◌, inl, inr, List, [], ◌∷◌, ◌++◌, Bool, true, false, Option, Some, None, take, length, refl, sym, ap, ◌∙◌, subst, arith, length-append}
use Rattle.std.specs.Prelude.{slice_get, ◌↔◌, IsTrue}
use Rattle.std.proofs.lemmas.Bool.{cases_eq}
use Rattle.argot_tree.specs.declared.node_kind.NodeKind.TheVariants as nodes
use Rattle.argot_tree.specs.declared.tree.Tree.{Tree}
use Rattle.argot_tree.specs.declared.tree.TreeNode.{TreeNode}
use Rattle.argot_names_rules.specs.Nodes.{IsOf}
use Rattle.argot_names_rules.specs.Bindings.{specifies_type}
use Rattle.argot_names_rules.specs.Loaded.{count_nodes}
use Rattle.argot_names_imports.proofs.Lists.{get_below, get_two, get_behind, get_before, get_last, get_either}
use Rattle.argot_names_blocks.proofs.Generic.{lies_or}
use Rattle.argot_files.proofs.Nodes.{child_there}
use Rattle.argot_names_blocks.specs.declared.tables.Found.{Found}
use Rattle.argot_files.specs.Parents.{AreParents}
use Rattle.argot_answers.specs.Answers.{Exactly}
use Rattle.argot_names_subset_file.specs.Atoms.{IsAbove}
use Rattle.argot_answers.proofs.Exactly.{exact_one, exact_holds, exact_not}
use Rattle.argot_names_subset_file.proofs.NameLemmas.{of_there, of_kind, is_there}
use Rattle.argot_names_subset_file.specs.Tables.{IsTypeDeclared, AreTypesUpTo, AreTypesBefore}
use Rattle.argot_names_subset_file.proofs.PartLemmas.{some_is}

pub add_one : (n : ℕ) → n + 1 ≡ suc n
add_one n = omega arith

-- one file more
pub count_more : (trees : List Tree) (file : ℕ) (tree : Tree) → slice_get trees file ≡ Some tree → count_nodes (take (file + 1) trees) ≡ count_nodes (take file trees) + length tree.nodes
count_more [] file tree e = absurd (cc)
count_more (t ∷ ts) zero tree e = let same : t ≡ tree = some_is t tree e in subst (λ n. count_nodes (take n (t ∷ ts)) ≡ 0 + length tree.nodes) (sym (add_one 0)) (subst (λ (u : Tree). length t.nodes + 0 ≡ 0 + length u.nodes) same (omega arith))
count_more (t ∷ ts) (suc file) tree e =
    let more = count_more ts file tree e in
    subst (λ n. count_nodes (take n (t ∷ ts)) ≡ (length t.nodes + count_nodes (take file ts)) + length tree.nodes) (sym (add_one (suc file)))
    (let at = subst (λ n. count_nodes (take n ts) ≡ count_nodes (take file ts) + length tree.nodes) (add_one file) more in omega (arith, at))

-- the nodes before a file are fewer than those before a later one
pub count_below : (trees : List Tree) (a b : ℕ) (tree : Tree) → slice_get trees a ≡ Some tree → a < b → count_nodes (take a trees) + length tree.nodes ≤ count_nodes (take b trees)
count_below [] a b tree e l = absurd (cc)
count_below (t ∷ ts) a zero tree e l = absurd (omega arith)
count_below (t ∷ ts) zero (suc b) tree e l = let same : t ≡ tree = some_is t tree e in subst (λ (u : Tree). 0 + length u.nodes ≤ length t.nodes + count_nodes (take b ts)) same (omega arith)
count_below (t ∷ ts) (suc a) (suc b) tree e l = let more = count_below ts a b tree e (omega arith) in omega (arith, more)

-- a number is that of one node
pub one_number : (trees : List Tree) (a b m n : ℕ) (s t : Tree) → slice_get trees a ≡ Some s → slice_get trees b ≡ Some t → m < length s.nodes → n < length t.nodes
    → count_nodes (take a trees) + m ≡ count_nodes (take b trees) + n → (a ≡ b) × (m ≡ n)
one_number trees a b m n s t e f l k same = go (cases_eq a b)
  where
    go : (a ≡ b) ⊎ (a ≢ b) → (a ≡ b) × (m ≡ n)
    go (inl is) = (is, let at = ap (λ x. count_nodes (take x trees)) is in omega (arith, at, same))
    go (inr other) =
        elim (lies_or b b a) [
          | inl h ↦ absurd (omega (arith, h.0, h.1, other))
          | inr h ↦ elim h [
            | inl lt ↦ absurd (omega (arith, count_below trees a b s e lt, same, l))
            | inr gt ↦ absurd (omega (arith, count_below trees b a t f gt, same, k))
          ]
        ]

-- the tables so far
pub types_none : (tree : List TreeNode) (old new : List Bool) → new ≡ old → AreTypesUpTo tree 0 old new
types_none tree old new e = record { added = []; new_is = e ∙ sym (append_nil old); as_long = refl; each = λ j l. absurd (omega arith) }
  where
    append_nil : (xs : List Bool) → xs ++ [] ≡ xs
    append_nil [] = refl
    append_nil (x ∷ xs) = ap (λ ys. x ∷ ys) (append_nil xs)

append_assoc : (xs ys zs : List Bool) → (xs ++ ys) ++ zs ≡ xs ++ (ys ++ zs)
append_assoc [] ys zs = refl
append_assoc (x ∷ xs) ys zs = ap (λ ws. x ∷ ws) (append_assoc xs ys zs)

pub types_more : (tree : List TreeNode) (k : ℕ) (old mid new : List Bool) (b : Bool) → AreTypesUpTo tree k old mid → new ≡ mid ++ b ∷ [] → IsTrue b ↔ IsTypeDeclared tree k → AreTypesUpTo tree (k + 1) old new
types_more tree k old mid new b are e is =
    record {
      added = are.added ++ b ∷ [];
      new_is = e ∙ (ap (λ xs. xs ++ b ∷ []) are.new_is ∙ append_assoc old are.added (b ∷ []));
      as_long = omega (arith, length-append are.added (b ∷ []), are.as_long);
      each = λ j l. (to j l, from j l);
    }
  where
    here : slice_get (are.added ++ b ∷ []) k ≡ Some b
    here = subst (λ n. slice_get (are.added ++ b ∷ []) n ≡ Some b) are.as_long (get_last are.added b)

    to : (j : ℕ) → j < k + 1 → slice_get (are.added ++ b ∷ []) j ≡ Some true → IsTypeDeclared tree j
    to j l there =
        elim (get_either are.added b j true there) [
          | inl before ↦ (are.each j (omega (arith, get_below are.added j true before, are.as_long))).0 before
          | inr h ↦ let at : k ≡ j = omega (arith, h.0, are.as_long) in subst (IsTypeDeclared tree) at (is.0 (sym h.1))
        ]

    from : (j : ℕ) → j < k + 1 → IsTypeDeclared tree j → slice_get (are.added ++ b ∷ []) j ≡ Some true
    from j l d =
        elim (cases_eq j k) [
          | inl same ↦ let yes : b ≡ true = is.1 (subst (IsTypeDeclared tree) same d) in subst (λ n. slice_get (are.added ++ b ∷ []) n ≡ Some true) (sym same) (here ∙ ap (λ c. Some c) yes)
          | inr other ↦ get_before are.added (b ∷ []) j true ((are.each j (omega (arith, l, other))).1 d)
        ]

pub before_none : (trees : List Tree) (types : List Bool) → types ≡ [] → AreTypesBefore trees 0 types
before_none trees types e = record { as_long = ap length e; each = λ file node tree l. absurd (omega arith) }

pub before_more : (trees : List Tree) (count : ℕ) (tree : Tree) (old new : List Bool) → slice_get trees count ≡ Some tree → AreTypesBefore trees count old → AreTypesUpTo tree.nodes (length tree.nodes) old new → AreTypesBefore trees (count + 1) new
before_more trees count tree old new there are these =
    record {
      as_long = omega (arith, ap length these.new_is, length-append old these.added, these.as_long, are.as_long, count_more trees count tree there);
      each = λ file node t l e w. elim (cases_eq file count) [
        | inl same ↦ here file node t same e w
        | inr other ↦ earlier file node t (omega (arith, l, other)) e w
      ];
    }
  where
    at_new : (n : ℕ) → slice_get (old ++ these.added) n ≡ Some true → slice_get new n ≡ Some true
    at_new n e = subst (λ xs. slice_get xs n ≡ Some true) (sym these.new_is) e

    at_parts : (n : ℕ) → slice_get new n ≡ Some true → slice_get (old ++ these.added) n ≡ Some true
    at_parts n e = subst (λ xs. slice_get xs n ≡ Some true) these.new_is e

    here : (file node : ℕ) (t : Tree) → file ≡ count → slice_get trees file ≡ Some t → node < length t.nodes → slice_get new (count_nodes (take file trees) + node) ≡ Some true ↔ IsTypeDeclared t.nodes node
    here file node t same e w =
        let is : tree ≡ t = some_is tree t (sym there ∙ (ap (slice_get trees) (sym same) ∙ e)) in
        let below : node < length tree.nodes = subst (λ (u : Tree). node < length u.nodes) (sym is) w in
        let start : count_nodes (take file trees) ≡ length old = ap (λ f. count_nodes (take f trees)) same ∙ sym are.as_long in (
          λ g.
              let h = at_parts (length old + node) (subst (λ n. slice_get new (n + node) ≡ Some true) start g) in
              let mine : slice_get these.added node ≡ Some true = elim (get_two old these.added (length old + node) true h) [ inl x ↦ absurd (omega (arith, get_below old (length old + node) true x)) | inr x ↦ let at : x.0 ≡ node = omega (arith, x.1) in subst (λ n. slice_get these.added n ≡ Some true) at x.2 ] in
              subst (λ (u : Tree). IsTypeDeclared u.nodes node) is ((these.each node below).0 mine),
          λ d.
              let mine = (these.each node below).1 (subst (λ (u : Tree). IsTypeDeclared u.nodes node) (sym is) d) in
              subst (λ n. slice_get new (n + node) ≡ Some true) (sym start) (at_new (length old + node) (get_behind old these.added node true mine)),
        )

    earlier : (file node : ℕ) (t : Tree) → file < count → slice_get trees file ≡ Some t → node < length t.nodes → slice_get new (count_nodes (take file trees) + node) ≡ Some true ↔ IsTypeDeclared t.nodes node
    earlier file node t l e w =
        let low : count_nodes (take file trees) + node < length old = omega (arith, are.as_long, count_below trees file count t e l, w) in (
          λ g.
              (are.each file node t l e w).0 (elim (get_two old these.added (count_nodes (take file trees) + node) true (at_parts (count_nodes (take file trees) + node) g)) [ inl x ↦ x | inr x ↦ absurd (omega (arith, x.1, low)) ]),
          λ d. at_new (count_nodes (take file trees) + node) (get_before old these.added (count_nodes (take file trees) + node) true ((are.each file node t l e w).1 d)),
        )

-- the numbers of nodes before the first files
pub record AreBasesBefore (trees : List Tree) (file count : ℕ) (bases : List ℕ) : Type 0 where
  pub as_long : length bases ≡ file
  pub count_is : count ≡ count_nodes (take file trees)
  pub each : (j base : ℕ) → slice_get bases j ≡ Some base → base ≡ count_nodes (take j trees)

pub bases_none : (trees : List Tree) (bases : List ℕ) → bases ≡ [] → AreBasesBefore trees 0 0 bases
bases_none trees bases e = record { as_long = ap length e; count_is = refl; each = λ j base f. let none = ap (λ xs. slice_get xs j) e in absurd (cc) }

pub bases_more : (trees : List Tree) (file count more : ℕ) (tree : Tree) (old new : List ℕ) → AreBasesBefore trees file count old → slice_get trees file ≡ Some tree → new ≡ old ++ count ∷ [] → more ≡ count + length tree.nodes
    → AreBasesBefore trees (file + 1) more new
bases_more trees file count more tree old new are there e m =
    record {
      as_long = omega (arith, ap length e, length-append old (count ∷ []), are.as_long);
      count_is = omega (arith, m, are.count_is, count_more trees file tree there);
      each = λ j base f. elim (get_either old count j base (subst (λ xs. slice_get xs j ≡ Some base) e f)) [
        | inl g ↦ are.each j base g
        | inr h ↦ h.1 ∙ (are.count_is ∙ ap (λ n. count_nodes (take n trees)) (let at : file ≡ j = omega (arith, h.0, are.as_long) in at))
      ];
    }

-- the name of a type by the node above it
pub declared_above : (tree : List TreeNode) (ps : List (Option ℕ)) (are : AreParents tree ps) (k : ℕ) (n : TreeNode) (a : Found) (b : Bool) → slice_get tree k ≡ Some n → n.kind ≡ nodes.DeclName → Exactly (IsAbove tree k) (Some a) → b ≡ specifies_type a.node.kind
    → IsTrue b ↔ IsTypeDeclared tree k
declared_above tree ps are k n a b there e is s =
    let h = exact_holds (IsAbove tree k) a is in (
      λ yes. record { spec = a.at; at = a.node.token; last = a.node.last; is_spec = of_there tree a.at a.node specifies_type h.there (sym s ∙ yes); under = h.under; is_name = is_there tree k n nodes.DeclName there e },
      λ d.
          let f = child_there tree k d.spec d.under in
          let same = exact_one (IsAbove tree k) a is (record { at = d.spec; node = f.0 }) (record { under = d.under; there = f.1 }) in
          s ∙ of_kind tree a.at a.node specifies_type d.at d.last h.there (subst (λ (x : Found). IsOf tree x.at specifies_type d.at d.last) same d.is_spec),
    )

pub undeclared : (tree : List TreeNode) (ps : List (Option ℕ)) (are : AreParents tree ps) (k : ℕ) → Exactly (IsAbove tree k) None → IsTrue false ↔ IsTypeDeclared tree k
undeclared tree ps are k is = (λ no_way. absurd (cc), λ d. let f = child_there tree k d.spec d.under in absurd (exact_not (IsAbove tree k) is (record { at = d.spec; node = f.0 }) (record { under = d.under; there = f.1 })))
