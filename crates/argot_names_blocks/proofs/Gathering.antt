-- The lists of a file grow by its nodes.
use Rattle.std.proofs.Common.{◌≡◌, ℕ, ◌+◌, ◌<◌, ◌≤◌, List, length, Bool, true, false, Option, Some, None, inl, inr, refl, sym, ap, ◌∙◌, subst}
use Rattle.std.specs.Prelude.{slice_get}
use Rattle.std.proofs.lemmas.Bool.{cases_lt}
use Rattle.std.proofs.lemmas.Option.{slice_get_past}
use Rattle.argot_tree.specs.declared.tree.TreeNode.{TreeNode}
use Rattle.argot_names_blocks.specs.declared.blocks.Block.{Block}
use Rattle.argot_names_blocks.specs.declared.binding.Binding.{Binding}
use Rattle.argot_names_blocks.specs.declared.lookup.QualifiedName.{QualifiedName}
use Rattle.argot_names_blocks.specs.declared.tops.TopName.{TopName}
use Rattle.argot_files.specs.declared.marks.Wanted.TheVariants as wants
use Rattle.argot_files.specs.Forms.{IsFormed}
use Rattle.argot_files.specs.Keys.{AreKeys}
use Rattle.argot_files.specs.Marks.{AreMarks}
use Rattle.argot_files.specs.Parents.{AreParents}
use Rattle.argot_names_blocks.specs.Blocks.{AreBlocks}
use Rattle.argot_names_blocks.specs.Binding.{IsBinding}
use Rattle.argot_names_blocks.specs.Bringing.{by_node, bring_of}
use Rattle.argot_names_blocks.specs.declared.bindings.Lookup.{Lookup}
use Rattle.argot_names_blocks.specs.Generics.{seen_with, seen_of}
use Rattle.argot_names_blocks.specs.Looking.{top_at, top_of, dotted_at, dotted_of, looked_of, looked_at, is_key_of}
use Rattle.argot_names_blocks.specs.Listing.{added, ListsUpTo, ListsAll, IsTopDeclared, IsMemberName, IsSeen}
use Rattle.argot_names_blocks.proofs.Bringing.{brought_by}
use Rattle.argot_names_blocks.proofs.Topping.{top_right}
use Rattle.argot_names_blocks.proofs.LooksUp.{dotted_right, looked_right, only_key, all_keys}
use Rattle.argot_files.proofs.Listed.{some_is}
use Rattle.argot_names_blocks.proofs.Growing.{grow, all_listed}

-- what answers only for nodes of the tree
within : {A : Type 0} (tree : List TreeNode) (k : ℕ) (x : A) (at : Option TreeNode → Option A) → at None ≡ None → at (slice_get tree k) ≡ Some x → k < length tree
within tree k x at none e = elim (cases_lt k (length tree)) [
  | inl low ↦ low
  | inr high ↦
      let past = ap at (slice_get_past tree k high) in
      absurd (cc)
]

pub brought_grown : (tree : List TreeNode) (ps keys : List (Option ℕ)) (blocks : List Block) (k : ℕ) (xs ys : List Binding) (o : Option Binding) → IsFormed tree → AreParents tree ps → AreKeys tree keys → AreBlocks tree blocks → ListsUpTo (λ (x : Binding). x.node) (IsBinding tree) k xs → o ≡ bring_of tree ps keys blocks k → ys ≡ added xs o → ListsUpTo (λ (x : Binding). x.node) (IsBinding tree) (k + 1) ys
brought_grown tree ps keys blocks k xs ys o formed p q r h e f =
    let by = brought_by tree ps keys blocks k o formed p q r e in
    subst (ListsUpTo (λ (x : Binding). x.node) (IsBinding tree) (k + 1)) (sym f) (grow (λ (x : Binding). x.node) (IsBinding tree) k xs o h by.sound by.complete)

pub brought_listed : (tree : List TreeNode) (ps keys : List (Option ℕ)) (blocks : List Block) (k : ℕ) (xs : List Binding) → IsFormed tree → AreParents tree ps → AreKeys tree keys → AreBlocks tree blocks → length tree ≤ k → ListsUpTo (λ (x : Binding). x.node) (IsBinding tree) k xs → ListsAll (λ (x : Binding). x.node) (IsBinding tree) xs
brought_listed tree ps keys blocks k xs formed p q r low h =
    all_listed (λ (x : Binding). x.node) (IsBinding tree) k (length tree) xs low h (λ x hx.
    within tree x.node x (by_node tree ps keys blocks x.node) refl ((brought_by tree ps keys blocks x.node (bring_of tree ps keys blocks x.node) formed p q r refl).complete x refl hx))

pub tops_grown : (tree : List TreeNode) (ps : List (Option ℕ)) (blocks : List Block) (receivers : List Bool) (k : ℕ) (xs ys : List TopName) (o : Option TopName) → AreParents tree ps → AreBlocks tree blocks → AreMarks tree wants.Parameters receivers → ListsUpTo (λ (x : TopName). x.node) (IsTopDeclared tree) k xs → o ≡ top_of tree ps blocks receivers k → ys ≡ added xs o → ListsUpTo (λ (x : TopName). x.node) (IsTopDeclared tree) (k + 1) ys
tops_grown tree ps blocks receivers k xs ys o p q r h e f =
    let by = top_right tree ps blocks receivers p q r k o e in
    subst (ListsUpTo (λ (x : TopName). x.node) (IsTopDeclared tree) (k + 1)) (sym f) (grow (λ (x : TopName). x.node) (IsTopDeclared tree) k xs o h by.sound by.complete)

pub tops_listed : (tree : List TreeNode) (ps : List (Option ℕ)) (blocks : List Block) (receivers : List Bool) (k : ℕ) (xs : List TopName) → AreParents tree ps → AreBlocks tree blocks → AreMarks tree wants.Parameters receivers → length tree ≤ k → ListsUpTo (λ (x : TopName). x.node) (IsTopDeclared tree) k xs → ListsAll (λ (x : TopName). x.node) (IsTopDeclared tree) xs
tops_listed tree ps blocks receivers k xs p q r low h =
    all_listed (λ (x : TopName). x.node) (IsTopDeclared tree) k (length tree) xs low h (λ x hx.
    within tree x.node x (top_at tree ps blocks receivers x.node) refl ((top_right tree ps blocks receivers p q r x.node (top_of tree ps blocks receivers x.node) refl).complete x refl hx))

pub dotted_grown : (tree : List TreeNode) (ps : List (Option ℕ)) (k : ℕ) (xs ys : List QualifiedName) (o : Option QualifiedName) → AreParents tree ps → ListsUpTo (λ (x : QualifiedName). x.node) (IsMemberName tree) k xs → o ≡ dotted_of tree ps k → ys ≡ added xs o → ListsUpTo (λ (x : QualifiedName). x.node) (IsMemberName tree) (k + 1) ys
dotted_grown tree ps k xs ys o p h e f =
    let by = dotted_right tree ps p k o e in
    subst (ListsUpTo (λ (x : QualifiedName). x.node) (IsMemberName tree) (k + 1)) (sym f) (grow (λ (x : QualifiedName). x.node) (IsMemberName tree) k xs o h by.sound by.complete)

pub dotted_listed : (tree : List TreeNode) (ps : List (Option ℕ)) (k : ℕ) (xs : List QualifiedName) → AreParents tree ps → length tree ≤ k → ListsUpTo (λ (x : QualifiedName). x.node) (IsMemberName tree) k xs → ListsAll (λ (x : QualifiedName). x.node) (IsMemberName tree) xs
dotted_listed tree ps k xs p low h =
    all_listed (λ (x : QualifiedName). x.node) (IsMemberName tree) k (length tree) xs low h (λ x hx.
    within tree x.node x (dotted_at tree ps x.node) refl ((dotted_right tree ps p x.node (dotted_of tree ps x.node) refl).complete x refl hx))

-- a name that node k looks up
seen_sound : (tree : List TreeNode) (ps : List (Option ℕ)) (k : ℕ) → AreParents tree ps → (l : Lookup) → seen_of tree ps k ≡ Some l → (l.node ≡ k) × IsSeen tree l
seen_sound tree ps k p l e = go (looked_of tree ps k) refl e
  where
    go : (o : Option ℕ) → looked_of tree ps k ≡ o → seen_with k (is_key_of tree ps k) o ≡ Some l → (l.node ≡ k) × IsSeen tree l
    go None f g = absurd (cc)
    go (Some token) f g =
        subst (λ (x : Lookup). (x.node ≡ k) × IsSeen tree x) (some_is (record { node = k; token = token; key = is_key_of tree ps k }) l g) (
          refl,
          record {
            looked = (looked_right tree ps p k (looked_of tree ps k) refl).sound token f;
            key = only_key tree ps p k;
            no_key = λ none key.
                let yes' = all_keys tree ps p k key in
                absurd (cc);
          },
        )

seen_key : (tree : List TreeNode) (ps : List (Option ℕ)) (l : Lookup) → AreParents tree ps → IsSeen tree l → is_key_of tree ps l.node ≡ l.key
seen_key tree ps l p h = go l.key refl (is_key_of tree ps l.node) refl
  where
    go : (a : Bool) → l.key ≡ a → (b : Bool) → is_key_of tree ps l.node ≡ b → is_key_of tree ps l.node ≡ l.key
    go true e b f = all_keys tree ps p l.node (h.key e) ∙ sym e
    go false e true f = absurd (h.no_key e (only_key tree ps p l.node f))
    go false e false f = f ∙ sym e

seen_complete : (tree : List TreeNode) (ps : List (Option ℕ)) → AreParents tree ps → (l : Lookup) → IsSeen tree l → seen_of tree ps l.node ≡ Some l
seen_complete tree ps p l h =
    ap (seen_with l.node (is_key_of tree ps l.node)) ((looked_right tree ps p l.node (looked_of tree ps l.node) refl).complete l.token h.looked)
    ∙ ap (λ b. Some (record { node = l.node; token = l.token; key = b })) (seen_key tree ps l p h)

pub looked_grown : (tree : List TreeNode) (ps : List (Option ℕ)) (k : ℕ) (xs ys : List Lookup) (o : Option Lookup) → AreParents tree ps → ListsUpTo (λ (x : Lookup). x.node) (IsSeen tree) k xs → o ≡ seen_of tree ps k → ys ≡ added xs o → ListsUpTo (λ (x : Lookup). x.node) (IsSeen tree) (k + 1) ys
looked_grown tree ps k xs ys o p h e f =
    subst (ListsUpTo (λ (x : Lookup). x.node) (IsSeen tree) (k + 1)) (sym f) (grow (λ (x : Lookup). x.node) (IsSeen tree) k xs o h (λ b g. seen_sound tree ps k p b (sym e ∙ g)) (λ b same hb. e ∙ subst (λ x. seen_of tree ps x ≡ Some b) same (seen_complete tree ps p b hb)))

seen_within : (tree : List TreeNode) (ps : List (Option ℕ)) (l : Lookup) → AreParents tree ps → IsSeen tree l → l.node < length tree
seen_within tree ps l p h =
    within tree l.node l.token (looked_at tree ps l.node) refl ((looked_right tree ps p l.node (looked_of tree ps l.node) refl).complete l.token h.looked)

pub looked_listed : (tree : List TreeNode) (ps : List (Option ℕ)) (k : ℕ) (xs : List Lookup) → AreParents tree ps → length tree ≤ k → ListsUpTo (λ (x : Lookup). x.node) (IsSeen tree) k xs → ListsAll (λ (x : Lookup). x.node) (IsSeen tree) xs
looked_listed tree ps k xs p low h = all_listed (λ (x : Lookup). x.node) (IsSeen tree) k (length tree) xs low h (λ x hx. seen_within tree ps x p hx)
