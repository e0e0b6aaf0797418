-- What the tables answer, and what follows from their answers.
use Rattle.std.proofs.Common.{◌≡◌, ℕ, zero, suc, ◌<◌, List, [], ◌∷◌, length, Bool, true, Option, Some, None, refl, sym, ap, ◌∙◌, subst, arith}
use Rattle.std.specs.Prelude.{slice_get}
use Rattle.argot_tree.specs.declared.node_kind.NodeKind.{NodeKind}
use Rattle.argot_tree.specs.declared.tree.TreeNode.{TreeNode}
use Rattle.argot_names_rules.specs.Nodes.{Spans, IsOf, IsChild}
use Rattle.argot_names_blocks.specs.declared.tables.Found.{Found}
use Rattle.argot_files.specs.Keys.{key_of, fits, IsKeyChild, AreKeys}
use Rattle.argot_files.specs.Parents.{AreParents}
use Rattle.argot_names_blocks.specs.Bringing.{found_with, found_at, entry_of, found_in}
use Rattle.argot_files.proofs.Listed.{some_is}

-- a node by its kind
pub spans_of : (tree : List TreeNode) (k : ℕ) (n : TreeNode) (kind : NodeKind) → slice_get tree k ≡ Some n → n.kind ≡ kind → Spans tree k kind n.token n.last
spans_of tree k n kind e f =
    record {
      first = n.first;
      next = n.next;
      there = subst (λ x. slice_get tree k ≡ Some (record { kind = x; token = n.token; last = n.last; first = n.first; next = n.next })) f e;
    }

pub is_of : (tree : List TreeNode) (k : ℕ) (n : TreeNode) (test : NodeKind → Bool) → slice_get tree k ≡ Some n → test n.kind ≡ true → IsOf tree k test n.token n.last
is_of tree k n test e f = record { kind = n.kind; spans = record { first = n.first; next = n.next; there = e }; passes = f }

-- a node that is found stands there
pub record IsThere (tree : List TreeNode) (link : Option ℕ) (f : Found) : Type 0 where
  pub link_is : link ≡ Some f.at
  pub there : slice_get tree f.at ≡ Some f.node

with_there : (tree : List TreeNode) (at : ℕ) (o : Option TreeNode) (f : Found) → slice_get tree at ≡ o → found_with at o ≡ Some f → IsThere tree (Some at) f
with_there tree at None f e g = absurd (cc)
with_there tree at (Some n) f e g =
    let same : record { at = at; node = n } ≡ f = some_is (record { at = at; node = n }) f g in
    subst (IsThere tree (Some at)) same (record { link_is = refl; there = e })

pub found_there : (tree : List TreeNode) (link : Option ℕ) (f : Found) → found_at tree link ≡ Some f → IsThere tree link f
found_there tree None f g = absurd (cc)
found_there tree (Some at) f g = with_there tree at (slice_get tree at) f refl g

pub at_found : (tree : List TreeNode) (at : ℕ) (n : TreeNode) → slice_get tree at ≡ Some n → found_at tree (Some at) ≡ Some (record { at = at; node = n })
at_found tree at n e = ap (found_with at) e

entry_is : {A : Type 0} (o : Option (Option A)) (x : A) → entry_of o ≡ Some x → o ≡ Some (Some x)
entry_is None x e = absurd (cc)
entry_is (Some y) x e = ap Some e

-- the parent
pub parent_found : (tree : List TreeNode) (ps : List (Option ℕ)) (p c : ℕ) (n : TreeNode) → AreParents tree ps → IsChild tree p c → slice_get tree p ≡ Some n → found_in tree ps c ≡ Some (record { at = p; node = n })
parent_found tree ps p c n ok under e = ap (λ x. found_at tree (entry_of x)) (ok.complete p c under) ∙ at_found tree p n e

pub found_parent : (tree : List TreeNode) (ps : List (Option ℕ)) (c : ℕ) (f : Found) → AreParents tree ps → found_in tree ps c ≡ Some f → IsChild tree f.at c × (slice_get tree f.at ≡ Some f.node)
found_parent tree ps c f ok e =
    let is = found_there tree (entry_of (slice_get ps c)) f e in
    (ok.sound f.at c (entry_is (slice_get ps c) f.at is.link_is), is.there)

-- the child that is looked for
pub key_found : (tree : List TreeNode) (keys : List (Option ℕ)) (p c : ℕ) (m n : TreeNode) → AreKeys tree keys → IsChild tree p c → slice_get tree p ≡ Some m → slice_get tree c ≡ Some n → fits (key_of m.kind) n.kind ≡ true → found_in tree keys p ≡ Some (record { at = c; node = n })
key_found tree keys p c m n ok under e f fit =
    let key : IsKeyChild tree p c = record { above = m; below = n; under = under; above_there = e; below_there = f; fits = fit } in
    ap (λ x. found_at tree (entry_of x)) (ok.complete p c key) ∙ at_found tree c n f

pub record FoundKey (tree : List TreeNode) (p : ℕ) (m : TreeNode) (f : Found) : Type 0 where
  pub under : IsChild tree p f.at
  pub there : slice_get tree f.at ≡ Some f.node
  pub fits : fits (key_of m.kind) f.node.kind ≡ true

pub found_key : (tree : List TreeNode) (keys : List (Option ℕ)) (p : ℕ) (m : TreeNode) (f : Found) → AreKeys tree keys → slice_get tree p ≡ Some m → found_in tree keys p ≡ Some f → FoundKey tree p m f
found_key tree keys p m f ok e g =
    let is = found_there tree (entry_of (slice_get keys p)) f g in
    let key = ok.sound p f.at (entry_is (slice_get keys p) f.at is.link_is) in
    let above = some_is key.above m (sym key.above_there ∙ e) in
    let below = some_is key.below f.node (sym key.below_there ∙ is.there) in
    record {
      under = key.under;
      there = is.there;
      fits = subst (λ x. fits (key_of x.kind) f.node.kind ≡ true) above (subst (λ x. fits (key_of key.above.kind) x.kind ≡ true) below key.fits);
    }

pub get_some : {A : Type 0} (xs : List A) (k : ℕ) → k < length xs → (x : A) × (slice_get xs k ≡ Some x)
get_some [] k h = absurd (omega arith)
get_some (x ∷ xs) zero h = (x, refl)
get_some (x ∷ xs) (suc k) h = get_some xs k (omega arith)
