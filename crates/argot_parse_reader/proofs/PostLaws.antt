-- The nodes of trees, each behind its children.
use Rattle.std.proofs.Common.{◌≡◌, ℕ, ◌+◌, ◌-◌, List, [], ◌∷◌, ◌++◌, length, refl, sym, ap, ◌∙◌, arith, append_assoc, length-append}
use Rattle.std.proofs.lemmas.List.{append-nil}
use Rattle.argot_tree.specs.declared.node_kind.NodeKind.{NodeKind}
use Rattle.argot_tree.specs.Forests.{Forest, leaf, tree, beside, one, size, last_token}
use Rattle.argot_parse_reader.specs.declared.post.Post.{Post}
use Rattle.argot_parse_reader.specs.Posts.{posts}
use Rattle.argot_parse_reader.specs.Reading.{closed, put}

-- trees side by side
pub posts-beside : (x y : Forest) → posts (beside x y) ≡ posts x ++ posts y
posts-beside leaf y = refl
posts-beside (tree kind token last kids rest) y =
    ap (λ ps. posts kids ++ (record { kind = kind; token = token; last = last; size = size kids + 1 } ∷ ps)) (posts-beside rest y)
    ∙ sym (append_assoc (posts kids) _ (posts y))

-- there are as many as the trees have nodes
pub length-posts : (x : Forest) → length (posts x) ≡ size x
length-posts leaf = refl
length-posts (tree kind token last kids rest) =
    omega (arith, length-append (posts kids) (record { kind = kind; token = token; last = last; size = size kids + 1 } ∷ posts rest), length-posts kids, length-posts rest)

-- a node over the nodes since a mark
pub closed_posts : (kind : NodeKind) (from to mark : ℕ) (out new : List Post) (x : Forest) → new ≡ out ++ posts x → mark ≡ length out → closed kind from to mark new ≡ out ++ posts (one kind from to x)
closed_posts kind from to mark out new x e m =
    let s : length new + 1 - mark ≡ size x + 1 = omega (arith, ap length e, length-append out (posts x), length-posts x, m) in
    (λ i. e i ++ record { kind = kind; token = from; last = last_token from to; size = s i } ∷ []) ∙ append_assoc out (posts x) _

-- a node without children
pub put_posts : (kind : NodeKind) (from to : ℕ) (out : List Post) → put kind from to out ≡ out ++ posts (one kind from to leaf)
put_posts kind from to out = closed_posts kind from to (length out) out out leaf (sym (append-nil out)) refl

-- the nodes of more trees behind those of some
pub joined : (base out new : List Post) (x y : Forest) → out ≡ base ++ posts x → new ≡ out ++ posts y → new ≡ base ++ posts (beside x y)
joined base out new x y e f =
    f ∙ ap (λ o. o ++ posts y) e ∙ append_assoc base (posts x) (posts y) ∙ ap (λ ps. base ++ ps) (sym (posts-beside x y))

-- trees side by side group either way
pub beside_assoc : (x y z : Forest) → beside (beside x y) z ≡ beside x (beside y z)
beside_assoc leaf y z = refl
beside_assoc (tree kind token last kids rest) y z = ap (tree kind token last kids) (beside_assoc rest y z)

-- the nodes of three lists of trees, the first two of which were put together before
pub joined_last : (base out new : List Post) (x y z : Forest) → out ≡ base ++ posts (beside x y) → new ≡ out ++ posts z → new ≡ base ++ posts (beside x (beside y z))
joined_last base out new x y z e f =
    joined base out new (beside x y) z e f ∙ ap (λ w. base ++ posts w) (beside_assoc x y z)
