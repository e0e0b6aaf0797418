-- Nodes over the nodes of some trees side by side.
use Rattle.std.proofs.Common.{◌≡◌, ℕ, ◌+◌, List, ◌++◌, length, refl, ◌∙◌}
use Rattle.argot_tree.specs.declared.node_kind.NodeKind.{NodeKind}
use Rattle.argot_tree.specs.declared.node_kind.NodeKind.TheVariants as nodes
use Rattle.argot_tree.specs.Forests.{Forest, leaf, beside, one}
use Rattle.argot_parse_reader.specs.declared.post.Post.{Post}
use Rattle.argot_parse_reader.specs.Posts.{posts}
use Rattle.argot_parse_reader.specs.Reading.{closed, put}
use Rattle.argot_parse_reader.proofs.PostLaws.{closed_posts, put_posts, joined}

pub two : (out : List Post) (x y : Forest) → (out ++ posts x) ++ posts y ≡ out ++ posts (beside x y)
two out x y = joined out (out ++ posts x) _ x y refl refl

pub three : (out : List Post) (x y z : Forest) → ((out ++ posts x) ++ posts y) ++ posts z ≡ out ++ posts (beside x (beside y z))
three out x y z = two (out ++ posts x) y z ∙ two out x (beside y z)

pub four : (out : List Post) (x y z w : Forest) → (((out ++ posts x) ++ posts y) ++ posts z) ++ posts w ≡ out ++ posts (beside x (beside y (beside z w)))
four out x y z w = three (out ++ posts x) y z w ∙ two out x (beside y (beside z w))

pub five : (out : List Post) (x y z w v : Forest) → ((((out ++ posts x) ++ posts y) ++ posts z) ++ posts w) ++ posts v ≡ out ++ posts (beside x (beside y (beside z (beside w v))))
five out x y z w v = four (out ++ posts x) y z w v ∙ two out x (beside y (beside z (beside w v)))

module _ (kind : NodeKind) (from to : ℕ) (out : List Post) where
  pub over : (x : Forest) → closed kind from to (length out) (out ++ posts x) ≡ out ++ posts (one kind from to x)
  over x = closed_posts kind from to (length out) out (out ++ posts x) x refl refl

  pub over_two : (x y : Forest) → closed kind from to (length out) ((out ++ posts x) ++ posts y) ≡ out ++ posts (one kind from to (beside x y))
  over_two x y = closed_posts kind from to (length out) out _ (beside x y) (two out x y) refl

  pub over_three : (x y z : Forest) → closed kind from to (length out) (((out ++ posts x) ++ posts y) ++ posts z) ≡ out ++ posts (one kind from to (beside x (beside y z)))
  over_three x y z = closed_posts kind from to (length out) out _ (beside x (beside y z)) (three out x y z) refl

  pub over_four : (x y z w : Forest) → closed kind from to (length out) ((((out ++ posts x) ++ posts y) ++ posts z) ++ posts w) ≡ out ++ posts (one kind from to (beside x (beside y (beside z w))))
  over_four x y z w = closed_posts kind from to (length out) out _ (beside x (beside y (beside z w))) (four out x y z w) refl

  pub over_five : (x y z w v : Forest) → closed kind from to (length out) (((((out ++ posts x) ++ posts y) ++ posts z) ++ posts w) ++ posts v) ≡ out ++ posts (one kind from to (beside x (beside y (beside z (beside w v)))))
  over_five x y z w v = closed_posts kind from to (length out) out _ (beside x (beside y (beside z (beside w v)))) (five out x y z w v) refl

-- a declared name
abbrev pub declared : ℕ → Forest
declared at = one nodes.DeclName at (at + 1) leaf

pub names_it : (at : ℕ) (out : List Post) → put nodes.DeclName at (at + 1) out ≡ out ++ posts (declared at)
names_it at out = put_posts nodes.DeclName at (at + 1) out
