-- The nodes of trees, each behind its children.
use Rattle.std.specs.Prelude.{◌+◌, List, [], ◌∷◌, ◌++◌}
use Rattle.argot_tree.specs.Forests.{Forest, leaf, tree, size}
use Rattle.argot_parse_reader.specs.declared.post.Post.{Post}

abbrev pub posts : Forest → List Post
posts leaf = []
posts (tree kind token last kids rest) =
    posts kids ++ (record { kind = kind; token = token; last = last; size = size kids + 1 } ∷ posts rest)
