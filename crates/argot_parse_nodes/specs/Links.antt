-- How nodes behind their children become nodes before them, from right to left.
use Rattle.std.specs.Prelude.{ℕ, ◌-◌, List, [], ◌∷◌, Some, None, ◌==◌, if◌then◌else◌}
use Rattle.argot_tree.specs.declared.tree.TreeNode.{TreeNode}
use Rattle.argot_parse_reader.specs.declared.post.Post.{Post}
use Rattle.argot_parse_nodes.specs.declared.pending.Pending.{Pending}

-- the node of what is pending, once all its children are there
abbrev pub node_of : Pending → TreeNode
node_of e = record { kind = e.post.kind; token = e.post.token; last = e.post.last; first = e.child; next = e.next }

-- the nodes so far, from a number on, and what is pending: the innermost, and those around it
pub record Linking : Type 0 where
  pub inner : Pending
  pub outer : List Pending
  pub at : ℕ
  pub nodes : List TreeNode

-- what has all its children is put before them
abbrev pub settle : Pending → List Pending → ℕ → List TreeNode → Linking
settle e [] at nodes = record { inner = e; outer = []; at = at; nodes = nodes }
settle e (o ∷ outer) at nodes =
    if e.left == 0 then settle (record o { child = Some (at - 1) }) outer (at - 1) (node_of e ∷ nodes)
    else record { inner = e; outer = o ∷ outer; at = at; nodes = nodes }

-- a node is pending inside the innermost
abbrev pub take_post : Post → Linking → Linking
take_post p l =
    settle (record { post = p; left = p.size - 1; next = l.inner.child; child = None }) (record l.inner { left = l.inner.left - p.size } ∷ l.outer) l.at l.nodes

-- the nodes from right to left
abbrev pub linked : List Post → Linking → Linking
linked [] l = l
linked (p ∷ ps) l = linked ps (take_post p l)
