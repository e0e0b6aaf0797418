-- Edge lists, over any set of nodes and edges, and when one is realizable.
use Rattle.std.specs.Prelude.{◌≡◌, ℕ, ◌==◌, List, [], ◌∷◌, Option, Some, None, if◌then◌else◌}
use Rattle.argot_facts.specs.declared.graphs.EdgeKind.{EdgeKind}
use Rattle.argot_facts.specs.declared.graphs.EdgeKind.TheVariants.{Plain, Call, Return, Reset}

-- the open calls behind an edge, the last one first, or None where it is refused
abbrev pub after : EdgeKind → List ℕ → Option (List ℕ)
after Plain os = Some os
after (Call c) os = Some (c ∷ os)
after (Return c) [] = Some []
after (Return c) (o ∷ os) = if o == c then Some os else None
after Reset os = Some []

abbrev pub after_all : List EdgeKind → Option (List ℕ) → Option (List ℕ)
after_all [] os = os
after_all (k ∷ ks) None = None
after_all (k ∷ ks) (Some os) = after_all ks (after k os)

-- the open calls behind an edge list, which is realizable where there are any such
abbrev pub open_calls : List EdgeKind → Option (List ℕ)
open_calls ks = after_all ks (Some [])

module _ {N : Type 0} (E : N → EdgeKind → N → Type 0) where
  -- edges of these kinds lead from one node to another, each to the next
  pub data Leads : N → List EdgeKind → N → Type 0 where
    stay : {a : N} → Leads a [] a
    go : {a b c : N} {k : EdgeKind} {ks : List EdgeKind} → E a k b → Leads b ks c → Leads a (k ∷ ks) c

  -- a realizable edge list joins a to b
  pub record Joins (a b : N) : Type 0 where
    pub kinds : List EdgeKind
    pub calls : List ℕ
    pub leads : Leads a kinds b
    pub realizable : open_calls kinds ≡ Some calls
