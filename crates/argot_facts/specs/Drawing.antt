-- The edges for which the hops of a trace stand.
use Rattle.std.specs.Prelude.{◌≡◌, ℕ, List, [], ◌∷◌, Some}
use Rattle.argot_facts.specs.Lists.{open_calls}
use Rattle.argot_facts.specs.Traces.{hop}
use Rattle.argot_facts.specs.declared.findings.Hop.{Hop}
use Rattle.argot_facts.specs.declared.findings.HopKind.{HopKind}
use Rattle.argot_facts.specs.declared.findings.HopKind.TheVariants as drawn
use Rattle.argot_facts.specs.declared.graphs.EdgeKind.{EdgeKind}
use Rattle.argot_facts.specs.declared.graphs.EdgeKind.TheVariants.{Plain, Call, Return, Reset}

-- the kind of the hop that stands for an edge; which call it is isn't shown
abbrev pub drawn_kind : EdgeKind → HopKind
drawn_kind Plain = drawn.Plain
drawn_kind (Call c) = drawn.Call
drawn_kind (Return c) = drawn.Return
drawn_kind Reset = drawn.Reset

module _ (E : ℕ → EdgeKind → ℕ → Type 0) where
  -- the hops stand for edges of these kinds, which lead from a to b
  pub data Draws : ℕ → List Hop → List EdgeKind → ℕ → Type 0 where
    drawn_none : {a : ℕ} → Draws a [] [] a
    drawn_edge : {a b c : ℕ} {hops : List Hop} {kinds : List EdgeKind} → (kind : EdgeKind) → E a kind b
        → Draws b hops kinds c → Draws a (hop (drawn_kind kind) b ∷ hops) (kind ∷ kinds) c

  -- the trace starts at s, and its other hops stand for a realizable list from there to n
  pub record IsRealizable (s n : ℕ) (trace : List Hop) : Type 0 where
    pub hops : List Hop
    pub is : trace ≡ hop drawn.Start s ∷ hops
    pub kinds : List EdgeKind
    pub draws : Draws s hops kinds n
    pub calls : List ℕ
    pub realizable : open_calls kinds ≡ Some calls
