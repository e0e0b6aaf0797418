-- Facts that are closed under the rules.
use Rattle.std.specs.Prelude.{◌≡◌, ℕ, ◌+◌, ◌<◌, ◌≤◌, List, Some, slice_get}
use Rattle.argot_facts.specs.declared.graphs.Edge.{Edge}
use Rattle.argot_facts.specs.declared.graphs.EdgeKind.TheVariants.{Plain, Call, Return}
use Rattle.argot_facts.specs.declared.summaries.Same.{Same}
use Rattle.argot_summary.specs.Finding.{IsThere}
use Rattle.argot_summary.specs.Stepping.{Edged}
use Rattle.argot_summary.specs.declared.net.Net.{Net}

-- each node in which a call edge ends reaches itself
abbrev pub HasStarts : Net → List Same → Type 0
HasStarts x fs = (m c p : ℕ) → Edged x m (Call c) p → IsThere fs p p 0

-- what the first facts give is there, with the rank that they give it
pub record AreClosed (x : Net) (fs : List Same) (count : ℕ) : Type 0 where
  pub plain : (i n : ℕ) (f : Same) → i < count → slice_get fs i ≡ Some f → Edged x f.to Plain n
      → IsThere fs f.from n (f.rank + 1)
  pub over : (i j c n k : ℕ) (f g : Same) → i < count → j < count → slice_get fs i ≡ Some f → slice_get fs j ≡ Some g
      → Edged x f.to (Call c) g.from → Edged x g.to (Return c) n → f.rank ≤ k → g.rank ≤ k → IsThere fs f.from n (k + 1)

-- so does the end of the edge k, if it is a call
abbrev pub HasStart : Net → List Same → ℕ → Type 0
HasStart x fs k = (c : ℕ) (e : Edge) → slice_get x.edges.now k ≡ Some e → e.kind ≡ Call c → IsThere fs e.to e.to 0
