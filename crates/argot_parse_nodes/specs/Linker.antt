-- What a linker has come to; its lists have the newest item last.
use Rattle.std.specs.Prelude.{◌≡◌, ℕ, ◌+◌, [], None, reverse}
use Rattle.argot_parse_nodes.specs.declared.linking.Linker.{Linker}
use Rattle.argot_parse_nodes.specs.Links.{Linking}

abbrev pub seen : Linker → Linking
seen l = record { inner = l.inner; outer = reverse l.outer.items; at = l.at; nodes = reverse l.nodes.items }

-- nothing is linked yet of so many nodes, and one that is never done waits for them
pub record IsUnlinked (l : Linker) (count : ℕ) : Type 0 where
  pub left : l.inner.left ≡ count + 1
  pub next : l.inner.next ≡ None
  pub child : l.inner.child ≡ None
  pub at : l.at ≡ count
  pub outer : l.outer.items ≡ []
  pub nodes : l.nodes.items ≡ []
