-- What waits to be looked at again while tables grow.
use Rattle.std.specs.Prelude.{◌≡◌, ◌⊎◌, ℕ, true}
use Rattle.argot_links.specs.Members.{has as waits}
use Rattle.argot_links.specs.Table.{has}
use Rattle.argot_points.specs.declared.system.System.{System}
use Rattle.argot_points.specs.declared.system.Tables.{Tables}
use Rattle.argot_points.specs.Solved.{function_key}

-- the row or the function with this key waits
abbrev pub Waits : Tables → ℕ → Type 0
Waits t k = waits t.grown.items k ≡ true

-- what waited still waits, what was there still is, and what is new waits
pub record Advances (s : System) (old new : Tables) : Type 0 where
  pub waiting : (k : ℕ) → Waits old k → Waits new k
  pub refers : (r y : ℕ) → has old.refers r y ≡ true → has new.refers r y ≡ true
  pub live : (g : ℕ) → has old.live 0 g ≡ true → has new.live 0 g ≡ true
  pub new_refers : (r y : ℕ) → has new.refers r y ≡ true → (has old.refers r y ≡ true) ⊎ Waits new r
  pub new_live : (g : ℕ) → has new.live 0 g ≡ true → (has old.live 0 g ≡ true) ⊎ Waits new (function_key s g)
