-- Which rows a rule looks at, and when it needn't be looked at again.
use Rattle.std.specs.Prelude.{◌≡◌, ◌⊎◌, ℕ, ◌<◌, Bool, true, false, List, [], Some, length, slice_get, slice_index_or}
use Rattle.argot_links.specs.Members.{has as contains}
use Rattle.argot_facts.specs.declared.nodes.Node.{Node}
use Rattle.argot_points_rules.specs.declared.rules.Owned.{Owned}
use Rattle.argot_points_rules.specs.declared.rules.Rule.{Rule}
use Rattle.argot_points_rules.specs.declared.rules.Rule.TheVariants.{Put, Copy, Shift, Keep, Load, Store, Aim, Enter, Choose, Return, Fresh}
use Rattle.argot_points.specs.declared.system.System.{System}
use Rattle.argot_points.specs.declared.system.Tables.{Tables}
use Rattle.argot_points.specs.Advancing.{Waits}
use Rattle.argot_points.specs.Meaning.{IsRow}
use Rattle.argot_points.specs.Solved.{IsDone, function_key}

-- whether the rule looks at rows that only the tables name: what stands behind a reference, or what a target hands back
abbrev pub is_moving : Rule → Bool
is_moving (Load to at path) = true
is_moving (Return i by k path to) = true
is_moving _ = false

-- the nodes whose rows another rule looks at
abbrev pub LooksAt : Rule → Node → Type 0
LooksAt (Put to site) a = ⊥
LooksAt (Copy to source) a = a ≡ source
LooksAt (Shift to source path) a = a ≡ source
LooksAt (Keep to source target) a = a ≡ source
LooksAt (Load to at path) a = ⊥
LooksAt (Store at path source) a = (a ≡ at) ⊎ (a ≡ source)
LooksAt (Aim i by) a = a ≡ by
LooksAt (Enter i by k path source) a = (a ≡ by) ⊎ (a ≡ source)
LooksAt (Choose i by k) a = a ≡ by
LooksAt (Return i by k path to) a = ⊥
LooksAt (Fresh i by to site) a = a ≡ by

-- a rule looks at the rows of these nodes, and at its function
pub data Reads (s : System) (o : Owned) : ℕ → Type 0 where
  by_row : {r : ℕ} → (a : Node) → LooksAt o.rule a → IsRow s r a → Reads s o r
  by_function : {k : ℕ} → k ≡ function_key s o.function → Reads s o k

-- a rule that stays where it is, is done where nothing waits that it looks at
abbrev pub IsSettled : System → Tables → Owned → Type 0
IsSettled s t o = ((k : ℕ) → Reads s o k → Waits t k → ⊥) → IsDone s t o

abbrev pub AllSettled : System → Tables → Type 0
AllSettled s t = (k : ℕ) (o : Owned) → slice_get s.rules.items k ≡ Some o → is_moving o.rule ≡ false → IsSettled s t o

-- and neither is this
abbrev pub IsSettledBut : System → Tables → ℕ → Owned → Type 0
IsSettledBut s t n o = ((k : ℕ) → Reads s o k → (Waits t k → ⊥) × (k ≡ n → ⊥)) → IsDone s t o

abbrev pub AllSettledBut : System → Tables → ℕ → Type 0
AllSettledBut s t n = (k : ℕ) (o : Owned) → slice_get s.rules.items k ≡ Some o → is_moving o.rule ≡ false → IsSettledBut s t n o

-- for each row and each function a list that has all rules that look at it
pub record HasUses (s : System) (lists : List (List ℕ)) : Type 0 where
  pub heads : length lists ≡ function_key s (length s.program.now.functions)
  pub all : (j k : ℕ) (o : Owned) → slice_get s.rules.items j ≡ Some o → is_moving o.rule ≡ false → Reads s o k → k < length lists → contains (slice_index_or lists k []) j ≡ true
  pub inside : (j k : ℕ) → contains (slice_index_or lists k []) j ≡ true → j < length s.rules.items

-- the list of this key has the rule
abbrev pub IsUsed : List (List ℕ) → ℕ → ℕ → Type 0
IsUsed lists k j = contains (slice_index_or lists k []) j ≡ true

-- as many lists, and nothing but the rule j is new
pub record AddsUses (old new : List (List ℕ)) (j : ℕ) : Type 0 where
  pub heads : length new ≡ length old
  pub kept : (k i : ℕ) → IsUsed old k i → IsUsed new k i
  pub only : (k i : ℕ) → IsUsed new k i → IsUsed old k i ⊎ (i ≡ j)
