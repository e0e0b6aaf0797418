-- What an instruction takes over from a register to a node of its own, kind by kind: where a reference is copied, as the column
-- "Points-to" has it, and where data moves, as the plain edges of the column "Edges" have it.
use Rattle.std.specs.Prelude.{◌≡◌, ◌⊎◌, ℕ, ◌+◌, true, false, List, [], ◌∷◌, ◌++◌, Some, length, slice_get}
use Rattle.argot_plain.specs.Lists.{In, member}
use Rattle.argot_plain.specs.Code.{handed_values}
use Rattle.argot_plain.specs.Machine.{is_covered}
use Rattle.argot_plain.specs.declared.instructions.Kind.{Kind}
use Rattle.argot_plain.specs.declared.instructions.Kind.TheVariants.{Op, Move, Join, Step, Read, Write, Grow, Assert, Call, Go, Defer, Leave, Passed}
use Rattle.argot_plain.specs.declared.problems.Problem.{Problem}
use Rattle.argot_text.specs.declared.path.PathStep.{PathStep}

-- a part with this path and register stands in the list, and no later one replaces what stands at q
pub data Lasts (path : List PathStep) (r : ℕ) (q : List PathStep) : List (List PathStep × ℕ) → Type 0 where
  last_here : {x : List PathStep × ℕ} {parts : List (List PathStep × ℕ)} → x.0 ≡ path → x.1 ≡ r → is_covered q parts ≡ false → Lasts path r q (x ∷ parts)
  last_there : {x : List PathStep × ℕ} {parts : List (List PathStep × ℕ)} → Lasts path r q parts → Lasts path r q (x ∷ parts)

-- an instruction of this kind copies what the register r holds at q to its node (k, q')
abbrev pub Copies : Kind → ℕ → List PathStep → ℕ → List PathStep → Type 0
Copies (Move to from path) r q k q' = (r ≡ from) × (k ≡ 0) × (q ≡ path ++ q')
Copies (Join to parts) r q k q' = (path : List PathStep) × Lasts path r q' parts × (k ≡ 0) × (q' ≡ path ++ q)
Copies (Write at from) r q k q' = (r ≡ from) × (k ≡ 0) × (q' ≡ q)
Copies (Grow to at items) r q k q' = ((r ≡ at) × (k ≡ 0) × (q ≡ []) × (q' ≡ [])) ⊎ (In r items × (k ≡ 1) × (q' ≡ q))
Copies (Call to callee args) r q k q' = (n : ℕ) × (slice_get (handed_values callee args) n ≡ Some r) × (k ≡ length to + n) × (q' ≡ q)
Copies (Go callee args) r q k q' = (slice_get (handed_values callee args) k ≡ Some r) × (q' ≡ q)
Copies (Defer callee args) r q k q' = (slice_get (handed_values callee args) k ≡ Some r) × (q' ≡ q)
Copies (Leave from) r q k q' = (slice_get from k ≡ Some r) × (q' ≡ q)
Copies (Passed to callee) r q k q' = (r ≡ to) × (k ≡ 0) × (q' ≡ q)
Copies _ r q k q' = ⊥

-- an instruction of this kind moves data that the register r holds at q to its node (k, q')
abbrev pub Takes : Problem → Kind → ℕ → List PathStep → ℕ → List PathStep → Type 0
Takes pr (Op to from) r q k q' = (member r from ≡ true) × (k ≡ 0) × (q' ≡ [])
Takes pr (Step to from path) r q k q' = (r ≡ from) × (k ≡ 0) × (q' ≡ q)
Takes pr (Read to at leaves) r q k q' = (r ≡ at) × (k ≡ 0) × (q ≡ []) × In q' leaves
Takes pr (Assert to from target) r q k q' = (r ≡ from) × (k ≡ 0) × (q' ≡ q)
Takes pr (Passed to callee) r q k q' = (r ≡ to) × (k ≡ 0) × (q' ≡ q) × (member callee pr.validators ≡ false)
Takes pr kind r q k q' = Copies kind r q k q'
