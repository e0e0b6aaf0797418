-- Arguments of calls by index.
use Rattle.std.proofs.Common.{ℕ, List, Option, Some, None, length}
use Rattle.std.specs.Prelude.{IfSome}
use Rattle.argot_plain.specs.Code.{Hands, by_call, by_go, by_defer}
use Rattle.argot_plain.specs.declared.instructions.Callee.{Callee}
use Rattle.argot_plain.specs.declared.instructions.Kind.{Kind}
use Rattle.argot_plain.specs.declared.instructions.Kind.TheVariants.{Call, Go, Defer}
use Rattle.argot_flow_ends.specs.Ends.{IsArgumentBehind, IsArgumentAt}

pub told : (kind : Kind) (callee : Callee) (args : List ℕ) (n index : ℕ) → Hands kind callee args n → (o : Option ℕ) → IfSome o (IsArgumentBehind callee args n index) → IfSome o (IsArgumentAt kind index)
told kind callee args n index h None s = s
told kind callee args n index h (Some k) s = (callee, args, n, h, s)

pub of_call : (to args : List ℕ) (callee : Callee) (index k : ℕ) → IsArgumentAt (Call to callee args) index k → IsArgumentBehind callee args (length to) index k
of_call to args callee index k (_, _, _, by_call, b) = b

pub of_go : (args : List ℕ) (callee : Callee) (index k : ℕ) → IsArgumentAt (Go callee args) index k → IsArgumentBehind callee args 0 index k
of_go args callee index k (_, _, _, by_go, b) = b

pub of_defer : (args : List ℕ) (callee : Callee) (index k : ℕ) → IsArgumentAt (Defer callee args) index k → IsArgumentBehind callee args 0 index k
of_defer args callee index k (_, _, _, by_defer, b) = b
