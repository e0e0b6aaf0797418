-- Which sites escape: their objects may be reached by several goroutines.
use Rattle.std.specs.Prelude.{◌≡◌, ℕ, List, Some, slice_get}
use Rattle.argot_plain.specs.Code.{Code, IsAt}
use Rattle.argot_plain.specs.Nodes.{mark}
use Rattle.argot_plain.specs.declared.functions.Ident.{Ident}
use Rattle.argot_plain.specs.declared.instructions.Callee.{Callee}
use Rattle.argot_plain.specs.declared.instructions.Kind.TheVariants.{Go}
use Rattle.argot_text.specs.declared.position.Pos.{Pos}
use Rattle.argot_text.specs.declared.path.PathStep.{PathStep}
use Rattle.argot_facts.specs.Refers.{Fact, Holds, IsLivePlaceIn, NodeRefers, PlaceRefers, loc}

-- by these facts: a package variable's site, one to which what a live Go hands on refers, or one to which a location of an
-- escaping site does
pub data EscapesBy (p : Code) (F : Fact → Type 0) : ℕ → Type 0 where
  by_variable : {s : ℕ} → (k : ℕ) → (ident : Ident) → (at : Pos) → slice_get p.globals k ≡ Some (ident, at, s) → EscapesBy p F s
  by_go : {s : ℕ} → (i k : ℕ) → (q path : List PathStep) → (callee : Callee) → (args : List ℕ) → IsLivePlaceIn p F i → IsAt p i (Go callee args)
      → F (NodeRefers (mark i k q) (loc s path)) → EscapesBy p F s
  by_location : {s : ℕ} → (o : ℕ) → (q path : List PathStep) → EscapesBy p F o → F (PlaceRefers (loc o q) (loc s path)) → EscapesBy p F s

-- by the facts of the program
abbrev pub Escapes : Code → ℕ → Type 0
Escapes p = EscapesBy p (Holds p)
