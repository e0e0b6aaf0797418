-- What each task promises of what it reads, and how the promises are put together.
use Rattle.std.proofs.Common.{◌≡◌, ℕ, ◌+◌, List, ◌++◌, length, Bool, true, false, cond, Some, None, refl, sym, subst, arith}
use Rattle.std.specs.Prelude.{◌⊎◌}
use Rattle.std.proofs.lemmas.List.{append-nil}
use Rattle.argot_tree.specs.declared.mark.Mark.{Mark}
use Rattle.argot_tree.specs.declared.mark.Mark.TheVariants as marks
use Rattle.argot_tree.specs.declared.node_kind.NodeKind.{NodeKind}
use Rattle.argot_tree.specs.declared.node_kind.NodeKind.TheVariants as nodes
use Rattle.argot_tree.specs.declared.token.Token.{Token}
use Rattle.argot_tree.specs.Forests.{Forest, leaf, one}
use Rattle.argot_tree.specs.TokensAt.{kind_at, HasMark, Passes, is_semicolon, MaybeComma, left_out, comma}
use Rattle.argot_tree.specs.Grammar.{Part, Level, Unary, Primary, Operand, OnlyType, Exprs, If, Stmt, Spells}
use Rattle.argot_parse_reader.specs.declared.post.Post.{Post}
use Rattle.argot_parse_reader.specs.Posts.{posts}
use Rattle.argot_parse_reader.specs.Reading.{Task, The, UnaryOr, PrimaryOr, OperandOr, Climb, Suffixes, MoreExprs, Ifs, Labels, Answer, Reader, ◌>>=◌, closed, put, closed_all, is_mark, past, past_list, behind_comma}
use Rattle.argot_parse_reader.specs.StatementReader.{at_semicolon, past_semicolon}
use Rattle.argot_parse_reader.proofs.TokenTests.{has_mark, passes}
use Rattle.argot_parse_reader.proofs.PostLaws.{closed_posts, put_posts}
use Rattle.argot_parse_reader.proofs.Holding.{Holds, none, bind, weaken, choose_then}

-- a part was read from one place up to another, and its nodes were put behind the others
abbrev pub Has : List Token → Part → ℕ → List Post → ℕ → List Post → Type 0
Has tokens p at out to new = (x : Forest) × Spells tokens p x at to × (new ≡ out ++ posts x)

-- a part, or a type that is no expression where one may stand there
abbrev pub IsOr : List Token → Part → Bool → Forest → ℕ → ℕ → Type 0
IsOr tokens p true x from to = Spells tokens p x from to ⊎ Spells tokens OnlyType x from to
IsOr tokens p false x from to = Spells tokens p x from to

abbrev pub HasOr : List Token → Part → Bool → ℕ → List Post → ℕ → List Post → Type 0
HasOr tokens p types at out to new = (x : Forest) × IsOr tokens p types x at to × (new ≡ out ++ posts x)

-- what a label stands before: a statement or nothing
abbrev pub IsLabeled : List Token → Forest → ℕ → ℕ → Type 0
IsLabeled tokens x from to = Spells tokens Stmt x from to ⊎ ((x ≡ one nodes.Empty from from leaf) × (to ≡ from))

-- an operand that was read from a token on, with its nodes since a mark
pub record IsOperand (tokens : List Token) (from mark at : ℕ) (out : List Post) : Type 0 where
  pub bare : Bool
  pub x : Forest
  pub base : List Post
  pub nodes : out ≡ base ++ posts x
  pub since : mark ≡ length base
  pub spelled : Spells tokens (Primary bare) x from at

-- the same of what goes on behind something
abbrev pub Reads : List Token → Task → ℕ → List Post → ℕ → List Post → Type 0
Reads tokens (The p) at out to new = Has tokens p at out to new
Reads tokens (UnaryOr types b) at out to new = HasOr tokens (Unary b) types at out to new
Reads tokens (PrimaryOr types b) at out to new = HasOr tokens (Primary b) types at out to new
Reads tokens (OperandOr types b) at out to new = HasOr tokens (Operand b) types at out to new
Reads tokens (Climb k limit b from mark) at out to new =
    (x : Forest) (base : List Post) → out ≡ base ++ posts x → mark ≡ length base → Spells tokens (Level k b) x from at → Spells tokens (Level limit b) x from at → Has tokens (Level k b) from base to new
Reads tokens (Suffixes from mark) at out to new = (h : IsOperand tokens from mark at out) → Has tokens (Primary h.bare) from h.base to new
Reads tokens (MoreExprs b) at out to new =
    (x : Forest) (from : ℕ) (base : List Post) → out ≡ base ++ posts x → Spells tokens (Level 1 b) x from at → Has tokens (Exprs b) from base to new
Reads tokens (Ifs begun) at out to new = (x : Forest) × Spells tokens If x at to × (new ≡ closed_all nodes.If begun to (out ++ posts x))
Reads tokens (Labels begun) at out to new = (x : Forest) × IsLabeled tokens x at to × (new ≡ closed_all nodes.Labeled begun to (out ++ posts x))

-- a reader keeps the promises
pub record IsSound (tokens : List Token) (rec : Reader) : Type 0 where
  pub kept : (task : Task) (at : ℕ) (out : List Post) → Holds (Reads tokens task at out) (rec task at out)

-- a node over what was read, or over no nodes
pub node : {tokens : List Token} {q : Part} (kind : NodeKind) (from : ℕ) {to : ℕ} (out : List Post) {new : List Post} {x : Forest} → Spells tokens q (one kind from to x) from to → new ≡ out ++ posts x → Has tokens q from out to (closed kind from to (length out) new)
node kind from {to} out {new} {x} s e = (one kind from to x, s, closed_posts kind from to (length out) out new x e refl)

pub bare : {tokens : List Token} {q : Part} (kind : NodeKind) (from : ℕ) {to : ℕ} (out : List Post) → Spells tokens q (one kind from to leaf) from to → Has tokens q from out to (put kind from to out)
bare kind from {to} out s = (one kind from to leaf, s, put_posts kind from to out)

-- nothing was read
pub nothing : {tokens : List Token} {q : Part} (at : ℕ) (out : List Post) → Spells tokens q leaf at at → Has tokens q at out at out
nothing at out s = (leaf, s, sym (append-nil out))

-- what is read next
pub then : {tokens : List Token} {rec : Reader} {Q : ℕ → List Post → Type 0} {f : ℕ × List Post → Answer} → IsSound tokens rec → (p : Part) (at : ℕ) (out : List Post) → ((r : ℕ × List Post) → Has tokens p at out r.0 r.1 → Holds Q (f r)) → Holds Q (rec (The p) at out >>= f)
then {tokens} {rec} g p at out k = bind (rec (The p) at out) (g.kept (The p) at out) k

pub last : {tokens : List Token} {rec : Reader} {Q : ℕ → List Post → Type 0} → IsSound tokens rec → (p : Part) (at : ℕ) (out : List Post) → ((to : ℕ) (new : List Post) → Has tokens p at out to new → Q to new) → Holds Q (rec (The p) at out)
last {tokens} {rec} g p at out k = weaken (rec (The p) at out) (g.kept (The p) at out) k

-- a place behind two tokens
pub behind_two : {tokens : List Token} {p : Part} {x : Forest} {to : ℕ} (at : ℕ) → Spells tokens p x (at + 1 + 1) to → Spells tokens p x (at + 2) to
behind_two {tokens} {p} {x} {to} at s =
    let e : at + 1 + 1 ≡ at + 2 = omega arith in
    subst (λ t. Spells tokens p x t to) e s

-- a token that must stand there
pub must : {tokens : List Token} {Q : ℕ → List Post → Type 0} (mark : Mark) (r : ℕ × List Post) (f : ℕ × List Post → Answer) → (HasMark tokens r.0 mark → Holds Q (f (r.0 + 1, r.1))) → Holds Q (past tokens mark r >>= f)
must {tokens} {Q} mark r f k =
    choose_then (is_mark tokens r.0 mark) (Some (r.0 + 1, r.1)) None f (λ e. k (has_mark r.0 mark e)) (λ _. none)

comma_there : {tokens : List Token} (at : ℕ) (b : Bool) → is_mark tokens at marks.Comma ≡ b → MaybeComma tokens at (cond b (at + 1) at)
comma_there at true e = comma (has_mark at marks.Comma e)
comma_there at false e = left_out

pub maybe_comma : (tokens : List Token) (at : ℕ) → MaybeComma tokens at (behind_comma tokens at)
maybe_comma tokens at = comma_there at (is_mark tokens at marks.Comma) refl

pub must_list : {tokens : List Token} {Q : ℕ → List Post → Type 0} (mark : Mark) (r : ℕ × List Post) (f : ℕ × List Post → Answer) → ((to : ℕ) → MaybeComma tokens r.0 to → HasMark tokens to mark → Holds Q (f (to + 1, r.1))) → Holds Q (past_list tokens mark r >>= f)
must_list {tokens} {Q} mark r f k = must mark (behind_comma tokens r.0, r.1) f (k (behind_comma tokens r.0) (maybe_comma tokens r.0))

pub must_semicolon : {tokens : List Token} {Q : ℕ → List Post → Type 0} (r : ℕ × List Post) (f : ℕ × List Post → Answer) → (Passes tokens is_semicolon r.0 → Holds Q (f (r.0 + 1, r.1))) → Holds Q (past_semicolon tokens r >>= f)
must_semicolon {tokens} {Q} r f k =
    choose_then (is_semicolon (kind_at tokens r.0)) (Some (r.0 + 1, r.1)) None f (λ e. k (passes e)) (λ _. none)

pub before_semicolon : {tokens : List Token} {Q : ℕ → List Post → Type 0} (r : ℕ × List Post) (f : ℕ × List Post → Answer) → (Passes tokens is_semicolon r.0 → Holds Q (f r)) → Holds Q (at_semicolon tokens r >>= f)
before_semicolon {tokens} {Q} r f k =
    choose_then (is_semicolon (kind_at tokens r.0)) (Some r) None f (λ e. k (passes e)) (λ _. none)
