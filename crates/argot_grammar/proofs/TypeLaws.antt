-- One turn of a row of types.
use Rattle.std.proofs.Common.{◌≡◌, ℕ, ◌+◌, ◌-◌, ◌<◌, List, length, true, false, None, refl, ap, ◌∙◌}
use Rattle.argot_tree.specs.declared.mark.Mark.TheVariants as marks
use Rattle.argot_tree.specs.declared.node_kind.NodeKind.TheVariants as nodes
use Rattle.argot_tree.specs.declared.token.Token.{Token}
use Rattle.argot_tree.specs.declared.token.TokenKind.TheVariants as kinds
use Rattle.argot_tree.specs.Grammar.{AnyType, OnlyType}
use Rattle.argot_parse_reader.specs.declared.post.Post.{Post}
use Rattle.argot_parse_reader.specs.Reading.{The, Answer, ◌>>=◌, ending, is_at, is_mark}
use Rattle.argot_parse_reader.specs.TypeReader.{type_parens_by, formed_by}
use Rattle.argot_parse_reader.specs.Reader.{read}
use Rattle.argot_parse_reader.proofs.Steps.{read_more}

module _ (tokens : List Token) (n at : ℕ) (out : List Post) where
  pub star_reads : 0 < n → is_at tokens at kinds.Name ≡ false → is_mark tokens at marks.OpenParen ≡ false → is_mark tokens at marks.Star ≡ true → read tokens n (The AnyType) at out ≡ (read tokens (n - 1) (The AnyType) (at + 1) out >>= ending nodes.PointerType at (length out))
  star_reads more name paren star = read_more tokens n (The AnyType) at out more ∙ rw name (rw paren (rw star refl))

  pub parens_none : 0 < n → is_at tokens at kinds.Name ≡ false → is_mark tokens at marks.OpenParen ≡ true → type_parens_by tokens (read tokens (n - 1)) at out ≡ None → read tokens n (The AnyType) at out ≡ None
  parens_none more name paren none = read_more tokens n (The AnyType) at out more ∙ rw name (rw paren none)

  -- a type that is no expression is read by its front
  pub formed_reads : (answer : Answer) → 0 < n → formed_by tokens (read tokens (n - 1)) at out ≡ answer → read tokens n (The OnlyType) at out ≡ answer
  formed_reads answer more e = read_more tokens n (The OnlyType) at out more ∙ e

pub same_row : (tokens : List Token) (n m at to : ℕ) (out : List Post) → n ≡ m → at ≡ to → read tokens n (The AnyType) at out ≡ read tokens m (The AnyType) to out
same_row tokens n m at to out e f = ap (λ k. read tokens k (The AnyType) at out) e ∙ ap (λ k. read tokens m (The AnyType) k out) f
