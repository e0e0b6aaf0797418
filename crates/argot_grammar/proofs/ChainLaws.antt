-- Rows of `if`s and of labels that were begun.
use Rattle.std.proofs.Common.{◌≡◌, ℕ, ◌+◌, ◌-◌, ◌<◌, List, [], ◌∷◌, ◌++◌, length, reverse, true, false, Some, None, refl, ap, ◌∙◌}
use Rattle.std.proofs.lemmas.List.{reverse-append}
use Rattle.argot_tree.specs.declared.keyword.Keyword.TheVariants as words
use Rattle.argot_tree.specs.declared.node_kind.NodeKind.TheVariants as nodes
use Rattle.argot_tree.specs.declared.token.Token.{Token}
use Rattle.argot_tree.specs.Grammar.{Block}
use Rattle.argot_parse_reader.specs.declared.post.Post.{Post}
use Rattle.argot_parse_reader.specs.Reading.{The, Ifs, Labels, closed_all, put, is_word}
use Rattle.argot_parse_reader.specs.StatementReader.{labels, condition_by, else_by}
use Rattle.argot_parse_reader.specs.Reader.{read}
use Rattle.argot_parse_reader.proofs.Steps.{read_more}

-- the newest of what was begun
pub pushed : (begun more : List (ℕ × ℕ)) (item : ℕ × ℕ) → more ≡ begun ++ item ∷ [] → reverse more ≡ item ∷ reverse begun
pushed begun more item e = ap reverse e ∙ reverse-append begun (item ∷ [])

module _ (tokens : List Token) (n : ℕ) (begun : List (ℕ × ℕ)) (at mid : ℕ) (out opened : List Post) where
  -- an `if` is read up to its block, with it or without
  pub ifs_to : (end : ℕ) (new : List Post) → 0 < n → is_word tokens at words.If ≡ true → condition_by tokens (read tokens (n - 1)) (at + 1) out ≡ Some (mid, opened) → read tokens (n - 1) (The Block) mid opened ≡ Some (end, new) → read tokens n (Ifs begun) at out ≡ else_by tokens (read tokens (n - 1)) ((at, length out) ∷ begun) (end, new)
  ifs_to end new more word reads block =
      read_more tokens n (Ifs begun) at out more ∙ rw word (rw reads (rw block refl))

  pub ifs_end : 0 < n → is_word tokens at words.If ≡ true → condition_by tokens (read tokens (n - 1)) (at + 1) out ≡ Some (mid, opened) → read tokens (n - 1) (The Block) mid opened ≡ None → read tokens n (Ifs begun) at out ≡ None
  ifs_end more word reads block =
      read_more tokens n (Ifs begun) at out more ∙ rw word (rw reads (rw block refl))

module _ (tokens : List Token) (n : ℕ) (begun : List (ℕ × ℕ)) (end : ℕ) (out : List Post) where
  pub no_else : is_word tokens end words.Else ≡ false → else_by tokens (read tokens n) begun (end, out) ≡ Some (end, closed_all nodes.If begun end out)
  no_else e = rw e refl

  pub else_if : is_word tokens end words.Else ≡ true → is_word tokens (end + 1) words.If ≡ true → else_by tokens (read tokens n) begun (end, out) ≡ read tokens n (Ifs begun) (end + 1) out
  else_if e f = rw e (rw f refl)

  pub else_block : (to : ℕ) (new : List Post) → is_word tokens end words.Else ≡ true → is_word tokens (end + 1) words.If ≡ false → read tokens n (The Block) (end + 1) out ≡ Some (to, new) → else_by tokens (read tokens n) begun (end, out) ≡ Some (to, closed_all nodes.If begun to new)
  else_block to new e f block = rw e (rw f (rw block refl))

  pub else_none : is_word tokens end words.Else ≡ true → is_word tokens (end + 1) words.If ≡ false → read tokens n (The Block) (end + 1) out ≡ None → else_by tokens (read tokens n) begun (end, out) ≡ None
  else_none e f block = rw e (rw f (rw block refl))

-- one more label
pub labels_to : (tokens : List Token) (n : ℕ) (begun : List (ℕ × ℕ)) (at : ℕ) (out : List Post) → 0 < n → labels tokens at ≡ true → read tokens n (Labels begun) at out ≡ read tokens (n - 1) (Labels ((at, length out) ∷ begun)) (at + 2) (put nodes.DeclName at (at + 1) out)
labels_to tokens n begun at out more label = read_more tokens n (Labels begun) at out more ∙ rw label refl
