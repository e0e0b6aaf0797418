-- The end of a list: its closer, with a comma before it or without.
use Rattle.std.proofs.Common.{◌≡◌, ℕ, ◌+◌, List, Bool, true, false, Option, Some}
use Rattle.std.specs.Prelude.{◌==◌}
use Rattle.argot_tree.specs.declared.mark.Mark.{Mark}
use Rattle.argot_tree.specs.declared.mark.Mark.TheVariants as marks
use Rattle.argot_tree.specs.declared.token.TokenKind.{TokenKind}
use Rattle.argot_tree.specs.declared.token.TokenKind.TheVariants as kinds
use Rattle.argot_tree.specs.declared.token.Token.{Token}
use Rattle.argot_tree.specs.TokensAt.{HasMark, Passes, MaybeComma, left_out, comma}
use Rattle.argot_parse_reader.specs.declared.post.Post.{Post}
use Rattle.argot_parse_reader.specs.Reading.{kind_number, is_mark, past_list, goes_on}
use Rattle.argot_parse_reader.proofs.Exact.Tokens.{Not, other, at_mark, by_mark, EndsList, closed_here, comma_before}

module _ (tokens : List Token) where
  -- what passes at the closer and at a comma passes at the end
  pub end_passes : {closer : Mark} {at : ℕ} (test : Option TokenKind → Bool) → EndsList tokens closer at → test (Some (kinds.Mark closer)) ≡ true → test (Some (kinds.Mark marks.Comma)) ≡ true → Passes tokens test at
  end_passes test (closed_here h) p q = by_mark test h p
  end_passes test (comma_before h i) p q = by_mark test h q

  pub end_not : {closer : Mark} {at : ℕ} (kind : TokenKind) → EndsList tokens closer at → (kind_number (kinds.Mark closer) == kind_number kind) ≡ false → (kind_number (kinds.Mark marks.Comma) == kind_number kind) ≡ false → Not tokens at kind
  end_not kind (closed_here h) p q = other kind (at_mark h) p
  end_not kind (comma_before h i) p q = other kind (at_mark h) q

  -- the closers
  pub data Closer : Mark → Type 0 where
    paren : Closer marks.CloseParen
    brace : Closer marks.CloseBrace

  -- the list doesn't go on there
  pub list_stays : {closer : Mark} {at : ℕ} → Closer closer → EndsList tokens closer at → goes_on tokens closer at ≡ false
  list_stays paren (closed_here h) = simp h.there
  list_stays paren (comma_before h i) = simp (h.there, i.there)
  list_stays brace (closed_here h) = simp h.there
  list_stays brace (comma_before h i) = simp (h.there, i.there)

  -- and it does where no closer stands behind a comma
  pub list_goes : {at : ℕ} (closer : Mark) → HasMark tokens at marks.Comma → is_mark tokens (at + 1) closer ≡ false → goes_on tokens closer at ≡ true
  list_goes closer h e = simp (h.there, e)

  -- its closer is passed
  pub passed : {closer : Mark} {from to : ℕ} (new : List Post) → Closer closer → MaybeComma tokens from to → HasMark tokens to closer → past_list tokens closer (from, new) ≡ Some (to + 1, new)
  passed new paren left_out h = simp h.there
  passed new paren (comma c) h = simp (c.there, h.there)
  passed new brace left_out h = simp h.there
  passed new brace (comma c) h = simp (c.there, h.there)
