-- What `front` finds is the longest piece, and where it finds none no piece begins.
use Rattle.std.proofs.Common.{◌≡◌, ℕ, ◌<◌, ◌≤◌, List, [], ◌∷◌, ◌++◌, length, take, drop, Bool, true, false, Option, Some, None, refl, sym, ap, ◌∙◌, subst, ⊎_elim, arith}
use Rattle.std.specs.Prelude.{◌==◌, ◌||◌, ◌&&◌, IfSome, IfNone}
use Rattle.std.specs.Char.{is_ascii_digit}
use Rattle.std.proofs.lemmas.Bool.{cond_both, and_parts, or_parts, or_cases, false≢true, eqb-true}
use Rattle.std.proofs.lemmas.Bool.Decides.{nat_tests}
use Rattle.std.proofs.lemmas.List.{take-append-drop, length-take-le}
use Rattle.argot_tree.specs.declared.mark.Mark.{Mark}
use Rattle.argot_tree.specs.declared.mark.Mark.TheVariants as marks
use Rattle.argot_tree.specs.declared.token.TokenKind.{TokenKind}
use Rattle.argot_tree.specs.declared.token.TokenKind.TheVariants as kinds
use Rattle.argot_tree.specs.declared.piece.Piece.{Piece}
use Rattle.argot_tree.specs.declared.piece.Piece.TheVariants as pieces
use Rattle.argot_tree.specs.Forms.{Matches}
use Rattle.argot_tree.specs.Names.{keyword_text}
use Rattle.argot_tree.specs.Marks.{mark_text}
use Rattle.argot_tree.specs.Comments.{begins_with, IsLineComment, EndsLine, is_directive, IsGeneralComment, opens_comment}
use Rattle.argot_tree.specs.Pieces.{IsToken, is_blank, IsPiece, StandsThere, EndsThere, IsFront, IsLongest, BeginsNone}
use Rattle.argot_lex.specs.Characters.{first_letter}
use Rattle.argot_lex.specs.Names.{name_front}
use Rattle.argot_lex.specs.Numbers.{sort_of, number_front}
use Rattle.argot_lex.specs.Literals.{begins, rune_front, raw_front, text_front}
use Rattle.argot_lex.specs.Comments.{line_kind, line_front, general_kind, general_front}
use Rattle.argot_lex.specs.Marks.{single, extend, grow, mark_front}
use Rattle.argot_lex.specs.Front.{as_token, token_of, sized, mark_of, dot_by, slash_front, quoted_front, other_front, front}
use Rattle.argot_lex.proofs.Fronting.{Fronts, fronts_within, fronts_holds}
use Rattle.argot_lex.proofs.Automaton.{NumberKind, IsWhole, IsFloating, IsImaginary, form_of, kind_of}
use Rattle.argot_lex.proofs.NumberLaws.{LeastOf, number_found, number_is, no_dot, number_begins, number_some}
use Rattle.argot_lex.proofs.NameLaws.{name_found, word_found, name_is}
use Rattle.argot_lex.proofs.TextLaws.{text_found, text_is, rune_found, rune_is, raw_found, raw_is}
use Rattle.argot_lex.proofs.CommentLaws.{line_found, line_is, general_found, general_is}
use Rattle.argot_lex.proofs.MarkLaws.{grow_least, mark_is}

-- the answer is at least as long as this piece, and the same piece if it is as long
abbrev AtLeast : Option (Piece × ℕ) → Piece → ℕ → Type 0
AtLeast None k n = ⊥
AtLeast (Some r) k n = (n ≤ r.1) × (n ≡ r.1 → k ≡ r.0)

exact : (o : Option (Piece × ℕ)) (k : Piece) (n : ℕ) → o ≡ Some (k, n) → AtLeast o k n
exact o k n e = subst (λ x. AtLeast x k n) (sym e) (omega arith, λ _. refl)

-- names
front_name : (text : List ℕ) → first_letter text ≡ true → front text ≡ Some (as_token (name_front text))
unfolding front
front_name [] h = absurd (false≢true h)
front_name (b ∷ bs) h = rw h refl

named_least : (text : List ℕ) (kind : TokenKind) (n : ℕ) → (first_letter text ≡ true) × ((n ≤ (name_front text).1) × (n ≡ (name_front text).1 → kind ≡ (name_front text).0)) → AtLeast (front text) (pieces.Token kind) n
named_least text kind n h =
    subst (λ x. AtLeast x (pieces.Token kind) n) (sym (front_name text h.0)) (h.1.0, λ e. ap (λ k. pieces.Token k) (h.1.1 e))

-- numbers
digit_first : (b : ℕ) (bs : List ℕ) → is_ascii_digit b ≡ true → front (b ∷ bs) ≡ token_of (number_front (b ∷ bs))
unfolding front
digit_first b bs h =
    let letter : first_letter (b ∷ bs) ≡ false = digit_no_letter b bs h in
    let blank : is_blank b ≡ false = grind (arith, nat_tests) in
    let newline : (b == 10) ≡ false = grind (arith, nat_tests) in
    rw (letter, blank, newline, h) refl
  where
    digit_no_letter : (b : ℕ) (bs : List ℕ) → is_ascii_digit b ≡ true → first_letter (b ∷ bs) ≡ false
    digit_no_letter b bs h = grind (arith, nat_tests)

token_least : (o : Option (TokenKind × ℕ)) (kind : TokenKind) (n : ℕ) → LeastOf o kind n → AtLeast (token_of o) (pieces.Token kind) n
token_least None kind n h = h
token_least (Some r) kind n h = (h.0, λ e. ap (λ k. pieces.Token k) (h.1 e))

dot_least : (o : Option (TokenKind × ℕ)) (text : List ℕ) (kind : TokenKind) (n : ℕ) → LeastOf o kind n → AtLeast (dot_by o text) (pieces.Token kind) n
dot_least None text kind n h = absurd h
dot_least (Some r) text kind n h = (h.0, λ e. ap (λ k. pieces.Token k) (h.1 e))

dot_first : (bs : List ℕ) → front (46 ∷ bs) ≡ dot_by (number_front (46 ∷ bs)) (46 ∷ bs)
unfolding front
dot_first bs = refl

number_least : (k : NumberKind) (u more : List ℕ) → Matches (form_of k) u → AtLeast (front (u ++ more)) (pieces.Token (kind_of k)) (length u)
number_least k [] more h = absurd (number_some k h)
number_least k (b ∷ u) more h =
    let least = number_found k (b ∷ u) more h in
    ⊎_elim
    (λ digit. subst (λ o. AtLeast o (pieces.Token (kind_of k)) (length (b ∷ u))) (sym (digit_first b (u ++ more) digit)) (token_least (number_front ((b ∷ u) ++ more)) (kind_of k) (length (b ∷ u)) least))
    (λ dot.
    let at : front (46 ∷ (u ++ more)) ≡ dot_by (number_front (46 ∷ (u ++ more))) (46 ∷ (u ++ more)) = dot_first (u ++ more) in
    subst (λ o. AtLeast o (pieces.Token (kind_of k)) (length (b ∷ u))) (sym (ap (λ x. front (x ∷ (u ++ more))) dot ∙ at ∙ ap (λ x. dot_by (number_front (x ∷ (u ++ more))) (x ∷ (u ++ more))) (sym dot)))
    (dot_least (number_front ((b ∷ u) ++ more)) ((b ∷ u) ++ more) (kind_of k) (length (b ∷ u)) least))
    (number_begins k b u h)

-- marks
grown : (m : Mark) (n : ℕ) (more : List ℕ) → AtLeast (mark_of (Some (grow m n more))) (pieces.Token (kinds.Mark m)) n
grown m n more = let l = grow_least m n more in (l.0, λ e. ap (λ x. pieces.Token (kinds.Mark x)) (l.1 e))

begins_is : (q : ℕ) (text : List ℕ) → begins_with (q ∷ []) text ≡ begins q text
begins_is q [] = refl
begins_is q (b ∷ bs) = and_true (b == q)
  where
    and_true : (t : Bool) → (t && true) ≡ t
    and_true true = refl
    and_true false = refl

slash_least : (more : List ℕ) → opens_comment (47 ∷ more) ≡ false → AtLeast (front (47 ∷ more)) (pieces.Token (kinds.Mark marks.Slash)) 1
unfolding front single
slash_least more h =
    let parts = or_parts (begins_with (47 ∷ []) more) (begins_with (42 ∷ []) more) h in
    let line : begins 47 more ≡ false = sym (begins_is 47 more) ∙ parts.0 in
    let general : begins 42 more ≡ false = sym (begins_is 42 more) ∙ parts.1 in
    rw (line, general) (grown marks.Slash 1 more)

dot_mark_least : (more : List ℕ) → AtLeast (front (46 ∷ more)) (pieces.Token (kinds.Mark marks.Dot)) 1
unfolding front
dot_mark_least more = go (number_front (46 ∷ more)) refl
  where
    go : (o : Option (TokenKind × ℕ)) → number_front (46 ∷ more) ≡ o → AtLeast (dot_by o (46 ∷ more)) (pieces.Token (kinds.Mark marks.Dot)) 1
    go None e =
        cond_both (begins_with (46 ∷ 46 ∷ 46 ∷ []) (46 ∷ more)) (Some (pieces.Token (kinds.Mark marks.Ellipsis), 3)) (Some (pieces.Token (kinds.Mark marks.Dot), 1)) (λ o. AtLeast o (pieces.Token (kinds.Mark marks.Dot)) 1)
        (λ _. (omega arith, λ s. absurd (omega arith)))
        (λ _. (omega arith, λ _. refl))
    go (Some r) e =
        let is = number_is (46 ∷ more) r e in (
          omega (arith, is.some),
          λ one. absurd (no_dot is.kind (subst (λ n. Matches (form_of is.kind) (take n (46 ∷ more))) (sym one) is.matches)),
        )

mark_least : (m : Mark) (more : List ℕ) → opens_comment (mark_text m ++ more) ≡ false → AtLeast (front (mark_text m ++ more)) (pieces.Token (kinds.Mark m)) (length (mark_text m))
unfolding front single extend sort_of
mark_least marks.Plus more h = grown marks.Plus 1 more
mark_least marks.Minus more h = grown marks.Minus 1 more
mark_least marks.Star more h = grown marks.Star 1 more
mark_least marks.Slash more h = slash_least more h
mark_least marks.Percent more h = grown marks.Percent 1 more
mark_least marks.And more h = grown marks.And 1 more
mark_least marks.Or more h = grown marks.Or 1 more
mark_least marks.Xor more h = grown marks.Xor 1 more
mark_least marks.ShiftLeft more h = grown marks.ShiftLeft 2 more
mark_least marks.ShiftRight more h = grown marks.ShiftRight 2 more
mark_least marks.AndNot more h = grown marks.AndNot 2 more
mark_least marks.PlusAssign more h = grown marks.PlusAssign 2 more
mark_least marks.MinusAssign more h = grown marks.MinusAssign 2 more
mark_least marks.StarAssign more h = grown marks.StarAssign 2 more
mark_least marks.SlashAssign more h = grown marks.SlashAssign 2 more
mark_least marks.PercentAssign more h = grown marks.PercentAssign 2 more
mark_least marks.AndAssign more h = grown marks.AndAssign 2 more
mark_least marks.OrAssign more h = grown marks.OrAssign 2 more
mark_least marks.XorAssign more h = grown marks.XorAssign 2 more
mark_least marks.ShiftLeftAssign more h = grown marks.ShiftLeftAssign 3 more
mark_least marks.ShiftRightAssign more h = grown marks.ShiftRightAssign 3 more
mark_least marks.AndNotAssign more h = grown marks.AndNotAssign 3 more
mark_least marks.LogicalAnd more h = grown marks.LogicalAnd 2 more
mark_least marks.LogicalOr more h = grown marks.LogicalOr 2 more
mark_least marks.Arrow more h = grown marks.Arrow 2 more
mark_least marks.Increment more h = grown marks.Increment 2 more
mark_least marks.Decrement more h = grown marks.Decrement 2 more
mark_least marks.Equal more h = grown marks.Equal 2 more
mark_least marks.Less more h = grown marks.Less 1 more
mark_least marks.Greater more h = grown marks.Greater 1 more
mark_least marks.Assign more h = grown marks.Assign 1 more
mark_least marks.Not more h = grown marks.Not 1 more
mark_least marks.Tilde more h = grown marks.Tilde 1 more
mark_least marks.NotEqual more h = grown marks.NotEqual 2 more
mark_least marks.LessEqual more h = grown marks.LessEqual 2 more
mark_least marks.GreaterEqual more h = grown marks.GreaterEqual 2 more
mark_least marks.Define more h = grown marks.Define 2 more
mark_least marks.Ellipsis more h = (omega arith, λ _. refl)
mark_least marks.OpenParen more h = grown marks.OpenParen 1 more
mark_least marks.CloseParen more h = grown marks.CloseParen 1 more
mark_least marks.OpenBracket more h = grown marks.OpenBracket 1 more
mark_least marks.CloseBracket more h = grown marks.CloseBracket 1 more
mark_least marks.OpenBrace more h = grown marks.OpenBrace 1 more
mark_least marks.CloseBrace more h = grown marks.CloseBrace 1 more
mark_least marks.Comma more h = grown marks.Comma 1 more
mark_least marks.Semicolon more h = grown marks.Semicolon 1 more
mark_least marks.Dot more h = dot_mark_least more
mark_least marks.Colon more h = grown marks.Colon 1 more

-- whatever piece the text begins with, the answer is at least as long
blank_least : (b : ℕ) (more : List ℕ) → is_blank b ≡ true → AtLeast (front (b ∷ more)) pieces.Space 1
unfolding front
blank_least b more h =
    let P : ℕ → Type 0 = λ x. AtLeast (front (x ∷ more)) pieces.Space 1 in
    ⊎_elim (λ e. subst P (sym (eqb-true b 32 e)) (omega arith, λ _. refl))
    (λ r. ⊎_elim (λ e. subst P (sym (eqb-true b 9 e)) (omega arith, λ _. refl))
    (λ r'. ⊎_elim (λ e. subst P (sym (eqb-true b 13 e)) (omega arith, λ _. refl)) (λ n. absurd (false≢true n)) (or_cases (b == 13) false r'))
    (or_cases (b == 9) ((b == 13) || false) r))
    (or_cases (b == 32) ((b == 9) || ((b == 13) || false)) h)

slashes : (bs : List ℕ) → front (47 ∷ 47 ∷ bs) ≡ line_front (47 ∷ 47 ∷ bs)
unfolding front
slashes bs = refl

line_least : (u more : List ℕ) → IsLineComment u → EndsLine more → AtLeast (front (u ++ more)) (line_kind (is_directive u)) (length u)
line_least u more is ends =
    let at : front (u ++ more) ≡ line_front (u ++ more) = ap (λ l. front (l ++ more)) is.bytes_are ∙ slashes (is.inner ++ more) ∙ ap (λ l. line_front (l ++ more)) (sym is.bytes_are) in
    exact (front (u ++ more)) (line_kind (is_directive u)) (length u) (at ∙ line_found u more is ends)

star : (bs : List ℕ) → front (47 ∷ 42 ∷ bs) ≡ general_front (47 ∷ 42 ∷ bs)
unfolding front
star bs = refl

general_least : (u more : List ℕ) (breaks : Bool) → IsGeneralComment breaks u → AtLeast (front (u ++ more)) (general_kind breaks) (length u)
general_least u more breaks is =
    let tail = is.inner ++ 42 ∷ 47 ∷ [] in
    let at : front (u ++ more) ≡ general_front (u ++ more) = ap (λ l. front (l ++ more)) is.bytes_are ∙ star (tail ++ more) ∙ ap (λ l. general_front (l ++ more)) (sym is.bytes_are) in
    exact (front (u ++ more)) (general_kind breaks) (length u) (at ∙ general_found u more breaks is)

quote_first : (bs : List ℕ) → (front (34 ∷ bs) ≡ sized kinds.Chars (text_front (34 ∷ bs))) × (front (39 ∷ bs) ≡ sized kinds.Rune (rune_front (39 ∷ bs))) × (front (96 ∷ bs) ≡ sized kinds.RawChars (raw_front (96 ∷ bs)))
unfolding front
quote_first bs = (refl, refl, refl)

token_found : (kind : TokenKind) (u more : List ℕ) → IsToken kind u → opens_comment (u ++ more) ≡ false → AtLeast (front (u ++ more)) (pieces.Token kind) (length u)
token_found kinds.Name u more h s = named_least (u ++ more) kinds.Name (length u) (name_found u more h)
token_found kinds.Whole u more h s = number_least IsWhole u more h
token_found kinds.Float u more h s = number_least IsFloating u more h
token_found kinds.Imaginary u more h s = number_least IsImaginary u more h
token_found kinds.Rune u more h s =
    let at = ap (λ l. front (l ++ more)) h.2 ∙ (quote_first ((h.0 ++ 39 ∷ []) ++ more)).1 ∙ ap (λ l. sized kinds.Rune (rune_front (l ++ more))) (sym h.2) in
    exact (front (u ++ more)) (pieces.Token kinds.Rune) (length u) (at ∙ ap (sized kinds.Rune) (rune_found u more h))
token_found kinds.Chars u more h s =
    let at = ap (λ l. front (l ++ more)) h.2 ∙ (quote_first ((h.0 ++ 34 ∷ []) ++ more)).0 ∙ ap (λ l. sized kinds.Chars (text_front (l ++ more))) (sym h.2) in
    exact (front (u ++ more)) (pieces.Token kinds.Chars) (length u) (at ∙ ap (sized kinds.Chars) (text_found u more h))
token_found kinds.RawChars u more h s =
    let at = ap (λ l. front (l ++ more)) h.3 ∙ (quote_first ((h.1 ++ 96 ∷ []) ++ more)).2 ∙ ap (λ l. sized kinds.RawChars (raw_front (l ++ more))) (sym h.3) in
    exact (front (u ++ more)) (pieces.Token kinds.RawChars) (length u) (at ∙ ap (sized kinds.RawChars) (raw_found u more h))
token_found (kinds.Word word) u more h s =
    subst (λ l. AtLeast (front (l ++ more)) (pieces.Token (kinds.Word word)) (length l)) (sym h)
    (named_least (keyword_text word ++ more) (kinds.Word word) (length (keyword_text word)) (word_found word more))
token_found (kinds.Mark mark) u more h s =
    subst (λ l. AtLeast (front (l ++ more)) (pieces.Token (kinds.Mark mark)) (length l)) (sym h)
    (mark_least mark more (subst (λ l. opens_comment (l ++ more) ≡ false) h s))
token_found kinds.Inserted u more h s = absurd h

newline : (more : List ℕ) → AtLeast (front (10 ∷ more)) pieces.Newline 1
unfolding front
newline more = (omega arith, λ _. refl)

piece_found : (k : Piece) (u more : List ℕ) → IsPiece k u → StandsThere k (u ++ more) → EndsThere k more → AtLeast (front (u ++ more)) k (length u)
piece_found pieces.Space u more h s e = subst (λ l. AtLeast (front (l ++ more)) pieces.Space (length l)) (sym h.1) (blank_least h.0 more h.2)
piece_found pieces.Newline u more h s e = subst (λ l. AtLeast (front (l ++ more)) pieces.Newline (length l)) (sym h) (newline more)
piece_found pieces.LineComment u more h s e = subst (λ t. AtLeast (front (u ++ more)) (line_kind t) (length u)) h.1 (line_least u more h.0 e)
piece_found pieces.Directive u more h s e = subst (λ t. AtLeast (front (u ++ more)) (line_kind t) (length u)) h.1 (line_least u more h.0 e)
piece_found pieces.Comment u more h s e = general_least u more false h
piece_found pieces.LongComment u more h s e = general_least u more true h
piece_found (pieces.Token kind) u more h s e = token_found kind u more h s

-- the answer is a piece
abbrev IsFound : List ℕ → Option (Piece × ℕ) → Type 0
IsFound text None = Unit {0}
IsFound text (Some r) = (0 < r.1) × IsFront r.0 r.1 text

token_front : (kind : TokenKind) (n : ℕ) (text : List ℕ) → 0 < n → n ≤ length text → IsToken kind (take n text) → opens_comment text ≡ false → (0 < n) × IsFront (pieces.Token kind) n text
token_front kind n text some within is stands = (some, record { within = within; is_piece = is; stands = stands; ends = tt })

not_slash : (b : ℕ) (bs : List ℕ) → (b == 47) ≡ false → opens_comment (b ∷ bs) ≡ false
not_slash b bs h = rw h refl

number_token : (k : NumberKind) (u : List ℕ) → Matches (form_of k) u → IsToken (kind_of k) u
number_token IsWhole u h = h
number_token IsFloating u h = h
number_token IsImaginary u h = h

number_is_found : (text : List ℕ) (r : TokenKind × ℕ) → number_front text ≡ Some r → opens_comment text ≡ false → (0 < r.1) × IsFront (pieces.Token r.0) r.1 text
number_is_found text r e stands =
    let is = number_is text r e in
    token_front r.0 r.1 text is.some is.within (subst (λ k. IsToken k (take r.1 text)) (sym is.kind_is_it) (number_token is.kind (take r.1 text) is.matches)) stands

digits_found : (text : List ℕ) (o : Option (TokenKind × ℕ)) → number_front text ≡ o → opens_comment text ≡ false → IsFound text (token_of o)
digits_found text None e stands = tt
digits_found text (Some r) e stands = number_is_found text r e stands

-- three points
dots_taken : (text : List ℕ) → begins_with (46 ∷ 46 ∷ 46 ∷ []) text ≡ true → (3 ≤ length text) × (take 3 text ≡ 46 ∷ 46 ∷ 46 ∷ [])
dots_taken [] h = absurd (false≢true h)
dots_taken (a ∷ []) h = absurd (false≢true (and_parts (a == 46) false h).1)
dots_taken (a ∷ b ∷ []) h = absurd (false≢true (and_parts (b == 46) false (and_parts (a == 46) ((b == 46) && false) h).1).1)
dots_taken (a ∷ b ∷ c ∷ bs) h =
    let p = and_parts (a == 46) ((b == 46) && ((c == 46) && true)) h in
    let q = and_parts (b == 46) ((c == 46) && true) p.1 in
    let r = and_parts (c == 46) true q.1 in
    (omega arith, λ i. eqb-true a 46 p.0 i ∷ eqb-true b 46 q.0 i ∷ eqb-true c 46 r.0 i ∷ [])

dots_found : (bs : List ℕ) (o : Option (TokenKind × ℕ)) → number_front (46 ∷ bs) ≡ o → IsFound (46 ∷ bs) (dot_by o (46 ∷ bs))
dots_found bs (Some r) e = number_is_found (46 ∷ bs) r e refl
dots_found bs None e =
    cond_both (begins_with (46 ∷ 46 ∷ 46 ∷ []) (46 ∷ bs)) _ _ (IsFound (46 ∷ bs))
    (λ h. let t = dots_taken (46 ∷ bs) h in token_front (kinds.Mark marks.Ellipsis) 3 (46 ∷ bs) (omega arith) t.0 t.1 refl)
    (λ _. token_front (kinds.Mark marks.Dot) 1 (46 ∷ bs) (omega arith) (omega arith) refl refl)

marks_found : (text : List ℕ) (o : Option (Mark × ℕ)) → mark_front text ≡ o → opens_comment text ≡ false → IsFound text (mark_of o)
marks_found text None e stands = tt
marks_found text (Some r) e stands =
    let is = mark_is text r e in
    token_front (kinds.Mark r.0) r.1 text is.some (fronts_within (λ u. u ≡ mark_text r.0) r.1 text is.front) (fronts_holds (λ u. u ≡ mark_text r.0) r.1 text is.front) stands

-- literals between quotes
sized_found : (kind : TokenKind) (text : List ℕ) (o : Option ℕ) → opens_comment text ≡ false → ((n : ℕ) → o ≡ Some n → (0 < n) × Fronts (IsToken kind) n text) → IsFound text (sized kind o)
sized_found kind text None stands h = tt
sized_found kind text (Some n) stands h =
    let f = h n refl in
    token_front kind n text f.0 (fronts_within (IsToken kind) n text f.1) (fronts_holds (IsToken kind) n text f.1) stands

chars_found : (bs : List ℕ) → IsFound (34 ∷ bs) (sized kinds.Chars (text_front (34 ∷ bs)))
chars_found bs = sized_found kinds.Chars (34 ∷ bs) (text_front (34 ∷ bs)) refl (λ n e. let f = text_is bs n e in (omega (arith, f.length_is, ap length f.holds.2), f))

runes_found : (bs : List ℕ) → IsFound (39 ∷ bs) (sized kinds.Rune (rune_front (39 ∷ bs)))
runes_found bs = sized_found kinds.Rune (39 ∷ bs) (rune_front (39 ∷ bs)) refl (λ n e. let f = rune_is bs n e in (omega (arith, f.length_is, ap length f.holds.2), f))

raws_found : (bs : List ℕ) → IsFound (96 ∷ bs) (sized kinds.RawChars (raw_front (96 ∷ bs)))
raws_found bs = sized_found kinds.RawChars (96 ∷ bs) (raw_front (96 ∷ bs)) refl (λ n e. let f = raw_is bs n e in (omega (arith, f.length_is, ap length f.holds.3), f))

-- comments
line_piece : (text : List ℕ) (n : ℕ) (t : Bool) → 0 < n → n ≤ length text → IsLineComment (take n text) → is_directive (take n text) ≡ t → EndsLine (drop n text) → (0 < n) × IsFront (line_kind t) n text
line_piece text n true some within is kind ends = (some, record { within = within; is_piece = (is, kind); stands = tt; ends = ends })
line_piece text n false some within is kind ends = (some, record { within = within; is_piece = (is, kind); stands = tt; ends = ends })

lines_found : (bs : List ℕ) (o : Option (Piece × ℕ)) → line_front (47 ∷ 47 ∷ bs) ≡ o → IsFound (47 ∷ 47 ∷ bs) o
lines_found bs None e = tt
lines_found bs (Some r) e =
    let is = line_is bs r e in
    let text = 47 ∷ 47 ∷ bs in
    subst (λ k. (0 < r.1) × IsFront k r.1 (47 ∷ 47 ∷ bs)) (sym is.kind) (line_piece (47 ∷ 47 ∷ bs) r.1 (is_directive (take r.1 (47 ∷ 47 ∷ bs))) is.some is.within is.comment refl is.ends)

general_piece : (text : List ℕ) (n : ℕ) (t : Bool) → Fronts (IsGeneralComment t) n text → 0 < n → (0 < n) × IsFront (general_kind t) n text
general_piece text n true f some = (some, record { within = fronts_within (IsGeneralComment true) n text f; is_piece = fronts_holds (IsGeneralComment true) n text f; stands = tt; ends = tt })
general_piece text n false f some = (some, record { within = fronts_within (IsGeneralComment false) n text f; is_piece = fronts_holds (IsGeneralComment false) n text f; stands = tt; ends = tt })

generals_found : (bs : List ℕ) (o : Option (Piece × ℕ)) → general_front (47 ∷ 42 ∷ bs) ≡ o → IsFound (47 ∷ 42 ∷ bs) o
generals_found bs None e = tt
generals_found bs (Some r) e =
    let is = general_is bs r e in
    subst (λ k. (0 < r.1) × IsFront k r.1 (47 ∷ 42 ∷ bs)) (sym is.kind)
    (general_piece (47 ∷ 42 ∷ bs) r.1 is.breaks is.comment (omega (arith, is.comment.length_is, ap length is.comment.holds.bytes_are)))

begun : (q : ℕ) (bs : List ℕ) → begins q bs ≡ true → (rest : List ℕ) × (bs ≡ q ∷ rest)
begun q [] h = absurd (false≢true h)
begun q (b ∷ bs) h = (bs, ap (λ x. x ∷ bs) (eqb-true b q h))

slashes_found : (bs : List ℕ) → IsFound (47 ∷ bs) (slash_front (47 ∷ bs))
slashes_found bs =
    cond_both (begins 47 bs) _ _ (IsFound (47 ∷ bs))
    (λ h. let b = begun 47 bs h in subst (λ l. IsFound (47 ∷ l) (line_front (47 ∷ l))) (sym b.1) (lines_found b.0 (line_front (47 ∷ 47 ∷ b.0)) refl))
    (λ line. cond_both (begins 42 bs) _ _ (IsFound (47 ∷ bs))
    (λ h. let b = begun 42 bs h in subst (λ l. IsFound (47 ∷ l) (general_front (47 ∷ l))) (sym b.1) (generals_found b.0 (general_front (47 ∷ 42 ∷ b.0)) refl))
    (λ general. marks_found (47 ∷ bs) (mark_front (47 ∷ bs)) refl (rw (begins_is 47 bs, begins_is 42 bs, line, general) refl)))

-- by the first byte
quoted_found : (b : ℕ) (bs : List ℕ) → IsFound (b ∷ bs) (quoted_front b (b ∷ bs))
quoted_found b bs =
    let P : Option (Piece × ℕ) → Type 0 = IsFound (b ∷ bs) in
    cond_both (b == 34) _ _ P (λ e. subst (λ x. IsFound (x ∷ bs) (sized kinds.Chars (text_front (x ∷ bs)))) (sym (eqb-true b 34 e)) (chars_found bs)) (λ _.
    cond_both (b == 39) _ _ P (λ e. subst (λ x. IsFound (x ∷ bs) (sized kinds.Rune (rune_front (x ∷ bs)))) (sym (eqb-true b 39 e)) (runes_found bs)) (λ _.
    cond_both (b == 96) _ _ P (λ e. subst (λ x. IsFound (x ∷ bs) (sized kinds.RawChars (raw_front (x ∷ bs)))) (sym (eqb-true b 96 e)) (raws_found bs)) (λ _.
    cond_both (b == 47) _ _ P (λ e. subst (λ x. IsFound (x ∷ bs) (slash_front (x ∷ bs))) (sym (eqb-true b 47 e)) (slashes_found bs)) (λ other.
    marks_found (b ∷ bs) (mark_front (b ∷ bs)) refl (not_slash b bs other)))))

other_found : (b : ℕ) (bs : List ℕ) → IsFound (b ∷ bs) (other_front b (b ∷ bs))
other_found b bs =
    let P : Option (Piece × ℕ) → Type 0 = IsFound (b ∷ bs) in
    cond_both (is_blank b) _ _ P (λ e. (omega arith, record { within = omega arith; is_piece = (b, refl, e); stands = tt; ends = tt })) (λ _.
    cond_both (b == 10) _ _ P (λ e. (omega arith, record { within = omega arith; is_piece = ap (λ x. x ∷ []) (eqb-true b 10 e); stands = tt; ends = tt })) (λ _.
    cond_both (is_ascii_digit b) _ _ P (λ e. let other : (b == 47) ≡ false = grind (arith, nat_tests) in digits_found (b ∷ bs) (number_front (b ∷ bs)) refl (not_slash b bs other)) (λ _.
    cond_both (b == 46) _ _ P (λ e. subst (λ x. IsFound (x ∷ bs) (dot_by (number_front (x ∷ bs)) (x ∷ bs))) (sym (eqb-true b 46 e)) (dots_found bs (number_front (46 ∷ bs)) refl)) (λ _.
    quoted_found b bs))))

letter_no_slash : (b : ℕ) (bs : List ℕ) → first_letter (b ∷ bs) ≡ true → (b == 47) ≡ false
letter_no_slash b bs h = go (b == 47) refl
  where
    go : (t : Bool) → (b == 47) ≡ t → t ≡ false
    go false e = refl
    go true e = let never : first_letter (47 ∷ bs) ≡ true = subst (λ x. first_letter (x ∷ bs) ≡ true) (eqb-true b 47 e) h in absurd (false≢true never)

is_found : (text : List ℕ) → IsFound text (front text)
unfolding front
is_found [] = tt
is_found (b ∷ bs) =
    cond_both (first_letter (b ∷ bs)) (Some (as_token (name_front (b ∷ bs)))) (other_front b (b ∷ bs)) (IsFound (b ∷ bs))
    (λ h.
    let is = name_is (b ∷ bs) h in
    token_front (name_front (b ∷ bs)).0 (name_front (b ∷ bs)).1 (b ∷ bs) is.some is.within is.token (not_slash b bs (letter_no_slash b bs h)))
    (λ _. other_found b bs)

-- the same of a text that is cut
found_at : (text : List ℕ) (k : Piece) (m : ℕ) → IsFront k m text → AtLeast (front text) k m
found_at text k m is =
    let whole = take-append-drop m text in
    let found = piece_found k (take m text) (drop m text) is.is_piece (subst (StandsThere k) (sym whole) is.stands) is.ends in
    let len : length (take m text) ≡ m = length-take-le m text is.within in
    subst (λ n. AtLeast (front text) k n) len (subst (λ l. AtLeast (front l) k (length (take m text))) whole found)

at_least_some : (o : Option (Piece × ℕ)) (r : Piece × ℕ) (k : Piece) (n : ℕ) → o ≡ Some r → AtLeast o k n → (n ≤ r.1) × (n ≡ r.1 → k ≡ r.0)
at_least_some o r k n e h = subst (λ x. AtLeast x k n) e h

front_is_longest : (text : List ℕ) (r : Piece × ℕ) → front text ≡ Some r → (0 < r.1) × IsLongest r.0 r.1 text
front_is_longest text r e =
    let found = subst (IsFound text) e (is_found text) in
    (found.0, record { front = found.1; longest = λ other m is. (at_least_some (front text) r other m e (found_at text other m is)).0 })

front_is_none : (text : List ℕ) → front text ≡ None → BeginsNone text
front_is_none text e k m is = subst (λ x. AtLeast x k m) e (found_at text k m is)

-- two longest pieces of one text are one
pub longest_once : (text : List ℕ) (a b : Piece) (m n : ℕ) → IsLongest a m text → IsLongest b n text → (a ≡ b) × (m ≡ n)
longest_once text a b m n p q = go (front text) refl
  where
    same : m ≡ n
    same = let left = q.longest a m p.front in let right = p.longest b n q.front in omega arith

    go : (o : Option (Piece × ℕ)) → front text ≡ o → (a ≡ b) × (m ≡ n)
    go None e = absurd (front_is_none text e a m p.front)
    go (Some r) e =
        let longest = (front_is_longest text r e).1 in
        let here = p.longest r.0 r.1 longest.front in
        let there = q.longest r.0 r.1 longest.front in
        let x = at_least_some (front text) r a m e (found_at text a m p.front) in
        let y = at_least_some (front text) r b n e (found_at text b n q.front) in
        (x.1 (omega (arith, x.0)) ∙ sym (y.1 (omega (arith, y.0))), same)

-- a longest piece has a byte
pub longest_has_bytes : (text : List ℕ) (a : Piece) (m : ℕ) → IsLongest a m text → 0 < m
longest_has_bytes text a m p = go (front text) refl
  where
    go : (o : Option (Piece × ℕ)) → front text ≡ o → 0 < m
    go None e = absurd (front_is_none text e a m p.front)
    go (Some r) e =
        let longest = front_is_longest text r e in
        let once = longest_once text a r.0 m r.1 p longest.1 in
        omega (arith, longest.0, once.1)

front_tells : (o : Option (Piece × ℕ)) (text : List ℕ) → o ≡ front text → IfSome o (λ r. (0 < r.1) × IsLongest r.0 r.1 text) × IfNone o (BeginsNone text)
front_tells None text e = (tt, front_is_none text (sym e))
front_tells (Some r) text e = (front_is_longest text r (sym e), tt)

pub front_tells_at : (o : Option (Piece × ℕ)) (bytes r : List ℕ) (at : ℕ) → r ≡ drop at bytes → o ≡ front r → IfSome o (λ r. (0 < r.1) × IsLongest r.0 r.1 (drop at bytes)) × IfNone o (BeginsNone (drop at bytes))
front_tells_at o bytes r at is e = front_tells o (drop at bytes) (e ∙ ap front is)
