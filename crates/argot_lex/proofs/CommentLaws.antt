-- Comments are read exactly.
use Rattle.std.proofs.Common.{◌≡◌, ℕ, zero, suc, ◌+◌, ◌<◌, ◌≤◌, List, [], ◌∷◌, ◌++◌, length, take, drop, Bool, true, false, cond, Option, Some, None, refl, sym, ap, ◌∙◌, subst, inl, inr, ⊎_elim, arith, length-append, append_assoc, length-drop}
use Rattle.std.specs.Prelude.{◌==◌, ◌||◌, ◌&&◌, not, ◌⊎◌, encode_utf8, encode_utf8_all}
use Rattle.std.specs.List.{list_all, list_any}
use Rattle.std.specs.Str.{all_scalars}
use Rattle.std.specs.Char.{IsScalar}
use Rattle.std.proofs.Math.Utf8.{scalar}
use Rattle.std.proofs.Math.Seq.{take-append_seam, drop-append_seam}
use Rattle.std.proofs.lemmas.Bool.{cond_both, and_parts, and_from, or_parts, or_from, false≢true, eqb-true, not_from_false}
use Rattle.std.proofs.lemmas.Str.{encode_ascii}
use Rattle.argot_tree.specs.declared.piece.Piece.{Piece}
use Rattle.argot_tree.specs.Characters.{AreCharacters, is_some_character, is_other_than}
use Rattle.argot_tree.specs.Comments.{begins_with, IsLineComment, EndsLine, is_directive, has_close, IsGeneralComment}
use Rattle.argot_lex.specs.Characters.{char_at, step_by, run_from}
use Rattle.argot_lex.specs.Literals.{begins}
use Rattle.argot_lex.specs.Comments.{ends_line, line_kind, line_by, line_front, general_kind, closes, but_zero, some_char_at, general_from, general_by, general_front}
use Rattle.argot_lex.proofs.Fronting.{Fronts, fronts_holds, fronts_within}
use Rattle.argot_lex.proofs.Chars.{char_found, char_is, char_within, char_ascii, run_stop}
use Rattle.argot_lex.proofs.CommentSteps.{some_char_is, general_step, general_none, general_end}
use Rattle.argot_lex.proofs.Runs.{run_found, run_is, Passing, first_byte}

-- line comments
line_stops : (rest : List ℕ) → EndsLine rest → (run_from (is_other_than 10) 0 rest ≡ 0) × (ends_line rest ≡ true)
line_stops [] h = (refl, refl)
line_stops (b ∷ bs) h =
    let p = is_other_than 10 in
    let at : char_at (b ∷ bs) ≡ Some (b, 1) = char_ascii b bs (omega arith) in (
      run_stop p (b ∷ bs) (ap (step_by p) at ∙ ap (λ c. step_by p (Some (c, 1))) h),
      ap (λ c. c == 10) h,
    )

ends_is : (rest : List ℕ) → ends_line rest ≡ true → EndsLine rest
ends_is [] h = tt
ends_is (b ∷ bs) h = eqb-true b 10 h

pub line_found : (u rest : List ℕ) → IsLineComment u → EndsLine rest → line_front (u ++ rest) ≡ Some (line_kind (is_directive u), length u)
line_found u rest is ends =
    let inner = is.inner in
    let stop = line_stops rest ends in
    let run : run_from (is_other_than 10) 0 (inner ++ rest) ≡ length inner = omega (arith, run_found (is_other_than 10) is.characters inner rest is.are, stop.0) in
    let n : 2 + run_from (is_other_than 10) 0 (inner ++ rest) ≡ length u = omega (arith, run, ap length is.bytes_are) in
    let whole : line_front (u ++ rest) ≡ line_by (u ++ rest) (length u) =
    ap line_front (ap (λ l. l ++ rest) is.bytes_are)
    ∙ ap (line_by (47 ∷ 47 ∷ (inner ++ rest))) n
    ∙ ap (λ l. line_by (l ++ rest) (length u)) (sym is.bytes_are) in
    let ended : ends_line (drop (length u) (u ++ rest)) ≡ true = ap ends_line (drop-append_seam u rest) ∙ stop.1 in
    whole ∙ ap (λ t. cond t (Some (line_kind (is_directive (take (length u) (u ++ rest))), length u)) None) ended
    ∙ ap (λ l. Some (line_kind (is_directive l), length u)) (take-append_seam u rest)

-- what is found is one
pub record IsLine (text : List ℕ) (r : Piece × ℕ) : Type 0 where
  pub some : 0 < r.1
  pub within : r.1 ≤ length text
  pub comment : IsLineComment (take r.1 text)
  pub kind : r.0 ≡ line_kind (is_directive (take r.1 text))
  pub ends : EndsLine (drop r.1 text)

pub line_is : (bs : List ℕ) (r : Piece × ℕ) → line_front (47 ∷ 47 ∷ bs) ≡ Some r → IsLine (47 ∷ 47 ∷ bs) r
line_is bs r e =
    let p = is_other_than 10 in
    let n = run_from p 0 bs in
    let text = 47 ∷ 47 ∷ bs in
    let f = run_is p bs in
    go p n text f r (2 + n) refl e
  where
    go : (p : ℕ → Bool) (n : ℕ) (text : List ℕ) (f : Fronts (Passing (is_other_than 10)) (run_from (is_other_than 10) 0 bs) bs) (r : Piece × ℕ) (m : ℕ) → m ≡ 2 + run_from (is_other_than 10) 0 bs → line_by (47 ∷ 47 ∷ bs) m ≡ Some r → IsLine (47 ∷ 47 ∷ bs) r
    go p n text f r m is =
        cond_both (ends_line (drop m (47 ∷ 47 ∷ bs))) (Some (line_kind (is_directive (take m (47 ∷ 47 ∷ bs))), m)) None (λ o. o ≡ Some r → IsLine (47 ∷ 47 ∷ bs) r)
        (λ ended e.
        let same : (line_kind (is_directive (take m (47 ∷ 47 ∷ bs))), m) ≡ r = cc in
        let whole : Fronts IsLineComment m (47 ∷ 47 ∷ bs) = record {
          front = 47 ∷ 47 ∷ f.front;
          rest = f.rest;
          text_is = ap (λ l. 47 ∷ 47 ∷ l) f.text_is;
          length_is = omega (arith, is, f.length_is);
          holds = record { characters = f.holds.0; inner = f.front; are = f.holds.1; bytes_are = refl };
        } in
        subst (IsLine (47 ∷ 47 ∷ bs)) same (record {
          some = omega (arith, is);
          within = fronts_within IsLineComment m (47 ∷ 47 ∷ bs) whole;
          comment = fronts_holds IsLineComment m (47 ∷ 47 ∷ bs) whole;
          kind = refl;
          ends = ends_is (drop m (47 ∷ 47 ∷ bs)) ended;
        }))
        (λ _ e. absurd (cc))

-- general comments: a slash first, behind a star
abbrev Starts : Bool → List ℕ → Bool
Starts star cs = star && begins_with (47 ∷ []) (cs ++ 42 ∷ [])

some_char_found : (c : ℕ) (rest : List ℕ) → IsScalar c → (c == 0) ≡ false → some_char_at (encode_utf8 c ++ rest) ≡ Some (c, length (encode_utf8 c))
some_char_found c rest s other = ap but_zero (char_found c rest s) ∙ ap (λ t. cond t None (Some (c, length (encode_utf8 c)))) other

closes_begins : (star : Bool) (text : List ℕ) → closes star text ≡ (star && begins 47 text)
closes_begins true [] = refl
closes_begins false [] = refl
closes_begins true (b ∷ bs) = refl
closes_begins false (b ∷ bs) = refl

-- no slash behind a star, by the character there
no_close : (star : Bool) (text : List ℕ) (c n : ℕ) → char_at text ≡ Some (c, n) → (star && (c == 47)) ≡ false → closes star text ≡ false
no_close star text c n at h = closes_begins star text ∙ ap (λ t. star && t) (first_byte text c n 47 at (omega arith)) ∙ h

and_true : (a b : Bool) → (a && b) ≡ false → (a && (b && true)) ≡ false
and_true true true h = h
and_true true false h = h
and_true false b h = h

true_and : (a b : Bool) → (a && (b && true)) ≡ false → (a && b) ≡ false
true_and true true h = h
true_and true false h = h
true_and false b h = h

-- characters without `*/` among them are gone over, up to it
general_over : (cs : List ℕ) (star seen : Bool) (at : ℕ) (rest : List ℕ) → all_scalars cs ≡ true → list_all is_some_character cs ≡ true → Starts star cs ≡ false → has_close (cs ++ 42 ∷ []) ≡ false
    → general_from 0 star seen at (encode_utf8_all cs ++ 42 ∷ 47 ∷ rest) ≡ Some (seen || list_any (λ c. c == 10) cs, (at + length (encode_utf8_all cs)) + 2)
general_over [] star seen at rest s h starts close =
    let first : some_char_at (42 ∷ 47 ∷ rest) ≡ Some (42, 1) = ap but_zero (char_ascii 42 (47 ∷ rest) (omega arith)) in
    let none = no_close star (42 ∷ 47 ∷ rest) 42 1 (char_ascii 42 (47 ∷ rest) (omega arith)) starts in
    general_step star seen at (42 ∷ 47 ∷ rest) 42 1 none first
    ∙ general_end true (seen || false) (at + 1) (47 ∷ rest) refl
    ∙ ap (λ n. Some (seen || false, n)) (omega arith)
general_over (c ∷ cs) star seen at rest s h starts close =
    let ss = and_parts (scalar c) (all_scalars cs) s in
    let hh = and_parts (is_some_character c) (list_all is_some_character cs) h in
    let u = encode_utf8 c in
    let behind = encode_utf8_all cs ++ 42 ∷ 47 ∷ rest in
    let flat : (u ++ encode_utf8_all cs) ++ 42 ∷ 47 ∷ rest ≡ u ++ behind = append_assoc u (encode_utf8_all cs) (42 ∷ 47 ∷ rest) in
    let other : (c == 0) ≡ false = not_true (c == 0) hh.0 in
    let first = some_char_found c behind ss.0 other in
    let none = no_close star (u ++ behind) c (length u) (char_found c behind ss.0) (true_and star (c == 47) starts) in
    let closed = or_parts (begins_with (42 ∷ 47 ∷ []) (c ∷ (cs ++ 42 ∷ []))) (has_close (cs ++ 42 ∷ [])) close in
    let on = general_over cs (c == 42) (seen || (c == 10)) (at + length u) rest ss.1 hh.1 closed.0 closed.1 in
    ap (general_from 0 star seen at) flat
    ∙ general_step star seen at (u ++ behind) c (length u) none first
    ∙ ap (general_from 0 (c == 42) (seen || (c == 10)) (at + length u)) (drop-append_seam u behind)
    ∙ on
    ∙ (λ i. Some (or_assoc seen (c == 10) (list_any (λ x. x == 10) cs) i, (len i) + 2))
  where
    not_true : (t : Bool) → not t ≡ true → t ≡ false
    not_true true e = sym e
    not_true false e = refl

    or_assoc : (x y z : Bool) → ((x || y) || z) ≡ (x || (y || z))
    or_assoc true y z = refl
    or_assoc false y z = refl

    len : (at + length (encode_utf8 c)) + length (encode_utf8_all cs) ≡ at + length (encode_utf8 c ++ encode_utf8_all cs)
    len = omega (arith, length-append (encode_utf8 c) (encode_utf8_all cs))

general_shut : (inner rest : List ℕ) → (inner ++ 42 ∷ 47 ∷ []) ++ rest ≡ inner ++ 42 ∷ 47 ∷ rest
general_shut inner rest = append_assoc inner (42 ∷ 47 ∷ []) rest

pub general_found : (u rest : List ℕ) (breaks : Bool) → IsGeneralComment breaks u → general_front (u ++ rest) ≡ Some (general_kind breaks, length u)
general_found u rest breaks is =
    let inner = is.inner in
    let text : u ++ rest ≡ 47 ∷ 42 ∷ (inner ++ 42 ∷ 47 ∷ rest) = ap (λ l. l ++ rest) is.bytes_are ∙ ap (λ l. 47 ∷ 42 ∷ l) (general_shut inner rest) in
    let over = general_over is.characters false false 2 rest is.are.scalar is.are.pass refl is.first in
    let len : (2 + length (encode_utf8_all is.characters)) + 2 ≡ length u = omega (arith, ap length is.bytes_are, ap length is.are.bytes_are, length-append inner (42 ∷ 47 ∷ [])) in
    ap general_front text
    ∙ ap (λ l. general_by (general_from 0 false false 2 (l ++ 42 ∷ 47 ∷ rest))) is.are.bytes_are
    ∙ ap general_by over
    ∙ (λ i. Some (general_kind (is.broken i), len i))

-- what was read of a general comment
record GeneralRead (star seen : Bool) (at : ℕ) (bs : List ℕ) (r : Bool × ℕ) : Type 0 where
  characters : List ℕ
  inner : List ℕ
  rest : List ℕ
  are : AreCharacters is_some_character characters inner
  starts : Starts star characters ≡ false
  first : has_close (characters ++ 42 ∷ []) ≡ false
  bytes : bs ≡ inner ++ 42 ∷ 47 ∷ rest
  result : r ≡ (seen || list_any (λ c. c == 10) characters, (at + length inner) + 2)

-- or the slash that ends it stands at the front
record ClosesThere (star seen : Bool) (at : ℕ) (bs : List ℕ) (r : Bool × ℕ) : Type 0 where
  rest : List ℕ
  starred : star ≡ true
  bytes : bs ≡ 47 ∷ rest
  result : r ≡ (seen, at + 1)

abbrev GeneralsTo : ℕ → Type 0
GeneralsTo n = (star seen : Bool) (at : ℕ) (bs : List ℕ) (r : Bool × ℕ) → length bs ≤ n → general_from 0 star seen at bs ≡ Some r → ClosesThere star seen at bs r ⊎ GeneralRead star seen at bs r

general_ends : (star seen : Bool) (at : ℕ) (bs : List ℕ) (r : Bool × ℕ) → closes star bs ≡ true → general_from 0 star seen at bs ≡ Some r → ClosesThere star seen at bs r
general_ends star seen at [] r closed e = absurd (false≢true closed)
general_ends star seen at (b ∷ bs) r closed e =
    let parts = and_parts star (b == 47) closed in
    let ends : Some (seen, at + 1) ≡ Some r = sym (general_end star seen at (b ∷ bs) closed) ∙ e in
    let same : (seen, at + 1) ≡ r = cc in
    record { rest = bs; starred = parts.0; bytes = ap (λ x. x ∷ bs) (eqb-true b 47 parts.1); result = sym same }

-- a character, and what is behind it
general_more : (star seen : Bool) (at : ℕ) (bs : List ℕ) (r : Bool × ℕ) (c n : ℕ) → closes star bs ≡ false → some_char_at bs ≡ Some (c, n)
    → ClosesThere (c == 42) (seen || (c == 10)) (at + n) (drop n bs) r ⊎ GeneralRead (c == 42) (seen || (c == 10)) (at + n) (drop n bs) r → GeneralRead star seen at bs r
general_more star seen at bs r c n open_ e h =
    let is = some_char_is bs c n e in
    let s = char_is bs c n is.0 in
    let shown : (star && (c == 47)) ≡ false = ap (λ t. star && t) (sym (first_byte bs c n 47 is.0 (omega arith))) ∙ sym (closes_begins star bs) ∙ open_ in
    ⊎_elim
    (λ ends.
    let star_is : c ≡ 42 = eqb-true c 42 ends.starred in
    let one : encode_utf8 c ≡ 42 ∷ [] = ap encode_utf8 star_is ∙ encode_ascii 42 (omega arith) in
    let size : n ≡ 1 = sym s.width ∙ ap length one in
    record {
      characters = [];
      inner = [];
      rest = ends.rest;
      are = record { scalar = refl; pass = refl; bytes_are = refl };
      starts = and_true star false (false_right star);
      first = refl;
      bytes = s.bytes ∙ (λ i. one i ++ ends.bytes i);
      result = ends.result ∙ (λ i. (seen || (star_is i == 10), (at + size i) + 1)) ∙ ap (λ m. (seen || false, m)) (omega arith);
    })
    (λ read.
    let len : (at + n) + length read.inner ≡ at + length (encode_utf8 c ++ read.inner) = omega (arith, s.width, length-append (encode_utf8 c) read.inner) in
    record {
      characters = c ∷ read.characters;
      inner = encode_utf8 c ++ read.inner;
      rest = read.rest;
      are = record {
        scalar = and_from (scalar c) (all_scalars read.characters) s.scalar read.are.scalar;
        pass = and_from (is_some_character c) (list_all is_some_character read.characters) (not_from_false (c == 0) is.1) read.are.pass;
        bytes_are = ap (λ l. encode_utf8 c ++ l) read.are.bytes_are;
      };
      starts = and_true star (c == 47) shown;
      first = or_from (begins_with (42 ∷ 47 ∷ []) (c ∷ (read.characters ++ 42 ∷ []))) (has_close (read.characters ++ 42 ∷ [])) read.starts read.first;
      bytes = s.bytes ∙ ap (λ l. encode_utf8 c ++ l) read.bytes ∙ sym (append_assoc (encode_utf8 c) read.inner (42 ∷ 47 ∷ read.rest));
      result = read.result ∙ (λ i. (or_assoc seen (c == 10) (list_any (λ x. x == 10) read.characters) i, len i + 2));
    })
    h
  where
    false_right : (x : Bool) → (x && false) ≡ false
    false_right true = refl
    false_right false = refl

    or_assoc : (x y z : Bool) → ((x || y) || z) ≡ (x || (y || z))
    or_assoc true y z = refl
    or_assoc false y z = refl

general_by_char : (n : ℕ) → GeneralsTo n → (star seen : Bool) (at : ℕ) (bs : List ℕ) (r : Bool × ℕ) (o : Option (ℕ × ℕ)) → length bs ≤ suc n → closes star bs ≡ false → some_char_at bs ≡ o → general_from 0 star seen at bs ≡ Some r → GeneralRead star seen at bs r
general_by_char n ih star seen at bs r None h open_ e g =
    let never : general_from 0 star seen at bs ≡ None = general_none star seen at bs open_ e in absurd (cc)
general_by_char n ih star seen at bs r (Some x) h open_ e g =
    let w = char_within bs x.0 x.1 (some_char_is bs x.0 x.1 e).0 in
    general_more star seen at bs r x.0 x.1 open_ e
    (ih (x.0 == 42) (seen || (x.0 == 10)) (at + x.1) (drop x.1 bs) r (omega (arith, w.0, h, length-drop x.1 bs)) (sym (general_step star seen at bs x.0 x.1 open_ e) ∙ g))

generals_to : (n : ℕ) → GeneralsTo n
generals_to zero = λ star seen at bs r h e. nothing bs h e
  where
    nothing : (bs : List ℕ) {star seen : Bool} {at : ℕ} {r : Bool × ℕ} → length bs ≤ 0 → general_from 0 star seen at bs ≡ Some r → ClosesThere star seen at bs r ⊎ GeneralRead star seen at bs r
    nothing [] h e = absurd (cc)
    nothing (b ∷ bs) h e = absurd (omega arith)
generals_to (suc n) = λ star seen at bs r h e. some (generals_to n) star seen at bs r h e (closes star bs) refl
  where
    some : GeneralsTo n → (star seen : Bool) (at : ℕ) (bs : List ℕ) (r : Bool × ℕ) → length bs ≤ suc n → general_from 0 star seen at bs ≡ Some r → (t : Bool) → closes star bs ≡ t → ClosesThere star seen at bs r ⊎ GeneralRead star seen at bs r
    some ih star seen at bs r h e true shut = inl (general_ends star seen at bs r shut e)
    some ih star seen at bs r h e false open_ = inr (general_by_char n ih star seen at bs r (some_char_at bs) h open_ refl e)

pub record IsGeneral (text : List ℕ) (r : Piece × ℕ) : Type 0 where
  pub breaks : Bool
  pub kind : r.0 ≡ general_kind breaks
  pub comment : Fronts (IsGeneralComment breaks) r.1 text

pub general_is : (bs : List ℕ) (r : Piece × ℕ) → general_front (47 ∷ 42 ∷ bs) ≡ Some r → IsGeneral (47 ∷ 42 ∷ bs) r
general_is bs r e = go (general_from 0 false false 2 bs) refl e
  where
    read : (x : Bool × ℕ) → general_from 0 false false 2 bs ≡ Some x → GeneralRead false false 2 bs x
    read x is = ⊎_elim (λ c. absurd (false≢true c.starred)) (λ g. g) (generals_to (length bs) false false 2 bs x (omega arith) is)

    go : (o : Option (Bool × ℕ)) → general_from 0 false false 2 bs ≡ o → general_by o ≡ Some r → IsGeneral (47 ∷ 42 ∷ bs) r
    go None is e = absurd (cc)
    go (Some x) is e =
        let g = read x is in
        let same : (general_kind x.0, x.1) ≡ r = cc in
        subst (IsGeneral (47 ∷ 42 ∷ bs)) same (record {
          breaks = x.0;
          kind = refl;
          comment = record {
            front = 47 ∷ 42 ∷ (g.inner ++ 42 ∷ 47 ∷ []);
            rest = g.rest;
            text_is = ap (λ l. 47 ∷ 42 ∷ l) (g.bytes ∙ sym (general_shut g.inner g.rest));
            length_is = omega (arith, ap (λ (y : Bool × ℕ). y.1) g.result, length-append g.inner (42 ∷ 47 ∷ []));
            holds = record { characters = g.characters; inner = g.inner; are = g.are; first = g.first; broken = sym (ap (λ (y : Bool × ℕ). y.0) g.result); bytes_are = refl };
          };
        })
