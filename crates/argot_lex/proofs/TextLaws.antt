-- Runes and texts are read exactly.
use Rattle.std.proofs.Common.{◌≡◌, ℕ, zero, suc, ◌+◌, ◌≤◌, List, [], ◌∷◌, ◌++◌, length, drop, Bool, true, false, Option, Some, None, refl, sym, ap, ◌∙◌, arith, length-append, append_assoc, length-drop}
use Rattle.std.specs.Prelude.{◌==◌}
use Rattle.std.proofs.Math.Seq.{drop-append_seam}
use Rattle.std.proofs.lemmas.Bool.{cond_both, eqb-true}
use Rattle.argot_tree.specs.Characters.{is_other_than}
use Rattle.argot_tree.specs.Literals.{IsElement, AreElements, none, more, IsRune, IsChars, IsRawChars}
use Rattle.argot_lex.specs.Characters.{step_by, run_from}
use Rattle.argot_lex.specs.Literals.{element_len, closed, rune_by, rune_front, raw_by, raw_front, text_from, text_front}
use Rattle.argot_lex.proofs.Fronting.{Fronts, fronts_drop}
use Rattle.argot_lex.proofs.Chars.{char_ascii, run_stop}
use Rattle.argot_lex.proofs.Elements.{element_found, element_is, element_within, text_step}
use Rattle.argot_lex.proofs.Runs.{run_found, run_is, Passing}

-- inner bytes and a closing quote
shut : (inner rest : List ℕ) (q : ℕ) → (inner ++ q ∷ []) ++ rest ≡ inner ++ q ∷ rest
shut inner rest q = append_assoc inner (q ∷ []) rest

shut_length : (inner : List ℕ) (q : ℕ) → length (q ∷ (inner ++ q ∷ [])) ≡ length inner + 2
shut_length inner q = omega (arith, length-append inner (q ∷ []))

-- what a closing quote says
closed_is : (q : ℕ) (rest : List ℕ) (n e : ℕ) → closed q rest n ≡ Some e → (behind : List ℕ) × (rest ≡ q ∷ behind) × (e ≡ n + 1)
closed_is q [] n e = λ h. absurd (cc)
closed_is q (b ∷ bs) n e =
    cond_both (b == q) (Some (n + 1)) None (λ o. o ≡ Some e → (behind : List ℕ) × (b ∷ bs ≡ q ∷ behind) × (e ≡ n + 1))
    (λ same h. let len : n + 1 ≡ e = cc in (bs, ap (λ x. x ∷ bs) (eqb-true b q same), sym len))
    (λ _ h. absurd (cc))

-- texts
elements_found : (inner : List ℕ) → AreElements 34 inner → (at : ℕ) (rest : List ℕ) → text_from 34 0 at (inner ++ rest) ≡ text_from 34 0 (at + length inner) rest
elements_found inner none at rest = ap (λ n. text_from 34 0 n rest) (omega arith)
elements_found inner (more {front} {back} first others) at rest =
    let flat = append_assoc front back rest in
    let len = element_found 34 (omega arith) front (back ++ rest) first in
    ap (text_from 34 0 at) flat
    ∙ text_step 34 (front ++ (back ++ rest)) at (length front) (omega arith) len
    ∙ ap (text_from 34 0 (at + length front)) (drop-append_seam front (back ++ rest))
    ∙ elements_found back others (at + length front) rest
    ∙ ap (λ n. text_from 34 0 n rest) (omega (arith, length-append front back))

pub text_found : (u rest : List ℕ) → IsChars u → text_front (u ++ rest) ≡ Some (length u)
text_found u rest is =
    let inner = is.0 in
    let text = ap (λ l. l ++ rest) is.2 in
    let len : (1 + length inner) + 1 ≡ length u = omega (arith, ap length is.2, shut_length inner 34) in
    ap text_front text ∙ ap (text_from 34 0 1) (shut inner rest 34) ∙ elements_found inner is.1 1 (34 ∷ rest) ∙ ap (λ n. Some n) len

-- what was read of a text
record TextRead (at : ℕ) (bs : List ℕ) (e : ℕ) : Type 0 where
  inner : List ℕ
  rest : List ℕ
  are : AreElements 34 inner
  bytes : bs ≡ inner ++ 34 ∷ rest
  end : e ≡ (at + length inner) + 1

abbrev TextsTo : ℕ → Type 0
TextsTo n = (bs : List ℕ) (at e : ℕ) → length bs ≤ n → text_from 34 0 at bs ≡ Some e → TextRead at bs e

text_more : (n : ℕ) → TextsTo n → (bs : List ℕ) (at e m : ℕ) → length bs ≤ suc n → element_len 34 bs ≡ Some m → text_from 34 0 at bs ≡ Some e → TextRead at bs e
text_more n ih bs at e m h len t =
    let w = element_within 34 bs m len in
    let f = element_is 34 bs m len in
    let r = ih (drop m bs) (at + m) e (omega (arith, w.0, h, length-drop m bs)) (sym (text_step 34 bs at m (omega arith) len) ∙ t) in
    let rest_is = fronts_drop (IsElement 34) m bs f in
    record {
      inner = f.front ++ r.inner;
      rest = r.rest;
      are = more f.holds r.are;
      bytes = f.text_is ∙ ap (λ l. f.front ++ l) (sym rest_is ∙ r.bytes) ∙ sym (append_assoc f.front r.inner (34 ∷ r.rest));
      end = omega (arith, r.end, f.length_is, length-append f.front r.inner);
    }

text_by : (n : ℕ) → TextsTo n → (b : ℕ) (bs : List ℕ) (at e : ℕ) (o : Option ℕ) → length (b ∷ bs) ≤ suc n → element_len 34 (b ∷ bs) ≡ o → text_from 34 0 at (b ∷ bs) ≡ Some e → (b == 34) ≡ false → TextRead at (b ∷ bs) e
text_by n ih b bs at e None h len t other =
    let same : text_from 34 0 at (b ∷ bs) ≡ None = rw (other, len) refl in absurd (cc)
text_by n ih b bs at e (Some m) h len t other = text_more n ih (b ∷ bs) at e m h len t

texts_to : (n : ℕ) → TextsTo n
texts_to zero = λ bs at e h t. nothing bs h t
  where
    nothing : (bs : List ℕ) {at e : ℕ} → length bs ≤ 0 → text_from 34 0 at bs ≡ Some e → TextRead at bs e
    nothing [] h t = absurd (cc)
    nothing (b ∷ bs) h t = absurd (omega arith)
texts_to (suc n) = λ bs at e h t. some (texts_to n) bs at e h t
  where
    some : TextsTo n → (bs : List ℕ) (at e : ℕ) → length bs ≤ suc n → text_from 34 0 at bs ≡ Some e → TextRead at bs e
    some ih [] at e h t = absurd (cc)
    some ih (b ∷ bs) at e h t = go (b == 34) refl
      where
        go : (x : Bool) → (b == 34) ≡ x → TextRead at (b ∷ bs) e
        go true is =
            let quote = eqb-true b 34 is in
            let ends : text_from 34 0 at (b ∷ bs) ≡ Some (at + 1) = rw is refl in
            let len : at + 1 ≡ e = cc in
            record { inner = []; rest = bs; are = none; bytes = ap (λ x. x ∷ bs) quote; end = omega arith }
        go false is = text_by n ih b bs at e (element_len 34 (b ∷ bs)) h refl t is

pub text_is : (bs : List ℕ) (e : ℕ) → text_front (34 ∷ bs) ≡ Some e → Fronts IsChars e (34 ∷ bs)
text_is bs e t =
    let r = texts_to (length bs) bs 1 e (omega arith) t in
    record {
      front = 34 ∷ (r.inner ++ 34 ∷ []);
      rest = r.rest;
      text_is = ap (λ l. 34 ∷ l) (r.bytes ∙ sym (shut r.inner r.rest 34));
      length_is = omega (arith, r.end, shut_length r.inner 34);
      holds = (r.inner, r.are, refl);
    }

-- runes
pub rune_found : (u rest : List ℕ) → IsRune u → rune_front (u ++ rest) ≡ Some (length u)
rune_found u rest is =
    let inner = is.0 in
    let len = element_found 39 (omega arith) inner (39 ∷ rest) is.1 in
    let total : (1 + length inner) + 1 ≡ length u = omega (arith, ap length is.2, shut_length inner 39) in
    ap rune_front (ap (λ l. l ++ rest) is.2)
    ∙ ap (λ l. rune_by (element_len 39 l) l) (shut inner rest 39)
    ∙ ap (λ o. rune_by o (inner ++ 39 ∷ rest)) len
    ∙ ap (λ l. closed 39 l (1 + length inner)) (drop-append_seam inner (39 ∷ rest))
    ∙ ap (λ n. Some n) total

pub rune_is : (bs : List ℕ) (e : ℕ) → rune_front (39 ∷ bs) ≡ Some e → Fronts IsRune e (39 ∷ bs)
rune_is bs e t = go (element_len 39 bs) refl t
  where
    go : (o : Option ℕ) → element_len 39 bs ≡ o → rune_by o bs ≡ Some e → Fronts IsRune e (39 ∷ bs)
    go None len t = absurd (cc)
    go (Some n) len t =
        let f = element_is 39 bs n len in
        let c = closed_is 39 (drop n bs) (1 + n) e t in
        let rest_is : f.rest ≡ 39 ∷ c.0 = sym (fronts_drop (IsElement 39) n bs f) ∙ c.1 in
        record {
          front = 39 ∷ (f.front ++ 39 ∷ []);
          rest = c.0;
          text_is = ap (λ l. 39 ∷ l) (f.text_is ∙ ap (λ l. f.front ++ l) rest_is ∙ sym (shut f.front c.0 39));
          length_is = omega (arith, c.2, f.length_is, shut_length f.front 39);
          holds = (f.front, f.holds, refl);
        }

-- raw texts
raw_stops : (rest : List ℕ) → run_from (is_other_than 96) 0 (96 ∷ rest) ≡ 0
raw_stops rest = run_stop (is_other_than 96) (96 ∷ rest) (ap (step_by (is_other_than 96)) (char_ascii 96 rest (omega arith)))

pub raw_found : (u rest : List ℕ) → IsRawChars u → raw_front (u ++ rest) ≡ Some (length u)
raw_found u rest is =
    let inner = is.1 in
    let run : run_from (is_other_than 96) 0 (inner ++ 96 ∷ rest) ≡ length inner = omega (arith, run_found (is_other_than 96) is.0 inner (96 ∷ rest) is.2, raw_stops rest) in
    let total : (1 + length inner) + 1 ≡ length u = omega (arith, ap length is.3, shut_length inner 96) in
    ap raw_front (ap (λ l. l ++ rest) is.3)
    ∙ ap (λ l. raw_by (run_from (is_other_than 96) 0 l) l) (shut inner rest 96)
    ∙ ap (λ n. raw_by n (inner ++ 96 ∷ rest)) run
    ∙ ap (λ l. closed 96 l (1 + length inner)) (drop-append_seam inner (96 ∷ rest))
    ∙ ap (λ n. Some n) total

pub raw_is : (bs : List ℕ) (e : ℕ) → raw_front (96 ∷ bs) ≡ Some e → Fronts IsRawChars e (96 ∷ bs)
raw_is bs e t =
    let p = is_other_than 96 in
    let n = run_from p 0 bs in
    let f = run_is p bs in
    let c = closed_is 96 (drop n bs) (1 + n) e t in
    let rest_is : f.rest ≡ 96 ∷ c.0 = sym (fronts_drop (Passing p) n bs f) ∙ c.1 in
    record {
      front = 96 ∷ (f.front ++ 96 ∷ []);
      rest = c.0;
      text_is = ap (λ l. 96 ∷ l) (f.text_is ∙ ap (λ l. f.front ++ l) rest_is ∙ sym (shut f.front c.0 96));
      length_is = omega (arith, c.2, f.length_is, shut_length f.front 96);
      holds = (f.holds.0, f.front, f.holds.1, refl);
    }
