-- A run is all characters that pass, and no more.
use Rattle.std.proofs.Common.{◌≡◌, ℕ, zero, suc, ◌+◌, ◌<◌, ◌≤◌, List, [], ◌∷◌, ◌++◌, length, drop, Bool, true, false, cond, Option, Some, None, refl, sym, ap, ◌∙◌, subst, arith, length-append, append_assoc, length-drop}
use Rattle.std.specs.Prelude.{◌==◌, encode_utf8, encode_utf8_all}
use Rattle.std.specs.List.{list_all}
use Rattle.std.specs.Str.{all_scalars}
use Rattle.std.proofs.Math.Utf8.{scalar}
use Rattle.std.proofs.Math.Seq.{drop-append_seam}
use Rattle.std.proofs.lemmas.Bool.{cond_both, and_parts, and_from, eqb-true, eqb-false, ne_eqb}
use Rattle.std.proofs.lemmas.Str.{length-encode, len_utf8_bounds, encode_ascii}
use Rattle.bstr.proofs.lemmas.SoundLemmas.{SpellsChar}
use Rattle.argot_tree.specs.Characters.{AreCharacters}
use Rattle.argot_lex.specs.Characters.{char_at, step_by, run_from}
use Rattle.argot_lex.specs.Literals.{begins}
use Rattle.argot_lex.proofs.Fronting.{Fronts}
use Rattle.argot_lex.proofs.Chars.{char_found, char_is, char_within, char_ascii, run_step, run_stop}

-- how long the run is where characters that pass stand at the front
run_over : (p : ℕ → Bool) (cs more : List ℕ) → all_scalars cs ≡ true → list_all p cs ≡ true → run_from p 0 (encode_utf8_all cs ++ more) ≡ length (encode_utf8_all cs) + run_from p 0 more
run_over p [] more s h = omega arith
run_over p (c ∷ cs) more s h =
    let ss = and_parts (scalar c) (all_scalars cs) s in
    let hh = and_parts (p c) (list_all p cs) h in
    let u = encode_utf8 c in
    let rest = encode_utf8_all cs ++ more in
    let flat : (u ++ encode_utf8_all cs) ++ more ≡ u ++ rest = append_assoc u (encode_utf8_all cs) more in
    let step : step_by p (char_at (u ++ rest)) ≡ length u = ap (step_by p) (char_found c rest ss.0) ∙ ap (λ t. cond t (length u) 0) hh.0 in
    let some : 0 < length u = omega (arith, length-encode c, len_utf8_bounds c) in
    let once = run_step p (u ++ rest) (length u) step some (omega (arith, length-append u rest)) in
    let on = run_over p cs more ss.1 hh.1 in
    omega (arith, ap (run_from p 0) flat, once, ap (run_from p 0) (drop-append_seam u rest), on, length-append u (encode_utf8_all cs))

pub run_found : (p : ℕ → Bool) (cs u more : List ℕ) → AreCharacters p cs u → run_from p 0 (u ++ more) ≡ length u + run_from p 0 more
run_found p cs u more are =
    subst (λ v. run_from p 0 (v ++ more) ≡ length v + run_from p 0 more) (sym are.bytes_are) (run_over p cs more are.scalar are.pass)

-- the run is characters that pass
abbrev pub Passing : (ℕ → Bool) → List ℕ → Type 0
Passing p u = (cs : List ℕ) × AreCharacters p cs u

no_run : (p : ℕ → Bool) (bs : List ℕ) (n : ℕ) → n ≡ 0 → Fronts (Passing p) n bs
no_run p bs n e = record {
  front = [];
  rest = bs;
  text_is = refl;
  length_is = e;
  holds = ([], record { scalar = refl; pass = refl; bytes_are = refl });
}

more_run : (p : ℕ → Bool) (bs : List ℕ) (c n m : ℕ) → SpellsChar bs c n → p c ≡ true → m ≡ n + run_from p 0 (drop n bs) → Fronts (Passing p) (run_from p 0 (drop n bs)) (drop n bs) → Fronts (Passing p) m bs
more_run p bs c n m s pass e f = record {
  front = encode_utf8 c ++ f.front;
  rest = f.rest;
  text_is = s.bytes ∙ ap (λ l. encode_utf8 c ++ l) f.text_is ∙ sym (append_assoc (encode_utf8 c) f.front f.rest);
  length_is = omega (arith, e, s.width, f.length_is, length-append (encode_utf8 c) f.front);
  holds = (
    c ∷ f.holds.0,
    record {
      scalar = and_from (scalar c) (all_scalars f.holds.0) s.scalar f.holds.1.scalar;
      pass = and_from (p c) (list_all p f.holds.0) pass f.holds.1.pass;
      bytes_are = ap (λ l. encode_utf8 c ++ l) f.holds.1.bytes_are;
    },
  );
}

abbrev RunsTo : (ℕ → Bool) → ℕ → Type 0
RunsTo p n = (bs : List ℕ) → length bs ≤ n → Fronts (Passing p) (run_from p 0 bs) bs

run_by : (p : ℕ → Bool) (n : ℕ) → RunsTo p n → (bs : List ℕ) → length bs ≤ suc n → (o : Option (ℕ × ℕ)) → char_at bs ≡ o → Fronts (Passing p) (run_from p 0 bs) bs
run_by p n ih bs h None e = no_run p bs (run_from p 0 bs) (run_stop p bs (ap (step_by p) e))
run_by p n ih bs h (Some r) e =
    let w = char_within bs r.0 r.1 e in
    cond_both (p r.0) r.1 0 (λ k. step_by p (char_at bs) ≡ k → Fronts (Passing p) (run_from p 0 bs) bs)
    (λ pass step.
    let rest = ih (drop r.1 bs) (omega (arith, w.0, h, length-drop r.1 bs)) in
    more_run p bs r.0 r.1 (run_from p 0 bs) (char_is bs r.0 r.1 e) pass (run_step p bs r.1 step w.0 w.1) rest)
    (λ _ step. no_run p bs (run_from p 0 bs) (run_stop p bs step))
    (ap (step_by p) e)

run_to : (p : ℕ → Bool) (n : ℕ) → RunsTo p n
run_to p zero = λ bs h. go bs h
  where
    go : (bs : List ℕ) → length bs ≤ 0 → Fronts (Passing p) (run_from p 0 bs) bs
    go [] h = no_run p [] 0 refl
    go (b ∷ bs) h = absurd (omega arith)
run_to p (suc n) = λ bs h. run_by p n (run_to p n) bs h (char_at bs) refl

pub run_is : (p : ℕ → Bool) (bs : List ℕ) → Fronts (Passing p) (run_from p 0 bs) bs
run_is p bs = run_to p (length bs) bs (omega arith)

-- a byte below 128 stands at the front where that character does
pub first_byte : (bs : List ℕ) (c n b : ℕ) → char_at bs ≡ Some (c, n) → b < 128 → begins b bs ≡ (c == b)
first_byte [] c n b e low = let w = char_within [] c n e in absurd (omega (arith, w.0, w.1))
first_byte (x ∷ bs) c n b e low = go (x == b) refl
  where
    go : (t : Bool) → (x == b) ≡ t → (x == b) ≡ (c == b)
    go true is =
        let same : x ≡ b = eqb-true x b is in
        let at : (x, 1) ≡ (c, n) = let f = char_ascii x bs (omega (arith, same)) in let g : Some (x, 1) ≡ Some (c, n) = sym f ∙ e in cc in
        ap (λ (r : ℕ × ℕ). r.0 == b) at
    go false is =
        let other : c ≡ b → ⊥ = λ same.
        let s = char_is (x ∷ bs) c n e in
        let bytes : x ∷ bs ≡ c ∷ drop n (x ∷ bs) = s.bytes ∙ ap (λ l. l ++ drop n (x ∷ bs)) (encode_ascii c (omega (arith, same))) in
        let first : x ≡ c = cc in
        eqb-false x b is (first ∙ same) in
        is ∙ sym (ne_eqb c b other)
