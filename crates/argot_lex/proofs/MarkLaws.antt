-- The mark at the front is the longest.
use Rattle.std.proofs.Common.{◌≡◌, ℕ, ◌+◌, ◌<◌, ◌≤◌, List, [], ◌∷◌, ◌++◌, length, true, Option, Some, None, refl, sym, ap, ◌∙◌, subst, arith, append_assoc}
use Rattle.std.specs.Prelude.{◌==◌}
use Rattle.std.proofs.lemmas.Bool.{cond_both, eqb-true}
use Rattle.std.proofs.lemmas.List.{append-nil}
use Rattle.argot_tree.specs.declared.mark.Mark.{Mark}
use Rattle.argot_tree.specs.declared.mark.Mark.TheVariants as marks
use Rattle.argot_tree.specs.Marks.{mark_text}
use Rattle.argot_lex.specs.Marks.{single, before_equals, before_other, extend, grow_by, grow, mark_by, mark_front}
use Rattle.argot_lex.proofs.Fronting.{Fronts}

-- the mark of one byte is that byte
single_is : (b : ℕ) (m : Mark) → single b ≡ Some m → mark_text m ≡ b ∷ []
unfolding single
single_is b m =
    let P : Option Mark → Type 0 = λ o. o ≡ Some m → mark_text m ≡ b ∷ [] in
    cond_both (b == 43) _ _ P (λ is e. one marks.Plus 43 refl is e) (λ _.
    cond_both (b == 45) _ _ P (λ is e. one marks.Minus 45 refl is e) (λ _.
    cond_both (b == 42) _ _ P (λ is e. one marks.Star 42 refl is e) (λ _.
    cond_both (b == 47) _ _ P (λ is e. one marks.Slash 47 refl is e) (λ _.
    cond_both (b == 37) _ _ P (λ is e. one marks.Percent 37 refl is e) (λ _.
    cond_both (b == 38) _ _ P (λ is e. one marks.And 38 refl is e) (λ _.
    cond_both (b == 124) _ _ P (λ is e. one marks.Or 124 refl is e) (λ _.
    cond_both (b == 94) _ _ P (λ is e. one marks.Xor 94 refl is e) (λ _.
    cond_both (b == 60) _ _ P (λ is e. one marks.Less 60 refl is e) (λ _.
    cond_both (b == 62) _ _ P (λ is e. one marks.Greater 62 refl is e) (λ _.
    cond_both (b == 61) _ _ P (λ is e. one marks.Assign 61 refl is e) (λ _.
    cond_both (b == 33) _ _ P (λ is e. one marks.Not 33 refl is e) (λ _.
    cond_both (b == 126) _ _ P (λ is e. one marks.Tilde 126 refl is e) (λ _.
    cond_both (b == 40) _ _ P (λ is e. one marks.OpenParen 40 refl is e) (λ _.
    cond_both (b == 41) _ _ P (λ is e. one marks.CloseParen 41 refl is e) (λ _.
    cond_both (b == 91) _ _ P (λ is e. one marks.OpenBracket 91 refl is e) (λ _.
    cond_both (b == 93) _ _ P (λ is e. one marks.CloseBracket 93 refl is e) (λ _.
    cond_both (b == 123) _ _ P (λ is e. one marks.OpenBrace 123 refl is e) (λ _.
    cond_both (b == 125) _ _ P (λ is e. one marks.CloseBrace 125 refl is e) (λ _.
    cond_both (b == 44) _ _ P (λ is e. one marks.Comma 44 refl is e) (λ _.
    cond_both (b == 59) _ _ P (λ is e. one marks.Semicolon 59 refl is e) (λ _.
    cond_both (b == 46) _ _ P (λ is e. one marks.Dot 46 refl is e) (λ _.
    cond_both (b == 58) _ _ P (λ is e. one marks.Colon 58 refl is e) (λ _.
    (λ e. absurd (cc)))))))))))))))))))))))))
  where
    one : (x : Mark) (c : ℕ) → mark_text x ≡ c ∷ [] → (b == c) ≡ true → Some x ≡ Some m → mark_text m ≡ b ∷ []
    one x c text is e = let same : x ≡ m = cc in ap mark_text (sym same) ∙ text ∙ ap (λ n. n ∷ []) (sym (eqb-true b c is))

-- one more byte makes that byte longer
abbrev Longer : Mark → ℕ → Mark → Type 0
Longer m b longer = mark_text longer ≡ mark_text m ++ b ∷ []

equals_is : (m longer : Mark) → before_equals m ≡ Some longer → Longer m 61 longer
equals_is marks.Plus longer e = let same : marks.PlusAssign ≡ longer = cc in ap mark_text (sym same)
equals_is marks.Minus longer e = let same : marks.MinusAssign ≡ longer = cc in ap mark_text (sym same)
equals_is marks.Star longer e = let same : marks.StarAssign ≡ longer = cc in ap mark_text (sym same)
equals_is marks.Slash longer e = let same : marks.SlashAssign ≡ longer = cc in ap mark_text (sym same)
equals_is marks.Percent longer e = let same : marks.PercentAssign ≡ longer = cc in ap mark_text (sym same)
equals_is marks.And longer e = let same : marks.AndAssign ≡ longer = cc in ap mark_text (sym same)
equals_is marks.Or longer e = let same : marks.OrAssign ≡ longer = cc in ap mark_text (sym same)
equals_is marks.Xor longer e = let same : marks.XorAssign ≡ longer = cc in ap mark_text (sym same)
equals_is marks.ShiftLeft longer e = let same : marks.ShiftLeftAssign ≡ longer = cc in ap mark_text (sym same)
equals_is marks.ShiftRight longer e = let same : marks.ShiftRightAssign ≡ longer = cc in ap mark_text (sym same)
equals_is marks.AndNot longer e = let same : marks.AndNotAssign ≡ longer = cc in ap mark_text (sym same)
equals_is marks.PlusAssign longer e = absurd (cc)
equals_is marks.MinusAssign longer e = absurd (cc)
equals_is marks.StarAssign longer e = absurd (cc)
equals_is marks.SlashAssign longer e = absurd (cc)
equals_is marks.PercentAssign longer e = absurd (cc)
equals_is marks.AndAssign longer e = absurd (cc)
equals_is marks.OrAssign longer e = absurd (cc)
equals_is marks.XorAssign longer e = absurd (cc)
equals_is marks.ShiftLeftAssign longer e = absurd (cc)
equals_is marks.ShiftRightAssign longer e = absurd (cc)
equals_is marks.AndNotAssign longer e = absurd (cc)
equals_is marks.LogicalAnd longer e = absurd (cc)
equals_is marks.LogicalOr longer e = absurd (cc)
equals_is marks.Arrow longer e = absurd (cc)
equals_is marks.Increment longer e = absurd (cc)
equals_is marks.Decrement longer e = absurd (cc)
equals_is marks.Equal longer e = absurd (cc)
equals_is marks.Less longer e = let same : marks.LessEqual ≡ longer = cc in ap mark_text (sym same)
equals_is marks.Greater longer e = let same : marks.GreaterEqual ≡ longer = cc in ap mark_text (sym same)
equals_is marks.Assign longer e = let same : marks.Equal ≡ longer = cc in ap mark_text (sym same)
equals_is marks.Not longer e = let same : marks.NotEqual ≡ longer = cc in ap mark_text (sym same)
equals_is marks.Tilde longer e = absurd (cc)
equals_is marks.NotEqual longer e = absurd (cc)
equals_is marks.LessEqual longer e = absurd (cc)
equals_is marks.GreaterEqual longer e = absurd (cc)
equals_is marks.Define longer e = absurd (cc)
equals_is marks.Ellipsis longer e = absurd (cc)
equals_is marks.OpenParen longer e = absurd (cc)
equals_is marks.CloseParen longer e = absurd (cc)
equals_is marks.OpenBracket longer e = absurd (cc)
equals_is marks.CloseBracket longer e = absurd (cc)
equals_is marks.OpenBrace longer e = absurd (cc)
equals_is marks.CloseBrace longer e = absurd (cc)
equals_is marks.Comma longer e = absurd (cc)
equals_is marks.Semicolon longer e = absurd (cc)
equals_is marks.Dot longer e = absurd (cc)
equals_is marks.Colon longer e = let same : marks.Define ≡ longer = cc in ap mark_text (sym same)

other_one : (m x longer : Mark) (b c : ℕ) → mark_text x ≡ mark_text m ++ c ∷ [] → (b == c) ≡ true → Some x ≡ Some longer → Longer m b longer
other_one m x longer b c text is e =
    let same : x ≡ longer = cc in ap mark_text (sym same) ∙ text ∙ ap (λ n. mark_text m ++ n ∷ []) (sym (eqb-true b c is))

other_is : (m longer : Mark) (b : ℕ) → before_other m b ≡ Some longer → Longer m b longer
other_is marks.Plus longer b =
    let P : Option Mark → Type 0 = λ o. o ≡ Some longer → Longer marks.Plus b longer in
    cond_both (b == 43) _ _ P (λ is e. other_one marks.Plus marks.Increment longer b 43 refl is e) (λ _.
    (λ e. absurd (cc)))
other_is marks.Minus longer b =
    let P : Option Mark → Type 0 = λ o. o ≡ Some longer → Longer marks.Minus b longer in
    cond_both (b == 45) _ _ P (λ is e. other_one marks.Minus marks.Decrement longer b 45 refl is e) (λ _.
    (λ e. absurd (cc)))
other_is marks.Star longer b = λ e. absurd (cc)
other_is marks.Slash longer b = λ e. absurd (cc)
other_is marks.Percent longer b = λ e. absurd (cc)
other_is marks.And longer b =
    let P : Option Mark → Type 0 = λ o. o ≡ Some longer → Longer marks.And b longer in
    cond_both (b == 38) _ _ P (λ is e. other_one marks.And marks.LogicalAnd longer b 38 refl is e) (λ _.
    cond_both (b == 94) _ _ P (λ is e. other_one marks.And marks.AndNot longer b 94 refl is e) (λ _.
    (λ e. absurd (cc))))
other_is marks.Or longer b =
    let P : Option Mark → Type 0 = λ o. o ≡ Some longer → Longer marks.Or b longer in
    cond_both (b == 124) _ _ P (λ is e. other_one marks.Or marks.LogicalOr longer b 124 refl is e) (λ _.
    (λ e. absurd (cc)))
other_is marks.Xor longer b = λ e. absurd (cc)
other_is marks.ShiftLeft longer b = λ e. absurd (cc)
other_is marks.ShiftRight longer b = λ e. absurd (cc)
other_is marks.AndNot longer b = λ e. absurd (cc)
other_is marks.PlusAssign longer b = λ e. absurd (cc)
other_is marks.MinusAssign longer b = λ e. absurd (cc)
other_is marks.StarAssign longer b = λ e. absurd (cc)
other_is marks.SlashAssign longer b = λ e. absurd (cc)
other_is marks.PercentAssign longer b = λ e. absurd (cc)
other_is marks.AndAssign longer b = λ e. absurd (cc)
other_is marks.OrAssign longer b = λ e. absurd (cc)
other_is marks.XorAssign longer b = λ e. absurd (cc)
other_is marks.ShiftLeftAssign longer b = λ e. absurd (cc)
other_is marks.ShiftRightAssign longer b = λ e. absurd (cc)
other_is marks.AndNotAssign longer b = λ e. absurd (cc)
other_is marks.LogicalAnd longer b = λ e. absurd (cc)
other_is marks.LogicalOr longer b = λ e. absurd (cc)
other_is marks.Arrow longer b = λ e. absurd (cc)
other_is marks.Increment longer b = λ e. absurd (cc)
other_is marks.Decrement longer b = λ e. absurd (cc)
other_is marks.Equal longer b = λ e. absurd (cc)
other_is marks.Less longer b =
    let P : Option Mark → Type 0 = λ o. o ≡ Some longer → Longer marks.Less b longer in
    cond_both (b == 60) _ _ P (λ is e. other_one marks.Less marks.ShiftLeft longer b 60 refl is e) (λ _.
    cond_both (b == 45) _ _ P (λ is e. other_one marks.Less marks.Arrow longer b 45 refl is e) (λ _.
    (λ e. absurd (cc))))
other_is marks.Greater longer b =
    let P : Option Mark → Type 0 = λ o. o ≡ Some longer → Longer marks.Greater b longer in
    cond_both (b == 62) _ _ P (λ is e. other_one marks.Greater marks.ShiftRight longer b 62 refl is e) (λ _.
    (λ e. absurd (cc)))
other_is marks.Assign longer b = λ e. absurd (cc)
other_is marks.Not longer b = λ e. absurd (cc)
other_is marks.Tilde longer b = λ e. absurd (cc)
other_is marks.NotEqual longer b = λ e. absurd (cc)
other_is marks.LessEqual longer b = λ e. absurd (cc)
other_is marks.GreaterEqual longer b = λ e. absurd (cc)
other_is marks.Define longer b = λ e. absurd (cc)
other_is marks.Ellipsis longer b = λ e. absurd (cc)
other_is marks.OpenParen longer b = λ e. absurd (cc)
other_is marks.CloseParen longer b = λ e. absurd (cc)
other_is marks.OpenBracket longer b = λ e. absurd (cc)
other_is marks.CloseBracket longer b = λ e. absurd (cc)
other_is marks.OpenBrace longer b = λ e. absurd (cc)
other_is marks.CloseBrace longer b = λ e. absurd (cc)
other_is marks.Comma longer b = λ e. absurd (cc)
other_is marks.Semicolon longer b = λ e. absurd (cc)
other_is marks.Dot longer b = λ e. absurd (cc)
other_is marks.Colon longer b = λ e. absurd (cc)

extend_is : (m longer : Mark) (b : ℕ) → extend m b ≡ Some longer → Longer m b longer
unfolding extend
extend_is m longer b =
    cond_both (b == 61) (before_equals m) (before_other m b) (λ o. o ≡ Some longer → Longer m b longer)
    (λ is e. equals_is m longer e ∙ ap (λ n. mark_text m ++ n ∷ []) (sym (eqb-true b 61 is)))
    (λ _ e. other_is m longer b e)

-- the answer is at least as long as the mark so far, and that mark if it is as long
abbrev GrownLeast : Mark × ℕ → Mark → ℕ → Type 0
GrownLeast r m n = (n ≤ r.1) × (n ≡ r.1 → m ≡ r.0)

pub grow_least : (m : Mark) (n : ℕ) (more : List ℕ) → GrownLeast (grow m n more) m n
grow_least m n [] = (omega arith, λ _. refl)
grow_least m n (b ∷ bs) = go (λ longer. grow_least longer (n + 1) bs) (extend m b)
  where
    go : ((longer : Mark) → GrownLeast (grow longer (n + 1) bs) longer (n + 1)) → (o : Option Mark) → GrownLeast (grow_by o (m, n) (λ longer. grow longer (n + 1) bs)) m n
    go ih None = (omega arith, λ _. refl)
    go ih (Some longer) = let l = ih longer in (omega (arith, l.0), λ e. absurd (omega (arith, l.0)))

-- and it is the bytes there
abbrev GrownIs : Mark → ℕ → List ℕ → Mark × ℕ → Type 0
GrownIs m n text r = (read : List ℕ) × (rest : List ℕ) × (text ≡ read ++ rest) × (mark_text r.0 ≡ mark_text m ++ read) × (r.1 ≡ n + length read)

pub grow_is : (m : Mark) (n : ℕ) (text : List ℕ) → GrownIs m n text (grow m n text)
grow_is m n [] = ([], [], refl, sym (append-nil (mark_text m)), omega arith)
grow_is m n (b ∷ bs) = go (λ longer. grow_is longer (n + 1) bs) (extend m b) refl
  where
    go : ((longer : Mark) → GrownIs longer (n + 1) bs (grow longer (n + 1) bs)) → (o : Option Mark) → extend m b ≡ o → GrownIs m n (b ∷ bs) (grow_by o (m, n) (λ longer. grow longer (n + 1) bs))
    go ih None e = ([], b ∷ bs, refl, sym (append-nil (mark_text m)), omega arith)
    go ih (Some longer) e =
        let g = ih longer in
        (b ∷ g.0, g.1, ap (λ l. b ∷ l) g.2, g.3 ∙ ap (λ l. l ++ g.0) (extend_is m longer b e) ∙ append_assoc (mark_text m) (b ∷ []) g.0, omega (arith, g.4))

mark_length : (m : Mark) → 0 < length (mark_text m)
mark_length marks.Plus = omega arith
mark_length marks.Minus = omega arith
mark_length marks.Star = omega arith
mark_length marks.Slash = omega arith
mark_length marks.Percent = omega arith
mark_length marks.And = omega arith
mark_length marks.Or = omega arith
mark_length marks.Xor = omega arith
mark_length marks.ShiftLeft = omega arith
mark_length marks.ShiftRight = omega arith
mark_length marks.AndNot = omega arith
mark_length marks.PlusAssign = omega arith
mark_length marks.MinusAssign = omega arith
mark_length marks.StarAssign = omega arith
mark_length marks.SlashAssign = omega arith
mark_length marks.PercentAssign = omega arith
mark_length marks.AndAssign = omega arith
mark_length marks.OrAssign = omega arith
mark_length marks.XorAssign = omega arith
mark_length marks.ShiftLeftAssign = omega arith
mark_length marks.ShiftRightAssign = omega arith
mark_length marks.AndNotAssign = omega arith
mark_length marks.LogicalAnd = omega arith
mark_length marks.LogicalOr = omega arith
mark_length marks.Arrow = omega arith
mark_length marks.Increment = omega arith
mark_length marks.Decrement = omega arith
mark_length marks.Equal = omega arith
mark_length marks.Less = omega arith
mark_length marks.Greater = omega arith
mark_length marks.Assign = omega arith
mark_length marks.Not = omega arith
mark_length marks.Tilde = omega arith
mark_length marks.NotEqual = omega arith
mark_length marks.LessEqual = omega arith
mark_length marks.GreaterEqual = omega arith
mark_length marks.Define = omega arith
mark_length marks.Ellipsis = omega arith
mark_length marks.OpenParen = omega arith
mark_length marks.CloseParen = omega arith
mark_length marks.OpenBracket = omega arith
mark_length marks.CloseBracket = omega arith
mark_length marks.OpenBrace = omega arith
mark_length marks.CloseBrace = omega arith
mark_length marks.Comma = omega arith
mark_length marks.Semicolon = omega arith
mark_length marks.Dot = omega arith
mark_length marks.Colon = omega arith

-- what is found is a mark
pub record IsMark (text : List ℕ) (r : Mark × ℕ) : Type 0 where
  pub some : 0 < r.1
  pub front : Fronts (λ u. u ≡ mark_text r.0) r.1 text

pub mark_is : (text : List ℕ) (r : Mark × ℕ) → mark_front text ≡ Some r → IsMark text r
mark_is [] r e = absurd (cc)
mark_is (b ∷ bs) r e = go (single b) refl e
  where
    go : (o : Option Mark) → single b ≡ o → mark_by o bs ≡ Some r → IsMark (b ∷ bs) r
    go None s e = absurd (cc)
    go (Some m) s e =
        let g = grow_is m 1 bs in
        let same : grow m 1 bs ≡ r = cc in
        let one = single_is b m s in
        subst (IsMark (b ∷ bs)) same (record {
          some = omega (arith, g.4);
          front = record {
            front = b ∷ g.0;
            rest = g.1;
            text_is = ap (λ l. b ∷ l) g.2;
            length_is = omega (arith, g.4);
            holds = sym (g.3 ∙ ap (λ l. l ++ g.0) one);
          };
        })
