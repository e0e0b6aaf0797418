-- What the tests of instructions and wrappers say.
use Rattle.std.proofs.Common.{◌≡◌, ℕ, zero, suc, ◌+◌, ◌<◌, Bool, true, false, List, [], ◌∷◌, Some, refl, sym, ap, ◌∙◌, arith, subst, eqb-true, eq-eqb, ltb-true}
use Rattle.std.specs.Prelude.{slice_get, length, ◌==◌, ◌&&◌, ◌||◌, not, nat_lt, nat_eq}
use Rattle.std.specs.Cmp.Lexicographic.{pointwise}
use Rattle.std.proofs.lemmas.Bool.{and_parts, and_from}
use Rattle.argot_plain.specs.Lists.{In}
use Rattle.argot_plain.specs.Lists.In.{here, there}
use Rattle.argot_plain.specs.declared.functions.Function.{Function}
use Rattle.argot_plain.specs.declared.instructions.Instr.{Instr}
use Rattle.argot_plain.specs.declared.sites.Site.{Site}
use Rattle.argot_plain_parts.proofs.Parted.{three}
use Rattle.argot_plain_parts.specs.Instructions.{names_there, may_have_tags, instr_fits, instrs_fit}
use Rattle.argot_plain_parts.specs.Wrappers.{can_wrap, agree, agrees, methods_fit}

pub instr_at : (functions globals : ℕ) (sites : List Site) (files i : ℕ) (xs : List Instr) (k : ℕ) (x : Instr) → instrs_fit functions globals sites files i xs ≡ true → slice_get xs k ≡ Some x → (n : ℕ) → n ≡ i + k → instr_fits functions globals sites files n x ≡ true
instr_at functions globals sites files i [] k x h e n is = absurd cc
instr_at functions globals sites files i (y ∷ xs) zero x h e n is =
    subst (λ j. instr_fits functions globals sites files j x ≡ true) (let s : i ≡ n = omega arith in s) (subst (λ (z : Instr). instr_fits functions globals sites files i z ≡ true) (let s : y ≡ x = cc in s) (and_parts (instr_fits functions globals sites files i y) (instrs_fit functions globals sites files (i + 1) xs) h).0)
instr_at functions globals sites files i (y ∷ xs) (suc k) x h e n is = instr_at functions globals sites files (i + 1) xs k x (and_parts (instr_fits functions globals sites files i y) (instrs_fit functions globals sites files (i + 1) xs) h).1 e n (omega arith)

pub record Named (functions globals : ℕ) (sites : List Site) (files i : ℕ) (x : Instr) : Type 0 where
  pub names : names_there functions globals sites i x.kind ≡ true
  pub tags : ((length x.tags == 0) || may_have_tags x.kind) ≡ true
  pub file : x.at.file < files

pub named : (functions globals : ℕ) (sites : List Site) (files i : ℕ) (x : Instr) → instr_fits functions globals sites files i x ≡ true → Named functions globals sites files i x
named functions globals sites files i x h =
    let a = and_parts (names_there functions globals sites i x.kind) (((length x.tags == 0) || may_have_tags x.kind) && nat_lt x.at.file files) (three (names_there functions globals sites i x.kind) (((length x.tags == 0) || may_have_tags x.kind)) (nat_lt x.at.file files) h) in
    let b = and_parts ((length x.tags == 0) || may_have_tags x.kind) (nat_lt x.at.file files) a.1 in
    record { names = a.0; tags = b.0; file = ltb-true x.at.file files b.1 }

-- wrappers
pub wrapper_in : (fns : List Function) (xs : List (ℕ × List ℕ × ℕ)) (type h : ℕ) (name : List ℕ) → methods_fit fns xs ≡ true → In (type, name, h) xs → can_wrap (slice_get fns h) ≡ true
wrapper_in fns [] type h name fit m = elim m [ ]
wrapper_in fns (x ∷ xs) type h name fit (here e) =
    let a = and_parts (can_wrap (slice_get fns x.2)) (agrees x xs && methods_fit fns xs) (three (can_wrap (slice_get fns x.2)) (agrees x xs) (methods_fit fns xs) fit) in
    subst (λ n. can_wrap (slice_get fns n) ≡ true) (ap (λ (y : ℕ × List ℕ × ℕ). y.2) (sym e)) a.0
wrapper_in fns (x ∷ xs) type h name fit (there m) =
    let a = and_parts (can_wrap (slice_get fns x.2)) (agrees x xs && methods_fit fns xs) (three (can_wrap (slice_get fns x.2)) (agrees x xs) (methods_fit fns xs) fit) in
    wrapper_in fns xs type h name (and_parts (agrees x xs) (methods_fit fns xs) a.1).1 m

same_name : (ns : List ℕ) → pointwise nat_eq ns ns ≡ true
same_name [] = refl
same_name (n ∷ ns) = and_from (nat_eq n n) (pointwise nat_eq ns ns) (eq-eqb n n refl) (same_name ns)

third : (a b c : Bool) → (not a || not b || c) ≡ true → a ≡ true → b ≡ true → c ≡ true
third true true c h e f = h
third false b c h e f = cc
third true false c h e f = cc

agree_is : (type a b : ℕ) (name : List ℕ) → agree (type, name, a) (type, name, b) ≡ true → a ≡ b
agree_is type a b name h = eqb-true a b (third (type == type) (pointwise nat_eq name name) (a == b) h (eq-eqb type type refl) (same_name name))

agree_in : (x : ℕ × List ℕ × ℕ) (xs : List (ℕ × List ℕ × ℕ)) (y : ℕ × List ℕ × ℕ) → agrees x xs ≡ true → In y xs → agree x y ≡ true
agree_in x [] y h m = elim m [ ]
agree_in x (z ∷ xs) y h (here e) = subst (λ w. agree x w ≡ true) (sym e) (and_parts (agree x z) (agrees x xs) h).0
agree_in x (z ∷ xs) y h (there m) = agree_in x xs y (and_parts (agree x z) (agrees x xs) h).1 m

pub one_wrapper : (fns : List Function) (xs : List (ℕ × List ℕ × ℕ)) (type a b : ℕ) (name : List ℕ) → methods_fit fns xs ≡ true → In (type, name, a) xs → In (type, name, b) xs → a ≡ b
one_wrapper fns [] type a b name fit m n = elim m [ ]
one_wrapper fns (x ∷ xs) type a b name fit (here e) (here f) = ap (λ (y : ℕ × List ℕ × ℕ). y.2) (e ∙ sym f)
one_wrapper fns (x ∷ xs) type a b name fit (here e) (there n) =
    let c = and_parts (can_wrap (slice_get fns x.2)) (agrees x xs && methods_fit fns xs) (three (can_wrap (slice_get fns x.2)) (agrees x xs) (methods_fit fns xs) fit) in
    agree_is type a b name (subst (λ w. agree w (type, name, b) ≡ true) (sym e) (agree_in x xs (type, name, b) (and_parts (agrees x xs) (methods_fit fns xs) c.1).0 n))
one_wrapper fns (x ∷ xs) type a b name fit (there m) (here f) =
    let c = and_parts (can_wrap (slice_get fns x.2)) (agrees x xs && methods_fit fns xs) (three (can_wrap (slice_get fns x.2)) (agrees x xs) (methods_fit fns xs) fit) in
    sym (agree_is type b a name (subst (λ w. agree w (type, name, a) ≡ true) (sym f) (agree_in x xs (type, name, a) (and_parts (agrees x xs) (methods_fit fns xs) c.1).0 m)))
one_wrapper fns (x ∷ xs) type a b name fit (there m) (there n) =
    let c = and_parts (can_wrap (slice_get fns x.2)) (agrees x xs && methods_fit fns xs) (three (can_wrap (slice_get fns x.2)) (agrees x xs) (methods_fit fns xs) fit) in
    one_wrapper fns xs type a b name (and_parts (agrees x xs) (methods_fit fns xs) c.1).1 m n
