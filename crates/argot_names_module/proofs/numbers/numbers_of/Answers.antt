use Rattle.std.proofs.Common.{◌≡◌, ◌++◌, true, arith, sym, ap, ◌∙◌, subst}
use Rattle.argot_tree.specs.Literals.{are_digits, value_of}
use Rattle.argot_names_module.proofs.Decimals.{numbers, front_of, rest_of, back_of}
use Rattle.argot_names_module.proofs.numbers.numbers_of.Goals as goal

pub returns-in_default-clause-none : goal.returns-in_default-clause-none
returns-in_default-clause-none c = λ major minor h. c.in_default.ensures.none (h.back ++ h.behind) (c.behind_digits.ensures ∙ rest_of c.args.word.now h)

pub returns-then-not-is_some-clause-none : goal.returns-then-not-is_some-clause-none
returns-then-not-is_some-clause-none c = λ major minor h.
    let same = c.digits_of-front.ensures ∙ front_of c.args.word.now h in
    let yes = c.is_some.ensures.1 (λ e. h.front_some (sym same ∙ e)) in
    let never = c.if-not-is_some.true in
    absurd (cc)

pub returns-then-not-is_some-2-clause-none : goal.returns-then-not-is_some-2-clause-none
returns-then-not-is_some-2-clause-none c = λ major minor h.
    let same = c.digits_of-back.ensures ∙ back_of c.args.word.now h c.in-Some.rest.now (sym c.behind_digits.ensures ∙ c.in-Some.ensures.some) in
    let yes = c.is_some-2.ensures.1 (λ e. h.back_some (sym same ∙ e)) in
    let never = c.if-not-is_some-2.true in
    absurd (cc)

pub returns-in_default-value_of-clause-none : goal.returns-in_default-value_of-clause-none
returns-in_default-value_of-clause-none c = λ major minor h.
    let same = c.digits_of-front.ensures ∙ front_of c.args.word.now h in
    let large = c.in_default-value_of.ensures.none (subst (λ t. are_digits 10 t ≡ true) (sym same) h.front_is) in
    let is : major ≡ value_of 10 c.digits_of-front.result.now = h.major_is ∙ ap (value_of 10) (sym same) in
    let fits = h.major_fits in
    omega (arith, large, is, fits)

pub returns-in_default-value_of-2-clause-none : goal.returns-in_default-value_of-2-clause-none
returns-in_default-value_of-2-clause-none c = λ major minor h.
    let same = c.digits_of-back.ensures ∙ back_of c.args.word.now h c.in-Some.rest.now (sym c.behind_digits.ensures ∙ c.in-Some.ensures.some) in
    let large = c.in_default-value_of-2.ensures.none (subst (λ t. are_digits 10 t ≡ true) (sym same) h.back_is) in
    let is : minor ≡ value_of 10 c.digits_of-back.result.now = h.minor_is ∙ ap (value_of 10) (sym same) in
    let fits = h.minor_fits in
    omega (arith, large, is, fits)

pub returns-clause-some : goal.returns-clause-some
returns-clause-some c =
    numbers c.args.word.now c.digits_of-front.result.now c.in-Some.rest.now c.digits_of-back.result.now c.digits_of-front.ensures (sym c.behind_digits.ensures ∙ c.in-Some.ensures.some) c.digits_of-back.ensures
    c.in-Some-value_of.major c.in-Some-value_of-2.minor (c.is_some.ensures.0 c.if-not-is_some.false) (c.is_some-2.ensures.0 c.if-not-is_some-2.false)
    c.in-Some-value_of.ensures.some c.in-Some-value_of-2.ensures.some c.in-Some-value_of.ensures.fits c.in-Some-value_of-2.ensures.fits
