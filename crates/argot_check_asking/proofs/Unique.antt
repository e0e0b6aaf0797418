-- At most one fact of a row.
use Rattle.std.proofs.Common.{◌≡◌, Bool, List, ◌∷◌, Some, refl, ap, ◌∙◌, sym, subst}
use Rattle.argot_check_asking.specs.Rules.{Rule, Says, says, Typed, is_typed, Comes, by_saying, by_one, by_both, by_none, by_some, by_all, AllTyped, none, more}

module _ {R F : Type 0} (typed : F → Bool) (rules : R → Rule R F) where
  mutual
    pub one_fact : {n : R} {f g : F} → Says typed rules n f → Says typed rules n g → f ≡ g
    one_fact {g = g} (says d s) (says e t) = let P : Rule R F → Type 0 = λ x. Comes typed rules x g in one_end s (subst P (sym e ∙ d) t)

    pub one_typed : {n : R} {f g : F} → Typed typed rules n f → Typed typed rules n g → f ≡ g
    one_typed (is_typed s e) (is_typed t d) = one_fact s t

    one_end : {r : Rule R F} {f g : F} → Comes typed rules r f → Comes typed rules r g → f ≡ g
    one_end by_saying by_saying = refl
    one_end {g = g} (by_one {k = k} t s) (by_one u q) = let P : F → Type 0 = λ x. Comes typed rules (k x) g in one_end s (subst P (sym (one_typed t u)) q)
    one_end {g = i} (by_both {k = k} {f = f} t v s) (by_both {g = g} u w q) =
        let P : F → Type 0 = λ x. Comes typed rules (k x g) i in
        let Q : F → Type 0 = λ x. Comes typed rules (k f x) i in
        one_end s (subst Q (sym (one_typed v w)) (subst P (sym (one_typed t u)) q))
    one_end (by_none s) (by_none q) = one_end s q
    one_end {g = g} (by_some {k = k} t s) (by_some u q) = let P : F → Type 0 = λ x. Comes typed rules (k (Some x)) g in one_end s (subst P (sym (one_typed t u)) q)
    one_end {g = g} (by_all {k = k} t s) (by_all u q) = let P : List F → Type 0 = λ x. Comes typed rules (k x) g in one_end s (subst P (sym (one_list t u)) q)

    pub one_list : {xs : List R} {fs gs : List F} → AllTyped typed rules xs fs → AllTyped typed rules xs gs → fs ≡ gs
    one_list none none = refl
    one_list (more {f = f} t ts) (more {fs = gs} u us) = ap (λ l. f ∷ l) (one_list ts us) ∙ ap (λ x. x ∷ gs) (one_typed t u)
