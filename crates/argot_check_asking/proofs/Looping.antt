-- What has a fact doesn't need itself.
use Rattle.std.proofs.Common.{Bool, List, Some, sym, subst}
use Rattle.argot_check_asking.specs.Rules.{Rule, Says, says, Typed, is_typed, Comes, by_saying, by_one, by_both, by_none, by_some, by_all, AllTyped, none, more}
use Rattle.argot_check_asking.specs.Needs.{Among, here, there, Wants, one, behind_one, left, right, behind_both, perhaps, behind_none, behind_some, some, behind_all, Needs, Chain, at_once, through}
use Rattle.argot_check_asking.proofs.Unique.{one_typed, one_list}

-- each walk by steps from there ends
pub data Ending {R : Type 0} (Step : R → R → Type 0) : R → Type 0 where
  ending : {n : R} → ((m : R) → Step n m → Ending Step m) → Ending Step n

module _ {R : Type 0} (Step : R → R → Type 0) where
  step_last : {a b c : R} → Chain Step a b → Step b c → Chain Step a c
  step_last (at_once s) t = through s (at_once t)
  step_last (through s d) t = through s (step_last d t)

  pub no_loop : {n : R} → Ending Step n → Chain Step n n → ⊥
  no_loop (ending s) (at_once t) = no_loop (s _ t) (at_once t)
  no_loop (ending s) (through t d) = no_loop (s _ t) (step_last d t)

module _ {R F : Type 0} (typed : F → Bool) (rules : R → Rule R F) where
  mutual
    said_ends : {n : R} {f : F} → Says typed rules n f → Ending (Needs typed rules) n
    said_ends (says e s) = ending (λ m a. let P : Rule R F → Type 0 = λ x. Wants typed rules x m in wanted_ends s (subst P e a))

    wanted_ends : {r : Rule R F} {m : R} {g : F} → Comes typed rules r g → Wants typed rules r m → Ending (Needs typed rules) m
    wanted_ends by_saying w = elim w [ ]
    wanted_ends (by_one t s) one = typed_ends t
    wanted_ends {m = m} (by_one {k = k} t s) (behind_one u w) = let P : F → Type 0 = λ x. Wants typed rules (k x) m in wanted_ends s (subst P (sym (one_typed typed rules t u)) w)
    wanted_ends (by_both t v s) left = typed_ends t
    wanted_ends (by_both t v s) right = typed_ends v
    wanted_ends {m = m} (by_both {k = k} {f = f} t v s) (behind_both {g = g} u x w) =
        let P : F → Type 0 = λ y. Wants typed rules (k y g) m in
        let Q : F → Type 0 = λ y. Wants typed rules (k f y) m in
        wanted_ends s (subst Q (sym (one_typed typed rules v x)) (subst P (sym (one_typed typed rules t u)) w))
    wanted_ends (by_none s) (behind_none w) = wanted_ends s w
    wanted_ends (by_some t s) perhaps = typed_ends t
    wanted_ends {m = m} (by_some {k = k} t s) (behind_some u w) = let P : F → Type 0 = λ x. Wants typed rules (k (Some x)) m in wanted_ends s (subst P (sym (one_typed typed rules t u)) w)
    wanted_ends (by_all t s) (some a) = among_ends t a
    wanted_ends {m = m} (by_all {k = k} t s) (behind_all u w) = let P : List F → Type 0 = λ x. Wants typed rules (k x) m in wanted_ends s (subst P (sym (one_list typed rules t u)) w)

    among_ends : {xs : List R} {fs : List F} {m : R} → AllTyped typed rules xs fs → Among xs m → Ending (Needs typed rules) m
    among_ends none a = elim a [ ]
    among_ends (more t ts) here = typed_ends t
    among_ends (more t ts) (there a) = among_ends ts a

    typed_ends : {n : R} {f : F} → Typed typed rules n f → Ending (Needs typed rules) n
    typed_ends (is_typed s e) = said_ends s

  pub no_fact : {n : R} {f : F} → Says typed rules n f → Chain (Needs typed rules) n n → ⊥
  no_fact s d = no_loop (Needs typed rules) (said_ends s) d
