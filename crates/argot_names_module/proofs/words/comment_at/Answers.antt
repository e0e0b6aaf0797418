use Rattle.std.proofs.Common.{◌≡◌, ◌++◌, [], take, drop, length, sym, ap, ◌∙◌, arith, List, ℕ, ◌∷◌, refl, ◌≤◌}
use Rattle.std.proofs.Common.{zero, suc}
use Rattle.std.specs.Prelude.{nat_eq, codes}
use Rattle.std.specs.List.{starts_with}
use Rattle.argot_names_rules.specs.GoMod.{before_comment}
use Rattle.argot_names_module.proofs.Cutting.{before_none, comment_here}
use Rattle.argot_names_module.proofs.words.comment_at.Goals as goal

append_nil : (xs : List ℕ) → xs ++ [] ≡ xs
append_nil [] = refl
append_nil (x ∷ xs) = ap (λ ys. x ∷ ys) (append_nil xs)

drop_all : (xs : List ℕ) (n : ℕ) → length xs ≤ n → before_comment (drop n xs) ≡ []
drop_all [] zero l = refl
drop_all [] (suc n) l = refl
drop_all (x ∷ xs) zero l = absurd (omega arith)
drop_all (x ∷ xs) (suc n) l = drop_all xs n (omega arith)

pub returns-then-begins_comment-clause-text : goal.returns-then-begins_comment-clause-text
returns-then-begins_comment-clause-text c =
    before_none c.args.line.now c.loop-i.i c.loop-i.invariant (omega arith)
    ∙ (ap (λ xs. take c.loop-i.i c.args.line.now ++ xs) (comment_here (drop c.loop-i.i c.args.line.now) (ap (λ t. starts_with nat_eq t (codes "//")) (sym c.rest.ensures) ∙ (sym c.begins_comment.ensures ∙ c.if-begins_comment.true))) ∙ append_nil (take c.loop-i.i c.args.line.now))

pub returns-clause-text : goal.returns-clause-text
returns-clause-text c =
    before_none c.args.line.now (length c.args.line.now) (λ k l. c.loop-i.invariant k (omega arith)) (omega arith)
    ∙ (ap (λ xs. take (length c.args.line.now) c.args.line.now ++ xs) (drop_all c.args.line.now (length c.args.line.now) (omega arith)) ∙ append_nil (take (length c.args.line.now) c.args.line.now))
