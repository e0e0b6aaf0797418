-- A method is called through an interface.
use Rattle.std.proofs.Common.{false, [], ◌∷◌, refl}
use Rattle.std.specs.Prelude.{codes}
use Rattle.argot_plain.specs.Lists.{here, there}
use Rattle.argot_plain.specs.Outside.{by_number, by_reference, goes_by_method, by_method}
use Rattle.argot_plain.specs.Puts.{no_leaf, one_leaf, pick_all}
use Rattle.argot_plain.specs.Step.{no_step, then_step, one_step, act_ends, act_enters, act_exits, act_leaves, act_puts, act_stores}
use Rattle.argot_plain.specs.declared.instructions.Callee.TheVariants.{Static, Method}
use Rattle.argot_plain.specs.declared.instructions.Kind.TheVariants.{Branch, Goto, Join, Move, New, Op, Read}
use Rattle.argot_plain_worked.specs.CalledMethod.{function_0, function_2, function_6, function_7, function_9, ItEnds}

pub it_runs : ItEnds
it_runs = (
  32,
  _,
  then_step (then_step (then_step (then_step (then_step (then_step (then_step (then_step (then_step (then_step (then_step (then_step (then_step (then_step (then_step (then_step (then_step (then_step (then_step (then_step (then_step (then_step (then_step (then_step (then_step (then_step (then_step (then_step (then_step (then_step (then_step (then_step (no_step function_0 refl)
      (one_step 0 _ refl refl (act_puts (Goto 1) [] 1 refl refl refl (refl, refl))))
      (one_step 0 _ refl refl (act_puts (Branch (2 ∷ [])) [] 2 refl refl refl (0, refl))))
      (one_step 0 _ refl refl (act_enters [] (Static 7) [] 7 false function_7 refl refl by_number refl refl)))
      (one_step 0 _ refl refl (act_puts (Goto 39) [] 39 refl refl refl (refl, refl))))
      (one_step 0 _ refl refl (act_puts (Join 1 []) _ 40 refl refl no_leaf refl)))
      (one_step 0 _ refl refl (act_puts (New 2 1) _ 41 refl refl refl refl)))
      (one_step 0 _ refl refl (act_stores 2 1 _ _ _ 42 refl refl (here refl) refl refl)))
      (one_step 0 _ refl refl (act_puts (Move 0 2 []) _ 43 refl refl (one_leaf [] _ (pick_all refl) no_leaf) refl)))
      (one_step 0 _ refl refl (act_puts (Join 4 []) _ 44 refl refl no_leaf refl)))
      (one_step 0 _ refl refl (act_puts (New 5 2) _ 45 refl refl refl refl)))
      (one_step 0 _ refl refl (act_stores 5 4 _ _ _ 46 refl refl (here refl) refl refl)))
      (one_step 0 _ refl refl (act_puts (Move 3 5 []) _ 47 refl refl (one_leaf [] _ (pick_all refl) no_leaf) refl)))
      (one_step 0 _ refl refl (act_enters (6 ∷ []) (Method 3 (codes "main.m")) [] 9 false function_9 refl refl (by_reference 3 _ goes_by_method (here refl) (by_method _ refl (there (here refl)))) refl refl)))
      (one_step 0 _ refl refl (act_puts (Goto 57) [] 57 refl refl refl (refl, refl))))
      (one_step 0 _ refl refl (act_puts (Read 1 0 []) _ 58 refl refl (_, here refl, no_leaf) refl)))
      (one_step 0 _ refl refl (act_enters (2 ∷ []) (Static 6) (1 ∷ []) 6 false function_6 refl refl by_number refl refl)))
      (one_step 0 _ refl refl (act_puts (Goto 33) [] 33 refl refl refl (refl, refl))))
      (one_step 0 _ refl refl (act_puts (Op 2 []) _ 34 refl refl refl refl)))
      (one_step 0 _ refl refl (act_puts (Move 1 2 []) _ 35 refl refl (one_leaf [] _ (pick_all refl) no_leaf) refl)))
      (one_step 0 _ refl refl (act_puts (Goto 36) [] 36 refl refl refl (refl, refl))))
      (one_step 0 _ refl refl (act_exits 37 refl refl refl refl)))
      (one_step 0 _ refl refl (act_leaves (1 ∷ []) (2 ∷ []) (Static 6) (1 ∷ []) 59 refl refl refl refl refl)))
      (one_step 0 _ refl refl (act_exits 60 refl refl refl refl)))
      (one_step 0 _ refl refl (act_leaves (2 ∷ []) (6 ∷ []) (Method 3 (codes "main.m")) [] 48 refl refl refl refl refl)))
      (one_step 0 _ refl refl (act_enters [] (Static 2) (6 ∷ []) 2 false function_2 refl refl by_number refl refl)))
      (one_step 0 _ refl refl (act_puts (Goto 12) [] 12 refl refl refl (refl, refl))))
      (one_step 0 _ refl refl (act_exits 13 refl refl refl refl)))
      (one_step 0 _ refl refl (act_leaves [] [] (Static 2) (6 ∷ []) 49 refl refl refl refl refl)))
      (one_step 0 _ refl refl (act_exits 50 refl refl refl refl)))
      (one_step 0 _ refl refl (act_leaves [] [] (Static 7) [] 3 refl refl refl refl refl)))
      (one_step 0 _ refl refl (act_exits 4 refl refl refl refl)))
      (one_step 0 _ refl refl (act_ends [] refl refl)),
  refl,
)
