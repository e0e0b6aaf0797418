-- A box is read before it is written.
use Rattle.std.proofs.Common.{false, [], ◌∷◌, refl}
use Rattle.argot_plain.specs.Lists.{here, there}
use Rattle.argot_plain.specs.Outside.{by_number}
use Rattle.argot_plain.specs.Puts.{no_leaf, one_leaf, pick_all, pick_one}
use Rattle.argot_plain.specs.Step.{no_step, then_step, one_step, act_ends, act_enters, act_exits, act_leaves, act_puts, act_stores}
use Rattle.argot_plain.specs.declared.instructions.Callee.TheVariants.{Static}
use Rattle.argot_plain.specs.declared.instructions.Kind.TheVariants.{Branch, Goto, Join, Move, New, Op, Read, Step}
use Rattle.argot_text.specs.declared.path.PathStep.TheVariants.{Field}
use Rattle.argot_plain_worked.specs.ReadFirst.{function_0, function_1, function_2, function_6, ItEnds}

pub it_runs : ItEnds
it_runs = (
  27,
  _,
  then_step (then_step (then_step (then_step (then_step (then_step (then_step (then_step (then_step (then_step (then_step (then_step (then_step (then_step (then_step (then_step (then_step (then_step (then_step (then_step (then_step (then_step (then_step (then_step (then_step (then_step (then_step (no_step function_0 refl)
      (one_step 0 _ refl refl (act_puts (Goto 1) [] 1 refl refl refl (refl, refl))))
      (one_step 0 _ refl refl (act_puts (Branch (2 ∷ [])) [] 2 refl refl refl (0, refl))))
      (one_step 0 _ refl refl (act_enters [] (Static 6) [] 6 false function_6 refl refl by_number refl refl)))
      (one_step 0 _ refl refl (act_puts (Goto 30) [] 30 refl refl refl (refl, refl))))
      (one_step 0 _ refl refl (act_puts (Join 1 []) _ 31 refl refl (one_leaf ((Field 0) ∷ []) _ refl no_leaf) refl)))
      (one_step 0 _ refl refl (act_puts (New 2 0) _ 32 refl refl refl refl)))
      (one_step 0 _ refl refl (act_stores 2 1 _ _ _ 33 refl refl (here refl) refl refl)))
      (one_step 0 _ refl refl (act_puts (Move 0 2 []) _ 34 refl refl (one_leaf [] _ (pick_all refl) no_leaf) refl)))
      (one_step 0 _ refl refl (act_puts (Step 3 0 ((Field 0) ∷ [])) _ 35 refl refl (_, here refl, refl) refl)))
      (one_step 0 _ refl refl (act_puts (Read 4 3 ([] ∷ [])) _ 36 refl refl (_, here refl, (one_leaf [] _ (pick_one refl (there (here refl))) no_leaf)) refl)))
      (one_step 0 _ refl refl (act_enters [] (Static 2) (4 ∷ []) 2 false function_2 refl refl by_number refl refl)))
      (one_step 0 _ refl refl (act_puts (Goto 12) [] 12 refl refl refl (refl, refl))))
      (one_step 0 _ refl refl (act_exits 13 refl refl refl refl)))
      (one_step 0 _ refl refl (act_leaves [] [] (Static 2) (4 ∷ []) 37 refl refl refl refl refl)))
      (one_step 0 _ refl refl (act_puts (Step 5 0 ((Field 0) ∷ [])) _ 38 refl refl (_, here refl, refl) refl)))
      (one_step 0 _ refl refl (act_enters (6 ∷ []) (Static 1) [] 1 false function_1 refl refl by_number refl refl)))
      (one_step 0 _ refl refl (act_puts (Goto 6) [] 6 refl refl refl (refl, refl))))
      (one_step 0 _ refl refl (act_puts (Op 1 []) _ 7 refl refl refl refl)))
      (one_step 0 _ refl refl (act_puts (Move 0 1 []) _ 8 refl refl (one_leaf [] _ (pick_all refl) no_leaf) refl)))
      (one_step 0 _ refl refl (act_puts (Goto 9) [] 9 refl refl refl (refl, refl))))
      (one_step 0 _ refl refl (act_exits 10 refl refl refl refl)))
      (one_step 0 _ refl refl (act_leaves (0 ∷ []) (6 ∷ []) (Static 1) [] 39 refl refl refl refl refl)))
      (one_step 0 _ refl refl (act_stores 5 6 _ _ _ 40 refl refl (here refl) refl refl)))
      (one_step 0 _ refl refl (act_exits 41 refl refl refl refl)))
      (one_step 0 _ refl refl (act_leaves [] [] (Static 6) [] 3 refl refl refl refl refl)))
      (one_step 0 _ refl refl (act_exits 4 refl refl refl refl)))
      (one_step 0 _ refl refl (act_ends [] refl refl)),
  refl,
)
