-- A deferred call keeps what it is handed.
use Rattle.std.proofs.Common.{false, [], ◌∷◌, refl}
use Rattle.argot_plain.specs.Machine.{Found}
use Rattle.argot_plain.specs.Outside.{by_number}
use Rattle.argot_plain.specs.Puts.{no_leaf, one_leaf, pick_all}
use Rattle.argot_plain.specs.Step.{no_step, then_step, one_step, act_ends, act_enters, act_exits, act_keeps, act_leaves, act_leaves_deferred, act_puts, act_runs}
use Rattle.argot_plain.specs.declared.instructions.Callee.TheVariants.{Static}
use Rattle.argot_plain.specs.declared.instructions.Kind.TheVariants.{Branch, Goto, Move, Op}
use Rattle.argot_plain_worked.specs.DeferredCall.{function_0, function_1, function_2, function_5, ItEnds}

pub it_runs : ItEnds
it_runs = (
  23,
  _,
  then_step (then_step (then_step (then_step (then_step (then_step (then_step (then_step (then_step (then_step (then_step (then_step (then_step (then_step (then_step (then_step (then_step (then_step (then_step (then_step (then_step (then_step (then_step (no_step function_0 refl)
      (one_step 0 _ refl refl (act_puts (Goto 1) [] 1 refl refl refl (refl, refl))))
      (one_step 0 _ refl refl (act_puts (Branch (2 ∷ [])) [] 2 refl refl refl (0, refl))))
      (one_step 0 _ refl refl (act_enters [] (Static 5) [] 5 false function_5 refl refl by_number refl refl)))
      (one_step 0 _ refl refl (act_puts (Goto 27) [] 27 refl refl refl (refl, refl))))
      (one_step 0 _ refl refl (act_puts (Op 1 []) _ 28 refl refl refl refl)))
      (one_step 0 _ refl refl (act_puts (Move 0 1 []) _ 29 refl refl (one_leaf [] _ (pick_all refl) no_leaf) refl)))
      (one_step 0 _ refl refl (act_keeps (Static 2) (0 ∷ []) (Found 2 false) 30 refl refl by_number refl)))
      (one_step 0 _ refl refl (act_enters (2 ∷ []) (Static 1) [] 1 false function_1 refl refl by_number refl refl)))
      (one_step 0 _ refl refl (act_puts (Goto 6) [] 6 refl refl refl (refl, refl))))
      (one_step 0 _ refl refl (act_puts (Op 1 []) _ 7 refl refl refl refl)))
      (one_step 0 _ refl refl (act_puts (Move 0 1 []) _ 8 refl refl (one_leaf [] _ (pick_all refl) no_leaf) refl)))
      (one_step 0 _ refl refl (act_puts (Goto 9) [] 9 refl refl refl (refl, refl))))
      (one_step 0 _ refl refl (act_exits 10 refl refl refl refl)))
      (one_step 0 _ refl refl (act_leaves (0 ∷ []) (2 ∷ []) (Static 1) [] 31 refl refl refl refl refl)))
      (one_step 0 _ refl refl (act_puts (Move 0 2 []) _ 32 refl refl (one_leaf [] _ (pick_all refl) no_leaf) refl)))
      (one_step 0 _ refl refl (act_runs _ _ 2 false function_2 refl refl refl refl refl)))
      (one_step 0 _ refl refl (act_puts (Goto 12) [] 12 refl refl refl (refl, refl))))
      (one_step 0 _ refl refl (act_exits 13 refl refl refl refl)))
      (one_step 0 _ refl refl (act_leaves_deferred [] refl refl refl)))
      (one_step 0 _ refl refl (act_exits 33 refl refl refl refl)))
      (one_step 0 _ refl refl (act_leaves [] [] (Static 5) [] 3 refl refl refl refl refl)))
      (one_step 0 _ refl refl (act_exits 4 refl refl refl refl)))
      (one_step 0 _ refl refl (act_ends [] refl refl)),
  refl,
)
