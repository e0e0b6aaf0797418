-- A deferred literal reads what its captured variable holds at the exit.
use Rattle.std.proofs.Common.{◌<◌, true, false, [], ◌∷◌, refl, arith}
use Rattle.argot_plain.specs.Lists.{here, there}
use Rattle.argot_plain.specs.Leak.{by_call}
use Rattle.argot_plain.specs.Machine.{Found}
use Rattle.argot_plain.specs.Nodes.{mark}
use Rattle.argot_plain.specs.Outside.{by_number, by_reference, goes_by_value, by_value, itself}
use Rattle.argot_plain.specs.Puts.{no_leaf, one_leaf, pick_all, pick_one}
use Rattle.argot_plain.specs.Step.{no_step, then_step, one_step, act_enters, act_exits, act_keeps, act_leaves, act_puts, act_runs, act_stores}
use Rattle.argot_plain.specs.declared.instructions.Callee.TheVariants.{Static, Value}
use Rattle.argot_plain.specs.declared.instructions.Kind.TheVariants.{Branch, Goto, Move, New, Op, Read, Step}
use Rattle.argot_text.specs.declared.path.PathStep.TheVariants.{Capture}
use Rattle.argot_plain_worked.specs.DeferredCall.{function_0, function_1}
use Rattle.argot_plain_worked.specs.DeferredLiteral.{function_5, function_6, ItLeaks}

pub it_leaks : ItLeaks
it_leaks = (
  24,
  _,
  then_step (then_step (then_step (then_step (then_step (then_step (then_step (then_step (then_step (then_step (then_step (then_step (then_step (then_step (then_step (then_step (then_step (then_step (then_step (then_step (then_step (then_step (then_step (then_step (no_step function_0 refl)
      (one_step 0 _ refl refl (act_puts (Goto 1) [] 1 refl refl refl (refl, refl))))
      (one_step 0 _ refl refl (act_puts (Branch (2 ∷ [])) [] 2 refl refl refl (0, refl))))
      (one_step 0 _ refl refl (act_enters [] (Static 5) [] 5 false function_5 refl refl by_number refl refl)))
      (one_step 0 _ refl refl (act_puts (Goto 27) [] 27 refl refl refl (refl, refl))))
      (one_step 0 _ refl refl (act_puts (New 0 1) _ 28 refl refl refl refl)))
      (one_step 0 _ refl refl (act_puts (Op 1 []) _ 29 refl refl refl refl)))
      (one_step 0 _ refl refl (act_stores 0 1 _ _ _ 30 refl refl (here refl) refl refl)))
      (one_step 0 _ refl refl (act_puts (New 2 2) _ 31 refl refl refl refl)))
      (one_step 0 _ refl refl (act_puts (Step 3 2 (Capture 0 ∷ [])) _ 32 refl refl (_, here refl, refl) refl)))
      (one_step 0 _ refl refl (act_stores 3 0 _ _ _ 33 refl refl (here refl) refl refl)))
      (one_step 0 _ refl refl (act_keeps (Value 2) [] (Found 6 true) 34 refl refl (by_reference 2 _ goes_by_value (here refl) (by_value _ function_6 refl refl refl refl)) refl)))
      (one_step 0 _ refl refl (act_enters (4 ∷ []) (Static 1) [] 1 false function_1 refl refl by_number refl refl)))
      (one_step 0 _ refl refl (act_puts (Goto 6) [] 6 refl refl refl (refl, refl))))
      (one_step 0 _ refl refl (act_puts (Op 1 []) _ 7 refl refl refl refl)))
      (one_step 0 _ refl refl (act_puts (Move 0 1 []) _ 8 refl refl (one_leaf [] _ (pick_all refl) no_leaf) refl)))
      (one_step 0 _ refl refl (act_puts (Goto 9) [] 9 refl refl refl (refl, refl))))
      (one_step 0 _ refl refl (act_exits 10 refl refl refl refl)))
      (one_step 0 _ refl refl (act_leaves (0 ∷ []) (4 ∷ []) (Static 1) [] 35 refl refl refl refl refl)))
      (one_step 0 _ refl refl (act_stores 0 4 _ _ _ 36 refl refl (here refl) refl refl)))
      (one_step 0 _ refl refl (act_runs _ _ 6 true function_6 refl refl refl refl refl)))
      (one_step 0 _ refl refl (act_puts (Goto 39) [] 39 refl refl refl (refl, refl))))
      (one_step 0 _ refl refl (act_puts (Step 1 0 (Capture 0 ∷ [])) _ 40 refl refl (_, here refl, refl) refl)))
      (one_step 0 _ refl refl (act_puts (Read 2 1 ([] ∷ [])) _ 41 refl refl (_, here refl, (one_leaf [] _ (pick_one refl (there (here refl))) no_leaf)) refl)))
      (one_step 0 _ refl refl (act_puts (Read 3 2 ([] ∷ [])) _ 42 refl refl (_, here refl, (one_leaf [] _ (pick_one refl (there (here refl))) no_leaf)) refl)),
  record {
    label = mark 34 0 [];
    place = refl;
    reaches = record {
      goroutine = 0;
      sink = 2;
      count = 1;
      cells = _;
      enters = by_call _ _ [] (Static 2) (3 ∷ []) false refl refl refl by_number;
      is_one = refl;
      within = below;
      bears = record { cell = _; held = here refl; at = refl; bears = itself (here refl) };
    };
  },
)
  where
    below : 0 < 1
    below = omega arith
