-- A goroutine fills a box, and then the box is read.
use Rattle.std.proofs.Common.{◌<◌, false, [], ◌∷◌, refl, arith}
use Rattle.argot_plain.specs.Lists.{here, there}
use Rattle.argot_plain.specs.Leak.{by_call}
use Rattle.argot_plain.specs.Nodes.{mark}
use Rattle.argot_plain.specs.Outside.{by_number, itself}
use Rattle.argot_plain.specs.Puts.{no_leaf, one_leaf, pick_all, pick_one}
use Rattle.argot_plain.specs.Step.{no_step, then_step, one_step, act_enters, act_exits, act_leaves, act_puts, act_starts, act_stores}
use Rattle.argot_plain.specs.declared.instructions.Callee.TheVariants.{Static}
use Rattle.argot_plain.specs.declared.instructions.Kind.TheVariants.{Branch, Goto, Join, Move, New, Op, Read, Step}
use Rattle.argot_text.specs.declared.path.PathStep.TheVariants.{Field}
use Rattle.argot_plain_worked.specs.FilledBox.{function_0, function_1, function_5, function_6, ItLeaks}

pub it_runs : ItLeaks
it_runs = (
  21,
  _,
  then_step (then_step (then_step (then_step (then_step (then_step (then_step (then_step (then_step (then_step (then_step (then_step (then_step (then_step (then_step (then_step (then_step (then_step (then_step (then_step (then_step (no_step function_0 refl)
      (one_step 0 _ refl refl (act_puts (Goto 1) [] 1 refl refl refl (refl, refl))))
      (one_step 0 _ refl refl (act_puts (Branch (2 ∷ [])) [] 2 refl refl refl (0, refl))))
      (one_step 0 _ refl refl (act_enters [] (Static 6) [] 6 false function_6 refl refl by_number refl refl)))
      (one_step 0 _ refl refl (act_puts (Goto 33) [] 33 refl refl refl (refl, refl))))
      (one_step 0 _ refl refl (act_puts (Join 1 []) _ 34 refl refl (one_leaf ((Field 0) ∷ []) _ refl no_leaf) refl)))
      (one_step 0 _ refl refl (act_puts (New 2 1) _ 35 refl refl refl refl)))
      (one_step 0 _ refl refl (act_stores 2 1 _ _ _ 36 refl refl (here refl) refl refl)))
      (one_step 0 _ refl refl (act_puts (Move 0 2 []) _ 37 refl refl (one_leaf [] _ (pick_all refl) no_leaf) refl)))
      (one_step 0 _ refl refl (act_starts (Static 5) (0 ∷ []) 5 false function_5 38 refl refl by_number refl refl refl)))
      (one_step 1 _ refl refl (act_puts (Goto 27) [] 27 refl refl refl (refl, refl))))
      (one_step 1 _ refl refl (act_puts (Step 1 0 ((Field 0) ∷ [])) _ 28 refl refl (_, here refl, refl) refl)))
      (one_step 1 _ refl refl (act_enters (2 ∷ []) (Static 1) [] 1 false function_1 refl refl by_number refl refl)))
      (one_step 1 _ refl refl (act_puts (Goto 6) [] 6 refl refl refl (refl, refl))))
      (one_step 1 _ refl refl (act_puts (Op 1 []) _ 7 refl refl refl refl)))
      (one_step 1 _ refl refl (act_puts (Move 0 1 []) _ 8 refl refl (one_leaf [] _ (pick_all refl) no_leaf) refl)))
      (one_step 1 _ refl refl (act_puts (Goto 9) [] 9 refl refl refl (refl, refl))))
      (one_step 1 _ refl refl (act_exits 10 refl refl refl refl)))
      (one_step 1 _ refl refl (act_leaves (0 ∷ []) (2 ∷ []) (Static 1) [] 29 refl refl refl refl refl)))
      (one_step 1 _ refl refl (act_stores 1 2 _ _ _ 30 refl refl (here refl) refl refl)))
      (one_step 0 _ refl refl (act_puts (Step 3 0 ((Field 0) ∷ [])) _ 39 refl refl (_, here refl, refl) refl)))
      (one_step 0 _ refl refl (act_puts (Read 4 3 ([] ∷ [])) _ 40 refl refl (_, here refl, (one_leaf [] _ (pick_one refl (there (here refl))) no_leaf)) refl)),
  record {
    label = mark 28 0 [];
    place = refl;
    reaches = record {
      goroutine = 0;
      sink = 2;
      count = 1;
      cells = _;
      enters = by_call _ _ [] (Static 2) (4 ∷ []) false refl refl refl by_number;
      is_one = refl;
      within = below;
      bears = record { cell = _; held = here refl; at = refl; bears = itself (here refl) };
    };
  },
)
  where
    below : 0 < 1
    below = omega arith
