-- The run of the first program, step by step.
use Rattle.std.proofs.Common.{◌<◌, false, [], ◌∷◌, refl, arith}
use Rattle.argot_plain.specs.Lists.{here}
use Rattle.argot_plain.specs.Leak.{labelled, by_call}
use Rattle.argot_plain.specs.Machine.{Scalar, put_cell, same_labels, content}
use Rattle.argot_plain.specs.Nodes.{mark}
use Rattle.argot_plain.specs.Outside.{by_number, itself}
use Rattle.argot_plain.specs.Puts.{no_leaf, one_leaf, pick_all}
use Rattle.argot_plain.specs.Step.{no_step, then_step, one_step, act_puts, act_enters, act_exits, act_leaves}
use Rattle.argot_plain.specs.declared.instructions.Callee.TheVariants.{Static}
use Rattle.argot_plain.specs.declared.instructions.Kind.TheVariants.{Op, Move, Goto, Branch}
use Rattle.argot_plain_worked.specs.FirstFlow.{asked, look, entry_function, source_function, main_function, ItLeaks}

pub it_leaks : ItLeaks
it_leaks = (
  12,
  _,
  then_step (then_step (then_step (then_step (then_step (then_step (then_step (then_step (then_step (then_step (then_step (then_step (no_step (entry_function look) refl)
      (one_step 0 _ refl refl (act_puts (Goto 1) [] 1 refl refl refl (refl, refl))))
      (one_step 0 _ refl refl (act_puts (Branch (2 ∷ [])) [] 2 refl refl refl (0, refl))))
      (one_step 0 _ refl refl (act_enters [] (Static 3) [] 3 false (main_function look) refl refl by_number refl refl)))
      (one_step 0 _ refl refl (act_puts (Goto 15) [] 15 refl refl refl (refl, refl))))
      (one_step 0 _ refl refl (act_enters (0 ∷ []) (Static 1) [] 1 false (source_function look) refl refl by_number refl refl)))
      (one_step 0 _ refl refl (act_puts (Goto 6) [] 6 refl refl refl (refl, refl))))
      (one_step 0 _ refl refl (act_puts (Op 1 []) (put_cell (labelled asked) same_labels 1 6 0 [] (content Scalar []) ∷ []) 7 refl refl refl refl)))
      (one_step 0 _ refl refl (act_puts (Move 0 1 []) _ 8 refl refl (one_leaf [] _ (pick_all refl) no_leaf) refl)))
      (one_step 0 _ refl refl (act_puts (Goto 9) [] 9 refl refl refl (refl, refl))))
      (one_step 0 _ refl refl (act_exits 10 refl refl refl refl)))
      (one_step 0 _ refl refl (act_leaves (0 ∷ []) (0 ∷ []) (Static 1) [] 16 refl refl refl refl refl)))
      (one_step 0 _ refl refl (act_puts (Move 1 0 []) _ 17 refl refl (one_leaf [] _ (pick_all refl) no_leaf) refl)),
  record {
    label = mark 15 0 [];
    place = refl;
    reaches = record {
      goroutine = 0;
      sink = 2;
      count = 1;
      cells = _;
      enters = by_call _ _ [] (Static 2) (1 ∷ []) false refl refl refl by_number;
      is_one = refl;
      within = below;
      bears = record { cell = _; held = here refl; at = refl; bears = itself (here refl) };
    };
  },
)
  where
    below : 0 < 1
    below = omega arith
