-- The method of another type is called through an interface, and what it hands back reaches the sink.
use Rattle.std.proofs.Common.{◌<◌, false, [], ◌∷◌, refl, arith}
use Rattle.std.specs.Prelude.{codes}
use Rattle.argot_plain.specs.Lists.{here}
use Rattle.argot_plain.specs.Leak.{by_call}
use Rattle.argot_plain.specs.Nodes.{mark}
use Rattle.argot_plain.specs.Outside.{by_number, by_reference, goes_by_method, by_method, itself}
use Rattle.argot_plain.specs.Puts.{no_leaf, one_leaf, pick_all}
use Rattle.argot_plain.specs.Step.{no_step, then_step, one_step, act_enters, act_exits, act_leaves, act_puts, act_stores}
use Rattle.argot_plain.specs.declared.instructions.Callee.TheVariants.{Static, Method}
use Rattle.argot_plain.specs.declared.instructions.Kind.TheVariants.{Branch, Goto, Join, Move, New, Op, Read}
use Rattle.argot_plain_worked.specs.CalledMethod.{function_0, function_1, function_5, function_7, function_8, ItLeaks}

pub it_leaks : ItLeaks
it_leaks = (
  30,
  _,
  then_step (then_step (then_step (then_step (then_step (then_step (then_step (then_step (then_step (then_step (then_step (then_step (then_step (then_step (then_step (then_step (then_step (then_step (then_step (then_step (then_step (then_step (then_step (then_step (then_step (then_step (then_step (then_step (then_step (then_step (no_step function_0 refl)
      (one_step 0 _ refl refl (act_puts (Goto 1) [] 1 refl refl refl (refl, refl))))
      (one_step 0 _ refl refl (act_puts (Branch (2 ∷ [])) [] 2 refl refl refl (0, refl))))
      (one_step 0 _ refl refl (act_enters [] (Static 7) [] 7 false function_7 refl refl by_number refl refl)))
      (one_step 0 _ refl refl (act_puts (Goto 39) [] 39 refl refl refl (refl, refl))))
      (one_step 0 _ refl refl (act_puts (Join 1 []) _ 40 refl refl no_leaf refl)))
      (one_step 0 _ refl refl (act_puts (New 2 1) _ 41 refl refl refl refl)))
      (one_step 0 _ refl refl (act_stores 2 1 _ _ _ 42 refl refl (here refl) refl refl)))
      (one_step 0 _ refl refl (act_puts (Move 0 2 []) _ 43 refl refl (one_leaf [] _ (pick_all refl) no_leaf) refl)))
      (one_step 0 _ refl refl (act_puts (Join 4 []) _ 44 refl refl no_leaf refl)))
      (one_step 0 _ refl refl (act_puts (New 5 2) _ 45 refl refl refl refl)))
      (one_step 0 _ refl refl (act_stores 5 4 _ _ _ 46 refl refl (here refl) refl refl)))
      (one_step 0 _ refl refl (act_puts (Move 3 5 []) _ 47 refl refl (one_leaf [] _ (pick_all refl) no_leaf) refl)))
      (one_step 0 _ refl refl (act_enters (6 ∷ []) (Method 0 (codes "main.m")) [] 8 false function_8 refl refl (by_reference 0 _ goes_by_method (here refl) (by_method _ refl (here refl))) refl refl)))
      (one_step 0 _ refl refl (act_puts (Goto 52) [] 52 refl refl refl (refl, refl))))
      (one_step 0 _ refl refl (act_puts (Read 1 0 []) _ 53 refl refl (_, here refl, no_leaf) refl)))
      (one_step 0 _ refl refl (act_enters (2 ∷ []) (Static 5) (1 ∷ []) 5 false function_5 refl refl by_number refl refl)))
      (one_step 0 _ refl refl (act_puts (Goto 27) [] 27 refl refl refl (refl, refl))))
      (one_step 0 _ refl refl (act_enters (2 ∷ []) (Static 1) [] 1 false function_1 refl refl by_number refl refl)))
      (one_step 0 _ refl refl (act_puts (Goto 6) [] 6 refl refl refl (refl, refl))))
      (one_step 0 _ refl refl (act_puts (Op 1 []) _ 7 refl refl refl refl)))
      (one_step 0 _ refl refl (act_puts (Move 0 1 []) _ 8 refl refl (one_leaf [] _ (pick_all refl) no_leaf) refl)))
      (one_step 0 _ refl refl (act_puts (Goto 9) [] 9 refl refl refl (refl, refl))))
      (one_step 0 _ refl refl (act_exits 10 refl refl refl refl)))
      (one_step 0 _ refl refl (act_leaves (0 ∷ []) (2 ∷ []) (Static 1) [] 28 refl refl refl refl refl)))
      (one_step 0 _ refl refl (act_puts (Move 1 2 []) _ 29 refl refl (one_leaf [] _ (pick_all refl) no_leaf) refl)))
      (one_step 0 _ refl refl (act_puts (Goto 30) [] 30 refl refl refl (refl, refl))))
      (one_step 0 _ refl refl (act_exits 31 refl refl refl refl)))
      (one_step 0 _ refl refl (act_leaves (1 ∷ []) (2 ∷ []) (Static 5) (1 ∷ []) 54 refl refl refl refl refl)))
      (one_step 0 _ refl refl (act_exits 55 refl refl refl refl)))
      (one_step 0 _ refl refl (act_leaves (2 ∷ []) (6 ∷ []) (Method 0 (codes "main.m")) [] 48 refl refl refl refl refl)),
  record {
    label = mark 27 0 [];
    place = refl;
    reaches = record {
      goroutine = 0;
      sink = 2;
      count = 1;
      cells = _;
      enters = by_call _ _ [] (Static 2) (6 ∷ []) false refl refl refl by_number;
      is_one = refl;
      within = below;
      bears = record { cell = _; held = here refl; at = refl; bears = itself (here refl) };
    };
  },
)
  where
    below : 0 < 1
    below = omega arith
