-- From marks of functions to the numbers of those that matchers name.
use Rattle.std.proofs.Common.{◌≡◌, ◌||◌, ℕ, ◌+◌, ◌<◌, List, [], ◌∷◌, ◌++◌, Bool, true, false, Some, take, set, replicate, inl, inr, ◌≤◌, length, length-set, slice_get, get_or, refl, ap, sym, arith, ◌∙◌}
use Rattle.std.proofs.lemmas.Bool.{cases_lt}
use Rattle.std.proofs.lemmas.Option.{slice_get_within}
use Rattle.std.proofs.lemmas.List.Folds.{list_any_more}
use Rattle.argot_plain.specs.Code.{Code, IsFunction}
use Rattle.argot_plain.specs.declared.functions.Function.{Function}
use Rattle.argot_config_read.specs.declared.config.Matcher.{Matcher}
use Rattle.argot_config.specs.Asking.{AreFunctions}
use Rattle.argot_config.specs.Marking.{AreMarks, Gathers, IsMarked, MarksMore}
use Rattle.argot_config.specs.Looking.{finds_function, three_of}
use Rattle.argot_config.specs.Matching.{looks_at_functions, name_function, names_function}
use Rattle.argot_config.proofs.Finding.{finds_named, names_none}
use Rattle.argot_config.proofs.Gathering.{gathers_push, gathers_skip}
use Rattle.argot_config.proofs.Members.{all_alike, item_at, length_alike, same_item, set_at, set_other}

-- no matcher, no mark
pub marks_of_none : (p : Code) → AreMarks p [] (replicate (length p.functions) false)
marks_of_none p =
    record {
      count = length_alike (length p.functions) false;
      each = λ g fn f. all_alike (length p.functions) g false (slice_get_within p.functions g fn f);
    }

-- a matcher of no functions marks none
pub marks_kept : (p : Code) (m : Matcher) (marks : List Bool) → looks_at_functions m.kind ≡ false → MarksMore p m marks marks
marks_kept p m marks k =
    record {
      count = refl;
      each = λ g fn b f is. rw (names_none m fn.ident k) (is ∙ ap Some (or-false b));
    }
  where
    or-false : (b : Bool) → b ≡ (b || false)
    or-false true = refl
    or-false false = refl

-- the functions below n are marked
pub record MarkedBelow (p : Code) (m : Matcher) (n : ℕ) (old now : List Bool) : Type 0 where
  pub count : length now ≡ length old
  pub each : (g : ℕ) (fn : Function) (b : Bool) → g < n → IsFunction p g fn → slice_get old g ≡ Some b → slice_get now g ≡ Some (b || names_function fn.ident m)
  pub above : (g : ℕ) → n ≤ g → slice_get now g ≡ slice_get old g

pub marked_none : (p : Code) (m : Matcher) (old : List Bool) → MarkedBelow p m 0 old old
marked_none p m old = record { count = refl; each = λ g fn b w f is. absurd (omega arith); above = λ g w. refl }

-- the function n besides
pub marked_next : (p : Code) (m : Matcher) (n : ℕ) (old now : List Bool) (fn : Function) (b v : Bool) → looks_at_functions m.kind ≡ true → MarkedBelow p m n old now
    → IsFunction p n fn → n < length now → slice_get now n ≡ Some b → v ≡ (b || finds_function (three_of m) fn.ident) → MarkedBelow p m (n + 1) old (set now n v)
marked_next p m n old now fn b v k below is within at found =
    record {
      count = length-set now n v ∙ below.count;
      each = λ g f c w is-f c-at. elim (cases_lt g n) [
        | inl less ↦ set_other now n g v (λ e. absurd (omega arith)) ∙ below.each g f c less is-f c-at
        | inr more ↦
            let same : g ≡ n = omega arith in
            let same-fn : f ≡ fn = same_item f fn (sym is-f ∙ (rw same is)) in
            let same-b : c ≡ b = same_item c b (sym c-at ∙ (rw same (sym (below.above n (omega arith)) ∙ at))) in
            rw (same, same-fn, same-b, ← (finds_named m fn.ident k), ← found) (set_at now n v within)
      ];
      above = λ g w. set_other now n g v (λ e. absurd (omega arith)) ∙ below.above g (omega arith);
    }

pub marked_all : (p : Code) (m : Matcher) (n : ℕ) (old now : List Bool) → length p.functions ≤ n → MarkedBelow p m n old now → MarksMore p m old now
marked_all p m n old now past below =
    record {
      count = below.count;
      each = λ g fn b f at. below.each g fn b (let h = slice_get_within p.functions g fn f in omega arith) f at;
    }

-- the marks of the matchers so far, with those of one more
pub marks_more : (p : Code) (ms : List Matcher) (i : ℕ) (m : Matcher) (old new : List Bool) → i < length ms → get_or ms i m ≡ m
    → AreMarks p (take i ms) old → MarksMore p m old new → AreMarks p (take (i + 1) ms) new
marks_more p ms i m old new w is a more =
    record {
      count = more.count ∙ a.count;
      each = λ g fn f. let e = list_any_more (names_function fn.ident) ms i m w in
          rw (e, is) (more.each g fn (name_function (take i ms) fn.ident) f (a.each g fn f));
    }

-- the numbers of the marks are those of the functions that the matchers name
pub functions_marked : (p : Code) (ms : List Matcher) (marks : List Bool) (found : List ℕ) → AreMarks p ms marks
    → Gathers (λ g. g) (IsMarked marks) (length marks) found → AreFunctions p ms found
functions_marked p ms marks found a g =
    record {
      ascending = g.ascending;
      only = λ n m.
          let below : n < length p.functions = rw (a.count) at (g.below n m) in
          let fn = item_at p.functions n below in
          record { fn = fn.0; is = fn.1; named = same_item (name_function ms fn.0.ident) true (sym (a.each n fn.0 fn.1) ∙ g.only n m) };
      all = λ n is.
          let marked : slice_get marks n ≡ Some true = a.each n is.fn is.is ∙ ap Some is.named in
          g.all n (slice_get_within marks n true marked) marked;
    }

-- a mark's number, and one that is passed over
pub number_push : (marks : List Bool) (g : ℕ) (found : List ℕ) → Gathers (λ g. g) (IsMarked marks) g found → slice_get marks g ≡ Some true
    → Gathers (λ g. g) (IsMarked marks) (g + 1) (found ++ g ∷ [])
number_push marks g found gathers is = gathers_push (λ g. g) (IsMarked marks) g found g gathers refl is (λ y e q. e)

pub number_skip : (marks : List Bool) (g : ℕ) (found : List ℕ) → Gathers (λ g. g) (IsMarked marks) g found → slice_get marks g ≡ Some false
    → Gathers (λ g. g) (IsMarked marks) (g + 1) found
number_skip marks g found gathers is = gathers_skip (λ g. g) (IsMarked marks) g found gathers (λ y e q. let t : slice_get marks g ≡ Some true = rw e at q in cc)
