-- The conditions on steps, one step more.
use Rattle.std.proofs.Common.{◌≡◌, ℕ, ◌+◌, ◌<◌, ◌≤◌, List, [], ◌∷◌, ◌++◌, Bool, true, ◌&&◌, ◌||◌, length, take, drop, get_or, refl, ◌↔◌}
use Rattle.std.specs.Prelude.{IsTrue}
use Rattle.std.specs.List.{list_all}
use Rattle.std.proofs.lemmas.List.Folds.{list_any-append}
use Rattle.std.proofs.Math.Seq.{drop-cons, take-suc}
use Rattle.std.proofs.Common.{add-one}
use Rattle.std.proofs.Math.ListN.{drop_of_length-le}
use Rattle.argot_first_form.specs.declared.steps.Action.{Action}
use Rattle.argot_first_form.specs.declared.steps.Step.{Step}
use Rattle.argot_first_form.specs.declared.functions.Function.{Function}
use Rattle.argot_first_form.specs.Form.{among, declared, declared_by, each_step, declares_new, assigns_old, reads_old, calls_known, uses_result, operands_in, StepsFit}
use Rattle.argot_first_form.specs.Checks.{step_fits, steps_fit}
use Rattle.argot_first_form.proofs.Pieces.{and-left, and-right}

pub declared_more : (s : Step) (ss : List Step) (n : List ℕ) → among (declared (s ∷ ss)) n ≡ (among (declared_by s.action) n || among (declared ss) n)
declared_more s ss n = list_any-append _ (declared_by s.action) (declared ss)

pub steps_fit_more : (functions : List Function) (steps : List Step) (i : ℕ) (d : Step) → i < length steps → steps_fit functions (take i steps) (drop i steps) ≡ (step_fits functions (take i steps) (get_or steps i d).action && steps_fit functions (take (i + 1) steps) (drop (i + 1) steps))
unfolding steps_fit
steps_fit_more functions steps i d h = rw (drop-cons steps i d, add-one, take-suc steps i d) refl

pub steps_fit_all : (functions : List Function) (steps : List Step) (i : ℕ) → length steps ≤ i → steps_fit functions (take i steps) (drop i steps) ≡ true
unfolding steps_fit
steps_fit_all functions steps i h = rw (drop_of_length-le steps h) refl

-- two tests at each step are a test that is both
both-left : (p q : List Step → Action → Bool) (before steps : List Step) → each_step (λ b a. p b a && q b a) before steps ≡ true → each_step p before steps ≡ true
both-left p q before [] h = refl
both-left p q before (s ∷ ss) h =
    let l : p before s.action ≡ true = and-left (p before s.action) (q before s.action) (and-left (p before s.action && q before s.action) _ h) in
    rw l (both-left p q (before ++ s ∷ []) ss (and-right (p before s.action && q before s.action) _ h))

both-right : (p q : List Step → Action → Bool) (before steps : List Step) → each_step (λ b a. p b a && q b a) before steps ≡ true → each_step q before steps ≡ true
both-right p q before [] h = refl
both-right p q before (s ∷ ss) h =
    let l : q before s.action ≡ true = and-right (p before s.action) (q before s.action) (and-left (p before s.action && q before s.action) _ h) in
    rw l (both-right p q (before ++ s ∷ []) ss (and-right (p before s.action && q before s.action) _ h))

both : (p q : List Step → Action → Bool) (before steps : List Step) → each_step p before steps ≡ true → each_step q before steps ≡ true → each_step (λ b a. p b a && q b a) before steps ≡ true
both p q before [] h k = refl
both p q before (s ∷ ss) h k =
    let l : p before s.action ≡ true = and-left (p before s.action) _ h in
    let m : q before s.action ≡ true = and-left (q before s.action) _ k in
    rw (l, m) (both p q (before ++ s ∷ []) ss (and-right (p before s.action) _ h) (and-right (q before s.action) _ k))

module _ (functions : List Function) where
  abbrev reads : List Step → Action → Bool
  reads b a = list_all (reads_old b) (operands_in a)

  abbrev uses : List Step → Action → Bool
  uses b a = list_all (uses_result functions b) (operands_in a)

  abbrev calls : List Step → Action → Bool
  calls b a = calls_known functions a

  abbrev three : List Step → Action → Bool
  three b a = calls b a && (reads b a && uses b a)

  abbrev two : List Step → Action → Bool
  two b a = reads b a && uses b a

  abbrev four : List Step → Action → Bool
  four b a = assigns_old b a && three b a

  pub fit : (steps : List Step) → IsTrue (steps_fit functions [] steps) ↔ StepsFit functions steps
  unfolding steps_fit
  fit steps = (
    λ h. let all = both-right (declares_new functions) four [] steps h in
        let more = both-right assigns_old three [] steps all in
        let last = both-right calls two [] steps more in
        record {
          declares = both-left (declares_new functions) four [] steps h;
          assigns = both-left assigns_old three [] steps all;
          calls = both-left calls two [] steps more;
          reads = both-left reads uses [] steps last;
          results = both-right reads uses [] steps last;
        },
    λ f. both (declares_new functions) four [] steps f.declares (both assigns_old three [] steps f.assigns (both calls two [] steps f.calls (both reads uses [] steps f.reads f.results))),
  )
