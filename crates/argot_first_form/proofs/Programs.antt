-- A text that is read has the first form, and none that isn't.
use Rattle.std.proofs.Common.{◌≡◌, ℕ, ◌<◌, ◌≤◌, List, Option, Some, None, length, sym, ap, ◌∙◌, subst, arith}
use Rattle.argot_first_form.specs.declared.lines.Program.{Program}
use Rattle.argot_first_form.specs.declared.functions.Function.{Function}
use Rattle.argot_first_form.specs.declared.steps.Step.{Step}
use Rattle.argot_first_form.specs.Tree.{File}
use Rattle.argot_first_form.specs.Steps.{functions_of, steps_of}
use Rattle.argot_first_form.specs.Form.{IsFirstForm, HasFirstForm, FunctionsFit, StepsFit, BracketsFit}
use Rattle.argot_first_form.specs.Reading.{read}
use Rattle.argot_first_form.specs.Whole.{IsProgram, NamesFit}
use Rattle.argot_first_form.proofs.Files.{read-exact}
use Rattle.argot_first_form.proofs.Sound.{read-sound}

abbrev Parts : Type 0
Parts = List Function × List Step

-- what a file of the first form is read as
read-of : (bytes : List ℕ) (h : HasFirstForm bytes) → read bytes ≡ Some (functions_of h.0.items, steps_of h.0)
read-of bytes h = ap read (sym h.1.text) ∙ read-exact h.0 h.1.words

read-parts : (bytes : List ℕ) (p : Program) (h : HasFirstForm bytes) → read bytes ≡ Some (p.functions, p.steps) → (p.functions ≡ functions_of h.0.items) × (p.steps ≡ steps_of h.0)
read-parts bytes p h e =
    let s : ◌≡◌ {A = Option Parts} (Some (p.functions, p.steps)) (Some (functions_of h.0.items, steps_of h.0)) = sym e ∙ read-of bytes h in
    let q : ◌≡◌ {A = Parts} (p.functions, p.steps) (functions_of h.0.items, steps_of h.0) = cc s in
    (ap (λ x. x.0) q, ap (λ x. x.1) q)

pub unread : (bytes : List ℕ) → read bytes ≡ None → HasFirstForm bytes → ⊥
unread bytes e h = let s = sym e ∙ read-of bytes h in cc s

pub unfit : (bytes : List ℕ) (p : Program) → read bytes ≡ Some (p.functions, p.steps) → (NamesFit p → ⊥) → HasFirstForm bytes → ⊥
unfit bytes p e refused h =
    let q = read-parts bytes p h e in
    refused (record {
      functions = subst FunctionsFit (sym q.0) h.1.functions;
      steps = subst (λ fs. StepsFit fs p.steps) (sym q.0) (subst (λ ss. StepsFit (functions_of h.0.items) ss) (sym q.1) h.1.steps);
    })

pub long : (bytes : List ℕ) → 4096 < length bytes → HasFirstForm bytes → ⊥
long bytes l h = let s = h.1.short in omega arith

pub deep : (bytes : List ℕ) → (BracketsFit bytes → ⊥) → HasFirstForm bytes → ⊥
deep bytes refused h = refused h.1.brackets

pub found : (bytes : List ℕ) (p : Program) → read bytes ≡ Some (p.functions, p.steps) → length bytes ≤ 4096 → BracketsFit bytes → NamesFit p → IsProgram bytes p
found bytes p e short brackets fit =
    let s = read-sound bytes (p.functions, p.steps) e in
    let file : File = s.0 in
    let x : read bytes ≡ Some (functions_of file.items, steps_of file) = ap read (sym s.2) ∙ read-exact file s.1 in
    let w : ◌≡◌ {A = Option Parts} (Some (p.functions, p.steps)) (Some (functions_of file.items, steps_of file)) = sym e ∙ x in
    let q : ◌≡◌ {A = Parts} (p.functions, p.steps) (functions_of file.items, steps_of file) = cc w in
    let f : p.functions ≡ functions_of file.items = ap (λ x. x.0) q in
    let t : p.steps ≡ steps_of file = ap (λ x. x.1) q in
    record {
      file = file;
      form = record {
        text = s.2;
        words = s.1;
        functions = subst FunctionsFit f fit.functions;
        steps = subst (λ fs. StepsFit fs (steps_of file)) f (subst (λ ss. StepsFit p.functions ss) t fit.steps);
        short = short;
        brackets = brackets;
      };
      functions = f;
      steps = t;
    }

-- every tree with this text gives the same functions and steps
pub same : (bytes : List ℕ) (p : Program) → IsProgram bytes p → (file : File) → IsFirstForm file bytes → (p.functions ≡ functions_of file.items) × (p.steps ≡ steps_of file)
same bytes p h file form =
    let own : ◌≡◌ {A = Option Parts} (Some (functions_of h.file.items, steps_of h.file)) (Some (functions_of file.items, steps_of file)) = sym (read-of bytes (h.file, h.form)) ∙ read-of bytes (file, form) in
    let q : ◌≡◌ {A = Parts} (functions_of h.file.items, steps_of h.file) (functions_of file.items, steps_of file) = cc own in
    (h.functions ∙ ap (λ x. x.0) q, h.steps ∙ ap (λ x. x.1) q)
