-- The answer for a file of the first form.
use Rattle.std.proofs.Common.{◌≡◌, ℕ, zero, suc, ◌+◌, ◌-◌, ◌^◌, ◌<◌, ◌≤◌, List, [], ◌∷◌, ◌++◌, Some, length, map, get_or, refl, sym, ap, ◌∙◌, subst, arith, zero-add}
use Rattle.std.specs.Prelude.{slice_get, codes, unwrap_or}
use Rattle.std.specs.List.{All, flat_map}
use Rattle.std.specs.Fmt.{decimal}
use Rattle.std.proofs.lemmas.Option.{slice_get-map, slice_get-get_or}
use Rattle.argot_text.specs.Lines.{line_of, column_of}
use Rattle.argot_text.specs.declared.position.Pos.{Pos}
use Rattle.argot_first_form.specs.Tree.{Item, Blank, Func, Void, Parameter, Fixed, File, text_of}
use Rattle.argot_first_form.specs.Steps.{functions_of, steps_of}
use Rattle.argot_first_form.specs.Form.{IsFirstForm}
use Rattle.argot_first_form.specs.Whole.{IsProgram}
use Rattle.argot_first_form.specs.declared.lines.Program.{Program}
use Rattle.argot_first_form.specs.declared.functions.Function.{Function}
use Rattle.argot_first_form.specs.declared.steps.Step.{Step}
use Rattle.argot_first_form.proofs.Bounds as bounds
use Rattle.argot_first_form.proofs.Programs as programs
use Rattle.argot_plain.specs.declared.first.Kind.{Kind}
use Rattle.argot_first.specs.declared.found.Flow.{Flow}
use Rattle.argot_plain.specs.First.{Instr}
use Rattle.argot_first.specs.Code.{all_places, step_instrs, code_of}
use Rattle.argot_first.specs.Answer.{AreFlows, IsReport, IsReportOf, offset_in, position_text, flow_line, report}
use Rattle.argot_first.specs.Marks.{kinds_from, all_flows}
use Rattle.argot_first.specs.Report.{position, position_at, text_at, argument_text, line, whole, all_places_of, nowhere}
use Rattle.argot_first.proofs.Lookup.{some-same, get-left, get-right, get-at}
use Rattle.argot_first.proofs.Blocks.{main_steps, base_of, length-items_kinds, items_kinds-is, length-kinds_of}
use Rattle.argot_first.proofs.Exactly.{exactly}
use Rattle.argot_first.proofs.Listed.{flow, Has, all-sound}
use Rattle.std.specs.Option.{option_map}
use Rattle.argot_first.specs.Code.{items_instrs, main_name, entry_instrs, main_instrs}
use Rattle.argot_first.proofs.Instance.{shape-of}

pub few_functions : (bytes : List ℕ) (p : Program) → IsProgram bytes p → length p.functions ≤ 4096
few_functions bytes p h = subst (λ y. length y ≤ 4096) (sym h.functions) (bounds.few-functions h.file bytes h.form)

pub few_steps : (bytes : List ℕ) (p : Program) → IsProgram bytes p → length p.steps ≤ 4096
few_steps bytes p h = subst (λ y. length y ≤ 4096) (sym h.steps) (bounds.few-steps h.file bytes h.form)

pub short : (bytes : List ℕ) (p : Program) → IsProgram bytes p → length bytes < 2 ^ 32 - 1
short bytes p h = let s = h.form.short in omega arith

pub inside : (bytes : List ℕ) (p : Program) → IsProgram bytes p → All (λ s. s.at ≤ length bytes) p.steps
inside bytes p h = subst (All (λ s. s.at ≤ length bytes)) (sym h.steps) (λ k d w. bounds.step-within h.file bytes h.form k (get_or (steps_of h.file) k d) (slice_get-get_or (steps_of h.file) k d w))

places-same : (xs : List Item) → all_places_of (functions_of xs) ≡ all_places xs
places-same [] = refl
places-same (Blank ∷ xs) = places-same xs ∙ sym (zero-add (all_places xs))
places-same (Func f ps (Fixed t) ∷ xs) = ap (λ y. 6 + y) (places-same xs)
places-same (Func f ps (Parameter n) ∷ xs) = ap (λ y. 5 + y) (places-same xs)
places-same (Void f ps ∷ xs) = ap (λ y. 3 + y) (places-same xs)

flat-same : (g h : Flow → List ℕ) (xs : List Flow) → ((f : Flow) → Has xs f → g f ≡ h f) → flat_map g xs ≡ flat_map h xs
flat-same g h [] e = refl
flat-same g h (x ∷ xs) e = ap (λ y. y ++ flat_map g xs) (e x (0, refl)) ∙ ap (λ y. h x ++ y) (flat-same g h xs (λ f p. e f (suc p.0, p.1)))

instr-get : (functions : List Function) (steps : List Step) (i : ℕ) (ss : List Step) (j : ℕ) (s : Step) → slice_get ss j ≡ Some s → (x : Instr) × (slice_get (step_instrs functions steps i ss) j ≡ Some x) × (x.at ≡ s.at)
instr-get functions steps i [] j s h = absurd (cc h)
instr-get functions steps i (y ∷ ss) zero s h = (_, refl, ap (λ z. z.at) (some-same h))
instr-get functions steps i (y ∷ ss) (suc j) s h = instr-get functions steps (i + 1) ss j s h

length-items : (file : File) → length (items_instrs (length (text_of file)) 5 file.items (codes "func " ++ main_name file)) ≡ all_places file.items
length-items file =
    sym (length-kinds_of (items_instrs (length (text_of file)) 5 file.items (codes "func " ++ main_name file))) ∙ (ap length (items_kinds-is (length (text_of file)) 5 file.items (codes "func " ++ main_name file)) ∙ length-items_kinds 5 file.items)

-- the position of main's step j
offset-at : (file : File) (j : ℕ) (s : Step) → slice_get (steps_of file) j ≡ Some s → offset_in (slice_get (code_of file).instrs (base_of file + j)) ≡ s.at
offset-at file j s h =
    let items = items_instrs (length (text_of file)) 5 file.items (codes "func " ++ main_name file) in
    let x = instr-get (functions_of file.items) (steps_of file) 0 (steps_of file) j s h in
    let n : base_of file + j ≡ 5 + (length items + suc j) = omega (arith, length-items file) in
    let e : slice_get (code_of file).instrs (base_of file + j) ≡ Some x.0 =
    get-at (entry_instrs file) (items ++ main_instrs file) (base_of file + j) (length items + suc j) n ∙ (get-right items (main_instrs file) (suc j) ∙ get-left (step_instrs (functions_of file.items) (steps_of file) 0 (steps_of file)) _ j x.0 x.1) in
    ap offset_in e ∙ x.2

minus-base : (b j : ℕ) → b + j - b ≡ j
minus-base b j = omega arith

-- the same position by the steps
place-text : (file : File) (bytes : List ℕ) (j : ℕ) (s : Step) → slice_get (steps_of file) j ≡ Some s → text_at (position_at (map (position bytes) (steps_of file)) (base_of file) (base_of file + j)) ≡ position_text bytes (code_of file) (base_of file + j)
place-text file bytes j s h =
    let p : slice_get (map (position bytes) (steps_of file)) (base_of file + j - base_of file) ≡ Some (position bytes s) =
    ap (slice_get (map (position bytes) (steps_of file))) (minus-base (base_of file) j) ∙ (slice_get-map (position bytes) (steps_of file) j ∙ ap (option_map (position bytes)) h) in
    ap (λ y. text_at (unwrap_or y nowhere)) p ∙ ap (λ at. codes "main.go:" ++ (decimal (line_of bytes at) ++ (codes ":" ++ decimal (column_of bytes at)))) (sym (offset-at file j s h))

kinds-step : (functions : List Function) (steps : List Step) (i : ℕ) (ss : List Step) (j : ℕ) (kind : Kind) → slice_get (kinds_from functions steps i ss) j ≡ Some kind → (s : Step) × (slice_get ss j ≡ Some s)
kinds-step functions steps i [] j kind h = absurd (cc h)
kinds-step functions steps i (s ∷ ss) zero kind h = (s, refl)
kinds-step functions steps i (s ∷ ss) (suc j) kind h = kinds-step functions steps (i + 1) ss j kind h

-- the step of a kind
step-of : (file : File) (j : ℕ) (kind : Kind) → slice_get (main_steps file) j ≡ Some kind → (s : Step) × (slice_get (steps_of file) j ≡ Some s)
step-of file j kind h = kinds-step (functions_of file.items) (steps_of file) 0 (steps_of file) j kind h

lined : (file : File) (bytes : List ℕ) (i j k : ℕ) (f : Flow) (a b : Step) → slice_get (steps_of file) i ≡ Some a → slice_get (steps_of file) j ≡ Some b → f ≡ flow (base_of file + i) (base_of file + j) k → line (map (position bytes) (steps_of file)) (base_of file) f ≡ flow_line bytes (code_of file) f
unfolding line
lined file bytes i j k f a b ha hb e =
    let u : text_at (position_at (map (position bytes) (steps_of file)) (base_of file) f.source) ≡ position_text bytes (code_of file) f.source =
    subst (λ y. text_at (position_at (map (position bytes) (steps_of file)) (base_of file) y) ≡ position_text bytes (code_of file) y) (ap (λ y. y.source) (sym e)) (place-text file bytes i a ha) in
    let v : text_at (position_at (map (position bytes) (steps_of file)) (base_of file) f.sink) ≡ position_text bytes (code_of file) f.sink =
    subst (λ y. text_at (position_at (map (position bytes) (steps_of file)) (base_of file) y) ≡ position_text bytes (code_of file) y) (ap (λ y. y.sink) (sym e)) (place-text file bytes j b hb) in
    ap (λ y. codes "flow default: " ++ (y ++ (codes " main.source -> " ++ (text_at (position_at (map (position bytes) (steps_of file)) (base_of file) f.sink) ++ argument_text f.argument)))) u ∙ ap (λ y. codes "flow default: " ++ (position_text bytes (code_of file) f.source ++ (codes " main.source -> " ++ (y ++ argument_text f.argument)))) v

line-of-flow : (file : File) (bytes : List ℕ) (f : Flow) → Has (all_flows (functions_of file.items) (base_of file) (main_steps file) 0 (main_steps file)) f → line (map (position bytes) (steps_of file)) (base_of file) f ≡ flow_line bytes (code_of file) f
line-of-flow file bytes f h =
    let a = all-sound (functions_of file.items) (base_of file) 0 (main_steps file) (main_steps file) f h in
    let i = step-of file a.step a.kind a.is_step in
    let j = step-of file a.sunk.step a.sunk.kind a.sunk.is_step in
    let e : f ≡ flow (base_of file + a.step) (base_of file + a.sunk.step) a.sunk.index =
    a.sunk.is_flow ∙ (ap (λ y. flow (base_of file + y) (base_of file + (0 + a.sunk.step)) a.sunk.index) (zero-add a.step) ∙ ap (λ y. flow (base_of file + a.step) (base_of file + y) a.sunk.index) (zero-add a.sunk.step)) in
    lined file bytes a.step a.sunk.step a.sunk.index f i.0 j.0 i.1 j.1 e

report-of : (file : File) (bytes : List ℕ) → whole (map (position bytes) (steps_of file)) (base_of file) (all_flows (functions_of file.items) (base_of file) (main_steps file) 0 (main_steps file)) ≡ report bytes (code_of file) (all_flows (functions_of file.items) (base_of file) (main_steps file) 0 (main_steps file))
report-of file bytes =
    let fl = all_flows (functions_of file.items) (base_of file) (main_steps file) 0 (main_steps file) in
    ap (λ y. y ++ (decimal (length fl) ++ codes " flows, 0 escapes\n")) (flat-same (line (map (position bytes) (steps_of file)) (base_of file)) (flow_line bytes (code_of file)) fl (λ f h. line-of-flow file bytes f h))

base-same : (file : File) → all_places_of (functions_of file.items) + 6 ≡ base_of file
base-same file = omega (arith, places-same file.items)

-- what was computed of a program is the report of its file
computed : (bytes : List ℕ) (file : File) (form : IsFirstForm file bytes) (base count : ℕ) (kinds : List Kind) (flows : List Flow) (positions : List Pos) (text : List ℕ) → base ≡ base_of file → kinds ≡ main_steps file → flows ≡ all_flows (functions_of file.items) base kinds 0 kinds → positions ≡ map (position bytes) (steps_of file) → text ≡ whole positions base flows → count ≡ length flows → IsReportOf file bytes count text
computed bytes file form base count kinds flows positions text eb ek ef ep et ec =
    let fl = all_flows (functions_of file.items) (base_of file) (main_steps file) 0 (main_steps file) in
    let same : flows ≡ fl = ef ∙ (ap (λ y. all_flows (functions_of file.items) y kinds 0 kinds) eb ∙ ap (λ y. all_flows (functions_of file.items) (base_of file) y 0 y) ek) in
    let exact : AreFlows (code_of file) fl = exactly (code_of file) (functions_of file.items) (main_steps file) (base_of file) (shape-of file form.functions form.steps) in
    record {
      flows = fl;
      are_flows = exact;
      counted = ec ∙ ap length same;
      reported = et ∙ (ap (λ y. whole y base flows) ep ∙ (ap (λ y. whole (map (position bytes) (steps_of file)) y flows) eb ∙ (ap (whole (map (position bytes) (steps_of file)) (base_of file)) same ∙ report-of file bytes)));
    }

-- every tree with this text gives the same program
same-program : (bytes : List ℕ) (p : Program) → IsProgram bytes p → (file : File) → IsFirstForm file bytes → (p.functions ≡ functions_of file.items) × (p.steps ≡ steps_of file)
same-program bytes p h file form = programs.same bytes p h file form

each-reported : (bytes : List ℕ) (p : Program) (base count : ℕ) (kinds : List Kind) (flows : List Flow) (positions : List Pos) (text : List ℕ) → IsProgram bytes p → base ≡ all_places_of p.functions + 6 → kinds ≡ kinds_from p.functions p.steps 0 p.steps → flows ≡ all_flows p.functions base kinds 0 kinds → positions ≡ map (position bytes) p.steps → text ≡ whole positions base flows → count ≡ length flows → (file : File) → IsFirstForm file bytes → IsReportOf file bytes count text
each-reported bytes p base count kinds flows positions text h eb ek ef ep et ec file form =
    let s = same-program bytes p h file form in
    computed bytes file form base count kinds flows positions text
    (eb ∙ (ap (λ y. all_places_of y + 6) s.0 ∙ base-same file))
    (ek ∙ (ap (λ y. kinds_from y p.steps 0 p.steps) s.0 ∙ ap (λ y. kinds_from (functions_of file.items) y 0 y) s.1))
    (ef ∙ ap (λ y. all_flows y base kinds 0 kinds) s.0)
    (ep ∙ ap (map (position bytes)) s.1)
    et ec

pub reported : (bytes : List ℕ) (p : Program) (base count : ℕ) (kinds : List Kind) (flows : List Flow) (positions : List Pos) (text : List ℕ) → IsProgram bytes p → base ≡ all_places_of p.functions + 6 → kinds ≡ kinds_from p.functions p.steps 0 p.steps → flows ≡ all_flows p.functions base kinds 0 kinds → positions ≡ map (position bytes) p.steps → text ≡ whole positions base flows → count ≡ length flows → IsReport bytes count text
reported bytes p base count kinds flows positions text h eb ek ef ep et ec =
    record { form = (h.file, h.form); each = λ file form. each-reported bytes p base count kinds flows positions text h eb ek ef ep et ec file form }
