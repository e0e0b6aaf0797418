-- The code of the first program, from its bytes.
use Rattle.std.proofs.Common.{◌≡◌, ℕ, zero, suc, ◌+◌, ◌≤◌, List, [], ◌∷◌, ◌++◌, Option, Some, Bool, true, false, cond, length, map, take, refl, sym, ap, ◌∙◌, subst, arith, add-zero, zero-add}
use Rattle.std.specs.Prelude.{count_by, codes, ◌↔◌}
use Rattle.std.specs.List.{fold}
use Rattle.argot_text.specs.declared.position.Pos.{Pos}
use Rattle.argot_first_form.specs.Tree.{Variable, Called, no_value, beside, Parameter, Fixed, Item, Blank, Func, Void, Define, Do, File, text_of}
use Rattle.argot_first_form.specs.Steps.{functions_of, steps_of}
use Rattle.argot_first_form.specs.Form.{IsFirstForm, BracketsFit, is_opening}
use Rattle.argot_first_form.specs.Bytes.{is_name, is_reserved}
use Rattle.argot_first_form.specs.Words.{FileWords}
use Rattle.argot_first_form.specs.Reading.{read}
use Rattle.argot_first_form.specs.declared.functions.Function as Read
use Rattle.argot_first_form.specs.declared.functions.Returned.{Returned}
use Rattle.argot_first_form.specs.declared.functions.Returned.TheVariants as returns
use Rattle.argot_first_form.specs.declared.steps.Step.{Step}
use Rattle.argot_first_form.proofs.Files.{read-exact}
use Rattle.argot_plain.specs.declared.first.Kind as Few
use Rattle.argot_plain.specs.declared.first.Kind.TheVariants as few
use Rattle.argot_plain.specs.First.{Plain, Code, Instr}
use Rattle.argot_first.specs.Code.{all_places, items_instrs, items_functions, main_name, main_instrs, entry_function, main_function, code_of}
use Rattle.argot_first.specs.Marks.{kinds_from}
use Rattle.argot_first.specs.Report.{places_of, all_places_of}
use Rattle.argot_first.proofs.Blocks.{block_of, kinds_of, kinds_of-append, items_kinds, items_kinds-is, main_kinds, main_kinds-is}
use Rattle.argot_plain.specs.declared.functions.Function.{Function}
use Rattle.argot_plain.specs.declared.instructions.Instr as Whole
use Rattle.argot_plain.specs.Code as WholeCode
use Rattle.argot_plain.specs.Lists.{In}
use Rattle.argot_facts.specs.Graphs.{IsEdge}
use Rattle.argot_plain_worked.specs.FirstFlow.{Look, Outline, program_of, HasTwentyPlaces, HasSevenNodes, HasSixEdges, instr, its_edges}
use Rattle.argot_plain_worked.specs.FirstFlow as Worked
use Rattle.argot_plain_worked.proofs.Edges.{seven_nodes, six_edges}
use Rattle.argot_first_sound.specs.Whole.{whole_kind, whole_instr, whole_function, whole_of, position, ident_of, asked}
use Rattle.argot_plain_worked.specs.FirstFlowRead.{its_text, IsDrawn, ItHasTheForm, ItIsDrawn}

abbrev tree : File
tree = record {
  items = Func (codes "source") [] (Fixed (codes "secret")) ∷ Void (codes "sink") (codes "x" ∷ []) ∷ Blank ∷ [];
  body = Define (codes "x") (Called (codes "source") no_value) ∷ Do (codes "sink") (beside (Variable (codes "x")) no_value) ∷ [];
  blanks = 0;
}

tree-text : text_of tree ≡ its_text
tree-text = refl

tree-words : FileWords tree
unfolding is_name is_reserved
tree-words = record { before = ((refl, tt, refl), ((refl, (refl, tt)), (tt, tt))); inside = ((refl, (refl, tt)), ((refl, (refl, tt)), tt)) }

fold-by : (p : ℕ → Bool) (b : Bool) (n : ℕ) → n ≤ n + cond b 1 0
fold-by p true n = omega arith
fold-by p false n = omega arith

-- a count goes on from what it has
count-least : (p : ℕ → Bool) (xs : List ℕ) (a : ℕ) → a ≤ fold (λ a x. a + cond (p x) 1 0) a xs
count-least p [] a = omega arith
count-least p (x ∷ xs) a = let rest = count-least p xs (a + cond (p x) 1 0) in let here = fold-by p (p x) a in omega arith

few-from : (p : ℕ → Bool) (xs : List ℕ) (n a : ℕ) → fold (λ a x. a + cond (p x) 1 0) a (take n xs) ≤ fold (λ a x. a + cond (p x) 1 0) a xs
few-from p [] zero a = omega arith
few-from p [] (suc n) a = omega arith
few-from p (x ∷ xs) zero a = count-least p (x ∷ xs) a
few-from p (x ∷ xs) (suc n) a = few-from p xs n (a + cond (p x) 1 0)

-- the first bytes have no more of them than all
few-first : (p : ℕ → Bool) (xs : List ℕ) (n : ℕ) → count_by p (take n xs) ≤ count_by p xs
few-first p xs n = few-from p xs n 0

tree-brackets : BracketsFit its_text
tree-brackets n h = let all = few-first is_opening its_text n in let few : count_by is_opening its_text ≡ 8 = refl in omega arith

pub tree-form : IsFirstForm tree its_text
tree-form = record {
  text = tree-text;
  words = tree-words;
  functions = record { functions_differ = refl; parameters_differ = refl; parameters_apart = refl; returned_own = refl };
  steps = record { declares = refl; assigns = refl; reads = refl; calls = refl; results = refl };
  short = omega arith;
  brackets = tree-brackets;
}

-- every tree with these bytes has the same functions and steps
abbrev Parts : Type 0
Parts = List Read.Function × List Step

same-parts : (file : File) → IsFirstForm file its_text → (functions_of file.items ≡ functions_of tree.items) × (steps_of file ≡ steps_of tree)
same-parts file form =
    let a : ◌≡◌ {A = Option Parts} (Some (functions_of file.items, steps_of file)) (Some (functions_of tree.items, steps_of tree)) = sym (read-exact file form.words) ∙ (ap read form.text ∙ read-exact tree tree-words) in
    let q : ◌≡◌ {A = Parts} (functions_of file.items, steps_of file) (functions_of tree.items, steps_of tree) = cc a in
    (ap (λ x. x.0) q, ap (λ x. x.1) q)

-- the functions of the code, from what was read
abbrev plain-of : ℕ → List ℕ → List (List ℕ) → Returned → Plain
plain-of base f ps returns.Nothing = record { name = f; entry = base; exit = base + 1; leave = base + 2; params = length ps; results = 0 }
plain-of base f ps returns.Text = record { name = f; entry = base; exit = base + 4; leave = base + 5; params = length ps; results = 1 }
plain-of base f ps (returns.Parameter n) = record { name = f; entry = base; exit = base + 3; leave = base + 4; params = length ps; results = 1 }

abbrev plains : ℕ → List Read.Function → List Plain
plains base [] = []
plains base (f ∷ fs) = plain-of base f.name f.parameters f.returned ∷ plains (base + places_of f.returned) fs

plains-are : (base : ℕ) (xs : List Item) → items_functions base xs ≡ plains base (functions_of xs)
plains-are base [] = refl
plains-are base (Blank ∷ xs) = plains-are (base + 0) xs ∙ ap (λ b. plains b (functions_of xs)) (add-zero base)
plains-are base (Func f ps (Fixed t) ∷ xs) = ap (λ z. plain-of base f ps returns.Text ∷ z) (plains-are (base + 6) xs)
plains-are base (Func f ps (Parameter n) ∷ xs) = ap (λ z. plain-of base f ps (returns.Parameter n) ∷ z) (plains-are (base + 5) xs)
plains-are base (Void f ps ∷ xs) = ap (λ z. plain-of base f ps returns.Nothing ∷ z) (plains-are (base + 3) xs)

places-are : (xs : List Item) → all_places xs ≡ all_places_of (functions_of xs)
places-are [] = refl
places-are (Blank ∷ xs) = zero-add (all_places xs) ∙ places-are xs
places-are (Func f ps (Fixed t) ∷ xs) = ap (λ z. 6 + z) (places-are xs)
places-are (Func f ps (Parameter n) ∷ xs) = ap (λ z. 5 + z) (places-are xs)
places-are (Void f ps ∷ xs) = ap (λ z. 3 + z) (places-are xs)

abbrev main-of : ℕ → ℕ → Plain
main-of places steps = record { name = codes "main"; entry = 5 + places; exit = 5 + places + steps + 1; leave = 5 + places + steps + 2; params = 0; results = 0 }

abbrev code-functions : List Read.Function → List Step → List Plain
code-functions fs ss = entry_function ∷ (plains 5 fs ++ main-of (all_places_of fs) (length ss) ∷ [])

functions-are : (file : File) → (code_of file).functions ≡ code-functions (functions_of file.items) (steps_of file)
functions-are file =
    ap (λ z. entry_function ∷ (z ++ main_function file ∷ [])) (plains-are 5 file.items)
    ∙ ap (λ z. entry_function ∷ (plains 5 (functions_of file.items) ++ main-of z (length (steps_of file)) ∷ [])) (places-are file.items)

-- what its places do, from what was read
abbrev blocks : ℕ → List Read.Function → List Few.Kind
blocks base [] = []
blocks base (f ∷ fs) = block_of f.parameters f.returned base ++ blocks (base + places_of f.returned) fs

blocks-are : (base : ℕ) (xs : List Item) → items_kinds base xs ≡ blocks base (functions_of xs)
blocks-are base [] = refl
blocks-are base (Blank ∷ xs) = blocks-are (base + 0) xs ∙ ap (λ b. blocks b (functions_of xs)) (add-zero base)
blocks-are base (Func f ps (Fixed t) ∷ xs) = ap (λ z. block_of ps returns.Text base ++ z) (blocks-are (base + 6) xs)
blocks-are base (Func f ps (Parameter n) ∷ xs) = ap (λ z. block_of ps (returns.Parameter n) base ++ z) (blocks-are (base + 5) xs)
blocks-are base (Void f ps ∷ xs) = ap (λ z. block_of ps returns.Nothing base ++ z) (blocks-are (base + 3) xs)

abbrev main-kinds : ℕ → List Read.Function → List Step → List Few.Kind
main-kinds places fs ss = few.Goto (5 + places + 1) ∷ (kinds_from fs ss 0 ss ++ (few.RunDefers ∷ few.Leave [] ∷ []))

abbrev first-kinds : List Read.Function → List Few.Kind
first-kinds fs = few.Goto 1 ∷ few.Branch (2 ∷ []) ∷ few.Call [] (length fs + 1) [] ∷ few.RunDefers ∷ few.Leave [] ∷ []

abbrev code-kinds : List Read.Function → List Step → List Few.Kind
code-kinds fs ss = first-kinds fs ++ (blocks 5 fs ++ main-kinds (all_places_of fs) fs ss)

kinds-are : (file : File) → kinds_of (code_of file).instrs ≡ code-kinds (functions_of file.items) (steps_of file)
kinds-are file =
    let items = items_instrs (length (text_of file)) 5 file.items (codes "func " ++ main_name file) in
    let fs = functions_of file.items in
    let ss = steps_of file in
    let a : kinds_of (items ++ main_instrs file) ≡ items_kinds 5 file.items ++ main_kinds file =
    kinds_of-append items (main_instrs file) ∙ (ap (λ z. z ++ kinds_of (main_instrs file)) (items_kinds-is (length (text_of file)) 5 file.items (codes "func " ++ main_name file)) ∙ ap (λ z. items_kinds 5 file.items ++ z) (main_kinds-is file)) in
    ap (λ z. first-kinds fs ++ z) (a ∙ (ap (λ z. z ++ main_kinds file) (blocks-are 5 file.items) ∙ ap (λ z. blocks 5 fs ++ main-kinds z fs ss) (places-are file.items)))

-- instructions from what they do and where they stand
abbrev at-of : List Instr → ℕ → ℕ
at-of [] i = 0
at-of (x ∷ xs) zero = x.at
at-of (x ∷ xs) (suc i) = at-of xs i

abbrev built : List Few.Kind → (ℕ → Pos) → List Whole.Instr
built [] place = []
built (k ∷ ks) place = instr (place 0) (whole_kind k) ∷ built ks (λ i. place (suc i))

built-is : (xs : List Instr) → map whole_instr xs ≡ built (kinds_of xs) (λ i. position (at-of xs i))
built-is [] = refl
built-is (x ∷ xs) = ap (λ z. whole_instr x ∷ z) (built-is xs)

abbrev outline : List ℕ → ℕ → Outline
outline name spare = record { name = name; at = position 0; ident = ident_of name; spare = spare }

abbrev look-of : List Instr → Look
look-of xs = record { entry = outline [] 5; source = outline (codes "source") 4; sink = outline (codes "sink") 3; main = outline (codes "main") 4; place = λ i. position (at-of xs i) }

abbrev whole-by : List Function → List Whole.Instr → WholeCode.Code
whole-by fs xs = record { functions = fs; instrs = xs; sites = []; globals = []; methods = []; implements = []; files = codes "main.go" ∷ [] }

module _ (file : File) (form : IsFirstForm file its_text) where
  abbrev code : Code
  code = code_of file

  abbrev fs : List Read.Function
  fs = functions_of tree.items

  abbrev ss : List Step
  ss = steps_of tree

  functions-same : code.functions ≡ code-functions fs ss
  functions-same =
      let p = same-parts file form in
      functions-are file ∙ (ap (λ z. code-functions z (steps_of file)) p.0 ∙ ap (code-functions fs) p.1)

  kinds-same : kinds_of code.instrs ≡ code-kinds fs ss
  kinds-same =
      let p = same-parts file form in
      kinds-are file ∙ (ap (λ z. code-kinds z (steps_of file)) p.0 ∙ ap (code-kinds fs) p.1)

  whole-same : whole_of code ≡ program_of (look-of code.instrs)
  whole-same =
      ap (λ z. whole-by z (map whole_instr code.instrs)) (ap (map whole_function) functions-same)
      ∙ ap (whole-by (map whole_function (code-functions fs ss))) (built-is code.instrs ∙ ap (λ z. built z (λ i. position (at-of code.instrs i))) kinds-same)

  asked-same : asked code ≡ Worked.asked
  asked-same = ap (λ z. asked (record { functions = z; instrs = [] })) functions-same

  drawn : IsDrawn file
  drawn = record {
    places = subst HasTwentyPlaces (sym whole-same) (refl, refl);
    nodes = subst HasSevenNodes (sym whole-same) (seven_nodes (look-of code.instrs));
    edges = λ a kind b.
        subst (λ p. IsEdge p (asked code) a kind b ↔ In (a, kind, b) its_edges) (sym whole-same)
        (subst (λ q. IsEdge (program_of (look-of code.instrs)) q a kind b ↔ In (a, kind, b) its_edges) (sym asked-same) (six_edges (look-of code.instrs) a kind b));
  }

pub has-the-form : ItHasTheForm
has-the-form = (tree, tree-form)

pub is-drawn : ItIsDrawn
is-drawn file form = drawn file form
