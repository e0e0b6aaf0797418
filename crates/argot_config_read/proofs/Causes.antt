-- Each fault of a value is an unknown key or a wrong shape, and so the first one is the cause that a reading names.
use Rattle.std.proofs.Common.{◌≡◌, ◌≢◌, ℕ, List, [], ◌∷◌, ◌++◌, Bool, true, false, not, Option, Some, None, subst, map, codes, flat_map, slice_get, is_some, if◌then◌else◌}
use Rattle.std.specs.Option.{option_map_or}
use Rattle.serde_json.specs.Data.{Data, Members}
use Rattle.serde_json.specs.Find.{get, as_object}
use Rattle.argot_config_read.specs.declared.faults.ConfigFault.{ConfigFault}
use Rattle.argot_config_read.specs.declared.faults.ConfigFault.TheVariants.{NotJson, Key, Shape, BadPattern, PatternSize, Memory}
use Rattle.argot_config_read.specs.Answers.{HasCause, IsJson}
use Rattle.argot_config_read.specs.Paths.{key_path, top_path}
use Rattle.argot_config_read.specs.Shapes.{IsFirst, Judge, Row, each_item, flag, items_between, keys_of, list_of, object_of, row_faults, shaped, text_that, unknown_keys}
use Rattle.argot_config_read.specs.Table.{entry, entry_rows, faults_of, matcher, matcher_rows, matchers, problem, problem_rows, top_rows, text_in}

abbrev IsOfShape : ConfigFault → Type 0
IsOfShape NotJson = ⊥
IsOfShape (Key path) = Unit {0}
IsOfShape (Shape path) = Unit {0}
IsOfShape (BadPattern path) = ⊥
IsOfShape (PatternSize path) = ⊥
IsOfShape Memory = ⊥

abbrev AreOfShape : List ConfigFault → Type 0
AreOfShape [] = Unit {0}
AreOfShape (f ∷ fs) = IsOfShape f × AreOfShape fs

abbrev Finds : Judge → Type 0
Finds judge = (path : List ℕ) (d : Data) → AreOfShape (judge path d)

abbrev AllFind : List Row → Type 0
AllFind [] = Unit {0}
AllFind (r ∷ rs) = Finds r.judge × AllFind rs

both : (a b : List ConfigFault) → AreOfShape a → AreOfShape b → AreOfShape (a ++ b)
both [] b h k = k
both (f ∷ a) b h k = (h.0, both a b h.1 k)

of_shaped : (b : Bool) (path : List ℕ) → AreOfShape (shaped b path)
of_shaped true path = tt
of_shaped false path = (tt, tt)

of_key : (b : Bool) (path : List ℕ) → AreOfShape (if b then [] else Key path ∷ [])
of_key true path = tt
of_key false path = (tt, tt)

of_unknown : (known : List (List ℕ)) (path : List ℕ) (ks : List (List ℕ)) → AreOfShape (unknown_keys known path ks)
of_unknown known path [] = tt
of_unknown known path (k ∷ ks) = both _ _ (of_key _ _) (of_unknown known path ks)

of_value : (judge : Judge) (path : List ℕ) (o : Option Data) (b : Bool) → Finds judge → AreOfShape (option_map_or (judge path) o (shaped b path))
of_value judge path None b f = of_shaped b path
of_value judge path (Some v) b f = f path v

of_row : (path : List ℕ) (d : Data) (r : Row) → Finds r.judge → AreOfShape (row_faults path d r)
unfolding row_faults
of_row path d r f = of_value r.judge (key_path path r.key) (get r.key d) (not r.is_required) f

of_rows : (path : List ℕ) (d : Data) (rs : List Row) → AllFind rs → AreOfShape (flat_map (row_faults path d) rs)
of_rows path d [] f = tt
of_rows path d (r ∷ rs) f = both _ _ (of_row path d r f.0) (of_rows path d rs f.1)

of_own : (known : List (List ℕ)) (path : List ℕ) (o : Option Members) → AreOfShape (option_map_or (λ ms. unknown_keys known path (keys_of ms)) o (Shape path ∷ []))
of_own known path None = (tt, tt)
of_own known path (Some ms) = of_unknown known path (keys_of ms)

of_either : (b : Bool) (fs : List ConfigFault) → AreOfShape fs → AreOfShape (if b then fs else [])
of_either true fs h = h
of_either false fs h = tt

of_object : (rows : List Row) → AllFind rows → Finds (object_of rows)
of_object rows f = λ path d. both _ _ (of_own (map (λ r. r.key) rows) path (as_object d)) (of_either (is_some (as_object d)) _ (of_rows path d rows f))

of_items : (judge : List Data → Judge) (path : List ℕ) (before ds : List Data) → ((es : List Data) → Finds (judge es)) → AreOfShape (each_item judge path before ds)
unfolding each_item
of_items judge path before [] f = tt
of_items judge path before (d ∷ ds) f = both _ _ (f before _ d) (of_items judge path (before ++ d ∷ []) ds f)

of_some_items : (judge : List Data → Judge) (path : List ℕ) (o : Option (List Data)) → ((es : List Data) → Finds (judge es)) → AreOfShape (option_map_or (each_item judge path []) o (Shape path ∷ []))
of_some_items judge path None f = (tt, tt)
of_some_items judge path (Some ds) f = of_items judge path [] ds f

of_list : (least most : ℕ) (judge : List Data → Judge) → ((es : List Data) → Finds (judge es)) → Finds (list_of least most judge)
of_list least most judge f = λ path d. of_some_items judge path (items_between least most d) f

of_text : (test : List ℕ → Bool) → Finds (text_that test)
of_text test = λ path d. of_shaped _ path

of_flag : Finds flag
of_flag = λ path d. of_shaped _ path

of_matcher : (in_sources : Bool) → Finds (matcher in_sources)
unfolding matcher
of_matcher in_sources = of_object (matcher_rows in_sources) (of_text _, (of_text _, (of_text _, (of_text _, tt))))

of_matchers : (in_sources : Bool) → Finds (matchers in_sources)
of_matchers in_sources = of_list 0 64 (λ _. matcher in_sources) (λ _. of_matcher in_sources)

of_problem : (taken : List (List ℕ)) → Finds (problem taken)
unfolding problem
of_problem taken =
    of_object (problem_rows taken)
    (of_text _, (of_matchers true, (of_matchers false, (of_matchers false, (of_matchers false, (of_matchers false, (of_flag, tt)))))))

of_entry : Finds entry
unfolding entry
of_entry = of_object entry_rows (of_text _, (of_text _, (of_text _, (of_flag, tt))))

of_faults : (d : Data) → AreOfShape (faults_of d)
unfolding faults_of
of_faults d =
    of_object top_rows
    (of_text _, (of_list 1 16 (λ before. problem (map (text_in (codes "name")) before)) (λ before. of_problem (map (text_in (codes "name")) before)), (of_list 0 1024 (λ _. entry) (λ _. of_entry), tt)))
    top_path d

of_first : (fs : List ConfigFault) (e : ConfigFault) → AreOfShape fs → slice_get fs 0 ≡ Some e → IsOfShape e
of_first [] e h is = cc
of_first (f ∷ fs) e h is = let same : f ≡ e = cc in subst IsOfShape same h.0

-- the first fault is a cause
pub has_cause : (bytes : List ℕ) (d : Data) (before now : ℕ) (last : Option (List ℕ)) (e : ConfigFault) → IsJson bytes d → IsFirst (faults_of d) e → HasCause bytes before now last e
has_cause bytes d before now last NotJson j h = let ne : NotJson ≢ Memory = λ q. cc in absurd (of_first (faults_of d) NotJson (of_faults d) (h ne))
has_cause bytes d before now last (Key path) j h = let ne : Key path ≢ Memory = λ q. cc in record { value = d; is_json = j; is_first = h ne }
has_cause bytes d before now last (Shape path) j h = let ne : Shape path ≢ Memory = λ q. cc in record { value = d; is_json = j; is_first = h ne }
has_cause bytes d before now last (BadPattern path) j h = let ne : BadPattern path ≢ Memory = λ q. cc in absurd (of_first (faults_of d) (BadPattern path) (of_faults d) (h ne))
has_cause bytes d before now last (PatternSize path) j h = let ne : PatternSize path ≢ Memory = λ q. cc in absurd (of_first (faults_of d) (PatternSize path) (of_faults d) (h ne))
has_cause bytes d before now last Memory j h = tt
