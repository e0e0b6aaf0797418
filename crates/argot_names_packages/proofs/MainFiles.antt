-- The files of the main package.
use Rattle.std.proofs.Common.{◌≡◌, ℕ, List, Bool, true, false, Option, Some, None, refl, sym, ap, ◌∙◌, subst}
use Rattle.std.specs.Prelude.{◌↔◌, codes, slice_get}
use Rattle.argot_tree.specs.declared.token.Token.{Token}
use Rattle.argot_tree.specs.declared.tree.Tree.{Tree}
use Rattle.argot_tree.specs.Trees.{SpellsTree}
use Rattle.argot_names_rules.specs.declared.package_key.PackageKey.{PackageKey}
use Rattle.argot_names_rules.specs.declared.package_key.PackageKey.TheVariants as homes
use Rattle.argot_names_rules.specs.Files.{SourceFiles, read_of}
use Rattle.argot_names_rules.specs.Packages.{IsFileOf, in_folder, in_library, IsFirstFile}
use Rattle.argot_names_rules.specs.Imports.{IsReached, stay}
use Rattle.argot_names_rules.specs.Agreeing.{IsRead, Agrees}
use Rattle.argot_names_rules.specs.Faults.{HasMain}
use Rattle.argot_names_imports.specs.declared.survey.Survey.{Survey}
use Rattle.argot_names_imports.specs.Surveyed.{IsSurvey}
use Rattle.argot_names_imports.proofs.FirstFiles.{same_text, text_same}
use Rattle.argot_names_imports.proofs.Standing.{first_is_one, reached_home, reached_leader, leader_reached}
use Rattle.argot_names_packages.specs.Standing.{IsLedBy}
use Rattle.argot_names_packages.specs.Clauses.{name_in}
use Rattle.argot_names_packages.specs.Mains.{is_main_name, HasMainFile}
use Rattle.argot_names_packages.proofs.Seconds.{clause_is, is_clause}

some_is : {A : Type 0} (x y : A) → Some x ≡ Some y → x ≡ y
some_is x y e = cc

false_true : false ≡ true → ⊥
false_true e = cc

-- what is read of a file in a folder
pub read_folder : (h : SourceFiles) → Agrees h → (q : List ℕ) (file : ℕ) → IsFileOf h (homes.Folder q) file → IsRead h file
read_folder h agrees q file of = by (homes.Folder q) of refl
  where
    by : (home : PackageKey) → IsFileOf h home file → home ≡ homes.Folder q → IsRead h file
    by _ (in_folder path there go at) e = agrees.go_files file path there go
    by _ (in_library there) e = absurd (cc)

pub main_name : (o : Option (List ℕ)) → is_main_name o ≡ true → o ≡ Some (codes "main")
main_name None e = absurd (cc)
main_name (Some name) e = ap (λ x. Some x) (same_text name (codes "main") e)

pub name_main : (o : Option (List ℕ)) → o ≡ Some (codes "main") → is_main_name o ≡ true
name_main o e = ap is_main_name e ∙ text_same (codes "main")

module _ (h : SourceFiles) (main : List ℕ) (s : Survey) (is : IsSurvey h main s) where
  -- the main folder is there, since something is reached
  pub main_reached : (first : ℕ) → slice_get s.reached.keys 0 ≡ Some first → IsReached h main (homes.Folder main)
  main_reached first at = let r = (is.reached first).0 (0, at) in record { there = r.reached.there; leads = stay }

  pub main_first : (first : ℕ) → slice_get s.reached.keys 0 ≡ Some first → IsFirstFile h (homes.Folder main) first
  main_first first at =
      let folder = (main_reached first at).there in
      let f = is.firsts (homes.Folder main) folder.0 folder.1 in
      subst (IsFirstFile h (homes.Folder main)) (some_is f.0 first (sym (is.main_first f.0 f.1) ∙ at)) f.1

  pub led_main : (first file : ℕ) → slice_get s.reached.keys 0 ≡ Some first → IsLedBy s file first → IsFileOf h (homes.Folder main) file
  led_main first file at led =
      let l = leader_reached h main s is file first led.leads led.reached in
      let same : l.0 ≡ homes.Folder main = sym (reached_home h main l.0 first l.1.reached l.2.is) ∙ reached_home h main (homes.Folder main) first (main_reached first at) (main_first first at).is in
      subst (λ a. IsFileOf h a file) same l.1.of

  pub main_led : (first file : ℕ) → slice_get s.reached.keys 0 ≡ Some first → IsFileOf h (homes.Folder main) file → IsLedBy s file first
  main_led first file at of =
      let l = reached_leader h main s is (homes.Folder main) file (record { reached = main_reached first at; of = of }) in
      let same : l.0 ≡ first = first_is_one h (homes.Folder main) l.0 first l.3 (main_first first at) in
      subst (IsLedBy s file) same (record { leads = l.1; reached = l.2 })

  pub main_spelled : Agrees h → (first : ℕ) → slice_get s.reached.keys 0 ≡ Some first → (file : ℕ) → IsLedBy s file first → (tree : Tree) → slice_get h.trees file ≡ Some tree → (spelled : List Token) × SpellsTree tree spelled
  main_spelled agrees first at file led tree there =
      let r = read_folder h agrees main file (led_main first file at led) in
      let same : r.tree ≡ tree = some_is r.tree tree (sym r.has_tree ∙ there) in
      (r.lexed.tokens, subst (λ t. SpellsTree t r.lexed.tokens) same r.spells_tree)

  pub main_is : (first : ℕ) → slice_get s.reached.keys 0 ≡ Some first → is_main_name (name_in h first) ≡ true → HasMainFile s h first → HasMain h main
  main_is first at named m =
      record {
        file = m.file;
        node = m.has.0;
        token = m.has.1.token;
        is_main = record { file = first; first = main_first first at; clause = is_clause (read_of h first) (codes "main") (main_name (name_in h first) named) };
        of = led_main first m.file at m.led;
        is = m.has.1.is;
        named = m.has.1.named;
      }

  pub is_named : (first : ℕ) → slice_get s.reached.keys 0 ≡ Some first → HasMain h main → is_main_name (name_in h first) ≡ true
  is_named first at m =
      let same : m.is_main.file ≡ first = first_is_one h (homes.Folder main) m.is_main.file first m.is_main.first (main_first first at) in
      name_main (name_in h first) (subst (λ f. name_in h f ≡ Some (codes "main")) same (clause_is (read_of h m.is_main.file) (codes "main") m.is_main.clause))

  pub is_main : (first : ℕ) → slice_get s.reached.keys 0 ≡ Some first → HasMain h main → HasMainFile s h first
  is_main first at m = record { file = m.file; led = main_led first m.file at m.of; has = (m.node, record { token = m.token; is = m.is; named = m.named }) }

  -- nothing is reached
  pub none_reached : slice_get s.reached.keys 0 ≡ None → HasMain h main → ⊥
  none_reached at m = let f = is.firsts (homes.Folder main) m.file m.of in none_some f.0 (sym at ∙ is.main_first f.0 f.1)
    where
      none_some : (x : ℕ) → None ≡ Some x → ⊥
      none_some x e = cc

  pub has_main_is : (first : ℕ) → slice_get s.reached.keys 0 ≡ Some first → is_main_name (name_in h first) ≡ true → (b : Bool) → (b ≡ true ↔ HasMainFile s h first) → b ≡ true ↔ HasMain h main
  has_main_is first at named b iff = (λ e. main_is first at named (iff.0 e), λ m. iff.1 (is_main first at m))

  pub not_named : (first : ℕ) → slice_get s.reached.keys 0 ≡ Some first → is_main_name (name_in h first) ≡ false → false ≡ true ↔ HasMain h main
  not_named first at named = (λ e. absurd (false_true e), λ m. sym named ∙ is_named first at m)

  pub not_there : slice_get s.reached.keys 0 ≡ None → false ≡ true ↔ HasMain h main
  not_there at = (λ e. absurd (false_true e), λ m. absurd (none_reached at m))
