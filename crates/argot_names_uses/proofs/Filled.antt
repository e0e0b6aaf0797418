-- The table of uses grows by what one node after the other stands for.
use Rattle.std.proofs.Common.{◌≡◌, ℕ, ◌+◌, ◌<◌, List, length, Option, Some, None, inl, inr, refl, sym, ap, ◌∙◌, subst, arith}
use Rattle.std.specs.Prelude.{◌⊎◌, slice_get}
use Rattle.std.proofs.lemmas.Bool.{cases_eq}
use Rattle.argot_tree.specs.declared.tree.TreeNode.{TreeNode}
use Rattle.argot_tree.specs.declared.tree.Tree.{Tree}
use Rattle.argot_typed.specs.declared.program.Decl.{Decl}
use Rattle.argot_typed.specs.declared.program.Use.{Use}
use Rattle.argot_names_rules.specs.declared.package_key.PackageKey.{PackageKey}
use Rattle.argot_names_rules.specs.Files.{SourceFiles, read_of}
use Rattle.argot_names_rules.specs.Loaded.{number_of, IsUse}
use Rattle.argot_names_rules.specs.Uses.{StandsFor}
use Rattle.argot_files.specs.Parents.{put}
use Rattle.argot_files.proofs.Parenting.{put_kept, put_there, put_long}
use Rattle.argot_names_scopes.specs.declared.file.FileNames.{FileNames}
use Rattle.argot_names_imports.specs.declared.reached.Reached.{Reached}
use Rattle.argot_names_imports.specs.Reached.{homes_of}
use Rattle.argot_names_imports.specs.Numbers.{IsOfNumber}
use Rattle.argot_names_tops.proofs.TopLists.{one_number}
use Rattle.argot_names_uses.proofs.NumberedNodes.{tree_of, number_below, one_node}
use Rattle.argot_answers.specs.Answers.{Exactly}
use Rattle.argot_names_uses.specs.declared.known.Known.{Known}
use Rattle.argot_names_uses.specs.Numbers.{StandsBy, IsExactlyUnless}
use Rattle.argot_names_uses.specs.Known.{IsHere}
use Rattle.argot_names_uses.specs.UseTables.{noted, use_by, IsFilled, IsAmong}
use Rattle.argot_names_uses.proofs.Numbering.{some_is}
use Rattle.argot_names_uses.proofs.NodeMeanings.{stands_there}

pub unless_nothing : (Holds : ℕ → Type 0) (o : Option ℕ) → Exactly Holds o → IsExactlyUnless ⊥ Holds o
unless_nothing Holds o e = record { sound = e.sound; only = λ x y f i. some_is x y (sym f ∙ e.complete y i); complete = λ x not i. e.complete x i }

-- other nodes, where each use of them is one of those that have been gone over
pub filled_onto : (h : SourceFiles) (r : Reached) (decls : List Decl) (Gone Gone' : (file node : ℕ) → Type 0) (table : List (Option ℕ)) → IsFilled h r decls Gone table
    → ((use_ : Use) (is : IsUse h (homes_of h r) decls use_) → Gone' is.file is.node → Gone is.file is.node) → IsFilled h r decls Gone' table
filled_onto h r decls Gone Gone' table filled from =
    record { as_long = filled.as_long; sound = filled.sound; complete = λ u is g. filled.complete u is (from u is g) }

module _ (h : SourceFiles) (main : List ℕ) (home : PackageKey) (decls : List Decl) (k : Known) (n : FileNames) (package_ file : ℕ) (here : IsHere h main home decls k n package_ file) where
  abbrev r : Reached
  r = k.reached.now

  abbrev homes : List PackageKey
  homes = homes_of h r

  -- a use of a node of the file
  used_here : (node : ℕ) (x : TreeNode) → slice_get (read_of h file).nodes node ≡ Some x → (u : Use) (is : IsUse h homes decls u) → u.node ≡ number_of h file node → StandsBy h home decls file node u.decl
  used_here node x there u is e =
      let y = stands_there h is.home is.file is.node is.meant is.stands in
      let same = one_node h is.file file is.node node y.0 x y.1 there (sym is.node_is ∙ e) in
      let own : IsOfNumber h r file is.number = subst (λ f. IsOfNumber h r f is.number) same.0 (record { home = is.home; in_home = is.in_home; of = is.of }) in
      let number : is.number ≡ package_ = one_number h main r here.known.tops_are.reach file is.number package_ own (record { home = home; in_home = here.in_home; of = here.reached.of }) in
      let home_is : is.home ≡ home = some_is is.home home (sym is.in_home ∙ (ap (slice_get homes) number ∙ here.in_home)) in
      record {
        meant = is.meant;
        holds = subst (λ q. StandsFor h q file node is.meant) home_is (subst (λ f. StandsFor h is.home f node is.meant) same.0 (subst (λ m. StandsFor h is.home is.file m is.meant) same.1 is.stands));
        is = record { decl = is.decl; there = is.there; is = is.is };
      }

  use_here : (node decl : ℕ) → StandsBy h home decls file node decl → IsUse h homes decls (use_by (number_of h file node) decl)
  use_here node decl s =
      record {
        number = package_;
        home = home;
        file = file;
        node = node;
        meant = s.meant;
        decl = s.is.decl;
        in_home = here.in_home;
        of = here.reached.of;
        stands = s.holds;
        node_is = refl;
        there = s.is.there;
        is = s.is.is;
      }

  -- the number of a node
  pub number_there : (node : ℕ) (x : TreeNode) (at : Option ℕ) → slice_get (read_of h file).nodes node ≡ Some x → ((t : Tree) → slice_get h.trees file ≡ Some t → node < length t.nodes → at ≡ Some (number_of h file node)) → at ≡ Some (number_of h file node)
  number_there node x at there by = let t = tree_of h file node x there in by t.0 t.1 t.2

  module _ (Gone Gone' : (file node : ℕ) → Type 0) (Otherwise : Type 0) (node : ℕ) (x : TreeNode) (there : slice_get (read_of h file).nodes node ≡ Some x) (table : List (Option ℕ)) (filled : IsFilled h r decls Gone table) (from : (f m : ℕ) → Gone' f m → Gone f m ⊎ ((f ≡ file) × (m ≡ node) × (Otherwise → ⊥))) where
    at_node : (u : Use) (is : IsUse h homes decls u) → is.file ≡ file → is.node ≡ node → u.node ≡ number_of h file node
    at_node u is e f = is.node_is ∙ (ap (λ g. number_of h g is.node) e ∙ ap (number_of h file) f)

    fill_none : IsExactlyUnless Otherwise (StandsBy h home decls file node) None → IsFilled h r decls Gone' table
    fill_none exactly =
        record {
          as_long = filled.as_long;
          sound = filled.sound;
          complete = λ u is g. elim (from is.file is.node g) [
            | inl old ↦ filled.complete u is old
            | inr new ↦
                let never = exactly.complete u.decl new.2 (used_here node x there u is (at_node u is new.0 new.1)) in
                absurd (cc)
          ];
        }

    fill_some : (decl : ℕ) → IsExactlyUnless Otherwise (StandsBy h home decls file node) (Some decl) → IsFilled h r decls Gone' (put table (Some (number_of h file node)) (Some decl))
    fill_some decl exactly =
        record {
          as_long = put_long table (Some number) (Some decl) ∙ filled.as_long;
          sound = λ m d e. elim (cases_eq number m) [
            | inl same ↦
                let own : decl ≡ d = some_is decl d (some_is (Some decl) (Some d) (sym (subst (λ y. slice_get (put table (Some number) (Some decl)) y ≡ Some (Some decl)) same placed) ∙ e)) in
                subst (λ y. IsUse h homes decls (use_by m y)) own (subst (λ y. IsUse h homes decls (use_by y decl)) same (use_here node decl (exactly.sound decl refl)))
            | inr apart ↦ filled.sound m d (sym (put_kept table (Some number) (Some decl) m (λ y. apart (some_is number m y))) ∙ e)
          ];
          complete = λ u is g. elim (cases_eq number u.node) [
            | inl same ↦
                let own : decl ≡ u.decl = exactly.only decl u.decl refl (used_here node x there u is (sym same)) in
                subst (λ y. slice_get (put table (Some number) (Some decl)) y ≡ Some (Some u.decl)) same (subst (λ y. slice_get (put table (Some number) (Some decl)) number ≡ Some (Some y)) own placed)
            | inr apart ↦ elim (from is.file is.node g) [
              | inl old ↦ put_kept table (Some number) (Some decl) u.node (λ y. apart (some_is number u.node y)) ∙ filled.complete u is old
              | inr new ↦ absurd (apart (sym (at_node u is new.0 new.1)))
            ]
          ];
        }
      where
        number : ℕ
        number = number_of h file node

        placed : slice_get (put table (Some (number_of h file node)) (Some decl)) (number_of h file node) ≡ Some (Some decl)
        placed = put_there table (Some (number_of h file node)) (Some decl) (number_of h file node) refl (omega (arith, number_below h file node x there, filled.as_long))

    -- what the node stands for is put down
    pub filled_more : (at decl : Option ℕ) (new : List (Option ℕ)) → at ≡ Some (number_of h file node) → IsExactlyUnless Otherwise (StandsBy h home decls file node) decl → new ≡ noted table at decl → IsFilled h r decls Gone' new
    filled_more at decl new is exactly e = subst (IsFilled h r decls Gone') (sym (e ∙ ap (λ a. noted table a decl) is)) (by decl exactly)
      where
        by : (o : Option ℕ) → IsExactlyUnless Otherwise (StandsBy h home decls file node) o → IsFilled h r decls Gone' (noted table (Some (number_of h file node)) o)
        by None exactly = fill_none exactly
        by (Some d) exactly = fill_some d exactly

-- one item more
pub among_more : {A : Type 0} (node_of : A → ℕ) (items : List A) (k node : ℕ) (x : A) → slice_get items k ≡ Some x → IsAmong node_of items (k + 1) node → IsAmong node_of items k node ⊎ (node ≡ node_of x)
among_more node_of items k node x there a =
    elim (cases_eq a.place k) [
      | inl same ↦ inr (sym a.node_is ∙ ap node_of (some_is a.item x (sym a.there ∙ (ap (slice_get items) same ∙ there))))
      | inr apart ↦ inl (record { place = a.place; item = a.item; below = omega (arith, a.below, apart); there = a.there; node_is = a.node_is })
    ]
