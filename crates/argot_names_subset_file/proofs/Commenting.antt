-- Imports that are left out and comments for the compiler, one after the other.
use Rattle.std.proofs.Common.{◌≡◌, ◌≢◌, ℕ, ◌<◌, ◌≤◌, ◌⊎◌, inl, inr, List, Bool, true, false, Some, None, length, refl, sym, ◌∙◌, subst, arith}
use Rattle.std.specs.Prelude.{slice_get, codes}
use Rattle.argot_names_rules.specs.Lists.{IsListOf}
use Rattle.argot_names_rules.specs.Files.{Place}
use Rattle.argot_names_rules.specs.declared.flag.Feature.{Feature}
use Rattle.argot_names_rules.specs.declared.flag.Feature.TheVariants as features
use Rattle.argot_names_rules.specs.Subset.{LeavesOut, unsafe_, reflect, c as foreign, IsDirective, Directs, linkname, build, embed, directive_at}
use Rattle.argot_names_imports.proofs.Lists.{get_below}
use Rattle.argot_names_imports.specs.declared.written.Written.{Written}
use Rattle.argot_names_imports.specs.Written.{IsWritten}
use Rattle.argot_names_subset_file.specs.declared.spots.Spot.{Spot}
use Rattle.argot_names_subset_file.specs.declared.view.View.{View}
use Rattle.argot_answers.specs.Answers.{Exactly}
use Rattle.argot_names_subset_file.specs.Spots.{Adds}
use Rattle.argot_names_subset_file.specs.Parts.{BeginsIn}
use Rattle.argot_names_subset_file.specs.Files.{IsAt, IsImportOut, IsImportSome, IsDirected, IsDirectedSome}
use Rattle.argot_answers.proofs.Exactly.{exact_none, exact_some, exact_one, exact_holds, exact_not}
use Rattle.argot_names_subset_file.proofs.Adding.{Claim, UpTo, adds_as, adds_both, adds_all}
use Rattle.argot_names_subset_file.proofs.PartLemmas.{part_is, some_is}

-- the packages that are left out
out_one : (path : List ℕ) (f g : Feature) → LeavesOut path f → LeavesOut path g → f ≡ g
out_one path f g a b = go path path f g refl a b
  where
    go : (p q : List ℕ) (f g : Feature) → p ≡ q → LeavesOut p f → LeavesOut q g → f ≡ g
    go _ _ _ _ e unsafe_ unsafe_ = refl
    go _ _ _ _ e unsafe_ reflect = absurd (cc)
    go _ _ _ _ e unsafe_ foreign = absurd (cc)
    go _ _ _ _ e reflect unsafe_ = absurd (cc)
    go _ _ _ _ e reflect reflect = refl
    go _ _ _ _ e reflect foreign = absurd (cc)
    go _ _ _ _ e foreign unsafe_ = absurd (cc)
    go _ _ _ _ e foreign reflect = absurd (cc)
    go _ _ _ _ e foreign foreign = refl

pub out_some : (path : List ℕ) (f : Feature) → LeavesOut path f → Exactly (LeavesOut path) (Some f)
out_some path f h = exact_some (LeavesOut path) f h (λ g k. out_one path g f k h)

pub out_unsafe : (path : List ℕ) → path ≡ codes "unsafe" → Exactly (LeavesOut path) (Some features.ImportUnsafe)
out_unsafe path e = out_some path features.ImportUnsafe (subst (λ p. LeavesOut p features.ImportUnsafe) (sym e) unsafe_)

pub out_reflect : (path : List ℕ) → path ≡ codes "reflect" → Exactly (LeavesOut path) (Some features.ImportReflect)
out_reflect path e = out_some path features.ImportReflect (subst (λ p. LeavesOut p features.ImportReflect) (sym e) reflect)

pub out_foreign : (path : List ℕ) → path ≡ codes "C" → Exactly (LeavesOut path) (Some features.ImportC)
out_foreign path e = out_some path features.ImportC (subst (λ p. LeavesOut p features.ImportC) (sym e) foreign)

pub out_none : (path : List ℕ) → path ≢ codes "unsafe" → path ≢ codes "reflect" → path ≢ codes "C" → Exactly (LeavesOut path) None
out_none path a b d = exact_none (LeavesOut path) (λ f h. go path f h a b d)
  where
    go : (p : List ℕ) (f : Feature) → LeavesOut p f → p ≢ codes "unsafe" → p ≢ codes "reflect" → p ≢ codes "C" → ⊥
    go _ _ unsafe_ a b d = a refl
    go _ _ reflect a b d = b refl
    go _ _ foreign a b d = d refl

pub import_some : (path : List ℕ) (path_at : ℕ) (f : Feature) → Exactly (LeavesOut path) (Some f) → Exactly (IsImportOut path path_at) (Some (record { feature = f; token = path_at }))
import_some path path_at f is =
    exact_some (IsImportOut path path_at) (record { feature = f; token = path_at }) (record { leaves = exact_holds (LeavesOut path) f is; token_is = refl })
    (λ x h. part_is x.feature f x.token path_at (exact_one (LeavesOut path) f is x.feature h.leaves) h.token_is)

pub import_none : (path : List ℕ) (path_at : ℕ) → Exactly (LeavesOut path) None → Exactly (IsImportOut path path_at) None
import_none path path_at is = exact_none (IsImportOut path path_at) (λ x h. exact_not (LeavesOut path) is x.feature h.leaves)

-- the imports of a file
module _ (view : View) (ws : List Written) where
  abbrev pub ImportItem : ℕ → Claim
  ImportItem j f p = (w : Written) × (slice_get ws j ≡ Some w) × IsAt view.file.now.tokens view.number (IsImportOut w.path w.path_at) f p

  pub import_item : (k : ℕ) (w : Written) (old new : List Spot) → slice_get ws k ≡ Some w → Adds (IsAt view.file.now.tokens view.number (IsImportOut w.path w.path_at)) old new → Adds (ImportItem k) old new
  import_item k w old new there a =
      adds_as (IsAt view.file.now.tokens view.number (IsImportOut w.path w.path_at)) (ImportItem k) old new (λ f p h. (w, there, h))
      (λ f p h. subst (λ (v : Written). IsAt view.file.now.tokens view.number (IsImportOut v.path v.path_at) f p) (some_is h.0 w (sym h.1 ∙ there)) h.2) a

  pub imports_all : (k : ℕ) (old new : List Spot) → length ws ≤ k → IsListOf (λ (a b : Written). a.node < b.node) (λ w. (w.file ≡ view.number) × IsWritten view.file.now w) ws → Adds (UpTo ImportItem k) old new → Adds (IsImportSome view) old new
  imports_all k old new long are a =
      adds_as (λ f p. (j : ℕ) × ImportItem j f p) (IsImportSome view) old new
      (λ f p h.
      let w = h.1.0 in
      let at = h.1.2 in
      record {
        node = w.node;
        at = w.at;
        path_at = w.path_at;
        alias = w.alias;
        path = w.path;
        imports = (are.sound w (h.0, h.1.1)).1;
        leaves = at.holds.leaves;
        begins = subst (λ t. BeginsIn view.file.now.tokens view.number t p) at.holds.token_is at.begins;
      })
      (λ f p h.
      let w : Written = record { file = view.number; node = h.node; at = h.at; path_at = h.path_at; alias = h.alias; path = h.path } in
      let i = are.complete w (refl, h.imports) in
      (i.0, (w, i.1, record { token = h.path_at; holds = record { leaves = h.leaves; token_is = refl }; begins = h.begins })))
      (adds_all ImportItem k old new (λ j f p h. omega (arith, long, get_below ws j h.0 h.1)) a)

-- comments for the compiler
module _ (bytes : List ℕ) (file offset : ℕ) where
  abbrev Noted : Bool → Feature → Claim
  Noted b feature f p = (b ≡ true) × (f ≡ feature) × (p ≡ record { file = file; offset = offset })

  abbrev text : List ℕ
  text = directive_at bytes offset

  pub three : (a b d : Bool) (s t u v : List Spot) → (a ≡ true → IsDirective (codes "//go:linkname") text) → (a ≡ false → IsDirective (codes "//go:linkname") text → ⊥)
      → (b ≡ true → IsDirective (codes "//go:build") text) → (b ≡ false → IsDirective (codes "//go:build") text → ⊥) → (d ≡ true → IsDirective (codes "//go:embed") text) → (d ≡ false → IsDirective (codes "//go:embed") text → ⊥)
      → Adds (Noted a features.Linkname) s t → Adds (Noted b features.BuildLine) t u → Adds (Noted d features.Embed) u v → Adds (IsDirected bytes file offset) s v
  three a b d s t u v a_yes a_no b_yes b_no d_yes d_no one two last =
      adds_as _ (IsDirected bytes file offset) s v
      (λ f p h. elim h [
        | inl h ↦ elim h [
          | inl h ↦ record { directs = subst (Directs text) (sym h.1) (linkname (a_yes h.0)); place_is = h.2 }
          | inr h ↦ record { directs = subst (Directs text) (sym h.1) (build (b_yes h.0)); place_is = h.2 }
        ]
        | inr h ↦ record { directs = subst (Directs text) (sym h.1) (embed (d_yes h.0)); place_is = h.2 }
      ])
      (λ f p h. split f p h.directs h.place_is)
      (adds_both _ _ s u v (adds_both _ _ s t u one two) last)
    where
      is_true : (x : Bool) {P : Type 0} → (x ≡ false → P → ⊥) → P → x ≡ true
      is_true true no_way h = refl
      is_true false no_way h = absurd (no_way refl h)

      split : (f : Feature) (p : Place) → Directs text f → p ≡ record { file = file; offset = offset } → (Noted a features.Linkname f p ⊎ Noted b features.BuildLine f p) ⊎ Noted d features.Embed f p
      split _ p (linkname h) e = inl (inl (is_true a a_no h, refl, e))
      split _ p (build h) e = inl (inr (is_true b b_no h, refl, e))
      split _ p (embed h) e = inr (is_true d d_no h, refl, e)

module _ (bytes : List ℕ) (file : ℕ) (ds : List ℕ) where
  abbrev pub DirectiveItem : ℕ → Claim
  DirectiveItem j f p = (offset : ℕ) × (slice_get ds j ≡ Some offset) × IsDirected bytes file offset f p

  pub directive_item : (k offset : ℕ) (old new : List Spot) → slice_get ds k ≡ Some offset → Adds (IsDirected bytes file offset) old new → Adds (DirectiveItem k) old new
  directive_item k offset old new there a =
      adds_as (IsDirected bytes file offset) (DirectiveItem k) old new (λ f p h. (offset, there, h))
      (λ f p h. subst (λ o. IsDirected bytes file o f p) (some_is h.0 offset (sym h.1 ∙ there)) h.2) a

  pub directives_all : (k : ℕ) (old new : List Spot) → length ds ≤ k → Adds (UpTo DirectiveItem k) old new → Adds (IsDirectedSome bytes file ds) old new
  directives_all k old new long a =
      adds_as (λ f p. (j : ℕ) × DirectiveItem j f p) (IsDirectedSome bytes file ds) old new
      (λ f p h. record { offset = h.1.0; among = (h.0, h.1.1); is = h.1.2 })
      (λ f p h. (h.among.0, (h.offset, h.among.1, h.is)))
      (adds_all DirectiveItem k old new (λ j f p h. omega (arith, long, get_below ds j h.0 h.1)) a)

pub directed_as : (v w s t : List ℕ) → v ≡ w → s ≡ t → IsDirective v s → IsDirective w t
directed_as v w s t p q h = subst (λ x. IsDirective x t) p (subst (IsDirective v) q h)
