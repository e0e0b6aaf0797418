-- Spots of assembly files and of the `go` line.
use Rattle.std.proofs.Common.{◌≡◌, ℕ, ◌⊎◌, inl, inr, List, Bool, true, Some, length, refl, sym, ap, ◌∙◌, subst, ◌<◌, ◌≤◌, arith}
use Rattle.std.specs.Prelude.{codes, slice_get, nat_lt}
use Rattle.std.proofs.lemmas.Bool.Decides.{nat_tests}
use Rattle.argot_names_imports.proofs.Lists.{get_below}
use Rattle.argot_text.specs.declared.sources.Sources.{Sources}
use Rattle.argot_names_rules.specs.Files.{Place}
use Rattle.argot_names_rules.specs.Packages.{folder_of}
use Rattle.argot_names_rules.specs.Agreeing.{is_assembly}
use Rattle.argot_names_rules.specs.GoMod.{FirstLine}
use Rattle.argot_names_rules.specs.Subset.{IsLater, major, minor}
use Rattle.argot_names_rules.specs.declared.flag.Feature.{Feature}
use Rattle.argot_names_rules.specs.declared.flag.Feature.TheVariants as features
use Rattle.argot_names_imports.specs.Firsts.{Numbers}
use Rattle.argot_names_imports.specs.Reads.{bytes_at}
use Rattle.argot_names_subset_file.specs.declared.spots.Spot.{Spot}
use Rattle.argot_names_subset_file.specs.Spots.{Adds}
use Rattle.argot_names_subset_file.proofs.Adding.{UpTo, adds_as, adds_none, adds_both, adds_all}
use Rattle.argot_names_subset.specs.Others.{HasFolder, IsAssemblyAt, IsLineAt, IsGoLineAt, IsOtherAt, assembly, go_line, IsOther}
use Rattle.argot_names_subset.proofs.Bridging.{some_is}

pub assembly_added : (folders : Numbers) (file : ℕ) (path folder : List ℕ) (is : Bool) (old new : List Spot) → is ≡ is_assembly path → is ≡ true → folder ≡ folder_of path → HasFolder folders folder
    → Adds (λ f p. (f ≡ features.AssemblyFile) × (p ≡ record { file = file; offset = 0 })) old new → Adds (IsAssemblyAt folders file path) old new
assembly_added folders file path folder is old new e so at known a =
    adds_as _ (IsAssemblyAt folders file path) old new
    (λ f p h. record { is = sym e ∙ so; known = subst (HasFolder folders) at known; feature_is = h.0; place_is = h.1 })
    (λ f p h. (h.feature_is, h.place_is)) a

-- the first line
pub line_added : (bytes word : List ℕ) (file offset : ℕ) (second : List ℕ) (old new : List Spot) → word ≡ codes "go" → FirstLine bytes word offset second
    → ((o : ℕ) (s : List ℕ) → FirstLine bytes word o s → (o ≡ offset) × (s ≡ second))
    → Adds (λ f p. (f ≡ features.GoLine) × (p ≡ record { file = file; offset = offset })) old new → Adds (IsLineAt bytes file) old new
line_added bytes word file offset second old new e first one a =
    adds_as _ (IsLineAt bytes file) old new
    (λ f p h. record { offset = offset; second = second; first = subst (λ w. FirstLine bytes w offset second) e first; feature_is = h.0; place_is = h.1 })
    (λ f p h. (h.feature_is, h.place_is ∙ ap (λ o. record { file = file; offset = o }) (one h.offset h.second (subst (λ w. FirstLine bytes w h.offset h.second) (sym e) h.first)).0)) a

pub line_missing : (bytes word : List ℕ) (file : ℕ) (old new : List Spot) → word ≡ codes "go" → ((o : ℕ) (s : List ℕ) → FirstLine bytes word o s → ⊥) → new ≡ old → Adds (IsLineAt bytes file) old new
line_missing bytes word file old new e none same =
    adds_none (IsLineAt bytes file) old new same (λ f p h. none h.offset h.second (subst (λ w. FirstLine bytes w h.offset h.second) (sym e) h.first))

pub go_added : (sources : Sources) (file : ℕ) (path bytes : List ℕ) (old new : List Spot) → path ≡ codes "go.mod" → IsLater sources.go_line → bytes ≡ bytes_at sources file → Adds (IsLineAt bytes file) old new → Adds (IsGoLineAt sources file path) old new
go_added sources file path bytes old new is later e a =
    adds_as _ (IsGoLineAt sources file path) old new
    (λ f p h. record { is = is; later = later; line = subst (λ bs. IsLineAt bs file f p) e h })
    (λ f p h. subst (λ bs. IsLineAt bs file f p) (sym e) h.line) a

-- both
pub other_added : (sources : Sources) (folders : Numbers) (file : ℕ) (path : List ℕ) (old mid new : List Spot) → Adds (IsAssemblyAt folders file path) old mid → Adds (IsGoLineAt sources file path) mid new → Adds (IsOtherAt sources folders file path) old new
other_added sources folders file path old mid new a b =
    adds_as _ (IsOtherAt sources folders file path) old new
    (λ f p h. elim h [ inl x ↦ assembly x | inr y ↦ go_line y ])
    (λ f p h. split f p h)
    (adds_both (IsAssemblyAt folders file path) (IsGoLineAt sources file path) old mid new a b)
  where
    split : (f : Feature) (p : Place) → IsOtherAt sources folders file path f p → IsAssemblyAt folders file path f p ⊎ IsGoLineAt sources file path f p
    split f p (assembly x) = inl x
    split f p (go_line y) = inr y

-- one file after the other
pub record IsOtherNumbered (sources : Sources) (folders : Numbers) (file : ℕ) (feature : Feature) (place : Place) : Type 0 where
  pub path : List ℕ
  pub there : slice_get sources.paths file ≡ Some path
  pub is : IsOtherAt sources folders file path feature place

pub other_numbered : (sources : Sources) (folders : Numbers) (file : ℕ) (path : List ℕ) (old new : List Spot) → slice_get sources.paths file ≡ Some path → Adds (IsOtherAt sources folders file path) old new → Adds (IsOtherNumbered sources folders file) old new
other_numbered sources folders file path old new there a =
    adds_as (IsOtherAt sources folders file path) (IsOtherNumbered sources folders file) old new
    (λ f p h. record { path = path; there = there; is = h })
    (λ f p h. subst (λ q. IsOtherAt sources folders file q f p) (some_is h.path path (sym h.there ∙ there)) h.is) a

pub others_all : (sources : Sources) (folders : Numbers) (count : ℕ) (old new : List Spot) → count ≡ length sources.paths → Adds (UpTo (IsOtherNumbered sources folders) count) old new → Adds (IsOther sources folders) old new
others_all sources folders count old new e a =
    adds_as _ (IsOther sources folders) old new
    (λ f p h. record { file = h.0; path = h.1.path; there = h.1.there; is = h.1.is })
    (λ f p h. (h.file, record { path = h.path; there = h.there; is = h.is }))
    (adds_all (IsOtherNumbered sources folders) count old new (λ j f p h. subst (λ n. j < n) (sym e) (get_below sources.paths j h.path h.there)) a)

-- Go 1.22 or later
pub later_major : (a b : ℕ) → nat_lt 1 a ≡ true → IsLater (Some (a, b))
later_major a b e = major (grind (arith, nat_tests))

pub later_minor : (a b : ℕ) → a ≡ 1 → 22 ≤ b → IsLater (Some (a, b))
later_minor a b e l = subst (λ n. IsLater (Some (n, b))) (sym e) (minor l)

pub is_later : (a b : ℕ) → IsLater (Some (a, b)) → (1 < a) ⊎ ((a ≡ 1) × (22 ≤ b))
is_later a b (major l) = inl l
is_later a b (minor l) = inr (refl, l)
