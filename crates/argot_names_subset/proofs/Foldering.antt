-- The table of folders, package by package.
use Rattle.std.proofs.Common.{◌≡◌, ℕ, ◌+◌, ◌<◌, ◌≤◌, ◌⊎◌, inl, inr, List, Bool, true, false, cond, Option, Some, None, length, refl, sym, ap, ◌∙◌, subst, arith}
use Rattle.std.specs.Prelude.{nat_eq, slice_get, ◌↔◌}
use Rattle.std.specs.Cmp.Lexicographic.{pointwise}
use Rattle.std.proofs.lemmas.Bool.{cases_eq}
use Rattle.argot_text.specs.declared.sources.Sources.{Sources}
use Rattle.argot_typed.specs.declared.program.Package.{Package}
use Rattle.argot_names_rules.specs.Packages.{folder_of}
use Rattle.argot_names_rules.specs.Agreeing.{is_go_file}
use Rattle.argot_names_imports.specs.Firsts.{Numbers, found_at}
use Rattle.argot_names_imports.proofs.FirstFiles.{same_text, text_same}
use Rattle.argot_names_imports.proofs.Lists.{get_below}
use Rattle.argot_names_subset.specs.Folders.{first_path, IsGoIn, IsFolderAt, IsFolderOf}
use Rattle.argot_names_subset.specs.Others.{HasFolder}
use Rattle.argot_names_subset.proofs.Bridging.{some_is}

-- a folder that is put
put_to : (o : Option ℕ) (b : Bool) (k : ℕ) (x : Option ℕ) (f : ℕ) → x ≡ cond b (Some k) o → x ≡ Some f → ((first : ℕ) × (o ≡ Some first)) ⊎ (b ≡ true)
put_to o true k x f e at = inr refl
put_to o false k x f e at = inl (f, sym e ∙ at)

put_from : (o : Option ℕ) (b : Bool) (k f : ℕ) → o ≡ Some f → (first : ℕ) × (cond b (Some k) o ≡ Some first)
put_from o true k f e = (k, refl)
put_from o false k f e = (f, e)

put_new : (o : Option ℕ) (b : Bool) (k : ℕ) → b ≡ true → cond b (Some k) o ≡ Some k
put_new o true k e = refl
put_new o false k e = absurd (cc)

pub folder_put : (m n : Numbers) (path folder : List ℕ) (k : ℕ) → is_go_file path ≡ true → folder ≡ folder_of path → ((q : List ℕ) → found_at n q ≡ cond (pointwise nat_eq folder q) (Some k) (found_at m q))
    → (q : List ℕ) → HasFolder n q ↔ (HasFolder m q ⊎ IsGoIn path q)
folder_put m n path folder k go at new q = (
  λ h. elim (put_to (found_at m q) (pointwise nat_eq folder q) k (found_at n q) h.0 (new q) h.1) [ inl x ↦ inl x | inr e ↦ inr (record { go = go; is = sym at ∙ same_text folder q e }) ],
  λ h. elim h [
    | inl x ↦ let y = put_from (found_at m q) (pointwise nat_eq folder q) k x.0 x.1 in (y.0, new q ∙ y.1)
    | inr x ↦ (k, new q ∙ put_new (found_at m q) (pointwise nat_eq folder q) k (subst (λ r. pointwise nat_eq folder r ≡ true) (at ∙ x.is) (text_same folder)))
  ],
)

pub folder_kept : (m : Numbers) (path : List ℕ) → is_go_file path ≡ false → (q : List ℕ) → HasFolder m q ↔ (HasFolder m q ⊎ IsGoIn path q)
folder_kept m path e q = (λ h. inl h, λ h. elim h [ inl x ↦ x | inr x ↦ let go = x.go in absurd (cc) ])

pub package_put : (m n : Numbers) (sources : Sources) (p : Package) (path : List ℕ) → first_path sources p ≡ Some path → ((q : List ℕ) → HasFolder n q ↔ (HasFolder m q ⊎ IsGoIn path q))
    → (q : List ℕ) → HasFolder n q ↔ (HasFolder m q ⊎ IsFolderAt sources p q)
package_put m n sources p path first new q = (
  λ h. elim ((new q).0 h) [ inl x ↦ inl x | inr x ↦ inr (record { path = path; first = first; is = x }) ],
  λ h. (new q).1 (elim h [ inl x ↦ inl x | inr x ↦ inr (subst (λ r. IsGoIn r q) (some_is x.path path (sym x.first ∙ first)) x.is) ]),
)

pub package_kept : (m : Numbers) (sources : Sources) (p : Package) → first_path sources p ≡ None → (q : List ℕ) → HasFolder m q ↔ (HasFolder m q ⊎ IsFolderAt sources p q)
package_kept m sources p none q = (λ h. inl h, λ h. elim h [ inl x ↦ x | inr x ↦ let some = x.first in absurd (cc) ])

-- those of the first packages
pub record IsFolderBelow (sources : Sources) (packages : List Package) (count : ℕ) (folder : List ℕ) : Type 0 where
  pub k : ℕ
  pub below : k < count
  pub p : Package
  pub there : slice_get packages k ≡ Some p
  pub is : IsFolderAt sources p folder

abbrev pub AreFoldersBelow : Sources → List Package → ℕ → Numbers → Type 0
AreFoldersBelow sources packages count m = (q : List ℕ) → HasFolder m q ↔ IsFolderBelow sources packages count q

pub folders_none : (sources : Sources) (packages : List Package) (m : Numbers) → ((q : List ℕ) → found_at m q ≡ None) → AreFoldersBelow sources packages 0 m
folders_none sources packages m none q = (λ h. let some = h.1 in let no_one = none q in absurd (cc), λ h. absurd (omega (arith, h.below)))

pub folders_more : (sources : Sources) (packages : List Package) (k : ℕ) (p : Package) (m n : Numbers) → slice_get packages k ≡ Some p → AreFoldersBelow sources packages k m → ((q : List ℕ) → HasFolder n q ↔ (HasFolder m q ⊎ IsFolderAt sources p q))
    → AreFoldersBelow sources packages (k + 1) n
folders_more sources packages k p m n there are new q = (
  λ h. elim ((new q).0 h) [
    | inl x ↦ let b = (are q).0 x in record { k = b.k; below = omega (arith, b.below); p = b.p; there = b.there; is = b.is }
    | inr x ↦ record { k = k; below = omega arith; p = p; there = there; is = x }
  ],
  λ b. (new q).1 (elim (cases_eq b.k k) [
    | inl same ↦ inr (subst (λ x. IsFolderAt sources x q) (some_is b.p p (sym b.there ∙ (ap (slice_get packages) same ∙ there))) b.is)
    | inr other ↦ inl ((are q).1 (record { k = b.k; below = omega (arith, b.below, other); p = b.p; there = b.there; is = b.is }))
  ]),
)

pub folders_all : (sources : Sources) (packages : List Package) (count : ℕ) (m : Numbers) → length packages ≤ count → AreFoldersBelow sources packages count m → (q : List ℕ) → HasFolder m q ↔ IsFolderOf sources packages q
folders_all sources packages count m long are q = (
  λ h. let b = (are q).0 h in record { k = b.k; p = b.p; there = b.there; is = b.is },
  λ f. (are q).1 (record { k = f.k; below = omega (arith, long, get_below packages f.k f.p f.there); p = f.p; there = f.there; is = f.is }),
)
