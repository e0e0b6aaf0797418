-- Two plain codes of a typed program with the same order of functions and of package variables are the same.
use Rattle.std.specs.Prelude.{slice_get, unwrap_or}
use Rattle.std.proofs.Common.{◌≡◌, ℕ, ◌+◌, ◌<◌, ◌≤◌, Bool, true, false, List, length, Some, refl, sym, ap, ◌∙◌, subst, arith, nat_lt, get_or}
use Rattle.std.proofs.lemmas.Bool.Decides.{nat_tests}
use Rattle.std.proofs.lemmas.Option.{slice_get-get_or}
use Rattle.argot_plain.specs.Code.{Code}
use Rattle.argot_tree.specs.declared.entries.Entry.{Entry}
use Rattle.argot_lower_scripts.specs.Says.{Finished, At, filled_by}
use Rattle.argot_lower_scripts.specs.Agrees.{Between, SameSite}
use Rattle.argot_lower_locals.specs.Typed.{Typed}
use Rattle.argot_lower_program.specs.Functions.{Origin, number_in}
use Rattle.argot_lower_program.specs.PlainCode.{AreWritten, AreGlobals, IsPlainCode, beginning}
use Rattle.argot_lower_program.specs.Same.{AreSame}
use Rattle.argot_lower_program.proofs.Lists.{ext}
use Rattle.argot_lower_program.proofs.Chain.{chain}

module _ (t : Typed) (entries : List Entry) (c d : Code) where
  finished : Code → List Origin → List ℕ → List Rattle.argot_lower_scripts.specs.Script.Note → Finished
  finished code order places notes = record { code = code; number = number_in order; places = places; notes = notes }

  site_by : (f g : Finished) (vs : List ℕ) (end i : ℕ) (b : Bool) → nat_lt i (length vs) ≡ b → AreGlobals t f.code vs → AreGlobals t g.code vs → f.number ≡ g.number → Between (SameSite f g) (length vs) end → i < end → slice_get f.code.sites i ≡ slice_get g.code.sites i
  site_by f g vs end i true e x y n s lt =
      let t' : i < length vs = grind (arith, nat_tests) in
      let there : slice_get vs i ≡ Some (get_or vs i 0) = slice_get-get_or vs i 0 t' in
      (x.sites i (get_or vs i 0) there).is ∙ sym (y.sites i (get_or vs i 0) there).is
  site_by f g vs end i false e x y n s lt =
      let t' : length vs ≤ i = grind (arith, nat_tests) in
      let r = s i t' lt in
      r.one.is
      ∙ ap (λ (k : ℕ → ℕ). Some (record { place = r.place; result = r.site.result; leaf = r.site.leaf; shape = r.site.shape; dynamic = r.site.dynamic; function = Rattle.std.specs.Prelude.option_map k r.site.function })) n
      ∙ sym r.other.is

  pub one_program : (x : IsPlainCode t entries c) (y : IsPlainCode t entries d) → x.order ≡ y.order → x.variables ≡ y.variables → AreSame c d
  unfolding finished
  one_program x y o v =
      let f : Finished = finished c x.order x.places x.notes in
      let g : Finished = finished d x.order y.places y.notes in
      let written : AreWritten t entries g x.order 0 x.order (beginning t x.variables) y.end = subst (λ (vs : List ℕ). AreWritten t entries g x.order 0 x.order (beginning t vs) y.end) (sym v) (subst (λ (os : List Origin). AreWritten t entries (finished d os y.places y.notes) os 0 os (beginning t y.variables) y.end) (sym o) y.written_are) in
      let r = chain t entries f g x.order refl x.written_are refl y.end written in
      let end : x.end ≡ y.end = r.end in
      let labels : length y.places ≡ x.end.label = y.labels_end ∙ ap (λ (a : At). a.label) (sym end) in
      let places : x.places ≡ y.places = ext x.places y.places (x.labels_end ∙ sym labels) (λ l lt.
      let b : l < x.end.label = omega arith in
      let z : 0 ≤ l = omega arith in
      let s = r.places l z b in
      s.one.is ∙ sym s.other.is) in
      let count : length d.instrs ≡ x.end.place = y.instrs_end ∙ ap (λ (a : At). a.place) (sym end) in
      let instrs : c.instrs ≡ d.instrs = ext c.instrs d.instrs (x.instrs_end ∙ sym count) (λ i lt.
      let b : i < x.end.place = omega arith in
      let z : 0 ≤ i = omega arith in
      let s = r.instrs i z b in
      s.one.is ∙ ap (λ (ps : List ℕ). Some (record { kind = filled_by (number_in x.order) (λ l. unwrap_or (slice_get ps l) 0) s.kind; at = s.position; tags = s.tags })) places ∙ sym s.other.is) in
      let total : length d.sites ≡ x.end.site = y.sites_end ∙ ap (λ (a : At). a.site) (sym end) in
      let globals' : AreGlobals t d x.variables = subst (λ (vs : List ℕ). AreGlobals t d vs) (sym v) y.globals_are in
      let sites : c.sites ≡ d.sites = ext c.sites d.sites (x.sites_end ∙ sym total) (λ i lt.
      let b : i < x.end.site = omega arith in
      site_by f g x.variables x.end.site i (nat_lt i (length x.variables)) refl x.globals_are globals' refl r.sites b) in
      let number : length d.functions ≡ length x.order = y.functions_end ∙ ap (λ (os : List Origin). length os) (sym o) in
      let functions : c.functions ≡ d.functions = ext c.functions d.functions (x.functions_end ∙ sym number) (λ k lt.
      let z : 0 ≤ k = omega arith in
      let b : k < 0 + length x.order = omega arith in
      let s = r.functions k z b in
      s.first ∙ sym s.other) in
      record { functions = functions; instrs = instrs; sites = sites; globals = x.globals_are.items ∙ sym globals'.items; files = x.files_are ∙ sym y.files_are }
