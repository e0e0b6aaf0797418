use Rattle.std.proofs.Common.{◌<◌, refl, sym, ap, ◌∙◌, subst}
use Rattle.std.specs.Prelude.{IfSome, IfNone}
use Rattle.argot_typed.specs.declared.program.Use.{Use}
use Rattle.argot_names_rules.specs.Files.{IsFirst}
use Rattle.argot_names_rules.specs.Lists.{IsListOf}
use Rattle.argot_names_rules.specs.Faults.{IsUnresolved, IsNowhere, Unknown, Refuses}
use Rattle.argot_names_rules.specs.Loaded.{AreDecls, IsUse}
use Rattle.argot_files.specs.Places.{place_of}
use Rattle.argot_files.specs.Reading.{files_in}
use Rattle.argot_names_imports.specs.Reached.{homes_of}
use Rattle.argot_names.proofs.Refusing.{unknown_refused, resolved, names_call, names_memory}
use Rattle.argot_names.proofs.loading.names_of.Goals as goal

pub tops_of-requires : goal.tops_of-requires
tops_of-requires c = (c.requires.reach.0, c.requires.agrees, c.requires.reach.1)

pub returns-in_err-tops : goal.returns-in_err-tops
returns-in_err-tops c = λ main reach. names_memory (files_in c.args.files.now) main c.args.reached.now c.from_residual.result c.from_residual.ensures.1

pub check_again-requires-clause-short : goal.check_again-requires-clause-short
check_again-requires-clause-short c = c.requires.agrees.short

pub check_again-requires-clause-tops : goal.check_again-requires-clause-tops
check_again-requires-clause-tops c = let r = c.requires.reach in (r.0, c.in_ok-tops.ensures r.0 r.1)

pub returns-in_err-check_again : goal.returns-in_err-check_again
returns-in_err-check_again c = λ main reach.
    names_call (files_in c.args.files.now) main c.args.reached.now c.from_residual-in_err-check_again.result c.in_err-check_again.field-0.0 c.from_residual-in_err-check_again.ensures.1
    (c.in_err-check_again.ensures.fault main (c.in_ok-tops.ensures main reach))

pub returns-in_err-decls : goal.returns-in_err-decls
returns-in_err-decls c = λ main reach. names_memory (files_in c.args.files.now) main c.args.reached.now c.from_residual-in_err-decls.result c.from_residual-in_err-decls.ensures.1

pub uses_of-requires : goal.uses_of-requires
uses_of-requires c = let r = c.requires.reach in (files_in c.args.files.now, r.0, c.in_ok-tops.ensures r.0 r.1)

pub returns-in_err-found : goal.returns-in_err-found
returns-in_err-found c = λ main reach. names_memory (files_in c.args.files.now) main c.args.reached.now c.from_residual-in_err-found.result c.from_residual-in_err-found.ensures.1

pub check_known-requires : goal.check_known-requires
check_known-requires c = c.requires.agrees.short

pub returns-in_err-check_known : goal.returns-in_err-check_known
returns-in_err-check_known c = λ main reach.
    let h = files_in c.args.files.now in
    let t = c.in_ok-tops.ensures main reach in
    let u = c.in_err-check_known.ensures.fault in
    names_call h main c.args.reached.now c.from_residual-in_err-check_known.result c.in_err-check_known.field-0.0 c.from_residual-in_err-check_known.ensures.1
    (subst (Refuses h main) (sym u.is)
    (unknown_refused h main c.args.reached.now c.in_ok-tops.tops t (c.in_ok-check_again.ensures.fine main t) (place_of u.place) _
    (subst (λ o. IfSome o (λ p. IsFirst (IsUnresolved h main) (place_of p))) u.there (c.in_ok-found.ensures.some h main t)) refl))

pub returns : goal.returns
returns c = λ main reach.
    let h = files_in c.args.files.now in
    let homes = homes_of h c.args.reached.now in
    let t = c.in_ok-tops.ensures main reach in
    let decls = c.in_ok-decls.ensures h main refl t in
    let uses = c.in_ok-found.ensures.uses h main refl t (subst (AreDecls h homes) (sym c.deref.ensures.value) decls) in
    record {
      ok = record {
        decls = decls;
        uses = subst (λ d. IsListOf (λ (a b : Use). a.node < b.node) (IsUse h homes d) c.in_ok-found.found.uses.items) c.deref.ensures.value uses;
      };
      fine = resolved h main c.args.reached.now c.in_ok-tops.tops t (c.in_ok-check_again.ensures.fine main t) (subst (λ o. IfNone o (IsNowhere h main Unknown)) c.in_ok-check_known.ensures.fine (c.in_ok-found.ensures.none h main t));
      fault = tt;
    }
