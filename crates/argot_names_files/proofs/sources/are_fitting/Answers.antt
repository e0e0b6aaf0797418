use Rattle.std.proofs.Common.{sym, subst, ◌∙◌, arith}
use Rattle.argot_names_files.proofs.Fitting.{fit_more, fit_all}
use Rattle.std.proofs.lemmas.Option.{slice_get-get_or, slice_get_read}
use Rattle.std.proofs.Common.{refl}
use Rattle.argot_names_files.specs.Files.{Fits}
use Rattle.argot_names_files.proofs.sources.are_fitting.Goals as goal

pub loop-k-preserved : goal.loop-k-preserved
loop-k-preserved c =
    fit_more c.args.paths.now c.args.contents.now c.loop-k.k _ _ c.loop-k.invariant
    (slice_get_read c.args.paths.now _ c.loop-k.k _ refl (omega (arith, c.loop-k-test.true)) c.index-paths-k.is)
    (slice_get_read c.args.contents.now _ c.loop-k.k _ refl (omega (arith, c.loop-k-test.true, c.requires)) c.index-contents-k.is)
    (subst (λ p. Fits p c.index-contents-k.result) c.as_str.ensures (subst (Fits c.as_str.result.now) c.as_slice.ensures (c.fits.ensures.fit c.if-not-fits.false)))

pub returns-clause-fit : goal.returns-clause-fit
returns-clause-fit c = λ _. fit_all c.args.paths.now c.args.contents.now c.loop-k.k (omega arith) c.loop-k.invariant
