use Rattle.std.proofs.Common.{refl, subst}
use Rattle.argot_names_scopes.specs.Files.{IsFirstPlace, HasNoPlace}
use Rattle.argot_names_tops.proofs.AgainPlaces.{again_first, again_none, read_is}
use Rattle.argot_names_tops.proofs.functions.again_in.Goals as goal

pub returns-in-Some : goal.returns-in-Some
returns-in-Some c = λ h main home names reached. again_first h main home c.args.file reached c.in-Some.offset (subst (λ f. IsFirstPlace f c.in-Some.offset) (read_is h c.args.file c.args.names.now names) c.in-Some.ensures.some)

pub returns-in-None : goal.returns-in-None
returns-in-None c = λ h main home names reached. again_none h main home c.args.file reached (subst HasNoPlace (read_is h c.args.file c.args.names.now names) (c.in-None.ensures.none refl))
