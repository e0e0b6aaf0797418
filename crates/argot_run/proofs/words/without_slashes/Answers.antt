use Rattle.std.proofs.Common.{rules, sym, ◌∙◌, ap, lit<}
use Rattle.std.proofs.lemmas.Option.{MatchOption-at_some, MatchOption-at_none}
use Rattle.std.proofs.lemmas.Str.Pattern.{strip_suffix_char}
use Rattle.argot_run.specs.Words.{without_slashes}
use Rattle.argot_run.proofs.Slashes.{without_slashes-more, without_slashes-none}
use Rattle.argot_run.proofs.words.without_slashes.Goals as goal

pub loop-rest-preserved : goal.loop-rest-preserved
loop-rest-preserved c =
    let split = MatchOption-at_some _ _ c.in-Some.rest c.in-Some.is (strip_suffix_char 47 c.loop-rest.folder.now c.strip_suffix.result c.strip_suffix.ensures.cases (lit< tt))
    in (search rules, sym (without_slashes-more c.in-Some.rest.now) ∙ ap without_slashes (sym split) ∙ c.loop-rest.invariant.1)

pub returns : goal.returns
returns c =
    sym (without_slashes-none c.loop-rest.folder.now (MatchOption-at_none _ _ c.in_default.is (strip_suffix_char 47 c.loop-rest.folder.now c.strip_suffix.result c.strip_suffix.ensures.cases (lit< tt))))
    ∙ c.loop-rest.invariant.1
