use Rattle.argot_names_module.proofs.Cutting.{cut_line, other_first, no_second}
use Rattle.argot_names_module.proofs.lines.words_of.Goals as goal

pub returns-then-not-is_same-clause-none : goal.returns-then-not-is_same-clause-none
returns-then-not-is_same-clause-none c = λ second skipped h.
    other_first c.args.line.now _ _ _ _ _ _ c.before_comment-text.ensures c.behind_blank-front.ensures c.behind_word.ensures c.behind_blank.ensures c.word_of.ensures c.word_of-second.ensures c.args.word.now second skipped
    (λ e. let yes = c.is_same.ensures.1 e in let never = c.if-not-is_same.true in absurd (cc)) h

pub returns-then-not-is_some-2-clause-none : goal.returns-then-not-is_some-2-clause-none
returns-then-not-is_some-2-clause-none c = λ second skipped h.
    no_second c.args.line.now _ _ _ _ _ _ c.before_comment-text.ensures c.behind_blank-front.ensures c.behind_word.ensures c.behind_blank.ensures c.word_of.ensures c.word_of-second.ensures c.args.word.now second skipped
    (λ some. let yes = c.is_some-2.ensures.1 some in let never = c.if-not-is_some-2.true in absurd (cc)) h

pub returns-clause-some : goal.returns-clause-some
returns-clause-some c =
    cut_line c.args.line.now _ _ _ _ _ _ c.before_comment-text.ensures c.behind_blank-front.ensures c.behind_word.ensures c.behind_blank.ensures c.word_of.ensures c.word_of-second.ensures c.args.word.now c.blank_len-offset.result
    (c.is_text.ensures.0 c.if-not-is_text.false) (c.is_same.ensures.0 c.if-not-is_same.false) (c.is_some.ensures.0 c.if-not-is_some.false) (c.is_some-2.ensures.0 c.if-not-is_some-2.false) c.blank_len-offset.ensures.len
