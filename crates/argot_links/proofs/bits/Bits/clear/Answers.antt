use Rattle.std.proofs.Common.{◌≡◌, ℕ, ◌*◌, length, get_or, ap, ◌∙◌, rules}
use Rattle.std.proofs.lemmas.List.{with_items_is}
use Rattle.std.specs.Vec.{with_items}
use Rattle.argot_links.proofs.Grids.{nothing_at, within_nothing}
use Rattle.argot_links.proofs.bits.Bits.clear.Goals as goal
use Rattle.argot_links.proofs.bits.Bits.clear.Goals.{After-clear_words}

-- the vector has the words that were written
items : (c : After-clear_words) → (with_items c.self.inside.words c.clear_words.new.words).items ≡ c.clear_words.new.words
items c = with_items_is c.self.inside.words c.clear_words.new.words (search rules)

zero_words : (c : After-clear_words) (j : ℕ) → get_or (with_items c.self.inside.words c.clear_words.new.words).items j 0 ≡ 0
zero_words c j = ap (λ ws. get_or ws j 0) (items c) ∙ c.clear_words.ensures j

pub returns-clause-empty : goal.returns-clause-empty
returns-clause-empty c = nothing_at _ (zero_words (goal.at.returns-clause-empty c).After-clear_words)

pub returns-clause-within : goal.returns-clause-within
returns-clause-within c = within_nothing _ (nothing_at _ (zero_words (goal.at.returns-clause-within c).After-clear_words))

pub invariant_of-self : goal.invariant_of-self
invariant_of-self c =
    let d = (goal.at.invariant_of-self c).After-clear_words in
    let same : length c.clear_words.new.words ≡ c.self.inside.rows * c.self.inside.stride = search rules in
    record {
      words = ap length (items d) ∙ same;
      stride = c.self.invariant.stride;
      within = within_nothing _ (nothing_at _ (zero_words d));
      small = c.self.invariant.small;
    }
