use Rattle.std.proofs.Common.{◌≡◌, ℕ, ◌+◌, ◌*◌, ◌<◌, ◌^◌, ◌≤◌, ◌⊎◌, bit_or, length, get_or, refl, sym, ap, ◌∙◌, rules}
use Rattle.std.proofs.lemmas.List.{with_items_is}
use Rattle.std.specs.Vec.{with_items}
use Rattle.argot_links.specs.Grid.{Grid, SameSize, IsWithin}
use Rattle.argot_links.proofs.Grids.{grid, rows_apart, joins_bits, within_joined, zeros_joined}
use Rattle.argot_links.proofs.bits.Bits.join.Goals as goal
use Rattle.argot_links.proofs.bits.Bits.join.Goals.{After-or_words}

pub or_words-requires-clause-apart : goal.or_words-requires-clause-apart
or_words-requires-clause-apart c = rows_apart c.args.source c.args.target c.self.inside.stride

-- the vector has the words that were written
items : (c : After-or_words) → (with_items c.self.inside.words c.or_words.new.words).items ≡ c.or_words.new.words
items c = with_items_is c.self.inside.words c.or_words.new.words (search rules)

abbrev before : After-or_words → Grid
before c = grid c.self.inside.rows c.self.inside.cols c.self.inside.stride c.self.inside.words.items

abbrev after : After-or_words → Grid
after c = grid c.self.inside.rows c.self.inside.cols c.self.inside.stride (with_items c.self.inside.words c.or_words.new.words).items

same_size : (c : After-or_words) → SameSize (before c) (after c)
same_size c = record { rows = refl; cols = refl }

inside : (c : After-or_words) (k : ℕ) → k < c.self.inside.stride → get_or (after c).words (c.args.target * c.self.inside.stride + k) 0 ≡ bit_or (get_or (before c).words (c.args.target * c.self.inside.stride + k) 0) (get_or (before c).words (c.args.source * c.self.inside.stride + k) 0)
inside c k l = ap (λ ws. get_or ws (c.args.target * c.self.inside.stride + k) 0) (items c) ∙ (rw (← c.as_mut_slice-words.ensures.value) (c.or_words.ensures.inside k l))

outside : (c : After-or_words) (j : ℕ) → (j < c.args.target * c.self.inside.stride) ⊎ (c.args.target * c.self.inside.stride + c.self.inside.stride ≤ j) → get_or (after c).words j 0 ≡ get_or (before c).words j 0
outside c j l = ap (λ ws. get_or ws j 0) (items c) ∙ (rw (← c.as_mut_slice-words.ensures.value) (c.or_words.ensures.outside j l))

fits : (c : After-or_words) (j : ℕ) → get_or (before c).words j 0 < 2 ^ 64
fits c j = search rules

row : (c : After-or_words) → c.args.target < c.self.inside.rows
row c = rw (← c.self.view_is) at c.requires.target

length_after : (c : After-or_words) → length (after c).words ≡ c.self.inside.rows * c.self.inside.stride
length_after c = let same : length c.or_words.new.words ≡ c.self.inside.rows * c.self.inside.stride = search rules in ap length (items c) ∙ same

within : (c : After-or_words) → IsWithin (after c)
within c = within_joined (before c) (after c) c.args.source c.args.target refl (inside c) (outside c) (same_size c) (row c) c.self.invariant.within

pub returns-clause-joins : goal.returns-clause-joins
returns-clause-joins c = let d = (goal.at.returns-clause-joins c).After-or_words in
    rw (← c.self.view_is) (joins_bits (before d) (after d) c.args.source c.args.target refl (inside d) (outside d))

pub returns-clause-zeros : goal.returns-clause-zeros
returns-clause-zeros c = λ t. let d = (goal.at.returns-clause-zeros c).After-or_words in
    let g = c.or_words.ensures.changed t in
    rw (← c.self.view_is) (zeros_joined (before d) (after d) c.args.source c.args.target refl (inside d) (outside d) (same_size d) (row d) c.self.invariant.within (fits d) g.0 g.1
    (λ e. g.2 (rw c.as_mut_slice-words.ensures.value (sym (ap (λ ws. get_or ws (c.args.target * c.self.inside.stride + g.0) 0) (items d)) ∙ e))))

pub invariant_of-self : goal.invariant_of-self
invariant_of-self c = let d = (goal.at.invariant_of-self c).After-or_words in
    record { words = length_after d; stride = c.self.invariant.stride; within = within d; small = c.self.invariant.small }

pub returns-clause-within : goal.returns-clause-within
returns-clause-within c = within (goal.at.returns-clause-within c).After-or_words
