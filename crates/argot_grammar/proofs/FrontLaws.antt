-- The front of what grows.
use Rattle.std.proofs.Common.{◌≡◌, ℕ, ◌≤◌, List, length, take, sym, ap, ◌∙◌}
use Rattle.std.proofs.lemmas.List.{take-take}
use Rattle.argot_parse_reader.specs.declared.post.Post.{Post}

pub through : (m : ℕ) (old a b : List Post) → m ≤ length a → take (length a) b ≡ a → take m a ≡ old → take m b ≡ old
through m old a b h e f = sym (take-take m (length a) b h) ∙ ap (take m) e ∙ f
