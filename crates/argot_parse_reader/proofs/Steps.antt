-- One step of reading.
use Rattle.std.proofs.Common.{◌≡◌, ℕ, suc, ◌-◌, ◌<◌, List, refl, ap, ◌∙◌, arith}
use Rattle.argot_tree.specs.declared.token.Token.{Token}
use Rattle.argot_parse_reader.specs.declared.post.Post.{Post}
use Rattle.argot_parse_reader.specs.Reading.{Task}
use Rattle.argot_parse_reader.specs.Reader.{step, over, read}

read_suc : (tokens : List Token) (n : ℕ) (task : Task) (at : ℕ) (out : List Post) → read tokens (suc n) task at out ≡ step tokens (read tokens n) task at out
unfolding read
read_suc tokens n task at out = refl

pub read_more : (tokens : List Token) (n : ℕ) (task : Task) (at : ℕ) (out : List Post) → 0 < n → read tokens n task at out ≡ step tokens (read tokens (n - 1)) task at out
read_more tokens n task at out h =
    let e : n ≡ suc (n - 1) = omega arith in
    ap (λ m. read tokens m task at out) e ∙ read_suc tokens (n - 1) task at out

pub read_none : (tokens : List Token) (n : ℕ) (task : Task) (at : ℕ) (out : List Post) → n ≡ 0 → read tokens n task at out ≡ over tokens task at out
unfolding read
read_none tokens n task at out h = ap (λ m. read tokens m task at out) h
