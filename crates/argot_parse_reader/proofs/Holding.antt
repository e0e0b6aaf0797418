-- What holds of an answer: the combinators.
use Rattle.std.proofs.Common.{◌≡◌, ℕ, List, Bool, true, false, cond, Some, None}
use Rattle.std.proofs.lemmas.Bool.{cond_both}
use Rattle.argot_parse_reader.specs.declared.post.Post.{Post}
use Rattle.argot_parse_reader.specs.Reading.{Answer, ◌>>=◌, try_on}

abbrev pub IsHeld : (ℕ → List Post → Type 0) → Answer → Type 0
IsHeld P None = Unit {0}
IsHeld P (Some r) = P r.0 r.1

-- what holds of an answer, if there is one
pub record Holds (P : ℕ → List Post → Type 0) (a : Answer) : Type 0 where
  pub held : IsHeld P a

pub none : {P : ℕ → List Post → Type 0} → Holds P None
none = record { held = tt }

pub given : {P : ℕ → List Post → Type 0} {r : ℕ × List Post} → P r.0 r.1 → Holds P (Some r)
given h = record { held = h }

bind_at : (P Q : ℕ → List Post → Type 0) (a : Answer) (f : ℕ × List Post → Answer) → IsHeld P a → ((r : ℕ × List Post) → P r.0 r.1 → Holds Q (f r)) → Holds Q (a >>= f)
bind_at P Q None f g h = none
bind_at P Q (Some r) f g h = h r g

-- one after another
pub bind : {P Q : ℕ → List Post → Type 0} (a : Answer) {f : ℕ × List Post → Answer} → Holds P a → ((r : ℕ × List Post) → P r.0 r.1 → Holds Q (f r)) → Holds Q (a >>= f)
bind {P} {Q} a {f} g h = bind_at P Q a f g.held h

-- they group either way
pub regroup : {Q : ℕ → List Post → Type 0} (a : Answer) (f h : ℕ × List Post → Answer) → Holds Q (a >>= (λ r. (f r >>= h))) → Holds Q ((a >>= f) >>= h)
regroup None f h g = none
regroup (Some r) f h g = g

try_at : (P Q : ℕ → List Post → Type 0) (a : Answer) (f : ℕ × List Post → Answer) (stay : Answer) → IsHeld P a → ((r : ℕ × List Post) → P r.0 r.1 → Holds Q (f r)) → Holds Q stay → Holds Q (try_on a f stay)
try_at P Q None f stay g h s = s
try_at P Q (Some r) f stay g h s = h r g

pub try : {P Q : ℕ → List Post → Type 0} (a : Answer) {f : ℕ × List Post → Answer} {stay : Answer} → Holds P a → ((r : ℕ × List Post) → P r.0 r.1 → Holds Q (f r)) → Holds Q stay → Holds Q (try_on a f stay)
try {P} {Q} a {f} {stay} g h s = try_at P Q a f stay g.held h s

weaken_at : (P Q : ℕ → List Post → Type 0) (a : Answer) → IsHeld P a → ((to : ℕ) (new : List Post) → P to new → Q to new) → Holds Q a
weaken_at P Q None g h = none
weaken_at P Q (Some r) g h = given (h r.0 r.1 g)

pub weaken : {P Q : ℕ → List Post → Type 0} (a : Answer) → Holds P a → ((to : ℕ) (new : List Post) → P to new → Q to new) → Holds Q a
weaken {P} {Q} a g h = weaken_at P Q a g.held h

pub choose : {Q : ℕ → List Post → Type 0} (b : Bool) {x y : Answer} → (b ≡ true → Holds Q x) → (b ≡ false → Holds Q y) → Holds Q (cond b x y)
choose {Q} b {x} {y} p q = cond_both b x y (Holds Q) p q

-- a choice, and then more
pub choose_then : {Q : ℕ → List Post → Type 0} (b : Bool) (x y : Answer) (f : ℕ × List Post → Answer) → (b ≡ true → Holds Q (x >>= f)) → (b ≡ false → Holds Q (y >>= f)) → Holds Q (cond b x y >>= f)
choose_then {Q} b x y f p q = cond_both b x y (λ a. Holds Q (a >>= f)) p q

-- what holds of an answer for each of these
pub each : {I : Type 0} (P : I → ℕ → List Post → Type 0) (a : Answer) → ((i : I) → Holds (P i) a) → Holds (λ to new. (i : I) → P i to new) a
each P None h = none
each P (Some r) h = given (λ i. (h i).held)
