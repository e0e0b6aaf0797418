-- Words for what recurs in scripts.
use Rattle.std.specs.Prelude.{ℕ, List, [], ◌∷◌}
use Rattle.argot_plain.specs.declared.instructions.Kind.{Kind}
use Rattle.argot_plain.specs.declared.instructions.Kind.TheVariants.{New, Step, Read, Write, Goto, Branch}
use Rattle.argot_plain.specs.declared.instructions.Tag.{Tag}
use Rattle.argot_text.specs.declared.path.PathStep.{PathStep}
use Rattle.argot_text.specs.declared.position.Pos.{Pos}
use Rattle.argot_lower_scripts.specs.Script.{Leaves, Value, SiteOf, Script, done, take, emit, now, until, part, site, note, sets, gets}

-- the leaves of a number, a text, a truth value or a reference
abbrev pub scalar : Leaves
scalar = [] ∷ []

abbrev pub first : List ℕ → ℕ
first [] = 0
first (r ∷ rs) = r

abbrev pub nothing : Script
nothing = done []

abbrev pub answer : ℕ → Script
answer r = done (r ∷ [])

-- the one script and then the other, which is handed what the first hands on
abbrev pub then : Script → (List ℕ → Script) → Script
then (done rs) k = k rs
then (take ls c) k = take ls (λ r. then (c r) k)
then (emit p tags i c) k = emit p tags i (then c k)
then (now c) k = now (λ l. then (c l) k)
then (until b c) k = until b (λ rs. then (c rs) k)
then (part task n c) k = part task n (λ rs. then (c rs) k)
then (site s c) k = site s (λ n. then (c n) k)
then (note o c) k = note o (then c k)
then (sets d r c) k = sets d r (then c k)
then (gets d c) k = gets d (λ r. then (c r) k)

-- the one and then the other
abbrev pub before : Script → Script → Script
before c d = then c (λ _. d)

-- an instruction without tags
abbrev pub does : Pos → Kind → Script → Script
does p i c = emit p [] i c

-- an instruction that puts a new register with these leaves
abbrev pub make : Pos → Leaves → List Tag → (ℕ → Kind) → (ℕ → Script) → Script
make p ls tags i k = take ls (λ r. emit p tags (i r) (k r))

-- the same, without tags
abbrev pub plain : Pos → Leaves → (ℕ → Kind) → (ℕ → Script) → Script
plain p ls i k = make p ls [] i k

-- the same, for a number, a text, a truth value or a reference
abbrev pub one : Pos → (ℕ → Kind) → (ℕ → Script) → Script
one p i k = plain p scalar i k

-- a reference to a new object
abbrev pub new : Pos → SiteOf → (ℕ → Script) → Script
new p s k = take scalar (λ r. site s (λ n. does p (New r n) (k r)))

-- what a reference refers to, of these leaves
abbrev pub load : Pos → Leaves → List Tag → ℕ → (ℕ → Script) → Script
load p ls tags a k = make p ls tags (λ r. Read r a ls) k

-- a value put at a part of what a reference refers to
abbrev pub put_at : Pos → ℕ → PathStep → ℕ → Script → Script
put_at p a step x c = one p (λ q. Step q a (step ∷ [])) (λ q. does p (Write q x) c)

-- what stands at a part of what a reference refers to
abbrev pub load_at : Pos → Leaves → ℕ → PathStep → (ℕ → Script) → Script
load_at p ls a step k = one p (λ q. Step q a (step ∷ [])) (λ q. load p ls [] q k)

-- goes on, or at another place
abbrev pub or_at : Pos → ℕ → Script → Script
or_at p other c = until (λ next. does p (Branch (next ∷ other ∷ [])) nothing) (λ _. c)

-- goes on at the next place
abbrev pub go_on : Pos → Script → Script
go_on p c = until (λ next. does p (Goto next) nothing) (λ _. c)

-- the value of a node below
abbrev pub value : ℕ → (ℕ → Script) → Script
value n k = part Value n (λ rs. k (first rs))

-- the values of nodes below, from left to right
abbrev pub values : List ℕ → (List ℕ → Script) → Script
values [] k = k []
values (n ∷ ns) k = value n (λ a. values ns (λ rs. k (a ∷ rs)))

-- a new register for each of these types
abbrev pub takes : List Leaves → (List ℕ → Script) → Script
takes [] k = k []
takes (ls ∷ lss) k = take ls (λ r. takes lss (λ rs. k (r ∷ rs)))

-- the registers of these variables
abbrev pub gets_all : List ℕ → (List ℕ → Script) → Script
gets_all [] k = k []
gets_all (d ∷ ds) k = gets d (λ r. gets_all ds (λ rs. k (r ∷ rs)))
