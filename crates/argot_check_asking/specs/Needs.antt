-- What a row needs: the rows that its rule asks on its way.
use Rattle.std.specs.Prelude.{◌≡◌, Bool, List, ◌∷◌, Option, Some, None}
use Rattle.argot_check_asking.specs.Rules.{Rule, Say, Ask, AskBoth, AskMaybe, AskAll, Typed, AllTyped}

pub data Among {R : Type 0} : List R → R → Type 0 where
  here : {x : R} {xs : List R} → Among (x ∷ xs) x
  there : {x y : R} {xs : List R} → Among xs y → Among (x ∷ xs) y

-- the rows that a rule asks where all that it asked before is typed. What it asks at once counts as asked, also where
-- another row of the same stage has no fact
pub data Wants {R F : Type 0} (typed : F → Bool) (rules : R → Rule R F) : Rule R F → R → Type 0 where
  one : {x : R} {k : F → Rule R F} → Wants typed rules (Ask x k) x
  behind_one : {x m : R} {k : F → Rule R F} {f : F} → Typed typed rules x f → Wants typed rules (k f) m → Wants typed rules (Ask x k) m
  left : {x y : R} {k : F → F → Rule R F} → Wants typed rules (AskBoth x y k) x
  right : {x y : R} {k : F → F → Rule R F} → Wants typed rules (AskBoth x y k) y
  behind_both : {x y m : R} {k : F → F → Rule R F} {f g : F} → Typed typed rules x f → Typed typed rules y g → Wants typed rules (k f g) m → Wants typed rules (AskBoth x y k) m
  perhaps : {x : R} {k : Option F → Rule R F} → Wants typed rules (AskMaybe (Some x) k) x
  behind_none : {m : R} {k : Option F → Rule R F} → Wants typed rules (k None) m → Wants typed rules (AskMaybe None k) m
  behind_some : {x m : R} {k : Option F → Rule R F} {f : F} → Typed typed rules x f → Wants typed rules (k (Some f)) m → Wants typed rules (AskMaybe (Some x) k) m
  some : {xs : List R} {m : R} {k : List F → Rule R F} → Among xs m → Wants typed rules (AskAll xs k) m
  behind_all : {xs : List R} {m : R} {k : List F → Rule R F} {fs : List F} → AllTyped typed rules xs fs → Wants typed rules (k fs) m → Wants typed rules (AskAll xs k) m

module _ {R F : Type 0} (typed : F → Bool) (rules : R → Rule R F) where
  abbrev pub Needs : R → R → Type 0
  Needs n m = Wants typed rules (rules n) m

-- one step or more
pub data Chain {R : Type 0} (Step : R → R → Type 0) : R → R → Type 0 where
  at_once : {n m : R} → Step n m → Chain Step n m
  through : {n k m : R} → Step n k → Chain Step k m → Chain Step n m

-- none or more
pub data Way {R : Type 0} (Step : R → R → Type 0) : R → R → Type 0 where
  stay : {n : R} → Way Step n n
  onward : {n k m : R} → Step n k → Way Step k m → Way Step n m

-- a rule that says something in the end, whatever it is told
pub data IsLoud {R F : Type 0} : Rule R F → Type 0 where
  says : {f : F} → IsLoud (Say f)
  asks_one : {x : R} {k : F → Rule R F} → ((f : F) → IsLoud (k f)) → IsLoud (Ask x k)
  asks_both : {x y : R} {k : F → F → Rule R F} → ((f g : F) → IsLoud (k f g)) → IsLoud (AskBoth x y k)
  asks_maybe : {x : Option R} {k : Option F → Rule R F} → ((a : Option F) → IsLoud (k a)) → IsLoud (AskMaybe x k)
  asks_all : {xs : List R} {k : List F → Rule R F} → ((fs : List F) → IsLoud (k fs)) → IsLoud (AskAll xs k)

-- a row that a rule asks, and of which nothing is known
pub record Lacks {R F : Type 0} (typed : F → Bool) (rules : R → Rule R F) (known : R → Option F) (r : Rule R F) : Type 0 where
  pub row : R
  pub wants : Wants typed rules r row
  pub unknown : known row ≡ None
