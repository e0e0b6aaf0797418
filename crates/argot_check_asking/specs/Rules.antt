-- Rules as data: a rule asks rows of a table for their facts, in stages, and says a fact of its own in the end. Nothing
-- here knows what a row or a fact is.
use Rattle.std.specs.Prelude.{◌≡◌, Bool, true, List, [], ◌∷◌, ◌++◌, Option, Some, None, if◌then◌else◌}

pub data Rule (R F : Type 0) : Type 0 where
  -- it says nothing
  Silent : Rule R F
  -- it says this fact
  Say : F → Rule R F
  -- it asks one row, two at once, a row if there is one, or several at once, and goes on by their facts
  Ask : R → (F → Rule R F) → Rule R F
  AskBoth : R → R → (F → F → Rule R F) → Rule R F
  AskMaybe : Option R → (Option F → Rule R F) → Rule R F
  AskAll : List R → (List F → Rule R F) → Rule R F

-- what stands in an option, handed on
abbrev pub bind : {A B : Type 0} → Option A → (A → Option B) → Option B
bind None k = None
bind (Some x) k = k x

-- a fact where it is one that others may be built on
abbrev pub only : {F : Type 0} → (F → Bool) → Option F → Option F
only typed o = bind o (λ f. if typed f then Some f else None)

module _ {R F : Type 0} where
  -- the fact of a row, where there is one to ask
  abbrev pub maybe_known : (R → Option F) → Option R → Option (Option F)
  maybe_known known None = Some None
  maybe_known known (Some x) = bind (known x) (λ f. Some (Some f))

  -- the facts of several rows, where each is known
  abbrev pub all_known : (R → Option F) → List R → Option (List F)
  all_known known [] = Some []
  all_known known (x ∷ xs) = bind (known x) (λ f. bind (all_known known xs) (λ fs. Some (f ∷ fs)))

  -- what a rule says from what is known; nothing where something that it asks for isn't
  abbrev pub told : (R → Option F) → Rule R F → Option F
  told known Silent = None
  told known (Say f) = Some f
  told known (Ask x k) = bind (known x) (λ f. told known (k f))
  told known (AskBoth x y k) = bind (known x) (λ f. bind (known y) (λ g. told known (k f g)))
  told known (AskMaybe x k) = bind (maybe_known known x) (λ a. told known (k a))
  told known (AskAll xs k) = bind (all_known known xs) (λ fs. told known (k fs))

  -- a rule that goes on by what another one says
  abbrev pub behind : Rule R F → (F → Rule R F) → Rule R F
  behind Silent next = Silent
  behind (Say f) next = next f
  behind (Ask x k) next = Ask x (λ f. behind (k f) next)
  behind (AskBoth x y k) next = AskBoth x y (λ f g. behind (k f g) next)
  behind (AskMaybe x k) next = AskMaybe x (λ a. behind (k a) next)
  behind (AskAll xs k) next = AskAll xs (λ fs. behind (k fs) next)

-- asks by a recursion: each of several things in turn, handing on all that was found
module _ {A B : Type 0} where
  abbrev pub each : {R F : Type 0} → (A → (List B → Rule R F) → Rule R F) → List A → (List B → Rule R F) → Rule R F
  each ask [] k = k []
  each ask (x ∷ xs) k = ask x (λ bs. each ask xs (λ cs. k (bs ++ cs)))

-- What the rules say is the least relation that is closed under them: `typed` tells which facts others may be built on.
mutual
  -- the rule of the row says this of it
  pub data Says {R F : Type 0} (typed : F → Bool) (rules : R → Rule R F) : R → F → Type 0 where
    says : {n : R} {r : Rule R F} {f : F} → rules n ≡ r → Comes typed rules r f → Says typed rules n f

  -- and others may build on it
  pub data Typed {R F : Type 0} (typed : F → Bool) (rules : R → Rule R F) : R → F → Type 0 where
    is_typed : {n : R} {f : F} → Says typed rules n f → typed f ≡ true → Typed typed rules n f

  -- a rule comes to a fact, where each row that it asks is typed
  pub data Comes {R F : Type 0} (typed : F → Bool) (rules : R → Rule R F) : Rule R F → F → Type 0 where
    by_saying : {f : F} → Comes typed rules (Say f) f
    by_one : {x : R} {k : F → Rule R F} {f g : F} → Typed typed rules x f → Comes typed rules (k f) g → Comes typed rules (Ask x k) g
    by_both : {x y : R} {k : F → F → Rule R F} {f g h : F} → Typed typed rules x f → Typed typed rules y g → Comes typed rules (k f g) h → Comes typed rules (AskBoth x y k) h
    by_none : {k : Option F → Rule R F} {g : F} → Comes typed rules (k None) g → Comes typed rules (AskMaybe None k) g
    by_some : {x : R} {k : Option F → Rule R F} {f g : F} → Typed typed rules x f → Comes typed rules (k (Some f)) g → Comes typed rules (AskMaybe (Some x) k) g
    by_all : {xs : List R} {k : List F → Rule R F} {fs : List F} {g : F} → AllTyped typed rules xs fs → Comes typed rules (k fs) g → Comes typed rules (AskAll xs k) g

  -- each of several rows is typed
  pub data AllTyped {R F : Type 0} (typed : F → Bool) (rules : R → Rule R F) : List R → List F → Type 0 where
    none : AllTyped typed rules [] []
    more : {x : R} {xs : List R} {f : F} {fs : List F} → Typed typed rules x f → AllTyped typed rules xs fs → AllTyped typed rules (x ∷ xs) (f ∷ fs)
