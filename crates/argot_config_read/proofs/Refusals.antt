-- Which pattern of several lists is refused, one list behind another.
use Rattle.std.proofs.Common.{ℕ, List, [], ◌∷◌, ◌++◌, inl, inr, Option}
use Rattle.argot_config_read.specs.declared.faults.ConfigFault.{ConfigFault}
use Rattle.argot_config_read.specs.declared.faults.ConfigFault.TheVariants.{NotJson, Key, Shape, BadPattern, PatternSize, Memory}
use Rattle.argot_config_read.specs.Patterns.{Placed, HaveReadings, AllRead, StopsAt, IsRefusal, Refuses}

stops_earlier : (a b : List Placed) (path text : List ℕ) → StopsAt a path text → StopsAt (a ++ b) path text
stops_earlier [] b path text h = absurd h
stops_earlier (p ∷ a) b path text h =
    elim h [ inl here ↦ inl here | inr there ↦ inr (there.0, stops_earlier a b path text there.1) ]

stops_later : (a b : List Placed) (path text : List ℕ) → AllRead a → StopsAt b path text → StopsAt (a ++ b) path text
stops_later [] b path text r h = h
stops_later (p ∷ a) b path text r h = inr (r.0, stops_later a b path text r.1 h)

all_read_both : (a b : List Placed) → AllRead a → AllRead b → AllRead (a ++ b)
all_read_both [] b r s = s
all_read_both (p ∷ a) b r s = (r.0, all_read_both a b r.1 s)

-- two lists that have readings
pub readings_both : (a b : List Placed) → HaveReadings a → HaveReadings b → HaveReadings (a ++ b)
readings_both a b r s = record { each = all_read_both a b r.each s.each }

pub readings_none : HaveReadings []
readings_none = record { each = tt }

refuses_earlier : (a b : List Placed) (before now : ℕ) (last : Option (List ℕ)) (e : ConfigFault) → Refuses a before now last e → Refuses (a ++ b) before now last e
refuses_earlier a b before now last NotJson h = h
refuses_earlier a b before now last (Key path) h = h
refuses_earlier a b before now last (Shape path) h = h
refuses_earlier a b before now last (BadPattern path) h = record { text = h.text; stops = stops_earlier a b path h.text h.stops; is_none = h.is_none }
refuses_earlier a b before now last (PatternSize path) h = record { text = h.text; stops = stops_earlier a b path h.text h.stops; rose = h.rose; is_last = h.is_last }
refuses_earlier a b before now last Memory h = h

refuses_later : (a b : List Placed) (before now : ℕ) (last : Option (List ℕ)) (e : ConfigFault) → AllRead a → Refuses b before now last e → Refuses (a ++ b) before now last e
refuses_later a b before now last NotJson r h = h
refuses_later a b before now last (Key path) r h = h
refuses_later a b before now last (Shape path) r h = h
refuses_later a b before now last (BadPattern path) r h = record { text = h.text; stops = stops_later a b path h.text r h.stops; is_none = h.is_none }
refuses_later a b before now last (PatternSize path) r h = record { text = h.text; stops = stops_later a b path h.text r h.stops; rose = h.rose; is_last = h.is_last }
refuses_later a b before now last Memory r h = h

-- a refusal in the first list
pub refusal_earlier : (a b : List Placed) (before now : ℕ) (last : Option (List ℕ)) (e : ConfigFault) → IsRefusal a before now last e → IsRefusal (a ++ b) before now last e
refusal_earlier a b before now last e h = record { cause = refuses_earlier a b before now last e h.cause }

-- a refusal behind a list that has readings
pub refusal_later : (a b : List Placed) (before now : ℕ) (last : Option (List ℕ)) (e : ConfigFault) → HaveReadings a → IsRefusal b before now last e → IsRefusal (a ++ b) before now last e
refusal_later a b before now last e r h = record { cause = refuses_later a b before now last e r.each h.cause }

-- want of memory is always a cause
pub refusal_memory : (ps : List Placed) (before now : ℕ) (last : Option (List ℕ)) → IsRefusal ps before now last Memory
refusal_memory ps before now last = record { cause = tt }

pub ruleset refusals = (refusal_earlier, refusal_later, refusal_memory, readings_both)
