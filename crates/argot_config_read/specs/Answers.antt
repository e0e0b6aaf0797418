-- What the reading of a configuration answers.
use Rattle.std.specs.Prelude.{◌≡◌, ℕ, List, [], IsUtf8, Option, Some, slice_get}
use Rattle.serde_json.specs.Data.{Data}
use Rattle.serde_json.specs.Read as json
use Rattle.argot_config_read.specs.declared.config.Config.{Config}
use Rattle.argot_config_read.specs.declared.faults.ConfigFault.{ConfigFault}
use Rattle.argot_config_read.specs.declared.faults.ConfigFault.TheVariants.{NotJson, Key, Shape, BadPattern, PatternSize, Memory}
use Rattle.argot_config_read.specs.Built.{IsConfigOf}
use Rattle.argot_config_read.specs.Patterns.{HaveReadings, IsRefusal, patterns_of}
use Rattle.argot_config_read.specs.Table.{faults_of}
use Rattle.argot_config_read.specs.Wanted.{wanted}

-- the bytes are UTF-8 and a JSON text of this value
pub record IsJson (bytes : List ℕ) (d : Data) : Type 0 where
  pub utf8 : IsUtf8 bytes
  pub reads : json.read bytes ≡ Some d

-- the bytes are JSON without a fault, each pattern has a reading, and the configuration says what they say
pub record IsReading (bytes : List ℕ) (c : Config) : Type 0 where
  pub value : Data
  pub is_json : IsJson bytes value
  pub faultless : faults_of value ≡ []
  pub readings : HaveReadings (patterns_of (wanted value))
  pub built : IsConfigOf (wanted value) c

-- the bytes are JSON, and this is its first fault
pub record IsFirstFault (bytes : List ℕ) (e : ConfigFault) : Type 0 where
  pub value : Data
  pub is_json : IsJson bytes value
  pub is_first : slice_get (faults_of value) 0 ≡ Some e

-- the bytes are JSON without a fault, and this is why its patterns aren't all made
pub record IsStopped (bytes : List ℕ) (before : ℕ) (now : ℕ) (last : Option (List ℕ)) (e : ConfigFault) : Type 0 where
  pub value : Data
  pub is_json : IsJson bytes value
  pub faultless : faults_of value ≡ []
  pub is_refusal : IsRefusal (patterns_of (wanted value)) before now last e

-- why a reading is refused, with the maker's count of refusals and the text that it refused last
abbrev pub HasCause : List ℕ → ℕ → ℕ → Option (List ℕ) → ConfigFault → Type 0
HasCause bytes before now last NotJson = (d : Data) → IsJson bytes d → ⊥
HasCause bytes before now last (Key path) = IsFirstFault bytes (Key path)
HasCause bytes before now last (Shape path) = IsFirstFault bytes (Shape path)
HasCause bytes before now last (BadPattern path) = IsStopped bytes before now last (BadPattern path)
HasCause bytes before now last (PatternSize path) = IsStopped bytes before now last (PatternSize path)
HasCause bytes before now last Memory = Unit {0}
