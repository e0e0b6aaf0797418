-- Two finished codes have the same in a stretch: what stands at places, the places of labels, sites, notes, leaves of registers.
use Rattle.std.specs.Prelude.{ℕ, ◌<◌, ◌≤◌, List}
use Rattle.argot_plain.specs.declared.instructions.Kind.{Kind}
use Rattle.argot_plain.specs.declared.instructions.Tag.{Tag}
use Rattle.argot_text.specs.declared.position.Pos.{Pos}
use Rattle.argot_lower_scripts.specs.Script.{Leaves, SiteOf, Note}
use Rattle.argot_lower_scripts.specs.Says.{Finished, At, Stands, IsPlace, HasLeaves, HasSite, HasNote}

-- it holds of each number from one up to another
abbrev pub Between : (ℕ → Type 0) → ℕ → ℕ → Type 0
Between Holds low high = (i : ℕ) → low ≤ i → i < high → Holds i

-- the same instruction stands there in both, each with its own places of labels
pub record SameInstr (f g : Finished) (i : ℕ) : Type 0 where
  pub position : Pos
  pub tags : List Tag
  pub kind : Kind
  pub one : Stands f i position tags kind
  pub other : Stands g i position tags kind

pub record SamePlace (f g : Finished) (label : ℕ) : Type 0 where
  pub place : ℕ
  pub one : IsPlace f label place
  pub other : IsPlace g label place

pub record SameSite (f g : Finished) (n : ℕ) : Type 0 where
  pub place : ℕ
  pub site : SiteOf
  pub one : HasSite f n place site
  pub other : HasSite g n place site

pub record SameNote (f g : Finished) (n : ℕ) : Type 0 where
  pub note : Note
  pub one : HasNote f n note
  pub other : HasNote g n note

pub record SameLeaves (f g : Finished) (h r : ℕ) : Type 0 where
  pub leaves : Leaves
  pub one : HasLeaves f h r leaves
  pub other : HasLeaves g h r leaves

-- from one point of a function up to another
pub record Agrees (f g : Finished) (h : ℕ) (a b : At) : Type 0 where
  pub instrs : Between (SameInstr f g) a.place b.place
  pub places : Between (SamePlace f g) a.label b.label
  pub registers : Between (SameLeaves f g h) a.register b.register
  pub sites : Between (SameSite f g) a.site b.site
  pub notes : Between (SameNote f g) a.note b.note

-- nothing goes back
pub record Grows (a b : At) : Type 0 where
  pub place : a.place ≤ b.place
  pub label : a.label ≤ b.label
  pub register : a.register ≤ b.register
  pub site : a.site ≤ b.site
  pub note : a.note ≤ b.note
