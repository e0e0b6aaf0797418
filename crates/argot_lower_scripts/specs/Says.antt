-- Finished code, and what it means that a piece of it is what a script does.
use Rattle.std.specs.Prelude.{◌≡◌, ℕ, ◌+◌, nat_lt, true, false, List, [], map, Some, option_map, slice_get, slice_set, unwrap_or}
use Rattle.argot_plain.specs.Code.{Code, IsFunction}
use Rattle.argot_plain.specs.declared.functions.Function.{Function}
use Rattle.argot_plain.specs.declared.instructions.Callee.{Callee}
use Rattle.argot_plain.specs.declared.instructions.Callee.TheVariants.{Static}
use Rattle.argot_plain.specs.declared.instructions.Kind.{Kind}
use Rattle.argot_plain.specs.declared.instructions.Kind.TheVariants.{Call, Go, Defer, Goto, Branch, Passed}
use Rattle.argot_plain.specs.declared.instructions.Tag.{Tag}
use Rattle.argot_text.specs.declared.position.Pos.{Pos}
use Rattle.argot_lower_scripts.specs.Script.{Leaves, Task, SiteOf, Note, Script, done, take, emit, now, until, part, site, note, sets, gets}

-- finished code: the numbers of functions by their names, the places of labels, and what the program is asked for
pub record Finished : Type 0 where
  pub code : Code
  pub number : ℕ → ℕ
  pub places : List ℕ
  pub notes : List Note

-- how far a piece of code has come: the place, and the next label, register, site and note; and the register of each variable
pub record At : Type 0 where
  pub place : ℕ
  pub label : ℕ
  pub register : ℕ
  pub site : ℕ
  pub note : ℕ
  pub homes : List ℕ

abbrev pub place_of : Finished → ℕ → ℕ
place_of f label = unwrap_or (slice_get f.places label) 0

abbrev pub filled_callee : (ℕ → ℕ) → Callee → Callee
filled_callee number (Static g) = Static (number g)
filled_callee number callee = callee

-- the instruction with numbers for names and places for labels
abbrev pub filled_by : (ℕ → ℕ) → (ℕ → ℕ) → Kind → Kind
filled_by number places (Call to callee args) = Call to (filled_callee number callee) args
filled_by number places (Go callee args) = Go (filled_callee number callee) args
filled_by number places (Defer callee args) = Defer (filled_callee number callee) args
filled_by number places (Passed to callee) = Passed to (number callee)
filled_by number places (Goto target) = Goto (places target)
filled_by number places (Branch targets) = Branch (map places targets)
filled_by number places kind = kind

abbrev pub filled : Finished → Kind → Kind
filled f kind = filled_by f.number (place_of f) kind

-- the instruction stands at the place, filled
pub record Stands (f : Finished) (i : ℕ) (p : Pos) (tags : List Tag) (kind : Kind) : Type 0 where
  pub is : slice_get f.code.instrs i ≡ Some (record { kind = filled f kind; at = p; tags = tags })

pub record IsPlace (f : Finished) (label i : ℕ) : Type 0 where
  pub is : slice_get f.places label ≡ Some i

-- the register of the function number g has these leaves
pub record HasLeaves (f : Finished) (g r : ℕ) (ls : Leaves) : Type 0 where
  pub fn : Function
  pub is : IsFunction f.code g fn
  pub has : slice_get fn.registers r ≡ Some ls

-- the site of this number is one of the place
pub record HasSite (f : Finished) (n i : ℕ) (s : SiteOf) : Type 0 where
  pub is : slice_get f.code.sites n ≡ Some (record { place = i; result = s.result; leaf = s.leaf; shape = s.shape; dynamic = s.dynamic; function = option_map f.number s.function })

pub record HasNote (f : Finished) (n : ℕ) (o : Note) : Type 0 where
  pub is : slice_get f.notes n ≡ Some o

abbrev pub passed : At → At
passed a = record { place = a.place + 1; label = a.label; register = a.register; site = a.site; note = a.note; homes = a.homes }

abbrev pub labelled : At → At
labelled a = record { place = a.place; label = a.label + 1; register = a.register; site = a.site; note = a.note; homes = a.homes }

abbrev pub taken : At → At
taken a = record { place = a.place; label = a.label; register = a.register + 1; site = a.site; note = a.note; homes = a.homes }

abbrev pub sited : At → At
sited a = record { place = a.place; label = a.label; register = a.register; site = a.site + 1; note = a.note; homes = a.homes }

abbrev pub noted : At → At
noted a = record { place = a.place; label = a.label; register = a.register; site = a.site; note = a.note + 1; homes = a.homes }

abbrev pub settled : ℕ → ℕ → At → At
settled d r a = record { place = a.place; label = a.label; register = a.register; site = a.site; note = a.note; homes = slice_set a.homes d r }

-- the variable's register, 0 where it has none
abbrev pub home : ℕ → At → ℕ
home d a = unwrap_or (slice_get a.homes d) 0

-- in the function number g the code from one place up to another is what the script of the node n does, and these registers
-- are handed on. The rows give the script of each node for what is wanted of it
pub data Says (rows : Task → ℕ → Script) (f : Finished) (g : ℕ) : ℕ → Script → List ℕ → At → At → Type 0 where
  says_done : {n : ℕ} {rs : List ℕ} {a : At} → Says rows f g n (done rs) rs a a
  says_take : {n : ℕ} {ls : Leaves} {k : ℕ → Script} {rs : List ℕ} {a b : At} → HasLeaves f g a.register ls → Says rows f g n (k a.register) rs (taken a) b → Says rows f g n (take ls k) rs a b
  says_emit : {n : ℕ} {p : Pos} {tags : List Tag} {i : Kind} {c : Script} {rs : List ℕ} {a b : At} → Stands f a.place p tags i → Says rows f g n c rs (passed a) b → Says rows f g n (emit p tags i c) rs a b
  says_now : {n : ℕ} {k : ℕ → Script} {rs : List ℕ} {a b : At} → IsPlace f a.label a.place → Says rows f g n (k a.label) rs (labelled a) b → Says rows f g n (now k) rs a b
  says_until : {n : ℕ} {c : ℕ → Script} {k : List ℕ → Script} {qs rs : List ℕ} {a b d : At} → Says rows f g n (c a.label) qs (labelled a) d → IsPlace f a.label d.place → Says rows f g n (k qs) rs d b → Says rows f g n (until c k) rs a b
  says_part : {n m : ℕ} {task : Task} {k : List ℕ → Script} {qs rs : List ℕ} {a b d : At} → nat_lt n m ≡ true → Says rows f g m (rows task m) qs a d → Says rows f g n (k qs) rs d b → Says rows f g n (part task m k) rs a b
  -- a part that isn't below the node is left out; no tree has one
  says_stray : {n m : ℕ} {task : Task} {k : List ℕ → Script} {rs : List ℕ} {a b : At} → nat_lt n m ≡ false → Says rows f g n (k []) rs a b → Says rows f g n (part task m k) rs a b
  says_site : {n : ℕ} {s : SiteOf} {k : ℕ → Script} {rs : List ℕ} {a b : At} → HasSite f a.site a.place s → Says rows f g n (k a.site) rs (sited a) b → Says rows f g n (site s k) rs a b
  says_note : {n : ℕ} {o : Note} {c : Script} {rs : List ℕ} {a b : At} → HasNote f a.note o → Says rows f g n c rs (noted a) b → Says rows f g n (note o c) rs a b
  says_sets : {n d r : ℕ} {c : Script} {rs : List ℕ} {a b : At} → Says rows f g n c rs (settled d r a) b → Says rows f g n (sets d r c) rs a b
  says_gets : {n d : ℕ} {k : ℕ → Script} {rs : List ℕ} {a b : At} → Says rows f g n (k (home d a)) rs a b → Says rows f g n (gets d k) rs a b
