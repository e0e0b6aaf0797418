-- What nodes and locations refer to, which functions are live, and the targets of calls.
use Rattle.std.specs.Prelude.{◌≡◌, ℕ, ◌+◌, ◌<◌, Bool, true, false, List, [], ◌++◌, Some, None, length, slice_get}
use Rattle.argot_plain.specs.Lists.{In}
use Rattle.argot_plain.specs.Code.{Code, IsAt, IsFunction, IsIn, IsSiteOf, Hands, GoesTo, arguments, element_leaves, param_of}
use Rattle.argot_plain.specs.Machine.{is_path_of, is_of_type, element}
use Rattle.argot_plain.specs.Nodes.{Mark, mark, IsNode}
use Rattle.argot_plain.specs.Outside.{IsResultSite}
use Rattle.argot_plain.specs.declared.functions.Function.{Function}
use Rattle.argot_plain.specs.declared.functions.Ident.{Ident}
use Rattle.argot_plain.specs.declared.instructions.Callee.{Callee}
use Rattle.argot_plain.specs.declared.instructions.Callee.TheVariants.{Static, Value, Method}
use Rattle.argot_plain.specs.declared.instructions.Kind.{Kind}
use Rattle.argot_plain.specs.declared.instructions.Kind.TheVariants.{New, Step, Read, Write, Grow, Global, Assert, Call}
use Rattle.argot_plain.specs.declared.sites.Site.{Site}
use Rattle.argot_text.specs.declared.position.Pos.{Pos}
use Rattle.argot_text.specs.declared.path.PathStep.{PathStep}
use Rattle.argot_facts.specs.Copies.{Copies}
use Rattle.argot_facts.specs.Reaching.{DefinedAt}

-- a site and a path
pub record Location : Type 0 where
  pub site : ℕ
  pub path : List PathStep

abbrev pub loc : ℕ → List PathStep → Location
loc site path = record { site = site; path = path }

pub data Fact : Type 0 where
  IsLive : (h : ℕ) → Fact
  -- the function is a target of the place i, and takes the reference as its first parameter or doesn't
  Targets : (i target : ℕ) → (takes : Bool) → Fact
  NodeRefers : (n : Mark) → (to : Location) → Fact
  PlaceRefers : (at : Location) → (to : Location) → Fact

-- The least relations with these rules, which speak of the places of live functions; locations have paths of their site.
-- Above each rule stands its inclusion. There `to` is what the instruction defines, `r at q` what the definitions of the
-- register r that reach the place refer to at the leaf q, `*r.q` what the locations to which r refers hold at q, (i, k) the
-- node of the place i with the index k, and s.q the location of the site s at the path q
pub data Holds (p : Code) : Fact → Type 0 where
  -- live functions ⊇ {the entry} ∪ targets
  entry_is_live : Holds p (IsLive 0)
  target_is_live : {target : ℕ} → (i : ℕ) → (takes : Bool)
      → Holds p (Targets i target takes)
      → Holds p (IsLive target)
  -- targets ⊇ {target}, for a callee by number
  target_static : {i target : ℕ} → (h n : ℕ) → (kind : Kind) → (args : List ℕ)
      → IsIn p i h
      → Holds p (IsLive h)
      → IsAt p i kind
      → Hands kind (Static target) args n
      → Holds p (Targets i target false)
  -- targets ⊇ {the function of s | s.path ∈ r}, for the function value in r; it takes the reference where it has captures
  -- or a bound receiver
  target_value : {i target : ℕ} {takes : Bool}
      → (h n d j r s : ℕ) → (path : List PathStep) → (kind : Kind) → (args : List ℕ) → (site : Site) → (fn : Function)
      → IsIn p i h
      → Holds p (IsLive h)
      → IsAt p i kind
      → Hands kind (Value r) args n
      → DefinedAt p d j r i
      → Holds p (NodeRefers (mark d j []) (loc s path))
      → slice_get p.sites s ≡ Some site
      → site.function ≡ Some target
      → IsFunction p target fn
      → takes ≡ fn.has_env
      → Holds p (Targets i target takes)
  -- targets ⊇ {the wrapper of the type of s under the name | s.path ∈ r}, for a method of the box in r
  target_method : {i target : ℕ}
      → (h n d j r s : ℕ) → (name : List ℕ) → (path : List PathStep) → (kind : Kind) → (args : List ℕ) → (site : Site)
      → IsIn p i h
      → Holds p (IsLive h)
      → IsAt p i kind
      → Hands kind (Method r name) args n
      → DefinedAt p d j r i
      → Holds p (NodeRefers (mark d j []) (loc s path))
      → slice_get p.sites s ≡ Some site
      → In (site.dynamic, name, target) p.methods
      → Holds p (Targets i target false)
  -- (i, k) at q' ⊇ r at q, for Move, Join, the value of a Write, the reference and the items of a Grow, handed values,
  -- Leave and Passed
  copy : {i k : ℕ} {q' : List PathStep} {x : Location} → (h d j r : ℕ) → (q : List PathStep) → (kind : Kind)
      → IsIn p i h
      → Holds p (IsLive h)
      → IsAt p i kind
      → Copies kind r q k q'
      → DefinedAt p d j r i
      → Holds p (NodeRefers (mark d j q) x)
      → Holds p (NodeRefers (mark i k q') x)
  -- to ⊇ {s}
  new : {i s : ℕ} → (to h : ℕ)
      → IsIn p i h
      → Holds p (IsLive h)
      → IsAt p i (New to s)
      → Holds p (NodeRefers (mark i 0 []) (loc s []))
  -- to ⊇ {s.base.path | s.base ∈ from}
  step : {i s : ℕ} {base path : List PathStep} → (h d j to from : ℕ)
      → IsIn p i h
      → Holds p (IsLive h)
      → IsAt p i (Step to from path)
      → DefinedAt p d j from i
      → Holds p (NodeRefers (mark d j []) (loc s base))
      → is_path_of p s (base ++ path) ≡ true
      → Holds p (NodeRefers (mark i 0 []) (loc s (base ++ path)))
  -- to at q ⊇ *at.q
  read : {i : ℕ} {q : List PathStep} {x : Location}
      → (h d j s to at : ℕ) → (base : List PathStep) → (qs : List (List PathStep))
      → IsIn p i h
      → Holds p (IsLive h)
      → IsAt p i (Read to at qs)
      → DefinedAt p d j at i
      → Holds p (NodeRefers (mark d j []) (loc s base))
      → In q qs
      → is_path_of p s (base ++ q) ≡ true
      → Holds p (PlaceRefers (loc s (base ++ q)) x)
      → Holds p (NodeRefers (mark i 0 q) x)
  -- *at.q ⊇ from at q, which stands at the node (i, 0)
  write : {s : ℕ} {base q : List PathStep} {x : Location} → (i h d j at from : ℕ)
      → IsIn p i h
      → Holds p (IsLive h)
      → IsAt p i (Write at from)
      → DefinedAt p d j at i
      → Holds p (NodeRefers (mark d j []) (loc s base))
      → is_path_of p s (base ++ q) ≡ true
      → Holds p (NodeRefers (mark i 0 q) x)
      → Holds p (PlaceRefers (loc s (base ++ q)) x)
  -- to ⊇ {the site of the Grow}
  grow_fresh : {i s : ℕ} → (h to at : ℕ) → (items : List ℕ) → (site : Site)
      → IsIn p i h
      → Holds p (IsLive h)
      → IsAt p i (Grow to at items)
      → IsSiteOf p i s site
      → Holds p (NodeRefers (mark i 0 []) (loc s []))
  -- (i, 2) at q ⊇ *at.[].q: the elements that it copies
  grow_read : {i : ℕ} {q : List PathStep} {x : Location}
      → (h d j s n to at : ℕ) → (base : List PathStep) → (items : List ℕ) → (site : Site)
      → IsIn p i h
      → Holds p (IsLive h)
      → IsAt p i (Grow to at items)
      → IsSiteOf p i n site
      → DefinedAt p d j at i
      → Holds p (NodeRefers (mark d j []) (loc s base))
      → In q (element_leaves site)
      → is_path_of p s (element base q) ≡ true
      → Holds p (PlaceRefers (loc s (element base q)) x)
      → Holds p (NodeRefers (mark i 2 q) x)
  -- (i, 1) at q ⊇ (i, 2) at q: they stand with the items
  grow_copy : {i : ℕ} {q : List PathStep} {x : Location} → (h to at : ℕ) → (items : List ℕ)
      → IsIn p i h
      → Holds p (IsLive h)
      → IsAt p i (Grow to at items)
      → Holds p (NodeRefers (mark i 2 q) x)
      → Holds p (NodeRefers (mark i 1 q) x)
  -- *to.[].q ⊇ (i, 1) at q: all that is put
  grow_write : {s : ℕ} {base q : List PathStep} {x : Location} → (i h to at : ℕ) → (items : List ℕ)
      → IsIn p i h
      → Holds p (IsLive h)
      → IsAt p i (Grow to at items)
      → Holds p (NodeRefers (mark i 0 []) (loc s base))
      → is_path_of p s (element base q) ≡ true
      → Holds p (NodeRefers (mark i 1 q) x)
      → Holds p (PlaceRefers (loc s (element base q)) x)
  -- to ⊇ {the site of the package variable}
  global : {i s : ℕ} → (h to k : ℕ) → (ident : Ident) → (at : Pos)
      → IsIn p i h
      → Holds p (IsLive h)
      → IsAt p i (Global to k)
      → slice_get p.globals k ≡ Some (ident, at, s)
      → Holds p (NodeRefers (mark i 0 []) (loc s []))
  -- to ⊇ {s.path ∈ from | the type of s is or implements the target}
  assert : {i s : ℕ} {path : List PathStep} → (h d j to from target : ℕ)
      → IsIn p i h
      → Holds p (IsLive h)
      → IsAt p i (Assert to from target)
      → DefinedAt p d j from i
      → Holds p (NodeRefers (mark d j []) (loc s path))
      → is_of_type p target (slice_get p.sites s) ≡ true
      → Holds p (NodeRefers (mark i 0 []) (loc s path))
  -- parameter j of a target at q ⊇ handed value k at q. Of the value by which the callee is found, a target is handed
  -- what selects it: a wrapper the boxes of its type, a function the references to objects that stand for it
  param : {e j : ℕ} {q : List PathStep} {x : Location}
      → (i target n k : ℕ) → (takes : Bool) → (kind : Kind) → (callee : Callee) → (args : List ℕ) → (fn : Function)
      → IsAt p i kind
      → Hands kind callee args n
      → Holds p (Targets i target takes)
      → param_of takes (length (arguments callee args)) k ≡ Some j
      → GoesTo p callee args k x.site target
      → IsFunction p target fn
      → e ≡ fn.entry
      → IsNode p (mark e j q)
      → Holds p (NodeRefers (mark i (n + k) q) x)
      → Holds p (NodeRefers (mark e j q) x)
  -- result k at q ⊇ what the Leave of a target hands back as k at q
  result : {i k : ℕ} {q : List PathStep} {x : Location}
      → (target : ℕ) → (takes : Bool) → (to args : List ℕ) → (callee : Callee) → (fn : Function)
      → IsAt p i (Call to callee args)
      → Holds p (Targets i target takes)
      → IsFunction p target fn
      → fn.external ≡ None
      → k < length to
      → IsNode p (mark i k q)
      → Holds p (NodeRefers (mark fn.leave k q) x)
      → Holds p (NodeRefers (mark i k q) x)
  -- result k at q ⊇ {the site of that leaf}, where a target is an external
  fresh_result : {i k s : ℕ} {q : List PathStep}
      → (h target t : ℕ) → (takes flows : Bool) → (to args : List ℕ) → (callee : Callee) → (fn : Function)
      → IsIn p i h
      → IsAt p i (Call to callee args)
      → Holds p (Targets i target takes)
      → IsFunction p target fn
      → fn.external ≡ Some flows
      → slice_get to k ≡ Some t
      → IsResultSite p h i k t q s
      → Holds p (NodeRefers (mark i k q) (loc s []))

-- the place i is one of a function that these facts have as live
pub record IsLivePlaceIn (p : Code) (F : Fact → Type 0) (i : ℕ) : Type 0 where
  pub function : ℕ
  pub is_in : IsIn p i function
  pub is_live : F (IsLive function)

-- the place i is one of a live function
abbrev pub IsLivePlace : Code → ℕ → Type 0
IsLivePlace p = IsLivePlaceIn p (Holds p)
