-- What a rule of points-to says of data: the edges for which it stands, from node to node.
use Rattle.std.specs.Prelude.{◌≡◌, ℕ, ◌+◌, ◌<◌, Bool, true, false, List, [], Option, Some, None, length, slice_get}
use Rattle.argot_plain.specs.Code.{Code, IsAt, IsFunction, Hands, arguments, kind_of, param_of, takes_reference}
use Rattle.argot_plain.specs.Counts.{cleans}
use Rattle.argot_plain.specs.Lists.{In, member}
use Rattle.argot_plain.specs.declared.functions.Function.{Function}
use Rattle.argot_plain.specs.declared.instructions.Callee.{Callee}
use Rattle.argot_plain.specs.declared.instructions.Kind.{Kind}
use Rattle.argot_plain.specs.declared.instructions.Kind.TheVariants as kinds
use Rattle.argot_plain.specs.declared.problems.Problem.{Problem}
use Rattle.argot_text.specs.declared.path.PathStep.{PathStep}
use Rattle.argot_facts.specs.Numbers.{node, leaves_of}
use Rattle.argot_facts.specs.Pointing.{Pointing}
use Rattle.argot_facts.specs.declared.graphs.Edge.{Edge}
use Rattle.argot_facts.specs.declared.graphs.EdgeKind.{EdgeKind}
use Rattle.argot_facts.specs.declared.graphs.EdgeKind.TheVariants.{Plain, Call as Enters, Return as Returns, Reset}
use Rattle.argot_facts.specs.declared.nodes.Node.{Node}
use Rattle.argot_points_rules.specs.declared.rules.Rule.{Rule}
use Rattle.argot_points_rules.specs.declared.rules.Rule.TheVariants.{Copy, Shift, Keep, Load, Enter, Choose, Return}

-- the edge leads between the nodes of its numbers as R has it
pub record IsNumberedAs (ns : List Node) (R : Node → EdgeKind → Node → Type 0) (e : Edge) : Type 0 where
  pub from : Node
  pub to : Node
  pub is_from : slice_get ns e.from ≡ Some from
  pub is_to : slice_get ns e.to ≡ Some to
  pub row : R from e.kind to

-- just this edge
abbrev pub Just : Node → EdgeKind → Node → Node → EdgeKind → Node → Type 0
Just a kind b x k y = (x ≡ a) × (k ≡ kind) × (y ≡ b)

-- a Passed through a validator of the problem
abbrev pub is_barred : Problem → Option Kind → Bool
is_barred pr (Some (kinds.Passed to callee)) = member callee pr.validators
is_barred pr _ = false

-- what is handed on enters the target of a Call or Defer, and starts that of a Go
abbrev pub entering : Option Kind → ℕ → EdgeKind
entering (Some (kinds.Go callee args)) i = Reset
entering _ i = Enters i

-- the place is a Call, Go or Defer behind whose n results the handed values stand
pub record IsCallAt (p : Code) (i : ℕ) (callee : Callee) (args : List ℕ) (n : ℕ) : Type 0 where
  pub kind : Kind
  pub at : IsAt p i kind
  pub hands : Hands kind callee args n

-- the handed value k of the place i becomes, at the leaf with this path, the node b of a parameter of the function g
pub record Becomes (p : Code) (i g k : ℕ) (path : List PathStep) (b : Node) : Type 0 where
  pub callee : Callee
  pub args : List ℕ
  pub behind : ℕ
  pub call : IsCallAt p i callee args behind
  pub fn : Function
  pub is : IsFunction p g fn
  pub param : ℕ
  pub taken : param_of (takes_reference callee fn) (length (arguments callee args)) k ≡ Some param
  pub within : param < fn.params
  pub leaf : ℕ
  pub has : slice_get (leaves_of fn param) leaf ≡ Some path
  pub same : b ≡ node fn.entry param leaf

-- the node is what g, which has a body, hands back as its value k at the leaf with this path
pub record HandsBack (p : Code) (g k : ℕ) (path : List PathStep) (a : Node) : Type 0 where
  pub fn : Function
  pub is : IsFunction p g fn
  pub body : fn.external ≡ None
  pub from : List ℕ
  pub at : IsAt p fn.leave (kinds.Leave from)
  pub register : ℕ
  pub value : slice_get from k ≡ Some register
  pub leaf : ℕ
  pub has : slice_get (leaves_of fn register) leaf ≡ Some path
  pub same : a ≡ node fn.leave k leaf

module _ (p : Code) (x : Pointing) (pr : Problem) where
  -- data moves as it is in the live function h
  pub record Moving (h : ℕ) (source to : Node) (a : Node) (kind : EdgeKind) (b : Node) : Type 0 where
    pub live : In h x.live
    pub just : Just source Plain to a kind b

  -- the source is the handed value k of the place i at the leaf with this path, and enters each target
  pub record Entering (i k : ℕ) (path : List PathStep) (source : Node) (a : Node) (kind : EdgeKind) (b : Node) : Type 0 where
    pub target : ℕ
    pub listed : In (i, target) x.targets
    pub parameter : Node
    pub becomes : Becomes p i target k path parameter
    pub just : Just source (entering (kind_of (slice_get p.instrs i)) i) parameter a kind b

  -- `to` is the result k of the place i at the leaf with this path, and has what each target hands back that doesn't clean
  pub record Returning (i k : ℕ) (path : List PathStep) (to : Node) (a : Node) (kind : EdgeKind) (b : Node) : Type 0 where
    pub inside : i < length p.instrs
    pub target : ℕ
    pub listed : In (i, target) x.targets
    pub passes : cleans p pr i target ≡ false
    pub value : Node
    pub back : HandsBack p target k path value
    pub just : Just value (Returns i) to a kind b

  -- what finds the callee stands behind the results of the place as its handed value k, and has one leaf
  abbrev pub Choosing : ℕ → ℕ → Node → EdgeKind → Node → Type 0
  Choosing i k a kind b = (callee : Callee) × (args : List ℕ) × (n : ℕ) × IsCallAt p i callee args n × Entering i k [] (node i (n + k) 0) a kind b

  -- a copy goes on but through a validator; a Read takes the data of its reference, the elements of a Grow have none of it
  abbrev pub RuleRow : ℕ → Rule → Node → EdgeKind → Node → Type 0
  RuleRow h (Copy to source) a kind b = (is_barred pr (kind_of (slice_get p.instrs to.place)) ≡ false) × Moving h source to a kind b
  RuleRow h (Shift to source path) a kind b = Moving h source to a kind b
  RuleRow h (Keep to source target) a kind b = Moving h source to a kind b
  RuleRow h (Load to at path) a kind b = (to.index ≡ 0) × Moving h at to a kind b
  RuleRow h (Enter i by k path source) a kind b = Entering i k path source a kind b
  RuleRow h (Choose i by k) a kind b = Choosing i k a kind b
  RuleRow h (Return i by k path to) a kind b = Returning i k path to a kind b
  RuleRow h _ a kind b = ⊥
