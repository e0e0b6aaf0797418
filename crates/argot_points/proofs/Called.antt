-- The call at a place.
use Rattle.std.proofs.Common.{◌≡◌, ap, arith, None, ◌<◌, ◌^◌, Bool, false, ℕ, List, Some, length, refl, sym, ◌∙◌, subst}
use Rattle.argot_plain.specs.Code.{Code, IsAt, IsFunction, arguments, param_of, leaves, leaves_in, Hands, by_call, by_go, by_defer}
use Rattle.argot_plain.specs.declared.instructions.Callee.{Callee}
use Rattle.argot_plain.specs.declared.instructions.Kind.{Kind}
use Rattle.argot_plain.specs.declared.instructions.Kind.TheVariants.{Call, Go, Defer}
use Rattle.argot_plain.specs.declared.instructions.Callee.TheVariants.{Static, Value, Method}
use Rattle.argot_plain.specs.WellFormed.{WellFormed}
use Rattle.argot_plain.specs.declared.functions.Function.{Function}
use Rattle.argot_text.specs.declared.path.PathStep.{PathStep}
use Rattle.argot_facts.specs.declared.nodes.Node.{Node}
use Rattle.argot_facts.specs.Numbers.{leaves_of}
use Rattle.argot_points.specs.declared.system.System.{System}
use Rattle.argot_points.specs.Meaning.{IsCall, IsValued, IsDispatched, HasCallee, Means, Aimed, by_number, by_object, IsRow, IsReturned, IsHanded, IsLeafRow, MeansAt, by_value, by_method}

pub call_here : (p : Code) (i : ℕ) (kind : Kind) (to args : List ℕ) (callee : Callee) → IsAt p i kind → kind ≡ Call to callee args → IsCall p i callee args (length to)
call_here p i kind to args callee at e = record { kind = Call to callee args; is = subst (IsAt p i) e at; hands = by_call }

pub go_here : (p : Code) (i : ℕ) (kind : Kind) (args : List ℕ) (callee : Callee) → IsAt p i kind → kind ≡ Go callee args → IsCall p i callee args 0
go_here p i kind args callee at e = record { kind = Go callee args; is = subst (IsAt p i) e at; hands = by_go }

pub defer_here : (p : Code) (i : ℕ) (kind : Kind) (args : List ℕ) (callee : Callee) → IsAt p i kind → kind ≡ Defer callee args → IsCall p i callee args 0
defer_here p i kind args callee at e = record { kind = Defer callee args; is = subst (IsAt p i) e at; hands = by_defer }

same_kind : (p : Code) (i : ℕ) (a b : Kind) → IsAt p i a → IsAt p i b → a ≡ b
same_kind p i a b h k = let e : Some a ≡ Some b = sym h ∙ k in cc

pub no_call : (p : Code) (i : ℕ) (kind : Kind) → IsAt p i kind → ((to args : List ℕ) (callee : Callee) → kind ≡ Call to callee args → ⊥) → ((args : List ℕ) (callee : Callee) → kind ≡ Go callee args → ⊥)
    → ((args : List ℕ) (callee : Callee) → kind ≡ Defer callee args → ⊥) → (callee : Callee) (args : List ℕ) (n : ℕ) → IsCall p i callee args n → ⊥
no_call p i kind at c g d callee args n h = split callee args n h.is h.hands
  where
    split : {k : Kind} (callee : Callee) (args : List ℕ) (n : ℕ) → IsAt p i k → Hands k callee args n → ⊥
    split callee args n is (by_call {to = to}) = c to args callee (same_kind p i kind (Call to callee args) at is)
    split callee args n is by_go = g args callee (same_kind p i kind (Go callee args) at is)
    split callee args n is by_defer = d args callee (same_kind p i kind (Defer callee args) at is)

-- what a callee means, by its form
pub value_means : (s : System) (site g r : ℕ) (takes : Bool) (callee : Callee) → callee ≡ Value r → IsValued s site g takes → MeansAt s site callee g takes
value_means s site g r takes callee e v = subst (λ x. MeansAt s site x g takes) (sym e) (by_value r v)

pub value_only : (s : System) (site g r : ℕ) (takes : Bool) (callee : Callee) → callee ≡ Value r → MeansAt s site callee g takes → IsValued s site g takes
value_only s site g r takes callee e m = only (subst (λ x. MeansAt s site x g takes) e m)
  where
    only : MeansAt s site (Value r) g takes → IsValued s site g takes
    only (by_value r v) = v

pub method_means : (s : System) (site g r : ℕ) (name : List ℕ) (callee : Callee) → callee ≡ Method r name → IsDispatched s site name g → MeansAt s site callee g false
method_means s site g r name callee e d = subst (λ x. MeansAt s site x g false) (sym e) (by_method r name d)

pub method_only : (s : System) (site g r : ℕ) (name : List ℕ) (takes : Bool) (callee : Callee) → callee ≡ Method r name → MeansAt s site callee g takes → IsDispatched s site name g × (takes ≡ false)
method_only s site g r name takes callee e m = only (subst (λ x. MeansAt s site x g takes) e m)
  where
    only : {t : Bool} → MeansAt s site (Method r name) g t → IsDispatched s site name g × (t ≡ false)
    only (by_method r name d) = (d, refl)

pub number_means_none : (s : System) (site g h : ℕ) (takes : Bool) (callee : Callee) → callee ≡ Static h → MeansAt s site callee g takes → ⊥
number_means_none s site g h takes callee e m = never (subst (λ x. MeansAt s site x g takes) e m)
  where
    never : MeansAt s site (Static h) g takes → ⊥
    never m = elim m [ ]

pub taken_arguments : (callee x : Callee) (args y : List ℕ) (n : ℕ) → callee ≡ x → args ≡ y → n ≡ length (arguments x y) → length (arguments callee args) ≡ n
taken_arguments callee x args y n e f g = ap (λ c. length (arguments c args)) e ∙ ap (λ a. length (arguments x a)) f ∙ sym g

pub one_param : (takes : Bool) (index a b k j : ℕ) → a ≡ b → param_of takes a index ≡ Some k → param_of takes b index ≡ Some j → k ≡ j
one_param takes index a b k j e h g = let z : Some k ≡ Some j = sym h ∙ ap (λ n. param_of takes n index) e ∙ g in cc

same_function : (p : Code) (g : ℕ) (a b : Function) → IsFunction p g a → IsFunction p g b → a ≡ b
same_function p g a b h k = let e = sym h ∙ k in cc

pub few_leaves : (p : Code) → WellFormed p → (g r : ℕ) (fn : Function) → IsFunction p g fn → length (leaves_of fn r) < 2 ^ 32
few_leaves p wf g r fn is = let e : leaves p g r ≡ leaves_of fn r = ap (λ o. leaves_in o r) is in omega (arith, wf.limits.leaves g r, ap length e)

-- what is handed back, where the function is known
pub handed_row : (s : System) (g k q m : ℕ) (path : List PathStep) (fn : Function) → IsReturned s g k q → IsFunction s.program.now g fn → fn.external ≡ None → IsLeafRow s fn.leave k (leaves_of fn q) path m → IsHanded s g k path m
handed_row s g k q m path fn r is body row =
    let e : fn ≡ r.fn = same_function s.program.now g fn r.fn is r.is in
    record { register = q; returned = r; body = subst (λ (f : Function). f.external ≡ None) e body; row = subst (λ (f : Function). IsLeafRow s f.leave k (leaves_of f q) path m) e row }

pub handed_is : (s : System) (g k q m : ℕ) (path : List PathStep) (fn : Function) → (h : IsHanded s g k path m) → IsFunction s.program.now g fn → h.register ≡ q → IsLeafRow s fn.leave k (leaves_of fn q) path m
handed_is s g k q m path fn h is e =
    let f : h.returned.fn ≡ fn = same_function s.program.now g h.returned.fn fn h.returned.is is in
    subst (λ (c : Function). IsLeafRow s c.leave k (leaves_of c q) path m) f (subst (λ c. IsLeafRow s h.returned.fn.leave k (leaves_of h.returned.fn c) path m) e h.row)

pub handed_body : (s : System) (g k m : ℕ) (path : List PathStep) (fn : Function) → (h : IsHanded s g k path m) → IsFunction s.program.now g fn → fn.external ≡ None
handed_body s g k m path fn h is = subst (λ (c : Function). c.external ≡ None) (same_function s.program.now g h.returned.fn fn h.returned.is is) h.body

-- the targets of a place, by the form of its callee
module _ (s : System) (R : ℕ → ℕ → Type 0) (i : ℕ) (by : Node) (callee : Callee) (alone : (other : Callee) (args : List ℕ) (n : ℕ) → IsCall s.program.now i other args n → other ≡ callee) where
  pub number_aim : (g h : ℕ) (takes : Bool) → callee ≡ Static h → Aimed s R i by g takes → (g ≡ h) × (takes ≡ false)
  number_aim g h takes e (by_number args n call) = let f : Static g ≡ Static h = alone (Static g) args n call ∙ e in (cc, refl)
  number_aim g h takes e (by_object other args n row y call is r means) = absurd (number_means_none s means.loc.site g h takes other (alone other args n call ∙ e) means.means)

  pub object_aim : (g : ℕ) (takes : Bool) → ((h : ℕ) → callee ≡ Static h → ⊥) → Aimed s R i by g takes → (row : ℕ) × (y : ℕ) × IsRow s row by × R row y × Means s callee y g takes
  object_aim g takes other_form (by_number args n call) = absurd (other_form g (sym (alone (Static g) args n call)))
  object_aim g takes other_form (by_object other args n row y call is r means) = (row, y, is, r, subst (λ c. Means s c y g takes) (alone other args n call) means)

pub aim_number : (s : System) (R : ℕ → ℕ → Type 0) (i : ℕ) (by : Node) (callee : Callee) (h : ℕ) → callee ≡ Static h → HasCallee s.program.now i callee → Aimed s R i by h false
aim_number s R i by callee h e c = by_number c.args c.behind (subst (λ x. IsCall s.program.now i x c.args c.behind) e c.call)

pub aim_object : (s : System) (R : ℕ → ℕ → Type 0) (i : ℕ) (by : Node) (callee : Callee) (row y g : ℕ) (takes : Bool) → HasCallee s.program.now i callee → IsRow s row by → R row y → Means s callee y g takes → Aimed s R i by g takes
aim_object s R i by callee row y g takes c is r means = by_object callee c.args c.behind row y c.call is r means

pub never_aimed : (s : System) (R : ℕ → ℕ → Type 0) (i : ℕ) (by : Node) (g : ℕ) (takes : Bool) → ((other : Callee) (args : List ℕ) (n : ℕ) → IsCall s.program.now i other args n → ⊥) → Aimed s R i by g takes → ⊥
never_aimed s R i by g takes none (by_number args n call) = none (Static g) args n call
never_aimed s R i by g takes none (by_object other args n row y call is r means) = none other args n call
