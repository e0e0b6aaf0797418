-- An instruction hands on in one way, and a target takes the reference there or doesn't.
use Rattle.std.proofs.Common.{◌≡◌, ℕ, Bool, List, Some, length, refl, sym, ap, ◌∙◌, subst}
use Rattle.argot_plain.specs.Code.{Code, IsAt, Hands, by_call, by_go, by_defer, takes_reference}
use Rattle.argot_plain.specs.WellFormed.{WellFormed}
use Rattle.argot_plain.specs.declared.instructions.Callee.{Callee}
use Rattle.argot_plain.specs.declared.instructions.Callee.TheVariants.{Static, Value, Method}
use Rattle.argot_plain.specs.declared.instructions.Kind.{Kind}
use Rattle.argot_plain.specs.declared.instructions.Kind.TheVariants.{Call, Go, Defer}
use Rattle.argot_facts.specs.Handed.{IsTakenAt}
use Rattle.argot_facts.specs.Refers.{Holds, Targets, target_static, target_value, target_method}
use Rattle.argot_facts.proofs.Listed.{get_at}

pub same_kind : (p : Code) (i : ℕ) (a b : Kind) → IsAt p i a → IsAt p i b → a ≡ b
same_kind p i a b h k = let e : Some a ≡ Some b = sym h ∙ k in cc

call_only : (to args : List ℕ) (callee c : Callee) (xs : List ℕ) (m : ℕ) → Hands (Call to callee args) c xs m → (c ≡ callee) × (xs ≡ args) × (m ≡ length to)
call_only to args callee c xs m by_call = (refl, refl, refl)

go_only : (args : List ℕ) (callee c : Callee) (xs : List ℕ) (m : ℕ) → Hands (Go callee args) c xs m → (c ≡ callee) × (xs ≡ args) × (m ≡ 0)
go_only args callee c xs m by_go = (refl, refl, refl)

defer_only : (args : List ℕ) (callee c : Callee) (xs : List ℕ) (m : ℕ) → Hands (Defer callee args) c xs m → (c ≡ callee) × (xs ≡ args) × (m ≡ 0)
defer_only args callee c xs m by_defer = (refl, refl, refl)

pub hands_once : (k : Kind) (c d : Callee) (xs ys : List ℕ) (m n : ℕ) → Hands k c xs m → Hands k d ys n → (c ≡ d) × (xs ≡ ys) × (m ≡ n)
hands_once (Call to callee args) c d xs ys m n h g = let a = call_only to args callee c xs m h in let b = call_only to args callee d ys n g in (a.0 ∙ sym b.0, a.1 ∙ sym b.1, a.2 ∙ sym b.2)
hands_once (Go callee args) c d xs ys m n h g = let a = go_only args callee c xs m h in let b = go_only args callee d ys n g in (a.0 ∙ sym b.0, a.1 ∙ sym b.1, a.2 ∙ sym b.2)
hands_once (Defer callee args) c d xs ys m n h g = let a = defer_only args callee c xs m h in let b = defer_only args callee d ys n g in (a.0 ∙ sym b.0, a.1 ∙ sym b.1, a.2 ∙ sym b.2)
hands_once _ c d xs ys m n h g = elim h [ ]

module _ (p : Code) where
  pub taken_once : (i g : ℕ) (a b : Bool) → IsTakenAt p i g a → IsTakenAt p i g b → a ≡ b
  taken_once i g a b s t =
      let k = same_kind p i s.kind t.kind s.at t.at in
      let c = hands_once t.kind s.callee t.callee s.args t.args s.behind t.behind (subst (λ z. Hands z s.callee s.args s.behind) k s.hands) t.hands in
      let f : Some s.fn ≡ Some t.fn = sym s.is ∙ t.is in
      let g : s.fn ≡ t.fn = cc in
      s.takes_it ∙ ap (λ z. takes_reference z s.fn) c.0 ∙ ap (takes_reference t.callee) g ∙ sym t.takes_it

  -- so does each target of the program's own facts
  pub target_taken : WellFormed p → {i g : ℕ} {takes : Bool} → Holds p (Targets i g takes) → IsTakenAt p i g takes
  target_taken wf {i = i} {g = g} (target_static h n kind args inside live at hands) =
      let f = get_at p.functions g (wf.numbers.callee i g n kind args at hands) in
      record { kind = kind; callee = Static g; args = args; behind = n; fn = f.0; at = at; hands = hands; is = f.1; takes_it = refl }
  target_taken wf (target_value h n d j r s path kind args site fn inside live at hands defined refers is names function takes) =
      record { kind = kind; callee = Value r; args = args; behind = n; fn = fn; at = at; hands = hands; is = function; takes_it = takes }
  target_taken wf {g = g} (target_method h n d j r s name path kind args site inside live at hands defined refers is names) =
      let f = wf.one_wrapper.is site.dynamic g name names in
      record { kind = kind; callee = Method r name; args = args; behind = n; fn = f.0; at = at; hands = hands; is = f.1; takes_it = refl }
