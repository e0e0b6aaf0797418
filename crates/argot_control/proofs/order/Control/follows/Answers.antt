use Rattle.std.proofs.Common.{◌≡◌, ℕ, List, Bool, true, length, ap, sym, ◌∙◌, arith, subst}
use Rattle.argot_plain.specs.Lists.{In}
use Rattle.argot_facts.specs.Marked.{IsSet}
use Rattle.argot_facts.proofs.Listed.{get_within}
use Rattle.argot_control.specs.Controlled.{behind}
use Rattle.argot_control.proofs.Pairing.{listed, lists}
use Rattle.argot_control.proofs.order.Control.follows.Goals as goal

pub returns-then-not-is_marked-clause-no : goal.returns-then-not-is_marked-clause-no
returns-then-not-is_marked-clause-no c = λ m.
    let s = c.self.inside in
    let h = listed s.blocks.numbers.items s.blocks.rows s.writes.items s.reads.items c.args.a c.args.b (subst (λ (xs : List (ℕ × ℕ)). In {A = ℕ × ℕ} (c.args.a, c.args.b) xs) (sym c.self.view_is) m) in
    let t = c.is_marked.ensures.no (subst (λ (xs : List Bool). IsSet xs c.args.a) (sym c.deref.ensures.value) h.0) in
    let f = c.if-not-is_marked.true in
    cc

pub returns-then-not-is_marked-2-clause-no : goal.returns-then-not-is_marked-2-clause-no
returns-then-not-is_marked-2-clause-no c = λ m.
    let s = c.self.inside in
    let h = listed s.blocks.numbers.items s.blocks.rows s.writes.items s.reads.items c.args.a c.args.b (subst (λ (xs : List (ℕ × ℕ)). In {A = ℕ × ℕ} (c.args.a, c.args.b) xs) (sym c.self.view_is) m) in
    let t = c.is_marked-2.ensures.no (subst (λ (xs : List Bool). IsSet xs c.args.b) (sym c.deref-2.ensures.value) h.1) in
    let f = c.if-not-is_marked-2.true in
    cc

pub comes_behind-requires-clause-first : goal.comes_behind-requires-clause-first
comes_behind-requires-clause-first c =
    let w = subst (λ (xs : List Bool). IsSet xs c.args.a) c.deref.ensures.value (c.is_marked.ensures.yes c.if-not-is_marked.false) in
    let l = get_within c.self.inside.writes.items c.args.a true w in
    let k = c.self.invariant.writes_count in
    let e = ap length c.deref-3.ensures.value in
    omega (arith, l, k, e)

pub comes_behind-requires-clause-second : goal.comes_behind-requires-clause-second
comes_behind-requires-clause-second c =
    let w = subst (λ (xs : List Bool). IsSet xs c.args.b) c.deref-2.ensures.value (c.is_marked-2.ensures.yes c.if-not-is_marked-2.false) in
    let l = get_within c.self.inside.reads.items c.args.b true w in
    let k = c.self.invariant.reads_count in
    let e = ap length c.deref-3.ensures.value in
    omega (arith, l, k, e)

pub returns-clause-yes : goal.returns-clause-yes
returns-clause-yes c = λ e.
    let s = c.self.inside in
    let w = subst (λ (xs : List Bool). IsSet xs c.args.a) c.deref.ensures.value (c.is_marked.ensures.yes c.if-not-is_marked.false) in
    let r = subst (λ (xs : List Bool). IsSet xs c.args.b) c.deref-2.ensures.value (c.is_marked-2.ensures.yes c.if-not-is_marked-2.false) in
    let b : behind s.blocks.numbers.items s.blocks.rows c.args.a c.args.b ≡ true = ap (λ (ns : List ℕ). behind ns s.blocks.rows c.args.a c.args.b) (sym c.deref-3.ensures.value) ∙ sym c.comes_behind.ensures ∙ e in
    subst (λ (xs : List (ℕ × ℕ)). In {A = ℕ × ℕ} (c.args.a, c.args.b) xs) c.self.view_is (lists s.blocks.numbers.items s.blocks.rows s.writes.items s.reads.items c.args.a c.args.b c.self.invariant.writes_count c.self.invariant.reads_count w r b)

pub returns-clause-no : goal.returns-clause-no
returns-clause-no c = λ m.
    let s = c.self.inside in
    let h = listed s.blocks.numbers.items s.blocks.rows s.writes.items s.reads.items c.args.a c.args.b (subst (λ (xs : List (ℕ × ℕ)). In {A = ℕ × ℕ} (c.args.a, c.args.b) xs) (sym c.self.view_is) m) in
    c.comes_behind.ensures ∙ ap (λ (ns : List ℕ). behind ns s.blocks.rows c.args.a c.args.b) c.deref-3.ensures.value ∙ h.2
