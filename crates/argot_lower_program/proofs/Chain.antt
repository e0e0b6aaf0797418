-- Two codes of the same functions in the same order have the same functions and the same in them.
use Rattle.std.specs.Prelude.{slice_get}
use Rattle.std.proofs.Common.{◌≡◌, ℕ, ◌+◌, ◌<◌, ◌≤◌, List, [], ◌∷◌, length, Some, refl, sym, ap, ◌∙◌, subst, arith}
use Rattle.argot_plain.specs.Code.{IsFunction}
use Rattle.argot_plain.specs.declared.functions.Function.{Function}
use Rattle.argot_tree.specs.declared.entries.Entry.{Entry}
use Rattle.argot_lower_scripts.specs.Script.{Leaves}
use Rattle.argot_lower_scripts.specs.Says.{Finished, At, HasLeaves}
use Rattle.argot_lower_scripts.specs.Agrees.{Between, SameInstr, SamePlace, SameSite, SameNote, SameLeaves}
use Rattle.argot_lower_scripts.proofs.Stretches.{empty, join, one as just}
use Rattle.argot_lower_scripts.proofs.Same.{Same, same}
use Rattle.argot_lower_locals.specs.Typed.{Typed}
use Rattle.argot_lower_rows.specs.Table.{row}
use Rattle.argot_lower_program.specs.Functions.{Origin, flow_of, wrapped}
use Rattle.argot_lower_program.specs.PlainCode.{IsWritten, AreWritten, none, one, anew}
use Rattle.argot_lower_program.proofs.Lists.{ext}
use Rattle.argot_lower_program.proofs.Exits.{same_end}

same_record : (a b : Function) → a.name ≡ b.name → a.at ≡ b.at → a.entry ≡ b.entry → a.exit ≡ b.exit → a.leave ≡ b.leave → a.params ≡ b.params → a.results ≡ b.results → a.registers ≡ b.registers → a.wraps ≡ b.wraps → a.role ≡ b.role → a.ident ≡ b.ident → a.has_env ≡ b.has_env → a.external ≡ b.external → a ≡ b
same_record a b p0 p1 p2 p3 p4 p5 p6 p7 p8 p9 p10 p11 p12 =
    λ i. record { name = p0 i; at = p1 i; entry = p2 i; exit = p3 i; leave = p4 i; params = p5 i; results = p6 i; registers = p7 i; wraps = p8 i; role = p9 i; ident = p10 i; has_env = p11 i; external = p12 i }

module _ (t : Typed) (entries : List Entry) (f g : Finished) (order : List Origin) (numbers : f.number ≡ g.number) where
  -- the function of this number is the same in both
  pub record SameFunction (k : ℕ) : Type 0 where
    pub fn : Function
    pub first : IsFunction f.code k fn
    pub other : IsFunction g.code k fn

  leaves_of_it : (k r : ℕ) (fn : Function) (ls : Leaves) (h : Finished) → IsFunction h.code k fn → HasLeaves h k r ls → slice_get fn.registers r ≡ Some ls
  leaves_of_it k r fn ls h is x =
      let e : Some fn ≡ Some x.fn = sym is ∙ x.is in
      let e' : fn ≡ x.fn = cc in
      subst (λ (z : Function). slice_get z.registers r ≡ Some ls) (sym e') x.has

  same_registers : (k end : ℕ) (fn fn' : Function) → IsFunction f.code k fn → IsFunction g.code k fn' → length fn.registers ≡ end → length fn'.registers ≡ end → Between (SameLeaves f g k) 0 end → fn.registers ≡ fn'.registers
  same_registers k end fn fn' is is' l l' s =
      ext fn.registers fn'.registers (l ∙ sym l') (λ r lt.
      let a : 0 ≤ r = omega arith in
      let b : r < end = omega arith in
      let x = s r a b in
      leaves_of_it k r fn x.leaves f is x.one ∙ sym (leaves_of_it k r fn' x.leaves g is' x.other))

  -- what holds of all functions up to a point
  pub record Chained (k m : ℕ) (a b d : At) : Type 0 where
    pub end : b ≡ d
    pub functions : Between SameFunction k m
    pub instrs : Between (SameInstr f g) a.place b.place
    pub places : Between (SamePlace f g) a.label b.label
    pub sites : Between (SameSite f g) a.site b.site
    pub notes : Between (SameNote f g) a.note b.note

  same_written : (k : ℕ) (o : Origin) (a b b' : At) → a.register ≡ 0 → IsWritten t entries f order k o a b → IsWritten t entries g order k o a b' → Same (row t) f g k [] [] a b b' × SameFunction k
  same_written k o a b b' z x y =
      let s = same (row t) f g k x.says y.handed_on b' y.says in
      let e : b ≡ b' = s.end in
      let entry' : x.fn.entry ≡ y.fn.entry = x.entry_is ∙ sym y.entry_is in
      let between : Between (SameInstr f g) x.fn.entry b.place = subst (λ (p : ℕ). Between (SameInstr f g) p b.place) (sym x.entry_is) s.agrees.instrs in
      let closed' = subst (λ (p : At). Rattle.argot_lower_program.specs.PlainCode.IsClosed g.code y.fn p.place (flow_of t entries o)) (sym e) y.closed in
      let ends = same_end f g x.fn y.fn b.place (flow_of t entries o) entry' between x.closed closed' in
      let count' : length y.fn.registers ≡ b.register = y.registers_are ∙ ap (λ (p : At). p.register) (sym e) in
      let held : Between (SameLeaves f g k) 0 b.register = subst (λ (r : ℕ). Between (SameLeaves f g k) r b.register) z s.agrees.registers in
      let registers' = same_registers k b.register x.fn y.fn x.is y.is x.registers_are count' held in
      let wraps' : x.fn.wraps ≡ y.fn.wraps = x.wraps_is ∙ ap (λ (n : ℕ → ℕ). Rattle.std.specs.Prelude.option_map n (wrapped t o)) numbers ∙ sym y.wraps_is in
      let fns : x.fn ≡ y.fn = same_record x.fn y.fn (x.name_is ∙ sym y.name_is) (x.at_is ∙ sym y.at_is) entry' ends.exit ends.leave (x.params_are ∙ sym y.params_are) (x.results_are ∙ sym y.results_are) registers' wraps' (x.role_is ∙ sym y.role_is) (x.ident_is ∙ sym y.ident_is) (x.env_is ∙ sym y.env_is) (x.external_is ∙ sym y.external_is) in
      (record { registers = refl; end = s.end; agrees = s.agrees; grows = s.grows }, record { fn = x.fn; first = x.is; other = subst (λ (z : Function). IsFunction g.code k z) (sym fns) y.is })

  pub chain : {k : ℕ} {os : List Origin} {a b : At} → AreWritten t entries f order k os a b → a.register ≡ 0 → (d : At) → AreWritten t entries g order k os a d → Chained k (k + length os) a b d
  chain {k} (none {a}) z d none =
      let e : k + 0 ≡ k = omega arith in
      record { end = refl; functions = subst (λ (m : ℕ). Between SameFunction k m) (sym e) (empty _ k); instrs = empty _ a.place; places = empty _ a.label; sites = empty _ a.site; notes = empty _ a.note }
  chain {k} {os = o ∷ os} (one {a} {b} {c} x xs) z d (one {b = b'} y ys) =
      let r = same_written k o a b b' z x y in
      let ys' : AreWritten t entries g order (k + 1) os (anew b) d = subst (λ (p : At). AreWritten t entries g order (k + 1) os (anew p) d) (sym r.0.end) ys in
      let n = chain xs refl d ys' in
      let e : (k + 1) + length os ≡ k + length (o ∷ os) = omega arith in
      record {
        end = n.end;
        functions = subst (λ (m : ℕ). Between SameFunction k m) e (join SameFunction k (k + 1) ((k + 1) + length os) (just SameFunction k r.1) n.functions);
        instrs = join _ a.place b.place c.place r.0.agrees.instrs n.instrs;
        places = join _ a.label b.label c.label r.0.agrees.places n.places;
        sites = join _ a.site b.site c.site r.0.agrees.sites n.sites;
        notes = join _ a.note b.note c.note r.0.agrees.notes n.notes;
      }
