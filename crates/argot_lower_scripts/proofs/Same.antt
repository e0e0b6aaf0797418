-- Two codes of one script have the same: one clause for each step of a script.
use Rattle.std.proofs.Common.{◌≡◌, ℕ, List, [], true, false, refl, sym, subst, arith, nat_lt}
use Rattle.argot_plain.specs.declared.instructions.Kind.{Kind}
use Rattle.argot_plain.specs.declared.instructions.Tag.{Tag}
use Rattle.argot_text.specs.declared.position.Pos.{Pos}
use Rattle.argot_lower_scripts.specs.Script.{Leaves, Task, SiteOf, Note, Script, done, take, emit, now, until, part, site, note, sets, gets}
use Rattle.argot_lower_scripts.specs.Says.{Finished, At, Stands, IsPlace, HasLeaves, HasSite, HasNote, Says, says_done, says_take, says_emit, says_now, says_until, says_part, says_stray, says_site, says_note, says_sets, says_gets, passed, labelled, taken, sited, noted, settled, home}
use Rattle.argot_lower_scripts.specs.Agrees.{SameInstr, SamePlace, SameSite, SameNote, SameLeaves, Agrees, Grows}
use Rattle.argot_lower_scripts.proofs.Stretches.{empty, one, stays, grows_on, nothing_there, joined}

module _ (rows : Task → ℕ → Script) (g : Finished) (h : ℕ) where
  -- what the code of each step of a script is
  by_done : {n : ℕ} {qs rs : List ℕ} {a b : At} → Says rows g h n (done rs) qs a b → (rs ≡ qs) × (a ≡ b)
  by_done says_done = (refl, refl)

  by_take : {n : ℕ} {ls : Leaves} {k : ℕ → Script} {rs : List ℕ} {a b : At} → Says rows g h n (take ls k) rs a b → HasLeaves g h a.register ls × Says rows g h n (k a.register) rs (taken a) b
  by_take (says_take x d) = (x, d)

  by_emit : {n : ℕ} {p : Pos} {tags : List Tag} {i : Kind} {c : Script} {rs : List ℕ} {a b : At} → Says rows g h n (emit p tags i c) rs a b → Stands g a.place p tags i × Says rows g h n c rs (passed a) b
  by_emit (says_emit x d) = (x, d)

  by_now : {n : ℕ} {k : ℕ → Script} {rs : List ℕ} {a b : At} → Says rows g h n (now k) rs a b → IsPlace g a.label a.place × Says rows g h n (k a.label) rs (labelled a) b
  by_now (says_now x d) = (x, d)

  record ByUntil (n : ℕ) (c : ℕ → Script) (k : List ℕ → Script) (rs : List ℕ) (a b : At) : Type 0 where
    handed : List ℕ
    end : At
    first : Says rows g h n (c a.label) handed (labelled a) end
    place : IsPlace g a.label end.place
    then : Says rows g h n (k handed) rs end b

  by_until : {n : ℕ} {c : ℕ → Script} {k : List ℕ → Script} {rs : List ℕ} {a b : At} → Says rows g h n (until c k) rs a b → ByUntil n c k rs a b
  by_until (says_until {qs} {d = v} d x d') = record { handed = qs; end = v; first = d; place = x; then = d' }

  record ByPart (n m : ℕ) (task : Task) (k : List ℕ → Script) (rs : List ℕ) (a b : At) : Type 0 where
    handed : List ℕ
    end : At
    first : Says rows g h m (rows task m) handed a end
    then : Says rows g h n (k handed) rs end b

  by_part : {n m : ℕ} {task : Task} {k : List ℕ → Script} {rs : List ℕ} {a b : At} → nat_lt n m ≡ true → Says rows g h n (part task m k) rs a b → ByPart n m task k rs a b
  by_part e (says_part {qs} {d = v} t d d') = record { handed = qs; end = v; first = d; then = d' }
  by_part {n} {m} e (says_stray t d) =
      let z : ⊥ = cc in
      absurd z

  by_stray : {n m : ℕ} {task : Task} {k : List ℕ → Script} {rs : List ℕ} {a b : At} → nat_lt n m ≡ false → Says rows g h n (part task m k) rs a b → Says rows g h n (k []) rs a b
  by_stray {n} {m} e (says_part t d d') =
      let z : ⊥ = cc in
      absurd z
  by_stray e (says_stray t d) = d

  by_site : {n : ℕ} {s : SiteOf} {k : ℕ → Script} {rs : List ℕ} {a b : At} → Says rows g h n (site s k) rs a b → HasSite g a.site a.place s × Says rows g h n (k a.site) rs (sited a) b
  by_site (says_site x d) = (x, d)

  by_note : {n : ℕ} {o : Note} {c : Script} {rs : List ℕ} {a b : At} → Says rows g h n (note o c) rs a b → HasNote g a.note o × Says rows g h n c rs (noted a) b
  by_note (says_note x d) = (x, d)

  by_sets : {n d r : ℕ} {c : Script} {rs : List ℕ} {a b : At} → Says rows g h n (sets d r c) rs a b → Says rows g h n c rs (settled d r a) b
  by_sets (says_sets x) = x

  by_gets : {n d : ℕ} {k : ℕ → Script} {rs : List ℕ} {a b : At} → Says rows g h n (gets d k) rs a b → Says rows g h n (k (home d a)) rs a b
  by_gets (says_gets x) = x

module _ (rows : Task → ℕ → Script) (f g : Finished) (h : ℕ) where
  -- the same registers are handed on, and the codes agree up to the same end
  pub record Same (rs qs : List ℕ) (a b d : At) : Type 0 where
    pub registers : rs ≡ qs
    pub end : b ≡ d
    pub agrees : Agrees f g h a b
    pub grows : Grows a b

  same_from : (rs qs : List ℕ) (a a' b d : At) → Agrees f g h a a' → Grows a a' → Same rs qs a' b d → Same rs qs a b d
  same_from rs qs a a' b d x y s = record { registers = s.registers; end = s.end; agrees = joined f g h a a' b x s.agrees; grows = grows_on a a' b y s.grows }

  pub same : {n : ℕ} {c : Script} {rs : List ℕ} {a b : At} → Says rows f h n c rs a b → (qs : List ℕ) (d : At) → Says rows g h n c qs a d → Same rs qs a b d
  same (says_done {a}) qs d y =
      let e = by_done rows g h y in
      record { registers = e.0; end = e.1; agrees = nothing_there f g h a; grows = stays a }
  same (says_take {ls} {rs} {a} {b} x s) qs d y =
      let e = by_take rows g h y in
      let r = same s qs d e.1 in
      same_from rs qs a (taken a) b d (record { instrs = empty _ a.place; places = empty _ a.label; registers = one (SameLeaves f g h) a.register (record { leaves = ls; one = x; other = e.0 }); sites = empty _ a.site; notes = empty _ a.note }) (record { place = omega arith; label = omega arith; register = omega arith; site = omega arith; note = omega arith }) r
  same (says_emit {p} {tags} {i} {rs} {a} {b} x s) qs d y =
      let e = by_emit rows g h y in
      let r = same s qs d e.1 in
      same_from rs qs a (passed a) b d (record { instrs = one (SameInstr f g) a.place (record { position = p; tags = tags; kind = i; one = x; other = e.0 }); places = empty _ a.label; registers = empty _ a.register; sites = empty _ a.site; notes = empty _ a.note }) (record { place = omega arith; label = omega arith; register = omega arith; site = omega arith; note = omega arith }) r
  same (says_now {rs} {a} {b} x s) qs d y =
      let e = by_now rows g h y in
      let r = same s qs d e.1 in
      same_from rs qs a (labelled a) b d (record { instrs = empty _ a.place; places = one (SamePlace f g) a.label (record { place = a.place; one = x; other = e.0 }); registers = empty _ a.register; sites = empty _ a.site; notes = empty _ a.note }) (record { place = omega arith; label = omega arith; register = omega arith; site = omega arith; note = omega arith }) r
  same (says_until {n} {k} {qs = us} {rs} {a} {b} {d = v} s x s') qs d y =
      let e = by_until rows g h y in
      let r = same s e.handed e.end e.first in
      let then' : Says rows g h n (k us) qs v d = subst (λ (z : At). Says rows g h n (k us) qs z d) (sym r.end) (subst (λ (z : List ℕ). Says rows g h n (k z) qs e.end d) (sym r.registers) e.then) in
      let r' = same s' qs d then' in
      let place' : IsPlace g a.label v.place = subst (λ (z : At). IsPlace g a.label z.place) (sym r.end) e.place in
      let first : Agrees f g h a (labelled a) = record { instrs = empty _ a.place; places = one (SamePlace f g) a.label (record { place = v.place; one = x; other = place' }); registers = empty _ a.register; sites = empty _ a.site; notes = empty _ a.note } in
      same_from rs qs a (labelled a) b d first (record { place = omega arith; label = omega arith; register = omega arith; site = omega arith; note = omega arith }) (same_from rs qs (labelled a) v b d r.agrees r.grows r')
  same (says_part {n} {m} {task} {k} {qs = us} {rs} {a} {b} {d = v} t s s') qs d y =
      let e = by_part rows g h t y in
      let r = same s e.handed e.end e.first in
      let then' : Says rows g h n (k us) qs v d = subst (λ (z : At). Says rows g h n (k us) qs z d) (sym r.end) (subst (λ (z : List ℕ). Says rows g h n (k z) qs e.end d) (sym r.registers) e.then) in
      same_from rs qs a v b d r.agrees r.grows (same s' qs d then')
  same (says_stray t s) qs d y = same s qs d (by_stray rows g h t y)
  same (says_site {s = o} {rs} {a} {b} x s) qs d y =
      let e = by_site rows g h y in
      let r = same s qs d e.1 in
      same_from rs qs a (sited a) b d (record { instrs = empty _ a.place; places = empty _ a.label; registers = empty _ a.register; sites = one (SameSite f g) a.site (record { place = a.place; site = o; one = x; other = e.0 }); notes = empty _ a.note }) (record { place = omega arith; label = omega arith; register = omega arith; site = omega arith; note = omega arith }) r
  same (says_note {o} {rs} {a} {b} x s) qs d y =
      let e = by_note rows g h y in
      let r = same s qs d e.1 in
      same_from rs qs a (noted a) b d (record { instrs = empty _ a.place; places = empty _ a.label; registers = empty _ a.register; sites = empty _ a.site; notes = one (SameNote f g) a.note (record { note = o; one = x; other = e.0 }) }) (record { place = omega arith; label = omega arith; register = omega arith; site = omega arith; note = omega arith }) r
  same (says_sets {d = v} {r} {rs} {a} {b} s) qs d y =
      let e = same s qs d (by_sets rows g h y) in
      record { registers = e.registers; end = e.end; agrees = record { instrs = e.agrees.instrs; places = e.agrees.places; registers = e.agrees.registers; sites = e.agrees.sites; notes = e.agrees.notes }; grows = record { place = e.grows.place; label = e.grows.label; register = e.grows.register; site = e.grows.site; note = e.grows.note } }
  same (says_gets s) qs d y = same s qs d (by_gets rows g h y)
