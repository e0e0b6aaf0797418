-- The exit of a function in two codes that have the same instructions.
use Rattle.std.specs.Prelude.{slice_get}
use Rattle.std.proofs.Common.{◌≡◌, ℕ, ◌<◌, ◌≤◌, Bool, Option, Some, None, refl, sym, ap, ◌∙◌, arith}
use Rattle.argot_plain.specs.Code.{IsAt, kind_of}
use Rattle.argot_plain.specs.declared.functions.Function.{Function}
use Rattle.argot_plain.specs.declared.instructions.Kind.{Kind}
use Rattle.argot_plain.specs.declared.instructions.Kind.TheVariants.{RunDefers}
use Rattle.argot_lower_scripts.specs.Says.{Finished, filled, filled_by, place_of}
use Rattle.argot_lower_scripts.specs.Agrees.{Between, SameInstr}
use Rattle.argot_lower_program.specs.PlainCode.{IsClosed, with_body, without}

-- an instruction that is RunDefers with its targets filled in is RunDefers
defers : (number places : ℕ → ℕ) (k : Kind) → filled_by number places k ≡ RunDefers → k ≡ RunDefers
defers number places RunDefers e = refl
defers number places k e =
    let z : ⊥ = cc in
    absurd z

-- where it stands in one code it stands in the other
pub defers_too : (f g : Finished) (i : ℕ) → SameInstr f g i → IsAt g.code i RunDefers → IsAt f.code i RunDefers
defers_too f g i s e =
    let there : kind_of (slice_get g.code.instrs i) ≡ Some (filled g s.kind) = ap kind_of s.other.is in
    let there' : Some (filled g s.kind) ≡ Some RunDefers = sym there ∙ e in
    let full : filled g s.kind ≡ RunDefers = cc in
    let is : s.kind ≡ RunDefers = defers g.number (place_of g) s.kind full in
    ap kind_of s.one.is ∙ ap (λ (k : Kind). Some (filled f k)) is

-- both functions end alike
pub record SameEnd (fn fn' : Function) : Type 0 where
  pub exit : fn.exit ≡ fn'.exit
  pub leave : fn.leave ≡ fn'.leave

pub same_end : (f g : Finished) (fn fn' : Function) (end : ℕ) (flow : Option Bool) → fn.entry ≡ fn'.entry → Between (SameInstr f g) fn.entry end → IsClosed f.code fn end flow → IsClosed g.code fn' end flow → SameEnd fn fn'
same_end f g fn fn' end None e s (with_body x r) (with_body y q) =
    let leave' : fn.leave ≡ fn'.leave = omega arith in
    let low = q.low in
    let high = q.high in
    let a : fn.entry ≤ fn'.exit = omega arith in
    let b : fn'.exit < end = omega arith in
    let c : fn'.exit ≤ fn.leave = omega arith in
    let d : fn'.exit ≡ fn.exit = r.only fn'.exit a c (defers_too f g fn'.exit (s fn'.exit a b) q.is) in
    record { exit = sym d; leave = leave' }
same_end f g fn fn' end (Some flow) e s (without x y z) (without x' y' z') = record { exit = y ∙ e ∙ sym y'; leave = z ∙ e ∙ sym z' }
