use Rattle.std.proofs.Common.{subst, sym, inl, inr}
use Rattle.argot_ssa.specs.Places.{IsCut, defines_at}
use Rattle.argot_ssa.proofs.Blocks.{local_or_exposed}
use Rattle.argot_ssa.proofs.Listed.{reads_below}
use Rattle.argot_ssa.proofs.Collected.{local_found, found_local}
use Rattle.argot_ssa.proofs.collect.collect.Goals as goal
use Rattle.argot_ssa.proofs.collect.collect.Goals.{After-carry_registers}

is_cut : (c : After-carry_registers) → IsCut c.args.program.now c.args.function.now c.as_slice-heads.result.now
is_cut c = subst (IsCut c.args.program.now c.args.function.now) (sym c.as_slice-heads.ensures.value) c.in_ok-heads.ensures

pub returns : goal.returns
returns c =
    let p = c.args.program.now in
    let fn = c.args.function.now in
    let heads = c.as_slice-heads.result.now in
    let is = is_cut (goal.at.returns c).After-carry_registers in
    let near = c.in_ok-asks.ensures.rows in
    let far = c.in_ok-carry_registers.ensures in
    record {
      kept = λ x h. far.kept x (near.kept x h);
      only = λ x h. elim (far.only x h) [
        | inr found ↦ inr found
        | inl mid ↦ elim (near.only x mid) [ inl old ↦ inl old | inr here ↦ inr (local_found p fn heads is x here) ]
      ];
      there = λ x f. elim (local_or_exposed p fn heads is (defines_at p fn x.1) f.d f.defines f.path) [
        | inl here ↦ far.kept x (near.there x (found_local p fn heads x f here))
        | inr exposed ↦ far.there x f (reads_below p c.requires.well c.requires.function.0 fn c.requires.function.1 f.k f.low x.1 f.read) exposed
      ];
    }
