use Rattle.std.proofs.Common.{◌≡◌, ℕ, Some, None, slice_get, length, ap, sym, ◌∙◌, arith}
use Rattle.std.proofs.Math.ListN.{length-set}
use Rattle.argot_names_packages.proofs.FileLists.{file_none, file_put}
use Rattle.argot_names_packages.proofs.files.put.Goals as goal

pub push-requires-clause-head : goal.push-requires-clause-head
push-requires-clause-head c =
    let leads : slice_get c.args.leaders.now c.args.file ≡ Some (Some c.in-Some.first) = (c.leader_at.ensures c.in-Some.first).0 c.in-Some.is in
    omega (arith, c.requires.below c.in-Some.first leads, c.requires.small)

pub returns-in-Some-clause-so_far : goal.returns-in-Some-clause-so_far
returns-in-Some-clause-so_far c =
    let leads : slice_get c.args.leaders.now c.args.file ≡ Some (Some c.in-Some.first) = (c.leader_at.ensures c.in-Some.first).0 c.in-Some.is in
    let long : length c.push.new.self.lists ≡ length c.args.files.now.lists = ap length c.push.ensures.lists ∙ simp length-set in
    file_put c.args.leaders.now c.args.file c.args.files.now.lists c.requires.so_far c.in-Some.first c.push.new.self.lists leads (omega (arith, c.requires.below c.in-Some.first leads, c.requires.small)) long c.push.ensures.lists

pub returns-in-None-clause-so_far : goal.returns-in-None-clause-so_far
returns-in-None-clause-so_far c =
    file_none c.args.leaders.now c.args.file c.args.files.now.lists c.requires.so_far (λ first e. none_some first (sym c.in-None.is ∙ (c.leader_at.ensures first).1 e))
  where
    none_some : (x : ℕ) → None ≡ Some x → ⊥
    none_some x e = cc
