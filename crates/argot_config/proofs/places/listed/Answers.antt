use Rattle.std.proofs.Common.{◌≡◌, ◌<◌, ◌≤◌, Some, slice_get, get_or, length, arith, refl}
use Rattle.std.proofs.lemmas.Option.{slice_get-get_or, slice_get_read}
use Rattle.argot_config.specs.Marking.{IsListed}
use Rattle.argot_config.proofs.Gathering.{gathers_none}
use Rattle.argot_config.proofs.Lowered.{listed_push, listed_skip}
use Rattle.argot_config.proofs.places.listed.Goals as goal
use Rattle.argot_config.proofs.places.listed.Goals.{then-first-tags+in_ok-name+in_ok-push, else-first-tags}

pub loop-i-init : goal.loop-i-init
loop-i-init c = rw c.new-found.ensures.items (gathers_none (λ x. x.0) (IsListed c.args.program.now c.args.firsts.now))

pub loop-i-preserved : goal.loop-i-preserved
loop-i-preserved c =
    let p = c.args.program.now in
    let firsts = c.args.firsts.now in
    let i = c.loop-i.i in
    let x = c.instr.result.now in
    let n = get_or firsts i 0 in
    let at : slice_get firsts i ≡ Some n = slice_get-get_or firsts i 0 (omega arith) in
    elim c.if-first-tags.branch [
      | then-first-tags+in_ok-name+in_ok-push w ↦
          let within : n < length x.tags = rw c.as_slice-tags.ensures at w.if-first-tags.true in
          let tag = w.index-tags-first.result in
          let is-tag : slice_get x.tags n ≡ Some tag = slice_get_read x.tags (length x.tags) n tag refl within (rw c.as_slice-tags.ensures at w.index-tags-first.is) in
          rw (w.found-is, w.in_ok-push.ensures.items) (listed_push p firsts i n w.in_ok-name.name x tag c.loop-i.found.items c.len-i-end.ensures.well c.loop-i.invariant c.instr.ensures at is-tag w.in_ok-name.ensures)
      | else-first-tags w ↦
          let past : length x.tags ≤ n = rw c.as_slice-tags.ensures at w.if-first-tags.false in
          rw w.found-is (listed_skip p firsts i n x c.loop-i.found.items c.loop-i.invariant c.instr.ensures at past)
    ]

pub returns : goal.returns
returns c =
    let end : c.loop-i.i ≡ length c.args.program.now.instrs = omega arith in
    rw end at c.loop-i.invariant
