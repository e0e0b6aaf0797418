use Rattle.std.proofs.Common.{◌∷◌, [], length, arith, rules, ◌∙◌, ap, subst, length-append}
use Rattle.argot_names_imports.specs.Found.{IsFound}
use Rattle.argot_names_imports.proofs.FoundLists.{found_none, found_more}
use Rattle.argot_names_imports.proofs.founds.founds_of.Goals as goal

pub loop-k-init : goal.loop-k-init
loop-k-init c = record { as_many = search rules; each = λ h t. found_none h c.args.imports.now c.new-founds.result.items c.new-founds.ensures.items }

pub loop-k-preserved : goal.loop-k-preserved
loop-k-preserved c = record {
  as_many = let size = ap length c.in_ok-push.ensures.items ∙ length-append c.loop-k.founds.items (c.in_ok-found.found ∷ []) in omega (arith, size, c.loop-k.invariant.as_many);
  each = λ h t.
      found_more h c.args.imports.now c.loop-k.founds.items c.push.new.self.items c.loop-k.k c.import_at.result.now c.in_ok-found.found c.loop-k.invariant.as_many c.import_at.ensures (c.loop-k.invariant.each h t)
      (subst (λ p. IsFound h p c.in_ok-found.found) c.as_slice.ensures (c.in_ok-found.ensures h t)) c.in_ok-push.ensures.items;
}

pub returns : goal.returns
returns c = λ h t. record { as_many = omega (arith, c.loop-k.invariant.as_many); each = c.loop-k.invariant.each h t }
