use Rattle.std.proofs.Common.{◌≡◌, true, sym, inl, inr, arith, subst}
use Rattle.argot_links.specs.Members.{has as contains}
use Rattle.argot_facts.specs.Marked.{IsSet}
use Rattle.argot_escape.proofs.Finding.{unset_lt}
use Rattle.argot_escape.proofs.found.reach.Goals as goal

pub returns : goal.returns
returns c =
    let old = c.args.found.now.flags.items in
    let new = c.mark.new.flags.items in
    let none : IsSet old c.args.site → ⊥ = λ s. let t = c.if-is_marked.ensures.no (subst (λ xs. IsSet xs c.args.site) (sym c.deref.ensures.value) s) in absurd cc in
    let fewer = unset_lt old new c.args.site c.mark.ensures.count c.mark.ensures.kept c.mark.ensures.there none in
    let longer = c.put.ensures.longer in
    record {
      count = c.mark.ensures.count;
      size = c.put.ensures.size;
      kept = c.mark.ensures.kept;
      still = c.put.ensures.kept;
      fresh = λ m s. elim (c.mark.ensures.only m s) [ inl t ↦ inl t | inr e ↦ inr (subst (λ z. contains c.put.new.self.items z ≡ true) (sym e) c.put.ensures.there) ];
      set = λ m w. elim (c.put.ensures.only m w) [ inl v ↦ inl v | inr e ↦ inr (subst (IsSet new) (sym e) c.mark.ensures.there) ];
      there = λ m e. subst (IsSet new) (sym e) c.mark.ensures.there;
      only = c.mark.ensures.only;
      less = omega arith;
    }
