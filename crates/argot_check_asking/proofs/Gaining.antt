-- What a rule says stays where more is known.
use Rattle.std.proofs.Common.{◌≡◌, List, [], ◌∷◌, Option, Some, None, ◌∙◌}
use Rattle.argot_check_asking.specs.Rules.{Rule, Silent, Say, Ask, AskBoth, AskMaybe, AskAll, bind, maybe_known, all_known, told}
use Rattle.argot_check_asking.proofs.Steps.{parts, step}

module _ {R F : Type 0} (a b : R → Option F) (more : (n : R) (f : F) → a n ≡ Some f → b n ≡ Some f) where
  maybe_more : (x : Option R) (f : Option F) → maybe_known a x ≡ Some f → maybe_known b x ≡ Some f
  maybe_more None f h = h
  maybe_more (Some x) f h = let p = parts (a x) (λ g. Some (Some g)) f h in step (b x) (λ g. Some (Some g)) p.0 (more x p.0 p.1) ∙ p.2

  all_more : (xs : List R) (fs : List F) → all_known a xs ≡ Some fs → all_known b xs ≡ Some fs
  all_more [] fs h = h
  all_more (x ∷ xs) fs h =
      let p = parts (a x) (λ f. bind (all_known a xs) (λ gs. Some (f ∷ gs))) fs h in
      let q = parts (all_known a xs) (λ gs. Some (p.0 ∷ gs)) fs p.2 in
      step (b x) (λ f. bind (all_known b xs) (λ gs. Some (f ∷ gs))) p.0 (more x p.0 p.1)
      ∙ (step (all_known b xs) (λ gs. Some (p.0 ∷ gs)) q.0 (all_more xs q.0 q.1) ∙ q.2)

  pub told_more : (r : Rule R F) (g : F) → told a r ≡ Some g → told b r ≡ Some g
  told_more Silent g h = cc
  told_more (Say f) g h = h
  told_more (Ask x k) g h =
      let p = parts (a x) (λ f. told a (k f)) g h in
      step (b x) (λ f. told b (k f)) p.0 (more x p.0 p.1) ∙ told_more (k p.0) g p.2
  told_more (AskBoth x y k) g h =
      let p = parts (a x) (λ f. bind (a y) (λ i. told a (k f i))) g h in
      let q = parts (a y) (λ i. told a (k p.0 i)) g p.2 in
      step (b x) (λ f. bind (b y) (λ i. told b (k f i))) p.0 (more x p.0 p.1)
      ∙ (step (b y) (λ i. told b (k p.0 i)) q.0 (more y q.0 q.1) ∙ told_more (k p.0 q.0) g q.2)
  told_more (AskMaybe x k) g h =
      let p = parts (maybe_known a x) (λ f. told a (k f)) g h in
      step (maybe_known b x) (λ f. told b (k f)) p.0 (maybe_more x p.0 p.1) ∙ told_more (k p.0) g p.2
  told_more (AskAll xs k) g h =
      let p = parts (all_known a xs) (λ fs. told a (k fs)) g h in
      step (all_known b xs) (λ fs. told b (k fs)) p.0 (all_more xs p.0 p.1) ∙ told_more (k p.0) g p.2
