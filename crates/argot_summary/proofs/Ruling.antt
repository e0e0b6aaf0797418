-- The rules, with premises of any lower rank.
use Rattle.std.proofs.Common.{◌≡◌, ℕ, suc, ◌-◌, ◌<◌, subst, arith}
use Rattle.std.specs.Prelude.{Result, Ok, Err, OnOk}
use Rattle.argot_facts.specs.Summaries.{same_plain, same_over}
use Rattle.argot_facts.specs.declared.graphs.EdgeKind.TheVariants.{Plain, Call, Return}
use Rattle.argot_flow_laws.proofs.Later.{same_later}
use Rattle.argot_summary.specs.Stepping.{Edged, IsWithin}
use Rattle.argot_summary.specs.declared.net.Net.{Net}

pub within_plain : (x : Net) (p j k m n : ℕ) → IsWithin x p j m → j < k → Edged x m Plain n → IsWithin x p k n
within_plain x p j k m n h less e =
    let next : suc (k - 1) ≡ k = omega arith in
    subst (λ r. IsWithin x p r n) next (same_plain m (same_later (Edged x) j (k - 1) (omega arith) h) e)

pub within_over : (x : Net) (p j k m q l n i c : ℕ) → IsWithin x p j m → j < k → Edged x m (Call c) q → IsWithin x q i l → i < k → Edged x l (Return c) n → IsWithin x p k n
within_over x p j k m q l n i c h less e g low d =
    let next : suc (k - 1) ≡ k = omega arith in
    subst (λ r. IsWithin x p r n) next (same_over m q l c (same_later (Edged x) j (k - 1) (omega arith) h) e (same_later (Edged x) i (k - 1) (omega arith) g) d)

pub ok_map : {T E : Type 0} {P Q : Type 0} (r : Result T E) → (P → Q) → OnOk r P → OnOk r Q
ok_map (Ok x) f h = f h
ok_map (Err e) f h = h

pub ok_both : {T E : Type 0} {P Q R : Type 0} (r : Result T E) → (P → Q → R) → OnOk r P → OnOk r Q → OnOk r R
ok_both (Ok x) f h g = f h g
ok_both (Err e) f h g = h
