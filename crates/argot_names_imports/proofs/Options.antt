-- What an answer gives, taken further.
use Rattle.std.proofs.Common.{rules, Option, Some, None}
use Rattle.std.specs.Prelude.{Result, Ok, Err, IsNone, IfSome, IfNone, IfOk}

pub if_none : {A : Type 0} (r : Option A) (P : Type 0) → P → IfNone r P
if_none None P p = p
if_none (Some x) P p = tt

pub none_map : {A : Type 0} (r : Option A) (P Q : Type 0) → (P → Q) → IfNone r P → IfNone r Q
none_map None P Q f h = f h
none_map (Some x) P Q f h = tt

pub some_map : {A : Type 0} (r : Option A) (P Q : A → Type 0) → ((x : A) → P x → Q x) → IfSome r P → IfSome r Q
some_map None P Q f h = tt
some_map (Some x) P Q f h = f x h

pub ok_map : {A E : Type 0} (r : Result A E) (P Q : A → Type 0) → ((x : A) → P x → Q x) → IfOk r P → IfOk r Q
ok_map (Ok x) P Q f h = f x h
ok_map (Err e) P Q f h = tt

pub none_from : {A : Type 0} (r : Option A) (P : Type 0) → (IsNone r → P) → IfNone r P
none_from None P h = h (search rules)
none_from (Some x) P h = tt
