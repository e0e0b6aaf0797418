-- What holds of the value of a result or an option.
use Rattle.std.proofs.Common.{Option, Some, None, Result, Ok, Err}
use Rattle.std.specs.Prelude.{IfOk, IfSome, IfNone}

pub ok_onto : {T E : Type 0} (P Q : T → Type 0) (r : Result T E) → ((v : T) → P v → Q v) → IfOk r P → IfOk r Q
ok_onto P Q (Ok v) f h = f v h
ok_onto P Q (Err e) f h = tt

pub some_onto : {T : Type 0} (P Q : T → Type 0) (o : Option T) → ((v : T) → P v → Q v) → IfSome o P → IfSome o Q
some_onto P Q None f h = tt
some_onto P Q (Some v) f h = f v h

pub none_onto : {T : Type 0} (P Q : Type 0) (o : Option T) → (P → Q) → IfNone o P → IfNone o Q
none_onto P Q None f h = f h
none_onto P Q (Some v) f h = tt

-- what holds of each, where there is none
pub none_of_each : {T A : Type 0} (P : A → Type 0) (o : Option T) → ((x : A) → IfNone o (P x)) → IfNone o ((x : A) → P x)
none_of_each P None f = f
none_of_each P (Some v) f = tt
