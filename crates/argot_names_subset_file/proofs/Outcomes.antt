-- A claim on what is answered where nothing fails.
use Rattle.std.proofs.Common.{Result, Ok, Err, OnOk}

pub on_ok_map : {A E : Type 0} (r : Result A E) (P Q : Type 0) → (P → Q) → OnOk r P → OnOk r Q
on_ok_map (Ok x) P Q to h = to h
on_ok_map (Err e) P Q to h = tt
