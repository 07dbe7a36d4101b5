-- What follows whether a call was refused or not.
use Rattle.std.proofs.Common.{Result, Ok, Err}
use Rattle.std.specs.Result.{OnErr, OnOk}

pub either_way : {T E A B C : Type 0} (result : Result T E) → OnOk result A → OnErr result B → (A → C) → (B → C) → C
either_way (Ok x) a b left right = left a
either_way (Err e) a b left right = right b

pub on_err : {T E A : Type 0} (result : Result T E) → A → OnErr result A
on_err (Ok x) a = tt
on_err (Err e) a = a

pub on_ok : {T E A B : Type 0} (result : Result T E) → (A → B) → OnOk result A → OnOk result B
on_ok (Ok x) f a = f a
on_ok (Err e) f a = tt
