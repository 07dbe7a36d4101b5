-- Steps of reading that gave something.
use Rattle.std.proofs.Common.{◌≡◌, Bool, true, false, cond, Option, Some, None, refl}
use Rattle.snap_commands.specs.ThinSource.{◌>>=◌}

-- a step and what followed it
pub bind_gave : {A B : Type 0} (o : Option A) (f : A → Option B) (y : B) → (o >>= f) ≡ Some y → (x : A) × (o ≡ Some x) × (f x ≡ Some y)
bind_gave None f y e = absurd cc
bind_gave (Some x) f y e = (x, refl, e)

pub some_gave : {A : Type 0} (x y : A) → Some x ≡ Some y → x ≡ y
some_gave x y e = cc

-- a choice, and what it gave
pub if_gave : {A : Type 0} (b : Bool) (o : Option A) (y : A) → cond b o None ≡ Some y → (b ≡ true) × (o ≡ Some y)
if_gave true o y e = (refl, e)
if_gave false o y e = absurd cc

-- the other way round
pub unless_gave : {A : Type 0} (b : Bool) (o : Option A) (y : A) → cond b None o ≡ Some y → o ≡ Some y
unless_gave true o y e = absurd cc
unless_gave false o y e = e
