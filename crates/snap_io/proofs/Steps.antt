-- One step of a loop that reads or writes, after the steps before it.
use Rattle.std.proofs.Common.{◌≡◌, ◌+◌, ◌-◌, ◌≤◌, ℕ, List, [], ◌++◌, Option, Some, None, Result, Ok, Err, IfOk, IfSome, length, take, drop, sym, ap, ◌∙◌, subst, arith, length-append, length-drop, drop_at}
use Rattle.std.proofs.Math.Seq.{take-add}
use Rattle.std.proofs.lemmas.List.{append-nil, take-append-le, take_rest}
use Rattle.std.proofs.KnownBytes.{Appends-trans, Consumes-nil, Consumes-trans}
use Rattle.std.specs.Io.KnownBytes.{Appends, Consumes, IsAtEnd}
use Rattle.snap_io.specs.Taken.{Takes, TakesAtMost}

-- what is left of the bytes from a place on, as a slice to their end
abbrev rest : List ℕ → ℕ → List ℕ
rest bytes at = take (length bytes - at) (drop at bytes)

-- a writer that takes the front of the rest
pub Appends-more : (a b c : Option (List ℕ)) (bytes : List ℕ) (at taken : ℕ) → Appends a b (take at bytes) → Appends b c (take taken (take (length bytes - at) (drop at bytes))) → Appends a c (take (at + taken) bytes)
Appends-more a b c bytes at taken before step =
    let front : take (at + taken) bytes ≡ take at bytes ++ take taken (rest bytes at) = take-add at taken bytes ∙ ap (λ l. take at bytes ++ take taken l) (sym (take_rest bytes at)) in
    subst (Appends a c) (sym front) (Appends-trans a b c _ _ before step)

-- the front of the rest ends within the bytes
pub rest-within : (bytes : List ℕ) (at taken : ℕ) → at ≤ length bytes → taken ≤ length (take (length bytes - at) (drop at bytes)) → at + taken ≤ length bytes
rest-within bytes at taken inside fits = omega (arith, ap length (take_rest bytes at), length-drop at bytes)

-- a reader that gave more
pub Consumes-more : (a b c : Option (List ℕ)) (before after : List ℕ) → Consumes a b before → Takes b c before after → Consumes a c after
Consumes-more a b c before after first step = subst (Consumes a c) (sym step.1) (Consumes-trans a b c before step.0 first step.2)

-- a reader that gave at most so many more
pub TakesAtMost-more : (a b c : Option (List ℕ)) (before : List ℕ) (most all : ℕ) → Consumes a b before → TakesAtMost b c most → length before + most ≤ all → TakesAtMost a c all
TakesAtMost-more a b c before most all first step fits =
    (before ++ step.0, omega (arith, length-append before step.0, step.1), Consumes-trans a b c before step.0 first step.2)

-- what was read into a part stands behind the front
pub read-behind : {E : Type 0} (a b : Option (List ℕ)) (r : Result ℕ E) (front part rest : List ℕ) (len : ℕ) → length front ≡ len → IfOk r (λ taken. taken ≤ length part) → IfOk r (λ taken. Consumes a b (take taken part))
    → IfOk r (λ taken. Consumes a b (take taken (drop len (front ++ (part ++ rest)))))
read-behind a b (Ok taken) front part rest len long fits read =
    subst (Consumes a b) (sym (ap (take taken) (drop_at front (part ++ rest) len long) ∙ take-append-le taken part rest fits)) read
read-behind a b (Err e) front part rest len long fits read = tt

-- a reader that gave bytes behind the front
pub takes-behind : {E : Type 0} (a b : Option (List ℕ)) (r : Result ℕ E) (xs ys : List ℕ) (len : ℕ) → take len ys ≡ take len xs → IfOk r (λ taken. Consumes a b (take taken (drop len ys)))
    → IfOk r (λ taken. Takes a b (take len xs) (take (len + taken) ys))
takes-behind a b (Ok taken) xs ys len front read = (take taken (drop len ys), take-add len taken ys ∙ ap (λ l. l ++ take taken (drop len ys)) front, read)
takes-behind a b (Err e) xs ys len front read = tt

-- a reader that gave nothing
pub takes_nothing : (a : Option (List ℕ)) (most : ℕ) → TakesAtMost a a most
takes_nothing a most = ([], omega arith, Consumes-nil a)

-- a reader that gave at most so many gave at most more
pub TakesAtMost-wider : (a b : Option (List ℕ)) (most all : ℕ) → TakesAtMost a b most → most ≤ all → TakesAtMost a b all
TakesAtMost-wider a b most all step fits = (step.0, omega (arith, step.1), step.2)

-- a reader that is at its end has given all
pub all_taken : (a b c : Option (List ℕ)) (before after : List ℕ) → Consumes a b before → Takes b c before after → IsAtEnd c → IfSome a (λ left. after ≡ left)
all_taken None b c before after first step end = tt
all_taken (Some xs) b None before after first step end = absurd (Consumes-more (Some xs) b None before after first step)
all_taken (Some xs) b (Some ys) before after first step end =
    let whole : xs ≡ after ++ ys = Consumes-more (Some xs) b (Some ys) before after first step in
    sym (whole ∙ ap (λ l. after ++ l) end ∙ append-nil after)
