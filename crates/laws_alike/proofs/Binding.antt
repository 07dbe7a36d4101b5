-- One action after another, whatever a state is.
use Rattle.std.proofs.Common.{◌≡◌, Bool, true, false, refl, subst, if◌then◌else◌}
use Rattle.snap_graph.specs.declared.value.Value.{Value}
use Rattle.spec_values.specs.Answer.{◌>>=◌, Answer, Gave, Stopped, Threw, followed, give, stop, throw_value}
use Rattle.laws_alike.specs.Alike.{Common, Grows, Same, Values, World}
use Rattle.laws_alike.specs.Going.{Answers, GoAlike}
use Rattle.laws_alike.proofs.Worlds.{grows_on, grows_self}

-- ends that are alike, from a later world on
answers_on : {W T A : Type 0} (M : Common T) (R : Common A) (world after : World) → Grows world after → (x y : Answer W T A) → Answers M R after x y → Answers M R world x y
answers_on M R world after g (Gave a one) (Gave b other) h = record { after = h.after; grows = grows_on world after h.after g h.grows; matching = h.matching; result = h.result }
answers_on M R world after g (Gave a one) (Threw v other) h = h
answers_on M R world after g (Gave a one) (Stopped why other) h = h
answers_on M R world after g (Threw u one) (Gave b other) h = h
answers_on M R world after g (Threw u one) (Threw v other) h = record { after = h.after; grows = grows_on world after h.after g h.grows; matching = h.matching; result = h.result }
answers_on M R world after g (Threw u one) (Stopped why other) h = h
answers_on M R world after g (Stopped why one) (Gave b other) h = h
answers_on M R world after g (Stopped why one) (Threw v other) h = h
answers_on M R world after g (Stopped why one) (Stopped reason other) h = record { after = h.after; grows = grows_on world after h.after g h.grows; matching = h.matching; result = h.result }

followed_alike : {W T A B : Type 0} (M : Common T) (R : Common A) (S : Common B) (world : World) (x y : Answer W T A) (f g : A → T → Answer W T B) → Answers M R world x y
    → ((after : World) → Grows world after → (a b : A) → R after a b → GoAlike M S after (f a) (g b)) → Answers M S world (followed x f) (followed y g)
followed_alike M R S world (Gave a one) (Gave b other) f g h next =
    answers_on M S world h.after h.grows (f a one) (g b other) ((next h.after h.grows a b h.result).ends one other h.matching)
followed_alike M R S world (Gave a one) (Threw v other) f g h next = absurd h
followed_alike M R S world (Gave a one) (Stopped why other) f g h next = absurd h
followed_alike M R S world (Threw u one) (Gave b other) f g h next = absurd h
followed_alike M R S world (Threw u one) (Threw v other) f g h next = h
followed_alike M R S world (Threw u one) (Stopped why other) f g h next = absurd h
followed_alike M R S world (Stopped why one) (Gave b other) f g h next = absurd h
followed_alike M R S world (Stopped why one) (Threw v other) f g h next = absurd h
followed_alike M R S world (Stopped why one) (Stopped reason other) f g h next = h

-- the law of bind
pub bind_alike : {W T A B : Type 0} {M : Common T} {R : Common A} {S : Common B} {world : World} {x y : T → Answer W T A} {f g : A → T → Answer W T B} → GoAlike M R world x y
    → ((after : World) → Grows world after → (a b : A) → R after a b → GoAlike M S after (f a) (g b)) → GoAlike M S world (x >>= f) (y >>= g)
bind_alike {M = M} {R = R} {S = S} {world = world} {x = x} {y = y} {f = f} {g = g} h next =
    record { ends = λ one other alike. followed_alike M R S world (x one) (y other) f g (h.ends one other alike) next }

-- the law of bind where the results are the same
pub same_alike : {W T A B : Type 0} {M : Common T} {S : Common B} {world : World} {x y : T → Answer W T A} {f g : A → T → Answer W T B} → GoAlike M Same world x y
    → ((after : World) → Grows world after → (a : A) → GoAlike M S after (f a) (g a)) → GoAlike M S world (x >>= f) (y >>= g)
same_alike {M = M} {S = S} {f = f} {g = g} h next = bind_alike {R = Same} h (λ after grows a b e. subst (λ c. GoAlike M S after (f a) (g c)) e (next after grows a))

-- results, throws and stops
pub give_alike : {W T A : Type 0} {M : Common T} {R : Common A} {world : World} (a b : A) → R world a b → GoAlike {W = W} M R world (give a) (give b)
give_alike {world = world} a b h = record { ends = λ one other alike. record { after = world; grows = grows_self world; matching = alike; result = h } }

pub throw_alike : {W T A : Type 0} {M : Common T} {R : Common A} {world : World} (u v : Value) → Values world u v → GoAlike {W = W} M R world (throw_value u) (throw_value v)
throw_alike {world = world} u v h = record { ends = λ one other alike. record { after = world; grows = grows_self world; matching = alike; result = h } }

pub stop_alike : {W T A : Type 0} {M : Common T} {R : Common A} {world : World} (why : W) → GoAlike M R world (stop why) (stop why)
stop_alike {world = world} why = record { ends = λ one other alike. record { after = world; grows = grows_self world; matching = alike; result = refl } }

-- a choice by a test, and one by tests that are the same
pub choice_alike : {W T A : Type 0} {M : Common T} {R : Common A} {world : World} (b : Bool) {x y u v : T → Answer W T A} → GoAlike M R world x u → GoAlike M R world y v → GoAlike M R world (if b then x else y) (if b then u else v)
choice_alike true f g = f
choice_alike false f g = g

pub tests_alike : {W T A : Type 0} {M : Common T} {R : Common A} {world : World} (b c : Bool) → b ≡ c → {x y u v : T → Answer W T A} → GoAlike M R world x u → GoAlike M R world y v → GoAlike M R world (if b then x else y) (if c then u else v)
tests_alike {M = M} {R = R} {world = world} b c e {x} {y} {u} {v} f g = subst (λ d. GoAlike M R world (if b then x else y) (if d then u else v)) e (choice_alike b f g)

-- what states that match know of the pairing
pub knowing : {W T A : Type 0} {M : Common T} {R : Common A} {world : World} {x y : T → Answer W T A} → ((one other : T) → M world one other → GoAlike M R world x y) → GoAlike M R world x y
knowing f = record { ends = λ one other alike. (f one other alike).ends one other alike }
