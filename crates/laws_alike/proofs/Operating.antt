-- Operators on values that agree.
use Rattle.std.proofs.Common.{◌≡◌, ℕ, ℤ, neg_ℤ, not, None, Result, Ok, Err, refl, ap, subst, ◌∙◌, arith}
use Rattle.snap_base.specs.declared.stop.Stop.{Stop}
use Rattle.snap_graph.specs.declared.value.Value.{Value}
use Rattle.snap_graph.specs.declared.value.Value.TheVariants.{Undefined, Null, Bool as Truth, Int, Text, Node as At, Empty}
use Rattle.snap_graph.specs.Values.{IsValue, node_of}
use Rattle.spec_values.specs.declared.operator.BinaryOp.{BinaryOp}
use Rattle.spec_values.specs.declared.operator.BinaryOp.TheVariants as binary
use Rattle.spec_values.specs.declared.operator.UnaryOp.{UnaryOp}
use Rattle.spec_values.specs.declared.operator.UnaryOp.TheVariants as unary
use Rattle.spec_values.specs.Access.{or_stop}
use Rattle.spec_values.specs.Answer.{Heap}
use Rattle.spec_values.specs.Conversions.{number_of, to_int32, truth_of}
use Rattle.spec_values.specs.Operators.{◌>>=◌, added, binary_value, inverted, less, on_numbers, same_value, truth, unary_value, untruth}
use Rattle.spec_values.proofs.Results.{binary_gives}
use Rattle.laws_alike.specs.Alike.{Alike, Values, World}
use Rattle.laws_alike.specs.Going.{GoAlike}
use Rattle.laws_alike.proofs.Binding.{give_alike, knowing, stop_alike}
use Rattle.laws_alike.proofs.Pairing.{numbers_same}
use Rattle.laws_alike.proofs.Worlds.{agree_cases}

pub number_same : (world : World) (u v : Value) → Values world u v → number_of u ≡ number_of v
number_same world u v h = agree_cases world.pairs (λ u v. number_of u ≡ number_of v) (λ v e. refl) (λ a b p. refl) u v h

pub truth_same : (world : World) (u v : Value) → Values world u v → truth_of u ≡ truth_of v
truth_same world u v h = agree_cases world.pairs (λ u v. truth_of u ≡ truth_of v) (λ v e. refl) (λ a b p. refl) u v h

-- a node is none of the values that are no nodes
node_left : (a b : ℕ) (v : Value) → node_of v ≡ None → same_value (At a) v ≡ same_value (At b) v
node_left a b Undefined e = refl
node_left a b Null e = refl
node_left a b (Truth c) e = refl
node_left a b (Int z) e = refl
node_left a b (Text text) e = refl
node_left a b (At n) e = absurd cc
node_left a b Empty e = refl

node_right : (a b : ℕ) (v : Value) → node_of v ≡ None → same_value v (At a) ≡ same_value v (At b)
node_right a b Undefined e = refl
node_right a b Null e = refl
node_right a b (Truth c) e = refl
node_right a b (Int z) e = refl
node_right a b (Text text) e = refl
node_right a b (At n) e = absurd cc
node_right a b Empty e = refl

pub same_same : {world : World} {one other : Heap} → Alike world one other → (u v x y : Value) → Values world u v → Values world x y → same_value u x ≡ same_value v y
same_same {world} alike u v x y e h =
    agree_cases world.pairs (λ u v. same_value u x ≡ same_value v y)
    (λ v plain. agree_cases world.pairs (λ x y. same_value v x ≡ same_value v y) (λ y also. refl) (λ c d q. node_right c d v plain) x y h)
    (λ a b p. agree_cases world.pairs (λ x y. same_value (At a) x ≡ same_value (At b) y) (node_left a b) (λ c d q. numbers_same alike a b c d p q) x y h)
    u v e

-- operations on numbers, sums and comparisons
on_numbers_same : (world : World) (op : ℤ → ℤ → Result Value Stop) (u v x y : Value) → Values world u v → Values world x y → on_numbers op u x ≡ on_numbers op v y
on_numbers_same world op u v x y e h =
    ap (λ (r : Result ℤ Stop). r >>= λ a. number_of x >>= λ b. op a b) (number_same world u v e)
    ∙ ap (λ (r : Result ℤ Stop). number_of v >>= λ a. r >>= λ b. op a b) (number_same world x y h)

added_left : (a b : ℕ) (v : Value) → added (At a) v ≡ added (At b) v
added_left a b Undefined = refl
added_left a b Null = refl
added_left a b (Truth c) = refl
added_left a b (Int z) = refl
added_left a b (Text text) = refl
added_left a b (At n) = refl
added_left a b Empty = refl

added_right : (a b : ℕ) (v : Value) → added v (At a) ≡ added v (At b)
added_right a b Undefined = refl
added_right a b Null = refl
added_right a b (Truth c) = refl
added_right a b (Int z) = refl
added_right a b (Text text) = refl
added_right a b (At n) = refl
added_right a b Empty = refl

added_same : (world : World) (u v x y : Value) → Values world u v → Values world x y → added u x ≡ added v y
added_same world u v x y e h =
    agree_cases world.pairs (λ u v. added u x ≡ added v x) (λ v plain. refl) (λ a b p. added_left a b x) u v e
    ∙ agree_cases world.pairs (λ x y. added v x ≡ added v y) (λ y plain. refl) (λ c d q. added_right c d v) x y h

less_right : (a b : ℕ) (v : Value) → less v (At a) ≡ less v (At b)
less_right a b Undefined = refl
less_right a b Null = refl
less_right a b (Truth c) = refl
less_right a b (Int z) = refl
less_right a b (Text text) = refl
less_right a b (At n) = refl
less_right a b Empty = refl

less_same : (world : World) (u v x y : Value) → Values world u v → Values world x y → less u x ≡ less v y
less_same world u v x y e h =
    agree_cases world.pairs (λ u v. less u x ≡ less v x) (λ v plain. refl) (λ a b p. refl) u v e
    ∙ agree_cases world.pairs (λ x y. less v x ≡ less v y) (λ y plain. refl) (λ c d q. less_right c d v) x y h

pub binary_same : {world : World} {one other : Heap} → Alike world one other → (op : BinaryOp) (u v x y : Value) → Values world u v → Values world x y → binary_value op u x ≡ binary_value op v y
binary_same {world} alike binary.Add u v x y e h = added_same world u v x y e h
binary_same {world} alike binary.Sub u v x y e h = on_numbers_same world _ u v x y e h
binary_same {world} alike binary.Mul u v x y e h = on_numbers_same world _ u v x y e h
binary_same {world} alike binary.Div u v x y e h = on_numbers_same world _ u v x y e h
binary_same {world} alike binary.Rem u v x y e h = on_numbers_same world _ u v x y e h
binary_same {world} alike binary.BitAnd u v x y e h = on_numbers_same world _ u v x y e h
binary_same {world} alike binary.BitXor u v x y e h = on_numbers_same world _ u v x y e h
binary_same {world} alike binary.BitOr u v x y e h = on_numbers_same world _ u v x y e h
binary_same {world} alike binary.Shl u v x y e h = on_numbers_same world _ u v x y e h
binary_same {world} alike binary.Shr u v x y e h = on_numbers_same world _ u v x y e h
binary_same {world} alike binary.UShr u v x y e h = on_numbers_same world _ u v x y e h
binary_same {world} alike binary.Less u v x y e h = ap truth (less_same world u v x y e h)
binary_same {world} alike binary.Greater u v x y e h = ap truth (less_same world x y u v h e)
binary_same {world} alike binary.LessEqual u v x y e h = ap untruth (less_same world x y u v h e)
binary_same {world} alike binary.GreaterEqual u v x y e h = ap untruth (less_same world u v x y e h)
binary_same {world} alike binary.Same u v x y e h = ap (λ b. Ok (Truth b)) (same_same alike u v x y e h)
binary_same {world} alike binary.NotSame u v x y e h = ap (λ b. Ok (Truth (not b))) (same_same alike u v x y e h)

pub unary_same : (world : World) (op : UnaryOp) (u v : Value) → Values world u v → unary_value op u ≡ unary_value op v
unary_same world op u v h = agree_cases world.pairs (λ u v. unary_value op u ≡ unary_value op v) (λ v e. refl) (λ a b p. node_operand a b op) u v h
  where
    node_operand : (a b : ℕ) (op : UnaryOp) → unary_value op (At a) ≡ unary_value op (At b)
    node_operand a b unary.Plus = refl
    node_operand a b unary.Minus = refl
    node_operand a b unary.BitNot = refl
    node_operand a b unary.Not = refl

-- what operators give is no node
no_node : (world : World) (v : Value) → IsValue 0 v → Values world v v
no_node world Undefined h = refl
no_node world Null h = refl
no_node world (Truth b) h = refl
no_node world (Int z) h = refl
no_node world (Text text) h = refl
no_node world (At n) h = absurd (omega (arith, h))
no_node world Empty h = absurd h

given_alike : {world : World} (r : Result Value Stop) → ((v : Value) → r ≡ Ok v → Values world v v) → GoAlike Alike Values world (or_stop r) (or_stop r)
given_alike (Ok v) h = give_alike v v (h v refl)
given_alike (Err why) h = stop_alike why

pub binary_alike : {world : World} (op : BinaryOp) (u v x y : Value) → Values world u v → Values world x y → GoAlike Alike Values world (or_stop (binary_value op u x)) (or_stop (binary_value op v y))
binary_alike {world} op u v x y e h =
    knowing (λ one other alike.
    subst (λ r. GoAlike Alike Values world (or_stop (binary_value op u x)) (or_stop r)) (binary_same alike op u v x y e h)
    (given_alike (binary_value op u x) (λ w given. no_node world w (binary_gives 0 op u x w given))))

number_given : {world : World} (r : Result ℤ Stop) (f : ℤ → ℤ) → GoAlike Alike Values world (or_stop (r >>= λ z. Ok (Int (f z)))) (or_stop (r >>= λ z. Ok (Int (f z))))
number_given (Ok z) f = give_alike (Int (f z)) (Int (f z)) refl
number_given (Err why) f = stop_alike why

operand_alike : {world : World} (op : UnaryOp) (u : Value) → GoAlike Alike Values world (or_stop (unary_value op u)) (or_stop (unary_value op u))
operand_alike unary.Plus u = number_given (number_of u) (λ z. z)
operand_alike unary.Minus u = number_given (number_of u) neg_ℤ
operand_alike unary.BitNot u = number_given (number_of u) (λ z. inverted (to_int32 z))
operand_alike unary.Not u = give_alike (Truth (not (truth_of u))) (Truth (not (truth_of u))) refl

pub unary_alike : {world : World} (op : UnaryOp) (u v : Value) → Values world u v → GoAlike Alike Values world (or_stop (unary_value op u)) (or_stop (unary_value op v))
unary_alike {world} op u v h = subst (λ r. GoAlike Alike Values world (or_stop (unary_value op u)) (or_stop r)) (unary_same world op u v h) (operand_alike op u)
