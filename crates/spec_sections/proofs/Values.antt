-- Values with something behind them.
use Rattle.std.proofs.Common.{◌≡◌, ℕ, ◌+◌, ◌-◌, ◌<◌, min, ℤ, pos, negsuc, true, false, List, [], ◌∷◌, ◌++◌, length, get_or, All, sym, refl, ap, ◌∙◌, ⊎_elim, arith, length-append, append_assoc}
use Rattle.std.specs.List.{flat_map}
use Rattle.std.proofs.lemmas.Bool.{cases_eq, eq-eqb, ne_eqb}
use Rattle.std.proofs.lemmas.List.Elements.{All-head, All-tail}
use Rattle.spec_format.specs.Varint.{varint}
use Rattle.snap_graph.specs.declared.value.Value.{Value}
use Rattle.snap_graph.specs.declared.value.Value.TheVariants.{Undefined, Null, Bool, Int, Text, Node, Empty}
use Rattle.spec_sections.specs.Global.{zigzag, text_number, global_node, value_bytes}
use Rattle.spec_sections.specs.Texts.{HasText}
use Rattle.spec_sections.proofs.Texts.{same_text}
use Rattle.spec_sections.proofs.Varints.{same_varint}

-- integers of one zigzag number are one integer
same_integer : (a b : ℤ) → zigzag a ≡ zigzag b → a ≡ b
same_integer (pos m) (pos n) e = ap pos (omega arith)
same_integer (pos m) (negsuc n) e = absurd (omega arith)
same_integer (negsuc m) (pos n) e = absurd (omega arith)
same_integer (negsuc m) (negsuc n) e = ap negsuc (omega arith)

-- which variant a value is
kind : Value → ℕ
kind Undefined = 0
kind Null = 1
kind (Bool b) = 2
kind Empty = 3
kind (Int z) = 4
kind (Text text) = 5
kind (Node node) = 6

-- the variant that a first byte tells: 2 and 3 are truth values, and 7 and 8 are nodes
kind_of_byte : ℕ → ℕ
kind_of_byte byte = min byte 2 + min (byte - 3) 4

-- the global object, and another node
global_bytes : (strings : List (List ℕ)) (node : ℕ) → node ≡ global_node → value_bytes strings (Node node) ≡ 0x08 ∷ varint 0
global_bytes strings node e = rw (eq-eqb node global_node e) refl

node_bytes : (strings : List (List ℕ)) (node : ℕ) → (node ≡ global_node → ⊥) → value_bytes strings (Node node) ≡ 0x07 ∷ varint node
node_bytes strings node e = rw (ne_eqb node global_node e) refl

-- the kind is read from the first byte
kind_is : (strings : List (List ℕ)) (value : Value) (x : List ℕ) → kind value ≡ kind_of_byte (get_or (value_bytes strings value ++ x) 0 0)
unfolding kind kind_of_byte
kind_is strings Undefined x = refl
kind_is strings Null x = refl
kind_is strings (Bool false) x = refl
kind_is strings (Bool true) x = refl
kind_is strings Empty x = refl
kind_is strings (Int z) x = refl
kind_is strings (Text text) x = refl
kind_is strings (Node node) x =
    ⊎_elim (λ (e : node ≡ global_node). rw (global_bytes strings node e) refl) (λ (e : node ≡ global_node → ⊥). rw (node_bytes strings node e) refl) (cases_eq node global_node)

-- nodes with something behind them
same_node : (strings : List (List ℕ)) (m n : ℕ) (x y : List ℕ) → value_bytes strings (Node m) ++ x ≡ value_bytes strings (Node n) ++ y → (m ≡ n) × (x ≡ y)
same_node strings m n x y e =
    ⊎_elim
    (λ (p : m ≡ global_node).
    ⊎_elim
    (λ (q : n ≡ global_node).
    let both : (0x08 ∷ (varint 0 ++ x)) ≡ (0x08 ∷ (varint 0 ++ y)) = rw (global_bytes strings m p, global_bytes strings n q) at e in
    (p ∙ sym q, (same_varint 0 0 x y (cc)).1))
    (λ (q : n ≡ global_node → ⊥).
    let both : (0x08 ∷ (varint 0 ++ x)) ≡ (0x07 ∷ (varint n ++ y)) = rw (global_bytes strings m p, node_bytes strings n q) at e in
    let head : ◌≡◌ {A = ℕ} 8 7 = cc in
    absurd (omega arith))
    (cases_eq n global_node))
    (λ (p : m ≡ global_node → ⊥).
    ⊎_elim
    (λ (q : n ≡ global_node).
    let both : (0x07 ∷ (varint m ++ x)) ≡ (0x08 ∷ (varint 0 ++ y)) = rw (node_bytes strings m p, global_bytes strings n q) at e in
    let head : ◌≡◌ {A = ℕ} 7 8 = cc in
    absurd (omega arith))
    (λ (q : n ≡ global_node → ⊥).
    let both : (0x07 ∷ (varint m ++ x)) ≡ (0x07 ∷ (varint n ++ y)) = rw (node_bytes strings m p, node_bytes strings n q) at e in
    same_varint m n x y (cc))
    (cases_eq n global_node))
    (cases_eq m global_node)

-- values of one kind with something behind them
same_of_kind : (strings : List (List ℕ)) (v w : Value) (x y : List ℕ) → HasText strings v → HasText strings w → kind v ≡ kind w → value_bytes strings v ++ x ≡ value_bytes strings w ++ y
    → (v ≡ w) × (x ≡ y)
unfolding kind
same_of_kind strings Undefined Undefined x y p q k e = (refl, cc)
same_of_kind strings Null Null x y p q k e = (refl, cc)
same_of_kind strings (Bool false) (Bool false) x y p q k e = (refl, cc)
same_of_kind strings (Bool false) (Bool true) x y p q k e =
    let head : ◌≡◌ {A = ℕ} 2 3 = cc in
    absurd (omega arith)
same_of_kind strings (Bool true) (Bool false) x y p q k e =
    let head : ◌≡◌ {A = ℕ} 3 2 = cc in
    absurd (omega arith)
same_of_kind strings (Bool true) (Bool true) x y p q k e = (refl, cc)
same_of_kind strings Empty Empty x y p q k e = (refl, cc)
same_of_kind strings (Int a) (Int b) x y p q k e =
    let same = same_varint (zigzag a) (zigzag b) x y (cc) in
    (ap Int (same_integer a b same.0), same.1)
same_of_kind strings (Text s) (Text t) x y p q k e =
    let same = same_varint (text_number strings s) (text_number strings t) x y (cc) in
    (ap Text (same_text strings s t p q same.0), same.1)
same_of_kind strings (Node m) (Node n) x y p q k e =
    let same = same_node strings m n x y e in
    (ap Node same.0, same.1)
same_of_kind strings v w x y p q k e = absurd (omega (arith, k))

-- what begins with a value tells the value and what stands behind it
same_value : (strings : List (List ℕ)) (v w : Value) (x y : List ℕ) → HasText strings v → HasText strings w → value_bytes strings v ++ x ≡ value_bytes strings w ++ y → (v ≡ w) × (x ≡ y)
same_value strings v w x y p q e =
    same_of_kind strings v w x y p q (kind_is strings v x ∙ ap (λ (bytes : List ℕ). kind_of_byte (get_or bytes 0 0)) e ∙ sym (kind_is strings w y)) e

-- a value has a byte
some_bytes : (strings : List (List ℕ)) (value : Value) → 0 < length (value_bytes strings value)
some_bytes strings Undefined = omega arith
some_bytes strings Null = omega arith
some_bytes strings (Bool false) = omega arith
some_bytes strings (Bool true) = omega arith
some_bytes strings Empty = omega arith
some_bytes strings (Int z) = omega arith
some_bytes strings (Text text) = omega arith
some_bytes strings (Node node) =
    ⊎_elim
    (λ (e : node ≡ global_node). rw (global_bytes strings node e) (omega arith))
    (λ (e : node ≡ global_node → ⊥). rw (node_bytes strings node e) (omega arith))
    (cases_eq node global_node)

-- values with one end behind them
pub same_values : (strings : List (List ℕ)) (values others : List Value) (end : List ℕ) → All (HasText strings) values → All (HasText strings) others
    → flat_map (value_bytes strings) values ++ end ≡ flat_map (value_bytes strings) others ++ end → values ≡ others
same_values strings [] [] end p q e = refl
same_values strings [] (w ∷ ws) end p q e =
    absurd (omega (arith, ap length e, length-append (value_bytes strings w ++ flat_map (value_bytes strings) ws) end, length-append (value_bytes strings w) (flat_map (value_bytes strings) ws), some_bytes strings w))
same_values strings (v ∷ vs) [] end p q e =
    absurd (omega (arith, ap length e, length-append (value_bytes strings v ++ flat_map (value_bytes strings) vs) end, length-append (value_bytes strings v) (flat_map (value_bytes strings) vs), some_bytes strings v))
same_values strings (v ∷ vs) (w ∷ ws) end p q e =
    let fact = HasText strings in
    let front = same_value strings v w _ _ (All-head fact v vs p) (All-head fact w ws q) (rw (append_assoc, append_assoc) at e) in
    let rest = same_values strings vs ws end (All-tail fact v vs p) (All-tail fact w ws q) front.1 in
    let head : v ≡ w = front.0 in
    cc
