-- Functions and scopes that are made with what they hold, and slots that are written.
use Rattle.std.proofs.Common.{◌≡◌, ℕ, ◌+◌, inl, inr, Bool, true, false, nat_lt, All, List, [], ◌∷◌, ◌++◌, length, get_or, slice_get, Option, None, Some, refl, sym, ap, subst, ◌∙◌, ⊎_elim, arith, if◌then◌else◌, append_assoc, append-nil, length-append}
use Rattle.std.specs.List.{slice_set}
use Rattle.std.specs.Option.{option_map_or}
use Rattle.std.proofs.lemmas.Bool.{false≢true}
use Rattle.std.proofs.lemmas.List.{get_or-take, length-set}
use Rattle.std.proofs.lemmas.List.Elements.{All-cons, All-head, All-nil, All-push, All-set, All-tail, All-weaker}
use Rattle.std.proofs.lemmas.Option.{slice_get-get_or, slice_get_within}
use Rattle.snap_ast.specs.declared.tree.Tree.{Tree}
use Rattle.snap_base.specs.declared.limits.TheConstants.{MOST_PRIVATE_NODES}
use Rattle.snap_base.specs.declared.stop.Stop.{Stop}
use Rattle.snap_base.specs.declared.stop.Stop.TheVariants.{TooManyNodes}
use Rattle.snap_graph.specs.declared.intrinsic.TheConstants.{FUNCTION_PROTOTYPE, OBJECT_PROTOTYPE}
use Rattle.snap_graph.specs.declared.kind.Kind.{Kind}
use Rattle.snap_graph.specs.declared.kind.Kind.TheVariants as kind
use Rattle.snap_graph.specs.declared.kind.ScopeKind.{ScopeKind}
use Rattle.snap_graph.specs.declared.node.Node.{Node}
use Rattle.snap_graph.specs.declared.value.Property.{Property}
use Rattle.snap_graph.specs.declared.value.Value.{Value}
use Rattle.snap_graph.specs.declared.value.Value.TheVariants.{Undefined, Null, Bool as Truth, Int, Text, Node as At, Empty}
use Rattle.snap_graph.specs.Intrinsics.{constructors, frozen_node, host_objects, intrinsics, prototypes}
use Rattle.snap_graph.specs.Lawful.{AreElements, AreRecords, IsLawful, IsLawfulNode, IsPrototype, is_scope}
use Rattle.snap_graph.specs.Values.{IsPlace, IsValue}
use Rattle.spec_scopes.specs.declared.need.ScopeNeed.{ScopeNeed}
use Rattle.spec_scopes.specs.Valid.{ClosesOver, Inside, IsChain, IsFunctionIn, IsValid, IsValidNode, Outermost}
use Rattle.spec_values.specs.Answer.{◌>>=◌, HeapAnswer, Gave, Heap, Stopped, followed, give}
use Rattle.spec_values.specs.Operations.{MayHold, add_element, add_elements, changed, make_function, make_scope, new_node, set_element, with_element, with_elements, with_nodes}
use Rattle.spec_values.specs.State.{left_by}
use Rattle.spec_values.proofs.Elements.{with_element_lawful, with_more_lawful}
use Rattle.spec_values.proofs.Ending.{read_last}
use Rattle.spec_values.proofs.Keeping.{place_kept}
use Rattle.spec_values.proofs.Made.{enough, made_lawful}
use Rattle.laws_valid.specs.Leaving.{Anything, IsObject, IsOuter, IsScope, IsSlot, LeavesValid, Stays}
use Rattle.laws_valid.proofs.Keeping.{IsNoScope, all_stay, chain_kept, changed_grows, more_grows, more_unscoped, unscoped_kept}
use Rattle.laws_valid.proofs.Sound.{Sound, elements_sound, node_kept, node_stays}

-- a function with the scope that it closes over, and a scope with its slots
abbrev pub function_node : ℕ → ℕ → Value → Node
function_node script tree scope = record { kind = kind.Function script tree; prototype = At FUNCTION_PROTOTYPE; frozen = false; properties = []; elements = scope ∷ [] }

abbrev pub scope_node : ScopeKind → Value → List Value → Node
scope_node scope outer slots = record { kind = kind.Scope scope; prototype = outer; frozen = false; properties = []; elements = slots }

-- a heap with one more node, and how an action ends that makes it
abbrev one_more : Heap → Node → Heap
one_more heap x = record { nodes = heap.nodes ++ x ∷ []; private_nodes = heap.private_nodes + 1; keys = heap.keys }

abbrev made : Heap → Node → HeapAnswer ℕ
made heap x = if nat_lt heap.private_nodes MOST_PRIVATE_NODES then Gave (length heap.nodes) (one_more heap x) else Stopped TooManyNodes heap

-- the last of nodes is changed
changed_last : (change : Node → Node) (nodes : List Node) (x : Node) → changed change (nodes ++ x ∷ []) (length nodes) ≡ nodes ++ change x ∷ []
changed_last change [] x = refl
changed_last change (first ∷ rest) x = ap (λ (ns : List Node). first ∷ ns) (changed_last change rest x)

-- so a function is made with its scope
pub function_made : (script tree : ℕ) (scope : Value) (heap : Heap) → make_function script tree scope heap ≡ made heap (function_node script tree scope)
function_made script tree scope heap = by (nat_lt heap.private_nodes MOST_PRIVATE_NODES)
  where
    by : (b : Bool) → ◌≡◌ {A = HeapAnswer ℕ} (followed (if b then Gave (length heap.nodes) (one_more heap (new_node (kind.Function script tree) (At FUNCTION_PROTOTYPE))) else Stopped TooManyNodes heap) (λ number. add_element number scope >>= λ _. give number))
        (if b then Gave (length heap.nodes) (one_more heap (function_node script tree scope)) else Stopped TooManyNodes heap)
    by true = ap (λ ns. Gave (length heap.nodes) (with_nodes (one_more heap (new_node (kind.Function script tree) (At FUNCTION_PROTOTYPE))) ns)) (changed_last (with_elements (λ elements. elements ++ scope ∷ [])) heap.nodes (new_node (kind.Function script tree) (At FUNCTION_PROTOTYPE)))
    by false = refl

-- slots are put behind those that a scope has
slots_added : (scope : ScopeKind) (outer : Value) (nodes : List Node) (slots before : List Value) (heap : Heap) → heap.nodes ≡ nodes ++ scope_node scope outer before ∷ []
    → add_elements (length nodes) slots heap ≡ Gave tt (with_nodes heap (nodes ++ scope_node scope outer (before ++ slots) ∷ []))
slots_added scope outer nodes [] before heap e = ap (λ ns. Gave tt (with_nodes heap ns)) (e ∙ ap (λ (held : List Value). nodes ++ scope_node scope outer held ∷ []) (sym (append-nil before)))
slots_added scope outer nodes (slot ∷ rest) before heap e =
    let change = with_elements (λ elements. elements ++ slot ∷ []) in
    slots_added scope outer nodes rest (before ++ slot ∷ []) (with_nodes heap (changed change heap.nodes (length nodes)))
    (ap (λ (ns : List Node). changed change ns (length nodes)) e ∙ changed_last change nodes (scope_node scope outer before))
    ∙ ap (λ (held : List Value). Gave tt (with_nodes heap (nodes ++ scope_node scope outer held ∷ []))) (append_assoc before (slot ∷ []) rest)

pub scope_made : (scope : ScopeKind) (outer : Value) (slots : List Value) (heap : Heap) → make_scope scope outer slots heap ≡ made heap (scope_node scope outer slots)
scope_made scope outer slots heap = by (nat_lt heap.private_nodes MOST_PRIVATE_NODES)
  where
    by : (b : Bool) → ◌≡◌ {A = HeapAnswer ℕ} (followed (if b then Gave (length heap.nodes) (one_more heap (new_node (kind.Scope scope) outer)) else Stopped TooManyNodes heap) (λ number. add_elements number slots >>= λ _. give number))
        (if b then Gave (length heap.nodes) (one_more heap (scope_node scope outer slots)) else Stopped TooManyNodes heap)
    by true = ap (λ answer. followed answer (λ _. give (length heap.nodes))) (slots_added scope outer heap.nodes slots [] (one_more heap (new_node (kind.Scope scope) outer)) refl)
    by false = refl

-- where it stops the heap is as it was, and otherwise there is one more node
pub stopped_made : (heap after : Heap) (x : Node) (why : Stop) → made heap x ≡ Stopped why after → (why ≡ TooManyNodes) × (after ≡ heap)
stopped_made heap after x why e = by (nat_lt heap.private_nodes MOST_PRIVATE_NODES) e
  where
    by : (b : Bool) → ◌≡◌ {A = HeapAnswer ℕ} (if b then Gave (length heap.nodes) (one_more heap x) else Stopped TooManyNodes heap) (Stopped why after) → (why ≡ TooManyNodes) × (after ≡ heap)
    by true e = absurd cc
    by false e = (cc, cc)

given_made : (heap after : Heap) (x : Node) (number : ℕ) → made heap x ≡ Gave number after → (number ≡ length heap.nodes) × (after ≡ one_more heap x)
given_made heap after x number e = by (nat_lt heap.private_nodes MOST_PRIVATE_NODES) e
  where
    by : (b : Bool) → ◌≡◌ {A = HeapAnswer ℕ} (if b then Gave (length heap.nodes) (one_more heap x) else Stopped TooManyNodes heap) (Gave number after) → (number ≡ length heap.nodes) × (after ≡ one_more heap x)
    by true e = (cc, cc)
    by false e = absurd cc

-- values and chains stay where a node is made
made_stays : (heap : Heap) (x : Node) → Stays heap.nodes (left_by (made heap x)).nodes
made_stays heap x = by (nat_lt heap.private_nodes MOST_PRIVATE_NODES)
  where
    by : (b : Bool) → Stays heap.nodes (left_by {A = ℕ} (if b then Gave (length heap.nodes) (one_more heap x) else Stopped TooManyNodes heap)).nodes
    by true = all_stay heap.nodes (heap.nodes ++ x ∷ []) (more_grows heap.nodes x)
    by false = record { values = λ value h. h; chains = λ value needs chain. chain }

pub function_stays : (script tree : ℕ) (scope : Value) (heap : Heap) → Stays heap.nodes (left_by (make_function script tree scope heap)).nodes
function_stays script tree scope heap =
    subst (λ (answer : HeapAnswer ℕ). Stays heap.nodes (left_by answer).nodes) (sym (function_made script tree scope heap)) (made_stays heap (function_node script tree scope))

pub scope_stays : (scope : ScopeKind) (outer : Value) (slots : List Value) (heap : Heap) → Stays heap.nodes (left_by (make_scope scope outer slots heap)).nodes
scope_stays scope outer slots heap =
    subst (λ (answer : HeapAnswer ℕ). Stays heap.nodes (left_by answer).nodes) (sym (scope_made scope outer slots heap)) (made_stays heap (scope_node scope outer slots))

-- the scopes from a new scope on are it and those round it
pub scope_inside : (scope : ScopeKind) (outer : Value) (slots : List Value) (needs : List ScopeNeed) (number : ℕ) (heap after : Heap) → make_scope scope outer slots heap ≡ Gave number after
    → IsChain heap.nodes outer needs → IsChain after.nodes (At number) (record { kind = scope; slots = length slots } ∷ needs)
scope_inside scope outer slots needs number heap after e chain =
    let x = scope_node scope outer slots in
    let is = given_made heap after x number (sym (scope_made scope outer slots heap) ∙ e) in
    let inside : IsChain (heap.nodes ++ x ∷ []) (At (length heap.nodes)) (record { kind = scope; slots = length slots } ∷ needs) =
    Inside (read_last heap.nodes x) refl (chain_kept heap.nodes (heap.nodes ++ x ∷ []) (more_grows heap.nodes x) chain) in
    subst (λ (h : Heap). IsChain h.nodes (At number) (record { kind = scope; slots = length slots } ∷ needs)) (sym is.1)
    (subst (λ (n : ℕ). IsChain (heap.nodes ++ x ∷ []) (At n) (record { kind = scope; slots = length slots } ∷ needs)) (sym is.0) inside)

-- what is made is valid where the heap with one more node is
made_valid : (scripts : List Tree) (P : List Node → ℕ → Type 0) (heap : Heap) (x : Node) → IsValid heap.nodes scripts → IsValid (heap.nodes ++ x ∷ []) scripts → P (heap.nodes ++ x ∷ []) (length heap.nodes) → LeavesValid scripts P (made heap x)
made_valid scripts P heap x valid more p = by (nat_lt heap.private_nodes MOST_PRIVATE_NODES)
  where
    by : (b : Bool) → LeavesValid scripts P (if b then Gave (length heap.nodes) (one_more heap x) else Stopped TooManyNodes heap)
    by true = (more, p)
    by false = valid

-- Function.prototype is an intrinsic
function_may_be : (nodes : List Node) (script tree : ℕ) → IsLawful nodes → IsPrototype nodes (kind.Function script tree) (At FUNCTION_PROTOTYPE)
unfolding intrinsics prototypes constructors host_objects
function_may_be nodes script tree lawful =
    let it = frozen_node (kind.Native FUNCTION_PROTOTYPE) (At OBJECT_PROTOTYPE) [] in
    (it, slice_get-get_or nodes 1 it (omega (arith, enough nodes lawful)) ∙ ap Some (sym (get_or-take 62 nodes 1 it (omega arith)) ∙ ap (λ (ns : List Node). get_or ns 1 it) lawful.intrinsics), refl)

-- the first scope of a chain is one of the nodes
chain_value : (nodes : List Node) {value : Value} {needs : List ScopeNeed} → IsChain nodes value needs → IsValue (length nodes) value
chain_value nodes Outermost = tt
chain_value nodes (Inside {number = number} {node = node} read is rest) = slice_get_within nodes number node read

module _ (scripts : List Tree) (script tree : ℕ) (scope : Value) (needs : List ScopeNeed) (nodes : List Node) (valid : IsValid nodes scripts) (chain : IsChain nodes scope needs) where
  function_lawful : IsLawful (nodes ++ function_node script tree scope ∷ [])
  function_lawful =
      let first = new_node (kind.Function script tree) (At FUNCTION_PROTOTYPE) in
      let mid = nodes ++ first ∷ [] in
      subst IsLawful (changed_last (with_elements (λ elements. elements ++ scope ∷ [])) nodes first)
      (with_more_lawful mid (length nodes) first (made_lawful nodes (kind.Function script tree) (At FUNCTION_PROTOTYPE) valid.lawful (function_may_be nodes script tree valid.lawful) (λ n e. absurd cc))
      (read_last nodes first) scope (chain_value mid (chain_kept nodes mid (more_grows nodes first) chain)))

  function_fits : IsFunctionIn scripts script tree needs → IsValidNode (nodes ++ function_node script tree scope ∷ []) scripts (function_node script tree scope)
  function_fits function =
      let x = function_node script tree scope in
      let after = nodes ++ x ∷ [] in
      let closes : ClosesOver after scripts script tree (scope ∷ []) = record { scope = scope; needs = needs; one = refl; scopes = chain_kept nodes after (more_grows nodes x) chain; function = function } in
      record {
        functions = λ s n is.
            let same : script ≡ s = cc in
            let number : tree ≡ n = cc in
            subst (λ (m : ℕ). ClosesOver after scripts m n (scope ∷ [])) same (subst (λ (m : ℕ). ClosesOver after scripts script m (scope ∷ [])) number closes);
        elements = λ other. absurd (other script tree refl);
        properties = All-nil (λ (p : Property). IsNoScope after p.value);
      }

-- a function is made valid
pub function_valid : (scripts : List Tree) (script tree : ℕ) (scope : Value) (needs : List ScopeNeed) (heap : Heap) → IsValid heap.nodes scripts → IsFunctionIn scripts script tree needs → IsChain heap.nodes scope needs
    → LeavesValid scripts IsObject (make_function script tree scope heap)
function_valid scripts script tree scope needs heap valid function chain =
    let x = function_node script tree scope in
    let after = heap.nodes ++ x ∷ [] in
    let each : Sound scripts after =
    All-push (IsValidNode after scripts) heap.nodes x
    (All-weaker (IsValidNode heap.nodes scripts) (IsValidNode after scripts) (node_stays scripts heap.nodes after (more_grows heap.nodes x) (λ value h. more_unscoped heap.nodes x value refl h)) heap.nodes valid.each)
    (function_fits scripts script tree scope needs heap.nodes valid chain function) in
    let none : IsNoScope after (At (length heap.nodes)) = ap (λ found. option_map_or (λ (node : Node). is_scope node.kind) found false) (read_last heap.nodes x) in
    subst (LeavesValid scripts IsObject) (sym (function_made script tree scope heap))
    (made_valid scripts IsObject heap x valid (record { lawful = function_lawful scripts script tree scope needs heap.nodes valid chain; each = each }) (omega (arith, length-append heap.nodes (x ∷ [])), none))

-- what stands round a scope may be its prototype
outer_may_be : (nodes : List Node) (scope : ScopeKind) (outer : Value) → IsOuter nodes outer → IsPrototype nodes (kind.Scope scope) outer
outer_may_be nodes scope outer (inl e) = subst (IsPrototype nodes (kind.Scope scope)) (sym e) tt
outer_may_be nodes scope Undefined (inr h) = absurd (false≢true h)
outer_may_be nodes scope Null (inr h) = tt
outer_may_be nodes scope (Truth b) (inr h) = absurd (false≢true h)
outer_may_be nodes scope (Int z) (inr h) = absurd (false≢true h)
outer_may_be nodes scope (Text text) (inr h) = absurd (false≢true h)
outer_may_be nodes scope (At number) (inr h) = by (slice_get nodes number) refl h
  where
    by : (found : Option Node) → slice_get nodes number ≡ found → option_map_or (λ (node : Node). is_scope node.kind) found false ≡ true → IsPrototype nodes (kind.Scope scope) (At number)
    by None e h = absurd (false≢true h)
    by (Some node) e h = (node, e, h)
outer_may_be nodes scope Empty (inr h) = absurd (false≢true h)

-- what a slot holds is a place's, and is no scope
slot_place : (nodes : List Node) (held : Value) → IsSlot nodes held → IsPlace (length nodes) held
slot_place nodes held (inl e) = inl e
slot_place nodes held (inr h) = inr h.0

slot_unscoped : (nodes : List Node) (held : Value) → IsSlot nodes held → IsNoScope nodes held
slot_unscoped nodes held (inl e) = subst (IsNoScope nodes) (sym e) refl
slot_unscoped nodes held (inr h) = h.1

-- elements of a lawful node are places
record_places : (count : ℕ) (elements : List Value) → AreRecords count elements → All (IsPlace count) elements
record_places count [] h = All-nil (IsPlace count)
record_places count (key ∷ []) h = absurd h
record_places count (key ∷ held ∷ rest) h =
    All-cons (IsPlace count) key (held ∷ rest) (⊎_elim (λ e. inl e.0) (λ e. inr e.0) h.0)
    (All-cons (IsPlace count) held rest (⊎_elim (λ e. inl e.1) (λ e. inr e.1) h.0) (record_places count rest h.1))

places : (count : ℕ) (own : Kind) (elements : List Value) → AreElements count own elements → All (IsPlace count) elements
places count kind.Plain elements h = subst (All (IsPlace count)) (sym h) (All-nil (IsPlace count))
places count kind.Array elements h = λ k d within. inr (h k d within)
places count (kind.Function script tree) elements h = λ k d within. inr (h k d within)
places count (kind.Native native) elements h = subst (All (IsPlace count)) (sym h) (All-nil (IsPlace count))
places count (kind.Scope scope) elements h = h
places count kind.Error elements h = subst (All (IsPlace count)) (sym h) (All-nil (IsPlace count))
places count kind.Map elements h = record_places count elements h.0
places count kind.Set elements h = h.0
places count (kind.Resource number closed) elements h = subst (All (IsPlace count)) (sym h) (All-nil (IsPlace count))

-- slots are added to the last node, which is a scope
slots_lawful : (scope : ScopeKind) (outer : Value) (nodes : List Node) (slots before : List Value) → All (IsPlace (length nodes)) slots → IsLawful (nodes ++ scope_node scope outer before ∷ []) → IsLawful (nodes ++ scope_node scope outer (before ++ slots) ∷ [])
slots_lawful scope outer nodes [] before h lawful = subst (λ (held : List Value). IsLawful (nodes ++ scope_node scope outer held ∷ [])) (sym (append-nil before)) lawful
slots_lawful scope outer nodes (slot ∷ rest) before h lawful =
    let x = scope_node scope outer before in
    let mid = nodes ++ x ∷ [] in
    let place = place_kept (length nodes) (length mid) slot (omega (arith, length-append nodes (x ∷ []))) (All-head (IsPlace (length nodes)) slot rest h) in
    let more = subst IsLawful (changed_last (with_elements (λ elements. elements ++ slot ∷ [])) nodes x) (with_more_lawful mid (length nodes) x lawful (read_last nodes x) slot place) in
    subst (λ (held : List Value). IsLawful (nodes ++ scope_node scope outer held ∷ [])) (append_assoc before (slot ∷ []) rest)
    (slots_lawful scope outer nodes rest (before ++ slot ∷ []) (All-tail (IsPlace (length nodes)) slot rest h) more)

-- nodes that are a graph of scripts fit the scripts where one more node is a scope
scope_sound : (scripts : List Tree) (nodes : List Node) (x : Node) → IsValid nodes scripts → IsValidNode (nodes ++ x ∷ []) scripts x → Sound scripts (nodes ++ x ∷ [])
scope_sound scripts nodes x valid fits =
    let after = nodes ++ x ∷ [] in
    All-push (IsValidNode after scripts) nodes x
    (λ k d within.
    let node = get_or nodes k d in
    let lawful : IsLawfulNode nodes node = valid.lawful.each k d within in
    node_kept scripts nodes after (more_grows nodes x) node
    (λ h i e inside. unscoped_kept nodes after (more_grows nodes x) (get_or node.elements i e) (places (length nodes) node.kind node.elements lawful.elements i e inside) (h i e inside))
    (λ h i e inside. unscoped_kept nodes after (more_grows nodes x) (get_or node.properties i e).value (inr (lawful.values i e inside)) (h i e inside))
    (valid.each k d within))
    fits

-- a scope is made valid
pub scope_valid : (scripts : List Tree) (scope : ScopeKind) (outer : Value) (slots : List Value) (heap : Heap) → IsValid heap.nodes scripts → IsOuter heap.nodes outer → All (IsSlot heap.nodes) slots
    → LeavesValid scripts IsScope (make_scope scope outer slots heap)
scope_valid scripts scope outer slots heap valid round each =
    let x = scope_node scope outer slots in
    let after = heap.nodes ++ x ∷ [] in
    let first = new_node (kind.Scope scope) outer in
    let lawful : IsLawful after =
    slots_lawful scope outer heap.nodes slots [] (All-weaker (IsSlot heap.nodes) (IsPlace (length heap.nodes)) (slot_place heap.nodes) slots each)
    (made_lawful heap.nodes (kind.Scope scope) outer valid.lawful (outer_may_be heap.nodes scope outer round) (λ n e. absurd cc)) in
    let fits : IsValidNode after scripts x = record {
      functions = λ s n is. absurd cc;
      elements = λ other. All-weaker (IsSlot heap.nodes) (IsNoScope after) (λ held h. unscoped_kept heap.nodes after (more_grows heap.nodes x) held (slot_place heap.nodes held h) (slot_unscoped heap.nodes held h)) slots each;
      properties = All-nil (λ (p : Property). IsNoScope after p.value);
    } in
    subst (LeavesValid scripts IsScope) (sym (scope_made scope outer slots heap))
    (made_valid scripts IsScope heap x valid (record { lawful = lawful; each = scope_sound scripts heap.nodes x valid fits })
    (ap (λ found. option_map_or (λ (node : Node). is_scope node.kind) found false) (read_last heap.nodes x)))

-- an element is written in its place, so no scope gets more or fewer slots
pub slot_stays : (number place : ℕ) (held : Value) (heap : Heap) → Stays heap.nodes (left_by (set_element number place held heap)).nodes
slot_stays number place held heap =
    let change = with_elements (λ elements. slice_set elements place held) in
    all_stay heap.nodes (changed change heap.nodes number) (changed_grows change (λ node. refl) (λ node. refl) heap.nodes number (λ node scope read is. length-set node.elements place held))

-- a slot is written
pub slot_valid : (scripts : List Tree) (number place : ℕ) (node : Node) (scope : ScopeKind) (held : Value) (heap : Heap) → IsValid heap.nodes scripts → slice_get heap.nodes number ≡ Some node → node.kind ≡ kind.Scope scope → IsSlot heap.nodes held
    → LeavesValid scripts Anything (set_element number place held heap)
slot_valid scripts number place node scope held heap valid at is slot =
    let may : MayHold (length heap.nodes) node.kind node.frozen held = subst (λ (own : Kind). MayHold (length heap.nodes) own node.frozen held) (sym is) (slot_place heap.nodes held slot) in
    let each : Sound scripts (with_element heap.nodes number place held) =
    elements_sound scripts (λ elements. slice_set elements place held) heap.nodes number
    (λ other script tree read own. let same : node ≡ other = cc in let kinds = ap (λ (n : Node). n.kind) same in absurd cc)
    (λ other scope read own. length-set other.elements place held)
    (λ after unscoped elements h. All-set (IsNoScope after) elements place held (unscoped held (slot_unscoped heap.nodes held slot)) h) valid.each in
    (record { lawful = with_element_lawful heap.nodes number node valid.lawful at place held may; each = each }, tt)
