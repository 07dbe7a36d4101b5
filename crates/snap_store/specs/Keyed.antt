-- Which keys are known of kept properties.
use Rattle.std.specs.Prelude.{◌≡◌, ℕ, All, List, get_or, Option, Some}
use Rattle.std.specs.Option.{ForSome}
use Rattle.std.specs.Coded.{Coded-set, Π_prop, coded_option}
use Rattle.snap_text.specs.contracts.key.Key as key_row
use Rattle.snap_text.specs.declared.key.Key.{Key}
use Rattle.snap_store.specs.declared.plain_node.PlainNode.{PlainNode}
use Rattle.snap_store.specs.declared.plain_node.PlainProperty.{PlainProperty}

-- the key that is known of a property is that of its text
abbrev pub IsKeyed : (List ℕ → Option Key) → PlainProperty → Type 0
IsKeyed key_of property = ForSome property.known (λ key. key_of property.key ≡ Some key)

-- so it is of each property of a node, and of each node
abbrev pub IsNodeKeyed : (List ℕ → Option Key) → PlainNode → Type 0
IsNodeKeyed key_of node = All (IsKeyed key_of) node.properties.items

abbrev pub AreNodesKeyed : (List ℕ → Option Key) → List PlainNode → Type 0
AreNodesKeyed key_of nodes = All (IsNodeKeyed key_of) nodes

OptionKey-set : IsSet (Option Key)
OptionKey-set = Coded-set (coded_option key_row.the_row.coded)

IsKeyed-prop : (key_of : List ℕ → Option Key) (property : PlainProperty) → IsProp (IsKeyed key_of property)
IsKeyed-prop key_of property = Π_prop (λ key. Π_prop (λ known. OptionKey-set _ _))

IsNodeKeyed-prop : (key_of : List ℕ → Option Key) (node : PlainNode) → IsProp (IsNodeKeyed key_of node)
IsNodeKeyed-prop key_of node =
    let each : IsProp (All (IsKeyed key_of) node.properties.items) = Π_prop (λ k. Π_prop (λ d. Π_prop (λ h. IsKeyed-prop key_of (get_or node.properties.items k d)))) in
    each

pub AreNodesKeyed-prop : (key_of : List ℕ → Option Key) (nodes : List PlainNode) → IsProp (AreNodesKeyed key_of nodes)
AreNodesKeyed-prop key_of nodes =
    let each : IsProp (All (IsNodeKeyed key_of) nodes) = Π_prop (λ k. Π_prop (λ d. Π_prop (λ h. IsNodeKeyed-prop key_of (get_or nodes k d)))) in
    each
