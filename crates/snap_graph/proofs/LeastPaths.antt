-- The order of paths.
use Rattle.std.proofs.Common.{◌≡◌, ◌≢◌, ℕ, List, length, refl}
use Rattle.std.specs.Cmp.{IsTotalOrder}
use Rattle.std.specs.Cmp.Lexicographic.{slice_cmp}
use Rattle.std.specs.Ordering.{nat_cmp, ordering_reverse, ordering_then}
use Rattle.std.specs.declared.cmp.Ordering.{Ordering}
use Rattle.std.specs.declared.cmp.Ordering.TheVariants.{Less, Equal, Greater}
use Rattle.std.proofs.lemmas.Cmp.{nat_cmp_total, nat_list_cmp_total, on_total, then_total}
use Rattle.std.proofs.lemmas.Map.Lookups.{exact_bytes}
use Rattle.snap_graph.specs.Paths.{IsLeast, path_cmp}

pub paths_total : IsTotalOrder path_cmp
paths_total = then_total (on_total (λ path. length path) nat_cmp_total) nat_list_cmp_total

-- what comes last of two orders that tell nothing apart
last_order : (first last : Ordering) → ordering_then first last ≡ Equal → last ≡ Equal
last_order Less last e = absurd cc
last_order Equal last e = e
last_order Greater last e = absurd cc

-- paths that the order does not tell apart are one
pub one_path : (path other : List ℕ) → path_cmp path other ≡ Equal → path ≡ other
one_path path other e = exact_bytes path other (last_order (nat_cmp (length path) (length other)) (slice_cmp nat_cmp path other) e)

-- neither is greater
neither : (one other : Ordering) → one ≡ ordering_reverse other → one ≢ Greater → other ≢ Greater → one ≡ Equal
neither Less Less e p q = absurd cc
neither Less Equal e p q = absurd cc
neither Less Greater e p q = absurd (q refl)
neither Equal other e p q = refl
neither Greater other e p q = absurd (p refl)

-- there is one least path at most
pub one_least : (Among : List ℕ → Type 0) (path other : List ℕ) → IsLeast Among path → IsLeast Among other → path ≡ other
one_least Among path other one two =
    one_path path other (neither (path_cmp path other) (path_cmp other path) (paths_total.antisymm path other) (one.1 other two.0) (two.1 path one.0))
