-- What the checks of a list of strings say of its places.
use Rattle.std.proofs.Common.{ℕ, zero, suc, ◌<◌, ◌≤◌, List, ◌++◌, length, arith}
use Rattle.spec_format.specs.declared.fault.BlobFault.{BlobFault}
use Rattle.spec_format.specs.Check.{AllHold, FirstFault, each}
use Rattle.spec_format.specs.Strings.{count_checks, first_byte, node_count, node_end_checks, node_end_entry, string_checks, string_count, string_end_checks, string_end_entry, string_list_checks, strings_start}
use Rattle.snap_blob.specs.Ordered.{AllLie}
use Rattle.spec_format.proofs.Checks.{AllHold-append, FirstFault-left, FirstFault-right, each_at}

-- the string ends that hold stand in the section
pub string_ends_fit : (section : List ℕ) (base n : ℕ) → 8 ≤ length section → AllHold (each n (string_end_checks section base)) → string_end_entry n ≤ length section
string_ends_fit section base zero counts hold = counts
string_ends_fit section base (suc n) counts hold = omega (arith, (each_at (suc n) (string_end_checks section base) n (omega arith) hold).0)

-- the node ends that hold stand in the section
node_ends_fit : (section : List ℕ) (base n : ℕ) → string_end_entry (string_count section) ≤ length section → AllHold (each n (node_end_checks section base)) → node_end_entry section n ≤ length section
node_ends_fit section base zero strings hold = omega arith
node_ends_fit section base (suc n) strings hold = omega (arith, (each_at (suc n) (node_end_checks section base) n (omega arith) hold).0)

-- the string bytes begin within the section
pub start_fits : (section : List ℕ) (base : ℕ) → 8 ≤ length section → AllHold (each (string_count section) (string_end_checks section base)) → AllHold (each (node_count section) (node_end_checks section base)) → strings_start section ≤ length section
start_fits section base counts string_ends node_ends =
    node_ends_fit section base (node_count section) (string_ends_fit section base (string_count section) counts string_ends) node_ends

-- node ends that stand in the section hold
pub node_ends_hold : (section : List ℕ) (base n : ℕ) → node_end_entry section n ≤ length section → AllHold (each n (node_end_checks section base))
node_ends_hold section base zero fit = tt
node_ends_hold section base (suc n) fit =
    AllHold-append (each n (node_end_checks section base)) (node_end_checks section base n) (node_ends_hold section base n (omega arith)) (omega arith, tt)

-- a string ends at or behind its start
pub end_ordered : (section : List ℕ) (base i : ℕ) → i < string_count section → AllHold (each (string_count section) (string_end_checks section base)) → first_byte section i ≤ first_byte section (suc i)
end_ordered section base i lt hold =
    omega (arith, (each_at (string_count section) (string_end_checks section base) i lt hold).1.0.0)

-- the strings lie in the section
pub all_lie : (section : List ℕ) (base : ℕ) → AllHold (each (string_count section) (string_end_checks section base)) → AllHold (each (string_count section) (string_checks section base)) → AllLie section
all_lie section base ends strings i lt =
    let entry = each_at (string_count section) (string_end_checks section base) i lt ends in
    let units = each_at (string_count section) (string_checks section base) i lt strings in
    record { ordered = omega (arith, entry.1.0.0); within = units.0; short = omega (arith, entry.1.0.0, entry.1.0.1) }

-- the counts, string ends, node ends and strings are the whole list
pub record Parts (section : List ℕ) (base : ℕ) : Type 0 where
  pub counts : AllHold (count_checks section base)
  pub string_ends : AllHold (each (string_count section) (string_end_checks section base))
  pub node_ends : AllHold (each (node_count section) (node_end_checks section base))
  pub strings : AllHold (each (string_count section) (string_checks section base))

pub whole_list : (section : List ℕ) (base : ℕ) → Parts section base → AllHold (string_list_checks section base)
whole_list section base h =
    let counts = count_checks section base in
    let string_ends = each (string_count section) (string_end_checks section base) in
    let node_ends = each (node_count section) (node_end_checks section base) in
    let strings = each (string_count section) (string_checks section base) in
    AllHold-append (counts ++ string_ends ++ node_ends) strings (AllHold-append (counts ++ string_ends) node_ends (AllHold-append counts string_ends h.counts h.string_ends) h.node_ends) h.strings

pub fault_at_string_ends : (section : List ℕ) (base : ℕ) (f : BlobFault) → AllHold (count_checks section base) → FirstFault (each (string_count section) (string_end_checks section base)) f → FirstFault (string_list_checks section base) f
fault_at_string_ends section base f counted h =
    let counts = count_checks section base in
    let string_ends = each (string_count section) (string_end_checks section base) in
    let node_ends = each (node_count section) (node_end_checks section base) in
    let strings = each (string_count section) (string_checks section base) in
    FirstFault-left (counts ++ string_ends ++ node_ends) strings f (FirstFault-left (counts ++ string_ends) node_ends f (FirstFault-right counts string_ends f counted h))

pub fault_at_node_ends : (section : List ℕ) (base : ℕ) (f : BlobFault) → AllHold (count_checks section base) → AllHold (each (string_count section) (string_end_checks section base)) → FirstFault (each (node_count section) (node_end_checks section base)) f → FirstFault (string_list_checks section base) f
fault_at_node_ends section base f counted ended h =
    let counts = count_checks section base in
    let string_ends = each (string_count section) (string_end_checks section base) in
    let node_ends = each (node_count section) (node_end_checks section base) in
    let strings = each (string_count section) (string_checks section base) in
    FirstFault-left (counts ++ string_ends ++ node_ends) strings f (FirstFault-right (counts ++ string_ends) node_ends f (AllHold-append counts string_ends counted ended) h)

pub fault_at_strings : (section : List ℕ) (base : ℕ) (f : BlobFault) → AllHold (count_checks section base) → AllHold (each (string_count section) (string_end_checks section base)) → AllHold (each (node_count section) (node_end_checks section base)) → FirstFault (each (string_count section) (string_checks section base)) f → FirstFault (string_list_checks section base) f
fault_at_strings section base f counted ended noded h =
    let counts = count_checks section base in
    let string_ends = each (string_count section) (string_end_checks section base) in
    let node_ends = each (node_count section) (node_end_checks section base) in
    let strings = each (string_count section) (string_checks section base) in
    FirstFault-right (counts ++ string_ends ++ node_ends) strings f (AllHold-append (counts ++ string_ends) node_ends (AllHold-append counts string_ends counted ended) noded) h
