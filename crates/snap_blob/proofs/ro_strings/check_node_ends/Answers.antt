use Rattle.std.proofs.Common.{◌≡◌, ◌+◌, ◌-◌, ◌*◌, ◌/◌, ◌<◌, ◌≤◌, ℕ, length, ap, ◌∙◌, inl, arith}
use Rattle.spec_format.specs.declared.fault.BlobKind.TheVariants.{Truncated}
use Rattle.spec_format.specs.Strings.{node_count, node_end_checks, node_end_entry, string_count}
use Rattle.spec_format.proofs.Checks.{each_fault}
use Rattle.snap_blob.proofs.StringLists.{node_ends_hold}
use Rattle.snap_blob.proofs.ro_strings.check_node_ends.Goals as goal

pub returns-then-room-number32 : goal.returns-then-room-number32
returns-then-room-number32 c =
    let section = c.args.section.now in
    let first = 8 + 4 * c.number32.result in
    let room = (length section - first) / 4 in
    let same : first ≡ 8 + 4 * string_count section = ap (λ (n : ℕ). 8 + 4 * n) c.number32.ensures in
    let below : room < node_count section = omega arith in
    let hold = node_ends_hold section c.args.base room (omega arith) in
    let past : node_end_entry section room + 4 ≤ length section → ⊥ = λ h. omega arith in
    each_fault (node_end_checks section c.args.base) (node_count section) room c.fault.result below hold
    (inl (past, c.fault.ensures ∙ ap (λ (n : ℕ). record { kind = Truncated; at = c.args.base + n }) (omega arith)))

pub returns : goal.returns
returns c =
    let section = c.args.section.now in
    node_ends_hold section c.args.base (node_count section) (omega arith)
