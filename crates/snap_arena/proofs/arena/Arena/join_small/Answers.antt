use Rattle.std.proofs.Common.{◌≡◌, ◌+◌, ◌++◌, length, take, IfOk, ℕ, List, Vec, Global, ap, subst, ◌∙◌, arith}
use Rattle.snap_arena.specs.Texts.{IsAdded, contents, text_in}
use Rattle.snap_arena.specs.declared.held.HeldText.{HeldText}
use Rattle.snap_arena.proofs.Growing.{held_length}
use Rattle.snap_arena.proofs.arena.Arena.join_small.Goals as goal

-- the units that were read
read : (now : List (List ℕ)) (slice vec : List (Vec ℕ Global)) (text : HeldText) (units : List ℕ) → units ≡ text_in (contents slice) text → slice ≡ vec → contents vec ≡ now → units ≡ text_in now text
read now slice vec text units e value view = e ∙ ap (λ (all : List (Vec ℕ Global)). text_in (contents all) text) value ∙ ap (λ (all : List (List ℕ)). text_in all text) view

pub gather-requires : goal.gather-requires
gather-requires c =
    let now = c.args.self.now in
    let vectors = c.self.inside.buffers.items in
    let left = read now c.as_slice-buffers.result.now vectors c.args.left c.units_of.result.now c.units_of.ensures c.as_slice-buffers.ensures.value c.self.view_is in
    let right = read now c.as_slice-buffers.result.now vectors c.args.right c.units_of-2.result.now c.units_of-2.ensures c.as_slice-buffers.ensures.value c.self.view_is in
    omega (arith, ap length left, ap length right, held_length now c.args.left c.requires.left, held_length now c.args.right c.requires.right)

pub returns-clause-ok : goal.returns-clause-ok
returns-clause-ok c =
    let now = c.args.self.now in
    let vectors = c.self.inside.buffers.items in
    let left = read now c.as_slice-buffers.result.now vectors c.args.left c.units_of.result.now c.units_of.ensures c.as_slice-buffers.ensures.value c.self.view_is in
    let right = read now c.as_slice-buffers.result.now vectors c.args.right c.units_of-2.result.now c.units_of-2.ensures c.as_slice-buffers.ensures.value c.self.view_is in
    let count : c.args.left.length + c.args.right.length ≡ length c.units_of.result.now + length c.units_of-2.result.now =
    omega (arith, ap length left, ap length right, held_length now c.args.left c.requires.left, held_length now c.args.right c.requires.right) in
    let text : take (c.args.left.length + c.args.right.length) c.gather.new.units ≡ text_in now c.args.left ++ text_in now c.args.right =
    ap (λ (n : ℕ). take n c.gather.new.units) count ∙ c.gather.ensures ∙ ap (λ (units : List ℕ). units ++ c.units_of-2.result.now) left ∙ ap (λ (units : List ℕ). text_in now c.args.left ++ units) right in
    subst (λ (units : List ℕ). IfOk c.hold_units.result (IsAdded now units c.hold_units.new.self)) text c.hold_units.ensures.ok
