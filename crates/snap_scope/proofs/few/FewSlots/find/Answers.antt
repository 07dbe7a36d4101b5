use Rattle.std.proofs.Common.{ℕ, List, map, take, drop, get_or, false, sym, ap, ◌∙◌, arith}
use Rattle.snap_scope.proofs.Fews.{found_at, lost_at, more_at}
use Rattle.snap_scope.proofs.few.FewSlots.find.Goals as goal
use Rattle.snap_scope.specs.Few.{slot_at}
use Rattle.snap_scope.specs.declared.few.SlotName.{SlotName}

pub returns : goal.returns
returns c =
    let bytes : List ℕ = c.self.inside.bytes.items in
    lost_at bytes c.deref-named-items.result.now c.args.self.now c.args.name.now (ap (map (slot_at bytes)) c.deref-named-items.ensures.value ∙ c.self.view_is) c.loop-slot.slot c.loop-slot.invariant c.loop-slot-test.false

pub returns-then-eq : goal.returns-then-eq
returns-then-eq c =
    let bytes : List ℕ = c.self.inside.bytes.items in
    let none : SlotName = record { first = 0; count = 0; is_constant = false } in
    let named : SlotName = get_or c.deref-named-items.result.now c.loop-slot.slot none in
    found_at bytes c.deref-named-items.result.now c.args.self.now c.args.name.now (ap (map (slot_at bytes)) c.deref-named-items.ensures.value ∙ c.self.view_is) c.loop-slot.slot c.loop-slot.invariant none (omega arith)
    c.bytes_of.result.now (c.bytes_of.ensures ∙ ap (λ (l : List ℕ). take named.count (drop named.first l)) c.deref.ensures.value) (sym c.eq.ensures ∙ c.if-eq.true)

pub loop-slot-preserved : goal.loop-slot-preserved
loop-slot-preserved c =
    let bytes : List ℕ = c.self.inside.bytes.items in
    let none : SlotName = record { first = 0; count = 0; is_constant = false } in
    let named : SlotName = get_or c.deref-named-items.result.now c.loop-slot.slot none in
    more_at bytes c.deref-named-items.result.now c.args.self.now c.args.name.now (ap (map (slot_at bytes)) c.deref-named-items.ensures.value ∙ c.self.view_is) c.loop-slot.slot c.loop-slot.invariant none (omega arith)
    c.bytes_of.result.now (c.bytes_of.ensures ∙ ap (λ (l : List ℕ). take named.count (drop named.first l)) c.deref.ensures.value) (sym c.eq.ensures ∙ c.if-eq.false)
