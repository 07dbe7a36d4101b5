use Rattle.std.proofs.Common.{◌≡◌, ℕ, length, ap, ◌∙◌, arith}
use Rattle.snap_scope.proofs.Fews.{each_added, few_added, none_added, on_err, one_added}
use Rattle.snap_scope.proofs.few.FewSlots.add.Goals as goal

-- where the name that is added stands
named_is : (c : goal.In_ok-push) → c.in_ok-named.named ≡ record { first = length c.self.inside.bytes.items; count = length c.args.name.now; is_constant = c.args.is_constant }
named_is c =
    let first : c.len.result ≡ length c.self.inside.bytes.items = omega (arith, c.len.ensures, c.self.inside.bytes.ok.0) in
    c.in_ok-named.ensures ∙ ap (λ (n : ℕ). record { first = n; count = length c.args.name.now; is_constant = c.args.is_constant }) first

pub returns-clause-ok : goal.returns-clause-ok
returns-clause-ok c =
    one_added c.self.inside.bytes.items c.args.name.now c.extend_from_slice.new.self.items c.self.inside.names.items c.args.self.now c.self.invariant.0 c.self.view_is c.in_ok-extend_from_slice.ensures.items
    c.in_ok-named.named c.args.is_constant (named_is c) c.push.new.self.items c.in_ok-push.ensures.items

pub invariant_of-self-2 : goal.invariant_of-self-2
invariant_of-self-2 c = (
  each_added c.self.inside.bytes.items c.args.name.now c.extend_from_slice.new.self.items c.self.inside.names.items c.args.self.now c.self.invariant.0 c.self.view_is c.in_ok-extend_from_slice.ensures.items
      c.in_ok-named.named c.args.is_constant (named_is c) c.push.new.self.items c.in_ok-push.ensures.items,
  few_added c.self.inside.bytes.items c.self.inside.names.items c.push.new.self.items c.in_ok-named.named c.args.self.now c.self.view_is c.in_ok-push.ensures.items c.requires,
)

pub returns-in_err-push-clause-err : goal.returns-in_err-push-clause-err
returns-in_err-push-clause-err c =
    on_err c.from_residual-in_err-push.result
    (none_added c.self.inside.bytes.items c.args.name.now c.extend_from_slice.new.self.items c.self.inside.names.items c.args.self.now c.self.invariant.0 c.self.view_is c.in_ok-extend_from_slice.ensures.items c.push.new.self.items c.in_err-push.ensures.items)
