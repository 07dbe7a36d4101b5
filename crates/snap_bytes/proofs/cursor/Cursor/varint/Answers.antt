use Rattle.std.proofs.Common.{Ok, sym, ap, ◌∙◌}
use Rattle.snap_bytes.specs.Place.{Place}
use Rattle.snap_bytes.proofs.Ends.{has_last, no_fault, one_front}
use Rattle.snap_bytes.proofs.cursor.Cursor.varint.Goals as goal

pub returns-clause-truncated : goal.returns-clause-truncated
returns-clause-truncated c =
    let number = c.in_ok-n.ensures.number in
    let split = sym (ap (λ (place : Place). place.left) c.self.view_is) ∙ number.2 in
    λ none. absurd (has_last c.args.self.now.left number.0 c.in_ok-n.rest.now c.in_ok-n.n split number.1 none)

pub returns-clause-only : goal.returns-clause-only
returns-clause-only c =
    let number = c.in_ok-n.ensures.number in
    let split = sym (ap (λ (place : Place). place.left) c.self.view_is) ∙ number.2 in
    λ text rest n small spelled e.
    let same = one_front c.args.self.now.left number.0 c.in_ok-n.rest.now text rest c.in_ok-n.n n split e number.1 spelled in
    (ap Ok same.1, same.2)

pub returns-in_err-n-clause-only : goal.returns-in_err-n-clause-only
returns-in_err-n-clause-only c =
    λ text rest n small spelled e.
    absurd (no_fault _ _ text rest n small spelled (ap (λ (place : Place). place.left) c.self.view_is ∙ e) c.in_err-n.ensures.fault)
