use Rattle.std.proofs.Common.{sym, ap, ◌∙◌}
use Rattle.std.proofs.lemmas.Slice.Eq.{bytes_eq-Decides}
use Rattle.snap_text.specs.OwnKeys.{one_own_text, own_key}
use Rattle.snap_text.proofs.own_keys.OwnKeysKeys.same.Goals as goal

-- the text of the key is the units that are given exactly where their test says so
pub returns : goal.returns
returns c =
    let same = bytes_eq-Decides c.units_of.result.now c.args.text.now in (
      λ yes. ap (own_key c.args.self.now) (sym (same.0 (sym c.eq.ensures ∙ yes))) ∙ c.units_of.ensures,
      λ key. c.eq.ensures ∙ same.1 (one_own_text c.args.self.now c.args.key c.units_of.result.now c.args.text.now c.units_of.ensures key),
    )
