use Rattle.std.proofs.Common.{ℕ, List, [], ◌∷◌, length, ap, arith}
use Rattle.std.proofs.lemmas.List.FromFn.{length-map-range_with_len}
use Rattle.blob_rows.proofs.Examples.{ascending_units, unit_among, one_unit_more}
use Rattle.blob_rows.proofs.tests.sections.all_strings.Goals as goal

-- the text of one unit
abbrev one_unit : ℕ → List ℕ
one_unit unit = unit ∷ []

pub loop-unit-preserved : goal.loop-unit-preserved
loop-unit-preserved c =
    one_unit_more c.loop-unit.strings.items c.push.new.self.items c.in_ok-of.field-0 c.loop-unit.unit c.loop-unit.invariant c.in_ok-of.ensures c.in_ok-push.ensures.items

pub returns : goal.returns
returns c =
    let strings = c.loop-unit.strings.items in
    record {
      ascending = ascending_units strings c.loop-unit.unit c.loop-unit.invariant;
      among = λ unit inside. unit_among strings unit c.loop-unit.unit c.loop-unit.invariant (omega arith);
      count = omega (arith, ap length c.loop-unit.invariant, length-map-range_with_len one_unit 0 c.loop-unit.unit);
    }
