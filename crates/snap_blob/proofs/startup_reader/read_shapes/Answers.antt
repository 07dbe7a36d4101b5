use Rattle.std.proofs.Common.{◌≡◌, ◌<◌, ◌+◌, ◌++◌, [], ◌∷◌, length, get_or, drop, ap, ◌∙◌, arith, rules}
use Rattle.std.specs.List.{flat_map}
use Rattle.std.proofs.lemmas.List.{append_assoc, length_push}
use Rattle.spec_format.specs.Startup.{pair_bytes}
use Rattle.spec_format.specs.Varint.{varint}
use Rattle.snap_blob.proofs.Parts.{shapes_left, shapes_read}
use Rattle.snap_blob.proofs.startup_reader.read_shapes.Goals as goal

pub loop-index-init : goal.loop-index-init
loop-index-init c =
    record {
      many = search rules;
      read = rw c.new-shapes.ensures.items c.in-Some.ensures.some;
      only = λ shapes rest short small e.
          let read = c.in-Some.ensures.only (length shapes) (flat_map pair_bytes shapes ++ rest) small (e ∙ append_assoc (varint (length shapes)) (flat_map pair_bytes shapes) rest) in
          let count : c.in-Some.count ≡ length shapes = cc read.0 in
          (count, read.1);
    }

pub loop-index-preserved : goal.loop-index-preserved
loop-index-preserved c =
    let i = c.loop-index._index in
    let so_far = c.loop-index.invariant in
    let shape = c.in-Some-read_shape.shape in
    let pushed : c.push.new.self.items ≡ c.loop-index.shapes.items ++ shape ∷ [] = search rules in
    record {
      many = omega (arith, ap length pushed, length_push c.loop-index.shapes.items shape);
      read = shapes_read c.args.cursor.now.left (varint c.in-Some.count) c.loop-index.cursor.left _ c.loop-index.shapes.items _ shape so_far.read c.in-Some-read_shape.ensures.some pushed;
      only = λ shapes rest short small e.
          let before = so_far.only shapes rest short small e in
          let here : i < length shapes = omega (arith, before.0) in
          let fits = short i (0, 0) here in
          let read = c.read_shape.ensures.only (get_or shapes i (0, 0)) (flat_map pair_bytes (drop (i + 1) shapes) ++ rest) fits.0 fits.1 (shapes_left c.loop-index.cursor.left shapes rest i here before.1) in
          (before.0, read.1);
    }

pub returns-in_default-read_shape-clause-only : goal.returns-in_default-read_shape-clause-only
returns-in_default-read_shape-clause-only c = λ shapes rest short small e.
    let i = c.loop-index._index in
    let before = c.loop-index.invariant.only shapes rest short small e in
    let here : i < length shapes = omega (arith, before.0) in
    let fits = short i (0, 0) here in
    let read = c.in_default-read_shape.ensures.only (get_or shapes i (0, 0)) (flat_map pair_bytes (drop (i + 1) shapes) ++ rest) fits.0 fits.1 (shapes_left c.loop-index.cursor.left shapes rest i here before.1) in
    absurd (cc read.0)
