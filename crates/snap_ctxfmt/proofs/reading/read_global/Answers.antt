use Rattle.std.proofs.Common.{◌≡◌, ◌<◌, ◌^◌, ℕ, List, ◌++◌, length, map, sym, subst, ◌∙◌, arith}
use Rattle.std.specs.Prelude.{All}
use Rattle.std.specs.List.{flat_map}
use Rattle.std.proofs.lemmas.List.{length-map}
use Rattle.snap_blob.specs.Steps.{pair_of}
use Rattle.spec_format.specs.Shapes.{HasKeys}
use Rattle.spec_format.proofs.Shapes.{keys_among}
use Rattle.spec_sections.specs.Global.{value_bytes}
use Rattle.snap_ctxfmt.specs.Reading.{end_bytes}
use Rattle.snap_ctxfmt.proofs.Properties.{fronted, named, section_read, values_of}
use Rattle.snap_ctxfmt.proofs.reading.read_global.Goals as goal

pub returns-in_default-clause-none : goal.returns-in_default-clause-none
returns-in_default-clause-none c = λ properties d.
    let strings = c.args.strings.now in
    let shapes = map pair_of c.args.shapes.now in
    let front = fronted strings shapes c.args.section.now properties d in
    let small : d.shape < 2 ^ 64 = omega (arith, front.0, length-map c.args.shapes.now pair_of) in
    let behind = flat_map (value_bytes strings) (values_of properties) ++ end_bytes in
    let read = c.in_default.ensures.only d.shape behind small (c.new-cursor.ensures.left ∙ front.1) in
    cc read.0

pub returns-then-shape-shapes-clause-none : goal.returns-then-shape-shapes-clause-none
returns-then-shape-shapes-clause-none c = λ properties d.
    let strings = c.args.strings.now in
    let shapes = map pair_of c.args.shapes.now in
    let front = fronted strings shapes c.args.section.now properties d in
    let small : d.shape < 2 ^ 64 = omega (arith, front.0, length-map c.args.shapes.now pair_of) in
    let behind = flat_map (value_bytes strings) (values_of properties) ++ end_bytes in
    let read = c.in-Some.ensures.only d.shape behind small (c.new-cursor.ensures.left ∙ front.1) in
    let same : c.in-Some.shape ≡ d.shape = cc read.0 in
    omega (arith, same, front.0, length-map c.args.shapes.now pair_of, c.if-shape-shapes.true)

pub read_properties-requires-clause-names : goal.read_properties-requires-clause-names
read_properties-requires-clause-names c =
    let P : ℕ → Type 0 = λ name. name < length c.args.strings.now in
    let Q : List ℕ → Type 0 = λ names. All P names in
    subst Q (sym c.deref.ensures.value) (keys_among P (map pair_of c.args.shapes.now) c.in-Some.shape c.in_ok-names.names.items c.requires.shapes.names c.in_ok-names.ensures)

pub returns-in_default-2-clause-none : goal.returns-in_default-2-clause-none
returns-in_default-2-clause-none c = λ properties d.
    let strings = c.args.strings.now in
    let shapes = map pair_of c.args.shapes.now in
    let front = fronted strings shapes c.args.section.now properties d in
    let small : d.shape < 2 ^ 64 = omega (arith, front.0, length-map c.args.shapes.now pair_of) in
    let behind = flat_map (value_bytes strings) (values_of properties) ++ end_bytes in
    let read = c.in-Some.ensures.only d.shape behind small (c.new-cursor.ensures.left ∙ front.1) in
    let same : c.in-Some.shape ≡ d.shape = cc read.0 in
    let Q : List ℕ → Type 0 = λ names. HasKeys shapes c.in-Some.shape names in
    let are = named strings shapes c.args.section.now properties c.in-Some.shape c.deref.result.now d same (subst Q (sym c.deref.ensures.value) c.in_ok-names.ensures) in
    let whole = c.in_ok-properties.ensures.only properties end_bytes are read.1 in
    let some = rw c.in_default-2.is at whole.0 in
    cc

pub returns-then-not-are_left-clause-none : goal.returns-then-not-are_left-clause-none
returns-then-not-are_left-clause-none c = λ properties d.
    let strings = c.args.strings.now in
    let shapes = map pair_of c.args.shapes.now in
    let front = fronted strings shapes c.args.section.now properties d in
    let small : d.shape < 2 ^ 64 = omega (arith, front.0, length-map c.args.shapes.now pair_of) in
    let behind = flat_map (value_bytes strings) (values_of properties) ++ end_bytes in
    let read = c.in-Some.ensures.only d.shape behind small (c.new-cursor.ensures.left ∙ front.1) in
    let same : c.in-Some.shape ≡ d.shape = cc read.0 in
    let Q : List ℕ → Type 0 = λ names. HasKeys shapes c.in-Some.shape names in
    let are = named strings shapes c.args.section.now properties c.in-Some.shape c.deref.result.now d same (subst Q (sym c.deref.ensures.value) c.in_ok-names.ensures) in
    let whole = c.in_ok-properties.ensures.only properties end_bytes are read.1 in
    let ended = c.are_left.ensures.1 whole.1 in
    cc

pub returns-clause-some : goal.returns-clause-some
returns-clause-some c =
    let strings = c.args.strings.now in
    let shapes = map pair_of c.args.shapes.now in
    let Q : List ℕ → Type 0 = λ names. HasKeys shapes c.in-Some.shape names in
    let read = rw c.in-Some-2.is at c.in_ok-properties.ensures.some in
    let ended = c.are_left.ensures.0 (cc) in
    record {
      shape = c.in-Some.shape;
      names = c.deref.result.now;
      has_keys = subst Q (sym c.deref.ensures.value) c.in_ok-names.ensures;
      are_properties = read.0;
      bytes = section_read strings c.args.section.now c.read_front.new.cursor.left c.read_properties.new.cursor.left c.in-Some.shape (values_of c.in-Some-2.properties.items) (sym c.new-cursor.ensures.left ∙ c.in-Some.ensures.some) read.1 ended;
    }
