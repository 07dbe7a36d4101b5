use Rattle.std.proofs.Common.{◌≡◌, [], length, sym, ap, ◌∙◌, arith}
use Rattle.std.proofs.lemmas.List.{append-nil}
use Rattle.spec_format.specs.Startup.{counted, pair_bytes}
use Rattle.snap_blob.proofs.Parts.{parts_fit, startup_parts}
use Rattle.snap_blob.proofs.startup_reader.read_startup.Goals as goal

pub returns-in_default-clause-none : goal.returns-in_default-clause-none
returns-in_default-clause-none c = λ seed script shapes small short e.
    let fits = parts_fit c.args.section.now seed script shapes short c.requires e in
    let front = c.in_default.ensures.only seed script (counted pair_bytes shapes) small fits.0 (c.new-cursor.ensures.left ∙ e ∙ startup_parts seed script shapes) in
    cc front.0

pub returns-in_default-2-clause-none : goal.returns-in_default-2-clause-none
returns-in_default-2-clause-none c = λ seed script shapes small short e.
    let fits = parts_fit c.args.section.now seed script shapes short c.requires e in
    let front = c.read_front.ensures.only seed script (counted pair_bytes shapes) small fits.0 (c.new-cursor.ensures.left ∙ e ∙ startup_parts seed script shapes) in
    let read = c.in_ok-shapes.ensures.only shapes [] short fits.1 (front.1 ∙ sym (append-nil (counted pair_bytes shapes))) in
    let some = rw c.in_default-2.is at read.0 in
    cc

pub returns-then-left-gt0-clause-none : goal.returns-then-left-gt0-clause-none
returns-then-left-gt0-clause-none c = λ seed script shapes small short e.
    let fits = parts_fit c.args.section.now seed script shapes short c.requires e in
    let front = c.read_front.ensures.only seed script (counted pair_bytes shapes) small fits.0 (c.new-cursor.ensures.left ∙ e ∙ startup_parts seed script shapes) in
    let read = c.in_ok-shapes.ensures.only shapes [] short fits.1 (front.1 ∙ sym (append-nil (counted pair_bytes shapes))) in
    let none : length c.read_shapes.new.cursor.left ≡ 0 = ap length read.1 in
    omega (arith, none)
