use Rattle.std.proofs.Common.{◌≡◌, ◌++◌, ◌∙◌, refl, arith}
use Rattle.spec_format.specs.Startup.{script_bytes}
use Rattle.spec_format.specs.Varint.{varint}
use Rattle.snap_blob.proofs.Parts.{front_parts, front_read}
use Rattle.snap_blob.proofs.startup_reader.read_front.Goals as goal

pub returns-in_err-seed-clause-only : goal.returns-in_err-seed-clause-only
returns-in_err-seed-clause-only c = λ seed script rest small short e.
    let behind_script = varint 0 ++ rest in
    let behind_one = script_bytes script ++ behind_script in
    let first = c.in_err-seed.ensures.only seed (varint 1 ++ behind_one) (e ∙ front_parts seed script rest) in
    absurd (cc first.0)

pub returns-in_err-read_number-clause-only : goal.returns-in_err-read_number-clause-only
returns-in_err-read_number-clause-only c = λ seed script rest small short e.
    let behind_script = varint 0 ++ rest in
    let behind_one = script_bytes script ++ behind_script in
    let first = c.read_seed.ensures.only seed (varint 1 ++ behind_one) (e ∙ front_parts seed script rest) in
    let one = c.in_err-read_number.ensures.only 1 behind_one (omega arith) first.1 in
    absurd (cc one.0)

pub returns-then-branch-ne1-clause-only : goal.returns-then-branch-ne1-clause-only
returns-then-branch-ne1-clause-only c = λ seed script rest small short e.
    let behind_script = varint 0 ++ rest in
    let behind_one = script_bytes script ++ behind_script in
    let first = c.read_seed.ensures.only seed (varint 1 ++ behind_one) (e ∙ front_parts seed script rest) in
    let one = c.in_ok-read_number.ensures.only 1 behind_one (omega arith) first.1 in
    let same : c.in_ok-read_number.field-0 ≡ 1 = cc one.0 in
    absurd (omega arith)

pub returns-in_err-script-clause-only : goal.returns-in_err-script-clause-only
returns-in_err-script-clause-only c = λ seed script rest small short e.
    let behind_script = varint 0 ++ rest in
    let behind_one = script_bytes script ++ behind_script in
    let first = c.read_seed.ensures.only seed (varint 1 ++ behind_one) (e ∙ front_parts seed script rest) in
    let one = c.read_number.ensures.only 1 behind_one (omega arith) first.1 in
    let text = c.in_err-script.ensures.only script behind_script short one.1 in
    absurd (cc text.0)

pub returns-in_err-read_number-2-clause-only : goal.returns-in_err-read_number-2-clause-only
returns-in_err-read_number-2-clause-only c = λ seed script rest small short e.
    let behind_script = varint 0 ++ rest in
    let behind_one = script_bytes script ++ behind_script in
    let first = c.read_seed.ensures.only seed (varint 1 ++ behind_one) (e ∙ front_parts seed script rest) in
    let one = c.read_number.ensures.only 1 behind_one (omega arith) first.1 in
    let text = c.read_script.ensures.only script behind_script short one.1 in
    let none = c.in_err-read_number-2.ensures.only 0 rest (omega arith) text.1 in
    absurd (cc none.0)

pub returns-then-branch-ne0-clause-only : goal.returns-then-branch-ne0-clause-only
returns-then-branch-ne0-clause-only c = λ seed script rest small short e.
    let behind_script = varint 0 ++ rest in
    let behind_one = script_bytes script ++ behind_script in
    let first = c.read_seed.ensures.only seed (varint 1 ++ behind_one) (e ∙ front_parts seed script rest) in
    let one = c.read_number.ensures.only 1 behind_one (omega arith) first.1 in
    let text = c.read_script.ensures.only script behind_script short one.1 in
    let none = c.in_ok-read_number-2.ensures.only 0 rest (omega arith) text.1 in
    let same : c.in_ok-read_number-2.field-0 ≡ 0 = cc none.0 in
    absurd (omega arith)

pub returns-clause-some : goal.returns-clause-some
returns-clause-some c =
    front_read c.args.cursor.now.left _ _ _ _ _ _ _ c.in_ok-script.script.now c.in_ok-seed.ensures.some c.in_ok-read_number.ensures.some (omega arith)
    c.in_ok-script.ensures.some c.in_ok-read_number-2.ensures.some (omega arith)

pub returns-clause-only : goal.returns-clause-only
returns-clause-only c = λ seed script rest small short e.
    let behind_script = varint 0 ++ rest in
    let behind_one = script_bytes script ++ behind_script in
    let first = c.read_seed.ensures.only seed (varint 1 ++ behind_one) (e ∙ front_parts seed script rest) in
    let one = c.read_number.ensures.only 1 behind_one (omega arith) first.1 in
    let text = c.read_script.ensures.only script behind_script short one.1 in
    let none = c.read_number-2.ensures.only 0 rest (omega arith) text.1 in
    (refl, none.1)
