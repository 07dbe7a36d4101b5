use Rattle.std.proofs.Common.{◌≡◌, ◌++◌, ◌+◌, length, ap, sym, ◌∙◌, arith}
use Rattle.std.proofs.lemmas.List.{length-append}
use Rattle.spec_format.specs.Container.{magic, payload}
use Rattle.spec_format.specs.Number.{spelled32}
use Rattle.snap_blob.specs.Sections.{lists_of, zeros}
use Rattle.snap_blob.proofs.Sealed.{digest_filled, length-container, length-head, length-payload, written_back}
use Rattle.snap_blob.proofs.sealing.write_blob.Goals as goal

pub fill_digest-requires : goal.fill_digest-requires
fill_digest-requires c =
    let pay = payload (lists_of c.args.sections.now) in
    let format = c.args.format in
    let front = magic ++ spelled32 format ++ spelled32 c.args.len in
    let written : c.as_mut_slice.result.now ≡ (front ++ zeros) ++ pay =
    c.as_mut_slice.ensures.value
    ∙ c.in_ok-put_payload.ensures
    ∙ ap (λ w. w ++ pay) (c.in_ok-put_header.ensures ∙ ap (λ w. w ++ (front ++ zeros)) c.in_ok-blob.ensures.items) in
    omega (arith, ap length written, length-append (front ++ zeros) pay, length-append front zeros, length-head format c.args.len)

pub returns-clause-bytes : goal.returns-clause-bytes
returns-clause-bytes c =
    let format = c.args.format in
    let pay = payload (lists_of c.args.sections.now) in
    let len : c.args.len ≡ 48 + length pay = c.requires.len ∙ sym (length-payload (lists_of c.args.sections.now)) in
    let head : c.put_header.new.blob.items ≡ magic ++ spelled32 format ++ spelled32 (48 + length pay) ++ zeros =
    c.in_ok-put_header.ensures
    ∙ ap (λ w. w ++ (magic ++ spelled32 format ++ spelled32 c.args.len ++ zeros)) c.in_ok-blob.ensures.items
    ∙ ap (λ n. magic ++ spelled32 format ++ spelled32 n ++ zeros) len in
    let whole = c.as_mut_slice.ensures.value ∙ c.in_ok-put_payload.ensures ∙ ap (λ w. w ++ pay) head in
    written_back _ _ _ (omega arith)
    ∙ digest_filled format (48 + length pay) pay c.as_mut_slice.result.now c.fill_digest.new.blob whole c.fill_digest.ensures

pub returns-clause-fits : goal.returns-clause-fits
returns-clause-fits c =
    let bytes = returns-clause-bytes c in
    omega (arith, ap length bytes, length-container c.args.format (lists_of c.args.sections.now))
