use Rattle.std.proofs.Common.{length, map}
use Rattle.snap_ctxfmt.proofs.Sections.{pieces}
use Rattle.snap_ctxfmt.proofs.writing.write_global.Goals as goal

pub returns : goal.returns
returns c =
    pieces c.args.strings.now (length c.args.properties.now) (map (λ p. p.value) c.args.properties.now) _ _ _ _ _ c.new-out.ensures.items c.in_ok-put_bytes.ensures
    c.in_ok-put_number.ensures.ok c.in_ok-put_values.ensures c.in_ok-put_bytes-2.ensures
