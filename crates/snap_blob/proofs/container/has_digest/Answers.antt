use Rattle.std.proofs.Common.{◌≡◌, ap, drop, sym, ◌∙◌}
use Rattle.std.proofs.lemmas.List.{take_rest}
use Rattle.sha2.specs.Sha256.{sha256}
use Rattle.snap_blob.proofs.container.has_digest.Goals as goal

pub returns : goal.returns
returns c =
    let bytes = c.args.bytes.now in
    let digest : c.digest.result ≡ sha256 (drop 48 bytes) = c.digest.ensures ∙ ap sha256 (take_rest bytes 48) in
    (λ h. c.same.ensures.0 h ∙ digest, λ h. c.same.ensures.1 (h ∙ sym digest))
