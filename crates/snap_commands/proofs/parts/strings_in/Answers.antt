use Rattle.std.proofs.Common.{◌∙◌, ◌++◌, ◌∷◌, [], List, ℕ, ap, sym, arith}
use Rattle.std.proofs.lemmas.List.FromFn.{map-range_with_len_more}
use Rattle.spec_format.specs.Strings.{string}
use Rattle.snap_blob.specs.RoStrings.{section_of}
use Rattle.snap_commands.proofs.parts.strings_in.Goals as goal

pub loop-i-preserved : goal.loop-i-preserved
loop-i-preserved c =
    let f = string (section_of c.args.strings.now) in
    let i = c.loop-i.i in
    c.in_ok-put.ensures ∙ ap (λ (xs : List (List ℕ)). xs ++ f i ∷ []) c.loop-i.invariant ∙ sym (map-range_with_len_more f 0 i i (omega arith))
