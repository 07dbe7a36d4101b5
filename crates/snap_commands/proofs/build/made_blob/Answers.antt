use Rattle.std.proofs.Common.{length, arith, ap, ◌∙◌}
use Rattle.snap_blob.specs.Sections.{lists_of}
use Rattle.snap_commands.specs.Globals.{entries_of, spelled}
use Rattle.snap_commands.specs.Strings.{mass}
use Rattle.snap_commands.proofs.MadeFits.{OnTheWay, captured_light, if_ok, keys_in, made_is_build, never_long, texts_in}
use Rattle.snap_commands.proofs.build.made_blob.Goals as goal

-- src/build.rt:40:19
pub strings-requires : goal.strings-requires
strings-requires c =
    let globals = entries_of c.args.globals.now.entries in
    omega (arith, (captured_light c.args.source.now globals c.requires).0, ap mass c.in_ok-texts.ensures, ap (λ xs. mass (spelled xs)) c.deref.ensures.value)

on_the_way : (c : goal.After-deref-3) → OnTheWay (entries_of c.args.globals.now.entries) (spelled c.deref.result.now) c.in_ok-strings.strings.items c.deref-2.result.now c.deref-3.result.now
on_the_way c = record {
  texts_are = ap spelled c.deref.ensures.value ∙ c.in_ok-texts.ensures;
  given_is = c.deref-2.ensures.value;
  properties_are = c.deref-3.ensures.value ∙ c.in_ok-properties.ensures;
  same = c.in_ok-strings.ensures.same;
  light = c.in_ok-strings.ensures.light;
}

-- src/build.rt:42:20
pub sections-requires-clause-keys : goal.sections-requires-clause-keys
sections-requires-clause-keys c = keys_in (entries_of c.args.globals.now.entries) (spelled c.deref.result.now) c.in_ok-strings.strings.items c.deref-2.result.now c.deref-3.result.now (on_the_way c)

-- src/build.rt:42:20
pub sections-requires-clause-texts : goal.sections-requires-clause-texts
sections-requires-clause-texts c = texts_in (entries_of c.args.globals.now.entries) (spelled c.deref.result.now) c.in_ok-strings.strings.items c.deref-2.result.now c.deref-3.result.now (on_the_way c)

-- src/build.rt:42:20
pub sections-requires-clause-few : goal.sections-requires-clause-few
sections-requires-clause-few c =
    omega (arith, ap length (c.deref-3.ensures.value ∙ c.in_ok-properties.ensures), (captured_light c.args.source.now (entries_of c.args.globals.now.entries) c.requires).1)

-- src/build.rt:43:16
pub fitting-requires : goal.fitting-requires
fitting-requires c = λ long.
    let way : OnTheWay (entries_of c.args.globals.now.entries) (spelled c.deref.result.now) c.in_ok-strings.strings.items c.deref-2.result.now c.deref-3.result.now = record {
      texts_are = ap spelled c.deref.ensures.value ∙ c.in_ok-texts.ensures;
      given_is = c.deref-2.ensures.value;
      properties_are = c.deref-3.ensures.value ∙ c.in_ok-properties.ensures;
      same = c.in_ok-strings.ensures.same;
      light = c.in_ok-strings.ensures.light;
    } in
    never_long c.args.source.now (entries_of c.args.globals.now.entries) (spelled c.deref.result.now) c.in_ok-strings.strings.items c.deref-2.result.now c.deref-3.result.now (lists_of c.deref-4.result.now) c.requires way (ap lists_of c.deref-4.ensures.value ∙ c.in_ok-sections.ensures) (c.seal.ensures.too_long long)

-- src/build.rt:35:1
pub returns : goal.returns
returns c =
    let way : OnTheWay (entries_of c.args.globals.now.entries) (spelled c.deref.result.now) c.in_ok-strings.strings.items c.deref-2.result.now c.deref-3.result.now = record {
      texts_are = ap spelled c.deref.ensures.value ∙ c.in_ok-texts.ensures;
      given_is = c.deref-2.ensures.value;
      properties_are = c.deref-3.ensures.value ∙ c.in_ok-properties.ensures;
      same = c.in_ok-strings.ensures.same;
      light = c.in_ok-strings.ensures.light;
    } in
    let sealed = if_ok _ c.seal.result c.in_ok-blob.blob c.in_ok-blob.ensures.same c.seal.ensures.ok in
    let fits = if_ok _ c.seal.result c.in_ok-blob.blob c.in_ok-blob.ensures.same c.seal.ensures.fits in
    made_is_build c.args.source.now (entries_of c.args.globals.now.entries) (spelled c.deref.result.now) c.in_ok-strings.strings.items c.deref-2.result.now c.deref-3.result.now (lists_of c.deref-4.result.now) c.in_ok-blob.blob.items c.requires way
    c.in_ok-strings.ensures.lawful (ap lists_of c.deref-4.ensures.value ∙ c.in_ok-sections.ensures) c.in_ok-blob.ensures.bytes fits sealed
