use Rattle.std.proofs.Common.{◌≡◌, ◌<◌, ◌≤◌, ◌+◌, [], ◌∷◌, ◌++◌, length, get_or, drop, refl, ap, ◌∙◌, arith, rules}
use Rattle.std.specs.List.{flat_map}
use Rattle.std.proofs.lemmas.List.{drop_all, get_or_read}
use Rattle.std.proofs.lemmas.List.Elements.{All-push, All-same}
use Rattle.snap_graph.specs.declared.value.Property.{Property}
use Rattle.spec_sections.specs.Global.{value_bytes}
use Rattle.spec_sections.specs.Properties.{IsGlobalValue}
use Rattle.snap_ctxfmt.specs.Reading.{Spell}
use Rattle.snap_ctxfmt.proofs.Properties.{as_many, bytes_left, bytes_more, keys_more, nothing, values_of}
use Rattle.snap_ctxfmt.proofs.reading.read_properties.Goals as goal

pub returns-in_default-clause-only : goal.returns-in_default-clause-only
returns-in_default-clause-only c = λ properties rest are e.
    let i = c.loop-name.name-index in
    let strings = c.args.strings.now in
    let before = c.loop-name.invariant.only properties rest are e in
    let here : i < length properties = omega (arith, as_many strings c.args.names.now properties are, c.loop-name-test.true) in
    let behind = flat_map (value_bytes strings) (values_of (drop (i + 1) properties)) ++ rest in
    let spelled : Spell strings c.loop-name.cursor.left (get_or properties i nothing).value behind = (are.values i nothing here, bytes_left strings c.loop-name.cursor.left properties rest i here before) in
    let read = c.in_ok-property.ensures.only (get_or properties i nothing).value behind spelled in
    let some = rw c.in_default.is at read.0 in
    absurd (cc)

pub loop-name-preserved : goal.loop-name-preserved
loop-name-preserved c =
    let i = c.loop-name.name-index in
    let strings = c.args.strings.now in
    let names = c.args.names.now in
    let so_far = c.loop-name.invariant in
    let items = c.loop-name.properties.items in
    let property = c.in-Some.property in
    let key = rw c.in-Some.is at c.in_ok-property.ensures.key in
    let spelled = rw c.in-Some.is at c.in_ok-property.ensures.some in
    let inside = c.requires.names i 0 c.loop-name-test.true in
    let item = get_or_read strings (get_or names i 0) c.index-strings-name.result inside c.index-strings-name.is [] in
    let pushed : c.push.new.self.items ≡ items ++ property ∷ [] = search rules in
    let P : Property → Type 0 = λ p. IsGlobalValue strings p.value in
    record {
      keys = keys_more strings names i items c.push.new.self.items property c.loop-name-test.true inside (key ∙ item) so_far.keys pushed;
      values = All-same P c.push.new.self.items (items ++ property ∷ []) pushed (All-push P items property so_far.values spelled.0);
      read = bytes_more strings c.args.cursor.now.left c.loop-name.cursor.left c.read_property.new.cursor.left items c.push.new.self.items property so_far.read spelled.1 pushed;
      only = λ properties rest are e.
          let before = so_far.only properties rest are e in
          let here : i < length properties = omega (arith, as_many strings names properties are, c.loop-name-test.true) in
          let behind = flat_map (value_bytes strings) (values_of (drop (i + 1) properties)) ++ rest in
          let next : Spell strings c.loop-name.cursor.left (get_or properties i nothing).value behind = (are.values i nothing here, bytes_left strings c.loop-name.cursor.left properties rest i here before) in
          let read = c.in_ok-property.ensures.only (get_or properties i nothing).value behind next in
          read.1;
    }

pub returns-clause-only : goal.returns-clause-only
returns-clause-only c = λ properties rest are e.
    let i = c.loop-name.name-index in
    let strings = c.args.strings.now in
    let before = c.loop-name.invariant.only properties rest are e in
    let past : length properties ≤ i = omega (arith, as_many strings c.args.names.now properties are, c.loop-name-test.false) in
    (refl, before ∙ ap (λ w. flat_map (value_bytes strings) (values_of w) ++ rest) (drop_all i properties past))
