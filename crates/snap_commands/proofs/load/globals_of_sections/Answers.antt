use Rattle.std.proofs.Common.{rules, ◌≡◌, ◌<◌, ◌^◌, ℕ, List, Option, true, false, length, map, arith, sym, ap, subst, ◌∙◌}
use Rattle.std.specs.Option.{is_some}
use Rattle.std.specs.Prelude.{IfNone, IfSome}
use Rattle.std.specs.Global.{Vec}
use Rattle.std.proofs.lemmas.List.{length-map}
use Rattle.spec_format.specs.Shapes.{AreLawful}
use Rattle.spec_format.specs.Startup.{one_script, startup_bytes}
use Rattle.spec_sections.specs.Properties.{DenotesGlobal}
use Rattle.snap_blob.specs.Steps.{pair_of}
use Rattle.snap_graph.specs.declared.value.Property.{Property}
use Rattle.snap_commands.specs.ThinSource.{thin_script}
use Rattle.snap_commands.proofs.ThinSections.{all_thin, few_shapes, thin_under}
use Rattle.snap_commands.proofs.load.globals_of_sections.Goals as goal

pub returns-then-not-branch : goal.returns-then-not-branch
returns-then-not-branch c = λ globals thin.
    let found = c.in-Some.found in
    let startup : c.args.startup.now ≡ startup_bytes (one_script found.seed found.script.now (map pair_of found.shapes.items)) = search rules in
    let under = thin_under c.args.strings.now c.args.startup.now c.args.context.now globals found.seed found.script.now (map pair_of found.shapes.items) startup thin in
    let none : is_some (thin_script found.script.now) ≡ false = search rules in
    let no : true ≡ false = sym under.source ∙ none in
    absurd cc

pub read_context-requires-clause-few : goal.read_context-requires-clause-few
read_context-requires-clause-few c =
    let found = c.in-Some.found in
    let startup : c.args.startup.now ≡ startup_bytes (one_script found.seed found.script.now (map pair_of found.shapes.items)) = search rules in
    let few = few_shapes c.args.startup.now found.seed found.script.now (map pair_of found.shapes.items) startup c.requires.startup in
    omega (arith, few, length-map found.shapes.items pair_of, ap length c.deref.ensures.value)

pub returns-in_default-2 : goal.returns-in_default-2
returns-in_default-2 c = λ globals thin.
    let strings = c.args.strings.now in
    let context = c.args.context.now in
    let found = c.in-Some.found in
    let shapes = map pair_of c.deref.result.now in
    let startup : c.args.startup.now ≡ startup_bytes (one_script found.seed found.script.now (map pair_of found.shapes.items)) = search rules in
    let same : map pair_of found.shapes.items ≡ shapes = ap (map pair_of) (sym c.deref.ensures.value) in
    let under = thin_under strings c.args.startup.now context globals found.seed found.script.now shapes (startup ∙ ap (λ (s : List (ℕ × ℕ)). startup_bytes (one_script found.seed found.script.now s)) same) thin in
    let none = subst (λ (o : Option (Vec Property)). IfNone o ((ps : List Property) → AreLawful (length strings) shapes → DenotesGlobal strings shapes context ps → ⊥)) c.in_default-2.is c.in_ok-properties.ensures.none in
    none _ under.lawful under.denotes

pub returns : goal.returns
returns c =
    let strings = c.args.strings.now in
    let context = c.args.context.now in
    let found = c.in-Some.found in
    let shapes = map pair_of c.deref.result.now in
    let startup : c.args.startup.now ≡ startup_bytes (one_script found.seed found.script.now (map pair_of found.shapes.items)) = search rules in
    let same : map pair_of found.shapes.items ≡ shapes = ap (map pair_of) (sym c.deref.ensures.value) in
    let source : is_some (thin_script found.script.now) ≡ true = search rules in
    let seed : found.seed < 2 ^ 64 = search rules in
    let lawful : AreLawful (length strings) shapes = subst (λ (o : Option (Vec Property)). IfSome o (λ ps. AreLawful (length strings) shapes)) c.in-Some-2.is c.in_ok-properties.ensures.lawful in
    let denotes : DenotesGlobal strings shapes context c.in-Some-2.properties.items = subst (λ (o : Option (Vec Property)). IfSome o (λ ps. DenotesGlobal strings shapes context ps.items)) c.in-Some-2.is c.in_ok-properties.ensures.denotes in
    all_thin strings c.args.startup.now context found.seed found.script.now shapes c.deref-2.result.now c.globals_behind.result c.requires.lawful c.requires.startup seed
    (startup ∙ ap (λ (s : List (ℕ × ℕ)). startup_bytes (one_script found.seed found.script.now s)) same)
    source lawful (subst (DenotesGlobal strings shapes context) (sym c.deref-2.ensures.value) denotes) c.globals_behind.ensures
