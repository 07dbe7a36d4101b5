use Rattle.std.proofs.Common.{◌≤◌, [], arith, ap, ◌∙◌}
use Rattle.std.specs.List.{list_any}
use Rattle.std.specs.Str.{bytes_eq}
use Rattle.snap_base.specs.declared.limits.TheConstants.{MOST_ITEMS}
use Rattle.snap_commands.specs.Strings.{mass}
use Rattle.snap_commands.proofs.Sorted.{all_taken, are_strings, text_more}
use Rattle.snap_commands.proofs.strings.strings.Goals as goal

-- src/strings.rt:22:5
pub loop-text-preserved : goal.loop-text-preserved
loop-text-preserved c =
    let more = text_more c.args.texts.now c.loop-text.set.keys c.insert.new.self.keys c.loop-text.text-index (record { ref_ptr = (0, 0); now = [] }) c.loop-text-test.true c.in-Ok.ensures.keys c.loop-text.invariant.same c.loop-text.invariant.light in
    record { same = more.0; light = more.1 }

-- src/strings.rt:16:1
pub returns-clause-lawful : goal.returns-clause-lawful
returns-clause-lawful c =
    let light : mass c.in_ok-list.list.items ≤ MOST_ITEMS = omega (arith, ap mass c.in_ok-list.ensures.same, c.loop-text.invariant.light, ap mass (all_taken c.args.texts.now c.loop-text.text-index c.loop-text-test.false), c.requires) in
    are_strings c.in_ok-list.list.items light c.in_ok-list.ensures.bytes c.in_ok-list.ensures.ascending

-- src/strings.rt:16:1
pub returns-clause-same : goal.returns-clause-same
returns-clause-same c = λ text.
    ap (list_any (bytes_eq text)) c.in_ok-list.ensures.same ∙ c.loop-text.invariant.same text
    ∙ ap (list_any (bytes_eq text)) (all_taken c.args.texts.now c.loop-text.text-index c.loop-text-test.false)

-- src/strings.rt:16:1
pub returns-clause-light : goal.returns-clause-light
returns-clause-light c = omega (arith, ap mass c.in_ok-list.ensures.same, c.loop-text.invariant.light, ap mass (all_taken c.args.texts.now c.loop-text.text-index c.loop-text-test.false))
