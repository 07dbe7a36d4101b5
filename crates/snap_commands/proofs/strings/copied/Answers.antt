use Rattle.std.proofs.Common.{◌≡◌, ◌++◌, List, ℕ, Bor, sym, ap, subst, ◌∙◌}
use Rattle.std.proofs.lemmas.List.{append-nil}
use Rattle.spec_format.specs.Strings.{IsAscending}
use Rattle.snap_commands.specs.Globals.{spelled}
use Rattle.snap_commands.proofs.Sorted.{bytes_more, one_copied, spelled_ascend}
use Rattle.snap_commands.proofs.strings.copied.Goals as goal

-- src/strings.rt:37:5
pub loop-string-preserved : goal.loop-string-preserved
loop-string-preserved c = record {
  same = one_copied c.loop-string.list.items c.put.new.list.items c.in-Some.string.now c.loop-string.string-iterator c.next.new.self c.args.set.now.keys c.in_ok-put.ensures.more c.in-Some.ensures.steps c.loop-string.invariant.same;
  bytes = bytes_more c.loop-string.list.items c.put.new.list.items c.in-Some.string.now.now c.in_ok-put.ensures.more c.loop-string.invariant.bytes c.put.ensures.bytes;
}

-- src/strings.rt:31:1
pub returns-clause-ascending : goal.returns-clause-ascending
returns-clause-ascending c =
    let same : c.loop-string.list.items ≡ spelled c.args.set.now.keys =
    sym (append-nil c.loop-string.list.items) ∙ ap (λ (xs : List (Bor (List ℕ))). c.loop-string.list.items ++ spelled xs) (sym c.in-None.ensures.steps.0) ∙ c.loop-string.invariant.same in
    subst (λ (xs : List (List ℕ)). IsAscending xs) (sym same) (spelled_ascend c.args.set.now.keys c.iter-string-items.ensures.ordered)
