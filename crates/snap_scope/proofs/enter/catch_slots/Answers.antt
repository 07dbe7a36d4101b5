use Rattle.std.proofs.Common.{◌≡◌, ◌++◌, List, ap, subst, sym, ◌∙◌}
use Rattle.snap_scope.proofs.NarrowNames.{own_narrow}
use Rattle.snap_scope.specs.Names.{AreNarrow, all_declared}
use Rattle.snap_scope.specs.declared.names.Name.{Name}
use Rattle.spec_scopes.specs.Names.{Declared}
use Rattle.spec_scopes.specs.Scopes.{own_names}
use Rattle.snap_scope.proofs.enter.catch_slots.Goals as goal

pub slots_of-requires : goal.slots_of-requires
slots_of-requires c =
    let own : List Declared = (own_names c.args.nodes.now c.args.form.now).names in
    let names : all_declared c.deref.result.now ≡ own = ap all_declared c.deref.ensures.value ∙ c.in_ok-put_own.ensures ∙ ap (λ (xs : List Name). all_declared xs ++ own) c.clear.ensures.items in
    subst AreNarrow (sym names) (own_narrow c.args.nodes.now c.requires.nodes c.args.form.now c.requires.words)
