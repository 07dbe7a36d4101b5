use Rattle.std.proofs.Common.{◌≡◌, ◌++◌, List, ap, subst, sym, ◌∙◌}
use Rattle.snap_scope.proofs.NarrowNames.{declares_narrow}
use Rattle.snap_scope.specs.Names.{AreNarrow, all_declared}
use Rattle.snap_scope.specs.declared.names.Name.{Name}
use Rattle.spec_scopes.specs.Names.{declares}
use Rattle.snap_scope.proofs.places.put_declared_places.Goals as goal

pub put_all-requires-clause-narrow : goal.put_all-requires-clause-narrow
put_all-requires-clause-narrow c =
    let names : all_declared c.deref.result.now ≡ declares c.args.form.now =
    ap all_declared c.deref.ensures.value ∙ c.in_ok-put_declared.ensures ∙ ap (λ (xs : List Name). all_declared xs ++ declares c.args.form.now) c.clear.ensures.items in
    subst AreNarrow (sym names) (declares_narrow c.args.form.now c.requires.words)
