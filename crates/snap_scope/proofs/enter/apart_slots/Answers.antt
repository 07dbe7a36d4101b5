use Rattle.std.proofs.Common.{◌≡◌, ◌++◌, List, ap, subst, sym, ◌∙◌, OnOk}
use Rattle.snap_scope.proofs.NarrowNames.{apart_narrow}
use Rattle.snap_scope.specs.Names.{AreNarrow, all_declared}
use Rattle.snap_scope.specs.declared.names.Name.{Name}
use Rattle.std.specs.Prelude.{None}
use Rattle.spec_scopes.specs.Told.{first_repeat}
use Rattle.spec_scopes.specs.Names.{Declared}
use Rattle.spec_scopes.specs.Scopes.{names_apart}
use Rattle.snap_scope.proofs.enter.apart_slots.Goals as goal

pub returns-in-Ok-clause-apart : goal.returns-in-Ok-clause-apart
returns-in-Ok-clause-apart c =
    let apart : List Declared = names_apart c.args.nodes.now c.args.form.now in
    let names : all_declared c.deref.result.now ≡ apart = ap all_declared c.deref.ensures.value ∙ c.in-Ok.ensures ∙ ap (λ (xs : List Name). all_declared xs ++ apart) c.clear.ensures.items in
    subst (λ (list : List Declared). OnOk c.some_slots.result (first_repeat list ≡ None)) names c.some_slots.ensures.apart

pub some_slots-requires : goal.some_slots-requires
some_slots-requires c =
    let apart : List Declared = names_apart c.args.nodes.now c.args.form.now in
    let names : all_declared c.deref.result.now ≡ apart = ap all_declared c.deref.ensures.value ∙ c.in-Ok.ensures ∙ ap (λ (xs : List Name). all_declared xs ++ apart) c.clear.ensures.items in
    subst AreNarrow (sym names) (apart_narrow c.args.nodes.now c.requires.nodes c.args.form.now c.requires.words)
