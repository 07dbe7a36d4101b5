use Rattle.std.proofs.Common.{◌++◌, List, sym, ap, ◌∙◌}
use Rattle.std.proofs.lemmas.List.{append-nil}
use Rattle.snap_ast.specs.declared.form.Form.{Form}
use Rattle.snap_scope.specs.Names.{all_declared}
use Rattle.spec_scopes.specs.Names.{Declared}
use Rattle.spec_scopes.specs.Scopes.{own_names}
use Rattle.snap_scope.proofs.Nodes.{empty_past}
use Rattle.snap_scope.proofs.names.put_own_at.Goals as goal

pub returns-in-None : goal.returns-in-None
returns-in-None c =
    let before : List Declared = all_declared c.args.out.now.items in
    sym (append-nil before) ∙ ap (λ (form : Form). before ++ (own_names c.args.nodes.now form).names) (sym (empty_past c.args.nodes.now c.args.number c.in-None.ensures.lookup.3))
