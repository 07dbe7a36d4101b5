use Rattle.std.proofs.Common.{[], ◌∷◌, map, refl, arith}
use Rattle.snap_ast.proofs.Chains.{chain_fits, holds_behind, statement_high}
use Rattle.snap_ast.specs.Worked.{chain, node_of}
use Rattle.snap_ast.specs.declared.form.Form.TheVariants as f
use Rattle.snap_ast.proofs.rows.worked_levels.Goals as goal

pub returns-clause-most : goal.returns-clause-most
returns-clause-most c =
    let nodes = map node_of (f.Expression 1 ∷ chain 99 1) in
    let holds = holds_behind nodes (node_of (f.Expression 1) ∷ []) 1 (chain 99 1) refl refl in
    (refl, 101, (node_of (f.Expression 1), refl, refl, tt, (refl, 101, chain_fits nodes 100 99 1 holds (omega arith), refl)), refl)

pub returns-clause-more : goal.returns-clause-more
returns-clause-more c = λ lawful.
    let nodes = map node_of (f.Expression 1 ∷ chain 100 1) in
    let holds = holds_behind nodes (node_of (f.Expression 1) ∷ []) 1 (chain 100 1) refl refl in
    statement_high nodes 100 100 lawful.1 refl holds (omega arith) lawful.2
