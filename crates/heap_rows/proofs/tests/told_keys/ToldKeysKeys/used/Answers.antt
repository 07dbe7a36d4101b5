use Rattle.std.proofs.Common.{ℕ, List, ◌∷◌, ◌++◌, [], Some, ap, ◌∙◌}
use Rattle.snap_text.specs.OwnKeys.{one_own_text}
use Rattle.heap_rows.proofs.tests.told_keys.ToldKeysKeys.used.Goals as goal

pub returns-clause-ok : goal.returns-clause-ok
returns-clause-ok c = λ text known.
    ap (λ (log : List (List ℕ)). Some log) c.in_ok-push.ensures.items
    ∙ ap (λ (told : List ℕ). Some (c.args.self.now.log.items ++ told ∷ [])) (one_own_text c.args.self.now.keys c.args.key c.in_ok-text.text text c.in_ok-text.ensures known)
