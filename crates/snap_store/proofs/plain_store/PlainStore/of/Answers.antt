use Rattle.snap_store.proofs.plain_store.PlainStore.of.Goals as goal

pub invariant_of-result : goal.invariant_of-result
invariant_of-result g c = record { keyed = c.in-Ok.ensures.keyed (g.K.Keys.key_of c.args.keys) }
