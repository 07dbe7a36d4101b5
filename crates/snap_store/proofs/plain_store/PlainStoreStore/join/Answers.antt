use Rattle.snap_store.proofs.plain_store.PlainStoreStore.join.Goals as goal

pub invariant_of-self : goal.invariant_of-self
invariant_of-self g c = record { keyed = c.join.ensures.keyed (g.K.Keys.key_of c.args.self.now.keys) c.args.self.now.keyed }
