use Rattle.snap_store.proofs.plain_store.PlainStoreStore.freeze.Goals as goal

pub invariant_of-self : goal.invariant_of-self
invariant_of-self g c = record { keyed = c.freeze.ensures.keyed (g.K.Keys.key_of c.args.self.now.keys) c.args.self.now.keyed }
