use Rattle.snap_store.proofs.Keying.{keyed_still}
use Rattle.snap_store.proofs.plain_store.PlainStoreStore.key.Goals as goal

pub invariant_of-self : goal.invariant_of-self
invariant_of-self g c =
    record { keyed = keyed_still (g.K.Keys.key_of c.args.self.now.keys) (g.K.Keys.key_of c.key.new.self) c.args.self.now.heap.nodes.items c.key.ensures.kept c.args.self.now.keyed }
