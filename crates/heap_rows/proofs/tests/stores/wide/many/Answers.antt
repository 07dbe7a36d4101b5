use Rattle.heap_rows.specs.Wide.{many}
use Rattle.heap_rows.proofs.Wide.{many_more}
use Rattle.heap_rows.proofs.tests.stores.wide.many.Goals as goal

pub loop-n-init : goal.loop-n-init
unfolding many
loop-n-init c = c.new-properties.ensures.items

pub loop-n-preserved : goal.loop-n-preserved
loop-n-preserved c = many_more c.loop-n.n c.loop-n.properties.items c.push.new.self.items c.in_ok-property.field-0 c.loop-n.invariant c.in_ok-property.ensures c.in_ok-push.ensures.items
