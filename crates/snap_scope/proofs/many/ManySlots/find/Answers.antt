use Rattle.snap_scope.proofs.Entries.{found, lost}
use Rattle.snap_scope.proofs.many.ManySlots.find.Goals as goal

pub returns-in-None-clause-place : goal.returns-in-None-clause-place
returns-in-None-clause-place c = lost c.self.inside.names.entries c.args.self.now c.args.name.now c.self.view_is c.in-None.ensures.index

pub returns-in-Some-clause-place : goal.returns-in-Some-clause-place
returns-in-Some-clause-place c = found c.self.inside.names.entries c.args.self.now c.args.name.now c.in-Some.slot c.in-Some.field-0-1.now c.in-Some.constant.now c.self.view_is c.in-Some.ensures.index c.in-Some.ensures.entry
