use Rattle.std.proofs.Common.{subst}
use Rattle.snap_ast.specs.Lawful.{HasWords}
use Rattle.snap_scope.proofs.NarrowNames.{name_narrow}
use Rattle.snap_scope.proofs.places.put_places.Goals as goal

pub put_place-requires-clause-narrow : goal.put_place-requires-clause-narrow
put_place-requires-clause-narrow c = name_narrow c.in-Name.name (subst HasWords c.in-Name.is c.requires.words)

pub put_place-requires-in-AssignName-clause-narrow : goal.put_place-requires-in-AssignName-clause-narrow
put_place-requires-in-AssignName-clause-narrow c = name_narrow c.in-AssignName.name.name (subst HasWords c.in-AssignName.is c.requires.words)

pub put_place-requires-in-UpdateName-clause-narrow : goal.put_place-requires-in-UpdateName-clause-narrow
put_place-requires-in-UpdateName-clause-narrow c = name_narrow c.in-UpdateName.name.name (subst HasWords c.in-UpdateName.is c.requires.words)
