use Rattle.std.proofs.Common.{All, List, ℕ, sym, subst}
use Rattle.snap_commands.specs.Denoted.{IsBuild, LeavesGlobals}
use Rattle.snap_commands.specs.Thin.{Globals}
use Rattle.snap_commands.specs.ThinBlob.{IsThin, IsThinGlobal}
use Rattle.snap_commands.proofs.LeftGlobals.{left_thin}
use Rattle.snap_commands.proofs.load.built_is_found.Goals as goal

is_found : (bytes source : List ℕ) (globals : Globals) → LeavesGlobals source globals → IsBuild bytes source globals → IsThin bytes globals
is_found bytes source globals left built = record {
  script = source;
  strings = built.strings;
  denotes = built.denotes;
  statements = left.statements;
  thin_source = left.thin_source;
  thin_globals = subst (λ (g : Globals). All IsThinGlobal g) (sym left.left) (left_thin source left.statements left.thin_source);
}

pub returns : goal.returns
returns c = is_found
