use Rattle.std.proofs.Common.{◌≡◌, drop}
use Rattle.snap_lex.specs.View.{views}
use Rattle.snap_commands.specs.ThinSource.{parts_by_blanks}
use Rattle.snap_commands.proofs.judge.parts_by_blanks.Given as goal

abbrev pub invariant-loop-token : goal.invariant-loop-token
invariant-loop-token l = parts_by_blanks l.source l.from (views (drop l.token-index l.tokens)) ≡ parts_by_blanks l.source 0 (views l.tokens)
