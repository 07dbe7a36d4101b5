use Rattle.std.proofs.Common.{◌≡◌, ◌+◌, List, ℕ, ◌-◌, length, Err, sym, arith, rules}
use Rattle.std.proofs.lemmas.Result.{err_from_is_err_and}
use Rattle.spec_tokens.specs.declared.fault.LexFault.{LexFault}
use Rattle.spec_tokens.specs.declared.fault.LexFault.TheVariants.{BadByte, Unclosed, BigLiteral, NoMemory}
use Rattle.spec_tokens.specs.Tokens.{lexemes}
use Rattle.spec_tokens.proofs.Cuts.{lexemes_from-step, lexemes_from-stop, lexemes_from-all}
use Rattle.snap_lex.specs.View.{Cuts}
use Rattle.snap_lex.proofs.lexer.read.Goals as goal

-- the reason why there is no list, or want of memory
Cuts-err : (fault : LexFault) (source : List ℕ) → lexemes source ≡ Err fault → Cuts (Err fault) source
Cuts-err (BadByte at) source e = e
Cuts-err (Unclosed at) source e = e
Cuts-err (BigLiteral at) source e = e
Cuts-err NoMemory source e = tt

pub returns-in_err-piece : goal.returns-in_err-piece
unfolding lexemes
returns-in_err-piece c =
    let p = err_from_is_err_and c.from_residual.result c.from_residual.ensures.1 in
    let stop = lexemes_from-stop _ _ c.loop-rest.at c.loop-rest.newline c.loop-rest.rest.now c.in_err-piece.field-0.0 (search rules) (sym c.in_err-piece.ensures.exact) c.loop-rest.invariant.0 in
    record { exact = rw (p.1, p.2) (Cuts-err c.in_err-piece.field-0.0 c.args.source.now stop) }

pub loop-rest-preserved : goal.loop-rest-preserved
loop-rest-preserved c =
    let within = c.in_ok-piece.ensures.within in
    let fits : length c.split_at.result.1.now + (c.in_ok-piece.piece.end - c.loop-rest.at) ≡ length c.loop-rest.rest.now = c.split_at.ensures.back_len in
    (lexemes_from-step _ _ _ c.loop-rest.at c.loop-rest.newline _ c.loop-rest.rest.now _ _ c.in_ok-piece.piece (search rules) within.0 (sym c.in_ok-piece.ensures.exact) c.split_at.ensures.front c.split_at.ensures.back c.in_ok-newline.ensures.added c.in_ok-newline.ensures.newline c.loop-rest.invariant.0, omega (arith, within.0, within.1), omega arith)

pub returns : goal.returns
unfolding lexemes
returns c =
    record { exact = lexemes_from-all _ _ c.loop-rest.at c.loop-rest.newline c.loop-rest.rest.now (search rules) c.loop-rest.invariant.0 }
