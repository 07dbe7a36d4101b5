use Rattle.spec_grammar.specs.Source.{NoTokens}
use Rattle.spec_grammar.proofs.Sources.{tree_is_read}
use Rattle.snap_parse.proofs.Causes.{deep_answer, fault_refuses, lawful_ok, refused_for, tree_ok}
use Rattle.snap_parse.proofs.parser.parse_with_tokens.Goals as goal

pub returns-clause-ok : goal.returns-clause-ok
returns-clause-ok c = tree_ok c.args.source.now _ c.read.ensures.found

pub returns-clause-some : goal.returns-clause-some
returns-clause-some c = λ tree short has. c.read.ensures.given tree short (tree_is_read c.args.source.now tree has)

pub returns-clause-lawful : goal.returns-clause-lawful
returns-clause-lawful c = lawful_ok c.args.source.now _ c.read.ensures.found

pub returns-clause-cause : goal.returns-clause-cause
returns-clause-cause c = refused_for c.args.source.now _ c.read.ensures.refused

pub returns-clause-lex : goal.returns-clause-lex
returns-clause-lex c = λ fault short has. c.read.ensures.told (NoTokens fault) short (fault_refuses c.args.source.now fault has)

pub returns-clause-deep : goal.returns-clause-deep
returns-clause-deep c = λ tree short has.
    deep_answer c.args.source.now _ tree has (λ within. c.read.ensures.given tree short (tree_is_read c.args.source.now tree within)) (λ refused is. c.read.ensures.told refused short is)
