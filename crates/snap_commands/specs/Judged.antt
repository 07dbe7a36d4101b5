-- What a reader of tokens gives, without the places of names and texts in memory.
use Rattle.std.specs.Prelude.{ℕ, List, Option, map}
use Rattle.std.specs.Option.{option_map}
use Rattle.std.specs.Borrow.{Bor}
use Rattle.std.specs.Global.{Vec}
use Rattle.snap_graph.specs.declared.value.Value.{Value}
use Rattle.snap_lex.specs.View.{views}
use Rattle.snap_lex.specs.declared.lexer.Token.{Token}
use Rattle.spec_tokens.specs.Tokens.{Lexeme}
use Rattle.snap_commands.specs.Thin.{ThinStatement, thin_of, value_of}
use Rattle.snap_commands.specs.declared.statement.Literal.{Literal}
use Rattle.snap_commands.specs.declared.statement.Statement.{Statement}

-- the tokens that are left
abbrev pub left : Option (Bor (List Token)) → Option (List Lexeme)
left o = option_map (λ (ts : Bor (List Token)). views ts.now) o

abbrev pub literal_left : Option (Literal × Bor (List Token)) → Option (Value × List Lexeme)
literal_left o = option_map (λ (p : Literal × Bor (List Token)). (value_of p.0, views p.1.now)) o

abbrev pub name_left : Option (Bor (List ℕ) × Bor (List Token)) → Option (List ℕ × List Lexeme)
name_left o = option_map (λ (p : Bor (List ℕ) × Bor (List Token)). (p.0.now, views p.1.now)) o

abbrev pub statement_left : Option (Statement × Bor (List Token)) → Option (ThinStatement × List Lexeme)
statement_left o = option_map (λ (p : Statement × Bor (List Token)). (thin_of p.0, views p.1.now)) o

-- a list of statements
abbrev pub thin_list : Option (Vec Statement) → Option (List ThinStatement)
thin_list o = option_map (λ (v : Vec Statement). map thin_of v.items) o
