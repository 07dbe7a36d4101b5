-- Tokens as lexemes, which hold no pointers.
use Rattle.std.specs.Prelude.{◌≡◌, ◌⊎◌, ℕ, List, map, Result, Ok, Err, Vec}
use Rattle.std.specs.declared.alloc.Global.{Global}
use Rattle.spec_tokens.specs.Faults.{HasFault}
use Rattle.spec_tokens.specs.Tokens.{Lexeme, lexemes}
use Rattle.spec_tokens.specs.declared.fault.LexFault.{LexFault}
use Rattle.spec_tokens.specs.declared.fault.LexFault.TheVariants.{NoMemory}
use Rattle.snap_lex.specs.declared.lexer.Token.{Token}

-- a token without its pointer
abbrev pub view : Token → Lexeme
view t = record { kind = t.kind; text = t.text.now; at = t.at; after_newline = t.after_newline }

abbrev pub views : List Token → List Lexeme
views = map view

-- the lexer answers the tokens of the source, or why there are none; memory may run out
abbrev pub Cuts : Result (Vec Token Global) LexFault → List ℕ → Type 0
Cuts (Ok list) source = lexemes source ≡ Ok (views list.items)
Cuts (Err NoMemory) source = Unit {0}
Cuts (Err fault) source = lexemes source ≡ Err fault

-- the lexer answers these tokens, or that memory ran out
abbrev pub GivesTokens : Result (Vec Token Global) LexFault → List Lexeme → Type 0
GivesTokens (Ok found) list = views found.items ≡ list
GivesTokens (Err fault) list = fault ≡ NoMemory

-- a fault that is answered is one of the source in the language's own words, but for want of memory
abbrev pub IsFaultOf : List ℕ → LexFault → Type 0
IsFaultOf source NoMemory = Unit {0}
IsFaultOf source fault = HasFault source fault

-- the lexer answers this fault, or that memory ran out
abbrev pub GivesFault : Result (Vec Token Global) LexFault → LexFault → Type 0
GivesFault (Ok found) fault = ⊥
GivesFault (Err found) fault = (found ≡ fault) ⊎ (found ≡ NoMemory)
