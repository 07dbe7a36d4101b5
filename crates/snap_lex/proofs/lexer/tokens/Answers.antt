use Rattle.std.proofs.Common.{◌≡◌, ℕ, List, Result, Ok, Err, IfErr, IfOk, Vec, refl, inl, inr}
use Rattle.std.specs.declared.alloc.Global.{Global}
use Rattle.spec_tokens.proofs.Faults.{fault_is_read}
use Rattle.spec_tokens.proofs.Lacking.{fault_is_cut}
use Rattle.spec_tokens.proofs.Reading.{list_is_read}
use Rattle.spec_tokens.proofs.Sound.{list_is_cut}
use Rattle.spec_tokens.specs.Faults.{HasFault}
use Rattle.spec_tokens.specs.Laws.{AreTokens}
use Rattle.spec_tokens.specs.Tokens.{Lexeme, lexemes}
use Rattle.spec_tokens.specs.declared.fault.LexFault.{LexFault}
use Rattle.spec_tokens.specs.declared.fault.LexFault.TheVariants.{BadByte, Unclosed, BigLiteral, NoMemory}
use Rattle.snap_lex.specs.View.{views, Cuts, GivesFault, GivesTokens, IsFaultOf}
use Rattle.snap_lex.specs.declared.lexer.Token.{Token}
use Rattle.snap_lex.proofs.lexer.tokens.Goals as goal

one_answer : (read : Result (List Lexeme) LexFault) (list other : List Lexeme) → read ≡ Ok list → read ≡ Ok other → list ≡ other
one_answer read list other is is_other = cc

no_list : (read : Result (List Lexeme) LexFault) (list : List Lexeme) (fault : LexFault) → read ≡ Ok list → read ≡ Err fault → ⊥
no_list read list fault is faulty = cc

Cuts-found : (answer : Result (Vec Token Global) LexFault) (source : List ℕ) → Cuts answer source → IfOk answer (λ list. AreTokens source (views list.items))
Cuts-found (Ok list) source cuts = list_is_cut source (views list.items) cuts
Cuts-found (Err fault) source cuts = tt

Cuts-only : (answer : Result (Vec Token Global) LexFault) (source : List ℕ) → Cuts answer source → (list : List Lexeme) → AreTokens source list → GivesTokens answer list
Cuts-only (Ok found) source cuts list are = one_answer (lexemes source) (views found.items) list cuts (list_is_read source list are)
Cuts-only (Err NoMemory) source cuts list are = refl
Cuts-only (Err (BadByte at)) source cuts list are = absurd (no_list (lexemes source) list (BadByte at) (list_is_read source list are) cuts)
Cuts-only (Err (Unclosed at)) source cuts list are = absurd (no_list (lexemes source) list (Unclosed at) (list_is_read source list are) cuts)
Cuts-only (Err (BigLiteral at)) source cuts list are = absurd (no_list (lexemes source) list (BigLiteral at) (list_is_read source list are) cuts)

pub returns-clause-found : goal.returns-clause-found
returns-clause-found c = Cuts-found c.read.result c.args.source.now c.read.ensures.exact

pub returns-clause-only : goal.returns-clause-only
returns-clause-only c = Cuts-only c.read.result c.args.source.now c.read.ensures.exact

one_fault : (read : Result (List Lexeme) LexFault) (found fault : LexFault) → read ≡ Err found → read ≡ Err fault → found ≡ fault
one_fault read found fault is is_other = cc

Cuts-refused : (answer : Result (Vec Token Global) LexFault) (source : List ℕ) → Cuts answer source → IfErr answer (λ fault. IsFaultOf source fault)
Cuts-refused (Ok list) source cuts = tt
Cuts-refused (Err NoMemory) source cuts = tt
Cuts-refused (Err (BadByte at)) source cuts = fault_is_cut source (BadByte at) cuts
Cuts-refused (Err (Unclosed at)) source cuts = fault_is_cut source (Unclosed at) cuts
Cuts-refused (Err (BigLiteral at)) source cuts = fault_is_cut source (BigLiteral at) cuts

Cuts-told : (answer : Result (Vec Token Global) LexFault) (source : List ℕ) → Cuts answer source → (fault : LexFault) → HasFault source fault → GivesFault answer fault
Cuts-told (Ok found) source cuts fault has = no_list (lexemes source) (views found.items) fault cuts (fault_is_read source fault has)
Cuts-told (Err NoMemory) source cuts fault has = inr refl
Cuts-told (Err (BadByte at)) source cuts fault has = inl (one_fault (lexemes source) (BadByte at) fault cuts (fault_is_read source fault has))
Cuts-told (Err (Unclosed at)) source cuts fault has = inl (one_fault (lexemes source) (Unclosed at) fault cuts (fault_is_read source fault has))
Cuts-told (Err (BigLiteral at)) source cuts fault has = inl (one_fault (lexemes source) (BigLiteral at) fault cuts (fault_is_read source fault has))

pub returns-clause-refused : goal.returns-clause-refused
returns-clause-refused c = Cuts-refused c.read.result c.args.source.now c.read.ensures.exact

pub returns-clause-told : goal.returns-clause-told
returns-clause-told c = Cuts-told c.read.result c.args.source.now c.read.ensures.exact
