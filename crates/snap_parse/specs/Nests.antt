-- A function value that reads the phrases below a node.
use Rattle.std.specs.Prelude.{ℕ, List, Result}
use Rattle.std.specs.declared.alloc.Global.{Global}
use denote.Ref.{MutBor}
use Rattle.spec_tokens.specs.Tokens.{Lexeme}
use Rattle.spec_grammar.specs.Phrase.{Phrase}
use Rattle.spec_grammar.specs.Read.{phrase}
use Rattle.spec_grammar.specs.declared.start.Start.{Start}
use Rattle.snap_cursor.specs.declared.fault.ReadFault.{ReadFault}
use Rattle.snap_cursor.specs.Reads.{Reads}

pub record Nests (room : ℕ) (pre : Global → MutBor (List Lexeme) → ℕ → Start → Type 0)
    (post : Global → MutBor (List Lexeme) → ℕ → Start → Result Phrase ReadFault → MutBor (List Lexeme) → Type 0) : Type 0 where
  pub callable : (alloc : Global) (old : MutBor (List Lexeme)) (start : Start) → pre alloc old room start
  pub reads : (alloc : Global) (old new : MutBor (List Lexeme)) (start : Start) (result : Result Phrase ReadFault) → post alloc old room start result new
      → Reads (phrase room start old.now) result new.now
