use Rattle.std.proofs.Common.{◌≡◌, ◌⊎◌, ℕ, List, Result, Ok, Err, inl, inr, refl}
use Rattle.spec_tokens.proofs.Lacking.{fault_is_cut}
use Rattle.spec_tokens.proofs.Sound.{list_is_cut}
use Rattle.spec_tokens.specs.Faults.{HasFault}
use Rattle.spec_tokens.specs.Laws.{AreTokens}
use Rattle.spec_tokens.specs.Tokens.{Lexeme, lexemes}
use Rattle.spec_tokens.specs.declared.fault.LexFault.{LexFault}
use Rattle.spec_tokens.proofs.laws.tokens_or_fault.Goals as goal

either : (source : List ℕ) (read : Result (List Lexeme) LexFault) → lexemes source ≡ read → ((list : List Lexeme) × AreTokens source list) ⊎ ((fault : LexFault) × HasFault source fault)
either source (Ok list) e = inl (list, list_is_cut source list e)
either source (Err fault) e = inr (fault, fault_is_cut source fault e)

pub returns : goal.returns
returns c = λ source. either source (lexemes source) refl
