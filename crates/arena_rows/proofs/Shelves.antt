-- Texts that are held where buffers grow.
use Rattle.std.proofs.Common.{ℕ, List, [], ◌∷◌, ◌++◌}
use Rattle.std.specs.Prelude.{All}
use Rattle.std.proofs.lemmas.List.Elements.{All-push, All-weaker}
use Rattle.snap_arena.specs.declared.held.HeldText.{HeldText}
use Rattle.snap_arena.specs.Laws.{held_still}
use Rattle.snap_arena.specs.Texts.{Extends, IsHeld}

-- they are still held
pub all_still : (before after : List (List ℕ)) (texts : List HeldText) → Extends before after → All (IsHeld before) texts → All (IsHeld after) texts
all_still before after texts grown held = All-weaker (IsHeld before) (IsHeld after) (λ text. held_still before after text grown) texts held

-- and one more
pub one_more : (before after : List (List ℕ)) (texts : List HeldText) (text : HeldText) → Extends before after → All (IsHeld before) texts → IsHeld after text → All (IsHeld after) (texts ++ text ∷ [])
one_more before after texts text grown held here = All-push (IsHeld after) texts text (all_still before after texts grown held) here
