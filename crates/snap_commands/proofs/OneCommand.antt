-- A job comes to one answer.
use Rattle.std.proofs.Common.{◌≡◌, ℕ, List, Option, Some, None, Result, Ok, Err, inl, inr, ap, refl, sym, ◌∙◌}
use Rattle.snap_io.specs.Held.{Held, bytes_under}
use Rattle.snap_commands.specs.declared.fault.Fault.{Fault}
use Rattle.snap_commands.specs.Answers.{Answers, counted, run_answer}
use Rattle.snap_commands.specs.Line.{blob_name}
use Rattle.snap_commands.specs.Words.{Job, Build, Run, Verify}
use Rattle.spec_format.specs.declared.fault.BlobFault.{BlobFault}
use Rattle.spec_format.specs.Container.{container_checks}
use Rattle.spec_format.proofs.Checks.{no_fault}
use Rattle.snap_commands.specs.declared.fault.Fault.TheVariants as fault
use Rattle.snap_commands.specs.Plain.{AtContainer, AtStrings, IsRefused, strings_checks}
use Rattle.snap_commands.specs.Thin.{Globals}
use Rattle.snap_commands.specs.Verify.{HasStrings, IsBare, IsNotBuilt, Verifies}
use Rattle.snap_commands.proofs.OneAnswer.{refused_once}
use Rattle.snap_commands.proofs.OneLoading.{one_loading}

-- a bare blob has no fault
bare_sound : (bytes : List ℕ) (f : BlobFault) → IsBare bytes → IsRefused bytes f → ⊥
bare_sound bytes f bare (AtContainer p) = no_fault (container_checks bytes) f bare.container p
bare_sound bytes f bare (AtStrings hold plain p) = no_fault (strings_checks bytes) f bare.strings_hold p

thin_is_not_refused : (g : Globals) (f : BlobFault) → ◌≡◌ {A = Result Globals Fault} (Ok g) (Err (fault.Blob f)) → ⊥
thin_is_not_refused g f e = absurd cc

thin_is_built : (g : Globals) → ◌≡◌ {A = Result Globals Fault} (Ok g) (Err fault.NotBuilt) → ⊥
thin_is_built g e = absurd cc

refused_is_built : (f : BlobFault) → ◌≡◌ {A = Result Globals Fault} (Err (fault.Blob f)) (Err fault.NotBuilt) → ⊥
refused_is_built f e = absurd cc

-- a blob whose strings are counted has no fault
counted_sound : (bytes : List ℕ) (n : ℕ) (f : BlobFault) → HasStrings bytes n → IsRefused bytes f → ⊥
counted_sound bytes n f h refused = elim h.kind [
  | inl bare ↦ bare_sound bytes f bare refused
  | inr thin ↦ thin_is_not_refused thin.0 f (one_loading bytes (Ok thin.0) (Err (fault.Blob f)) thin.1 refused)
]

-- and is built
counted_built : (bytes : List ℕ) (n : ℕ) → HasStrings bytes n → IsNotBuilt bytes → ⊥
counted_built bytes n h not_built = elim h.kind [
  | inl bare ↦ not_built.not_bare bare
  | inr thin ↦ thin_is_built thin.0 (one_loading bytes (Ok thin.0) (Err fault.NotBuilt) thin.1 not_built.other)
]

refused_built : (bytes : List ℕ) (f : BlobFault) → IsRefused bytes f → IsNotBuilt bytes → ⊥
refused_built bytes f refused not_built = refused_is_built f (one_loading bytes (Err (fault.Blob f)) (Err fault.NotBuilt) refused not_built.other)

one_verdict : (bytes : List ℕ) (a b : Result ℕ Fault) → Verifies bytes a → Verifies bytes b → a ≡ b
one_verdict bytes (Ok m) (Ok n) p q = ap Ok (p.count ∙ sym q.count)
one_verdict bytes (Ok m) (Err (fault.Blob g)) p q = absurd (counted_sound bytes m g p q)
one_verdict bytes (Ok m) (Err fault.NotBuilt) p q = absurd (counted_built bytes m p q)
one_verdict bytes (Err (fault.Blob f)) (Ok n) p q = absurd (counted_sound bytes n f q p)
one_verdict bytes (Err (fault.Blob f)) (Err (fault.Blob g)) p q = ap (λ (x : BlobFault). Err (fault.Blob x)) (refused_once bytes f g p q)
one_verdict bytes (Err (fault.Blob f)) (Err fault.NotBuilt) p q = absurd (refused_built bytes f p q)
one_verdict bytes (Err fault.NotBuilt) (Ok n) p q = absurd (counted_built bytes n q p)
one_verdict bytes (Err fault.NotBuilt) (Err (fault.Blob g)) p q = absurd (refused_built bytes g q p)
one_verdict bytes (Err fault.NotBuilt) (Err fault.NotBuilt) p q = refl
one_verdict bytes (Err (fault.Source number why)) b p q = absurd p
one_verdict bytes (Err fault.Words) b p q = absurd p
one_verdict bytes (Err fault.Read) b p q = absurd p
one_verdict bytes (Err fault.NothingToRun) b p q = absurd p
one_verdict bytes (Err fault.Write) b p q = absurd p
one_verdict bytes (Err fault.NoMemory) b p q = absurd p
one_verdict bytes a (Err (fault.Source number why)) p q = absurd q
one_verdict bytes a (Err fault.Words) p q = absurd q
one_verdict bytes a (Err fault.Read) p q = absurd q
one_verdict bytes a (Err fault.NothingToRun) p q = absurd q
one_verdict bytes a (Err fault.Write) p q = absurd q
one_verdict bytes a (Err fault.NoMemory) p q = absurd q

-- a job comes to one answer
pub one_answer_lem : (held : Held) (job : Option Job) (a b : Result (List ℕ) Fault) → Answers held job a → Answers held job b → a ≡ b
one_answer_lem held None a b p q = p ∙ sym q
one_answer_lem held (Some (Build source)) a b p q = p ∙ sym q
one_answer_lem held (Some (Run entry)) a b p q = p.2 ∙ ap (run_answer held entry) (one_loading (bytes_under held blob_name) p.0 q.0 p.1 q.1) ∙ sym q.2
one_answer_lem held (Some (Verify blob)) a b p q = p.2 ∙ ap counted (one_verdict (bytes_under held blob) p.0 q.0 p.1 q.1) ∙ sym q.2
