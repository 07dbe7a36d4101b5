-- A source is refused for what it has.
use Rattle.std.proofs.Common.{◌≡◌, ℕ, List, [], Option, Some, None, Result, Ok, Err, length, ap, refl, sym, subst, ◌∙◌}
use Rattle.std.specs.Prelude.{IfSome, Bool, true, false, nat_le, if◌then◌else◌}
use Rattle.snap_io.specs.Held.{Held, bytes_under}
use Rattle.snap_commands.specs.declared.fault.Fault.{Fault}
use Rattle.snap_commands.specs.declared.fault.Fault.TheVariants as fault
use Rattle.snap_parse.specs.declared.fault.SourceFault.TheVariants as parse
use Rattle.snap_commands.specs.declared.refused.SourceRefused.{SourceRefused}
use Rattle.snap_commands.specs.declared.refused.SourceRefused.TheVariants.{Parse, Scope}
use Rattle.snap_commands.specs.Answers.{Answers, counted, entry_number, ran, ran_of, ran_unless, run_answer, source_number}
use Rattle.snap_commands.specs.Coming.{Answered, Asked, Built, Comes, Message, NoJob, Said, Says, Unread, Unsaid, Unwritten, message_of}
use Rattle.snap_commands.specs.Coming as coming
use Rattle.snap_commands.specs.Line.{fault_of, source_name}
use Rattle.snap_commands.specs.Refusals.{HasCause, refusal, unaccepted}
use Rattle.snap_ast.specs.declared.tree.Tree.{Tree}
use Rattle.spec_grammar.specs.Source.{HasTree, Refused, read_tree}
use Rattle.spec_grammar.proofs.Sources.{read_is_tree}
use Rattle.snap_parse.specs.Answers.{source_fault}
use Rattle.snap_parse.proofs.Causes.{read_cause}
use Rattle.spec_grammar.proofs.LawfulTrees.{tree_lawful}
use Rattle.spec_scopes.proofs.Told.{none_told, told_stands}
use Rattle.spec_scopes.specs.EarlyErrors.{HasFault}
use Rattle.spec_scopes.specs.Told.{early_error}
use Rattle.spec_scopes.specs.declared.fault.ScopeFault.{ScopeFault}
use Rattle.std.specs.Option.{option_map}
use Rattle.snap_commands.specs.Telling.{InPart, Sunk, Tells, Untold, Whole}
use Rattle.snap_commands.specs.Words.{Job, Build, Run, Verify}
use Rattle.snap_commands.specs.Thin.{Globals, ThinStatement, prints}
use Rattle.snap_commands.specs.ThinBlob.{Loads}
use Rattle.snap_commands.specs.ThinSource.{thin_script}
use Rattle.snap_commands.specs.Verify.{Verifies}
use Rattle.snap_commands.specs.Line.{blob_name}
use Rattle.std.proofs.lemmas.Bool.{leb-false}
use Rattle.snap_base.specs.declared.limits.TheConstants.{MOST_ITEMS, MOST_SOURCE_BYTES}

some_why : (one other : SourceRefused) → ◌≡◌ {A = Option SourceRefused} (Some one) (Some other) → one ≡ other
some_why one other e = cc

same_refused : (n : ℕ) (why : SourceRefused) (number : ℕ) (other : SourceRefused) → ◌≡◌ {A = Result (List ℕ) Fault} (Err (fault.Source n why)) (Err (fault.Source number other)) → other ≡ why
same_refused n why number other e = cc

same_error : (f g : Fault) → ◌≡◌ {A = Result (List ℕ) Fault} (Err f) (Err g) → f ≡ g
same_error f g e = cc

-- ---- why a source is refused

scope_cause : (source : List ℕ) (tree : Tree) (error : Option ScopeFault) (why : SourceRefused) → HasTree source tree → early_error tree ≡ error → option_map Scope error ≡ Some why → HasCause source why
scope_cause source tree None why has is e = absurd cc
scope_cause source tree (Some fault) why has is e = subst (HasCause source) (some_why (Scope fault) why e) (tree, has, told_stands tree fault (tree_lawful source tree has) is)

unaccepted_cause : (source : List ℕ) (read : Result Tree Refused) (why : SourceRefused) → read_tree source ≡ read → unaccepted read ≡ Some why → HasCause source why
unaccepted_cause source (Ok tree) why is e = scope_cause source tree (early_error tree) why (read_is_tree source tree is) refl e
unaccepted_cause source (Err refused) why is e = subst (HasCause source) (some_why (Parse (source_fault refused)) why e) (read_cause source refused is)

refused_cause : (source : List ℕ) (short : Bool) (why : SourceRefused) → nat_le (length source) MOST_SOURCE_BYTES ≡ short → (if short then unaccepted (read_tree source) else Some (Parse parse.TooLong)) ≡ Some why → HasCause source why
refused_cause source true why is e = unaccepted_cause source (read_tree source) why refl e
refused_cause source false why is e = subst (HasCause source) (some_why (Parse parse.TooLong) why e) (leb-false (length source) MOST_SOURCE_BYTES is)

-- a source that is refused has the cause
refusal_cause : (source : List ℕ) (why : SourceRefused) → refusal source ≡ Some why → HasCause source why
unfolding refusal
refusal_cause source why e = refused_cause source (nat_le (length source) MOST_SOURCE_BYTES) why refl e

-- ---- what is accepted

-- a tree of the source, without early errors
abbrev IsAccepted : List ℕ → Type 0
IsAccepted source = (tree : Tree) × HasTree source tree × ((fault : ScopeFault) → HasFault tree fault → ⊥)

no_error : (error : Option ScopeFault) → ◌≡◌ {A = Option SourceRefused} (option_map Scope error) None → error ≡ None
no_error None e = refl
no_error (Some fault) e = absurd cc

accepted_in : (source : List ℕ) (read : Result Tree Refused) → read_tree source ≡ read → unaccepted read ≡ None → IsAccepted source
accepted_in source (Ok tree) is e =
    let has : HasTree source tree = read_is_tree source tree is in
    (tree, has, λ fault stands. none_told tree fault (tree_lawful source tree has) (no_error (early_error tree) e) stands)
accepted_in source (Err refused) is e = absurd cc

accepted_if : (source : List ℕ) (short : Bool) → (if short then unaccepted (read_tree source) else Some (Parse parse.TooLong)) ≡ None → IsAccepted source
accepted_if source true e = accepted_in source (read_tree source) refl e
accepted_if source false e = absurd cc

-- a source that is not refused has a tree without early errors
accepted_tree : (source : List ℕ) → refusal source ≡ None → IsAccepted source
unfolding refusal
accepted_tree source e = accepted_if source (nat_le (length source) MOST_SOURCE_BYTES) e

unbuilt_accepted : (number : ℕ) (globals : Globals) (refused : Option SourceRefused) (statements : Option (List ThinStatement)) → ran_unless number globals refused statements ≡ Err fault.NotBuilt → refused ≡ None
unbuilt_accepted number globals (Some why) statements e = absurd cc
unbuilt_accepted number globals None statements e = refl

-- so has one that is not built
pub unbuilt_tree : (number : ℕ) (source : List ℕ) (globals : Globals) → ran number source globals ≡ Err fault.NotBuilt → IsAccepted source
unbuilt_tree number source globals e = accepted_tree source (unbuilt_accepted number globals (refusal source) (thin_script source) e)

-- ---- what runs not for this reason

printed_not : (short : Bool) (printed : List ℕ) (number : ℕ) (why : SourceRefused) → Err (fault.Source number why) ≡ (if short then Ok printed else Err fault.NotBuilt) → ⊥
printed_not true printed number why e = absurd cc
printed_not false printed number why e = absurd cc

ran_refused : (number : ℕ) (globals : Globals) (refused : Option SourceRefused) (statements : Option (List ThinStatement)) (n : ℕ) (why : SourceRefused) → Err (fault.Source n why) ≡ ran_unless number globals refused statements → refused ≡ Some why
ran_refused number globals (Some other) statements n why e = ap (λ (w : SourceRefused). Some w) (same_refused n why number other e)
ran_refused number globals None None n why e = absurd cc
ran_refused number globals None (Some ss) n why e = absurd (printed_not (nat_le (length (prints ss globals)) MOST_ITEMS) (prints ss globals) n why e)

-- a source that does not run for this reason has the cause
ran_cause : (number : ℕ) (source : List ℕ) (globals : Globals) (n : ℕ) (why : SourceRefused) → Err (fault.Source n why) ≡ ran number source globals → HasCause source why
ran_cause number source globals n why e = refusal_cause source why (ran_refused number globals (refusal source) (thin_script source) n why e)

loads_not : (bytes : List ℕ) (f : Fault) (n : ℕ) (why : SourceRefused) → Loads bytes (Err f) → fault.Source n why ≡ f → ⊥
loads_not bytes f n why loads e = subst (λ (x : Fault). Loads bytes (Err x)) (sym e) loads

entry_cause : (held : Held) (entry : Option (List ℕ)) (found : Result Globals Fault) (n : ℕ) (why : SourceRefused) → Loads (bytes_under held blob_name) found → Err (fault.Source n why) ≡ run_answer held entry found → HasCause (bytes_under held (source_name (Some (Run entry)))) why
entry_cause held entry (Err f) n why loads e = absurd (loads_not (bytes_under held blob_name) f n why loads (same_error (fault.Source n why) f e))
entry_cause held None (Ok globals) n why loads e = absurd cc
entry_cause held (Some entry) (Ok globals) n why loads e = ran_cause entry_number (bytes_under held entry) globals n why e

count_not : (bytes : List ℕ) (count : Result ℕ Fault) (n : ℕ) (why : SourceRefused) → Verifies bytes count → Err (fault.Source n why) ≡ counted count → ⊥
count_not bytes (Ok k) n why verifies e = absurd cc
count_not bytes (Err f) n why verifies e = subst (λ (x : Fault). Verifies bytes (Err x)) (sym (same_error (fault.Source n why) f e)) verifies

-- the source that a job runs has the cause for which it is refused
answer_cause : (held : Held) (job : Option Job) (n : ℕ) (why : SourceRefused) → Answers held job (Err (fault.Source n why)) → HasCause (bytes_under held (source_name job)) why
answer_cause held None n why e = absurd cc
answer_cause held (Some (Build source)) n why e = ran_cause source_number (bytes_under held source) [] n why e
answer_cause held (Some (Run entry)) n why (found, loads, e) = entry_cause held entry found n why loads e
answer_cause held (Some (Verify blob)) n why (count, verifies, e) = absurd (count_not (bytes_under held blob) count n why verifies e)

-- ---- the fault of a message

none_refused : (n : ℕ) (why : SourceRefused) → ◌≡◌ {A = Option Fault} None (Some (fault.Source n why)) → ⊥
none_refused n why e = absurd cc

memory_refused : (n : ℕ) (why : SourceRefused) → ◌≡◌ {A = Option Fault} (Some fault.NoMemory) (Some (fault.Source n why)) → ⊥
memory_refused n why e = absurd cc

write_refused : (n : ℕ) (why : SourceRefused) → ◌≡◌ {A = Option Fault} (Some fault.Write) (Some (fault.Source n why)) → ⊥
write_refused n why e = absurd cc

words_refused : (n : ℕ) (why : SourceRefused) → ◌≡◌ {A = Result (List ℕ) Fault} (Err fault.Words) (Err (fault.Source n why)) → ⊥
words_refused n why e = absurd cc

read_refused : (n : ℕ) (why : SourceRefused) → ◌≡◌ {A = Result (List ℕ) Fault} (Err fault.Read) (Err (fault.Source n why)) → ⊥
read_refused n why e = absurd cc

err_of : (g : Fault) (n : ℕ) (why : SourceRefused) → ◌≡◌ {A = Option Fault} (Some g) (Some (fault.Source n why)) → ◌≡◌ {A = Result (List ℕ) Fault} (Err g) (Err (fault.Source n why))
err_of g n why e = cc

-- what was answered, where the message is that a source is refused
says_refused : (name : List ℕ) (answer : Result (List ℕ) Fault) (said : Message) (n : ℕ) (why : SourceRefused) → Says name answer said → said.fault ≡ Some (fault.Source n why) → answer ≡ Err (fault.Source n why)
says_refused name (Ok printed) said n why (Said is) e = absurd (none_refused n why (sym (ap (λ (m : Message). m.fault) is) ∙ e))
says_refused name (Err g) said n why (Said is) e = err_of g n why (sym (ap (λ (m : Message). m.fault) is) ∙ e)
says_refused name answer said n why (Unsaid is) e = absurd (memory_refused n why (sym (ap (λ (m : Message). m.fault) is) ∙ e))

-- the job is answered so, and the source that it runs has the cause
abbrev IsRefused : Option Held → Option Job → ℕ → SourceRefused → Type 0
IsRefused before job n why = IfSome before (λ held. Answers held job (Err (fault.Source n why)) × HasCause (bytes_under held (source_name job)) why)

answered_refused : (before : Option Held) (j : Job) (answer : Result (List ℕ) Fault) (n : ℕ) (why : SourceRefused) → answer ≡ Err (fault.Source n why) → IfSome before (λ held. Answers held (Some j) answer) → IsRefused before (Some j) n why
answered_refused None j answer n why e answers = tt
answered_refused (Some held) j answer n why e answers =
    let refused = subst (λ (r : Result (List ℕ) Fault). Answers held (Some j) r) e answers in
    (refused, answer_cause held (Some j) n why refused)

source_said : (job : Option Job) (files : Asked) (said : Message) (n : ℕ) (why : SourceRefused) → Comes job files said → said.fault ≡ Some (fault.Source n why) → IsRefused files.before job n why
source_said job files said n why (NoJob none says kept steady) e = absurd (words_refused n why (says_refused [] (Err fault.Words) said n why says e))
source_said job files said n why (Answered j a some verdict nothing shown answers says kept steady) e =
    subst (λ (x : Option Job). IsRefused files.before x n why) (sym some)
    (answered_refused files.before j a n why (says_refused (source_name (Some j)) a said n why says e) answers)
source_said job files said n why (Built source printed some builds is steady) e = absurd (none_refused n why (sym (ap (λ (m : Message). m.fault) is) ∙ e))
source_said job files said n why (Unread j name some among says kept rose up same) e = absurd (read_refused n why (says_refused name (Err fault.Read) said n why says e))
source_said job files said n why (Unwritten source printed some builds is rose up same) e = absurd (write_refused n why (sym (ap (λ (m : Message). m.fault) is) ∙ e))
source_said job files said n why (coming.Starved is kept steady) e = absurd (memory_refused n why (sym (ap (λ (m : Message). m.fault) is) ∙ e))

-- where a source is refused, the job is answered so, and the source has the cause
pub source_told : (job : Option Job) (files : Asked) (said : Message) (told : Option Fault) (sink : Sunk) → Comes job files said → Tells said told sink → (n : ℕ) (why : SourceRefused) → told ≡ Some (fault.Source n why) → IsRefused files.before job n why
source_told job files said told sink comes (Whole is written same) n why e = source_said job files said n why comes (sym is ∙ e)
source_told job files said told sink comes (InPart some is part rose up) n why e = absurd (write_refused n why (sym is ∙ e))
source_told job files said told sink comes (Untold is written same) n why e = absurd (memory_refused n why (sym is ∙ e))
