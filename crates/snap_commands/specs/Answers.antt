-- What a command comes to over what the files hold.
use Rattle.std.specs.Prelude.{◌≡◌, ◌≢◌, ◌⊎◌, ℕ, List, [], Option, Some, None, Result, Ok, Err, MatchResult, length, nat_le, if◌then◌else◌}
use Rattle.snap_base.specs.declared.limits.TheConstants.{MOST_ITEMS}
use Rattle.snap_io.specs.Held.{Held, Writes, WritesInPart, bytes_under}
use Rattle.snap_commands.specs.declared.fault.Fault.{Fault}
use Rattle.snap_commands.specs.declared.fault.Fault.TheVariants as fault
use Rattle.snap_commands.specs.declared.refused.SourceRefused.{SourceRefused}
use Rattle.snap_commands.specs.Denoted.{IsBuild, LeavesGlobals}
use Rattle.snap_commands.specs.Line.{blob_name, count_line}
use Rattle.snap_commands.specs.Refusals.{refusal}
use Rattle.snap_commands.specs.Thin.{Globals, ThinStatement, prints}
use Rattle.snap_commands.specs.ThinSource.{thin_script}
use Rattle.snap_commands.specs.ThinBlob.{Loads}
use Rattle.snap_commands.specs.Verify.{Verifies}
use Rattle.snap_commands.specs.Words.{Job, Build, Run, Verify}

-- the number of the source of a build, its place among the sources
abbrev pub source_number : ℕ
source_number = 0

-- the number of an entry, which is the number of the blob's scripts: a thin blob has one
abbrev pub entry_number : ℕ
entry_number = 1

-- what statements print on globals; a source without them is not built, and neither is one that prints too much
abbrev pub ran_of : Globals → Option (List ThinStatement) → Result (List ℕ) Fault
ran_of globals None = Err fault.NotBuilt
ran_of globals (Some statements) =
    if nat_le (length (prints statements globals)) MOST_ITEMS then Ok (prints statements globals) else Err fault.NotBuilt

-- a source that is refused under its number, and else what its statements print
abbrev pub ran_unless : ℕ → Globals → Option SourceRefused → Option (List ThinStatement) → Result (List ℕ) Fault
ran_unless number globals (Some refused) statements = Err (fault.Source number refused)
ran_unless number globals None statements = ran_of globals statements

-- what a source of this number prints on globals, or why it does not run
abbrev pub ran : ℕ → List ℕ → Globals → Result (List ℕ) Fault
ran number source globals = ran_unless number globals (refusal source) (thin_script source)

-- a number of strings is told by its line
abbrev pub counted : Result ℕ Fault → Result (List ℕ) Fault
counted (Ok n) = Ok (count_line n)
counted (Err f) = Err f

-- what a run of an entry comes to on what was found in the blob; without an entry nothing is run, since a thin blob has no main function
abbrev pub run_answer : Held → Option (List ℕ) → Result Globals Fault → Result (List ℕ) Fault
run_answer held entry (Err f) = Err f
run_answer held None (Ok globals) = Err fault.NothingToRun
run_answer held (Some entry) (Ok globals) = ran entry_number (bytes_under held entry) globals

-- the answer to a job over files that hold this: what is printed, or the fault; no job is that the words are refused
abbrev pub Answers : Held → Option Job → Result (List ℕ) Fault → Type 0
Answers held None answer = answer ≡ Err fault.Words
Answers held (Some (Build source)) answer = answer ≡ ran source_number (bytes_under held source) []
Answers held (Some (Run entry)) answer = (found : Result Globals Fault) × Loads (bytes_under held blob_name) found × (answer ≡ run_answer held entry found)
Answers held (Some (Verify blob)) answer = (count : Result ℕ Fault) × Verifies (bytes_under held blob) count × (answer ≡ counted count)

-- a build of the source prints this, and the blob's name holds a blob of the source and of what it left; every other
-- name holds what it held
pub record Builds (source printed : List ℕ) (before after : Held) : Type 0 where
  pub prints : ran source_number (bytes_under before source) [] ≡ Ok printed
  pub blob : List ℕ
  pub globals : Globals
  pub leaves : LeavesGlobals (bytes_under before source) globals
  pub denotes : IsBuild blob (bytes_under before source) globals
  pub written : Writes blob_name blob before after

-- the same where the write failed: the blob's name holds what it held, or a prefix of such a blob
pub record BuildsInPart (source printed : List ℕ) (before after : Held) : Type 0 where
  pub prints : ran source_number (bytes_under before source) [] ≡ Ok printed
  pub blob : List ℕ
  pub globals : Globals
  pub leaves : LeavesGlobals (bytes_under before source) globals
  pub denotes : IsBuild blob (bytes_under before source) globals
  pub written : WritesInPart blob_name blob before after

-- the blob's name holds a blob of the source and of what it left; every other name holds what it held
pub record HoldsBuild (source : List ℕ) (before after : Held) : Type 0 where
  pub printed : List ℕ
  pub builds : Builds source printed before after

-- the same, where the source is built; elsewhere the files hold what they held
abbrev pub LeavesBuild : List ℕ → Held → Held → Type 0
LeavesBuild source before after = MatchResult (ran source_number (bytes_under before source) []) (λ printed. HoldsBuild source before after) (λ refused. after ≡ before)

-- every name but the blob's holds what it held
abbrev pub KeepsOthers : Held → Held → Type 0
KeepsOthers before after = (name : List ℕ) → name ≢ blob_name → after name ≡ before name

-- the files hold what they held, or a build was written
abbrev pub KeepsOrHolds : List ℕ → Held → Held → Type 0
KeepsOrHolds source before after = (after ≡ before) ⊎ HoldsBuild source before after

-- the files hold what they held, a build was written, or a write of it failed
abbrev pub MayLeave : List ℕ → Held → Held → Type 0
MayLeave source before after = KeepsOrHolds source before after ⊎ ((printed : List ℕ) × BuildsInPart source printed before after)
