-- The parts of a build: reading the source, making the blob, writing it.
use Rattle.std.specs.Prelude.{◌≡◌, ℕ, ◌≤◌, ◌<◌, List, [], ◌++◌, length, Some, None, IfSome, Result, Ok, Err}
use Rattle.std.specs.Global.{Vec}
use Rattle.snap_base.specs.declared.limits.TheConstants.{MOST_SOURCE_BYTES}
use Rattle.snap_io.specs.Counts.{HasRisen}
use Rattle.snap_io.specs.Held.{Told, Writes, WritesInPart, bytes_under}
use Rattle.snap_commands.specs.declared.fault.Fault.{Fault}
use Rattle.snap_commands.specs.declared.fault.Fault.TheVariants as fault
use Rattle.snap_parse.specs.declared.fault.SourceFault.TheVariants as parse
use Rattle.snap_commands.specs.declared.refused.SourceRefused.TheVariants.{Parse}
use Rattle.snap_commands.specs.Answers.{entry_number, ran, source_number}
use Rattle.snap_commands.specs.Coming.{Asked, IsBlobVerdict, IsSteady, IsVerdict, Message, Says, starved}
use Rattle.snap_commands.specs.Denoted.{IsBuild, LeavesGlobals}
use Rattle.snap_commands.specs.Line.{blob_name, unwritten_line}
use Rattle.snap_commands.specs.Thin.{Globals}
use Rattle.snap_commands.specs.ThinBlob.{Loads}

-- the bytes of a source that was read, or why there are none under its number; the files keep what they hold
pub data Fetches (number : ℕ) (source : List ℕ) (files : Asked) (bytes : Result (Vec ℕ) Fault) : Type 0 where
  Fetched : (v : Vec ℕ) → bytes ≡ Ok v → IfSome files.before (λ held. v.items ≡ bytes_under held source) → files.after ≡ files.before → IsSteady files → Fetches number source files bytes
  TooLong : bytes ≡ Err (fault.Source number (Parse parse.TooLong)) → IfSome files.before (λ held. MOST_SOURCE_BYTES < length (bytes_under held source)) → files.after ≡ files.before → IsSteady files → Fetches number source files bytes
  Failed : bytes ≡ Err fault.Read → files.after ≡ files.before → HasRisen files.reads_before files.reads_after → files.reads_before ≤ files.reads_after → files.writes_after ≡ files.writes_before → Fetches number source files bytes
  Hungry : bytes ≡ Err fault.NoMemory → files.after ≡ files.before → IsSteady files → Fetches number source files bytes

-- what a source prints, and a blob of the source and of what it leaves
pub record IsMade (source printed blob : List ℕ) : Type 0 where
  pub prints : ran source_number source [] ≡ Ok printed
  pub globals : Globals
  pub leaves : LeavesGlobals source globals
  pub denotes : IsBuild blob source globals

-- a blob was written, and what is told then
pub data Puts (printed blob : List ℕ) (files : Asked) (said : Message) : Type 0 where
  Written : said ≡ record { text = printed; fault = None } → Told (Writes blob_name blob) files.before files.after → IsSteady files → Puts printed blob files said
  InPart : said ≡ record { text = printed ++ unwritten_line; fault = Some fault.Write } → Told (WritesInPart blob_name blob) files.before files.after → HasRisen files.writes_before files.writes_after → files.writes_before ≤ files.writes_after → files.reads_after ≡ files.reads_before → Puts printed blob files said
  Unput : said ≡ starved → files.after ≡ files.before → IsSteady files → Puts printed blob files said

-- the globals of the blob that the files hold, or why there are none; the files keep what they hold
pub data Finds (files : Asked) (found : Result Globals Fault) : Type 0 where
  Found : IsBlobVerdict found → IfSome files.before (λ held. Loads (bytes_under held blob_name) found) → files.after ≡ files.before → IsSteady files → Finds files found
  Lost : found ≡ Err fault.Read → files.after ≡ files.before → HasRisen files.reads_before files.reads_after → files.reads_before ≤ files.reads_after → files.writes_after ≡ files.writes_before → Finds files found
  Starved : found ≡ Err fault.NoMemory → files.after ≡ files.before → IsSteady files → Finds files found

-- an entry was run on globals, and what is told then; the files keep what they hold
pub data Runs (entry : List ℕ) (globals : Globals) (files : Asked) (said : Message) : Type 0 where
  Ran : (answer : Result (List ℕ) Fault) → IsVerdict answer → IfSome files.before (λ held. answer ≡ ran entry_number (bytes_under held entry) globals) → Says entry answer said → files.after ≡ files.before → IsSteady files → Runs entry globals files said
  Unread : Says entry (Err fault.Read) said → files.after ≡ files.before → HasRisen files.reads_before files.reads_after → files.reads_before ≤ files.reads_after → files.writes_after ≡ files.writes_before → Runs entry globals files said
  Faint : said ≡ starved → files.after ≡ files.before → IsSteady files → Runs entry globals files said
