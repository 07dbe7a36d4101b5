-- How an answer comes about: from the words, from what the files hold, or from what went wrong.
use Rattle.std.specs.Prelude.{◌≡◌, ℕ, ◌≤◌, Contains, List, [], ◌++◌, Option, Some, None, IfSome, Result, Ok, Err}
use Rattle.snap_io.specs.Counts.{HasRisen}
use Rattle.snap_io.specs.Held.{Held, Told, bytes_under}
use Rattle.snap_commands.specs.Verify.{Verifies}
use Rattle.snap_commands.specs.declared.fault.Fault.{Fault}
use Rattle.snap_commands.specs.declared.fault.Fault.TheVariants as fault
use Rattle.snap_commands.specs.Answers.{Answers, Builds, BuildsInPart, counted}
use Rattle.snap_commands.specs.Line.{fault_of, read_names, source_name, told_of, unwritten_line}
use Rattle.snap_commands.specs.Words.{Job, Build, Run, Verify}

-- an answer that looks at the bytes of a blob
abbrev pub IsBlobVerdict : {X : Type 0} → Result X Fault → Type 0
IsBlobVerdict (Ok n) = Unit {0}
IsBlobVerdict (Err (fault.Blob f)) = Unit {0}
IsBlobVerdict (Err fault.NotBuilt) = Unit {0}
IsBlobVerdict (Err (fault.Source number refused)) = ⊥
IsBlobVerdict (Err fault.Words) = ⊥
IsBlobVerdict (Err fault.NothingToRun) = ⊥
IsBlobVerdict (Err fault.Read) = ⊥
IsBlobVerdict (Err fault.Write) = ⊥
IsBlobVerdict (Err fault.NoMemory) = ⊥

-- an answer that looks at bytes
abbrev pub IsVerdict : {X : Type 0} → Result X Fault → Type 0
IsVerdict (Ok n) = Unit {0}
IsVerdict (Err (fault.Blob f)) = Unit {0}
IsVerdict (Err (fault.Source number refused)) = Unit {0}
IsVerdict (Err fault.NotBuilt) = Unit {0}
IsVerdict (Err fault.Words) = ⊥
IsVerdict (Err fault.NothingToRun) = Unit {0}
IsVerdict (Err fault.Read) = ⊥
IsVerdict (Err fault.Write) = ⊥
IsVerdict (Err fault.NoMemory) = ⊥

-- an answer after which no file is written: each but that of a build that was done
abbrev pub WritesNothing : Job → Result (List ℕ) Fault → Type 0
WritesNothing (Build source) (Ok printed) = ⊥
WritesNothing (Build source) (Err f) = Unit {0}
WritesNothing (Run entry) answer = Unit {0}
WritesNothing (Verify blob) answer = Unit {0}

-- what a job shows: a verify shows the line of a number, or a fault
abbrev pub Shows : Job → Result (List ℕ) Fault → Type 0
Shows (Build source) answer = Unit {0}
Shows (Run entry) answer = Unit {0}
Shows (Verify blob) answer = (count : Result ℕ Fault) × (answer ≡ counted count)

-- what the files told, and how often a read and a write of them failed, before and after
pub record Asked : Type 0 where
  pub before : Option Held
  pub after : Option Held
  pub reads_before : ℕ
  pub reads_after : ℕ
  pub writes_before : ℕ
  pub writes_after : ℕ

-- no read and no write failed
pub record IsSteady (files : Asked) : Type 0 where
  pub reads : files.reads_after ≡ files.reads_before
  pub writes : files.writes_after ≡ files.writes_before

-- what is to be told, and the fault
pub record Message : Type 0 where
  pub text : List ℕ
  pub fault : Option Fault

-- the message of an answer; where it is that a read failed or a source is refused, this is the name of the file
abbrev pub message_of : List ℕ → Result (List ℕ) Fault → Message
message_of name answer = record { text = told_of name answer; fault = fault_of answer }

-- nothing is to be told, since memory ran out
abbrev pub starved : Message
starved = record { text = []; fault = Some fault.NoMemory }

-- an answer was put into words, or memory ran out
pub data Says (name : List ℕ) (answer : Result (List ℕ) Fault) (said : Message) : Type 0 where
  Said : said ≡ message_of name answer → Says name answer said
  Unsaid : said ≡ starved → Says name answer said

-- the message of a job, over files that were asked
pub data Comes (job : Option Job) (files : Asked) (said : Message) : Type 0 where
  NoJob : job ≡ None → Says [] (Err fault.Words) said → files.after ≡ files.before → IsSteady files → Comes job files said
  Answered : (j : Job) (answer : Result (List ℕ) Fault) → job ≡ Some j → IsVerdict answer → WritesNothing j answer → Shows j answer → IfSome files.before (λ held. Answers held (Some j) answer) → Says (source_name (Some j)) answer said → files.after ≡ files.before → IsSteady files → Comes job files said
  Built : (source printed : List ℕ) → job ≡ Some (Build source) → Told (Builds source printed) files.before files.after → said ≡ record { text = printed; fault = None } → IsSteady files → Comes job files said
  Unread : (j : Job) (name : List ℕ) → job ≡ Some j → Contains (read_names (Some j)) name → Says name (Err fault.Read) said → files.after ≡ files.before → HasRisen files.reads_before files.reads_after → files.reads_before ≤ files.reads_after → files.writes_after ≡ files.writes_before → Comes job files said
  Unwritten : (source printed : List ℕ) → job ≡ Some (Build source) → Told (BuildsInPart source printed) files.before files.after → said ≡ record { text = printed ++ unwritten_line; fault = Some fault.Write } → HasRisen files.writes_before files.writes_after → files.writes_before ≤ files.writes_after → files.reads_after ≡ files.reads_before → Comes job files said
  Starved : said ≡ starved → files.after ≡ files.before → IsSteady files → Comes job files said

-- what a read of a blob comes to: a verdict on its bytes, or what went wrong; the files keep what they hold
pub data Counts (blob : List ℕ) (files : Asked) (count : Result ℕ Fault) : Type 0 where
  Judged : IsBlobVerdict count → IfSome files.before (λ held. Verifies (bytes_under held blob) count) → files.after ≡ files.before → IsSteady files → Counts blob files count
  Failed : count ≡ Err fault.Read → files.after ≡ files.before → HasRisen files.reads_before files.reads_after → files.reads_before ≤ files.reads_after → files.writes_after ≡ files.writes_before → Counts blob files count
  Hungry : count ≡ Err fault.NoMemory → files.after ≡ files.before → IsSteady files → Counts blob files count

-- a fault of the words or of what was read: nothing was run or written
abbrev pub IsRefusal : Fault → Type 0
IsRefusal fault.Words = Unit {0}
IsRefusal (fault.Blob f) = Unit {0}
IsRefusal (fault.Source number refused) = Unit {0}
IsRefusal fault.NotBuilt = Unit {0}
IsRefusal fault.NothingToRun = Unit {0}
IsRefusal fault.Read = Unit {0}
IsRefusal fault.Write = ⊥
IsRefusal fault.NoMemory = ⊥
