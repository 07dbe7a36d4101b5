-- What is printed, and the status that the program ends with.
use Rattle.std.specs.Prelude.{◌≡◌, ℕ, Contains, List, [], ◌∷◌, ◌++◌, Option, Some, None, Result, Ok, Err, codes}
use Rattle.std.specs.Fmt.{decimal}
use Rattle.snap_base.specs.declared.limits.TheConstants.{MOST_SOURCE_BYTES}
use Rattle.spec_format.specs.declared.fault.BlobKind.{BlobKind}
use Rattle.spec_format.specs.declared.fault.BlobKind.TheVariants.{TooLong, TooShort, BadMagic, BadVersion, BadLength, BadDigest, BadSections, ExternalMissing, Truncated, BadOp, BadNumber, BadString, BadReference, BadShape, BadTable, BadSource, BadScope, BadRoot, Trailing}
use Rattle.snap_commands.specs.Words.{Job, Build, Run, Verify}
use Rattle.snap_commands.specs.declared.fault.Fault.{Fault}
use Rattle.snap_commands.specs.declared.fault.Fault.TheVariants as fault
use Rattle.snap_parse.specs.declared.fault.SourceFault.{SourceFault}
use Rattle.snap_parse.specs.declared.fault.SourceFault.TheVariants as parse
use Rattle.snap_commands.specs.declared.refused.SourceRefused.{SourceRefused}
use Rattle.snap_commands.specs.declared.refused.SourceRefused.TheVariants as why
use Rattle.spec_scopes.specs.declared.fault.ScopeFault.{ScopeFault}
use Rattle.spec_scopes.specs.declared.fault.ScopeFault.TheVariants as scope
use Rattle.spec_tokens.specs.declared.fault.LexFault.{LexFault}
use Rattle.spec_tokens.specs.declared.fault.LexFault.TheVariants as lex

-- the name of a kind
abbrev pub kind_name : BlobKind → List ℕ
kind_name TooLong = codes "TooLong"
kind_name TooShort = codes "TooShort"
kind_name BadMagic = codes "BadMagic"
kind_name BadVersion = codes "BadVersion"
kind_name BadLength = codes "BadLength"
kind_name BadDigest = codes "BadDigest"
kind_name BadSections = codes "BadSections"
kind_name (ExternalMissing place) = codes "ExternalMissing"
kind_name Truncated = codes "Truncated"
kind_name BadOp = codes "BadOp"
kind_name BadNumber = codes "BadNumber"
kind_name BadString = codes "BadString"
kind_name BadReference = codes "BadReference"
kind_name BadShape = codes "BadShape"
kind_name BadTable = codes "BadTable"
kind_name BadSource = codes "BadSource"
kind_name BadScope = codes "BadScope"
kind_name BadRoot = codes "BadRoot"
kind_name Trailing = codes "Trailing"

-- the name of the blob that a build writes
abbrev pub blob_name : List ℕ
blob_name = codes "snapshot.blob"

-- the names of the files that a command reads
abbrev pub read_names : Option Job → List (List ℕ)
read_names None = []
read_names (Some (Build source)) = source ∷ []
read_names (Some (Run None)) = blob_name ∷ []
read_names (Some (Run (Some entry))) = blob_name ∷ entry ∷ []
read_names (Some (Verify blob)) = blob ∷ []

-- the name of the source that a command runs: the source of a build, the entry of a run
abbrev pub source_name : Option Job → List ℕ
source_name None = []
source_name (Some (Build source)) = source
source_name (Some (Run None)) = []
source_name (Some (Run (Some entry))) = entry
source_name (Some (Verify blob)) = []

-- the name in the line of a fault: a file that the command reads, where a read failed, and the source that it runs, where
-- that is refused
abbrev pub Names : Option Job → Fault → List ℕ → Type 0
Names job fault.Read name = Contains (read_names job) name
Names job (fault.Source number refused) name = name ≡ source_name job
Names job (fault.Blob f) name = Unit {0}
Names job fault.Words name = Unit {0}
Names job fault.NotBuilt name = Unit {0}
Names job fault.NothingToRun name = Unit {0}
Names job fault.Write name = Unit {0}
Names job fault.NoMemory name = Unit {0}

-- the kind of a fault of the tokens
abbrev pub lex_kind : LexFault → List ℕ
lex_kind (lex.BadByte at) = codes "BadByte"
lex_kind (lex.Unclosed at) = codes "Unclosed"
lex_kind (lex.BigLiteral at) = codes "BigLiteral"
lex_kind lex.NoMemory = codes "NoMemory"

-- its place in the source
abbrev pub lex_place : LexFault → ℕ
lex_place (lex.BadByte at) = at
lex_place (lex.Unclosed at) = at
lex_place (lex.BigLiteral at) = at
lex_place lex.NoMemory = 0

-- the kind of a fault of a source
abbrev pub parse_kind : SourceFault → List ℕ
parse_kind (parse.Lex f) = lex_kind f
parse_kind (parse.Syntax at) = codes "Syntax"
parse_kind (parse.Nested at) = codes "Nested"
parse_kind parse.TooLong = codes "TooLong"
parse_kind parse.NoMemory = codes "NoMemory"

-- its place in the source; that of a source that is too long is the limit
abbrev pub parse_place : SourceFault → ℕ
parse_place (parse.Lex f) = lex_place f
parse_place (parse.Syntax at) = at
parse_place (parse.Nested at) = at
parse_place parse.TooLong = MOST_SOURCE_BYTES
parse_place parse.NoMemory = 0

-- the kind of an early error
abbrev pub scope_kind : ScopeFault → List ℕ
scope_kind (scope.Duplicate at) = codes "Duplicate"
scope_kind (scope.BadTarget at) = codes "BadTarget"
scope_kind (scope.StrayJump at) = codes "StrayJump"
scope_kind scope.NoMemory = codes "NoMemory"

-- its place in the source
abbrev pub scope_place : ScopeFault → ℕ
scope_place (scope.Duplicate at) = at
scope_place (scope.BadTarget at) = at
scope_place (scope.StrayJump at) = at
scope_place scope.NoMemory = 0

abbrev pub refused_kind : SourceRefused → List ℕ
refused_kind (why.Parse f) = parse_kind f
refused_kind (why.Scope f) = scope_kind f

abbrev pub refused_place : SourceRefused → ℕ
refused_place (why.Parse f) = parse_place f
refused_place (why.Scope f) = scope_place f

-- both in words, to the end of the line
abbrev pub refused_text : SourceRefused → List ℕ
refused_text refused = refused_kind refused ++ codes " at " ++ decimal (refused_place refused) ++ codes "\n"

-- the line of a fault; a line ends with a line feed, and that of a failed read and of a refused source names the file
abbrev pub fault_line : List ℕ → Fault → List ℕ
fault_line name fault.Words = codes "words refused\n"
fault_line name (fault.Blob f) = codes "blob refused: " ++ kind_name f.kind ++ codes " at " ++ decimal f.at ++ codes "\n"
fault_line name (fault.Source number refused) =
    codes "source refused: " ++ name ++ codes " " ++ refused_text refused
fault_line name fault.Read = codes "read failed: " ++ name ++ codes "\n"
fault_line name fault.NothingToRun = codes "nothing to run\n"
fault_line name fault.NotBuilt = codes "not built\n"
fault_line name fault.Write = []
fault_line name fault.NoMemory = []

-- the line of a file that was not written
abbrev pub unwritten_line : List ℕ
unwritten_line = codes "write failed: " ++ blob_name ++ codes "\n"

-- the line of a number of strings
abbrev pub count_line : ℕ → List ℕ
count_line n = codes "ok " ++ decimal n ++ codes " strings\n"

-- what is told of an answer: what was printed, or the line of the fault
abbrev pub told_of : List ℕ → Result (List ℕ) Fault → List ℕ
told_of name (Ok printed) = printed
told_of name (Err f) = fault_line name f

-- the status of a fault, and 0 where there is none
abbrev pub status_of : Option Fault → ℕ
status_of None = 0
status_of (Some fault.Words) = 2
status_of (Some (fault.Source number refused)) = 3
status_of (Some (fault.Blob f)) = 5
status_of (Some fault.Read) = 6
status_of (Some fault.Write) = 7
status_of (Some fault.NothingToRun) = 8
status_of (Some fault.NoMemory) = 9
status_of (Some fault.NotBuilt) = 11

-- the fault of an answer
abbrev pub fault_of : Result (List ℕ) Fault → Option Fault
fault_of (Ok printed) = None
fault_of (Err f) = Some f
