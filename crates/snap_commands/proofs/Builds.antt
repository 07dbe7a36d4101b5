-- How the parts of a build make its message.
use Rattle.std.proofs.Common.{◌≡◌, ◌≢◌, ℕ, ◌<◌, ◌≤◌, zero, suc, List, [], ◌∷◌, Option, Some, None, Result, Ok, Err, length, refl, sym, ap, subst, ◌∙◌, arith}
use Rattle.std.specs.Prelude.{IfSome, Bool, true, false, nat_le, if◌then◌else◌}
use Rattle.std.specs.Global.{Vec}
use Rattle.std.proofs.lemmas.Bool.{lt-leb}
use Rattle.snap_base.specs.declared.limits.TheConstants.{MOST_ITEMS, MOST_SOURCE_BYTES}
use Rattle.snap_io.specs.Counts.{HasRisen}
use Rattle.snap_io.specs.Held.{Held, Told, Writes, WritesInPart, bytes_under}
use Rattle.snap_commands.specs.declared.fault.Fault.{Fault}
use Rattle.snap_commands.specs.declared.fault.Fault.TheVariants as fault
use Rattle.snap_commands.specs.Answers.{Answers, Builds, BuildsInPart, counted, ran, ran_of, ran_unless, source_number}
use Rattle.snap_commands.specs.Coming.{Answered, Asked, Built, Comes, Counts, IsBlobVerdict, IsSteady, IsVerdict, Judged, Message, Said, Says, Unread, Unsaid, Unwritten, message_of, starved}
use Rattle.snap_commands.specs.Coming as coming
use Rattle.snap_commands.specs.Line.{blob_name, source_name}
use Rattle.snap_commands.specs.Making.{Failed, Fetched, Fetches, Hungry, InPart, IsMade, Puts, Unput, Written}
use Rattle.snap_commands.specs.Making as making
use Rattle.snap_commands.specs.Refusals.{refusal}
use Rattle.snap_commands.specs.Thin.{Globals, ThinStatement, prints}
use Rattle.snap_parse.specs.declared.fault.SourceFault.TheVariants.{TooLong}
use Rattle.snap_commands.specs.declared.refused.SourceRefused.{SourceRefused}
use Rattle.snap_commands.specs.declared.refused.SourceRefused.TheVariants.{Parse}
use Rattle.snap_commands.specs.ThinSource.{thin_script}
use Rattle.snap_commands.specs.Verify.{Verifies}
use Rattle.snap_commands.specs.Words.{Job, Build, Verify}

some_is : {X : Type 0} (x y : X) → Some x ≡ Some y → x ≡ y
some_is x y e = cc

err_is : {X : Type 0} (f g : Fault) → ◌≡◌ {A = Result X Fault} (Err f) (Err g) → f ≡ g
err_is f g e = cc

-- a source that is refused does not run
refused_runs_not : (number : ℕ) (source : List ℕ) (globals : Globals) (why : SourceRefused) → refusal source ≡ Some why → ran number source globals ≡ Err (fault.Source number why)
refused_runs_not number source globals why e = ap (λ (o : Option SourceRefused). ran_unless number globals o (thin_script source)) e

-- a source that is too long is refused
refused_long : (source : List ℕ) → MOST_SOURCE_BYTES < length source → refusal source ≡ Some (Parse TooLong)
unfolding refusal
refused_long source long = rw (lt-leb (length source) MOST_SOURCE_BYTES long) refl

pub long_runs_not : (number : ℕ) (source : List ℕ) (globals : Globals) → MOST_SOURCE_BYTES < length source → ran number source globals ≡ Err (fault.Source number (Parse TooLong))
long_runs_not number source globals long = refused_runs_not number source globals (Parse TooLong) (refused_long source long)

held_long : (held : Option Held) (name : List ℕ) → IfSome held (λ h. MOST_SOURCE_BYTES < length (bytes_under h name)) → IfSome held (λ h. Answers h (Some (Build name)) (Err (fault.Source source_number (Parse TooLong))))
held_long None name long = tt
held_long (Some h) name long = sym (long_runs_not source_number (bytes_under h name) [] long)

-- why a source does not run is a verdict on its bytes
printed_verdict : (short : Bool) (printed : List ℕ) (f : Fault) → (if short then Ok printed else Err fault.NotBuilt) ≡ Err f → IsVerdict {X = List ℕ} (Err f)
printed_verdict true printed f e = absurd cc
printed_verdict false printed f e = subst (λ (x : Fault). IsVerdict {X = List ℕ} (Err x)) (err_is fault.NotBuilt f e) tt

statements_verdict : (globals : Globals) (statements : Option (List ThinStatement)) (f : Fault) → ran_of globals statements ≡ Err f → IsVerdict {X = List ℕ} (Err f)
statements_verdict globals None f e = subst (λ (x : Fault). IsVerdict {X = List ℕ} (Err x)) (err_is fault.NotBuilt f e) tt
statements_verdict globals (Some ss) f e = printed_verdict (nat_le (length (prints ss globals)) MOST_ITEMS) (prints ss globals) f e

pub run_verdict : (number : ℕ) (globals : Globals) (refused : Option SourceRefused) (statements : Option (List ThinStatement)) (f : Fault) → ran_unless number globals refused statements ≡ Err f → IsVerdict {X = List ℕ} (Err f)
run_verdict number globals (Some why) statements f e = subst (λ (x : Fault). IsVerdict {X = List ℕ} (Err x)) (err_is (fault.Source number why) f e) tt
run_verdict number globals None statements f e = statements_verdict globals statements f e

-- it is want of memory or not
pub data Memory (f : Fault) : Type 0 where
  Is : f ≡ fault.NoMemory → Memory f
  Other : f ≢ fault.NoMemory → Memory f

pub memory_or_not : (f : Fault) → Memory f
memory_or_not fault.NoMemory = Is refl
memory_or_not (fault.Blob f) = Other (λ e. absurd cc)
memory_or_not (fault.Source number why) = Other (λ e. absurd cc)
memory_or_not fault.Words = Other (λ e. absurd cc)
memory_or_not fault.NotBuilt = Other (λ e. absurd cc)
memory_or_not fault.NothingToRun = Other (λ e. absurd cc)
memory_or_not fault.Read = Other (λ e. absurd cc)
memory_or_not fault.Write = Other (λ e. absurd cc)

-- what is said of want of memory says nothing
pub says_nothing : (name : List ℕ) (said : Message) → Says name (Err fault.NoMemory) said → said ≡ starved
says_nothing name said (Said is) = is
says_nothing name said (Unsaid is) = is

-- a source that could not be fetched
pub comes_unfetched : (source : List ℕ) (files : Asked) (f : Fault) (said : Message) → Fetches source_number source files (Err f) → Says source (Err f) said → Comes (Some (Build source)) files said
comes_unfetched source files f said (Fetched v is same kept steady) says = absurd cc
comes_unfetched source files f said (making.TooLong is long kept steady) says =
    let e = err_is f (fault.Source source_number (Parse TooLong)) is in
    Answered (Build source) (Err (fault.Source source_number (Parse TooLong))) refl tt tt tt (held_long files.before source long) (subst (λ (x : Fault). Says source (Err x) said) e says) kept steady
comes_unfetched source files f said (Failed is kept rose up same) says =
    let e = err_is f fault.Read is in
    Unread (Build source) source refl (0, omega arith, refl) (subst (λ (x : Fault). Says source (Err x) said) e says) kept rose up same
comes_unfetched source files f said (Hungry is kept steady) says =
    let e = err_is f fault.NoMemory is in
    coming.Starved (says_nothing source said (subst (λ (x : Fault). Says source (Err x) said) e says)) kept steady

-- the bytes that were fetched are those that are held, and no count rose
pub record HasFetched (source : List ℕ) (files : Asked) (bytes : List ℕ) : Type 0 where
  pub same : IfSome files.before (λ held. bytes ≡ bytes_under held source)
  pub kept : files.after ≡ files.before
  pub steady : IsSteady files

ok_is : {X : Type 0} (x y : X) → ◌≡◌ {A = Result X Fault} (Ok x) (Ok y) → x ≡ y
ok_is x y e = cc

held_items : (held : Option Held) (source : List ℕ) (v w : Vec ℕ) → v ≡ w → IfSome held (λ h. w.items ≡ bytes_under h source) → IfSome held (λ h. v.items ≡ bytes_under h source)
held_items None source v w e same = tt
held_items (Some h) source v w e same = ap (λ (x : Vec ℕ). x.items) e ∙ same

pub has_fetched : (number : ℕ) (source : List ℕ) (files : Asked) (v : Vec ℕ) → Fetches number source files (Ok v) → HasFetched source files v.items
has_fetched number source files v (Fetched w is same kept steady) = record { same = held_items files.before source v w (ok_is v w is) same; kept = kept; steady = steady }
has_fetched number source files v (making.TooLong is long kept steady) = absurd cc
has_fetched number source files v (Failed is kept rose up same) = absurd cc
has_fetched number source files v (Hungry is kept steady) = absurd cc

held_refused : (held : Option Held) (source bytes : List ℕ) (f : Fault) → IfSome held (λ h. bytes ≡ bytes_under h source) → ran source_number bytes [] ≡ Err f → IfSome held (λ h. Answers h (Some (Build source)) (Err f))
held_refused None source bytes f same refused = tt
held_refused (Some h) source bytes f same refused = sym refused ∙ ap (λ (xs : List ℕ). ran source_number xs []) same

-- a source that was fetched and from which nothing was made
pub comes_unmade : (source : List ℕ) (files : Asked) (bytes : List ℕ) (f : Fault) (said : Message) → HasFetched source files bytes → (f ≢ fault.NoMemory → ran source_number bytes [] ≡ Err f) → Says source (Err f) said → Comes (Some (Build source)) files said
comes_unmade source files bytes f said fetched refused says = elim (memory_or_not f) [
  | Is e ↦ coming.Starved (says_nothing source said (subst (λ (x : Fault). Says source (Err x) said) e says)) fetched.kept fetched.steady
  | Other e ↦
      Answered (Build source) (Err f) refl (run_verdict source_number [] (refusal bytes) (thin_script bytes) f (refused e)) tt tt (held_refused files.before source bytes f fetched.same (refused e)) says fetched.kept fetched.steady
]

builds_told : (source bytes printed blob : List ℕ) (before mid after : Option Held) → IfSome before (λ h. bytes ≡ bytes_under h source) → mid ≡ before → IsMade bytes printed blob → Told (Writes blob_name blob) mid after → Told (Builds source printed) before after
builds_told source bytes printed blob None None None same kept made told = tt
builds_told source bytes printed blob None None (Some a) same kept made told = told
builds_told source bytes printed blob None (Some m) after same kept made told = absurd cc
builds_told source bytes printed blob (Some b) None after same kept made told = absurd cc
builds_told source bytes printed blob (Some b) (Some m) None same kept made told = told
builds_told source bytes printed blob (Some b) (Some m) (Some a) same kept made told =
    let held : m ≡ b = some_is m b kept in
    let here = subst (λ (xs : List ℕ). IsMade xs printed blob) same made in
    record { prints = here.prints; blob = blob; globals = here.globals; leaves = here.leaves; denotes = here.denotes; written = subst (λ (x : Held). Writes blob_name blob x a) held told }

part_told : (source bytes printed blob : List ℕ) (before mid after : Option Held) → IfSome before (λ h. bytes ≡ bytes_under h source) → mid ≡ before → IsMade bytes printed blob → Told (WritesInPart blob_name blob) mid after → Told (BuildsInPart source printed) before after
part_told source bytes printed blob None None None same kept made told = tt
part_told source bytes printed blob None None (Some a) same kept made told = told
part_told source bytes printed blob None (Some m) after same kept made told = absurd cc
part_told source bytes printed blob (Some b) None after same kept made told = absurd cc
part_told source bytes printed blob (Some b) (Some m) None same kept made told = told
part_told source bytes printed blob (Some b) (Some m) (Some a) same kept made told =
    let held : m ≡ b = some_is m b kept in
    let here = subst (λ (xs : List ℕ). IsMade xs printed blob) same made in
    record { prints = here.prints; blob = blob; globals = here.globals; leaves = here.leaves; denotes = here.denotes; written = subst (λ (x : Held). WritesInPart blob_name blob x a) held told }

-- what was made was put
pub comes_put : (source bytes printed blob : List ℕ) (before mid after : Option Held) (r0 r1 r2 w0 w1 w2 : ℕ) (said : Message) → HasFetched source (record { before = before; after = mid; reads_before = r0; reads_after = r1; writes_before = w0; writes_after = w1 }) bytes → IsMade bytes printed blob
    → Puts printed blob (record { before = mid; after = after; reads_before = r1; reads_after = r2; writes_before = w1; writes_after = w2 }) said
    → Comes (Some (Build source)) (record { before = before; after = after; reads_before = r0; reads_after = r2; writes_before = w0; writes_after = w2 }) said
comes_put source bytes printed blob before mid after r0 r1 r2 w0 w1 w2 said fetched made (Written is told steady) =
    Built source printed refl (builds_told source bytes printed blob before mid after fetched.same fetched.kept made told) is (record { reads = steady.reads ∙ fetched.steady.reads; writes = steady.writes ∙ fetched.steady.writes })
comes_put source bytes printed blob before mid after r0 r1 r2 w0 w1 w2 said fetched made (InPart is told rose up reads) =
    Unwritten source printed refl (part_told source bytes printed blob before mid after fetched.same fetched.kept made told) is
    (subst (λ (w : ℕ). HasRisen w w2) fetched.steady.writes rose) (subst (λ (w : ℕ). w ≤ w2) fetched.steady.writes up) (reads ∙ fetched.steady.reads)
comes_put source bytes printed blob before mid after r0 r1 r2 w0 w1 w2 said fetched made (Unput is kept steady) =
    coming.Starved is (kept ∙ fetched.kept) (record { reads = steady.reads ∙ fetched.steady.reads; writes = steady.writes ∙ fetched.steady.writes })

-- ---- verdicts on a blob

-- a verdict on a blob is a verdict
pub blob_verdict : (X Y : Type 0) (f : Fault) → IsBlobVerdict {X = X} (Err f) → IsVerdict {X = Y} (Err f)
blob_verdict X Y (fault.Blob f) verdict = tt
blob_verdict X Y fault.NotBuilt verdict = tt
blob_verdict X Y (fault.Source number why) verdict = absurd verdict
blob_verdict X Y fault.Words verdict = absurd verdict
blob_verdict X Y fault.NothingToRun verdict = absurd verdict
blob_verdict X Y fault.Read verdict = absurd verdict
blob_verdict X Y fault.Write verdict = absurd verdict
blob_verdict X Y fault.NoMemory verdict = absurd verdict

-- its line names no file
pub says_other : (X : Type 0) (name other : List ℕ) (f : Fault) (said : Message) → IsBlobVerdict {X = X} (Err f) → Says name (Err f) said → Says other (Err f) said
says_other X name other f said verdict (Unsaid is) = Unsaid is
says_other X name other (fault.Blob f) said verdict (Said is) = Said is
says_other X name other fault.NotBuilt said verdict (Said is) = Said is
says_other X name other (fault.Source number why) said verdict (Said is) = absurd verdict
says_other X name other fault.Words said verdict (Said is) = absurd verdict
says_other X name other fault.NothingToRun said verdict (Said is) = absurd verdict
says_other X name other fault.Read said verdict (Said is) = absurd verdict
says_other X name other fault.Write said verdict (Said is) = absurd verdict
says_other X name other fault.NoMemory said verdict (Said is) = absurd verdict

-- ---- verify

counted_verdict : (count : Result ℕ Fault) → IsBlobVerdict count → IsVerdict (counted count)
counted_verdict (Ok n) verdict = tt
counted_verdict (Err f) verdict = blob_verdict ℕ (List ℕ) f verdict

held_count : (held : Option Held) (blob : List ℕ) (count : Result ℕ Fault) → IfSome held (λ h. Verifies (bytes_under h blob) count) → IfSome held (λ h. Answers h (Some (Verify blob)) (counted count))
held_count None blob count verifies = tt
held_count (Some h) blob count verifies = (count, verifies, refl)

says_count : (name other : List ℕ) (count : Result ℕ Fault) (said : Message) → IsBlobVerdict count → Says name (counted count) said → Says other (counted count) said
says_count name other (Ok n) said verdict (Said is) = Said is
says_count name other (Ok n) said verdict (Unsaid is) = Unsaid is
says_count name other (Err f) said verdict says = says_other ℕ name other f said verdict says

-- a number of strings that was told
pub comes_counted : (blob : List ℕ) (files : Asked) (count : Result ℕ Fault) (said : Message) → Counts blob files count → Says blob (counted count) said → Comes (Some (Verify blob)) files said
comes_counted blob files count said (Judged verdict verifies kept steady) says =
    Answered (Verify blob) (counted count) refl (counted_verdict count verdict) tt (count, refl) (held_count files.before blob count verifies) (says_count blob (source_name (Some (Verify blob))) count said verdict says) kept steady
comes_counted blob files count said (coming.Failed is kept rose up same) says =
    Unread (Verify blob) blob refl (0, omega arith, refl) (subst (λ (r : Result ℕ Fault). Says blob (counted r) said) is says) kept rose up same
comes_counted blob files count said (coming.Hungry is kept steady) says =
    coming.Starved (says_nothing blob said (subst (λ (r : Result ℕ Fault). Says blob (counted r) said) is says)) kept steady

-- ---- jobs

-- a message of the job under another name
pub comes_as : (job other : Option Job) (files : Asked) (said : Message) → job ≡ other → Comes other files said → Comes job files said
comes_as job other files said e comes = subst (λ (j : Option Job). Comes j files said) (sym e) comes
