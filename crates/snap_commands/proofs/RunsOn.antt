-- How the parts of a run make its message.
use Rattle.std.proofs.Common.{◌≡◌, ◌≢◌, ℕ, ◌<◌, ◌≤◌, List, [], ◌∷◌, inl, inr, Option, Some, None, Result, Ok, Err, Contains, length, refl, sym, ap, subst, ◌∙◌, arith}
use Rattle.std.specs.Prelude.{IfSome}
use Rattle.snap_base.specs.declared.limits.TheConstants.{MOST_SOURCE_BYTES}
use Rattle.snap_io.specs.Counts.{HasRisen}
use Rattle.snap_io.specs.Held.{Held, bytes_under}
use Rattle.snap_commands.specs.declared.fault.Fault.{Fault}
use Rattle.snap_commands.specs.declared.fault.Fault.TheVariants as fault
use Rattle.snap_commands.specs.Answers.{Answers, entry_number, ran}
use Rattle.snap_commands.specs.Coming.{Answered, Asked, Comes, IsSteady, IsVerdict, Message, Said, Says, Unsaid, starved}
use Rattle.snap_commands.specs.Coming as coming
use Rattle.snap_commands.specs.Kept.{globals_in}
use Rattle.snap_commands.specs.Line.{blob_name, read_names, source_name}
use Rattle.snap_commands.specs.declared.kept.Loaded.{Loaded}
use Rattle.snap_commands.specs.Making.{Fetches, Fetched, Finds, Found, Hungry, Lost, Ran, Runs, Failed, Faint}
use Rattle.snap_commands.specs.Making as making
use Rattle.snap_commands.specs.Thin.{Globals}
use Rattle.snap_commands.specs.ThinBlob.{Loads}
use Rattle.snap_commands.specs.ThinSource.{thin_script}
use Rattle.snap_commands.specs.Words.{Run}
use Rattle.snap_commands.proofs.Builds.{HasFetched, Is, Other, blob_verdict, long_runs_not, memory_or_not, run_verdict, says_nothing, says_other}
use Rattle.snap_commands.specs.Refusals.{refusal}
use Rattle.snap_parse.specs.declared.fault.SourceFault.TheVariants.{TooLong}
use Rattle.snap_commands.specs.declared.refused.SourceRefused.TheVariants.{Parse}

err_is : {X : Type 0} (f g : Fault) → ◌≡◌ {A = Result X Fault} (Err f) (Err g) → f ≡ g
err_is f g e = cc

-- ---- the entry

held_long : (held : Option Held) (entry : List ℕ) (globals : Globals) → IfSome held (λ h. MOST_SOURCE_BYTES < length (bytes_under h entry)) → IfSome held (λ h. Err (fault.Source entry_number (Parse TooLong)) ≡ ran entry_number (bytes_under h entry) globals)
held_long None entry globals long = tt
held_long (Some h) entry globals long = sym (long_runs_not entry_number (bytes_under h entry) globals long)

-- an entry that could not be fetched
pub runs_unfetched : (entry : List ℕ) (globals : Globals) (files : Asked) (f : Fault) (said : Message) → Fetches entry_number entry files (Err f) → Says entry (Err f) said → Runs entry globals files said
runs_unfetched entry globals files f said (Fetched v is same kept steady) says = absurd cc
runs_unfetched entry globals files f said (making.TooLong is long kept steady) says =
    let e = err_is f (fault.Source entry_number (Parse TooLong)) is in
    Ran (Err (fault.Source entry_number (Parse TooLong))) tt (held_long files.before entry globals long) (subst (λ (x : Fault). Says entry (Err x) said) e says) kept steady
runs_unfetched entry globals files f said (Failed is kept rose up same) says =
    making.Unread (subst (λ (x : Fault). Says entry (Err x) said) (err_is f fault.Read is) says) kept rose up same
runs_unfetched entry globals files f said (Hungry is kept steady) says =
    Faint (says_nothing entry said (subst (λ (x : Fault). Says entry (Err x) said) (err_is f fault.NoMemory is) says)) kept steady

held_ran : (held : Option Held) (entry bytes : List ℕ) (globals : Globals) (answer : Result (List ℕ) Fault) → IfSome held (λ h. bytes ≡ bytes_under h entry) → ran entry_number bytes globals ≡ answer → IfSome held (λ h. answer ≡ ran entry_number (bytes_under h entry) globals)
held_ran None entry bytes globals answer same is = tt
held_ran (Some h) entry bytes globals answer same is = sym is ∙ ap (λ (xs : List ℕ). ran entry_number xs globals) same

-- an entry that printed
pub runs_printed : (entry : List ℕ) (globals : Globals) (files : Asked) (bytes printed : List ℕ) (said : Message) → HasFetched entry files bytes → ran entry_number bytes globals ≡ Ok printed → said ≡ record { text = printed; fault = None } → Runs entry globals files said
runs_printed entry globals files bytes printed said fetched prints is =
    Ran (Ok printed) tt (held_ran files.before entry bytes globals (Ok printed) fetched.same prints) (Said is) fetched.kept fetched.steady

-- an entry that does not run
pub runs_unprinted : (entry : List ℕ) (globals : Globals) (files : Asked) (bytes : List ℕ) (f : Fault) (said : Message) → HasFetched entry files bytes → (f ≢ fault.NoMemory → ran entry_number bytes globals ≡ Err f) → Says entry (Err f) said → Runs entry globals files said
runs_unprinted entry globals files bytes f said fetched refused says = elim (memory_or_not f) [
  | Is e ↦ Faint (says_nothing entry said (subst (λ (x : Fault). Says entry (Err x) said) e says)) fetched.kept fetched.steady
  | Other e ↦
      Ran (Err f) (run_verdict entry_number globals (refusal bytes) (thin_script bytes) f (refused e)) (held_ran files.before entry bytes globals (Err f) fetched.same (refused e)) says fetched.kept fetched.steady
]

-- ---- the blob

blob_is_read : (entry : Option (List ℕ)) → Contains (read_names (Some (Run entry))) blob_name
blob_is_read None = (0, omega arith, refl)
blob_is_read (Some entry) = (0, omega arith, refl)

held_refused : (held : Option Held) (entry : Option (List ℕ)) (f : Fault) → IfSome held (λ h. Loads (bytes_under h blob_name) (Err f)) → IfSome held (λ h. Answers h (Some (Run entry)) (Err f))
held_refused None entry f loads = tt
held_refused (Some h) entry f loads = (Err f, loads, refl)

-- a blob in which nothing was found
pub comes_unfound : (entry : Option (List ℕ)) (files : Asked) (f : Fault) (said : Message) → Finds files (Err f) → Says blob_name (Err f) said → Comes (Some (Run entry)) files said
comes_unfound entry files f said (Found verdict loads kept steady) says =
    Answered (Run entry) (Err f) refl (blob_verdict Globals (List ℕ) f verdict) tt tt (held_refused files.before entry f loads) (says_other Globals blob_name (source_name (Some (Run entry))) f said verdict says) kept steady
comes_unfound entry files f said (Lost is kept rose up same) says =
    coming.Unread (Run entry) blob_name refl (blob_is_read entry) (subst (λ (x : Fault). Says blob_name (Err x) said) (err_is f fault.Read is) says) kept rose up same
comes_unfound entry files f said (making.Starved is kept steady) says =
    coming.Starved (says_nothing blob_name said (subst (λ (x : Fault). Says blob_name (Err x) said) (err_is f fault.NoMemory is) says)) kept steady

-- the globals that were found are those of the blob that is held, and no count rose
pub record HasFound (files : Asked) (globals : Globals) : Type 0 where
  pub loads : IfSome files.before (λ held. Loads (bytes_under held blob_name) (Ok globals))
  pub kept : files.after ≡ files.before
  pub steady : IsSteady files

pub has_found : (files : Asked) (globals : Globals) → Finds files (Ok globals) → HasFound files globals
has_found files globals (Found verdict loads kept steady) = record { loads = loads; kept = kept; steady = steady }
has_found files globals (Lost is kept rose up same) = absurd cc
has_found files globals (making.Starved is kept steady) = absurd cc

held_nothing : (held : Option Held) (globals : Globals) → IfSome held (λ h. Loads (bytes_under h blob_name) (Ok globals)) → IfSome held (λ h. Answers h (Some (Run None)) (Err fault.NothingToRun))
held_nothing None globals loads = tt
held_nothing (Some h) globals loads = (Ok globals, loads, refl)

-- nothing is to be run
pub comes_nothing : (files : Asked) (globals : Globals) (said : Message) → HasFound files globals → Says [] (Err fault.NothingToRun) said → Comes (Some (Run None)) files said
comes_nothing files globals said found says =
    Answered (Run None) (Err fault.NothingToRun) refl tt tt tt (held_nothing files.before globals found.loads) says found.kept found.steady

held_run : (before mid : Option Held) (entry : List ℕ) (globals : Globals) (answer : Result (List ℕ) Fault) → IfSome before (λ h. Loads (bytes_under h blob_name) (Ok globals)) → mid ≡ before → IfSome mid (λ h. answer ≡ ran entry_number (bytes_under h entry) globals) → IfSome before (λ h. Answers h (Some (Run (Some entry))) answer)
held_run None mid entry globals answer loads kept is = tt
held_run (Some h) mid entry globals answer loads kept is =
    (Ok globals, loads, subst (λ (m : Option Held). IfSome m (λ h. answer ≡ ran entry_number (bytes_under h entry) globals)) kept is)

-- the entry was run on what was found
pub comes_run : (entry : List ℕ) (globals : Globals) (before mid after : Option Held) (r0 r1 r2 w0 w1 w2 : ℕ) (said : Message) → HasFound (record { before = before; after = mid; reads_before = r0; reads_after = r1; writes_before = w0; writes_after = w1 }) globals
    → Runs entry globals (record { before = mid; after = after; reads_before = r1; reads_after = r2; writes_before = w1; writes_after = w2 }) said
    → Comes (Some (Run (Some entry))) (record { before = before; after = after; reads_before = r0; reads_after = r2; writes_before = w0; writes_after = w2 }) said
comes_run entry globals before mid after r0 r1 r2 w0 w1 w2 said found (Ran answer verdict is says kept steady) =
    Answered (Run (Some entry)) answer refl verdict tt tt (held_run before mid entry globals answer found.loads found.kept is) says (kept ∙ found.kept) (record { reads = steady.reads ∙ found.steady.reads; writes = steady.writes ∙ found.steady.writes })
comes_run entry globals before mid after r0 r1 r2 w0 w1 w2 said found (making.Unread says kept rose up same) =
    coming.Unread (Run (Some entry)) entry refl (1, omega arith, refl) says (kept ∙ found.kept) (subst (λ (r : ℕ). HasRisen r r2) found.steady.reads rose) (subst (λ (r : ℕ). r ≤ r2) found.steady.reads up) (same ∙ found.steady.writes)
comes_run entry globals before mid after r0 r1 r2 w0 w1 w2 said found (Faint is kept steady) =
    coming.Starved is (kept ∙ found.kept) (record { reads = steady.reads ∙ found.steady.reads; writes = steady.writes ∙ found.steady.writes })

held_loads : (held : Option Held) (bytes : List ℕ) (found : Result Globals Fault) → IfSome held (λ h. bytes ≡ bytes_under h blob_name) → Loads bytes found → IfSome held (λ h. Loads (bytes_under h blob_name) found)
held_loads None bytes found same loads = tt
held_loads (Some h) bytes found same loads = subst (λ (xs : List ℕ). Loads xs found) same loads

-- a blob that was read
pub found_read : (files : Asked) (bytes : List ℕ) (r : Result Loaded Fault) → IfSome files.before (λ h. bytes ≡ bytes_under h blob_name) → (r ≢ Err fault.NoMemory → Loads bytes (globals_in r)) → files.after ≡ files.before → IsSteady files → Finds files (globals_in r)
found_read files bytes (Ok l) same loads kept steady = Found tt (held_loads files.before bytes (globals_in (Ok l)) same (loads (λ e. absurd cc))) kept steady
found_read files bytes (Err (fault.Blob f)) same loads kept steady = Found tt (held_loads files.before bytes (Err (fault.Blob f)) same (loads (λ e. absurd cc))) kept steady
found_read files bytes (Err fault.NotBuilt) same loads kept steady = Found tt (held_loads files.before bytes (Err fault.NotBuilt) same (loads (λ e. absurd cc))) kept steady
found_read files bytes (Err fault.NoMemory) same loads kept steady = making.Starved refl kept steady
found_read files bytes (Err (fault.Source number why)) same loads kept steady = absurd (loads (λ e. absurd cc))
found_read files bytes (Err fault.NothingToRun) same loads kept steady = absurd (loads (λ e. absurd cc))
found_read files bytes (Err fault.Words) same loads kept steady = absurd (loads (λ e. absurd cc))
found_read files bytes (Err fault.Read) same loads kept steady = absurd (loads (λ e. absurd cc))
found_read files bytes (Err fault.Write) same loads kept steady = absurd (loads (λ e. absurd cc))
