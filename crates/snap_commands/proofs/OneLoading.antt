-- A thin blob by its parts, and what a blob with other parts is.
use Rattle.std.proofs.Common.{◌≡◌, ℕ, List, Result, Ok, Err, refl, sym, ap, subst}
use Rattle.spec_format.specs.declared.fault.BlobFault.{BlobFault}
use Rattle.spec_format.specs.Container.{container_checks, section}
use Rattle.spec_format.specs.Strings.{AreStrings, strings_of}
use Rattle.spec_format.proofs.Checks.{no_fault}
use Rattle.snap_blob.specs.RoStrings.{section_of}
use Rattle.snap_commands.specs.declared.fault.Fault.{Fault}
use Rattle.snap_commands.specs.declared.fault.Fault.TheVariants as fault
use Rattle.snap_commands.specs.declared.parts.Parts.{Parts}
use Rattle.snap_commands.specs.Kept.{AreApart}
use Rattle.snap_commands.specs.Parts.{HasNoParts, HasParts}
use Rattle.snap_commands.specs.Thin.{Globals}
use Rattle.snap_commands.specs.ThinBlob.{IsOther, IsThin, Loads}
use Rattle.snap_commands.specs.ThinBlob as blob
use Rattle.snap_commands.specs.ThinParts.{AreThin}
use Rattle.snap_commands.specs.Plain.{AtContainer, AtStrings, IsRefused, strings_checks}
use Rattle.snap_commands.proofs.OneAnswer.{refused_once}
use Rattle.snap_commands.proofs.ThinSections.{one_thin_blob, sections_thin, thin_apart, thin_from}

abbrev ThinOf : Parts → Globals → Type 0
ThinOf p globals = AreThin (strings_of (section_of p.strings)) p.startup.now p.context.now globals

-- sections named in three ways
moved : (a b : List (List ℕ)) (s t c d : List ℕ) (globals : Globals) → a ≡ b → s ≡ t → c ≡ d → AreThin a s c globals → AreThin b t d globals
moved a b s t c d globals strings startup context thin =
    subst (λ (x : List ℕ). AreThin b t x globals) context (subst (λ (x : List ℕ). AreThin b x c globals) startup (subst (λ (x : List (List ℕ)). AreThin x s c globals) strings thin))

-- parts that are thin are those of a thin blob
pub parts_thin : (bytes : List ℕ) (p : Parts) (globals : Globals) → HasParts bytes p → ThinOf p globals → IsThin bytes globals
parts_thin bytes p globals has thin =
    thin_from bytes globals has.container has.plain has.strings_hold
    (moved (strings_of (section_of p.strings)) (strings_of (section bytes 1)) p.startup.now (section bytes 2) p.context.now (section bytes 3) globals (ap strings_of has.strings) has.startup has.context thin)

-- no thin blob has other parts
pub parts_unlike : (bytes : List ℕ) (p : Parts) → HasParts bytes p → ((globals : Globals) → ThinOf p globals → ⊥) → IsOther bytes
parts_unlike bytes p has none =
    blob.Unlike has.container has.strings_hold
    (λ globals thin. none globals
    (moved (strings_of (section bytes 1)) (strings_of (section_of p.strings)) (section bytes 2) p.startup.now (section bytes 3) p.context.now globals (sym (ap strings_of has.strings)) (sym has.startup) (sym has.context) (sections_thin bytes globals thin)))

pub parts_apart : (bytes : List ℕ) (p : Parts) (globals : Globals) → HasParts bytes p → ThinOf p globals → AreApart globals
parts_apart bytes p globals has thin =
    thin_apart (strings_of (section_of p.strings)) p.startup.now p.context.now globals (subst AreStrings (sym (ap strings_of has.strings)) has.lawful) thin

pub no_parts : (bytes : List ℕ) (f : Fault) → HasNoParts bytes f → Loads bytes (Err f)
no_parts bytes (fault.Blob f) h = h
no_parts bytes fault.NotBuilt h = blob.Others h
no_parts bytes (fault.Source number why) h = h
no_parts bytes fault.Words h = h
no_parts bytes fault.Read h = h
no_parts bytes fault.NothingToRun h = h
no_parts bytes fault.Write h = h
no_parts bytes fault.NoMemory h = h

-- ---- one answer

-- a blob that is refused is no other
refused_other : (bytes : List ℕ) (f : BlobFault) → IsRefused bytes f → IsOther bytes → ⊥
refused_other bytes f (AtContainer p) (blob.Others (blob.Sections hold other)) = no_fault (container_checks bytes) f hold p
refused_other bytes f (AtContainer p) (blob.Others (blob.Externals hold other)) = no_fault (container_checks bytes) f hold p
refused_other bytes f (AtContainer p) (blob.Others (blob.Nodes hold long other)) = no_fault (container_checks bytes) f hold p
refused_other bytes f (AtContainer p) (blob.Unlike hold strings none) = no_fault (container_checks bytes) f hold p
refused_other bytes f (AtStrings held plain p) (blob.Others (blob.Sections hold other)) = other plain.sections
refused_other bytes f (AtStrings held plain p) (blob.Others (blob.Externals hold other)) = other plain.externals
refused_other bytes f (AtStrings held plain p) (blob.Others (blob.Nodes hold long other)) = other (plain.nodes long)
refused_other bytes f (AtStrings held plain p) (blob.Unlike hold strings none) = no_fault (strings_checks bytes) f strings p

-- a thin blob is not refused
thin_sound : (bytes : List ℕ) (globals : Globals) (f : BlobFault) → IsThin bytes globals → IsRefused bytes f → ⊥
thin_sound bytes globals f thin (AtContainer p) = no_fault (container_checks bytes) f thin.denotes.container p
thin_sound bytes globals f thin (AtStrings hold plain p) = no_fault (strings_checks bytes) f thin.denotes.strings_hold p

-- and it is no other
thin_built : (bytes : List ℕ) (globals : Globals) → IsThin bytes globals → IsOther bytes → ⊥
thin_built bytes globals thin (blob.Others (blob.Sections hold other)) = other thin.denotes.plain.sections
thin_built bytes globals thin (blob.Others (blob.Externals hold other)) = other thin.denotes.plain.externals
thin_built bytes globals thin (blob.Others (blob.Nodes hold long other)) = other (thin.denotes.plain.nodes long)
thin_built bytes globals thin (blob.Unlike hold strings none) = none globals thin

-- a run finds one thing in a blob
pub one_loading : (bytes : List ℕ) (a b : Result Globals Fault) → Loads bytes a → Loads bytes b → a ≡ b
one_loading bytes (Ok g) (Ok h) p q = ap Ok (one_thin_blob bytes g h p q)
one_loading bytes (Ok g) (Err (fault.Blob f)) p q = absurd (thin_sound bytes g f p q)
one_loading bytes (Ok g) (Err fault.NotBuilt) p q = absurd (thin_built bytes g p q)
one_loading bytes (Err (fault.Blob f)) (Ok h) p q = absurd (thin_sound bytes h f q p)
one_loading bytes (Err (fault.Blob f)) (Err (fault.Blob g)) p q = ap (λ (x : BlobFault). Err (fault.Blob x)) (refused_once bytes f g p q)
one_loading bytes (Err (fault.Blob f)) (Err fault.NotBuilt) p q = absurd (refused_other bytes f p q)
one_loading bytes (Err fault.NotBuilt) (Ok h) p q = absurd (thin_built bytes h q p)
one_loading bytes (Err fault.NotBuilt) (Err (fault.Blob g)) p q = absurd (refused_other bytes g q p)
one_loading bytes (Err fault.NotBuilt) (Err fault.NotBuilt) p q = refl
one_loading bytes (Err (fault.Source number why)) b p q = absurd p
one_loading bytes (Err fault.Words) b p q = absurd p
one_loading bytes (Err fault.Read) b p q = absurd p
one_loading bytes (Err fault.NothingToRun) b p q = absurd p
one_loading bytes (Err fault.Write) b p q = absurd p
one_loading bytes (Err fault.NoMemory) b p q = absurd p
one_loading bytes a (Err (fault.Source number why)) p q = absurd q
one_loading bytes a (Err fault.Words) p q = absurd q
one_loading bytes a (Err fault.Read) p q = absurd q
one_loading bytes a (Err fault.NothingToRun) p q = absurd q
one_loading bytes a (Err fault.Write) p q = absurd q
one_loading bytes a (Err fault.NoMemory) p q = absurd q
