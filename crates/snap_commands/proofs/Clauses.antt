-- What follows for the top call from how a message comes about and how it is told.
use Rattle.std.proofs.Common.{◌≡◌, ◌≢◌, ℕ, ◌<◌, List, [], ◌∷◌, ◌⊎◌, inl, inr, Option, Some, None, Result, Ok, Err, Contains, ap, refl, subst, sym, ◌∙◌, arith}
use Rattle.std.specs.Prelude.{IfSome, MatchResult}
use Rattle.std.proofs.lemmas.List.{append-nil}
use Rattle.snap_io.specs.Counts.{HasRisen}
use Rattle.snap_io.specs.Held.{Held, Told, bytes_under}
use Rattle.snap_io.specs.Written.{AppendsInPart, appended}
use Rattle.snap_commands.specs.declared.fault.Fault.{Fault}
use Rattle.snap_commands.specs.declared.fault.Fault.TheVariants as fault
use Rattle.snap_commands.specs.Answers.{Answers, Builds, BuildsInPart, HoldsBuild, KeepsOrHolds, LeavesBuild, MayLeave, counted, ran, source_number}
use Rattle.snap_commands.specs.Coming.{Answered, Asked, Built, Comes, IsSteady, IsVerdict, Message, NoJob, Said, Says, Shows, Unread, Unsaid, Unwritten, WritesNothing, message_of, starved}
use Rattle.snap_commands.specs.Coming as coming
use Rattle.snap_commands.specs.Line.{Names, count_line, fault_line, fault_of, read_names, source_name, status_of, told_of}
use Rattle.snap_commands.specs.Telling.{InPart, Sunk, Tells, Untold, Whole}
use Rattle.snap_commands.specs.Words.{Job, Build, Run, Verify}
use Rattle.snap_commands.proofs.OneCommand.{one_answer_lem}

-- ---- the answer that a message comes from

-- an answer over what is held, in words
pub record IsAnswer (held : Held) (job : Option Job) (said : Message) : Type 0 where
  pub answer : Result (List ℕ) Fault
  pub answers : Answers held job answer
  pub is : said ≡ message_of (source_name job) answer

answer_in : (held : Held) (job : Option Job) (answer : Result (List ℕ) Fault) (said : Message) → Answers held job answer → Says (source_name job) answer said → IsAnswer held job said ⊎ (said ≡ starved)
answer_in held job answer said answers (Said is) = inl (record { answer = answer; answers = answers; is = is })
answer_in held job answer said answers (Unsaid is) = inr is

some_is : {X : Type 0} (x y : X) → Some x ≡ Some y → x ≡ y
some_is x y e = cc

built_prints : (source printed : List ℕ) (before after : Option Held) (held : Held) → Told (Builds source printed) before after → before ≡ Some held → ran source_number (bytes_under held source) [] ≡ Ok printed
built_prints source printed None after held told e = absurd cc
built_prints source printed (Some b) None held told e = absurd told
built_prints source printed (Some b) (Some a) held told e = ap (λ (h : Held). ran source_number (bytes_under h source) []) (sym (some_is b held e)) ∙ told.prints

-- the message is that of an answer, or memory ran out
answer_said : (held : Held) (job : Option Job) (files : Asked) (said : Message) → Comes job files said → files.before ≡ Some held
    → (HasRisen files.reads_before files.reads_after → ⊥) → (HasRisen files.writes_before files.writes_after → ⊥) → IsAnswer held job said ⊎ (said ≡ starved)
answer_said held job files said (NoJob none says kept steady) tells calm quiet =
    subst (λ (j : Option Job). IsAnswer held j said ⊎ (said ≡ starved)) (sym none) (answer_in held None (Err fault.Words) said refl says)
answer_said held job files said (Answered j a some verdict nothing shown answers says kept steady) tells calm quiet =
    subst (λ (j : Option Job). IsAnswer held j said ⊎ (said ≡ starved)) (sym some) (answer_in held (Some j) a said (subst (λ (h : Option Held). IfSome h (λ held. Answers held (Some j) a)) tells answers) says)
answer_said held job files said (Built source printed some builds is steady) tells calm quiet =
    subst (λ (j : Option Job). IsAnswer held j said ⊎ (said ≡ starved)) (sym some)
    (inl (record { answer = Ok printed; answers = sym (built_prints source printed files.before files.after held builds tells); is = is }))
answer_said held job files said (Unread j name some among says kept rose up same) tells calm quiet = absurd (calm rose)
answer_said held job files said (Unwritten source printed some builds is rose up same) tells calm quiet = absurd (quiet rose)
answer_said held job files said (coming.Starved is kept steady) tells calm quiet = inr is

-- ---- told and only

told_of_answer : (held : Held) (job : Option Job) (said : Message) (told : Option Fault) (sink : Sunk) → IsAnswer held job said ⊎ (said ≡ starved) → Tells said told sink → (HasRisen sink.faults_before sink.faults_after → ⊥) → told ≢ Some fault.NoMemory
    → (answer : Result (List ℕ) Fault) × Answers held job answer × (told ≡ fault_of answer) × (sink.after ≡ appended sink.before (told_of (source_name job) answer))
told_of_answer held job said told sink (inl a) (Whole is written same) still fed =
    (a.answer, a.answers, is ∙ ap (λ (m : Message). m.fault) a.is, written ∙ ap (λ (m : Message). appended sink.before m.text) a.is)
told_of_answer held job said told sink (inr e) (Whole is written same) still fed = absurd (fed (is ∙ ap (λ (m : Message). m.fault) e))
told_of_answer held job said told sink either (InPart some is part rose up) still fed = absurd (still rose)
told_of_answer held job said told sink either (Untold is written same) still fed = absurd (fed is)

told_by : (job : Option Job) (files : Asked) (said : Message) (told : Option Fault) (sink : Sunk) (before : Option Held) → files.before ≡ before → Comes job files said → Tells said told sink
    → IfSome before (λ held. (HasRisen files.reads_before files.reads_after → ⊥) → (HasRisen files.writes_before files.writes_after → ⊥) → (HasRisen sink.faults_before sink.faults_after → ⊥) → told ≢ Some fault.NoMemory
    → (answer : Result (List ℕ) Fault) × Answers held job answer × (told ≡ fault_of answer) × (sink.after ≡ appended sink.before (told_of (source_name job) answer)))
told_by job files said told sink None e comes tells = tt
told_by job files said told sink (Some held) e comes tells = λ calm quiet still fed. told_of_answer held job said told sink (answer_said held job files said comes e calm quiet) tells still fed

-- the defined fault, and exactly the defined text
pub told_defined : (job : Option Job) (files : Asked) (said : Message) (told : Option Fault) (sink : Sunk) → Comes job files said → Tells said told sink
    → IfSome files.before (λ held. (HasRisen files.reads_before files.reads_after → ⊥) → (HasRisen files.writes_before files.writes_after → ⊥) → (HasRisen sink.faults_before sink.faults_after → ⊥) → told ≢ Some fault.NoMemory
    → (answer : Result (List ℕ) Fault) × Answers held job answer × (told ≡ fault_of answer) × (sink.after ≡ appended sink.before (told_of (source_name job) answer)))
told_defined job files said told sink comes tells = told_by job files said told sink files.before refl comes tells

only_by : (job : Option Job) (files : Asked) (said : Message) (told : Option Fault) (sink : Sunk) (before : Option Held) → files.before ≡ before → Comes job files said → Tells said told sink
    → IfSome before (λ held. (answer : Result (List ℕ) Fault) → Answers held job answer → (HasRisen files.reads_before files.reads_after → ⊥) → (HasRisen files.writes_before files.writes_after → ⊥) → (HasRisen sink.faults_before sink.faults_after → ⊥) → told ≢ Some fault.NoMemory
    → told ≡ fault_of answer)
only_by job files said told sink None e comes tells = tt
only_by job files said told sink (Some held) e comes tells = λ answer defined calm quiet still fed.
    let t = told_of_answer held job said told sink (answer_said held job files said comes e calm quiet) tells still fed in
    t.2 ∙ ap fault_of (one_answer_lem held job t.0 answer t.1 defined)

-- the fault in the end is that of the defined answer
pub only_defined : (job : Option Job) (files : Asked) (said : Message) (told : Option Fault) (sink : Sunk) → Comes job files said → Tells said told sink
    → IfSome files.before (λ held. (answer : Result (List ℕ) Fault) → Answers held job answer → (HasRisen files.reads_before files.reads_after → ⊥) → (HasRisen files.writes_before files.writes_after → ⊥) → (HasRisen sink.faults_before sink.faults_after → ⊥) → told ≢ Some fault.NoMemory
    → told ≡ fault_of answer)
only_defined job files said told sink comes tells = only_by job files said told sink files.before refl comes tells

-- ---- a prefix

-- nothing is a prefix of every text
appends_nothing : (text : List ℕ) (before after : Option (List ℕ)) → after ≡ before → AppendsInPart text before after
appends_nothing text None after e = ([], (text, refl), e)
appends_nothing text (Some written) after e = ([], (text, refl), e ∙ ap (λ (w : List ℕ). Some w) (sym (append-nil written)))

appended_nothing : (before : Option (List ℕ)) → appended before [] ≡ before
appended_nothing None = refl
appended_nothing (Some written) = ap (λ (w : List ℕ). Some w) (append-nil written)

prefix_of_answer : (held : Held) (job : Option Job) (said : Message) (told : Option Fault) (sink : Sunk) (answer : Result (List ℕ) Fault) → IsAnswer held job said ⊎ (said ≡ starved) → Tells said told sink → Answers held job answer → AppendsInPart (told_of (source_name job) answer) sink.before sink.after
prefix_of_answer held job said told sink answer (inl a) (Whole is written same) defined =
    let text : said.text ≡ told_of (source_name job) answer = ap (λ (m : Message). m.text) a.is ∙ ap (told_of (source_name job)) (one_answer_lem held job a.answer answer a.answers defined) in
    (told_of (source_name job) answer, ([], append-nil (told_of (source_name job) answer)), written ∙ ap (appended sink.before) text)
prefix_of_answer held job said told sink answer (inl a) (InPart some is part rose up) defined =
    let text : said.text ≡ told_of (source_name job) answer = ap (λ (m : Message). m.text) a.is ∙ ap (told_of (source_name job)) (one_answer_lem held job a.answer answer a.answers defined) in
    subst (λ (xs : List ℕ). AppendsInPart xs sink.before sink.after) text part
prefix_of_answer held job said told sink answer (inl a) (Untold is written same) defined = appends_nothing (told_of (source_name job) answer) sink.before sink.after written
prefix_of_answer held job said told sink answer (inr e) (Whole is written same) defined =
    appends_nothing (told_of (source_name job) answer) sink.before sink.after (written ∙ ap (λ (m : Message). appended sink.before m.text) e ∙ appended_nothing sink.before)
prefix_of_answer held job said told sink answer (inr e) (InPart some is part rose up) defined = absurd (some (ap (λ (m : Message). m.fault) e))
prefix_of_answer held job said told sink answer (inr e) (Untold is written same) defined = appends_nothing (told_of (source_name job) answer) sink.before sink.after written

prefix_by : (job : Option Job) (files : Asked) (said : Message) (told : Option Fault) (sink : Sunk) (before : Option Held) → files.before ≡ before → Comes job files said → Tells said told sink
    → IfSome before (λ held. (answer : Result (List ℕ) Fault) → Answers held job answer → (HasRisen files.reads_before files.reads_after → ⊥) → (HasRisen files.writes_before files.writes_after → ⊥) → AppendsInPart (told_of (source_name job) answer) sink.before sink.after)
prefix_by job files said told sink None e comes tells = tt
prefix_by job files said told sink (Some held) e comes tells = λ answer defined calm quiet.
    prefix_of_answer held job said told sink answer (answer_said held job files said comes e calm quiet) tells defined

-- the sink gets a prefix of the text of the defined answer
pub prefix_defined : (job : Option Job) (files : Asked) (said : Message) (told : Option Fault) (sink : Sunk) → Comes job files said → Tells said told sink
    → IfSome files.before (λ held. (answer : Result (List ℕ) Fault) → Answers held job answer → (HasRisen files.reads_before files.reads_after → ⊥) → (HasRisen files.writes_before files.writes_after → ⊥) → AppendsInPart (told_of (source_name job) answer) sink.before sink.after)
prefix_defined job files said told sink comes tells = prefix_by job files said told sink files.before refl comes tells

-- ---- the line of a fault

none_some : (f : Fault) → ◌≡◌ {A = Option Fault} None (Some f) → ⊥
none_some f e = absurd cc

says_line : (name : List ℕ) (answer : Result (List ℕ) Fault) (said : Message) (f : Fault) → Says name answer said → said.fault ≡ Some f → said.text ≡ fault_line name f
says_line name (Ok printed) said f (Said is) e = absurd (none_some f (sym (ap (λ (m : Message). m.fault) is) ∙ e))
says_line name (Err g) said f (Said is) e =
    let same : g ≡ f = some_is g f (sym (ap (λ (m : Message). m.fault) is) ∙ e) in
    ap (λ (m : Message). m.text) is ∙ ap (fault_line name) same
says_line name answer said f (Unsaid is) e =
    let same : fault.NoMemory ≡ f = some_is fault.NoMemory f (sym (ap (λ (m : Message). m.fault) is) ∙ e) in
    ap (λ (m : Message). m.text) is ∙ ap (fault_line name) same

-- a line of a fault, which names the file that it is about
pub record IsLine (job : Option Job) (f : Fault) (text : List ℕ) : Type 0 where
  pub name : List ℕ
  pub names : Names job f name
  pub is : text ≡ fault_line name f

-- want of memory names nothing
memory_names : (job : Option Job) (name : List ℕ) (f : Fault) → fault.NoMemory ≡ f → Names job f name
memory_names job name f e = subst (λ (x : Fault). Names job x name) e tt

-- what is said of an answer names what its fault does
names_said : (job : Option Job) (name : List ℕ) (answer : Result (List ℕ) Fault) (said : Message) (f : Fault) → ((g : Fault) → answer ≡ Err g → Names job g name) → Says name answer said → said.fault ≡ Some f → Names job f name
names_said job name (Ok printed) said f names (Said is) e = absurd (none_some f (sym (ap (λ (m : Message). m.fault) is) ∙ e))
names_said job name (Err g) said f names (Said is) e = subst (λ (x : Fault). Names job x name) (some_is g f (sym (ap (λ (m : Message). m.fault) is) ∙ e)) (names g refl)
names_said job name answer said f names (Unsaid is) e = memory_names job name f (some_is fault.NoMemory f (sym (ap (λ (m : Message). m.fault) is) ∙ e))

-- a verdict names the source
verdict_names : (job : Option Job) (g : Fault) → IsVerdict {X = List ℕ} (Err g) → Names job g (source_name job)
verdict_names job (fault.Source number why) verdict = refl
verdict_names job (fault.Blob f) verdict = tt
verdict_names job fault.NotBuilt verdict = tt
verdict_names job fault.NothingToRun verdict = tt
verdict_names job fault.Words verdict = absurd verdict
verdict_names job fault.Read verdict = absurd verdict
verdict_names job fault.Write verdict = absurd verdict
verdict_names job fault.NoMemory verdict = absurd verdict

err_is : (f g : Fault) → ◌≡◌ {A = Result (List ℕ) Fault} (Err f) (Err g) → f ≡ g
err_is f g e = cc

-- an error of a fault names what the fault does
names_one : (job : Option Job) (name : List ℕ) (f : Fault) → Names job f name → (g : Fault) → ◌≡◌ {A = Result (List ℕ) Fault} (Err f) (Err g) → Names job g name
names_one job name f names g e = subst (λ (x : Fault). Names job x name) (err_is f g e) names

line_in : (job other : Option Job) (f : Fault) (text : List ℕ) → other ≡ job → IsLine other f text → IsLine job f text
line_in job other f text e line = subst (λ (x : Option Job). IsLine x f text) e line

line_said : (job : Option Job) (files : Asked) (said : Message) (f : Fault) → Comes job files said → said.fault ≡ Some f → f ≢ fault.Write → IsLine job f said.text
line_said job files said f (NoJob none says kept steady) e other =
    record { name = []; names = names_said job [] (Err fault.Words) said f (names_one job [] fault.Words tt) says e; is = says_line [] (Err fault.Words) said f says e }
line_said job files said f (Answered j a some verdict nothing shown answers says kept steady) e other =
    let name = source_name (Some j) in
    line_in job (Some j) f said.text (sym some)
    (record { name = name; names = names_said (Some j) name a said f (λ g is. verdict_names (Some j) g (subst (λ (x : Result (List ℕ) Fault). IsVerdict x) is verdict)) says e; is = says_line name a said f says e })
line_said job files said f (Built source printed some builds is steady) e other = absurd (none_some f (sym (ap (λ (m : Message). m.fault) is) ∙ e))
line_said job files said f (Unread j name some among says kept rose up same) e other =
    line_in job (Some j) f said.text (sym some)
    (record { name = name; names = names_said (Some j) name (Err fault.Read) said f (names_one (Some j) name fault.Read among) says e; is = says_line name (Err fault.Read) said f says e })
line_said job files said f (Unwritten source printed some builds is rose up same) e other =
    absurd (other (sym (some_is fault.Write f (sym (ap (λ (m : Message). m.fault) is) ∙ e))))
line_said job files said f (coming.Starved is kept steady) e other =
    record { name = []; names = memory_names job [] f (some_is fault.NoMemory f (sym (ap (λ (m : Message). m.fault) is) ∙ e)); is = says_line [] (Err fault.NoMemory) said f (Unsaid is) e }

-- the sink gets the line of the fault
pub line_told : (job : Option Job) (files : Asked) (said : Message) (told : Option Fault) (sink : Sunk) → Comes job files said → Tells said told sink → (f : Fault) → told ≡ Some f → f ≢ fault.Write
    → (name : List ℕ) × Names job f name × (sink.after ≡ appended sink.before (fault_line name f))
line_told job files said told sink comes (Whole is written same) f e other =
    let line = line_said job files said f comes (sym is ∙ e) other in
    (line.name, line.names, written ∙ ap (appended sink.before) line.is)
line_told job files said told sink comes (InPart some is part rose up) f e other = absurd (other (sym (some_is fault.Write f (sym is ∙ e))))
line_told job files said told sink comes (Untold is written same) f e other =
    let none : fault.NoMemory ≡ f = some_is fault.NoMemory f (sym is ∙ e) in
    ([], memory_names job [] f none, written ∙ sym (appended_nothing sink.before) ∙ ap (λ (g : Fault). appended sink.before (fault_line [] g)) none)

-- ---- counts that rose

says_read : (name : List ℕ) (said : Message) → Says name (Err fault.Read) said → Contains (6 ∷ 7 ∷ 9 ∷ []) (status_of said.fault)
says_read name said (Said is) = subst (λ (m : Message). Contains (6 ∷ 7 ∷ 9 ∷ []) (status_of m.fault)) (sym is) (0, omega arith, refl)
says_read name said (Unsaid is) = subst (λ (m : Message). Contains (6 ∷ 7 ∷ 9 ∷ []) (status_of m.fault)) (sym is) (2, omega arith, refl)

read_said : (job : Option Job) (files : Asked) (said : Message) → Comes job files said → files.reads_before < files.reads_after → Contains (6 ∷ 7 ∷ 9 ∷ []) (status_of said.fault)
read_said job files said (NoJob none says kept steady) rose = absurd (omega (arith, steady.reads, rose))
read_said job files said (Answered j a some verdict nothing shown answers says kept steady) rose = absurd (omega (arith, steady.reads, rose))
read_said job files said (Built source printed some builds is steady) rose = absurd (omega (arith, steady.reads, rose))
read_said job files said (Unread j name some among says kept risen up same) rose = says_read name said says
read_said job files said (Unwritten source printed some builds is risen up same) rose = absurd (omega (arith, same, rose))
read_said job files said (coming.Starved is kept steady) rose = absurd (omega (arith, steady.reads, rose))

-- where a read failed, the status says so
pub read_told : (job : Option Job) (files : Asked) (said : Message) (told : Option Fault) (sink : Sunk) → Comes job files said → Tells said told sink → files.reads_before < files.reads_after → Contains (6 ∷ 7 ∷ 9 ∷ []) (status_of told)
read_told job files said told sink comes (Whole is written same) rose = subst (λ (t : Option Fault). Contains (6 ∷ 7 ∷ 9 ∷ []) (status_of t)) (sym is) (read_said job files said comes rose)
read_told job files said told sink comes (InPart some is part risen up) rose = subst (λ (t : Option Fault). Contains (6 ∷ 7 ∷ 9 ∷ []) (status_of t)) (sym is) (1, omega arith, refl)
read_told job files said told sink comes (Untold is written same) rose = subst (λ (t : Option Fault). Contains (6 ∷ 7 ∷ 9 ∷ []) (status_of t)) (sym is) (2, omega arith, refl)

-- ---- the sink alone failed

builds_leave : (source printed : List ℕ) (before after : Option Held) → Told (Builds source printed) before after → Told (LeavesBuild source) before after
builds_leave source printed None None told = tt
builds_leave source printed None (Some a) told = told
builds_leave source printed (Some b) None told = told
builds_leave source printed (Some b) (Some a) told =
    subst (λ (r : Result (List ℕ) Fault). MatchResult r (λ _. HoldsBuild source b a) (λ _. a ≡ b)) (sym told.prints) (record { printed = printed; builds = told })

refused_leave : (source : List ℕ) (f : Fault) (before after : Option Held) → IfSome before (λ held. Answers held (Some (Build source)) (Err f)) → after ≡ before → Told (LeavesBuild source) before after
refused_leave source f None None answers kept = tt
refused_leave source f None (Some a) answers kept = absurd cc
refused_leave source f (Some b) None answers kept = absurd cc
refused_leave source f (Some b) (Some a) answers kept =
    subst (λ (r : Result (List ℕ) Fault). MatchResult r (λ _. HoldsBuild source b a) (λ _. a ≡ b)) answers (some_is a b kept)

build_is : (s t : List ℕ) → ◌≡◌ {A = Option Job} (Some (Build s)) (Some (Build t)) → s ≡ t
build_is s t e = cc

answered_leave : (source : List ℕ) (j : Job) (a : Result (List ℕ) Fault) (before after : Option Held) → Some j ≡ Some (Build source) → WritesNothing j a → IfSome before (λ held. Answers held (Some j) a) → after ≡ before → Told (LeavesBuild source) before after
answered_leave source (Build s) (Ok printed) before after e nothing answers kept = absurd nothing
answered_leave source (Build s) (Err f) before after e nothing answers kept =
    subst (λ (x : List ℕ). Told (LeavesBuild x) before after) (build_is s source e) (refused_leave s f before after answers kept)
answered_leave source (Run entry) a before after e nothing answers kept = absurd cc
answered_leave source (Verify blob) a before after e nothing answers kept = absurd cc

memory_is_no_write : ◌≡◌ {A = Option Fault} (Some fault.NoMemory) (Some fault.Write) → ⊥
memory_is_no_write e = absurd cc

-- the file holds the whole blob, where the source is built
pub sink_failed : (job : Option Job) (files : Asked) (said : Message) (told : Option Fault) (sink : Sunk) → Comes job files said → Tells said told sink → (source : List ℕ) → job ≡ Some (Build source) → told ≡ Some fault.Write
    → (HasRisen files.writes_before files.writes_after → ⊥) → (HasRisen files.reads_before files.reads_after → ⊥) → Told (LeavesBuild source) files.before files.after
sink_failed job files said told sink (NoJob none says kept steady) tells source is failed quiet calm = absurd cc
sink_failed job files said told sink (Answered j a some verdict nothing shown answers says kept steady) tells source is failed quiet calm =
    answered_leave source j a files.before files.after (sym some ∙ is) nothing answers kept
sink_failed job files said told sink (Built s printed some builds e steady) tells source is failed quiet calm =
    subst (λ (x : List ℕ). Told (LeavesBuild x) files.before files.after) (build_is s source (sym some ∙ is)) (builds_leave s printed files.before files.after builds)
sink_failed job files said told sink (Unread j name some among says kept rose up same) tells source is failed quiet calm = absurd (calm rose)
sink_failed job files said told sink (Unwritten s printed some builds e rose up same) tells source is failed quiet calm = absurd (quiet rose)
sink_failed job files said told sink (coming.Starved e kept steady) (Whole t written same) source is failed quiet calm =
    absurd (memory_is_no_write (sym (ap (λ (m : Message). m.fault) e) ∙ sym t ∙ failed))
sink_failed job files said told sink (coming.Starved e kept steady) (InPart some t part rose up) source is failed quiet calm = absurd (some (ap (λ (m : Message). m.fault) e))
sink_failed job files said told sink (coming.Starved e kept steady) (Untold t written same) source is failed quiet calm = absurd (memory_is_no_write (sym t ∙ failed))

-- ---- whatever rose

-- the sink gets a prefix of what was said
part_said : (said : Message) (told : Option Fault) (sink : Sunk) → Tells said told sink → AppendsInPart said.text sink.before sink.after
part_said said told sink (Whole is written same) = (said.text, ([], append-nil said.text), written)
part_said said told sink (InPart some is part rose up) = part
part_said said told sink (Untold is written same) = appends_nothing said.text sink.before sink.after written

-- a prefix of nothing is a prefix of every text
part_of_nothing : (line : List ℕ) (before after : Option (List ℕ)) → AppendsInPart [] before after → AppendsInPart line before after
part_of_nothing line before after ([], rest, e) = ([], (line, refl), e)
part_of_nothing line before after (x ∷ part, (rest, whole), e) = absurd cc

part_of : (text line : List ℕ) (before after : Option (List ℕ)) → (text ≡ line) ⊎ (text ≡ []) → AppendsInPart text before after → AppendsInPart line before after
part_of text line before after (inl e) part = subst (λ (xs : List ℕ). AppendsInPart xs before after) e part
part_of text line before after (inr e) part = part_of_nothing line before after (subst (λ (xs : List ℕ). AppendsInPart xs before after) e part)

says_text : (name : List ℕ) (f : Fault) (said : Message) → Says name (Err f) said → (said.text ≡ fault_line name f) ⊎ (said.text ≡ [])
says_text name f said (Said is) = inl (ap (λ (m : Message). m.text) is)
says_text name f said (Unsaid is) = inr (ap (λ (m : Message). m.text) is)

words_said : (job : Option Job) (files : Asked) (said : Message) → Comes job files said → job ≡ None → (said.text ≡ fault_line [] fault.Words) ⊎ (said.text ≡ [])
words_said job files said (NoJob none says kept steady) e = says_text [] fault.Words said says
words_said job files said (Answered j a some verdict nothing shown answers says kept steady) e = absurd cc
words_said job files said (Built source printed some builds is steady) e = absurd cc
words_said job files said (Unread j name some among says kept rose up same) e = absurd cc
words_said job files said (Unwritten source printed some builds is rose up same) e = absurd cc
words_said job files said (coming.Starved is kept steady) e = inr (ap (λ (m : Message). m.text) is)

-- where there is no job the sink gets a prefix of the line of refused words
pub words_told : (job : Option Job) (files : Asked) (said : Message) (told : Option Fault) (sink : Sunk) → Comes job files said → Tells said told sink → job ≡ None → AppendsInPart (fault_line [] fault.Words) sink.before sink.after
words_told job files said told sink comes tells none =
    part_of said.text (fault_line [] fault.Words) sink.before sink.after (words_said job files said comes none) (part_said said told sink tells)

-- a prefix of the line of a failed read, which names a file that the job reads
pub record IsReadLine (job : Option Job) (text : List ℕ) : Type 0 where
  pub name : List ℕ
  pub among : Contains (read_names job) name
  pub is : (text ≡ fault_line name fault.Read) ⊎ (text ≡ [])

read_line_said : (job : Option Job) (files : Asked) (said : Message) → Comes job files said → files.reads_before < files.reads_after → IsReadLine job said.text
read_line_said job files said (NoJob none says kept steady) rose = absurd (omega (arith, steady.reads, rose))
read_line_said job files said (Answered j a some verdict nothing shown answers says kept steady) rose = absurd (omega (arith, steady.reads, rose))
read_line_said job files said (Built source printed some builds is steady) rose = absurd (omega (arith, steady.reads, rose))
read_line_said job files said (Unread j name some among says kept risen up same) rose =
    record { name = name; among = subst (λ (x : Option Job). Contains (read_names x) name) (sym some) among; is = says_text name fault.Read said says }
read_line_said job files said (Unwritten source printed some builds is risen up same) rose = absurd (omega (arith, same, rose))
read_line_said job files said (coming.Starved is kept steady) rose = absurd (omega (arith, steady.reads, rose))

-- where a read failed the sink gets a prefix of the line of a failed read
pub read_line_told : (job : Option Job) (files : Asked) (said : Message) (told : Option Fault) (sink : Sunk) → Comes job files said → Tells said told sink → files.reads_before < files.reads_after
    → (name : List ℕ) × Contains (read_names job) name × AppendsInPart (fault_line name fault.Read) sink.before sink.after
read_line_told job files said told sink comes tells rose =
    let line = read_line_said job files said comes rose in
    (line.name, line.among, part_of said.text (fault_line line.name fault.Read) sink.before sink.after line.is (part_said said told sink tells))

-- ---- verify, whether or not the files tell

verify_is : (s t : List ℕ) → ◌≡◌ {A = Option Job} (Some (Verify s)) (Some (Verify t)) → s ≡ t
verify_is s t e = cc

shown_count : (answer : Result (List ℕ) Fault) (count : Result ℕ Fault) (said : Message) (name : List ℕ) → answer ≡ counted count → Says name answer said → said.fault ≡ None → (n : ℕ) × (said.text ≡ count_line n)
shown_count answer (Ok n) said name is (Said e) none = (n, ap (λ (m : Message). m.text) e ∙ ap (told_of name) is)
shown_count answer (Err f) said name is (Said e) none = absurd (none_some f (sym none ∙ ap (λ (m : Message). m.fault) e ∙ ap fault_of is))
shown_count answer count said name is (Unsaid e) none = absurd (none_some fault.NoMemory (sym none ∙ ap (λ (m : Message). m.fault) e))

verify_shown : (j : Job) (answer : Result (List ℕ) Fault) (blob : List ℕ) (said : Message) → Some j ≡ Some (Verify blob) → Shows j answer → Says (source_name (Some j)) answer said → said.fault ≡ None → (n : ℕ) × (said.text ≡ count_line n)
verify_shown (Build source) answer blob said e shown says none = absurd cc
verify_shown (Run entry) answer blob said e shown says none = absurd cc
verify_shown (Verify name) answer blob said e shown says none = shown_count answer shown.0 said (source_name (Some (Verify name))) shown.1 says none

verify_said : (job : Option Job) (files : Asked) (said : Message) (blob : List ℕ) → Comes job files said → job ≡ Some (Verify blob) → said.fault ≡ None → (n : ℕ) × (said.text ≡ count_line n)
verify_said job files said blob (NoJob none says kept steady) is done = absurd cc
verify_said job files said blob (Answered j a some verdict nothing shown answers says kept steady) is done = verify_shown j a blob said (sym some ∙ is) shown says done
verify_said job files said blob (Built source printed some builds e steady) is done = absurd cc
verify_said job files said blob (Unread j name some among (Said e) kept rose up same) is done = absurd (none_some fault.Read (sym done ∙ ap (λ (m : Message). m.fault) e))
verify_said job files said blob (Unread j name some among (Unsaid e) kept rose up same) is done = absurd (none_some fault.NoMemory (sym done ∙ ap (λ (m : Message). m.fault) e))
verify_said job files said blob (Unwritten source printed some builds e rose up same) is done = absurd cc
verify_said job files said blob (coming.Starved e kept steady) is done = absurd (none_some fault.NoMemory (sym done ∙ ap (λ (m : Message). m.fault) e))

-- a verify that was done tells the line of a number
pub verify_told : (job : Option Job) (files : Asked) (said : Message) (told : Option Fault) (sink : Sunk) → Comes job files said → Tells said told sink → (blob : List ℕ) → job ≡ Some (Verify blob) → told ≡ None → (n : ℕ) × (sink.after ≡ appended sink.before (count_line n))
verify_told job files said told sink comes (Whole t written same) blob is done =
    let n = verify_said job files said blob comes is (sym t ∙ done) in
    (n.0, written ∙ ap (appended sink.before) n.1)
verify_told job files said told sink comes (InPart some t part rose up) blob is done = absurd (none_some fault.Write (sym done ∙ t))
verify_told job files said told sink comes (Untold t written same) blob is done = absurd (none_some fault.NoMemory (sym done ∙ t))

-- ---- what the files may hold

kept_told : (source : List ℕ) (before after : Option Held) → after ≡ before → Told (KeepsOrHolds source) before after
kept_told source None None e = tt
kept_told source None (Some a) e = absurd cc
kept_told source (Some b) None e = absurd cc
kept_told source (Some b) (Some a) e = inl (some_is a b e)

builds_held : (source printed : List ℕ) (before after : Option Held) → Told (Builds source printed) before after → Told (KeepsOrHolds source) before after
builds_held source printed None None told = tt
builds_held source printed None (Some a) told = told
builds_held source printed (Some b) None told = told
builds_held source printed (Some b) (Some a) told = inr (record { printed = printed; builds = told })

-- where no write failed the files hold what they held, or the build
pub whole_or_kept : (job : Option Job) (files : Asked) (said : Message) → Comes job files said → (source : List ℕ) → job ≡ Some (Build source) → (HasRisen files.writes_before files.writes_after → ⊥) → Told (KeepsOrHolds source) files.before files.after
whole_or_kept job files said (NoJob none says kept steady) source is quiet = kept_told source files.before files.after kept
whole_or_kept job files said (Answered j a some verdict nothing shown answers says kept steady) source is quiet = kept_told source files.before files.after kept
whole_or_kept job files said (Built s printed some builds e steady) source is quiet =
    subst (λ (x : List ℕ). Told (KeepsOrHolds x) files.before files.after) (build_is s source (sym some ∙ is)) (builds_held s printed files.before files.after builds)
whole_or_kept job files said (Unread j name some among says kept rose up same) source is quiet = kept_told source files.before files.after kept
whole_or_kept job files said (Unwritten s printed some builds e rose up same) source is quiet = absurd (quiet rose)
whole_or_kept job files said (coming.Starved e kept steady) source is quiet = kept_told source files.before files.after kept

held_may : (source : List ℕ) (before after : Option Held) → Told (KeepsOrHolds source) before after → Told (MayLeave source) before after
held_may source None None told = tt
held_may source None (Some a) told = told
held_may source (Some b) None told = told
held_may source (Some b) (Some a) told = inl told

part_may : (source printed : List ℕ) (before after : Option Held) → Told (BuildsInPart source printed) before after → Told (MayLeave source) before after
part_may source printed None None told = tt
part_may source printed None (Some a) told = told
part_may source printed (Some b) None told = told
part_may source printed (Some b) (Some a) told = inr (printed, told)

-- a build leaves what was there, the build, or a part of it
pub may_leave : (job : Option Job) (files : Asked) (said : Message) → Comes job files said → (source : List ℕ) → job ≡ Some (Build source) → Told (MayLeave source) files.before files.after
may_leave job files said (NoJob none says kept steady) source is = held_may source files.before files.after (kept_told source files.before files.after kept)
may_leave job files said (Answered j a some verdict nothing shown answers says kept steady) source is = held_may source files.before files.after (kept_told source files.before files.after kept)
may_leave job files said (Built s printed some builds e steady) source is =
    subst (λ (x : List ℕ). Told (MayLeave x) files.before files.after) (build_is s source (sym some ∙ is)) (held_may s files.before files.after (builds_held s printed files.before files.after builds))
may_leave job files said (Unread j name some among says kept rose up same) source is = held_may source files.before files.after (kept_told source files.before files.after kept)
may_leave job files said (Unwritten s printed some builds e rose up same) source is =
    subst (λ (x : List ℕ). Told (MayLeave x) files.before files.after) (build_is s source (sym some ∙ is)) (part_may s printed files.before files.after builds)
may_leave job files said (coming.Starved e kept steady) source is = held_may source files.before files.after (kept_told source files.before files.after kept)
