use Rattle.snap_commands.proofs.Clauses.{line_told, may_leave, only_defined, prefix_defined, read_line_told, read_told, sink_failed, told_defined, verify_told, whole_or_kept, words_told}
use Rattle.snap_commands.proofs.Causes.{source_told}
use Rattle.snap_commands.proofs.serial.snap_serial.Goals as goal

pub returns-clause-told : goal.returns-clause-told
returns-clause-told g c = rw (← c.job_of-job.ensures) (told_defined _ _ _ c.tell-fault.result _ c.answer_of-said.ensures.comes c.tell-fault.ensures)

pub returns-clause-only : goal.returns-clause-only
returns-clause-only g c = rw (← c.job_of-job.ensures) (only_defined _ _ _ c.tell-fault.result _ c.answer_of-said.ensures.comes c.tell-fault.ensures)

pub returns-clause-source : goal.returns-clause-source
returns-clause-source g c = rw (← c.job_of-job.ensures) (source_told _ _ _ c.tell-fault.result _ c.answer_of-said.ensures.comes c.tell-fault.ensures)

pub returns-clause-line : goal.returns-clause-line
returns-clause-line g c = rw (← c.job_of-job.ensures) (line_told _ _ _ c.tell-fault.result _ c.answer_of-said.ensures.comes c.tell-fault.ensures)

pub returns-clause-prefix : goal.returns-clause-prefix
returns-clause-prefix g c = rw (← c.job_of-job.ensures) (prefix_defined _ _ _ c.tell-fault.result _ c.answer_of-said.ensures.comes c.tell-fault.ensures)

pub returns-clause-counted : goal.returns-clause-counted
returns-clause-counted g c = rw (← c.job_of-job.ensures) (verify_told _ _ _ c.tell-fault.result _ c.answer_of-said.ensures.comes c.tell-fault.ensures)

pub returns-clause-refused_line : goal.returns-clause-refused_line
returns-clause-refused_line g c = rw (← c.job_of-job.ensures) (words_told _ _ _ c.tell-fault.result _ c.answer_of-said.ensures.comes c.tell-fault.ensures)

pub returns-clause-read_line : goal.returns-clause-read_line
returns-clause-read_line g c = rw (← c.job_of-job.ensures) (read_line_told _ _ _ c.tell-fault.result _ c.answer_of-said.ensures.comes c.tell-fault.ensures)

pub returns-clause-read_rose : goal.returns-clause-read_rose
returns-clause-read_rose g c = rw c.status_of.ensures (read_told _ _ _ c.tell-fault.result _ c.answer_of-said.ensures.comes c.tell-fault.ensures)

pub returns-clause-sink_alone : goal.returns-clause-sink_alone
returns-clause-sink_alone g c = rw (← c.job_of-job.ensures) (sink_failed _ _ _ c.tell-fault.result _ c.answer_of-said.ensures.comes c.tell-fault.ensures)

pub returns-clause-leaves : goal.returns-clause-leaves
returns-clause-leaves g c = rw (← c.job_of-job.ensures) (may_leave _ _ _ c.answer_of-said.ensures.comes)

pub returns-clause-whole : goal.returns-clause-whole
returns-clause-whole g c = rw (← c.job_of-job.ensures) (whole_or_kept _ _ _ c.answer_of-said.ensures.comes)
