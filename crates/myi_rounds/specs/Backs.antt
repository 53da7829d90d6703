-- The jobs of a round, as they are made of the parts of a shared table, and what is left of them.
use Rattle.std.specs.Prelude.{◌≡◌, ◌≤◌, ℕ, List, [], ◌∷◌, length, Option, None}
use Rattle.myi_adapters.specs.TwoReaders.{told_by}
use Rattle.myi_keyedrows.specs.KeyedRows.{IsKept}
use Rattle.myi_script.specs.declared.types.Line.{Line}
use Rattle.myi_history.specs.Lines.{MayRun}
use Rattle.myi_readers.specs.declared.file_reader.Reader.{Reader}
use Rattle.myi_readers.specs.Reader.{IsReader}
use Rattle.myi_inserter.specs.Inserter.{IsInserter}
use Rattle.myi_share.specs.declared.opening.Parts.{Parts}
use Rattle.myi_rounds.specs.declared.job.Job.{Job}
use Rattle.myi_rounds.specs.declared.job.Job.TheVariants as job
use Rattle.myi_rounds.specs.declared.round.AskedReads.{AskedReads}
use Rattle.myi_rounds.specs.declared.round.AskedRound.{AskedRound}
use Rattle.myi_rounds.specs.declared.round.WentReads.{WentReads}
use Rattle.myi_rounds.specs.declared.backs.Back.{Back}
use Rattle.myi_rounds.specs.InsertJob.{job_of, rows_put, GoesOn}
use Rattle.myi_rounds.specs.Jobs.{JobRan}
use Rattle.myi_rounds.specs.Rounds.{EachOf}

-- the reader may begin with reads of these lines
pub record MayRead {R : Type 0} (shows : R → Option (List ℕ)) (ls : List Line) (r : Reader R) : Type 0 where
  pub ready : IsReader r.table
  pub kept : IsKept (told_by shows r.files) r.table.rows
  pub lines : MayRun r.table.defs ls

-- a run of reads of which none is done
abbrev pub job_for : {R : Type 0} → List Line → AskedReads → Reader R → Job R
job_for ls a r = job.Reads record { job = record { reader = r; lines = ls; steps = a.steps.now; done = 0; taken = a.taken; texts = [] }; refused = None }

abbrev pub jobs_for : {R : Type 0} → List Line → List AskedReads → List (Reader R) → List (Job R)
jobs_for ls [] rs = []
jobs_for ls (a ∷ xs) [] = []
jobs_for ls (a ∷ xs) (r ∷ rs) = job_for ls a r ∷ jobs_for ls xs rs

-- the readers of runs of reads
abbrev pub readers_in : {R : Type 0} → List (Job R) → List (Reader R)
readers_in [] = []
readers_in (job.Reads run ∷ js) = run.job.reader ∷ readers_in js
readers_in (job.Inserts run ∷ js) = readers_in js

-- how far they came, and what they said
abbrev pub went_in : {R : Type 0} → List (Job R) → List WentReads
went_in [] = []
went_in (job.Reads run ∷ js) = record { done = run.job.done; texts = run.job.texts } ∷ went_in js
went_in (job.Inserts run ∷ js) = went_in js

-- none has done more steps than it has
abbrev pub AreWithin : {R : Type 0} → List (Job R) → Type 0
AreWithin [] = Unit {0}
AreWithin (job.Reads run ∷ js) = (run.job.done ≤ length run.job.steps) × AreWithin js
AreWithin (job.Inserts run ∷ js) = AreWithin js

-- The runs of a round were run that were made of these parts, and this is left of them.
pub record HaveRun {R : Type 0} (shows : R → Option (List ℕ)) (faults : R → ℕ) (asked : AskedRound) (p : Parts R) (b : Back R) : Type 0 where
  pub jobs : List (Job R)
  pub ran : EachOf (JobRan shows faults) (jobs_for asked.lines.now asked.reads.now p.readers.items) jobs
  pub within : AreWithin jobs
  pub readers : b.readers.items ≡ readers_in jobs
  pub reads : b.reads.items ≡ went_in jobs
  pub inserts : GoesOn shows (job_of p.inserter asked.lines.now asked.inserts.now 0 []) (job_of b.inserter asked.lines.now asked.inserts.now b.inserted b.replies.items)
  pub ready : IsInserter b.inserter.table (rows_put b.inserter.table)
  pub some : b.inserted ≤ length asked.inserts.now
