-- The jobs of a round that go on side by side.
use Rattle.std.specs.Prelude.{◌≡◌, ◌<◌, ℕ, List, length, slice_index_or, Option, None, IfSome}
use Rattle.myi_base.specs.Causes.{Rose}
use Rattle.myi_adapters.specs.TwoReaders.{told_by}
use Rattle.myi_readers.specs.declared.fault.SeenFault.TheVariants as seen
use Rattle.myi_readers.specs.Ranges.{NeverDamaged}
use Rattle.myi_inserter.specs.declared.fault.InsertFault.TheVariants as insert
use Rattle.myi_rounds.specs.declared.job.ReadRun.{ReadRun}
use Rattle.myi_rounds.specs.declared.job.InsertRun.{InsertRun}
use Rattle.myi_rounds.specs.declared.job.Job.{Job}
use Rattle.myi_rounds.specs.declared.job.Job.TheVariants as job
use Rattle.myi_rounds.specs.ReadJob as reads
use Rattle.myi_rounds.specs.InsertJob as inserts

-- The reads of a session were run: all are done, or it is told why not. Of a failed file call the count of a reader object's faults rose, and
-- files that tell what they hold are never found damaged.
pub record ReadsRan {R : Type 0} (shows : R → Option (List ℕ)) (faults : R → ℕ) (old new : ReadRun R) : Type 0 where
  pub on : reads.GoesOn shows old.job new.job
  pub done : new.refused ≡ None → new.job.done ≡ length old.job.steps
  pub never : IfSome new.refused (NeverDamaged (told_by shows old.job.reader.files))
  pub cause : IfSome new.refused (λ f. f ≡ seen.File
      → Rose (reads.faults_of faults old.job.reader) (reads.faults_of faults new.job.reader))

-- the inserts of a session were run, in the same way
pub record InsertsRan {R : Type 0} (shows : R → Option (List ℕ)) (faults : R → ℕ) (old new : InsertRun R) : Type 0 where
  pub on : inserts.GoesOn shows old.job new.job
  pub done : new.refused ≡ None → new.job.done ≡ length old.job.steps
  pub cause : IfSome new.refused (λ f. f ≡ insert.File
      → Rose (inserts.faults_of faults old.job.files) (inserts.faults_of faults new.job.files))

-- the job was run: it is one of reads, or of inserts, as before
abbrev pub JobRan : {R : Type 0} → (R → Option (List ℕ)) → (R → ℕ) → Job R → Job R → Type 0
JobRan shows faults (job.Reads old) (job.Reads new) = ReadsRan shows faults old new
JobRan shows faults (job.Reads old) (job.Inserts new) = ⊥
JobRan shows faults (job.Inserts old) (job.Reads new) = ⊥
JobRan shows faults (job.Inserts old) (job.Inserts new) = InsertsRan shows faults old new

-- each of these jobs was
abbrev pub EachRan : {R : Type 0} → (R → Option (List ℕ)) → (R → ℕ) → List (Job R) → List (Job R) → Type 0
EachRan shows faults old new = (i : ℕ) (d : Job _) → i < length old → JobRan shows faults (slice_index_or old i d) (slice_index_or new i d)
