-- A job that goes on.
use Rattle.std.proofs.Common.{◌≡◌, ℕ, ◌+◌, ◌<◌, ◌≤◌, List, [], ◌∷◌, ◌++◌, length, take, get_or, Option, refl, sym, ap, subst, ◌∙◌, arith, add-one}
use Rattle.std.proofs.Math.Seq.{take-suc}
use Rattle.myi_adapters.specs.TwoReaders.{told_by}
use Rattle.myi_keyedrows.specs.KeyedRows.{IfHold}
use Rattle.myi_locks.specs.declared.steps.Step.{Step}
use Rattle.myi_script.specs.declared.types.Line.{Line}
use Rattle.myi_defs.specs.declared.types.Defs.{Defs}
use Rattle.myi_history.specs.Lines.{MayRun}
use Rattle.myi_history.specs.RoundTexts.{LineText}
use Rattle.myi_snapshots.specs.declared.snapshot.Snapshot.{Snapshot}
use Rattle.myi_readers.specs.declared.file_reader.Reader.{Reader}
use Rattle.myi_rounds.specs.ReadJob.{Reads, SaidBy, IsReadJob, ReadsOn, GoesOn}
use Rattle.myi_rounds.proofs.ReaderLemmas.{on_then, on_same, kept_on}
use Rattle.myi_rounds.proofs.SaidLemmas.{knows_more}

-- a job of these parts
abbrev pub job : {R : Type 0} → Reader R → List Line → List Step → ℕ → Option Snapshot → List LineText → Reads R
job r ls steps done taken texts = record { reader = r; lines = ls; steps = steps; done = done; taken = taken; texts = texts }

-- a read of a line was done by the reader
abbrev pub SaidNext : {R : Type 0} → (R → Option (List ℕ)) → List Line → Reader R → Reader R → Option Snapshot → ℕ → List LineText → List LineText → Type 0
SaidNext shows ls r q taken line old new =
    IfHold (told_by shows r.files) r.table.rows (λ m own base. (steps : List Step) (x : Step) → x.line ≡ line → SaidBy ls r.table base taken steps old → SaidBy ls q.table base taken (steps ++ x ∷ []) new)

-- one step is done
pub goes_next : {R : Type 0} (shows : R → Option (List ℕ)) (r q : Reader R) (ls : List Line) (steps : List Step) (done : ℕ) (taken : Option Snapshot) (d : Step) (old new : List LineText) → ReadsOn shows r q → done < length steps
    → SaidNext shows ls r q taken (get_or steps done d).line old new → GoesOn shows (job r ls steps done taken old) (job q ls steps (done + 1) taken new)
goes_next shows r q ls steps done taken d old new on lt next =
    let x : Step = get_or steps done d in
    let more : take (done + 1) steps ≡ take done steps ++ x ∷ [] = ap (λ (k : ℕ). take k steps) (add-one done) ∙ take-suc steps done d lt in
    record {
      reader = on;
      lines = refl;
      steps = refl;
      taken = refl;
      later = omega arith;
      said = λ m held own base h said. subst (λ (l : List Step). SaidBy ls q.table base taken l new) (sym more) (next m held own base h (take done steps) x refl said);
    }

-- a step was refused
pub goes_none : {R : Type 0} (shows : R → Option (List ℕ)) (r q : Reader R) (ls : List Line) (steps : List Step) (done : ℕ) (taken : Option Snapshot) (old new : List LineText) → ReadsOn shows r q → new ≡ old → GoesOn shows (job r ls steps done taken old) (job q ls steps done taken new)
goes_none shows r q ls steps done taken old new on same = record {
  reader = on;
  lines = refl;
  steps = refl;
  taken = refl;
  later = omega arith;
  said = λ m held own base h said. subst (λ (l : List LineText). SaidBy ls q.table base taken (take done steps) l) (sym same) (knows_more ls r.table q.table base taken (take done steps) old on.same on.more said);
}

pub goes_self : {R : Type 0} (shows : R → Option (List ℕ)) (j : Reads R) → IsReadJob shows j → GoesOn shows j j
goes_self shows j is = record { reader = on_same shows j.reader j.reader is.ready refl refl; lines = refl; steps = refl; taken = refl; later = omega arith; said = λ m held own base h said. said }

pub goes_then : {R : Type 0} (shows : R → Option (List ℕ)) (a b c : Reads R) → GoesOn shows a b → GoesOn shows b c → GoesOn shows a c
goes_then shows a b c one two = record {
  reader = on_then shows a.reader b.reader c.reader one.reader two.reader;
  lines = two.lines ∙ one.lines;
  steps = two.steps ∙ one.steps;
  taken = two.taken ∙ one.taken;
  later = omega (arith, one.later, two.later);
  said = λ m held own base h said. two.said m (one.reader.holds ∙ held) own base (one.reader.still m held own base h) (one.said m held own base h said);
}

-- it is a job again
pub job_on : {R : Type 0} (shows : R → Option (List ℕ)) (old new : Reads R) → IsReadJob shows old → ReadsOn shows old.reader new.reader → new.lines ≡ old.lines → new.done ≤ length new.steps → IsReadJob shows new
job_on shows old new is on lines within = record {
  ready = on.ready;
  kept = kept_on shows old.reader new.reader on is.kept;
  lines = subst (λ (d : Defs). MayRun d new.lines) (sym on.same.defs) (subst (λ (l : List Line). MayRun old.reader.table.defs l) (sym lines) is.lines);
  within = within;
}
