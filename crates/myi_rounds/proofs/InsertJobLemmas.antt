-- A job of inserts that goes on.
use Rattle.std.proofs.Common.{◌≡◌, ℕ, ◌+◌, ◌<◌, ◌≤◌, List, [], ◌∷◌, ◌++◌, length, take, map, get_or, Option, refl, sym, ap, subst, ◌∙◌, arith, add-one}
use Rattle.std.proofs.Math.Seq.{take-suc}
use Rattle.myi_adapters.specs.TwoReaders.{told_by}
use Rattle.myi_defs.specs.declared.types.Defs.{Defs}
use Rattle.myi_pack.specs.Packed.{Values}
use Rattle.myi_keyedrows.specs.KeyedRows.{IfHold}
use Rattle.myi_locks.specs.declared.steps.Step.{Step}
use Rattle.myi_script.specs.declared.types.Line.{Line}
use Rattle.myi_history.specs.Lines.{MayRun}
use Rattle.myi_history.specs.Answers.{LineAnswer}
use Rattle.myi_history.specs.declared.answers.StepAnswer.{StepAnswer}
use Rattle.myi_inserter.specs.declared.file_inserter.Inserter.{Inserter}
use Rattle.myi_inserter.specs.declared.inserter.TableInserter.{TableInserter}
use Rattle.myi_inserter.specs.Inserter.{IsInserter, IsSameInserter}
use Rattle.myi_rounds.specs.declared.inserting.Replied.{Replied}
use Rattle.myi_rounds.specs.Inserts.{asked_by, lines_of, said_of, IsAnswered, HaveInserted}
use Rattle.myi_rounds.specs.InsertJob.{Inserts, IsInsertJob, InsertsOn, GoesOn, rows_put, job_of}
use Rattle.myi_rounds.proofs.InsertLemmas.{inserted_more}

-- the law on the rows that were put
abbrev pub AreValues : Type 0
AreValues = (i : TableInserter) (rows : List Values) → IsInserter i rows → rows_put i ≡ rows

pub put_ready : AreValues → (i : TableInserter) → (rows : List Values) × IsInserter i rows → IsInserter i (rows_put i)
put_ready law i is = subst (λ (rows : List Values). IsInserter i rows) (sym (law i is.0 is.1)) is.1

same_self : (i : TableInserter) → IsSameInserter i i
same_self i = record { defs = refl; number = refl; tail = refl; file = refl; places = refl }

pub on_self : {R : Type 0} (shows : R → Option (List ℕ)) (i : Inserter R) → InsertsOn shows i i
on_self shows i = record { same = same_self i.table; holds = refl; still = λ m held own base h. h }

-- one step is done
pub goes_next : AreValues → {R : Type 0} (shows : R → Option (List ℕ)) (i j : Inserter R) (ls : List Line) (steps : List Step) (done : ℕ) (d : Step) (old new : List Replied) (answer : Option StepAnswer) → IsInserter i.table (rows_put i.table) → InsertsOn shows i j → done < length steps
    → IfHold (told_by shows i.files) i.table.rows (λ m own base. (rows : List Values) → IsInserter i.table rows → IsAnswered i.table.defs base rows (asked_by ls (get_or steps done d)) answer j.table)
    → map said_of new ≡ map said_of old ++ lines_of (get_or steps done d).line answer → GoesOn shows (job_of i ls steps done old) (job_of j ls steps (done + 1) new)
goes_next law shows i j ls steps done d old new answer ready on lt answered noted =
    let x : Step = get_or steps done d in
    let more : take (done + 1) steps ≡ take done steps ++ x ∷ [] = ap (λ (k : ℕ). take k steps) (add-one done) ∙ take-suc steps done d lt in
    record {
      defs = on.same.defs;
      number = on.same.number;
      tail = on.same.tail;
      file = on.same.file;
      places = on.same.places;
      holds = on.holds;
      still = on.still;
      lines = refl;
      steps = refl;
      later = omega arith;
      inserted = λ m held own base h have.
          let a = answered m held own base h (rows_put i.table) ready in
          let one = inserted_more i.table.defs ls base (take done steps) x j.table (rows_put i.table) (rows_put j.table) old new answer have a (law j.table a.more a.ready) noted in
          subst (λ (e : Defs). HaveInserted e ls base (take (done + 1) steps) (rows_put j.table) new) (sym on.same.defs) (subst (λ (l : List Step). HaveInserted i.table.defs ls base l (rows_put j.table) new) (sym more) one);
    }

-- a step was refused
pub goes_none : AreValues → {R : Type 0} (shows : R → Option (List ℕ)) (i j : Inserter R) (ls : List Line) (steps : List Step) (done : ℕ) (old new : List Replied) → IsInserter i.table (rows_put i.table) → InsertsOn shows i j
    → ((rows : List Values) → IsInserter i.table rows → IsInserter j.table rows) → new ≡ old → GoesOn shows (job_of i ls steps done old) (job_of j ls steps done new)
goes_none law shows i j ls steps done old new ready on again same =
    let rows : rows_put j.table ≡ rows_put i.table = law j.table (rows_put i.table) (again (rows_put i.table) ready) in
    record {
      defs = on.same.defs;
      number = on.same.number;
      tail = on.same.tail;
      file = on.same.file;
      places = on.same.places;
      holds = on.holds;
      still = on.still;
      lines = refl;
      steps = refl;
      later = omega arith;
      inserted = λ m held own base h have.
          subst (λ (e : Defs). HaveInserted e ls base (take done steps) (rows_put j.table) new) (sym on.same.defs)
          (subst (λ (l : List Values). HaveInserted i.table.defs ls base (take done steps) l new) (sym rows) (subst (λ (l : List Replied). HaveInserted i.table.defs ls base (take done steps) (rows_put i.table) l) (sym same) have));
    }

pub goes_self : {R : Type 0} (shows : R → Option (List ℕ)) (j : Inserts R) → GoesOn shows j j
goes_self shows j = record {
  defs = refl;
  number = refl;
  tail = refl;
  file = refl;
  places = refl;
  holds = refl;
  still = λ m held own base h. h;
  lines = refl;
  steps = refl;
  later = omega arith;
  inserted = λ m held own base h have. have;
}

pub goes_then : {R : Type 0} (shows : R → Option (List ℕ)) (a b c : Inserts R) → GoesOn shows a b → GoesOn shows b c → GoesOn shows a c
goes_then shows a b c one two = record {
  defs = two.defs ∙ one.defs;
  number = two.number ∙ one.number;
  tail = two.tail ∙ one.tail;
  file = two.file ∙ one.file;
  places = two.places ∙ one.places;
  holds = two.holds ∙ one.holds;
  still = λ m held own base h. two.still m (one.holds ∙ held) own base (one.still m held own base h);
  lines = two.lines ∙ one.lines;
  steps = two.steps ∙ one.steps;
  later = omega (arith, one.later, two.later);
  inserted = λ m held own base h have. two.inserted m (one.holds ∙ held) own base (one.still m held own base h) (one.inserted m held own base h have);
}

-- it is a job again
pub job_on : (i j : TableInserter) (ls : List Line) (steps : List Step) (done next : ℕ) → IsInsertJob i ls steps done → IsSameInserter i j → IsInserter j (rows_put j) → next ≤ length steps → IsInsertJob j ls steps next
job_on i j ls steps done next is same ready within = record { ready = ready; lines = subst (λ (d : Defs). MayRun d ls) (sym same.defs) is.lines; within = within }

pub noted_behind : (old room new : List Replied) (more : List LineAnswer) → map said_of new ≡ map said_of room ++ more → room ≡ old → map said_of new ≡ map said_of old ++ more
noted_behind old room new more noted same = noted ∙ ap (λ (l : List Replied). map said_of l ++ more) same
