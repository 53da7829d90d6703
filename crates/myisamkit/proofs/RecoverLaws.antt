-- What the status and the files of a run make of a table that can be repaired.
use Rattle.std.proofs.Common.{◌≡◌, ◌≢◌, ◌⊎◌, ◌++◌, get_or, arith, ℕ, Bool, true, false, List, [], ◌∷◌, Option, Some, None, Ok, refl, sym, subst, ap, ◌∙◌, inl, inr}
use Rattle.std.specs.Prelude.{codes, ◌||◌, if◌then◌else◌}
use Rattle.std.specs.Str.{bytes_eq}
use Rattle.std.proofs.lemmas.Slice.Eq.{bytes_eq-Decides}
use Rattle.std.proofs.lemmas.List.{append_cancel_left}
use Rattle.myi_base.specs.Holding.{Holding, IfTold, Told}
use Rattle.myi_defs.specs.declared.types.Defs.{Defs}
use Rattle.myi_opening.specs.Names.{rows_file, index_file}
use Rattle.myi_opening.proofs.CallerLemmas.{table_opened}
use Rattle.myi_pair.specs.RecoveredBytes.{new_data}
use Rattle.myi_check.specs.Checking.{findings_by, findings_in, Finds}
use Rattle.myi_repair.specs.Names.{names_for, new_rows_file, new_index_file}
use Rattle.myisamkit.proofs.OtherLaws.{other_name}
use Rattle.myi_repair.specs.Opening.{IsTable}
use Rattle.myisamkit.specs.declared.status.Status.{Status}
use Rattle.myisamkit.specs.declared.status.Status.TheVariants as status
use Rattle.myisamkit.specs.declared.status.Stop.{Stop}
use Rattle.myisamkit.specs.declared.status.Stop.TheVariants as stop
use Rattle.myisamkit.specs.declared.options.TreeWork.{TreeWork}
use Rattle.myisamkit.specs.declared.options.Mode.TheVariants.{Recover}
use Rattle.myisamkit.specs.declared.options.Options.{Options}
use Rattle.myisamkit.specs.Words.{Request, chk}
use Rattle.myisamkit.specs.Statuses.{IsFault, worse}
use Rattle.myisamkit.specs.Stops.{status_of_stop}
use Rattle.myisamkit.specs.Turns.{replaced, turn, turn_by, repair_turn, AreSound, TurnDone, TurnDoneBy, FailsInTurn, FailsInTurnBy}
use Rattle.myisamkit.specs.Runs.{TablesEnd, HasStatus, IsOrFault, Leaves}
use Rattle.myisamkit.specs.Recovers.{IsRepaired, Recovers}

-- what files hold that took a table's place
placed_rows : (name d x : List ℕ) (m : Holding) → replaced (names_for name) d x m (rows_file name) ≡ Some d
placed_rows name d x m = rw ((bytes_eq-Decides (rows_file name) (rows_file name)).1 refl) refl

differ : (name a b : List ℕ) → get_or a 3 0 ≡ 73 → get_or b 3 0 ≡ 68 → name ++ a ≢ name ++ b
differ name a b i d same = let other = ap (λ xs. get_or xs 3 0) (append_cancel_left name a b same) in omega (arith, i, d, other)

placed_index : (name d x : List ℕ) (m : Holding) → replaced (names_for name) d x m (index_file name) ≡ Some x
placed_index name d x m = by (bytes_eq (index_file name) (rows_file name)) (bytes_eq (index_file name) (index_file name)) (other_name (index_file name) (rows_file name) (differ name (codes ".MYI") (codes ".MYD") refl refl)) ((bytes_eq-Decides (index_file name) (index_file name)).1 refl)
  where
    by : (a b : Bool) → a ≡ false → b ≡ true → (if a then Some d else (if b then Some x else (if bytes_eq (index_file name) (new_rows_file name) || bytes_eq (index_file name) (new_index_file name) then None else m (index_file name)))) ≡ Some x
    by true b other same = absurd cc
    by false false other same = absurd cc
    by false true other same = refl

-- nothing is wrong with a table that a repair left
sound_after : (name : List ℕ) (m n : Holding) (e y : List ℕ) → n ≡ replaced (names_for name) e y m → AreSound e y → Finds name [] n
unfolding findings_in
sound_after name m n e y files sound =
    let held = ap (λ (h : Holding). h (rows_file name)) files ∙ placed_rows name e y m in
    let keys = ap (λ (h : Holding). h (index_file name)) files ∙ placed_index name e y m in
    ap findings_by (table_opened (index_file name) (rows_file name) y e sound.0 n keys held sound.1)
    ∙ ap Ok sound.2

-- the table had its turn
repaired : (o : Options) (now : ℕ) (name : List ℕ) (defs : Defs) (d : List ℕ) (m n : Holding) (trees : TreeWork) → o.mode ≡ Recover trees → IsTable (names_for name) defs d m → TurnDone o now name m n → IsRepaired o now name defs d m n
unfolding TurnDone
repaired o now name defs d m n trees mode table done =
    let r = (subst (λ k. TurnDoneBy k o now name m n) mode done).repaired defs d table in
    record { index = r.index; files = r.files; made = r.made; sound = sound_after name m n (new_data defs o.extend d) r.index r.files r.sound }

-- its status, where nothing cuts the run off
status_of : (o : Options) (now : ℕ) (name : List ℕ) (defs : Defs) (d : List ℕ) (m : Holding) (trees : TreeWork) → o.mode ≡ Recover trees → IsTable (names_for name) defs d m → (turn o now name m).status ≡ status.Ok
unfolding turn
status_of o now name defs d m trees mode table = ap (λ k. (turn_by k o now name m).status) mode ∙ ap (λ t. (repair_turn o now name t m).status) table

-- and so it had where the output failed in it
failed : (o : Options) (now : ℕ) (name : List ℕ) (m n : Holding) (trees : TreeWork) → o.mode ≡ Recover trees → FailsInTurn o now name m n → TurnDone o now name m n
unfolding FailsInTurn
failed o now name m n trees mode fails = subst (λ k. FailsInTurnBy k o now name m n) mode fails

-- the run of one table is its turn
alone : (o : Options) (now : ℕ) (name : List ℕ) (m n : Holding) (s : Status) → TablesEnd o now (name ∷ []) s m n → TurnDone o now name m n
alone o now name m n s run = subst (TurnDone o now name m) (sym run.1.4.2) run.1.2

ends : (o : Options) (now before after : ℕ) (name : List ℕ) (defs : Defs) (d : List ℕ) (s : Status) (m n : Holding) (trees : TreeWork) → o.mode ≡ Recover trees → IsTable (names_for name) defs d m
    → IsFault s ⊎ (s ≡ status.Ok) → Leaves (chk o (name ∷ [])) now before after s m n
    → (s ≡ status.FileFault) ⊎ ((s ≡ status.Memory) ⊎ (((s ≡ status.Ok) ⊎ (s ≡ status.SinkFault)) × IsRepaired o now name defs d m n))
ends o now before after name defs d status.FileFault m n trees mode table is left = inl refl
ends o now before after name defs d status.Memory m n trees mode table is left = inr (inl refl)
ends o now before after name defs d status.SinkFault m n trees mode table is (inl fails) = let done = failed o now name m n trees mode fails in inr (inr (inr refl, repaired o now name defs d m n trees mode table done))
ends o now before after name defs d status.SinkFault m n trees mode table is (inr none) = absurd none.2
ends o now before after name defs d status.Ok m n trees mode table is left = inr (inr (inl refl, repaired o now name defs d m n trees mode table (alone o now name m n status.Ok left)))
ends o now before after name defs d status.Findings m n trees mode table (inl f) left = absurd f
ends o now before after name defs d status.Findings m n trees mode table (inr e) left = absurd cc
ends o now before after name defs d status.Usage m n trees mode table (inl f) left = absurd f
ends o now before after name defs d status.Usage m n trees mode table (inr e) left = absurd cc
ends o now before after name defs d status.Refused m n trees mode table (inl f) left = absurd f
ends o now before after name defs d status.Refused m n trees mode table (inr e) left = absurd cc
ends o now before after name defs d status.Absent m n trees mode table (inl f) left = absurd f
ends o now before after name defs d status.Absent m n trees mode table (inr e) left = absurd cc

recovers : (request : Request) (now before after : ℕ) (s : Status) (m n : Holding) → IsOrFault request now s m → Leaves request now before after s m n → Recovers request now s m n
recovers request now before after s m n is left o trees name defs d asked mode table =
    ends o now before after name defs d s m n trees mode table (ok (subst (λ r. IsOrFault r now s m) asked is)) (subst (λ r. Leaves r now before after s m n) asked left)
  where
    ok : IsFault s ⊎ HasStatus (chk o (name ∷ [])) now s m → IsFault s ⊎ (s ≡ status.Ok)
    ok (inl f) = inl f
    ok (inr run) = inr (run.1.1.4.1 ∙ ap (worse status.Ok) (status_of o now name defs d m trees mode table))

-- a run
pub recovers_told : (request : Request) (now before after : ℕ) (s : Status) (old new : Option Holding) → IfTold old (λ m. IsOrFault request now s m) → Told old new (Leaves request now before after s) → Told old new (Recovers request now s)
recovers_told request now before after s old new is left = record {
  told = λ m told. let n = left.told m told in (n.0, n.1, recovers request now before after s m n.0 (is m told) n.2);
  untold = left.untold;
}

-- a stop is told as a fault
pub stops_are_faults : (s : Stop) → IsFault (status_of_stop s)
stops_are_faults stop.File = tt
stops_are_faults stop.Memory = tt
stops_are_faults stop.Sink = tt
