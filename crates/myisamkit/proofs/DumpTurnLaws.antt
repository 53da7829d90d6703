-- What a dump comes to, by what is found of its table.
use Rattle.std.proofs.Common.{◌≡◌, ◌⊎◌, ℕ, zero, suc, false, List, [], ◌∷◌, ◌++◌, take, Option, Some, Result, Ok, Err, refl, sym, ap, subst, ◌∙◌, arith, inl, inr}
use Rattle.std.specs.Prelude.{IfOk, OnOk, OnErr}
use Rattle.myi_base.specs.Holding.{Holding, IfTold}
use Rattle.myi_base.specs.Output.{Appends, AppendsPart}
use Rattle.myi_opening.specs.declared.fault.TableFault.{TableFault}
use Rattle.myi_opening.specs.Names.{rows_file, index_file}
use Rattle.myi_opening.specs.Opening as opening
use Rattle.myi_data.specs.Readable.{readable}
use Rattle.myi_pair.specs.declared.finding.Finding.{Finding}
use Rattle.myi_pair.specs.Findings.{findings}
use Rattle.myi_check.specs.Checking.{findings_by, findings_in, Finds, Refuses}
use Rattle.myi_dump.specs.RowLines.{row_lines}
use Rattle.myi_repair.specs.Faults.{repair_fault}
use Rattle.myisamkit.specs.declared.status.Status.{Status}
use Rattle.myisamkit.specs.declared.status.Status.TheVariants as status
use Rattle.myisamkit.specs.declared.status.Stop.{Stop}
use Rattle.myisamkit.specs.Lines.{fault_line, finding_line}
use Rattle.myisamkit.specs.Turns.{Turn, fault_status}
use Rattle.myisamkit.specs.Dumps.{reason, dumped_text, dumped_status, dumped_turn, dump_turn}

ok_same : {A E : Type 0} (x y : A) → ◌≡◌ {A = Result A E} (Ok x) (Ok y) → x ≡ y
ok_same x y same = cc

err_same : {A E : Type 0} (x y : E) → ◌≡◌ {A = Result A E} (Err x) (Err y) → x ≡ y
err_same x y same = cc

-- what is said, and the status
pub record Comes (turn : Turn) (said : List ℕ) (s : Status) : Type 0 where
  pub text : turn.text ≡ said
  pub status : turn.status ≡ s

by_finding : (name : List ℕ) (m : Holding) (r : Result opening.Table TableFault) (f : Finding) (fs : List Finding) → findings_by r ≡ Ok (f ∷ fs) → Comes (dumped_turn name r m) (finding_line name f ++ reason name f) status.Refused
by_finding name m (Err e) f fs is = absurd cc
by_finding name m (Ok t) f fs is =
    let found : findings t.defs t.rows t.index ≡ f ∷ fs = ok_same {E = TableFault} (findings t.defs t.rows t.index) (f ∷ fs) is in
    record { text = ap (dumped_text name t) found; status = ap dumped_status found }

-- something was found
pub found_turn : (name : List ℕ) (m : Holding) (f : Finding) (fs : List Finding) → findings_in name m ≡ Ok (f ∷ fs) → Comes (dump_turn name m) (finding_line name f ++ reason name f) status.Refused
unfolding findings_in
found_turn name m f fs is = by_finding name m (opening.table_in (index_file name) (rows_file name) m) f fs is

by_fault : (name : List ℕ) (m : Holding) (r : Result opening.Table TableFault) (e : TableFault) → r ≡ Err e → Comes (dumped_turn name r m) (fault_line name (repair_fault e)) (fault_status (repair_fault e))
by_fault name m r e is = record { text = ap (λ q. (dumped_turn name q m).text) is; status = ap (λ q. (dumped_turn name q m).status) is }

fault_of : (r : Result opening.Table TableFault) (e : TableFault) → findings_by r ≡ Err e → r ≡ Err e
fault_of (Err f) e is = ap Err (err_same {A = List Finding} f e is)
fault_of (Ok t) e is = absurd cc

-- the table was not opened
pub fault_turn : (name : List ℕ) (m : Holding) (e : TableFault) → findings_in name m ≡ Err e → Comes (dump_turn name m) (fault_line name (repair_fault e)) (fault_status (repair_fault e))
unfolding findings_in
fault_turn name m e is = by_fault name m (opening.table_in (index_file name) (rows_file name) m) e (fault_of (opening.table_in (index_file name) (rows_file name) m) e is)

pub fault_turn_opened : (name : List ℕ) (m : Holding) (e : TableFault) → opening.table_in (index_file name) (rows_file name) m ≡ Err e → Comes (dump_turn name m) (fault_line name (repair_fault e)) (fault_status (repair_fault e))
fault_turn_opened name m e is = by_fault name m (opening.table_in (index_file name) (rows_file name) m) e is

-- nothing was found in a table that was opened
pub sound_turn : (name : List ℕ) (m : Holding) (t : opening.Table) → findings_in name m ≡ Ok [] → opening.table_in (index_file name) (rows_file name) m ≡ Ok t → Comes (dump_turn name m) (row_lines t.defs (readable t.defs false t.rows)) status.Ok
unfolding findings_in
sound_turn name m t none is =
    let found : findings t.defs t.rows t.index ≡ [] = ok_same {E = TableFault} (findings t.defs t.rows t.index) [] (sym (ap findings_by is) ∙ none) in
    record {
      text = ap (λ q. (dumped_turn name q m).text) is ∙ ap (dumped_text name t) found;
      status = ap (λ q. (dumped_turn name q m).status) is ∙ ap dumped_status found;
    }

-- ---- a fault

-- the turn is that of a table that is not opened
abbrev pub IsFaultTurn : List ℕ → TableFault → Holding → Type 0
IsFaultTurn name e m = Comes (dump_turn name m) (fault_line name (repair_fault e)) (fault_status (repair_fault e))

pub by_check : (name : List ℕ) (e : TableFault) (old : Option Holding) → opening.IsCutOff e ⊎ IfTold old (Refuses name e) → opening.IsCutOff e ⊎ IfTold old (IsFaultTurn name e)
by_check name e old (inl cut) = inl cut
by_check name e old (inr refused) = inr (λ m told. fault_turn name m e (refused m told))

pub by_opening : (name i r : List ℕ) (e : TableFault) (old : Option Holding) → i ≡ index_file name → r ≡ rows_file name → opening.IsCutOff e ⊎ IfTold old (opening.HasNoTable i r e) → opening.IsCutOff e ⊎ IfTold old (IsFaultTurn name e)
by_opening name i r e old of_index of_rows (inl cut) = inl cut
by_opening name i r e old of_index of_rows (inr none) = inr (λ m told. fault_turn_opened name m e (subst (λ n. opening.table_in n (rows_file name) m ≡ Err e) of_index (subst (λ n. opening.table_in i n m ≡ Err e) of_rows (none m told))))

pub fault_status_told : (q : Result Status Stop) (name : List ℕ) (e : TableFault) (old : Option Holding) → opening.IsCutOff e ⊎ IfTold old (IsFaultTurn name e) → IfOk q (λ s. s ≡ fault_status (repair_fault e)) → IfOk q (λ s. opening.IsCutOff e → ⊥)
    → IfOk q (λ s. IfTold old (λ m. s ≡ (dump_turn name m).status))
fault_status_told (Err k) name e old why is never = tt
fault_status_told (Ok s) name e old (inl cut) is never = absurd (never cut)
fault_status_told (Ok s) name e old (inr turn) is never = λ m told. is ∙ sym (turn m told).status

pub fault_said_told : (q : Result Status Stop) (name : List ℕ) (e : TableFault) (old : Option Holding) (w v : Option (List ℕ)) → opening.IsCutOff e ⊎ IfTold old (IsFaultTurn name e) → OnOk q (IfTold w (Appends (fault_line name (repair_fault e)) v)) → IfOk q (λ s. opening.IsCutOff e → ⊥)
    → OnOk q (IfTold old (λ m. IfTold w (Appends (dump_turn name m).text v)))
fault_said_told (Err k) name e old w v why said never = tt
fault_said_told (Ok s) name e old w v (inl cut) said never = absurd (never cut)
fault_said_told (Ok s) name e old w v (inr turn) said never = λ m told b was. subst (λ l. Appends l v b) (sym (turn m told).text) (said b was)

take_none : (n : ℕ) → ◌≡◌ {A = List ℕ} (take n []) []
take_none zero = refl
take_none (suc n) = refl

-- a part of nothing is a part of all
none_part : (text : List ℕ) (v : Option (List ℕ)) (b : List ℕ) → AppendsPart [] v b → AppendsPart text v b
none_part text v b part = (0, omega arith, part.2 ∙ ap (λ l. Some (b ++ l)) (take_none part.0))

pub fault_part_told : (q : Result Status Stop) (name : List ℕ) (e : TableFault) (old : Option Holding) (w v : Option (List ℕ)) → opening.IsCutOff e ⊎ IfTold old (IsFaultTurn name e) → OnErr q (IfTold w (AppendsPart (fault_line name (repair_fault e)) v))
    → OnErr q (IfTold old (λ m. IfTold w (AppendsPart (dump_turn name m).text v)))
fault_part_told (Ok s) name e old w v why part = tt
fault_part_told (Err k) name e old w v (inl (inl file)) part = λ m told b was. none_part (dump_turn name m).text v b (subst (λ f. AppendsPart (fault_line name (repair_fault f)) v b) file (part b was))
fault_part_told (Err k) name e old w v (inl (inr memory)) part = λ m told b was. none_part (dump_turn name m).text v b (subst (λ f. AppendsPart (fault_line name (repair_fault f)) v b) memory (part b was))
fault_part_told (Err k) name e old w v (inr turn) part = λ m told b was. subst (λ l. AppendsPart l v b) (sym (turn m told).text) (part b was)

-- ---- something was found

pub found_status_told : (q : Result Status Stop) (name : List ℕ) (f : Finding) (fs found : List Finding) (old : Option Holding) → found ≡ f ∷ fs → IfTold old (Finds name found) → IfOk q (λ s. s ≡ status.Refused)
    → IfOk q (λ s. IfTold old (λ m. s ≡ (dump_turn name m).status))
found_status_told (Err k) name f fs found old is finds refused = tt
found_status_told (Ok s) name f fs found old is finds refused = λ m told. refused ∙ sym (found_turn name m f fs (finds m told ∙ ap Ok is)).status

pub found_said_told : (q : Result Status Stop) (name : List ℕ) (f : Finding) (fs found : List Finding) (old : Option Holding) (w v : Option (List ℕ)) → found ≡ f ∷ fs → IfTold old (Finds name found) → OnOk q (IfTold w (Appends (finding_line name f ++ reason name f) v))
    → OnOk q (IfTold old (λ m. IfTold w (Appends (dump_turn name m).text v)))
found_said_told (Err k) name f fs found old w v is finds said = tt
found_said_told (Ok s) name f fs found old w v is finds said = λ m told b was. subst (λ l. Appends l v b) (sym (found_turn name m f fs (finds m told ∙ ap Ok is)).text) (said b was)

pub found_part_told : (q : Result Status Stop) (name : List ℕ) (f : Finding) (fs found : List Finding) (old : Option Holding) (w v : Option (List ℕ)) → found ≡ f ∷ fs → IfTold old (Finds name found) → OnErr q (IfTold w (AppendsPart (finding_line name f ++ reason name f) v))
    → OnErr q (IfTold old (λ m. IfTold w (AppendsPart (dump_turn name m).text v)))
found_part_told (Ok s) name f fs found old w v is finds part = tt
found_part_told (Err k) name f fs found old w v is finds part = λ m told b was. subst (λ l. AppendsPart l v b) (sym (found_turn name m f fs (finds m told ∙ ap Ok is)).text) (part b was)
