-- How a script ends: by its rounds, and by closing its table.
use Rattle.std.proofs.Common.{◌≡◌, ◌<◌, ℕ, List, [], ◌∷◌, ◌++◌, length, Option, Some, Result, Ok, Err, OnOk, IfErr, refl, sym, ap, subst, ◌∙◌, arith}
use Rattle.std.specs.Prelude.{◌≢◌}
use Rattle.std.proofs.lemmas.List.{take_all}
use Rattle.std.proofs.lemmas.Option.{same_Some}
use Rattle.myi_base.specs.Holding.{Holding, IfTold, Told}
use Rattle.myi_state.specs.State.{TableState}
use Rattle.myi_state.specs.Changes.{Change, replay}
use Rattle.myi_history.specs.History.{Opening, history_in, history}
use Rattle.myi_history.specs.Text.{shell_text}
use Rattle.myi_table.specs.declared.fault.ChangeFault.{ChangeFault}
use Rattle.myi_table.specs.declared.fault.ChangeFault.TheVariants as change
use Rattle.myi_table.specs.Table as table
use Rattle.myi_table.specs.Table.{OpenTable}
use Rattle.myi_table.specs.Closing.{IsClosed}
use Rattle.myi_merge.specs.Merged.{OfEach}
use Rattle.myi_merge.specs.Changing.{EachClosed, KeepEachRows}
use Rattle.myi_shell.specs.declared.target.Target.{Target}
use Rattle.myi_shell.specs.declared.target.Target.TheVariants.{One, Many}
use Rattle.myi_shell.specs.Targets.{IsSameTable, Standing, HoldState, IfHolds, IsSame, IsUntouchedOne, TouchesAt, IsTouchedBy, index_in, IsShut, KeepsRows}
use Rattle.myi_shell.specs.declared.fault.ShellFault.{ShellFault}
use Rattle.myi_shell.specs.declared.fault.ShellFault.TheVariants as fault
use Rattle.myi_shell.specs.Damage.{IsPrintedDamage}
use Rattle.myi_shell.specs.Carrying as one
use Rattle.myi_shell.proofs.TouchLemmas.{touched_same}
use Rattle.myi_shell.proofs.CarryLemmas.{same_table}
use Rattle.myi_shell.proofs.TargetTouches.{each_long, same_index}
use Rattle.myi_shell.specs.Running.{standing, standing_in, HasEnded, IsPrinted, IsPrintedPart, IsClosedBy, AreClosedUnchanged, AreClosedWith, AreClosed, AreClosedAtEnd, StandsBehind, AreClosedBehind, IfSink, told_before, ended}

and_so : (P Q : Type 0) (ran : Result (Unit {0}) ShellFault) → OnOk ran P → Q → OnOk ran (P × Q)
and_so P Q (Ok done) p q = (p, q)
and_so P Q (Err f) p q = tt

never_ok : (P : Type 0) (ran : Result (Unit {0}) ShellFault) → OnOk (told_before ran) P
never_ok P (Err (fault.Damaged at)) = tt
never_ok P (Err fault.File) = tt
never_ok P (Err fault.Sink) = tt
never_ok P (Err fault.Memory) = tt
never_ok P (Ok done) = tt

both : (P Q : Type 0) (ran : Result (Unit {0}) ShellFault) (closed : Result (Unit {0}) ChangeFault) → OnOk ran P → OnOk closed Q → OnOk (ended ran closed) (P × Q)
both P Q ran (Ok done) p q = and_so P Q ran p q
both P Q ran (Err (change.Broken by)) p q = never_ok (P × Q) ran
both P Q ran (Err (change.NoRow at)) p q = never_ok (P × Q) ran
both P Q ran (Err (change.Duplicate key at)) p q = never_ok (P × Q) ran
both P Q ran (Err change.Full) p q = never_ok (P × Q) ran
both P Q ran (Err (change.Damaged at)) p q = never_ok (P × Q) ran
both P Q ran (Err change.File) p q = tt
both P Q ran (Err change.Memory) p q = tt

on_ok : (P Q : Type 0) (result : Result (Unit {0}) ShellFault) → (P → Q) → OnOk result P → OnOk result Q
on_ok P Q (Ok done) f p = f p
on_ok P Q (Err e) f p = tt

told_ok : (P : Type 0) (result mine : Result (Unit {0}) ShellFault) → result ≡ mine → OnOk mine P → OnOk result P
told_ok P result mine is h = subst (λ r. OnOk r P) (sym is) h

pub at_ok : {T E P : Type 0} (result : Result T E) → P → OnOk result P
at_ok (Ok done) p = p
at_ok (Err e) p = tt

always : {T E : Type 0} (result : Result T E) → OnOk result (Unit {0})
always result = at_ok result tt

-- ---- the text

pub text_of_end : (told : Option Holding) (start : Option (List ℕ)) (mid : Option Holding) (printed : Option (List ℕ)) (old t : Target) (o : Standing → Opening) (result ran : Result (Unit {0}) ShellFault) (closed : Result (Unit {0}) ChangeFault) → result ≡ ended ran closed
    → OnOk ran (IfHolds told old (λ m s. HasEnded (o s) (standing start told old) mid t printed)) → OnOk result (IfHolds told old (λ m s. IsPrinted (o s) start printed))
text_of_end told start mid printed old t o result ran closed is done =
    told_ok _ result (ended ran closed) is (on_ok _ _ (ended ran closed) (λ p. λ m held s h. (p.0 m held s h).text) (both _ _ ran closed done (always closed)))

-- ---- the tables

-- what closing the target says
record IsShutBy (mid next : Option Holding) (t : Target) : Type 0 where
  pub closed : IfHolds mid t (λ m s. IfTold next (IsShut t s))
  pub rows : Told mid next (KeepsRows t)

shut_ok : {E : Type 0} (mid next : Option Holding) (t : Target) (closed : Result (Unit {0}) E) → OnOk closed (IfHolds mid t (λ m s. IfTold next (IsShut t s))) → OnOk closed (Told mid next (KeepsRows t)) → OnOk closed (IsShutBy mid next t)
shut_ok mid next t (Ok done) closed rows = record { closed = closed; rows = rows }
shut_ok mid next t (Err f) closed rows = tt

some_changes : (cs : List Change) → cs ≢ [] → 0 < length cs
some_changes [] some = absurd (some refl)
some_changes (c ∷ cs) some = omega arith

rows_kept : (told mid : Option Holding) (name : List ℕ) (m q : Holding) → told ≡ Some m → mid ≡ Some q → Told told mid (table.KeepsRows name) → table.KeepsRows name m q
rows_kept told mid name m q held shown rows =
    let one = rows.told m held in
    subst (λ (z : Holding). table.KeepsRows name m z) (same_Some one.0 q (sym one.1 ∙ shown)) one.2

-- the files of a table that was closed behind these changes
one_closed : (s : TableState) (changes : List Change) (told mid : Option Holding) (t u : OpenTable) (m q n : Holding) → told ≡ Some m → mid ≡ Some q → IsSameTable t u → one.IsTouchedBy told mid t u 0 (length changes)
    → IsClosed u s n → table.KeepsRows u.name q n → IsClosedBy s changes t m n
one_closed s changes told mid t u m q n held shown same touched closed kept = record {
  files = record { last = u; same = same; closed = closed };
  rows = λ none.
      let first = rows_kept told mid t.name m q held shown (touched.none (ap length none)).rows in
      let then = subst (λ (name : List ℕ). table.KeepsRows name q n) same.name kept in
      then ∙ first;
  unmarked = λ none. (touched.none (ap length none)).mark;
  marked = λ some. touched.some (some_changes changes some);
}

-- of one that is untouched
rest_closed : (s : TableState) (told mid : Option Holding) (t u : OpenTable) (m q n : Holding) → told ≡ Some m → mid ≡ Some q → IsSameTable t u → IsUntouchedOne told mid t u → IsClosed u s n → table.KeepsRows u.name q n → IsClosedBy s [] t m n
rest_closed s told mid t u m q n held shown same h closed kept = one_closed s [] told mid t u m q n held shown same (touched_same told mid t u 0 0 h.name refl h.untouched) closed kept

each_closed : (ss : List TableState) (told mid : Option Holding) (ts us : List OpenTable) (m q n : Holding) → told ≡ Some m → mid ≡ Some q → OfEach ts us table.IsSame → OfEach ts us (IsUntouchedOne told mid) → EachClosed us ss n → KeepEachRows us q n
    → AreClosedUnchanged ss ts m n
each_closed [] told mid [] [] m q n held shown same h closed kept = tt
each_closed [] told mid (t ∷ ts) [] m q n held shown same h closed kept = absurd same
each_closed ss told mid [] (u ∷ us) m q n held shown same h closed kept = absurd same
each_closed (s ∷ ss) told mid [] [] m q n held shown same h closed kept = absurd closed
each_closed (s ∷ ss) told mid (t ∷ ts) [] m q n held shown same h closed kept = absurd same
each_closed [] told mid (t ∷ ts) (u ∷ us) m q n held shown same h closed kept = absurd closed
each_closed (s ∷ ss) told mid (t ∷ ts) (u ∷ us) m q n held shown same h closed kept = (
  rest_closed s told mid t u m q n held shown (same_table t u same.0) h.0 closed.0 kept.0,
  each_closed ss told mid ts us m q n held shown same.1 h.1 closed.1 kept.1,
)

-- of a list
list_closed : (front back : List TableState) (s : TableState) (changes : List Change) (told mid : Option Holding) (ts us : List OpenTable) (m q n : Holding) → told ≡ Some m → mid ≡ Some q → OfEach ts us table.IsSame → TouchesAt told mid 0 (length changes) (length front) ts us
    → EachClosed us (front ++ s ∷ back) n → KeepEachRows us q n → AreClosedWith front s back changes ts m n
list_closed [] back s changes told mid [] [] m q n held shown same h closed kept = absurd closed
list_closed (r ∷ front) back s changes told mid [] [] m q n held shown same h closed kept = absurd closed
list_closed front back s changes told mid [] (u ∷ us) m q n held shown same h closed kept = absurd same
list_closed [] back s changes told mid (t ∷ ts) [] m q n held shown same h closed kept = absurd same
list_closed (r ∷ front) back s changes told mid (t ∷ ts) [] m q n held shown same h closed kept = absurd same
list_closed [] back s changes told mid (t ∷ ts) (u ∷ us) m q n held shown same h closed kept = (
  one_closed s changes told mid t u m q n held shown (same_table t u same.0) h.0 closed.0 kept.0,
  each_closed back told mid ts us m q n held shown same.1 h.1 closed.1 kept.1,
)
list_closed (r ∷ front) back s changes told mid (t ∷ ts) (u ∷ us) m q n held shown same h closed kept = (
  rest_closed r told mid t u m q n held shown (same_table t u same.0) h.0 closed.0 kept.0,
  list_closed front back s changes told mid ts us m q n held shown same.1 h.1 closed.1 kept.1,
)

-- the files of a target that was closed behind these changes
closed_by : (o : Opening) (changes : List Change) (told mid next : Option Holding) (old t : Target) (m q n : Holding) → IsSame old t → IsTouchedBy told mid old t 0 (length changes) → told ≡ Some m → mid ≡ Some q → next ≡ Some n
    → HoldState t (standing_in o (replay o.defs o.base changes)) q → IsShut t (standing_in o (replay o.defs o.base changes)) n → Told mid next (KeepsRows t) → AreClosed o changes old m n
closed_by o changes told mid next (One t) (One u) m q n same touched held shown there stands closed rows =
    let kept = rows.told q shown in
    let P : Holding → Type 0 = λ z. table.KeepsRows u.name q z in
    one_closed (replay o.defs o.base changes) changes told mid t u m q n held shown same touched closed (subst P (same_Some kept.0 n (sym kept.1 ∙ there)) kept.2)
closed_by o changes told mid next (One t) (Many u) m q n same touched held shown there stands closed rows = absurd same
closed_by o changes told mid next (Many t) (One u) m q n same touched held shown there stands closed rows = absurd same
closed_by o changes told mid next (Many t) (Many u) m q n same touched held shown there stands closed rows =
    let kept = rows.told q shown in
    let P : Holding → Type 0 = λ z. KeepEachRows u.tables q z in
    let index : index_in t ≡ length o.beside.front = sym (same_index t u same.0 (each_long t.tables u.tables table.IsSame same.1)) ∙ sym stands.1 in
    let Q : ℕ → Type 0 = λ i. TouchesAt told mid 0 (length changes) i t.tables u.tables in
    list_closed o.beside.front o.beside.back (replay o.defs o.base changes) changes told mid t.tables u.tables m q n held shown same.1 (subst Q index touched.2) closed (subst P (same_Some kept.0 n (sym kept.1 ∙ there)) kept.2)

pub table_of_end : (told : Option Holding) (start : Option (List ℕ)) (mid next : Option Holding) (printed : Option (List ℕ)) (old t : Target) (o : Standing → Opening) (result ran : Result (Unit {0}) ShellFault) (closed : Result (Unit {0}) ChangeFault) → result ≡ ended ran closed → IsSame old t
    → OnOk ran (IfHolds told old (λ m s. HasEnded (o s) (standing start told old) mid t printed)) → OnOk closed (IfHolds mid t (λ m s. IfTold next (IsShut t s))) → OnOk closed (Told mid next (KeepsRows t))
    → OnOk result (IfHolds told old (λ m s. IfTold next (AreClosedAtEnd (o s) old m)))
table_of_end told start mid next printed old t o result ran closed is same done shut rows =
    told_ok _ result (ended ran closed) is (on_ok _ _ (ended ran closed) (λ p. λ m held s h.
    let e = p.0 m held s h in
    let k = e.table in
    λ n shown. closed_by (o s) (history (o s)) told mid next old t m k.0 n same e.touched held k.1 shown k.2 (p.1.closed k.0 k.1 (standing_in (o s) (replay (o s).defs (o s).base (history (o s)))) k.2 n shown) p.1.rows) (both _ _ ran closed done (shut_ok mid next t closed shut rows)))

-- ---- a part

pub all_is_part : (o : Opening) (start printed : Option (List ℕ)) → IsPrinted o start printed → IsPrintedPart o start printed
all_is_part o start printed all = record {
  numbers = all.numbers;
  within = all.within;
  text = λ xs told. let text = shell_text o all.numbers in (length text, omega arith, all.text xs told ∙ ap (λ ys. Some (xs ++ ys)) (sym (take_all (length text) text (omega arith))));
}

part_of : (P : Type 0) (ran : Result (Unit {0}) ShellFault) (result : Result (Unit {0}) ShellFault) → OnOk ran P → IfErr ran (λ f. P) → IfErr result (λ f. P)
part_of P (Ok done) (Ok over) p q = tt
part_of P (Ok done) (Err f) p q = p
part_of P (Err e) (Ok over) p q = tt
part_of P (Err e) (Err f) p q = q

pub part_of_end : (told : Option Holding) (start : Option (List ℕ)) (mid : Option Holding) (printed : Option (List ℕ)) (old t : Target) (o : Standing → Opening) (result ran : Result (Unit {0}) ShellFault)
    → OnOk ran (IfHolds told old (λ m s. HasEnded (o s) (standing start told old) mid t printed)) → IfErr ran (λ f. IfHolds told old (λ m s. IsPrintedPart (o s) start printed))
    → IfErr result (λ f. IfHolds told old (λ m s. IsPrintedPart (o s) start printed))
part_of_end told start mid printed old t o result ran done part =
    part_of _ ran result (on_ok _ _ ran (λ p. λ m held s h. all_is_part (o s) start printed (p m held s h).text) done) part

-- ---- the output failed

never_sink : (ran : Result (Unit {0}) ShellFault) → told_before ran ≢ Err fault.Sink
never_sink (Err (fault.Damaged at)) e = cc
never_sink (Err fault.File) e = cc
never_sink (Err fault.Sink) e = cc
never_sink (Err fault.Memory) e = cc
never_sink (Ok done) e = cc

sink_ran : (ran : Result (Unit {0}) ShellFault) (closed : Result (Unit {0}) ChangeFault) → ended ran closed ≡ Err fault.Sink → (ran ≡ Err fault.Sink) × (closed ≡ Ok tt)
sink_ran ran (Ok done) e = (e, refl)
sink_ran ran (Err (change.Broken by)) e = absurd (never_sink ran e)
sink_ran ran (Err (change.NoRow at)) e = absurd (never_sink ran e)
sink_ran ran (Err (change.Duplicate key at)) e = absurd (never_sink ran e)
sink_ran ran (Err change.Full) e = absurd (never_sink ran e)
sink_ran ran (Err (change.Damaged at)) e = absurd (never_sink ran e)
sink_ran ran (Err change.File) e = cc
sink_ran ran (Err change.Memory) e = cc

pub closed_behind : (told : Option Holding) (start : Option (List ℕ)) (mid next : Option Holding) (printed : Option (List ℕ)) (old t : Target) (o : Standing → Opening) (result ran : Result (Unit {0}) ShellFault) (closed : Result (Unit {0}) ChangeFault) → result ≡ ended ran closed → IsSame old t
    → IfSink ran (IfHolds told old (λ m s. StandsBehind (o s) (standing start told old) mid t printed)) → OnOk closed (IfHolds mid t (λ m s. IfTold next (IsShut t s))) → OnOk closed (Told mid next (KeepsRows t))
    → IfSink result (IfHolds told old (λ m s. IfTold next (AreClosedBehind (o s) old start printed m)))
closed_behind told start mid next printed old t o result ran closed is same stands shut rows = λ failed m held s h.
    let both = sink_ran ran closed (sym is ∙ failed) in
    let done = subst (λ r. OnOk r (IsShutBy mid next t)) both.1 (shut_ok mid next t closed shut rows) in
    let k = stands both.0 m held s h in
    λ n shown. record {
      front = k.front;
      last = k.last;
      cut = k.cut;
      closed = closed_by (o s) (history_in (o s) (k.front ++ k.last ∷ [])) told mid next old t m k.table.0 n same k.touched held k.table.1 shown k.table.2 (done.closed k.table.0 k.table.1 _ k.table.2 n shown) done.rows;
    }

-- ---- damage

damage_told : (P : ShellFault → Type 0) (ran : Result (Unit {0}) ShellFault) → P fault.File → P fault.Memory → IfErr ran P → IfErr (told_before ran) P
damage_told P (Err (fault.Damaged at)) file memory h = h
damage_told P (Err fault.File) file memory h = file
damage_told P (Err fault.Sink) file memory h = memory
damage_told P (Err fault.Memory) file memory h = memory
damage_told P (Ok done) file memory h = memory

damage_ended : (P : ShellFault → Type 0) (ran : Result (Unit {0}) ShellFault) (closed : Result (Unit {0}) ChangeFault) → P fault.File → P fault.Memory → IfErr ran P → IfErr (ended ran closed) P
damage_ended P ran (Ok done) file memory h = h
damage_ended P ran (Err (change.Broken by)) file memory h = damage_told P ran file memory h
damage_ended P ran (Err (change.NoRow at)) file memory h = damage_told P ran file memory h
damage_ended P ran (Err (change.Duplicate key at)) file memory h = damage_told P ran file memory h
damage_ended P ran (Err change.Full) file memory h = damage_told P ran file memory h
damage_ended P ran (Err (change.Damaged at)) file memory h = damage_told P ran file memory h
damage_ended P ran (Err change.File) file memory h = file
damage_ended P ran (Err change.Memory) file memory h = memory

pub damage_of_end : (start printed : Option (List ℕ)) (result ran : Result (Unit {0}) ShellFault) (closed : Result (Unit {0}) ChangeFault) → result ≡ ended ran closed → IfErr ran (IsPrintedDamage start printed) → IfErr result (IsPrintedDamage start printed)
damage_of_end start printed result ran closed is h = subst (λ r. IfErr r (IsPrintedDamage start printed)) (sym is) (damage_ended (IsPrintedDamage start printed) ran closed tt tt h)
