-- What a run of a script said, and the files of its tables when they are closed.
use Rattle.std.proofs.Common.{◌≡◌, ℕ, Bool, true, false, List, [], ◌∷◌, ◌++◌, Option, Some, None, refl, sym, ap, subst, ◌∙◌, inl, inr}
use Rattle.std.specs.Prelude.{◌≢◌, if◌then◌else◌}
use Rattle.std.specs.List.{AllByRecursion}
use Rattle.std.proofs.lemmas.Option.{same_Some}
use Rattle.myi_base.specs.Holding.{Holding, IfTold, Told, HoldsBytes, bytes_of}
use Rattle.myi_defs.specs.declared.types.Defs.{Defs}
use Rattle.myi_defs.specs.Sound.{IsSound}
use Rattle.myi_defs.specs.Elsewhere.{AgreeOutsideState}
use Rattle.myi_defs.proofs.CallerLemmas.{sound, are_defs}
use Rattle.myi_header.specs.declared.state.State.{State}
use Rattle.myi_header.specs.StateOf.{state_of, has_mark}
use Rattle.myi_opening.specs.Names.{rows_file, index_file}
use Rattle.myi_pair.specs.Clean.{IsClean}
use Rattle.myi_state.specs.State.{TableState}
use Rattle.myi_state.specs.Changes.{Change, replay}
use Rattle.myi_tablestate.specs.Standing.{StandForTable}
use Rattle.myi_keyedrows.specs.Files.{defs_with}
use Rattle.myi_script.specs.declared.types.Line.{Line}
use Rattle.myi_history.specs.History.{Beside, Opening, history_in, history}
use Rattle.myi_table.specs.Table.{OpenTable, defs_in, KeepsRows}
use Rattle.myi_table.specs.Table as table
use Rattle.myi_table.specs.Closing.{changed_bits}
use Rattle.myi_merge.specs.Changing.{IsFileOfOne, KeepsOtherFiles}
use Rattle.myi_shell.specs.declared.target.Target.{Target}
use Rattle.myi_shell.specs.declared.target.Target.TheVariants.{One, Many}
use Rattle.myi_shell.specs.Targets.{script_on}
use Rattle.myi_shell.specs.Targets as on
use Rattle.myi_shell.specs.Idle.{KeepsIdle, names_of, LeavesIdle}
use Rattle.myi_shell.specs.Running.{opening_on, IsPrinted, IsPrintedPart, IsClosedBy, AreClosedUnchanged, AreClosedWith, AreClosed, AreClosedAtEnd, AreClosedBehind}
use Rattle.myisamkit.specs.declared.status.Status.TheVariants as status
use Rattle.myisamkit.specs.Shells.{tables_by, tables_in, Member, Members, states_of, ShellSaid, ShellSaidPart, bits_behind, header_in, KeepsRest, IsHeaderBehind, StandsBehind, AreLeft, KeepsOthers, ShellDone, ShellCutOff, ShellFails}
use Rattle.myisamkit.specs.ShellSteps.{IsFresh, IsTarget, IsReady}
use Rattle.myisamkit.proofs.ShellLaws.{Stands, Meets, MeetEach, standing_of, Standing, stands, begins_so, opened_names, list_names}

abbrev pub AreCleanPairs : Type 0
AreCleanPairs = (d : Defs) (s : TableState) (b x : List ℕ) → IsSound d → StandForTable d s b x → IsClean b x

-- ---- what was said

pub run_said : Stands → (setting : ℕ) (name script : List ℕ) (list : Bool) (t : Target) (ls : List Line) (told : Option Holding) (old new : Option (List ℕ)) → IfTold told HoldsBytes → IsFresh list t → IfTold told (IsReady name script t ls)
    → on.IfHolds told t (λ m s. IsPrinted (opening_on (on.defs_in t) (script_on t ls) setting s) old new) → IfTold told (ShellSaid setting name script status.Ok old new)
run_said law setting name script list t ls told old new bytes fresh ready printed m held =
    let r = ready m held in
    let s = stands law name script list t ls m (bytes m held) fresh r in
    let p = printed m held (standing_of s.members) s.holds in
    (_, inr record { begin = opening_on (on.defs_in t) (script_on t ls) setting (standing_of s.members); begins = begins_so setting name script t ls m r s; numbers = p.numbers; within = p.within; says = refl; ends = refl }, p.text)

pub run_part : Stands → (setting : ℕ) (name script : List ℕ) (list : Bool) (t : Target) (ls : List Line) (told : Option Holding) (old new : Option (List ℕ)) → IfTold told HoldsBytes → IsFresh list t → IfTold told (IsReady name script t ls)
    → on.IfHolds told t (λ m s. IsPrintedPart (opening_on (on.defs_in t) (script_on t ls) setting s) old new) → IfTold told (ShellSaidPart setting name script old new)
run_part law setting name script list t ls told old new bytes fresh ready printed m held =
    let r = ready m held in
    let s = stands law name script list t ls m (bytes m held) fresh r in
    let p = printed m held (standing_of s.members) s.holds in
    inr (_, status.Ok, inr record { begin = opening_on (on.defs_in t) (script_on t ls) setting (standing_of s.members); begins = begins_so setting name script t ls m r s; numbers = p.numbers; within = p.within; says = refl; ends = refl }, p.text)

-- ---- a table that was closed

bits_by : (changes : List Change) (b : Bool) (bits : ℕ) → (changes ≡ [] → b ≡ false) → (changes ≢ [] → b ≡ true) → (if b then changed_bits bits else bits) ≡ bits_behind changes bits
bits_by [] b bits none some = ap (λ q. if q then changed_bits bits else bits) (none refl)
bits_by (c ∷ cs) b bits none some = ap (λ q. if q then changed_bits bits else bits) (some (λ e. cc))

-- the header of a table that was closed behind these changes
header_so : (d : Defs) (was : List ℕ) (s : TableState) (changes : List Change) (t : OpenTable) (m n : Holding) → d ≡ defs_in t → t.header ≡ state_of d was → t.changed ≡ false → (closed : IsClosedBy s changes t m n)
    → IsHeaderBehind d was changes (header_in d closed.files.closed.index)
header_so d was s changes t m n defs header unchanged closed =
    let last = closed.files.last in
    let index = closed.files.closed.index in
    let of_defs : defs_in last ≡ d = closed.files.same.defs ∙ sym defs in
    let has = closed.files.closed.header in
    let read : last.header ≡ state_of d was = closed.files.same.header ∙ header in
    let bits_now : (if last.changed then changed_bits last.header.changed else last.header.changed) ≡ bits_behind changes last.header.changed =
    bits_by changes last.changed last.header.changed (λ none. closed.unmarked none ∙ unchanged) closed.marked in
    record {
      elsewhere = subst (λ (e : Defs). AgreeOutsideState e.raw (header_in e index)) of_defs has.elsewhere;
      mark = subst (λ (e : Defs). has_mark e (header_in e index) ≡ true) of_defs has.mark;
      bits = subst (λ (e : Defs). (state_of e (header_in e index)).changed ≡ bits_behind changes (state_of d was).changed) of_defs
          (ap (λ (z : State). z.changed) has.state ∙ bits_now ∙ ap (λ (z : State). bits_behind changes z.changed) read);
      kept = subst (λ (e : Defs). KeepsRest (state_of d was) (state_of e (header_in e index))) of_defs (record {
        open_count = ap (λ (z : State). z.open_count) has.state ∙ ap (λ (z : State). z.open_count) read;
        sortkey = ap (λ (z : State). z.sortkey) has.state ∙ ap (λ (z : State). z.sortkey) read;
        auto_increment = ap (λ (z : State). z.auto_increment) has.state ∙ ap (λ (z : State). z.auto_increment) read;
        key_map = ap (λ (z : State). z.key_map) has.state ∙ ap (λ (z : State). z.key_map) read;
        recover_time = ap (λ (z : State). z.recover_time) has.state ∙ ap (λ (z : State). z.recover_time) read;
        rest = ap (λ (z : State). z.rest) has.state ∙ ap (λ (z : State). z.rest) read;
      });
    }

closed_one : AreCleanPairs → (k : Member) (changes : List Change) (t : OpenTable) (m n : Holding) → Meets m k t → IsClosedBy (replay k.table.defs k.state changes) changes t m n → StandsBehind m n changes k
closed_one law k changes t m n meets closed =
    let last = closed.files.last in
    let d = k.table.defs in
    let at : last.name ≡ k.name = closed.files.same.name ∙ meets.named in
    let of_defs : defs_in last ≡ d = closed.files.same.defs ∙ meets.defs in
    let index = closed.files.closed.index in
    let s = replay d k.state changes in
    let there : n (index_file k.name) ≡ Some index = ap (λ (q : List ℕ). n (index_file q)) (sym at) ∙ closed.files.closed.there in
    let stand : StandForTable (defs_with d index) s (bytes_of (rows_file k.name) n) index = subst (λ (e : Defs). StandForTable (defs_with e index) s (bytes_of (rows_file k.name) n) index) of_defs (subst (λ (q : List ℕ). StandForTable (defs_with (defs_in last) index) s (bytes_of (rows_file q) n) index) at closed.files.closed.stand) in
    record {
      index = index;
      there = there;
      stand = stand;
      clean = law _ s _ index (sound _ (are_defs index _ stand.read)) stand;
      header = header_so d k.table.index s changes t m n (sym meets.defs) meets.header meets.unchanged closed;
      rows = λ none. subst (λ (q : List ℕ). KeepsRows q m n) meets.named (closed.rows none);
    }

-- ---- all tables

back_left : AreCleanPairs → (ks : List Member) (ts : List OpenTable) (m n : Holding) → MeetEach m ks ts → AreClosedUnchanged (states_of ks) ts m n → AllByRecursion (StandsBehind m n []) ks
back_left law [] ts m n meets closed = tt
back_left law (k ∷ ks) [] m n meets closed = absurd meets
back_left law (k ∷ ks) (t ∷ ts) m n meets closed = (closed_one law k [] t m n meets.0 closed.0, back_left law ks ts m n meets.1 closed.1)

all_left : AreCleanPairs → (front : List Member) (k : Member) (back : List Member) (changes : List Change) (ts : List OpenTable) (m n : Holding) → MeetEach m (front ++ k ∷ back) ts
    → AreClosedWith (states_of front) (replay k.table.defs k.state changes) (states_of back) changes ts m n → AreLeft (record { front = front; taker = k; back = back }) changes m n
all_left law [] k back changes [] m n meets closed = absurd meets
all_left law [] k back changes (t ∷ ts) m n meets closed = record { taker = closed_one law k changes t m n meets.0 closed.0; front = tt; back = back_left law back ts m n meets.1 closed.1 }
all_left law (j ∷ front) k back changes [] m n meets closed = absurd meets
all_left law (j ∷ front) k back changes (t ∷ ts) m n meets closed =
    let more = all_left law front k back changes ts m n meets.1 closed.1 in
    record { taker = more.taker; front = (closed_one law j [] t m n meets.0 closed.0, more.front); back = more.back }

left_so : AreCleanPairs → (name : List ℕ) (t : Target) (m n : Holding) (s : Standing name t m) (o : Opening) (changes : List Change) → o.defs ≡ on.defs_in t → o.base ≡ s.members.taker.state → o.beside ≡ (standing_of s.members).beside → AreClosed o changes t m n → AreLeft s.members changes m n
left_so law name (One t) m n s o changes defs base beside closed = one s.members.front s.members.taker s.members.back s.meets refl
  where
    one : (front : List Member) (k : Member) (back : List Member) → MeetEach m (front ++ k ∷ back) (t ∷ []) → s.members ≡ record { front = front; taker = k; back = back } → AreLeft s.members changes m n
    one [] k [] meets is = subst (λ (ks : Members). AreLeft ks changes m n) (sym is) (record {
      taker = closed_one law k changes t m n meets.0 (subst (λ (d : Defs). IsClosedBy (replay d k.state changes) changes t m n) (defs ∙ meets.0.defs) (subst (λ (z : TableState). IsClosedBy (replay o.defs z changes) changes t m n) (base ∙ ap (λ (ks : Members). ks.taker.state) is) closed));
      front = tt;
      back = tt;
    })
    one [] k (b ∷ back) meets is = absurd meets.1
    one (j ∷ []) k back meets is = absurd meets.1
    one (j ∷ i ∷ front) k back meets is = absurd meets.1
left_so law name (Many g) m n s o changes defs base beside closed =
    let ks = s.members in
    let of_beside : AreClosedWith (states_of ks.front) (replay o.defs o.base changes) (states_of ks.back) changes g.tables m n = subst (λ (b : Beside). AreClosedWith b.front (replay o.defs o.base changes) b.back changes g.tables m n) beside closed in
    let of_state : AreClosedWith (states_of ks.front) (replay o.defs ks.taker.state changes) (states_of ks.back) changes g.tables m n = subst (λ (z : TableState). AreClosedWith (states_of ks.front) (replay o.defs z changes) (states_of ks.back) changes g.tables m n) base of_beside in
    all_left law ks.front ks.taker ks.back changes g.tables m n s.meets (subst (λ (d : Defs). AreClosedWith (states_of ks.front) (replay d ks.taker.state changes) (states_of ks.back) changes g.tables m n) (defs ∙ s.defs) of_state)

-- ---- other files

table_others : (name : List ℕ) (m n : Holding) → tables_in name m ≡ name ∷ [] → table.KeepsOthers name m n → KeepsOthers name m n
table_others name m n same keeps q none =
    let off : IsFileOfOne (name ∷ []) q → ⊥ = subst (λ (ns : List (List ℕ)). IsFileOfOne ns q → ⊥) same none in
    keeps q (λ e. off (inl (inl e))) (λ e. off (inl (inr e)))

list_others : (name : List ℕ) (ts : List OpenTable) (m n : Holding) → tables_in name m ≡ opened_names ts → KeepsOtherFiles ts m n → KeepsOthers name m n
list_others name ts m n same keeps q none = keeps q (subst (λ (ns : List (List ℕ)). IsFileOfOne ns q → ⊥) same none)

-- files of other names than those of the tables stay
pub own_told : (name : List ℕ) (t : Target) (told next : Option Holding) → IfTold told (IsTarget name t) → on.ChangesItsOwn told next t → Told told next (KeepsOthers name)
own_told name (One t) told next target own = record {
  told = λ m held. let n = own.told m held in let x = target m held in (n.0, n.1, table_others name m n.0 (ap (tables_by name) x.0) (subst (λ (q : List ℕ). table.KeepsOthers q m n.0) x.2 n.2));
  untold = own.untold;
}
own_told name (Many g) told next target own = record {
  told = λ m held. let n = own.told m held in let x = target m held in (n.0, n.1, list_others name g.tables m n.0 (list_names name x.members g.method m x.list ∙ sym x.names) n.2);
  untold = own.untold;
}

-- ---- what was left

pub run_done : Stands → AreCleanPairs → (setting : ℕ) (name script : List ℕ) (list : Bool) (t : Target) (ls : List Line) (told next : Option Holding) → IfTold told HoldsBytes → IsFresh list t → IfTold told (IsReady name script t ls)
    → on.IfHolds told t (λ m s. IfTold next (AreClosedAtEnd (opening_on (on.defs_in t) (script_on t ls) setting s) t m)) → on.ChangesItsOwn told next t → Told told next (ShellDone setting name script)
unfolding begins_so
run_done law pairs setting name script list t ls told next bytes fresh ready closed own =
    let others = own_told name t told next (λ m held. (ready m held).loaded) own in
    record {
      told = λ m held.
          let r = ready m held in
          let s = stands law name script list t ls m (bytes m held) fresh r in
          let n = others.told m held in
          let o = opening_on (on.defs_in t) (script_on t ls) setting (standing_of s.members) in
          let c = closed m held (standing_of s.members) s.holds n.0 n.1 in (
            n.0,
            n.1,
            record { begin = o; begins = begins_so setting name script t ls m r s; left = left_so pairs name t m n.0 s o (history o) refl refl refl c; others = n.2 },
          );
      untold = others.untold;
    }

-- the output failed at the lines of a round
pub run_fails : Stands → AreCleanPairs → (setting : ℕ) (name script : List ℕ) (list : Bool) (t : Target) (ls : List Line) (told next : Option Holding) (old new : Option (List ℕ)) → IfTold told HoldsBytes → IsFresh list t → IfTold told (IsReady name script t ls)
    → on.IfHolds told t (λ m s. IfTold next (AreClosedBehind (opening_on (on.defs_in t) (script_on t ls) setting s) t old new m)) → IfTold told (λ m. IfTold next (ShellFails setting name script old new m))
unfolding begins_so
run_fails law pairs setting name script list t ls told next old new bytes fresh ready closed m held n after =
    let r = ready m held in
    let s = stands law name script list t ls m (bytes m held) fresh r in
    let o = opening_on (on.defs_in t) (script_on t ls) setting (standing_of s.members) in
    let c = closed m held (standing_of s.members) s.holds n after in
    inr record {
      begin = o;
      begins = begins_so setting name script t ls m r s;
      front = c.front;
      last = c.last;
      cut = c.cut;
      left = left_so pairs name t m n s o (history_in o (c.front ++ c.last ∷ [])) refl refl refl c.closed;
    }

-- the names of the tables
named_so : (name : List ℕ) (t : Target) (m : Holding) → IsTarget name t m → tables_in name m ≡ names_of t
named_so name (One t) m target = ap (tables_by name) target.0 ∙ ap (λ (q : List ℕ). q ∷ []) (sym target.2)
named_so name (Many g) m target = list_names name target.members g.method m target.list ∙ sym target.names

-- the script was run and cut off
pub ran_off : Stands → (setting : ℕ) (name script : List ℕ) (list : Bool) (t : Target) (ls : List Line) (told next : Option Holding) → IfTold told HoldsBytes → IsFresh list t → IfTold told (IsReady name script t ls) → on.ChangesItsOwn told next t → Told told next (LeavesIdle t ls)
    → Told told next (ShellCutOff setting name script)
unfolding begins_so
ran_off law setting name script list t ls told next bytes fresh ready own idle =
    let others = own_told name t told next (λ m held. (ready m held).loaded) own in
    record {
      told = λ m held.
          let r = ready m held in
          let s = stands law name script list t ls m (bytes m held) fresh r in
          let n = others.told m held in
          let k = idle.told m held in
          let rows : LeavesIdle t ls m n.0 = subst (λ (z : Holding). LeavesIdle t ls m z) (same_Some k.0 n.0 (sym k.1 ∙ n.1)) k.2 in (
            n.0,
            n.1,
            inr record {
              begin = opening_on (on.defs_in t) (script_on t ls) setting (standing_of s.members);
              begins = begins_so setting name script t ls m r s;
              others = n.2;
              idle = subst (λ (ns : List (List ℕ)). KeepsIdle (script_on t ls) ns m n.0) (sym (named_so name t m r.loaded)) rows;
            },
          );
      untold = others.untold;
    }

-- files that tell nothing
pub none_told : (told next : Option Holding) (P : Holding → Holding → Type 0) → IfTold told (λ m. ⊥) → (told ≡ None → next ≡ None) → Told told next P
none_told told next P none untold = record { told = λ m held. absurd (none m held); untold = untold }
