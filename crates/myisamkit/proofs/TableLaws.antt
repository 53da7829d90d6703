-- Tables that have their turns one after the other: what is done and what is left give the whole.
use Rattle.std.proofs.Common.{◌≡◌, ◌≤◌, ◌<◌, suc, None, drop, get_or, ℕ, Bool, true, false, List, [], ◌∷◌, ◌++◌, Option, Some, Result, Ok, Err, refl, sym, subst, ap, ◌∙◌, inl, inr, map, append_assoc, append-nil, take, length, ◌+◌}
use Rattle.std.specs.Prelude.{nat_lt, if◌then◌else◌, IfOk}
use Rattle.std.proofs.Math.Seq.{drop-cons}
use Rattle.std.proofs.Common.{add-one}
use Rattle.std.proofs.lemmas.List.{drop_all}
use Rattle.myisamkit.proofs.TurnLaws.{cut_earlier}
use Rattle.myi_base.specs.Holding.{Holding, IfTold, Told}
use Rattle.myi_base.specs.Output.{AppendsPart}
use Rattle.myisamkit.specs.declared.status.Status.{Status}
use Rattle.myisamkit.specs.declared.status.Status.TheVariants as status
use Rattle.myisamkit.specs.declared.status.Stop.{Stop}
use Rattle.myisamkit.specs.declared.status.Stop.TheVariants as stop
use Rattle.myisamkit.specs.declared.options.Options.{Options}
use Rattle.myisamkit.specs.Statuses.{IsFault, number_of, worse}
use Rattle.myisamkit.specs.declared.words.Names.{Names}
use Rattle.myisamkit.specs.Words.{table_name}
use Rattle.myisamkit.specs.Reading.{is_table, names_behind, tables_left}
use Rattle.myisamkit.specs.Turns.{turn, TurnDone, TurnStops}
use Rattle.myisamkit.specs.Runs.{TablesRun, TablesEnd, TablesSayPart, TablesSaid, TablesSaidPart, CutsTablesOff, FailsInTables, TablesStop, TablesLeave}

-- Of these tables, whose run began on the files m0, the last ones are left, and the run stands at this status, these files and
-- this output, to which it added these lines.
pub record Reached (o : Options) (now : ℕ) (all left : List (List ℕ)) (s : Status) (m0 m : Holding) (w0 w : Option (List ℕ)) : Type 0 where
  pub so : List ℕ
  pub said : IfTold w0 (λ b. w ≡ Some (b ++ so))
  pub done : (text : List ℕ) (t : Status) (n : Holding) → TablesRun s o now left m text t n → TablesRun status.Ok o now all m0 (so ++ text) t n
  pub part : (text : List ℕ) → TablesSayPart o now left text m → TablesSayPart o now all (so ++ text) m0
  pub off : (told before after : ℕ) (n : Holding) → CutsTablesOff o now told before after left m n → CutsTablesOff o now told before after all m0 n
  pub unsaid : (n : Holding) → FailsInTables o now left m n → FailsInTables o now all m0 n

-- nothing was done
pub reached_none : (o : Options) (now : ℕ) (all : List (List ℕ)) (m : Holding) (w : Option (List ℕ)) → Reached o now all all status.Ok m m w w
reached_none o now all m w = record {
  so = [];
  said = λ b was. was ∙ ap Some (sym (append-nil b));
  done = λ text t n d. d;
  part = λ text d. d;
  off = λ told before after n d. d;
  unsaid = λ n d. d;
}

-- a table has its turn
pub reached_next : (o : Options) (now : ℕ) (all left : List (List ℕ)) (name : List ℕ) (s table : Status) (m0 m n : Holding) (w0 w v : Option (List ℕ))
    → Reached o now all (name ∷ left) s m0 m w0 w → table ≡ (turn o now name m).status → TurnDone o now name m n
    → ((b : List ℕ) → w ≡ Some b → v ≡ Some (b ++ (turn o now name m).text))
    → Reached o now all left (worse s table) m0 n w0 v
reached_next o now all left name s table m0 m n w0 w v r is turned wrote =
    subst (λ t. Reached o now all left (worse s t) m0 n w0 v) (sym is) record {
      so = r.so ++ (turn o now name m).text;
      said = λ b was. wrote _ (r.said b was) ∙ ap Some (append_assoc b r.so (turn o now name m).text);
      done = λ text t k d. subst (λ x. TablesRun status.Ok o now all m0 x t k) (sym (append_assoc r.so (turn o now name m).text text)) (r.done ((turn o now name m).text ++ text) t k (n, text, turned, refl, d));
      part = λ text d. subst (λ x. TablesSayPart o now all x m0) (sym (append_assoc r.so (turn o now name m).text text)) (r.part ((turn o now name m).text ++ text) (inr (n, text, turned, refl, d)));
      off = λ told before after k d. r.off told before after k (inr (n, turned, d));
      unsaid = λ k d. r.unsaid k (inr (n, turned, d));
    }

-- no table is left

pub none_left : {X : Type 0} (f : X → List ℕ) (words : List X) (i : ℕ) (names : Names) → length words ≤ i → tables_left names (map f (drop i words)) ≡ []
none_left f words i names all = ap (λ ws. tables_left names (map f ws)) (drop_all i words all)

pub run_said : (o : Options) (now : ℕ) (all lefts : List (List ℕ)) (s : Status) (w0 w : Option (List ℕ)) (old here : Option Holding)
    → lefts ≡ [] → IfTold old (λ m0. (m : Holding) × (here ≡ Some m) × Reached o now all lefts s m0 m w0 w)
    → IfTold old (TablesSaid o now all s w0 w)
run_said o now all lefts s w0 w old here none so_far m0 told b was =
    let r = so_far m0 told in
    let e = subst (λ l. Reached o now all l s m0 r.0 w0 w) none r.2 in
    (e.so, (r.0, subst (λ x. TablesRun status.Ok o now all m0 x s r.0) (append-nil e.so) (e.done [] s r.0 (refl, refl, refl))), e.said b was)

pub run_done : (o : Options) (now : ℕ) (all lefts : List (List ℕ)) (s : Status) (w0 w : Option (List ℕ)) (old here : Option Holding)
    → lefts ≡ [] → (old ≡ None → here ≡ None) → IfTold old (λ m0. (m : Holding) × (here ≡ Some m) × Reached o now all lefts s m0 m w0 w)
    → Told old here (TablesEnd o now all s)
run_done o now all lefts s w0 w old here none untold so_far = record {
  told = λ m0 told.
      let r = so_far m0 told in
      let e = subst (λ l. Reached o now all l s m0 r.0 w0 w) none r.2 in
      (r.0, r.1, (e.so ++ [], e.done [] s r.0 (refl, refl, refl)));
  untold = untold;
}

-- what a run that nothing cut off leaves
pub ends_leave : (o : Options) (now before after : ℕ) (names : List (List ℕ)) (s : Status) (m n : Holding) → (IsFault s → ⊥) → TablesEnd o now names s m n → TablesLeave o now before after names s m n
ends_leave o now before after names status.FileFault m n plain run = absurd (plain tt)
ends_leave o now before after names status.Memory m n plain run = absurd (plain tt)
ends_leave o now before after names status.SinkFault m n plain run = absurd (plain tt)
ends_leave o now before after names status.Ok m n plain run = run
ends_leave o now before after names status.Findings m n plain run = run
ends_leave o now before after names status.Usage m n plain run = run
ends_leave o now before after names status.Refused m n plain run = run
ends_leave o now before after names status.Absent m n plain run = run

pub ends_told : (r : Result Status Stop) (o : Options) (now before after : ℕ) (names : List (List ℕ)) (old new : Option Holding)
    → IfOk r (λ s. IsFault s → ⊥) → IfOk r (λ s. Told old new (TablesEnd o now names s)) → IfOk r (λ s. Told old new (TablesLeave o now before after names s))
ends_told (Ok s) o now before after names old new plain ends = record {
  told = λ m told. let n = ends.told m told in (n.0, n.1, ends_leave o now before after names s m n.0 plain n.2);
  untold = ends.untold;
}
ends_told (Err e) o now before after names old new plain ends = tt

-- what holds of two statuses holds of the worse
pub worse_keeps : (P : Status → Type 0) (a b : Status) → P a → P b → P (worse a b)
worse_keeps P a b of_a of_b = by_order (nat_lt (number_of a) (number_of b))
  where
    by_order : (less : Bool) → P (if less then b else a)
    by_order true = of_b
    by_order false = of_a

-- the word at a place of a list, and those behind it
at_word : {X : Type 0} (f : X → List ℕ) (words : List X) (i : ℕ) (item : X) (word : List ℕ) → i < length words → item ≡ get_or words i item → word ≡ f item
    → map f (drop i words) ≡ word ∷ map f (drop (i + 1) words)
at_word f words i item word within is of = ap (map f) (drop-cons words i item within) ∙ (ap (λ x. f x ∷ map f (drop (suc i) words)) (sym is) ∙ (ap (λ x. x ∷ map f (drop (suc i) words)) (sym of) ∙ ap (λ k. word ∷ map f (drop k words)) (sym (add-one i))))

pub left_past : {X : Type 0} (f : X → List ℕ) (words : List X) (i : ℕ) (item : X) (word : List ℕ) (names : Names) → i < length words → item ≡ get_or words i item → word ≡ f item → is_table names word ≡ false
    → tables_left names (map f (drop i words)) ≡ tables_left (names_behind names word) (map f (drop (i + 1) words))
left_past f words i item word names within is of none = ap (tables_left names) (at_word f words i item word within is of) ∙ rw none refl

pub left_here : {X : Type 0} (f : X → List ℕ) (words : List X) (i : ℕ) (item : X) (word name : List ℕ) (names : Names) → i < length words → item ≡ get_or words i item → word ≡ f item → is_table names word ≡ true → name ≡ table_name word
    → tables_left names (map f (drop i words)) ≡ name ∷ tables_left (names_behind names word) (map f (drop (i + 1) words))
left_here f words i item word name names within is of one named = ap (tables_left names) (at_word f words i item word within is of) ∙ (rw one (ap (λ n. n ∷ tables_left (names_behind names word) (map f (drop (i + 1) words))) (sym named)))

-- a stop in a table's turn
pub stops_in : (o : Options) (now : ℕ) (all left : List (List ℕ)) (name : List ℕ) (s : Status) (m0 m n : Holding) (w0 w : Option (List ℕ)) (before at after : ℕ) (stop : Stop)
    → before ≤ at → Reached o now all (name ∷ left) s m0 m w0 w → TurnStops o now at after name stop m n → TablesStop o now before after all stop m0 n
stops_in o now all left name s m0 m n w0 w before at after stop.File later r cut = r.off 1 before after n (inl (cut_earlier o now 1 before at after name m n later cut))
stops_in o now all left name s m0 m n w0 w before at after stop.Memory later r cut = r.off 0 before after n (inl (cut_earlier o now 0 before at after name m n later cut))
stops_in o now all left name s m0 m n w0 w before at after stop.Sink later r cut = r.unsaid n (inl cut)

pub stops_told : (o : Options) (now : ℕ) (all left lefts : List (List ℕ)) (name : List ℕ) (s : Status) (w0 w : Option (List ℕ)) (before at after : ℕ) (stop : Stop) (old here new : Option Holding)
    → before ≤ at → lefts ≡ name ∷ left → (old ≡ None → here ≡ None)
    → IfTold old (λ m0. (m : Holding) × (here ≡ Some m) × Reached o now all lefts s m0 m w0 w)
    → Told here new (TurnStops o now at after name stop)
    → Told old new (TablesStop o now before after all stop)
stops_told o now all left lefts name s w0 w before at after stop old here new later first untold so_far stops = record {
  told = λ m0 told.
      let r = so_far m0 told in
      let n = stops.told r.0 r.1 in
      (n.0, n.1, stops_in o now all left name s m0 r.0 n.0 w0 w before at after stop later (subst (λ l. Reached o now all l s m0 r.0 w0 w) first r.2) n.2);
  untold = λ e. stops.untold (untold e);
}

-- a part of what is said in a table's turn
pub part_told : (o : Options) (now : ℕ) (all left lefts : List (List ℕ)) (name : List ℕ) (s : Status) (w0 w v : Option (List ℕ)) (old here : Option Holding)
    → lefts ≡ name ∷ left
    → IfTold old (λ m0. (m : Holding) × (here ≡ Some m) × Reached o now all lefts s m0 m w0 w)
    → IfTold here (λ m. IfTold w (AppendsPart (turn o now name m).text v))
    → IfTold old (TablesSaidPart o now all w0 v)
part_told o now all left lefts name s w0 w v old here first so_far part m0 told b was =
    let r = so_far m0 told in
    let e = subst (λ l. Reached o now all l s m0 r.0 w0 w) first r.2 in
    let p = part r.0 r.1 (b ++ e.so) (e.said b was) in
    let front = take p.0 (turn o now name r.0).text in
    (e.so ++ front, e.part front (inl (p.0, p.1, refl)), p.2 ∙ ap Some (append_assoc b e.so front))
