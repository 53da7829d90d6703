-- The tables of a script with which nothing is wrong: what stands before it, and how it begins.
use Rattle.std.proofs.Common.{◌≡◌, ◌<◌, ◌+◌, ◌-◌, arith, ℕ, zero, suc, Bool, true, false, List, [], ◌∷◌, ◌++◌, length, map, Option, Some, None, Result, Ok, Err, refl, sym, ap, subst, ◌∙◌, inl, inr}
use Rattle.std.specs.Prelude.{unwrap_or, slice_get}
use Rattle.std.specs.List.{AllByRecursion}
use Rattle.myi_base.specs.Numbers.{AreBytes}
use Rattle.myi_base.specs.Holding.{Holding, IfTold, HoldsBytes}
use Rattle.myi_defs.specs.declared.types.Defs.{Defs}
use Rattle.myi_defs.specs.declared.types.DefFault.{DefFault}
use Rattle.myi_header.specs.StateOf.{state_of, has_mark}
use Rattle.myi_opening.specs.declared.fault.TableFault.{TableFault}
use Rattle.myi_opening.specs.Names.{rows_file, index_file}
use Rattle.myi_opening.specs.Opening as opening
use Rattle.myi_opening.proofs.CallerLemmas.{table_rows, table_read}
use Rattle.myi_pair.specs.declared.finding.Finding.{Finding}
use Rattle.myi_pair.specs.Clean.{IsClean}
use Rattle.myi_pair.specs.Findings.{findings}
use Rattle.myi_pair.proofs.CallerLemmas.{clean_where_none}
use Rattle.myi_check.specs.Checking.{findings_by, findings_in}
use Rattle.myi_state.specs.State.{TableState}
use Rattle.myi_tablestate.specs.Standing.{StandForTable}
use Rattle.myi_script.specs.declared.types.Line.{Line}
use Rattle.myi_script.specs.Script.{IsScript}
use Rattle.myi_mergelist.specs.declared.list.InsertMethod.{InsertMethod}
use Rattle.myi_mergelist.specs.declared.list.InsertMethod.TheVariants.{First, Last}
use Rattle.myi_history.specs.History.{is_list}
use Rattle.myi_table.specs.declared.fault.LoadFault.{LoadFault}
use Rattle.myi_table.specs.Table.{OpenTable, HoldState}
use Rattle.myi_table.specs.Table as table
use Rattle.myi_table.specs.Loading.{IsLoaded, marked_by, loaded_by}
use Rattle.myi_table.specs.Loading as loading
use Rattle.myi_merge.specs.Loading.{list_file, EachLoaded, IsListIn, IsLoadedMerge}
use Rattle.myi_merge.specs.Merged.{OpenMerge, IsMerge, IsLike, HoldEach, AreKept}
use Rattle.myi_merge.specs.Merged as merged
use Rattle.myi_merge.specs.Changing.{target, target_by}
use Rattle.myi_shell.specs.declared.target.Target.{Target}
use Rattle.myi_shell.specs.declared.target.Target.TheVariants.{One, Many}
use Rattle.myi_shell.specs.Targets.{index_by, index_in, taking_by, taking, defs_at, script_on}
use Rattle.myi_shell.specs.Targets as on
use Rattle.myi_shell.specs.Running.{opening_on}
use Rattle.myisamkit.specs.Shells.{tables_by, tables_in, place_of, IsOn, or_else, first_said, wrong_in, said_of, said_by, text_by, text_in, Member, IsMember, AreAlike, Members, all_of, states_of, first_defs, AreMembers, Begins}
use Rattle.myisamkit.specs.ShellSteps.{lines_defs, IsFresh, IsTarget, IsReady}

ok_same : {A E : Type 0} (x y : A) → ◌≡◌ {A = Result A E} (Ok x) (Ok y) → x ≡ y
ok_same x y same = cc

-- ---- nothing is wrong with tables whose script is read

none_of : (script : List ℕ) (absent wrong file : Option (List ℕ)) (text : List ℕ) → text_by script absent wrong file ≡ Ok text → wrong ≡ None
none_of script (Some a) wrong file text is = absurd cc
none_of script None wrong None text is = absurd cc
none_of script None (Some w) (Some x) text is = absurd cc
none_of script None None (Some x) text is = refl

or_none : (a b : Option (List ℕ)) → or_else a b ≡ None → (a ≡ None) × (b ≡ None)
or_none None b is = (refl, is)
or_none (Some x) b is = absurd cc

each_none : (say : List ℕ → Option (List ℕ)) (names : List (List ℕ)) → first_said say names ≡ None → AllByRecursion (λ name. say name ≡ None) names
each_none say [] is = tt
each_none say (name ∷ names) is =
    let both = or_none (say name) (first_said say names) is in
    (both.0, each_none say names both.1)

pub none_wrong : (name script : List ℕ) (m : Holding) (text : List ℕ) → text_in name script m ≡ Ok text → AllByRecursion (λ q. wrong_in m q ≡ None) (tables_in name m)
unfolding text_in
none_wrong name script m text is = each_none (wrong_in m) (tables_in name m) (none_of script _ _ (m script) text is)

none_found : (name : List ℕ) (found : List Finding) → said_of name (Ok found) ≡ None → found ≡ []
none_found name [] is = refl
none_found name (f ∷ fs) is = absurd cc

by_table : (name : List ℕ) (r : Result opening.Table TableFault) (t : opening.Table) → said_by name (findings_by r) ≡ None → r ≡ Ok t → findings t.defs t.rows t.index ≡ []
by_table name r t said is = none_found name (findings t.defs t.rows t.index) (subst (λ q. said_by name (findings_by q) ≡ None) is said)

none_in : (name : List ℕ) (m : Holding) (t : opening.Table) → wrong_in m name ≡ None → opening.table_in (index_file name) (rows_file name) m ≡ Ok t → findings t.defs t.rows t.index ≡ []
unfolding findings_in
none_in name m t said is = by_table name (opening.table_in (index_file name) (rows_file name) m) t said is

by_mark : (b : Bool) (t u : opening.Table) → marked_by b t ≡ Ok u → t ≡ u
by_mark true t u is = ok_same {E = LoadFault} t u is
by_mark false t u is = absurd cc

by_opening : (r : Result opening.Table TableFault) (t : opening.Table) → loaded_by r ≡ Ok t → r ≡ Ok t
by_opening (Err f) t is = absurd cc
by_opening (Ok u) t is = ap Ok (by_mark (has_mark u.defs u.index) u t is)

-- the table that is loaded is opened
pub opened : (name : List ℕ) (m : Holding) (t : opening.Table) → loading.table_in name m ≡ Ok t → opening.table_in (index_file name) (rows_file name) m ≡ Ok t
unfolding loading.table_in
opened name m t is = by_opening (opening.table_in (index_file name) (rows_file name) m) t is

-- ---- the tables that are loaded stand for states

-- clean pairs stand for tables
abbrev pub Stands : Type 0
Stands = (b x : List ℕ) → AreBytes b → (c : IsClean b x) → (s : TableState) × StandForTable c.defs s b x

-- a table that was loaded and not changed is this one
pub record Meets (m : Holding) (k : Member) (t : OpenTable) : Type 0 where
  pub named : t.name ≡ k.name
  pub defs : table.defs_in t ≡ k.table.defs
  pub header : t.header ≡ state_of k.table.defs k.table.index
  pub unchanged : t.changed ≡ false
  pub holds : HoldState t k.state m
  pub member : IsMember m k

pub record MeetsOne (name : List ℕ) (m : Holding) (t : OpenTable) : Type 0 where
  pub member : Member
  pub named : member.name ≡ name
  pub meets : Meets m member t

meet_one : Stands → (name : List ℕ) (t : OpenTable) (m : Holding) → HoldsBytes m → wrong_in m name ≡ None → IsLoaded name t m → t.name ≡ name → t.changed ≡ false → MeetsOne name m t
meet_one law name t m bytes none loaded named unchanged =
    let files = loaded.files in
    let is = opened name m files loaded.is in
    let read = table_read (index_file name) (rows_file name) files m is in
    let clean = clean_where_none files.defs files.rows files.index read (none_in name m files none is) in
    let are : AreBytes files.rows = subst (λ (o : Option (List ℕ)). AreBytes (unwrap_or o [])) (table_rows (index_file name) (rows_file name) files m is) (bytes (rows_file name)) in
    let found = law files.rows files.index are clean in
    let same : clean.defs ≡ files.defs = ok_same {E = DefFault} clean.defs files.defs (sym clean.read ∙ read) in
    let stand = subst (λ d. StandForTable d found.0 files.rows files.index) same found.1 in
    record {
      member = record { name = name; table = files; state = found.0 };
      named = refl;
      meets = record { named = named; defs = loaded.defs; header = loaded.header; unchanged = unchanged; holds = loaded.stands found.0 stand; member = record { is = is; stands = stand } };
    }

abbrev pub MeetEach : Holding → List Member → List OpenTable → Type 0
MeetEach m [] [] = Unit {0}
MeetEach m [] (t ∷ ts) = ⊥
MeetEach m (k ∷ ks) [] = ⊥
MeetEach m (k ∷ ks) (t ∷ ts) = Meets m k t × MeetEach m ks ts

abbrev pub names_of : List Member → List (List ℕ)
names_of ks = map (λ (k : Member). k.name) ks

abbrev pub opened_names : List OpenTable → List (List ℕ)
opened_names ts = map (λ (t : OpenTable). t.name) ts

pub record MeetsAll (names : List (List ℕ)) (m : Holding) (ts : List OpenTable) : Type 0 where
  pub members : List Member
  pub named : names_of members ≡ names
  pub meets : MeetEach m members ts

head_same : (x y : List ℕ) (xs ys : List (List ℕ)) → x ∷ xs ≡ y ∷ ys → x ≡ y
head_same x y xs ys is = cc

tail_same : (x y : List ℕ) (xs ys : List (List ℕ)) → x ∷ xs ≡ y ∷ ys → xs ≡ ys
tail_same x y xs ys is = cc

meet_each : Stands → (names : List (List ℕ)) (ts : List OpenTable) (m : Holding) → HoldsBytes m → AllByRecursion (λ q. wrong_in m q ≡ None) names → EachLoaded names ts m → opened_names ts ≡ names → AllByRecursion (λ (t : OpenTable). t.changed ≡ false) ts → MeetsAll names m ts
meet_each law [] [] m bytes none loaded named unchanged = record { members = []; named = refl; meets = tt }
meet_each law [] (t ∷ ts) m bytes none loaded named unchanged = absurd loaded
meet_each law (name ∷ names) [] m bytes none loaded named unchanged = absurd loaded
meet_each law (name ∷ names) (t ∷ ts) m bytes none loaded named unchanged =
    let one = meet_one law name t m bytes none.0 loaded.0 (head_same t.name name (opened_names ts) names named) unchanged.0 in
    let more = meet_each law names ts m bytes none.1 loaded.1 (tail_same t.name name (opened_names ts) names named) unchanged.1 in
    record { members = one.member ∷ more.members; named = ap (λ (q : List ℕ). q ∷ names_of more.members) one.named ∙ ap (λ (qs : List (List ℕ)). name ∷ qs) more.named; meets = (one.meets, more.meets) }

meet_long : (m : Holding) (ks : List Member) (ts : List OpenTable) → MeetEach m ks ts → length ks ≡ length ts
meet_long m [] [] meets = refl
meet_long m [] (t ∷ ts) meets = absurd meets
meet_long m (k ∷ ks) [] meets = absurd meets
meet_long m (k ∷ ks) (t ∷ ts) meets = ap suc (meet_long m ks ts meets.1)

meet_members : (m : Holding) (ks : List Member) (ts : List OpenTable) → MeetEach m ks ts → AllByRecursion (IsMember m) ks
meet_members m [] ts meets = tt
meet_members m (k ∷ ks) [] meets = absurd meets
meet_members m (k ∷ ks) (t ∷ ts) meets = (meets.0.member, meet_members m ks ts meets.1)

-- ---- the one that takes the rows

record SplitAt (ks : List Member) (i : ℕ) : Type 0 where
  pub parts : Members
  pub is : all_of parts ≡ ks
  pub long : length parts.front ≡ i

split_at : (ks : List Member) (i : ℕ) → i < length ks → SplitAt ks i
split_at [] i lt = absurd (omega (arith, lt))
split_at (k ∷ ks) zero lt = record { parts = record { front = []; taker = k; back = ks }; is = refl; long = refl }
split_at (k ∷ ks) (suc i) lt =
    let r = split_at ks i (omega (arith, lt)) in
    record { parts = record { front = k ∷ r.parts.front; taker = r.parts.taker; back = r.parts.back }; is = ap (λ (q : List Member). k ∷ q) r.is; long = ap suc r.long }

pub index_inside : (method : Option InsertMethod) (n : ℕ) → 0 < n → index_by (target_by method n) < n
index_inside None n some = some
index_inside (Some First) n some = some
index_inside (Some Last) n some = omega (arith, some)

place_by : (o : Option ℕ) → place_of (taking_by o) ≡ index_by o
place_by None = refl
place_by (Some i) = omega arith

first_meets : (m : Holding) (front : List Member) (k : Member) (back : List Member) (ts : List OpenTable) → MeetEach m (front ++ k ∷ back) ts → defs_at (slice_get ts 0) ≡ first_defs front k
first_meets m [] k back [] meets = absurd meets
first_meets m [] k back (t ∷ ts) meets = meets.0.defs
first_meets m (j ∷ front) k back [] meets = absurd meets
first_meets m (j ∷ front) k back (t ∷ ts) meets = meets.0.defs

taker_meets : (m : Holding) (front : List Member) (k : Member) (back : List Member) (ts : List OpenTable) → MeetEach m (front ++ k ∷ back) ts → defs_at (slice_get ts (length front)) ≡ k.table.defs
taker_meets m [] k back [] meets = absurd meets
taker_meets m [] k back (t ∷ ts) meets = meets.0.defs
taker_meets m (j ∷ front) k back [] meets = absurd meets
taker_meets m (j ∷ front) k back (t ∷ ts) meets = taker_meets m front k back ts meets.1

hold_back : (m : Holding) (ks : List Member) (ts : List OpenTable) → MeetEach m ks ts → HoldEach ts (states_of ks) m
hold_back m [] [] meets = tt
hold_back m [] (t ∷ ts) meets = absurd meets
hold_back m (k ∷ ks) [] meets = absurd meets
hold_back m (k ∷ ks) (t ∷ ts) meets = (meets.0.holds, hold_back m ks ts meets.1)

hold_front : (m : Holding) (front : List Member) (k : Member) (back : List Member) (ts : List OpenTable) → MeetEach m (front ++ k ∷ back) ts → HoldEach ts (states_of front ++ k.state ∷ states_of back) m
hold_front m [] k back [] meets = absurd meets
hold_front m [] k back (t ∷ ts) meets = (meets.0.holds, hold_back m back ts meets.1)
hold_front m (j ∷ front) k back [] meets = absurd meets
hold_front m (j ∷ front) k back (t ∷ ts) meets = (meets.0.holds, hold_front m front k back ts meets.1)

like_same : (a b c d : Defs) → a ≡ c → b ≡ d → IsLike a b → IsLike c d
like_same a b c d one other like = subst (λ q. IsLike q d) one (subst (λ q. IsLike a q) other like)

like_others : (m : Holding) (first : Member) (f : OpenTable) (ks : List Member) (ts : List OpenTable) → table.defs_in f ≡ first.table.defs → MeetEach m ks ts → AllByRecursion (λ (t : OpenTable). IsLike (table.defs_in f) (table.defs_in t)) ts → AllByRecursion (λ (k : Member). IsLike first.table.defs k.table.defs) ks
like_others m first f [] ts same meets like = tt
like_others m first f (k ∷ ks) [] same meets like = absurd meets
like_others m first f (k ∷ ks) (t ∷ ts) same meets like = (like_same (table.defs_in f) (table.defs_in t) first.table.defs k.table.defs same meets.0.defs like.0, like_others m first f ks ts same meets.1 like.1)

like_members : (m : Holding) (ks : List Member) (ts : List OpenTable) → MeetEach m ks ts → merged.AreAlike ts → AreAlike ks
like_members m [] ts meets like = tt
like_members m (k ∷ ks) [] meets like = absurd meets
like_members m (k ∷ ks) (t ∷ ts) meets like = like_others m k t ks ts meets.0.defs meets.1 like

-- ---- what stands before a script

abbrev pub opened_of : Target → List OpenTable
opened_of (One t) = t ∷ []
opened_of (Many g) = g.tables

abbrev pub standing_of : Members → on.Standing
standing_of ks = record { table = ks.taker.state; beside = record { front = states_of ks.front; back = states_of ks.back } }

-- tables that are ready stand for states
pub record Standing (name : List ℕ) (t : Target) (m : Holding) : Type 0 where
  pub members : Members
  pub are : AreMembers name (taking t) members m
  pub meets : MeetEach m (all_of members) (opened_of t)
  pub first : lines_defs t ≡ first_defs members.front members.taker
  pub defs : on.defs_in t ≡ members.taker.table.defs
  pub holds : on.HoldState t (standing_of members) m

table_names : (name : List ℕ) (m : Holding) → m (list_file name) ≡ None → tables_in name m ≡ name ∷ []
table_names name m none = ap (tables_by name) none

pub list_names : (name : List ℕ) (members : List (List ℕ)) (method : Option InsertMethod) (m : Holding) → IsListIn name members method m → tables_in name m ≡ members
list_names name members method m list = ap (tables_by name) list.there ∙ sym list.list.names_are

table_stands : (name : List ℕ) (t : OpenTable) (m : Holding) → m (list_file name) ≡ None → MeetsOne name m t → Standing name (One t) m
table_stands name t m none one = record {
  members = record { front = []; taker = one.member; back = [] };
  are = record { on = inl (none, refl); names = ap (λ (q : List ℕ). q ∷ []) one.named ∙ sym (table_names name m none); each = (one.meets.member, tt); alike = tt; place = refl };
  meets = (one.meets, tt);
  first = one.meets.defs;
  defs = one.meets.defs;
  holds = one.meets.holds;
}

pub list_on : (name : List ℕ) (g : OpenMerge) (m : Holding) → IsLoadedMerge name g m → IsOn name (taking (Many g)) m
list_on name g m loaded =
    let same : tables_in name m ≡ loaded.members = list_names name loaded.members g.method m loaded.list in
    let long : length g.tables ≡ length (tables_in name m) = map_long g.tables ∙ ap length (loaded.names ∙ sym same) in
    inr (g.method, subst (λ (q : List (List ℕ)). IsListIn name q g.method m) (sym same) loaded.list, ap (λ (n : ℕ). taking_by (target_by g.method n)) long)
  where
    map_long : (ts : List OpenTable) → length ts ≡ length (opened_names ts)
    map_long [] = refl
    map_long (t ∷ ts) = ap suc (map_long ts)

list_parts : (name : List ℕ) (g : OpenMerge) (m : Holding) → IsMerge g → IsLoadedMerge name g m → (all : MeetsAll (tables_in name m) m g.tables) → SplitAt all.members (index_in g) → Standing name (Many g) m
list_parts name g m sound loaded all split =
    let ks = split.parts in
    let meets : MeetEach m (all_of ks) g.tables = subst (λ (q : List Member). MeetEach m q g.tables) (sym split.is) all.meets in
    record {
      members = ks;
      are = record {
        on = list_on name g m loaded;
        names = ap names_of split.is ∙ all.named;
        each = meet_members m (all_of ks) g.tables meets;
        alike = like_members m (all_of ks) g.tables meets sound.alike;
        place = split.long ∙ sym (place_by (target g));
      };
      meets = meets;
      first = first_meets m ks.front ks.taker ks.back g.tables meets;
      defs = ap (λ (i : ℕ). defs_at (slice_get g.tables i)) (sym split.long) ∙ taker_meets m ks.front ks.taker ks.back g.tables meets;
      holds = (hold_front m ks.front ks.taker ks.back g.tables meets, len ks.front ∙ split.long);
    }
  where
    len : (ks : List Member) → length (states_of ks) ≡ length ks
    len [] = refl
    len (k ∷ ks) = ap suc (len ks)

list_stands : (name : List ℕ) (g : OpenMerge) (m : Holding) → IsMerge g → IsLoadedMerge name g m → MeetsAll (tables_in name m) m g.tables → Standing name (Many g) m
list_stands name g m sound loaded all = list_parts name g m sound loaded all (split_at all.members (index_in g) (omega (arith, index_inside g.method (length g.tables) sound.some, meet_long m all.members g.tables all.meets)))

pub stands_on : Stands → (name script text : List ℕ) (list : Bool) (t : Target) (m : Holding) → HoldsBytes m → IsFresh list t → text_in name script m ≡ Ok text → IsTarget name t m → Standing name t m
stands_on law name script text list (One t) m bytes fresh read loaded =
    let none = subst (AllByRecursion (λ q. wrong_in m q ≡ None)) (table_names name m loaded.0) (none_wrong name script m text read) in
    table_stands name t m loaded.0 (meet_one law name t m bytes none.0 loaded.1 loaded.2 fresh.unchanged)
stands_on law name script text list (Many g) m bytes fresh read loaded =
    let same : tables_in name m ≡ loaded.members = list_names name loaded.members g.method m loaded.list in
    let none = none_wrong name script m text read in
    list_stands name g m fresh.sound loaded (meet_each law (tables_in name m) g.tables m bytes none (subst (λ (q : List (List ℕ)). EachLoaded q g.tables m) (sym same) loaded.tables) (loaded.names ∙ sym same) fresh.unchanged)

pub stands : Stands → (name script : List ℕ) (list : Bool) (t : Target) (ls : List Line) (m : Holding) → HoldsBytes m → IsFresh list t → IsReady name script t ls m → Standing name t m
stands law name script list t ls m bytes fresh ready = stands_on law name script ready.text list t m bytes fresh ready.read ready.loaded

-- how the script begins
unfoldable pub begins_so : (setting : ℕ) (name script : List ℕ) (t : Target) (ls : List Line) (m : Holding) → IsReady name script t ls m → (s : Standing name t m) → Begins setting name script m (opening_on (on.defs_in t) (script_on t ls) setting (standing_of s.members))
begins_so setting name script t ls m ready s = record {
  text = ready.text;
  read = ready.read;
  members = s.members;
  are = s.are;
  lines = subst (λ d. IsScript (is_list (taking t)) d ready.text ls) s.first ready.lines;
  defs = s.defs;
  base = refl;
  beside = refl;
  inserts = refl;
}

-- ---- what a run asks for

kept_each : (told : Option Holding) (ts : List OpenTable) → IfTold told (λ m. (ks : List Member) × MeetEach m ks ts) → AreKept told ts
kept_each told [] have = tt
kept_each told (t ∷ ts) have = (λ whole m held. one m (have m held), kept_each told ts (λ m held. more m (have m held)))
  where
    one : (m : Holding) → ((ks : List Member) × MeetEach m ks (t ∷ ts)) → (s : TableState) × HoldState t s m
    one m ([], meets) = absurd meets
    one m (k ∷ ks, meets) = (k.state, meets.0.holds)

    more : (m : Holding) → ((ks : List Member) × MeetEach m ks (t ∷ ts)) → (ks : List Member) × MeetEach m ks ts
    more m ([], meets) = absurd meets
    more m (k ∷ ks, meets) = (ks, meets.1)

kept_all : (told : Option Holding) (t : Target) → IfTold told (λ m. (ks : List Member) × MeetEach m ks (opened_of t)) → on.IsKept told t
kept_all told (One t) have = (kept_each told (t ∷ []) have).0
kept_all told (Many g) have = kept_each told g.tables have

pub kept : Stands → (name script : List ℕ) (list : Bool) (t : Target) (ls : List Line) (told : Option Holding) → IfTold told HoldsBytes → IsFresh list t → IfTold told (IsReady name script t ls) → on.IsKept told t
kept law name script list t ls told bytes fresh ready = kept_all told t (λ m held. by m (stands law name script list t ls m (bytes m held) fresh (ready m held)))
  where
    by : (m : Holding) → Standing name t m → (ks : List Member) × MeetEach m ks (opened_of t)
    by m s = (all_of s.members, s.meets)

-- what holds of each state holds of one
pub never : Stands → (name script : List ℕ) (list : Bool) (t : Target) (ls : List Line) (told : Option Holding) → IfTold told HoldsBytes → IsFresh list t → IfTold told (IsReady name script t ls) → (P : Holding → Type 0) → on.IfHolds told t (λ m s. ⊥) → IfTold told P
never law name script list t ls told bytes fresh ready P none m held =
    let s = stands law name script list t ls m (bytes m held) fresh (ready m held) in
    absurd (none m held (standing_of s.members) s.holds)
