-- The turn of `shell`, by the steps that it takes.
use Rattle.std.proofs.Common.{◌≡◌, ◌<◌, ◌-◌, arith, ℕ, zero, suc, Bool, true, false, List, [], ◌∷◌, ◌++◌, codes, length, Option, Some, None, Ok, Err, refl, sym, ap, subst, ◌∙◌, inl, inr}
use Rattle.std.specs.Prelude.{slice_get, String}
use Rattle.std.specs.declared.alloc.Global.{Global}
use Rattle.std.specs.List.{AllByRecursion}
use Rattle.myi_base.specs.Holding.{Holding, IfTold, HoldsBytes}
use Rattle.myi_base.specs.Output.{Appends, AppendsPart}
use Rattle.myi_defs.specs.declared.types.Defs.{Defs}
use Rattle.myi_deftext.specs.Text.{lines}
use Rattle.myi_script.specs.declared.types.Line.{Line}
use Rattle.myi_script.specs.Script.{IsScript, IsFirstOutside}
use Rattle.myi_opening.specs.Opening as opening
use Rattle.myi_history.specs.History.{Taking, is_list}
use Rattle.myi_history.specs.Lines.{MayRun}
use Rattle.myi_table.specs.Table.{OpenTable}
use Rattle.myi_table.specs.Table as table
use Rattle.myi_table.specs.Loading.{IsLoaded}
use Rattle.myi_merge.specs.declared.fault.MergeFault.TheVariants as merge
use Rattle.myi_keycache.specs.declared.setup.CacheSetup.{CacheSetup}
use Rattle.myi_merge.specs.Loading as loading
use Rattle.myi_merge.specs.Loading.{HasMembers, HasNoList, EachLoaded, RefusesMerge, FirstStopped}
use Rattle.myi_merge.specs.Merged.{OpenMerge, IsMerge, IsLike, IsLikeFirst}
use Rattle.myi_merge.specs.Changing.{target}
use Rattle.myi_merge.proofs.CallerLemmas.{like_at}
use Rattle.myi_shell.specs.declared.target.Target.{Target}
use Rattle.myi_shell.specs.declared.target.Target.TheVariants.{One, Many}
use Rattle.myi_shell.specs.Targets.{defs_in, defs_at, index_in, taking, taking_by}
use Rattle.myisamkit.specs.declared.status.Status.{Status}
use Rattle.myisamkit.specs.declared.status.Status.TheVariants as status
use Rattle.myisamkit.specs.Lines.{text_line, refused_line}
use Rattle.myisamkit.specs.Shells.{refusal, tables_in, text_in, IsOn, IsTable, IsFirst, IsOneOf, Differ, IsRefused, ShellSaid, ShellSaidPart, ShellFails}
use Rattle.myisamkit.specs.ShellSteps.{IsListed, lines_defs, IsFresh, IsTarget, IsReady, IsRunnable}
use Rattle.myisamkit.proofs.ShellLaws.{Stands, opened, list_names, index_inside, Standing, stands_on}

-- the same is held
pub same_holding : (told next : Option Holding) (m n : Holding) → next ≡ told → told ≡ Some m → next ≡ Some n → n ≡ m
same_holding told next m n same held after = let e : Some n ≡ Some m = sym after ∙ same ∙ held in cc

-- ---- no script is run

-- what is said so is said
pub refused_said : (setting : ℕ) (name script line : List ℕ) (s : Status) (told : Option Holding) (old new : Option (List ℕ)) → IfTold told (λ m. IsRefused name script m line s) → IfTold old (Appends line new) → IfTold told (ShellSaid setting name script s old new)
refused_said setting name script line s told old new is said m held = (line, inl (is m held), said)

pub refused_part : (setting : ℕ) (name script line : List ℕ) (s : Status) (told : Option Holding) (old new : Option (List ℕ)) → IfTold told (λ m. IsRefused name script m line s) → IfTold old (AppendsPart line new) → IfTold told (ShellSaidPart setting name script old new)
refused_part setting name script line s told old new is said m held = inr (line, s, inl (is m held), said)

pub refused_fails : (setting : ℕ) (name script line : List ℕ) (s : Status) (told next : Option Holding) (old new : Option (List ℕ)) → next ≡ told → IfTold told (λ m. IsRefused name script m line s) → IfTold told (λ m. IfTold next (ShellFails setting name script old new m))
refused_fails setting name script line s told next old new same is m held n after = inl ((line, s, is m held), same_holding told next m n same held after)

-- ---- the list

listed_on : (list : Bool) (name : List ℕ) (m : Holding) → IsListed list name m → (takes : Taking) × IsOn name takes m
listed_on true name m listed = (_, inr (listed.0, listed.1, refl))
listed_on false name m none = (_, inl (none, refl))

-- the script is not read
pub not_read : (name script line : List ℕ) (s : Status) (list : Bool) (m : Holding) → IsListed list name m → text_in name script m ≡ Err (refusal line s) → IsRefused name script m line s
not_read name script line s list m listed why = let o = listed_on list name m listed in inr (inl (record { takes = o.0; on = o.1; why = why }))

pub no_list : (name script : List ℕ) (m : Holding) → HasNoList name m → IsRefused name script m (refused_line name (codes "list")) status.Refused
no_list name script m none = inl (record { none = none; says = refl; ends = refl })

pub unlike : (name script text : List ℕ) (list : Bool) (m : Holding) → IsListed list name m → text_in name script m ≡ Ok text → Differ name m → IsRefused name script m (refused_line name (codes "differs")) status.Refused
unlike name script text list m listed read differ = let o = listed_on list name m listed in inr (inr (inl (record { takes = o.0; on = o.1; text = text; read = read; differ = differ; says = refl; ends = refl })))

-- ---- a line of it is not in the grammar

pub outside : (name script text : List ℕ) (k : ℕ) (t : Target) (m : Holding) → text_in name script m ≡ Ok text → (s : Standing name t m) → IsFirstOutside (is_list (taking t)) (lines_defs t) (lines text) k → IsRefused name script m (text_line script k) status.Refused
outside name script text k t m read s first = inr (inr (inr (record {
  text = text;
  read = read;
  takes = taking t;
  members = s.members;
  are = s.are;
  line = k;
  first = subst (λ d. IsFirstOutside (is_list (taking t)) d (lines text) k) s.first first;
  says = refl;
  ends = refl;
})))

-- ---- a script that may run on the first table may run on the one that takes the rows

abbrev pub RunOnLike : Type 0
RunOnLike = (d e : Defs) (ls : List Line) → IsLike d e → MayRun d ls → MayRun e ls

got : (ts : List OpenTable) (i : ℕ) → i < length ts → (t : OpenTable) × (slice_get ts i ≡ Some t)
got [] i lt = absurd (omega (arith, lt))
got (t ∷ ts) zero lt = (t, refl)
got (t ∷ ts) (suc i) lt = got ts i (omega (arith, lt))

pub may_run : RunOnLike → (list : Bool) (t : Target) (ls : List Line) → IsFresh list t → MayRun (lines_defs t) ls → MayRun (defs_in t) ls
may_run law list (One t) ls fresh may = may
may_run law list (Many g) ls fresh may =
    let is : IsMerge g = fresh.sound in
    let first = got g.tables 0 is.some in
    let taker = got g.tables (index_in g) (index_inside g.method (length g.tables) is.some) in
    let like = like_at g.tables first.0 (index_in g) taker.0 is.alike first.1 taker.1 in
    subst (λ (d : Defs). MayRun d ls) (sym (ap defs_at taker.1)) (law (table.defs_in first.0) (table.defs_in taker.0) ls like (subst (λ (d : Defs). MayRun d ls) (ap defs_at first.1) may))

-- ---- tables of a list that are not alike

one_of : (before : List (List ℕ)) (name : List ℕ) (after : List (List ℕ)) (t : opening.Table) (m : Holding) → IsTable name t m → IsOneOf (before ++ name ∷ after) t m
one_of [] name after t m is = inl is
one_of (q ∷ before) name after t m is = inr (one_of before name after t m is)

pub record FirstLoaded (names : List (List ℕ)) (before : List OpenTable) (m : Holding) : Type 0 where
  pub first : OpenTable
  pub others : List OpenTable
  pub parts : before ≡ first ∷ others
  pub files : opening.Table
  pub is : IsFirst names files m
  pub defs : table.defs_in first ≡ files.defs

first_loaded : (before : List (List ℕ)) (name : List ℕ) (after : List (List ℕ)) (ts : List OpenTable) (t : OpenTable) (m : Holding) → EachLoaded before ts m → (IsLikeFirst ts t → ⊥) → FirstLoaded (before ++ name ∷ after) ts m
first_loaded [] name after [] t m loaded unlike = absurd (unlike tt)
first_loaded [] name after (u ∷ ts) t m loaded unlike = absurd loaded
first_loaded (q ∷ before) name after [] t m loaded unlike = absurd loaded
first_loaded (q ∷ before) name after (u ∷ ts) t m loaded unlike = record { first = u; others = ts; parts = refl; files = loaded.0.files; is = opened q m loaded.0.files loaded.0.is; defs = loaded.0.defs }

differ_at : (names before : List (List ℕ)) (name : List ℕ) (after : List (List ℕ)) (ts : List OpenTable) (t : OpenTable) (m : Holding) → names ≡ before ++ name ∷ after → EachLoaded before ts m → IsLoaded name t m → (IsLikeFirst ts t → ⊥)
    → (first : opening.Table) × (other : opening.Table) × IsFirst names first m × IsOneOf names other m × (IsLike first.defs other.defs → ⊥)
differ_at names before name after ts t m parts loaded is unlike =
    let f = first_loaded before name after ts t m loaded unlike in (
      f.files,
      is.files,
      subst (λ (qs : List (List ℕ)). IsFirst qs f.files m) (sym parts) f.is,
      subst (λ (qs : List (List ℕ)). IsOneOf qs is.files m) (sym parts) (one_of before name after is.files m (opened name m is.files is.is)),
      λ like. unlike (subst (λ (us : List OpenTable). IsLikeFirst us t) (sym f.parts) (subst (λ (d : Defs). IsLike d (table.defs_in t)) (sym f.defs) (subst (λ (d : Defs). IsLike f.files.defs d) (sym is.defs) like))),
    )

differ_among : (name : List ℕ) (members : List (List ℕ)) (q : String Global) (m : Holding) → HasMembers name members m → FirstStopped members (merge.Differs q) m → Differ name m
differ_among name members q m has stopped =
    let same : tables_in name m ≡ members = list_names name members has.0 m has.1 in
    let at = stopped.stopped.1 in
    let d = differ_at (tables_in name m) stopped.before stopped.name stopped.after stopped.tables at.table m (same ∙ stopped.parts) stopped.loaded at.loaded at.differs in
    record { first = d.0; is_first = d.2; other = d.1; is_other = d.3; unlike = d.4 }

-- a list that is refused for a table that is not like the first one
pub differ_so : (name : List ℕ) (q : String Global) (m : Holding) → RefusesMerge name (merge.Differs q) m → Differ name m
differ_so name q m (inl bad) = absurd bad
differ_so name q m (inr (members, has, stopped)) = differ_among name members q m has stopped

-- ---- what is ready

each_fresh : (setup : CacheSetup) (P : OpenTable → Type 0) → ((t : OpenTable) → loading.IsFresh setup t → P t) → (ts : List OpenTable) → AllByRecursion (loading.IsFresh setup) ts → AllByRecursion P ts
each_fresh setup P of [] all = tt
each_fresh setup P of (t ∷ ts) all = (of t all.0, each_fresh setup P of ts all.1)

list_kind : (o : Option ℕ) → is_list (taking_by o) ≡ true
list_kind None = refl
list_kind (Some i) = refl

-- a list as loading leaves it
pub list_fresh : (g : OpenMerge) (setup : CacheSetup) → AllByRecursion (loading.IsFresh setup) g.tables → IsMerge g → IsFresh true (Many g)
list_fresh g setup fresh sound = record {
  kind = list_kind (target g);
  whole = each_fresh setup (λ (t : OpenTable). t.broken ≡ None) (λ t f. f.whole) g.tables fresh;
  unchanged = each_fresh setup (λ (t : OpenTable). t.changed ≡ false) (λ t f. f.unchanged) g.tables fresh;
  sound = sound;
}

pub ready_so : (name script text : List ℕ) (d : Defs) (list : Bool) (t : Target) (ls : List Line) (m : Holding) → text_in name script m ≡ Ok text → IsFresh list t → d ≡ lines_defs t → IsScript list d text ls → IsTarget name t m → IsReady name script t ls m
ready_so name script text d list t ls m read fresh defs says loaded = record {
  text = text;
  read = read;
  lines = subst (λ b. IsScript b (lines_defs t) text ls) (sym fresh.kind) (subst (λ e. IsScript list e text ls) defs says);
  loaded = loaded;
}

pub runnable_so : RunOnLike → (d : Defs) (list : Bool) (t : Target) (ls : List Line) → IsFresh list t → d ≡ lines_defs t → MayRun d ls → IsRunnable t ls
runnable_so law d list t ls fresh defs may = record { list = list; fresh = fresh; may = may_run law list t ls fresh (subst (λ e. MayRun e ls) defs may) }

pub outside_so : Stands → (name script text : List ℕ) (k : ℕ) (d : Defs) (list : Bool) (t : Target) (m : Holding) → HoldsBytes m → text_in name script m ≡ Ok text → IsFresh list t → d ≡ lines_defs t → IsFirstOutside list d (lines text) k → IsTarget name t m → IsRefused name script m (text_line script k) status.Refused
outside_so law name script text k d list t m bytes read fresh defs first loaded = outside name script text k t m read (stands_on law name script text list t m bytes fresh read loaded) (subst (λ b. IsFirstOutside b (lines_defs t) (lines text) k) (sym fresh.kind) (subst (λ e. IsFirstOutside list e (lines text) k) defs first))
