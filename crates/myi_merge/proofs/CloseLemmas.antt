-- Tables that are closed one after the other: the first so many are closed, and the others stand for their states still.
use Rattle.std.proofs.Common.{◌≡◌, ℕ, zero, suc, ◌+◌, ◌<◌, List, [], ◌∷◌, ◌++◌, length, map, take, drop, get_or, Option, Some, None, unwrap_or, refl, sym, ap, subst, ◌∙◌, arith, add-one}
use Rattle.std.proofs.Math.Seq.{drop-cons}
use Rattle.std.proofs.lemmas.List.{take_more, take_all, take-append-drop}
use Rattle.std.specs.Prelude.{bytes_eq}
use Rattle.std.specs.List.{AllByRecursion, IsDistinct}
use Rattle.std.proofs.lemmas.Option.{same_Some}
use Rattle.myi_base.specs.Holding.{Holding, IfTold, Told}
use Rattle.myi_base.proofs.CallerLemmas.{told_same, told_then}
use Rattle.myi_state.specs.State.{TableState}
use Rattle.myi_tablestate.specs.Standing.{StandForTable}
use Rattle.myi_keyedrows.specs.Files.{defs_with}
use Rattle.myi_table.specs.declared.fault.Cause.{Cause}
use Rattle.myi_table.specs.declared.fault.ChangeFault.{ChangeFault}
use Rattle.myi_table.specs.declared.fault.ChangeFault.TheVariants as fault
use Rattle.myi_table.specs.Faults.{CutsOff}
use Rattle.myi_table.specs.Table.{OpenTable, defs_in, HoldState, IfHolds, IsKept, KeepsRows, KeepsOthers}
use Rattle.myi_table.specs.Closing.{IsClosed}
use Rattle.myi_merge.specs.Merged.{IsSoundTable, HoldEach, IfHoldEach, AreKept, AreWhole}
use Rattle.myi_merge.specs.Changing.{EachClosed, ChangesTheirOwn, Keeps, KeepEach, KeepEachRows, RefusesClosing, ClosesOne, IfBroken, StopsAtTable}
use Rattle.myi_merge.specs.Merging.{KeepBut}
use Rattle.myi_merge.proofs.AheadLemmas.{keep_before}
use Rattle.myi_merge.proofs.LoadLemmas.{all_push}
use Rattle.myi_merge.proofs.ScanLemmas.{all_at}
use Rattle.myi_merge.proofs.FrameLemmas.{Rests, keep_but, still_one, still_each}
use Rattle.myi_merge.proofs.CarryLemmas.{kept_each, others_one, others_then}

-- a closed table stays closed while its two files stay
closed_still : (t : OpenTable) (s : TableState) (m n : Holding) → Keeps t m n → IsClosed t s m → IsClosed t s n
closed_still t s m n keeps c = record {
  index = c.index;
  there = keeps.index ∙ c.there;
  header = c.header;
  stand = subst (λ (o : Option (List ℕ)). StandForTable (defs_with (defs_in t) c.index) s (unwrap_or o []) c.index) (sym keeps.rows) c.stand;
}

-- of these tables the first so many are closed, and the others stand for their states
abbrev pub ClosedSoFar : ℕ → List OpenTable → List TableState → Holding → Type 0
ClosedSoFar zero ts ss m = HoldEach ts ss m
ClosedSoFar (suc i) [] [] m = Unit {0}
ClosedSoFar (suc i) [] (s ∷ ss) m = ⊥
ClosedSoFar (suc i) (t ∷ ts) [] m = ⊥
ClosedSoFar (suc i) (t ∷ ts) (s ∷ ss) m = IsClosed t s m × ClosedSoFar i ts ss m

-- one more
closed_more : Rests → (i : ℕ) (ts : List OpenTable) (ss : List TableState) (m n : Holding) (d : OpenTable) → AllByRecursion IsSoundTable ts → i < length ts → KeepBut i ts m n → ((s : TableState) → HoldState (get_or ts i d) s m → IsClosed (get_or ts i d) s n) → ClosedSoFar i ts ss m → ClosedSoFar (i + 1) ts ss n
closed_more rests i [] ss m n d sound lt keep one so = absurd (omega (arith, lt))
closed_more rests zero (t ∷ ts) [] m n d sound lt keep one so = elim so [ ]
closed_more rests zero (t ∷ ts) (s ∷ ss) m n d sound lt keep one so = (one s so.0, still_each rests ts ss m n sound.1 keep so.1)
closed_more rests (suc i) (t ∷ ts) [] m n d sound lt keep one so = elim so [ ]
closed_more rests (suc i) (t ∷ ts) (s ∷ ss) m n d sound lt keep one so =
    let next : suc (i + 1) ≡ suc i + 1 = omega arith in
    subst (λ (k : ℕ). ClosedSoFar k (t ∷ ts) (s ∷ ss) n) next (closed_still t s m n keep.0 so.0, closed_more rests i ts ss m n d sound.1 (omega (arith, lt)) keep.1 one so.1)

-- the next one stands for its state
pub next_holds : (i : ℕ) (ts : List OpenTable) (ss : List TableState) (m : Holding) (d : OpenTable) → i < length ts → ClosedSoFar i ts ss m → (s : TableState) × HoldState (get_or ts i d) s m
next_holds i [] ss m d lt so = absurd (omega (arith, lt))
next_holds zero (t ∷ ts) [] m d lt so = elim so [ ]
next_holds zero (t ∷ ts) (s ∷ ss) m d lt so = (s, so.0)
next_holds (suc i) (t ∷ ts) [] m d lt so = elim so [ ]
next_holds (suc i) (t ∷ ts) (s ∷ ss) m d lt so = next_holds i ts ss m d (omega (arith, lt)) so.1

-- all
closed_all : (i : ℕ) (ts : List OpenTable) (ss : List TableState) (m : Holding) → i ≡ length ts → ClosedSoFar i ts ss m → EachClosed ts ss m
closed_all zero [] [] m is so = tt
closed_all zero [] (s ∷ ss) m is so = elim so [ ]
closed_all zero (t ∷ ts) ss m is so = absurd (omega (arith, is))
closed_all (suc i) [] ss m is so = absurd (omega (arith, is))
closed_all (suc i) (t ∷ ts) [] m is so = elim so [ ]
closed_all (suc i) (t ∷ ts) (s ∷ ss) m is so = (so.0, closed_all i ts ss m (omega (arith, is)) so.1)

-- ---- with what the files tell

-- where the tables stood for states, so many are closed now
abbrev pub ClosingSoFar : Option Holding → Option Holding → ℕ → List OpenTable → Type 0
ClosingSoFar told now i ts = IfHoldEach told ts (λ m ss. (n : Holding) × (now ≡ Some n) × ClosedSoFar i ts ss n)

pub closing_none : (told now : Option Holding) (ts : List OpenTable) → now ≡ told → ClosingSoFar told now 0 ts
closing_none told now ts is = λ m held ss h. (m, is ∙ held, h)

pub closing_more : Rests → (told now next : Option Holding) (i : ℕ) (ts : List OpenTable) (t : OpenTable) → IsDistinct bytes_eq (map (λ (u : OpenTable). u.name) ts) → AllByRecursion IsSoundTable ts → i < length ts → get_or ts i t ≡ t → Told now next (KeepsOthers t.name)
    → IfHolds now t (λ m s. IfTold next (IsClosed t s)) → ClosingSoFar told now i ts → ClosingSoFar told next (i + 1) ts
closing_more rests told now next i ts t once sound lt at others closed so = λ m held ss h.
    let was = so m held ss h in
    let stay = others.told was.0 was.1 in
    let keeps : KeepsOthers (get_or ts i t).name was.0 stay.0 = subst (λ (u : OpenTable). KeepsOthers u.name was.0 stay.0) (sym at) stay.2 in
    let one : (s : TableState) → HoldState (get_or ts i t) s was.0 → IsClosed (get_or ts i t) s stay.0 = λ s holds. subst (λ (u : OpenTable). IsClosed u s stay.0) (sym at) (closed was.0 was.1 s (subst (λ (u : OpenTable). HoldState u s was.0) at holds) stay.0 stay.1) in
    (stay.0, stay.1, closed_more rests i ts ss was.0 stay.0 t sound lt (keep_but ts i t was.0 stay.0 once lt keeps) one was.2)

pub closing_all : (told next : Option Holding) (i : ℕ) (ts : List OpenTable) → i ≡ length ts → ClosingSoFar told next i ts → IfHoldEach told ts (λ m ss. IfTold next (EachClosed ts ss))
closing_all told next i ts is so = λ m held ss h n now.
    let was = so m held ss h in
    subst (EachClosed ts ss) (same_Some was.0 n (sym was.1 ∙ now)) (closed_all i ts ss was.0 is was.2)

-- the next table stands for a state
pub closing_next : (told now : Option Holding) (i : ℕ) (ts : List OpenTable) (t : OpenTable) (P : Type 0) → i < length ts → get_or ts i t ≡ t → IfHolds now t (λ m s. P) → ClosingSoFar told now i ts → IfHoldEach told ts (λ m ss. P)
closing_next told now i ts t P lt at holds so = λ m held ss h.
    let was = so m held ss h in
    let next = next_holds i ts ss was.0 t lt was.2 in
    holds was.0 was.1 next.0 (subst (λ (u : OpenTable). HoldState u next.0 was.0) at next.1)

-- ---- the tables that are not closed yet

keep_behind : (i : ℕ) (ts : List OpenTable) (m n : Holding) → KeepBut i ts m n → KeepEach (drop (suc i) ts) m n
keep_behind i [] m n keep = tt
keep_behind zero (t ∷ ts) m n keep = keep
keep_behind (suc i) (t ∷ ts) m n keep = keep_behind i ts m n keep.1

all_behind : {A : Type 0} (P : A → Type 0) (i : ℕ) (xs : List A) → AllByRecursion P xs → AllByRecursion P (drop i xs)
all_behind P zero xs all = all
all_behind P (suc i) [] all = tt
all_behind P (suc i) (x ∷ xs) all = all_behind P i xs all.1

all_next : {A : Type 0} (P : A → Type 0) (i : ℕ) (xs : List A) → AllByRecursion P (drop i xs) → AllByRecursion P (drop (suc i) xs)
all_next P zero [] all = tt
all_next P (suc i) [] all = tt
all_next P zero (x ∷ xs) all = all.1
all_next P (suc i) (x ∷ xs) all = all_next P i xs all

pub kept_at : (told : Option Holding) (i : ℕ) (ts : List OpenTable) (d : OpenTable) → i < length ts → AreKept told (drop i ts) → IsKept told (get_or ts i d)
kept_at told i [] d lt kept = absurd (omega (arith, lt))
kept_at told zero (t ∷ ts) d lt kept = kept.0
kept_at told (suc i) (t ∷ ts) d lt kept = kept_at told i ts d (omega (arith, lt)) kept

pub kept_more : Rests → (now next : Option Holding) (i : ℕ) (ts : List OpenTable) (t : OpenTable) → IsDistinct bytes_eq (map (λ (u : OpenTable). u.name) ts) → AllByRecursion IsSoundTable ts → i < length ts → get_or ts i t ≡ t → Told now next (KeepsOthers t.name) → AreKept now (drop i ts) → AreKept next (drop (i + 1) ts)
kept_more rests now next i ts t once sound lt at others kept =
    let more : suc i ≡ i + 1 = omega arith in
    subst (λ (k : ℕ). AreKept next (drop k ts)) more
    (kept_each rests (drop (suc i) ts) now next (KeepsOthers t.name) (all_behind IsSoundTable (suc i) ts sound) others (λ m n keeps. keep_behind i ts m n (keep_but ts i t m n once lt (subst (λ (u : OpenTable). KeepsOthers u.name m n) (sym at) keeps))) (all_next (IsKept now) i ts kept))

-- files of other names than those of all tables
pub others_more : (told now next : Option Holding) (i : ℕ) (ts : List OpenTable) (t : OpenTable) → i < length ts → get_or ts i t ≡ t → Told now next (KeepsOthers t.name) → ChangesTheirOwn told now ts → ChangesTheirOwn told next ts
others_more told now next i ts t lt at others so = others_then told now next ts ts refl so (others_one ts i t now next lt (subst (λ (u : OpenTable). Told now next (KeepsOthers u.name)) (sym at) others))

-- ---- one after the other

-- a table that is closed stays so while its files stay
closes_still : (told now next : Option Holding) (P Q : Holding → Holding → Type 0) (t : OpenTable) → Told told now P → Told now next Q → ((m n : Holding) → Q m n → Keeps t m n) → ClosesOne told now t → ClosesOne told next t
closes_still told now next P Q t one two keeps closed = λ m held s h n is.
    let then = one.told m held in
    let last = two.told then.0 then.1 in
    subst (IsClosed t s) (same_Some last.0 n (sym last.1 ∙ is)) (closed_still t s then.0 last.0 (keeps then.0 last.0 last.2) (closed m held s h then.0 then.1))

closes_each : (told now next : Option Holding) (P Q : Holding → Holding → Type 0) (ts : List OpenTable) → Told told now P → Told now next Q → ((m n : Holding) → Q m n → KeepEach ts m n) → AllByRecursion (ClosesOne told now) ts → AllByRecursion (ClosesOne told next) ts
closes_each told now next P Q [] one two keeps all = tt
closes_each told now next P Q (t ∷ ts) one two keeps all = (closes_still told now next P Q t one two (λ m n q. (keeps m n q).0) all.0, closes_each told now next P Q ts one two (λ m n q. (keeps m n q).1) all.1)

keep_at : (i : ℕ) (ts : List OpenTable) (d : OpenTable) (m n : Holding) → i < length ts → KeepEach (drop i ts) m n → Keeps (get_or ts i d) m n
keep_at i [] d m n lt keep = absurd (omega (arith, lt))
keep_at zero (t ∷ ts) d m n lt keep = keep.0
keep_at (suc i) (t ∷ ts) d m n lt keep = keep_at i ts d m n (omega (arith, lt)) keep

keep_next : (i : ℕ) (ts : List OpenTable) (m n : Holding) → KeepEach (drop i ts) m n → KeepEach (drop (suc i) ts) m n
keep_next zero [] m n keep = tt
keep_next (suc i) [] m n keep = tt
keep_next zero (t ∷ ts) m n keep = keep.1
keep_next (suc i) (t ∷ ts) m n keep = keep_next i ts m n keep

keep_then : (ts : List OpenTable) (m n k : Holding) → KeepEach ts m n → KeepEach ts n k → KeepEach ts m k
keep_then [] m n k one two = tt
keep_then (t ∷ ts) m n k one two = (record { rows = two.0.rows ∙ one.0.rows; index = two.0.index ∙ one.0.index }, keep_then ts m n k one.1 two.1)

rows_then : (ts : List OpenTable) (m n k : Holding) → KeepEachRows ts m n → KeepEach ts n k → KeepEachRows ts m k
rows_then [] m n k one two = tt
rows_then (t ∷ ts) m n k one two = (two.0.rows ∙ one.0, rows_then ts m n k one.1 two.1)

rows_push : (ts : List OpenTable) (t : OpenTable) (m n : Holding) → KeepEachRows ts m n → KeepsRows t.name m n → KeepEachRows (ts ++ t ∷ []) m n
rows_push [] t m n all one = (one, tt)
rows_push (u ∷ ts) t m n all one = (all.0, rows_push ts t m n all.1 one)

keep_all : (ts : List OpenTable) (m : Holding) → KeepEach ts m m
keep_all [] m = tt
keep_all (t ∷ ts) m = (record { rows = refl; index = refl }, keep_all ts m)

-- The first so many tables are closed, each where it stood for a state, and their data files stay; both files of the others stay.
pub record StopsAt (told now : Option Holding) (i : ℕ) (ts : List OpenTable) : Type 0 where
  pub closed : AllByRecursion (ClosesOne told now) (take i ts)
  pub rows : Told told now (KeepEachRows (take i ts))
  pub behind : Told told now (KeepEach (drop i ts))

pub stops_none : (told now : Option Holding) (ts : List OpenTable) → now ≡ told → StopsAt told now 0 ts
stops_none told now ts is = record {
  closed = tt;
  rows = told_same told now (KeepEachRows []) is (λ m held. tt);
  behind = told_same told now (KeepEach ts) is (λ m held. keep_all ts m);
}

-- a call on one of them leaves the files of those before it and behind it
before_still : (now next : Option Holding) (i : ℕ) (ts : List OpenTable) (t : OpenTable) → IsDistinct bytes_eq (map (λ (u : OpenTable). u.name) ts) → i < length ts → get_or ts i t ≡ t → Told now next (KeepsOthers t.name) → Told now next (KeepBut i ts)
before_still now next i ts t once lt at others = record {
  told = λ m held. let then = others.told m held in (then.0, then.1, keep_but ts i t m then.0 once lt (subst (λ (u : OpenTable). KeepsOthers u.name m then.0) (sym at) then.2));
  untold = others.untold;
}

closed_before : (told now next : Option Holding) (i : ℕ) (ts : List OpenTable) → Told now next (KeepBut i ts) → StopsAt told now i ts → AllByRecursion (ClosesOne told next) (take i ts)
closed_before told now next i ts but was = closes_each told now next (KeepEachRows (take i ts)) (KeepBut i ts) (take i ts) was.rows but (λ m n keep. keep_before ts i m n keep) was.closed

rows_before : (told now next : Option Holding) (i : ℕ) (ts : List OpenTable) → Told now next (KeepBut i ts) → StopsAt told now i ts → Told told next (KeepEachRows (take i ts))
rows_before told now next i ts but was = told_then told now next (KeepEachRows (take i ts)) (KeepBut i ts) (KeepEachRows (take i ts)) was.rows but (λ m n k one two. rows_then (take i ts) m n k one (keep_before ts i n k two))

files_behind : (told now next : Option Holding) (i : ℕ) (ts : List OpenTable) → Told now next (KeepBut i ts) → StopsAt told now i ts → Told told next (KeepEach (drop (i + 1) ts))
files_behind told now next i ts but was =
    let more : suc i ≡ i + 1 = omega arith in
    subst (λ (j : ℕ). Told told next (KeepEach (drop j ts))) more
    (told_then told now next (KeepEach (drop i ts)) (KeepBut i ts) (KeepEach (drop (suc i) ts)) was.behind but (λ m n k one two. keep_then (drop (suc i) ts) m n k (keep_next i ts m n one) (keep_behind i ts n k two)))

-- one more is closed
pub stops_more : Rests → (told now next : Option Holding) (i : ℕ) (ts : List OpenTable) (t : OpenTable) → IsDistinct bytes_eq (map (λ (u : OpenTable). u.name) ts) → AllByRecursion IsSoundTable ts → i < length ts → get_or ts i t ≡ t → Told now next (KeepsOthers t.name)
    → IfHolds now t (λ m s. IfTold next (IsClosed t s)) → Told now next (KeepsRows t.name) → StopsAt told now i ts → StopsAt told next (i + 1) ts
stops_more rests told now next i ts t once sound lt at others closed stays was =
    let but = before_still now next i ts t once lt at others in
    let around : take (i + 1) ts ≡ take i ts ++ t ∷ [] = take_more ts i t lt ∙ ap (λ (u : OpenTable). take i ts ++ u ∷ []) at in
    let own : (m n : Holding) → KeepEach (drop i ts) m n → Keeps t m n = λ m n keep. subst (λ (u : OpenTable). Keeps u m n) at (keep_at i ts t m n lt keep) in
    let one : ClosesOne told next t = λ m held s h.
    let then = was.behind.told m held in
    closed then.0 then.1 s (still_one rests t s m then.0 (subst IsSoundTable at (all_at IsSoundTable ts i t sound lt)) (own m then.0 then.2) h) in
    record {
      closed = subst (AllByRecursion (ClosesOne told next)) (sym around) (all_push (ClosesOne told next) (take i ts) t (closed_before told now next i ts but was) one);
      rows = subst (λ (us : List OpenTable). Told told next (KeepEachRows us)) (sym around) (record {
        told = λ m held.
            let first = (rows_before told now next i ts but was).told m held in
            let then = was.behind.told m held in
            let last = stays.told then.0 then.1 in
            let is : last.0 ≡ first.0 = same_Some last.0 first.0 (sym last.1 ∙ first.1) in
            (first.0, first.1, rows_push (take i ts) t m first.0 first.2 (subst (λ (n : Holding). KeepsRows t.name m n) is (last.2 ∙ (own m then.0 then.2).rows)));
        untold = λ none. stays.untold (was.rows.untold none);
      });
      behind = files_behind told now next i ts but was;
    }

-- why a table is not closed
refuses_closing : (t : OpenTable) (f : ChangeFault) → ((by : Cause) → t.broken ≡ Some by → f ≡ fault.Broken by) → (t.broken ≡ None → CutsOff f) → RefusesClosing t f
refuses_closing t f first cuts = by t.broken refl
  where
    cut : (g : ChangeFault) → t.broken ≡ None → CutsOff g → RefusesClosing t g
    cut (fault.Broken by) none off = elim off [ ]
    cut (fault.NoRow at) none off = elim off [ ]
    cut (fault.Duplicate key at) none off = elim off [ ]
    cut fault.Full none off = elim off [ ]
    cut (fault.Damaged at) none off = elim off [ ]
    cut fault.File none off = none
    cut fault.Memory none off = none

    by : (o : Option Cause) → t.broken ≡ o → RefusesClosing t f
    by None is = cut f is (cuts is)
    by (Some cause) is = subst (RefusesClosing t) (sym (first cause is)) is

nothing_done : (told now next : Option Holding) (t : OpenTable) (f : ChangeFault) → RefusesClosing t f → ((by : Cause) → t.broken ≡ Some by → next ≡ now) → Told told now (Keeps t) → IfBroken f (Told told next (Keeps t))
nothing_done told now next t (fault.Broken by) refuses stays keeps = subst (λ (o : Option Holding). Told told o (Keeps t)) (sym (stays by refuses)) keeps
nothing_done told now next t (fault.NoRow at) refuses stays keeps = tt
nothing_done told now next t (fault.Duplicate key at) refuses stays keeps = tt
nothing_done told now next t fault.Full refuses stays keeps = tt
nothing_done told now next t (fault.Damaged at) refuses stays keeps = tt
nothing_done told now next t fault.File refuses stays keeps = tt
nothing_done told now next t fault.Memory refuses stays keeps = tt

-- closing stops there
pub stops_at : (told now next : Option Holding) (i : ℕ) (ts : List OpenTable) (t : OpenTable) (f : ChangeFault) → IsDistinct bytes_eq (map (λ (u : OpenTable). u.name) ts) → i < length ts → get_or ts i t ≡ t → Told now next (KeepsOthers t.name) → AreWhole (take i ts)
    → ((by : Cause) → t.broken ≡ Some by → (f ≡ fault.Broken by) × (next ≡ now)) → (t.broken ≡ None → CutsOff f) → Told now next (KeepsRows t.name) → StopsAt told now i ts → StopsAtTable told next ts f
stops_at told now next i ts t f once lt at others whole first cuts stays was =
    let but = before_still now next i ts t once lt at others in
    let refuses = refuses_closing t f (λ by is. (first by is).0) cuts in
    let around : ts ≡ take i ts ++ get_or ts i t ∷ drop (i + 1) ts = sym (take-append-drop i ts) ∙ ap (λ (q : List OpenTable). take i ts ++ q) (rw (add-one, drop-cons ts i t lt) refl) in
    record {
      before = take i ts;
      table = t;
      after = drop (i + 1) ts;
      parts = around ∙ ap (λ (u : OpenTable). take i ts ++ u ∷ drop (i + 1) ts) at;
      whole = whole;
      refuses = refuses;
      closed = closed_before told now next i ts but was;
      rows = rows_before told now next i ts but was;
      behind = files_behind told now next i ts but was;
      kept = told_then told now next (KeepEach (drop i ts)) (KeepsRows t.name) (KeepsRows t.name) was.behind stays (λ m n k one two. two ∙ (subst (λ (u : OpenTable). Keeps u m n) at (keep_at i ts t m n lt one)).rows);
      nothing = nothing_done told now next t f refuses (λ by is. (first by is).1) (record {
        told = λ m held. let then = was.behind.told m held in (then.0, then.1, subst (λ (u : OpenTable). Keeps u m then.0) at (keep_at i ts t m then.0 lt then.2));
        untold = was.behind.untold;
      });
    }

-- all are closed
pub stops_all : (told now : Option Holding) (i : ℕ) (ts : List OpenTable) → i ≡ length ts → StopsAt told now i ts → AllByRecursion (ClosesOne told now) ts × Told told now (KeepEachRows ts)
stops_all told now i ts is was =
    let all : take i ts ≡ ts = take_all i ts (omega (arith, is)) in
    (subst (AllByRecursion (ClosesOne told now)) all was.closed, subst (λ (us : List OpenTable). Told told now (KeepEachRows us)) all was.rows)
