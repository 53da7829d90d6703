-- Readings of all tables: how they begin, one row more, and their end.
use Rattle.std.proofs.Common.{◌≡◌, ℕ, zero, suc, ◌+◌, ◌<◌, ◌≤◌, List, [], ◌∷◌, ◌++◌, length, map, take, get_or, set, slice_get, Option, Some, None, refl, sym, ap, subst, ◌∙◌, arith}
use Rattle.std.specs.Prelude.{IfSome, IfErr, Result, Ok, Err, bytes_eq}
use Rattle.std.specs.List.{AllByRecursion, IsDistinct}
use Rattle.std.proofs.lemmas.List.{map-append}
use Rattle.std.proofs.lemmas.Option.{same_Some}
use Rattle.myi_base.specs.Holding.{Holding, Told, OthersStay}
use Rattle.myi_opening.specs.Names.{index_file}
use Rattle.myi_defs.specs.declared.types.Defs.{Defs}
use Rattle.myi_pack.specs.Packed.{Values}
use Rattle.myi_state.specs.State.{TableState, row_at}
use Rattle.myi_keys.specs.declared.values.KeySeg.{KeySeg}
use Rattle.myi_tablestate.specs.Listed.{listed}
use Rattle.myi_ranges.specs.declared.ranges.RangeRows.{RangeRows}
use Rattle.myi_ranges.specs.Ranges.{begin_at, searches, ReadsAhead, ReadInFew}
use Rattle.myi_table.specs.declared.ranges.Range.{Range}
use Rattle.myi_table.specs.declared.fault.ReadFault.{ReadFault}
use Rattle.myi_table.specs.declared.fault.ReadFault.TheVariants as fault
use Rattle.myi_table.specs.declared.fault.Cause.{Cause}
use Rattle.myi_table.specs.Faults.{NeverDamaged, IsBrokenFor}
use Rattle.myi_table.specs.Table.{OpenTable, defs_in, IfHolds, IsKept, KeepsOthers}
use Rattle.myi_table.specs.Reading.{IsAhead, IsSameReading, IfBroken, begun}
use Rattle.myi_merge.specs.declared.ranges.Head.{Head}
use Rattle.myi_merge.specs.declared.ranges.Reading.{Reading}
use Rattle.myi_merge.specs.Merged.{IsSoundTable, AreAlike, HoldEach, IfHoldEach, AreKept, AreWhole, IsRefusedFor}
use Rattle.myi_merge.specs.Reading.{MergedRow, answered, AnswersMerged, IsOnlyRead, AreCarried}
use Rattle.myi_merge.specs.Merging.{answer_of, IsNextOf, IsLeast, Reads, ReadEach, ReadInFewEach, SearchesOnce, AheadEach, AtTable, KeepBut, IsOneRead, IsNotBroken}
use Rattle.myi_merge.proofs.FrameLemmas.{Rests, as_many, all_set, keep_but}
use Rattle.myi_merge.proofs.CarryLemmas.{others_then, index_then, each_then, as_long, index_alone, carried_one, carried_none}
use Rattle.myi_merge.proofs.FewLemmas.{few_first, few_next, few_push, few_set, few_end}
use Rattle.myi_merge.proofs.AheadLemmas.{ahead_at, ahead_each, ahead_but, ahead_push, each_push, take_next, keep_before, all_take}
use Rattle.myi_merge.proofs.ReadLemmas.{RowsMatch, reads_none}
use Rattle.myi_merge.proofs.MergeLemmas.{Merges, row_of_index, merges_none, merges_more, merges_all}
use Rattle.myi_merge.proofs.TableLemmas.{found, got, is_inside, set_get, map_at, take_push, hold_get, like_all, like_at}

-- ---- calls one after the other

pub carried_then : (told mid next : Option Holding) (old half new : List OpenTable) → AreCarried told mid old half → AreCarried mid next half new → AreCarried told next old new
carried_then told mid next old half new one two = record {
  kept = two.kept;
  still = λ m held ss h. let then = one.still m held ss h in two.still then.0 then.1 ss then.2;
  names = two.names ∙ one.names;
  defs = two.defs ∙ one.defs;
  broken = two.broken ∙ one.broken;
  sound = two.sound;
  each = each_then told mid next old half new one.each two.each;
  indexes = index_then told mid next old half one.names one.indexes two.indexes;
  others = others_then told mid next old half one.names one.others two.others;
}

pub as_many_carried : (told next : Option Holding) (old new : List OpenTable) → AreCarried told next old new → length new ≡ length old
as_many_carried told next old new c = sym (as_long (λ (t : OpenTable). t.name) new) ∙ ap length c.names ∙ as_long (λ (t : OpenTable). t.name) old

-- what was told before was told then
pub never_then : (told mid : Option Holding) (old half : List OpenTable) (f : ReadFault) → AreCarried told mid old half → NeverDamaged mid f → NeverDamaged told f
never_then told mid old half (fault.Broken by) c never = tt
never_then told mid old half (fault.Damaged at) c never = by told refl
  where
    by : (o : Option Holding) → told ≡ o → told ≡ None
    by None is = is
    by (Some m) is = let then = c.others.told m is in absurd (let bad : ◌≡◌ {A = Option Holding} None (Some then.0) = sym never ∙ then.1 in cc)
never_then told mid old half fault.File c never = tt
never_then told mid old half fault.Memory c never = tt

pub refused_whole : (ts : List OpenTable) (f : ReadFault) → AreWhole ts → IsNotBroken f → IsRefusedFor ts f
refused_whole ts (fault.Broken by) whole not = elim not [ ]
refused_whole ts (fault.Damaged at) whole not = whole
refused_whole ts fault.File whole not = whole
refused_whole ts fault.Memory whole not = whole

not_broken_by : (broken : Option Cause) (f : ReadFault) → broken ≡ None → IsBrokenFor broken f → IsNotBroken f
not_broken_by broken (fault.Broken by) none for = absurd (let bad : ◌≡◌ {A = Option Cause} None (Some by) = sym none ∙ for in cc)
not_broken_by broken (fault.Damaged at) none for = tt
not_broken_by broken fault.File none for = tt
not_broken_by broken fault.Memory none for = tt

whole_at : (ts : List OpenTable) (i : ℕ) (t : OpenTable) → AreWhole ts → slice_get ts i ≡ Some t → t.broken ≡ None
whole_at [] i t whole is = absurd cc
whole_at (u ∷ ts) zero t whole is = subst (λ (v : OpenTable). v.broken ≡ None) (same_Some u t is) whole.0
whole_at (u ∷ ts) (suc i) t whole is = whole_at ts i t whole.1 is

-- a reading of tables that were not broken is not refused for one that is
pub not_broken : (told mid : Option Holding) (old half : List OpenTable) (i : ℕ) (f : ReadFault) → i < length old → AreWhole old → AreCarried told mid old half → AtTable half i (λ t. IsBrokenFor t.broken f) → IsNotBroken f
not_broken told mid old half i f lt whole c first =
    let long = as_many_carried told mid old half c in
    let u = found half i (omega (arith, lt, long)) in
    let t = found old i lt in
    not_broken_by u.0.broken f (map_at (λ (v : OpenTable). v.broken) half old i u.0 t.0 c.broken u.1 t.1 ∙ whole_at old i t.0 whole t.1) (first u.0 u.1)

-- ---- the next row of the table of that number

-- for the tables as they stood first
of_half : (told mid : Option Holding) (old half : List OpenTable) (i : ℕ) (P : Defs → TableState → Type 0) → AreCarried told mid old half → AtTable half i (λ t. IfHolds mid t (λ m s. P (defs_in t) s)) → (m : Holding) → told ≡ Some m → (ss : List TableState) → HoldEach old ss m
    → (t : OpenTable) (s : TableState) → slice_get old i ≡ Some t → slice_get ss i ≡ Some s → P (defs_in t) s
of_half told mid old half i P c next m held ss h t s at there =
    let then = c.still m held ss h in
    let long = as_many_carried told mid old half c in
    let lt = is_inside old i t at in
    let u = found half i (omega (arith, lt, long)) in
    subst (λ (d : Defs). P d s) (map_at defs_in half old i u.0 t c.defs u.1 at) (next u.0 u.1 then.0 then.1 s (hold_get half ss then.0 i u.0 s then.2 u.1 there))

pub next_at : (told mid : Option Holding) (old half : List OpenTable) (i : ℕ) (before after : RangeRows) (head : Option Head) → AreCarried told mid old half → AtTable half i (λ t. IfHolds mid t (λ m s. IsNextOf (defs_in t) s before after head)) → (m : Holding) → told ≡ Some m → (ss : List TableState) → HoldEach old ss m
    → (t : OpenTable) (s : TableState) → slice_get old i ≡ Some t → slice_get ss i ≡ Some s → IsNextOf (defs_in t) s before after head
next_at told mid old half i before after head c next m held ss h t s at there = of_half told mid old half i (λ d s. IsNextOf d s before after head) c next m held ss h t s at there

-- ---- the beginning

pub begin_more : (told mid : Option Holding) (range : Range) (i : ℕ) (old half : List OpenTable) (rs : List Reading) (rows : RangeRows) (head : Option Head) → i < length old → AreCarried told mid old half → IsSameReading (begun range) rows
    → AtTable half i (λ t. IfHolds mid t (λ m s. IsNextOf (defs_in t) s (begun range) rows head)) → IfHoldEach told old (λ m ss. ReadEach range 1 (take i old) (take i ss) rs [])
    → IfHoldEach told old (λ m ss. ReadEach range 1 (take (i + 1) old) (take (i + 1) ss) (rs ++ record { rows = rows; head = head } ∷ []) [])
begin_more told mid range i old half rs rows head lt c same next so = λ m held ss h.
    let many = as_many old ss m h in
    let t = found old i lt in
    let s = found ss i (omega (arith, lt, many)) in
    let r : Reading = record { rows = rows; head = head } in
    let hold = hold_get old ss m i t.0 s.0 h t.1 s.1 in
    let one : Reads (defs_in t.0) s.0 (begun range) r [] = reads_none (defs_in t.0) s.0 (begun range) rows head hold.files.table.table.state.rows same (next_at told mid old half i (begun range) rows head c next m held ss h t.0 s.0 t.1 s.1) in
    let all = each_push range 1 (take i old) (take i ss) rs t.0 s.0 r (so m held ss h) one in
    subst (λ (ts : List OpenTable). ReadEach range 1 ts (take (i + 1) ss) (rs ++ r ∷ []) []) (sym (take_push old i t.0 t.1))
    (subst (λ (us : List TableState). ReadEach range 1 (take i old ++ t.0 ∷ []) us (rs ++ r ∷ []) []) (sym (take_push ss i s.0 s.1)) all)

-- how often files were read then
pub few_more : (told mid : Option Holding) (range : Range) (i : ℕ) (old half : List OpenTable) (rs : List Reading) (rows : RangeRows) (head : Option Head) (a b c : ℕ) → i < length old → AreCarried told mid old half
    → AtTable half i (λ t. IfHolds mid t (λ m s. ReadInFew (defs_in t) s (begun range) (answer_of head) b c)) → IfHoldEach told old (λ m ss. ReadInFewEach range 1 (take i old) (take i ss) rs [] a b)
    → IfHoldEach told old (λ m ss. ReadInFewEach range 1 (take (i + 1) old) (take (i + 1) ss) (rs ++ record { rows = rows; head = head } ∷ []) [] a c)
few_more told mid range i old half rs rows head a b c lt carried few so = λ m held ss h.
    let many = as_many old ss m h in
    let t = found old i lt in
    let s = found ss i (omega (arith, lt, many)) in
    let r : Reading = record { rows = rows; head = head } in
    let one = few_first (defs_in t.0) s.0 range head b c (of_half told mid old half i (λ d s. ReadInFew d s (begun range) (answer_of head) b c) carried few m held ss h t.0 s.0 t.1 s.1) in
    let all = few_push range 1 (take i old) (take i ss) rs t.0 s.0 r a b c (so m held ss h) one in
    subst (λ (ts : List OpenTable). ReadInFewEach range 1 ts (take (i + 1) ss) (rs ++ r ∷ []) [] a c) (sym (take_push old i t.0 t.1))
    (subst (λ (us : List TableState). ReadInFewEach range 1 (take i old ++ t.0 ∷ []) us (rs ++ r ∷ []) [] a c) (sym (take_push ss i s.0 s.1)) all)

pub ahead_more : Rests → (mid next : Option Holding) (i : ℕ) (half new : List OpenTable) (rs : List Reading) (r : Reading) → i < length half → AllByRecursion IsSoundTable half → IsOneRead mid next i half new → AtTable new i (λ t. IfHolds next t (λ m s. IsAhead t r.rows s))
    → AheadEach mid (take i half) rs → AheadEach next (take (i + 1) new) (rs ++ r ∷ [])
ahead_more rests mid next i half new rs r lt sound one ahead so =
    let t : OpenTable = one.table in
    let there : slice_get new i ≡ Some t = ap (λ (ts : List OpenTable). slice_get ts i) one.tables ∙ set_get half i t lt in
    let before : AheadEach next (take i half) rs = ahead_each rests (take i half) rs mid next (KeepBut i half) (all_take IsSoundTable half i sound) one.keeps (λ m n keep. keep_before half i m n keep) so in
    subst (λ (ts : List OpenTable). AheadEach next ts (rs ++ r ∷ [])) (sym (ap (take (i + 1)) one.tables ∙ take_next half i t lt)) (ahead_push next (take i half) rs t r before (ahead t there))

-- ---- one row more

-- these rows came so far, in few reads
abbrev pub MergesTo : Defs → Range → List OpenTable → List TableState → List Reading → ℕ → ℕ → List (ℕ × ℕ × Values) → Type 0
MergesTo d range ts ss rs a b answer = (came : List MergedRow) × (answer ≡ map answered came) × Merges d range ts ss rs came × ReadInFewEach range 1 ts ss rs came a b

if_some_more : {A : Type 0} (o : Option A) (P Q : A → Type 0) → ((a : A) → o ≡ Some a → P a → Q a) → IfSome o P → IfSome o Q
if_some_more None P Q go p = tt
if_some_more (Some a) P Q go p = go a refl p

if_some_all : {A : Type 0} (o : Option A) (Q : A → Type 0) → ((a : A) → o ≡ Some a → Q a) → IfSome o Q
if_some_all None Q go = tt
if_some_all (Some a) Q go = go a refl

pub merges_begin : (told : Option Holding) (range : Range) (old : List OpenTable) (rs : List Reading) (a b : ℕ) → IfHoldEach told old (λ m ss. ReadEach range 1 old ss rs []) → IfHoldEach told old (λ m ss. ReadInFewEach range 1 old ss rs [] a b)
    → IfHoldEach told old (λ m ss. IfSome (slice_get old 0) (λ (f : OpenTable). MergesTo (defs_in f) range old ss rs a b []))
merges_begin told range old rs a b each few = λ m held ss h. if_some_all (slice_get old 0) (λ (f : OpenTable). MergesTo (defs_in f) range old ss rs a b []) (λ f is. ([], refl, merges_none (defs_in f) range old ss rs (each m held ss h), few m held ss h))

pub merges_on : (told mid : Option Holding) (range : Range) (i : ℕ) (old half : List OpenTable) (rs : List Reading) (was : Reading) (h : Head) (rows : RangeRows) (head : Option Head) (answer : List (ℕ × ℕ × Values)) (a b c : ℕ) → AreAlike old → AreCarried told mid old half
    → slice_get rs i ≡ Some was → was.head ≡ Some h → IsLeast rs i → IsSameReading was.rows rows → AtTable half i (λ t. IfHolds mid t (λ m s. IsNextOf (defs_in t) s was.rows rows head))
    → was.rows.key ≡ range.key → searches was.rows.reached ≤ 1 → AtTable half i (λ t. IfHolds mid t (λ m s. ReadInFew (defs_in t) s was.rows (answer_of head) b c))
    → IfHoldEach told old (λ m ss. IfSome (slice_get old 0) (λ (f : OpenTable). MergesTo (defs_in f) range old ss rs a b answer))
    → IfHoldEach told old (λ m ss. IfSome (slice_get old 0) (λ (f : OpenTable). MergesTo (defs_in f) range old ss (set rs i (record { rows = rows; head = head })) a c (answer ++ (i + 1, h.at, h.row) ∷ [])))
merges_on told mid range i old half rs was h rows head answer a b c alike carried at is least same next key once few so = λ m held ss holds.
    if_some_more (slice_get old 0) (λ (f : OpenTable). MergesTo (defs_in f) range old ss rs a b answer) (λ (f : OpenTable). MergesTo (defs_in f) range old ss (set rs i (record { rows = rows; head = head })) a c (answer ++ (i + 1, h.at, h.row) ∷ []))
    (λ f first came.
    let new : Reading = record { rows = rows; head = head } in
    let more = merges_more (defs_in f) range old ss rs i came.0 was new h at is least same (λ t s at_t at_s. (hold_get old ss m i t s holds at_t at_s).files.table.table.state.rows) (λ t s at_t at_s. like_at old f i t alike first at_t)
    (λ t s at_t at_s. next_at told mid old half i was.rows rows head carried next m held ss holds t s at_t at_s) came.2 in
    let o = row_of_index range 1 i old ss rs came.0 was came.2.reads at in
    let t : OpenTable = o.0 in
    let s : TableState = o.1 in
    let one = few_next (defs_in t) s was.rows head range.key b c once key (of_half told mid old half i (λ d s. ReadInFew d s was.rows (answer_of head) b c) carried few m held ss holds t s o.2 o.3) in
    let there : row_at h.at s.rows ≡ Some more.0 = subst (λ (p : ℕ). row_at p s.rows ≡ Some more.0) more.1 (more.3 t s o.2 o.3) in
    let reads = few_set range 1 i old ss rs came.0 t s was new h more.0 a b c o.2 o.3 at is there one came.3 in
    let x : MergedRow = record { table = 1 + i; row = more.0 } in
    let number : 1 + i ≡ i + 1 = omega arith in
    let row : ◌≡◌ {A = ℕ × ℕ × Values} (i + 1, h.at, h.row) (answered x) = ap (λ (n : ℕ). (n, h.at, h.row)) (sym number) ∙ ap (λ (p : ℕ). (1 + i, p, h.row)) (sym more.1) ∙ ap (λ (v : Values). (1 + i, more.0.at, v)) (sym more.2) in (
      came.0 ++ x ∷ [],
      ap (λ (l : List (ℕ × ℕ × Values)). l ++ (i + 1, h.at, h.row) ∷ []) came.1 ∙ ap (λ (y : ℕ × ℕ × Values). map answered came.0 ++ y ∷ []) row ∙ sym (map-append answered came.0 (x ∷ [])),
      more.4,
      reads,
    ))
    (so m held ss holds)

pub merges_end : RowsMatch → (told : Option Holding) (range : Range) (old : List OpenTable) (rs : List Reading) (a b : ℕ) (answer : List (ℕ × ℕ × Values)) → AreAlike old → AllByRecursion IsSoundTable old → AllByRecursion (λ (r : Reading). r.head ≡ None) rs
    → IfHoldEach told old (λ m ss. IfSome (slice_get old 0) (λ (f : OpenTable). MergesTo (defs_in f) range old ss rs a b answer)) → IfHoldEach told old (λ m ss. IfSome (slice_get old 0) (λ (f : OpenTable). AnswersMerged (defs_in f) old ss range a b answer))
merges_end law told range old rs a b answer alike sound none so = λ m held ss holds.
    if_some_more (slice_get old 0) (λ (f : OpenTable). MergesTo (defs_in f) range old ss rs a b answer) (λ (f : OpenTable). AnswersMerged (defs_in f) old ss range a b answer)
    (λ f first came. record {
      found = came.0;
      rows = came.1;
      merged = merges_all law (defs_in f) range old ss rs came.0 m sound holds (like_all old f alike first) none came.2;
      few = few_end range 1 old ss rs came.0 a b none came.3;
    })
    (so m held ss holds)

-- ---- the readings of a turn

-- the next search of the reading that has a next row is the only one
pub once_at : (rs : List Reading) (i : ℕ) (r : Reading) (h : Head) → AllByRecursion (λ (q : Reading). SearchesOnce q.rows q.head) rs → slice_get rs i ≡ Some r → r.head ≡ Some h → searches r.rows.reached ≤ 1
once_at [] i r h all at is = absurd cc
once_at (q ∷ rs) zero r h all at is = subst (SearchesOnce r.rows) is (subst (λ (p : Reading). SearchesOnce p.rows p.head) (same_Some q r at) all.0)
once_at (q ∷ rs) (suc i) r h all at is = once_at rs i r h all.1 at is

pub once_set : (rs : List Reading) (i : ℕ) (new : Reading) → AllByRecursion (λ (q : Reading). SearchesOnce q.rows q.head) rs → SearchesOnce new.rows new.head → AllByRecursion (λ (q : Reading). SearchesOnce q.rows q.head) (set rs i new)
once_set rs i new all one = all_set (λ (q : Reading). SearchesOnce q.rows q.head) rs i new all one

pub once_push : (rs : List Reading) (r : Reading) → AllByRecursion (λ (q : Reading). SearchesOnce q.rows q.head) rs → SearchesOnce r.rows r.head → AllByRecursion (λ (q : Reading). SearchesOnce q.rows q.head) (rs ++ r ∷ [])
once_push [] r all one = (one, tt)
once_push (q ∷ rs) r all one = (all.0, once_push rs r all.1 one)

pub ahead_long : (told : Option Holding) (ts : List OpenTable) (rs : List Reading) → AheadEach told ts rs → length rs ≡ length ts
ahead_long told [] [] ahead = refl
ahead_long told [] (r ∷ rs) ahead = elim ahead [ ]
ahead_long told (t ∷ ts) [] ahead = elim ahead [ ]
ahead_long told (t ∷ ts) (r ∷ rs) ahead = let more = ahead_long told ts rs ahead.1 in omega (arith, more)

pub has_then : (old half : List OpenTable) (key : ℕ) → map defs_in half ≡ map defs_in old → IfSome (slice_get old 0) (λ (t : OpenTable). key < length (defs_in t).keys) → IfSome (slice_get half 0) (λ (t : OpenTable). key < length (defs_in t).keys)
has_then old [] key same has = tt
has_then [] (u ∷ us) key same has = absurd cc
has_then (t ∷ ts) (u ∷ us) key same has = subst (λ (d : Defs). key < length d.keys) (sym (map_at defs_in (u ∷ us) (t ∷ ts) 0 u t same refl refl)) has

pub same_at : (b : RangeRows) (rs : List Reading) (i : ℕ) (r : Reading) → AllByRecursion (λ (q : Reading). IsSameReading b q.rows) rs → slice_get rs i ≡ Some r → IsSameReading b r.rows
same_at b [] i r all is = absurd cc
same_at b (q ∷ rs) zero r all is = subst (λ (p : Reading). IsSameReading b p.rows) (same_Some q r is) all.0
same_at b (q ∷ rs) (suc i) r all is = same_at b rs i r all.1 is

pub same_then : (b r n : RangeRows) → IsSameReading b r → IsSameReading r n → IsSameReading b n
same_then b r n was same = same ∙ ap (λ (q : RangeRows). record q { reached = n.reached }) was

pub same_set : (b : RangeRows) (rs : List Reading) (i : ℕ) (r new : Reading) → AllByRecursion (λ (q : Reading). IsSameReading b q.rows) rs → slice_get rs i ≡ Some r → IsSameReading r.rows new.rows → AllByRecursion (λ (q : Reading). IsSameReading b q.rows) (set rs i new)
same_set b rs i r new all is same = all_set (λ (q : Reading). IsSameReading b q.rows) rs i new all (same_then b r.rows new.rows (same_at b rs i r all is) same)

pub same_push : (b : RangeRows) (rs : List Reading) (r : Reading) → AllByRecursion (λ (q : Reading). IsSameReading b q.rows) rs → IsSameReading b r.rows → AllByRecursion (λ (q : Reading). IsSameReading b q.rows) (rs ++ r ∷ [])
same_push b [] r all same = (same, tt)
same_push b (q ∷ rs) r all same = (all.0, same_push b rs r all.1 same)

pub ahead_of : (told : Option Holding) (ts : List OpenTable) (rs : List Reading) (i : ℕ) (r : Reading) → AheadEach told ts rs → slice_get rs i ≡ Some r → AtTable ts i (λ t. IfHolds told t (λ m s. IsAhead t r.rows s))
ahead_of told ts rs i r ahead is = λ t at. ahead_at told ts rs i t r ahead (is_inside ts i t at) (got ts i t t at) is

pub ahead_turn : Rests → (mid next : Option Holding) (i : ℕ) (half new : List OpenTable) (rs : List Reading) (r : Reading) → i < length half → AllByRecursion IsSoundTable half → IsOneRead mid next i half new → AtTable new i (λ t. IfHolds next t (λ m s. IsAhead t r.rows s))
    → AheadEach mid half rs → AheadEach next new (set rs i r)
ahead_turn rests mid next i half new rs r lt sound one ahead so =
    let t : OpenTable = one.table in
    let there : slice_get new i ≡ Some t = ap (λ (ts : List OpenTable). slice_get ts i) one.tables ∙ set_get half i t lt in
    subst (λ (ts : List OpenTable). AheadEach next ts (set rs i r)) (sym one.tables) (ahead_but rests half rs i t r mid next (KeepBut i half) sound one.keeps (λ m n keep. keep) so (ahead t there))

-- before anything is read, nothing is read ahead
pub begun_ahead : (told : Option Holding) (ts : List OpenTable) (i : ℕ) (range : Range) → AtTable ts i (λ t. IfHolds told t (λ m s. IsAhead t (begun range) s))
begun_ahead told ts i range = λ t at m held s h. by range.from t s
  where
    by : (o : Option (List KeySeg)) (t : OpenTable) (s : TableState) → ReadsAhead (begin_at o) (listed (defs_in t) (suc range.key) s.rows)
    by None t s = tt
    by (Some low) t s = tt

-- ---- one table is read

pub one_read : (told next : Option Holding) (ts : List OpenTable) (i : ℕ) (t new : OpenTable) → IsDistinct bytes_eq (map (λ (u : OpenTable). u.name) ts) → i < length ts → get_or ts i t ≡ t → Told told next (OthersStay (index_file t.name)) → IsOneRead told next i ts (set ts i new)
one_read told next ts i t new once lt at others =
    let stay = index_alone t.name told next others in
    record {
      table = new;
      tables = refl;
      keeps = record {
        told = λ m held. let then = stay.told m held in (then.0, then.1, keep_but ts i t m then.0 once lt (subst (λ (u : OpenTable). KeepsOthers u.name m then.0) (sym at) then.2));
        untold = stay.untold;
      };
    }

pub carried_at : Rests → (told next : Option Holding) (ts : List OpenTable) (i : ℕ) (t new : OpenTable) → IsDistinct bytes_eq (map (λ (u : OpenTable). u.name) ts) → AllByRecursion IsSoundTable ts → i < length ts → get_or ts i t ≡ t → AreKept told ts
    → IsOnlyRead told next t new → IsKept next new → IsSoundTable new → Told told next (OthersStay (index_file t.name)) → AreCarried told next ts (set ts i new)
carried_at rests told next ts i t new once all lt at kept only stays sound others = carried_one rests told told next ts ts i t new once lt at (carried_none told told ts refl kept all) only stays sound others

pub if_err_more : {X Y : Type 0} (r : Result X Y) (P Q : Y → Type 0) → ((y : Y) → P y → Q y) → IfErr r P → IfErr r Q
if_err_more (Ok x) P Q go p = tt
if_err_more (Err y) P Q go p = go y p

-- ---- a list in which a table is broken

pub if_broken : (f : ReadFault) (P : Type 0) → P → IfBroken f P
if_broken (fault.Broken by) P p = p
if_broken (fault.Damaged at) P p = tt
if_broken fault.File P p = tt
if_broken fault.Memory P p = tt

pub if_not_broken : (f : ReadFault) (P : Type 0) → IsNotBroken f → IfBroken f P
if_not_broken (fault.Broken by) P not = elim not [ ]
if_not_broken (fault.Damaged at) P not = tt
if_not_broken fault.File P not = tt
if_not_broken fault.Memory P not = tt
