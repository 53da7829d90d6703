-- Rows of which none repeats another, of which one comes, goes or gets other values.
use Rattle.std.proofs.Common.{◌≡◌, ℕ, Bool, true, false, cond, ◌&&◌, ◌||◌, List, [], ◌∷◌, ◌++◌, Option, Some, None, refl, sym, ap, subst, ◌∙◌}
use Rattle.std.specs.Prelude.{◌==◌, nat_lt}
use Rattle.std.specs.List.{AllByRecursion, list_any}
use Rattle.std.specs.Cmp.{both_ways}
use Rattle.std.specs.Ordering.{is_eq}
use Rattle.std.specs.declared.cmp.Ordering.{Ordering}
use Rattle.std.specs.declared.cmp.Ordering.TheVariants.{Less, Equal, Greater}
use Rattle.std.proofs.lemmas.Cmp.{tied_itself}
use Rattle.myi_defs.specs.declared.types.Defs.{Defs}
use Rattle.myi_pack.specs.Packed.{Values}
use Rattle.myi_keys.specs.declared.values.KeySeg.{KeySeg}
use Rattle.myi_keys.specs.Limits.{is_complete}
use Rattle.myi_keys.specs.Order.{key_cmp}
use Rattle.myi_keys.specs.OrderLaws.{key_total, key_exact}
use Rattle.myi_keylist.specs.Repeats.{is_same_key}
use Rattle.myi_data.specs.Keys.{key_of}
use Rattle.myi_rowkeys.specs.TableKeys.{key_numbers, is_unique}
use Rattle.myi_state.specs.State.{StoredRow, put_row, rows_without}
use Rattle.myi_pair.specs.FirstRows.{repeats_key, repeats, AreDistinct}
use Rattle.myi_tablestate.specs.Keyed.{values_in_rows, holder, Holder, or_later, first_holder}

-- ---- one complete key

same_by : (key other : List KeySeg) (whole : Bool) (o : Ordering) → is_complete key ≡ whole → key_cmp key other ≡ o → (whole && is_eq o) ≡ true → (is_complete key ≡ true) × (key ≡ other)
same_by key other false o w k is = absurd cc
same_by key other true Less w k is = absurd cc
same_by key other true Equal w k is = (w, key_exact key other k)
same_by key other true Greater w k is = absurd cc

pub same_is : (key other : List KeySeg) → is_same_key key other ≡ true → (is_complete key ≡ true) × (key ≡ other)
same_is key other is = same_by key other (is_complete key) (key_cmp key other) refl refl is

pub same_self : (key other : List KeySeg) → is_complete key ≡ true → key ≡ other → is_same_key key other ≡ true
same_self key other whole same = subst (λ (k : List KeySeg). is_same_key key k ≡ true) same (rw whole (ap is_eq (tied_itself key_total key)))

same_turned : (key other : List KeySeg) → is_same_key key other ≡ true → is_same_key other key ≡ true
same_turned key other is =
    let s = same_is key other is in
    same_self other key (subst (λ (k : List KeySeg). is_complete k ≡ true) s.1 s.0) (sym s.1)

same_both : (key other : List KeySeg) → is_same_key key other ≡ is_same_key other key
same_both key other = both_ways (is_same_key key other) (is_same_key other key) (same_turned key other) (same_turned other key)

any_turned : (d : Defs) (a b : Values) (ks : List ℕ) → list_any (repeats_key d a b) ks ≡ list_any (repeats_key d b a) ks
any_turned d a b [] = refl
any_turned d a b (k ∷ ks) =
    ap (λ (t : Bool). (is_unique d k && t) || list_any (repeats_key d a b) ks) (same_both (key_of d k a) (key_of d k b))
    ∙ ap (λ (t : Bool). repeats_key d b a k || t) (any_turned d a b ks)

pub turned : (d : Defs) (a b : Values) → repeats d a b ≡ repeats d b a
unfolding repeats
turned d a b = any_turned d a b (key_numbers d)

-- ---- none repeats another

-- the rows do not repeat the one with these values
abbrev pub AreOthers : Defs → Values → List StoredRow → Type 0
AreOthers d values rows = AllByRecursion (λ (q : StoredRow). repeats d q.values values ≡ false) rows

abbrev pub Differ : Defs → List StoredRow → Type 0
Differ d [] = Unit {0}
Differ d (r ∷ rows) = AreOthers d r.values rows × Differ d rows

-- none of them repeats one of these
abbrev AreNew : Defs → List Values → List StoredRow → Type 0
AreNew d before rows = AllByRecursion (λ (r : StoredRow). list_any (repeats d r.values) before ≡ false) rows

any_more : (f : Values → Bool) (before : List Values) (x : Values) → list_any f (before ++ x ∷ []) ≡ (list_any f before || f x)
any_more f [] x = by (f x)
  where
    by : (b : Bool) → (b || false) ≡ b
    by true = refl
    by false = refl
any_more f (y ∷ before) x = by (f y) (any_more f before x)
  where
    by : (b : Bool) → list_any f (before ++ x ∷ []) ≡ (list_any f before || f x) → (b || list_any f (before ++ x ∷ [])) ≡ ((b || list_any f before) || f x)
    by true more = refl
    by false more = more

neither : (a b : Bool) → (a || b) ≡ false → (a ≡ false) × (b ≡ false)
neither true b none = absurd cc
neither false b none = (refl, none)

both_not : (a b : Bool) → a ≡ false → b ≡ false → (a || b) ≡ false
both_not a b one two = ap (λ (x : Bool). x || b) one ∙ two

news_parts : (d : Defs) (before : List Values) (x : Values) (rows : List StoredRow) → AreNew d (before ++ x ∷ []) rows → AreNew d before rows × AreOthers d x rows
news_parts d before x [] new = (tt, tt)
news_parts d before x (r ∷ rows) new =
    let both = neither (list_any (repeats d r.values) before) (repeats d r.values x) (sym (any_more (repeats d r.values) before x) ∙ new.0) in
    let more = news_parts d before x rows new.1 in
    ((both.0, more.0), (both.1, more.1))

news_more : (d : Defs) (before : List Values) (x : Values) (rows : List StoredRow) → AreNew d before rows → AreOthers d x rows → AreNew d (before ++ x ∷ []) rows
news_more d before x [] new one = tt
news_more d before x (r ∷ rows) new one =
    (any_more (repeats d r.values) before x ∙ both_not (list_any (repeats d r.values) before) (repeats d r.values x) new.0 one.0, news_more d before x rows new.1 one.1)

differ_behind : (d : Defs) (before : List Values) (rows : List StoredRow) → AreDistinct d before (values_in_rows rows) → AreNew d before rows × Differ d rows
differ_behind d before [] are = (tt, tt)
differ_behind d before (r ∷ rows) are =
    let more = differ_behind d (before ++ r.values ∷ []) rows are.1 in
    let parts = news_parts d before r.values rows more.0 in
    ((are.0, parts.0), (parts.1, more.1))

pub differ_of : (d : Defs) (rows : List StoredRow) → AreDistinct d [] (values_in_rows rows) → Differ d rows
differ_of d rows are = (differ_behind d [] rows are).1

distinct_behind : (d : Defs) (before : List Values) (rows : List StoredRow) → AreNew d before rows → Differ d rows → AreDistinct d before (values_in_rows rows)
distinct_behind d before [] new are = tt
distinct_behind d before (r ∷ rows) new are = (new.0, distinct_behind d (before ++ r.values ∷ []) rows (news_more d before r.values rows new.1 are.0) are.1)

none_before : (d : Defs) (rows : List StoredRow) → AreNew d [] rows
none_before d [] = tt
none_before d (r ∷ rows) = (refl, none_before d rows)

pub of_differ : (d : Defs) (rows : List StoredRow) → Differ d rows → AreDistinct d [] (values_in_rows rows)
of_differ d rows are = distinct_behind d [] rows (none_before d rows) are

-- ---- rows that come and go

put_others : (d : Defs) (values : Values) (r : StoredRow) (rows : List StoredRow) → repeats d r.values values ≡ false → AreOthers d values rows → AreOthers d values (put_row r rows)
put_others d values r [] own all = (own, tt)
put_others d values r (q ∷ rows) own all = choose (nat_lt q.at r.at) (put_others d values r rows own all.1)
  where
    choose : (b : Bool) → AreOthers d values (put_row r rows) → AreOthers d values (cond b (q ∷ put_row r rows) (r ∷ q ∷ rows))
    choose false more = (own, all)
    choose true more = (all.0, more)

pub put_differ : (d : Defs) (r : StoredRow) (rows : List StoredRow) → AreOthers d r.values rows → Differ d rows → Differ d (put_row r rows)
put_differ d r [] new are = (tt, tt)
put_differ d r (q ∷ rows) new are = choose (nat_lt q.at r.at) (put_others d q.values r rows (turned d r.values q.values ∙ new.0) are.0) (put_differ d r rows new.1 are.1)
  where
    choose : (b : Bool) → AreOthers d q.values (put_row r rows) → Differ d (put_row r rows) → Differ d (cond b (q ∷ put_row r rows) (r ∷ q ∷ rows))
    choose false first more = (new, are)
    choose true first more = (first, more)

without_others : (d : Defs) (values : Values) (p : ℕ) (rows : List StoredRow) → AreOthers d values rows → AreOthers d values (rows_without p rows)
without_others d values p [] all = tt
without_others d values p (q ∷ rows) all = choose (q.at == p) (without_others d values p rows all.1)
  where
    choose : (b : Bool) → AreOthers d values (rows_without p rows) → AreOthers d values (cond b rows (q ∷ rows_without p rows))
    choose true more = all.1
    choose false more = (all.0, more)

pub without_differ : (d : Defs) (p : ℕ) (rows : List StoredRow) → Differ d rows → Differ d (rows_without p rows)
without_differ d p [] are = tt
without_differ d p (q ∷ rows) are = choose (q.at == p) (without_differ d p rows are.1)
  where
    choose : (b : Bool) → Differ d (rows_without p rows) → Differ d (cond b rows (q ∷ rows_without p rows))
    choose true more = are.1
    choose false more = (without_others d q.values p rows are.0, more)

-- ---- a row that no row has the key of

none_held : (d : Defs) (values : Values) (k : ℕ) (rows : List StoredRow) → holder d values k rows ≡ None → AllByRecursion (λ (q : StoredRow). repeats_key d values q.values k ≡ false) rows
none_held d values k [] none = tt
none_held d values k (q ∷ rows) none = choose (repeats_key d values q.values k) refl none (none_held d values k rows)
  where
    choose : (b : Bool) → repeats_key d values q.values k ≡ b → cond b (Some q.at) (holder d values k rows) ≡ None → (holder d values k rows ≡ None → AllByRecursion (λ (q : StoredRow). repeats_key d values q.values k ≡ false) rows) → (repeats_key d values q.values k ≡ false) × AllByRecursion (λ (q : StoredRow). repeats_key d values q.values k ≡ false) rows
    choose true is none more = absurd cc
    choose false is none more = (is, more none)

neither_held : (k : ℕ) (one : Option ℕ) (later : Option Holder) → or_later k one later ≡ None → (one ≡ None) × (later ≡ None)
neither_held k None later none = (refl, none)
neither_held k (Some at) later none = absurd cc

-- in none of these keys
abbrev LackKeys : Defs → Values → List ℕ → List StoredRow → Type 0
LackKeys d values ks rows = AllByRecursion (λ (q : StoredRow). list_any (repeats_key d values q.values) ks ≡ false) rows

lack_none : (d : Defs) (values : Values) (rows : List StoredRow) → LackKeys d values [] rows
lack_none d values [] = tt
lack_none d values (q ∷ rows) = (refl, lack_none d values rows)

lack_more : (d : Defs) (values : Values) (k : ℕ) (ks : List ℕ) (rows : List StoredRow) → AllByRecursion (λ (q : StoredRow). repeats_key d values q.values k ≡ false) rows → LackKeys d values ks rows → LackKeys d values (k ∷ ks) rows
lack_more d values k ks [] one more = tt
lack_more d values k ks (q ∷ rows) one more = (both_not (repeats_key d values q.values k) (list_any (repeats_key d values q.values) ks) one.0 more.0, lack_more d values k ks rows one.1 more.1)

lack_keys : (d : Defs) (values : Values) (rows : List StoredRow) (ks : List ℕ) → first_holder d values rows ks ≡ None → LackKeys d values ks rows
lack_keys d values rows [] none = lack_none d values rows
lack_keys d values rows (k ∷ ks) none =
    let both = neither_held k (holder d values k rows) (first_holder d values rows ks) none in
    lack_more d values k ks rows (none_held d values k rows both.0) (lack_keys d values rows ks both.1)

others_of : (d : Defs) (values : Values) (rows : List StoredRow) → LackKeys d values (key_numbers d) rows → AreOthers d values rows
unfolding repeats
others_of d values [] all = tt
others_of d values (q ∷ rows) all = (turned d q.values values ∙ all.0, others_of d values rows all.1)

-- a row that has no row's complete key repeats none and is repeated by none
pub none_repeated : (d : Defs) (values : Values) (rows : List StoredRow) → first_holder d values rows (key_numbers d) ≡ None → AreOthers d values rows
none_repeated d values rows none = others_of d values rows (lack_keys d values rows (key_numbers d) none)
