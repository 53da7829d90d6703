-- An object that stands for a table, from one call to the next.
use Rattle.std.proofs.Common.{◌≡◌, ◌≢◌, ℕ, ◌<◌, ◌+◌, ◌≤◌, List, [], ◌∷◌, length, Option, Some, None, Ok, Err, Result, refl, sym, ap, subst, ◌∙◌, arith}
use Rattle.std.specs.Prelude.{unwrap_or}
use Rattle.std.specs.List.{AllByRecursion}
use Rattle.std.proofs.lemmas.Option.{same_Some}
use Rattle.myi_base.specs.Holding.{Holding, IfTold, Told, OthersStay}
use Rattle.myi_defs.specs.declared.types.Defs.{Defs}
use Rattle.myi_defs.specs.Sound.{IsSound}
use Rattle.myi_keylist.specs.declared.pair.Pair.{Pair}
use Rattle.myi_btree.specs.declared.place.Place.{Place}
use Rattle.myi_state.specs.State.{TableState}
use Rattle.myi_state.specs.Standing.{StandsFor}
use Rattle.myi_state.specs.Numbers.{counts_of}
use Rattle.myi_state.specs.declared.counts.Counts.{Counts}
use Rattle.myi_slots.specs.SlotFile.{SlotFile, IsFileOf, IsLong}
use Rattle.myi_blocks.specs.Places.{NotedFile, IsNotedFileOf}
use Rattle.myi_insertion.specs.Rooms.{IsWhole}
use Rattle.myi_keytrees.specs.Trees.{Trees, kinds, SameKinds}
use Rattle.myi_keytrees.specs.Standing.{Stand, StandThen, StillStand}
use Rattle.myi_keytrees.proofs.CallerLemmas.{stand_follow}
use Rattle.myi_tablestate.specs.Keyed.{IsTable}
use Rattle.myi_rowtrees.specs.RowLists.{lists_of}
use Rattle.myi_keyedrows.specs.declared.keyed_rows.KeyedRows.{KeyedRows}
use Rattle.myi_keyedrows.specs.KeyedRows.{defs_of, IsFit, HoldTable, HoldThen, IsKept, StillHold}

-- what is held in two ways is one
pub told_once : (told : Option Holding) (m n : Holding) → told ≡ Some m → told ≡ Some n → m ≡ n
told_once told m n one two = same_Some m n (sym one ∙ two)

-- ---- the data file where others change

pub file_stays : (f : SlotFile) (s : TableState) (q : List ℕ) (m n : Holding) → OthersStay q m n → f.name ≢ q → IsFileOf f s m → IsFileOf f s n
file_stays f s q m n stay off is = record { counts = is.counts; stands = subst (λ (x : List ℕ). StandsFor f.defs s x) (ap (λ (o : Option (List ℕ)). unwrap_or o []) (sym (stay f.name off))) is.stands }

pub noted_stays : (f : NotedFile) (s : TableState) (q : List ℕ) (m n : Holding) → OthersStay q m n → f.file.name ≢ q → IsNotedFileOf f s m → IsNotedFileOf f s n
noted_stays f s q m n stay off is = (file_stays f.file s q m n stay off is.0, is.1)

pub file_long : (f : SlotFile) (s : TableState) (m : Holding) → IsFileOf f s m → IsLong f m
unfolding counts_of
file_long f s m is = is.stands.long ∙ sym (ap (λ (c : Counts). c.length) is.counts)

pub kept_long : (k : KeyedRows) (told : Option Holding) → IsKept told k → IfTold told (IsLong k.rows.file)
kept_long k told kept = λ m held. let h = kept m held in file_long k.rows.file h.1 m h.2.rows.0

pub kept_trees : (k : KeyedRows) (told : Option Holding) → IsKept told k → IfTold told (λ m. (own : ℕ → ℕ) × (lists : List (List Pair)) × Stand k.trees m own lists)
kept_trees k told kept = λ m held. let h = kept m held in (h.0, lists_of (defs_of k) h.1.rows, h.2.trees)

-- ---- after a search

pub look_stands : (old : KeyedRows) (trees : Trees) (told next : Option Holding) → old.rows.file.name ≢ old.trees.cache.name → StillStand told next old.trees trees → Told told next (OthersStay old.trees.cache.name)
    → StillHold told next old (record { rows = old.rows; trees = trees })
look_stands old trees told next apart still others = λ m held own s h.
    let one = still m held own (lists_of (defs_of old) s.rows) h.trees in
    let two = others.told m held in
    let stay = subst (λ (n : Holding). OthersStay old.trees.cache.name m n) (told_once next two.0 one.now two.1 one.held) two.2 in
    record {
      now = one.now;
      held = one.held;
      table = record { table = h.table; rows = noted_stays old.rows s old.trees.cache.name m one.now stay apart h.rows; trees = one.stand };
      lent = one.lent;
    }

pub hold_start : (k : KeyedRows) (m : Holding) (own : ℕ → ℕ) (told : Option Holding) (s : TableState) → told ≡ Some m → HoldTable k own s m → HoldThen k m own told k s
hold_start k m own told s held h = record { now = m; held = held; table = h; lent = λ at len x some off e. e }

pub hold_follow : (a b c : KeyedRows) (m : Holding) (own : ℕ → ℕ) (told next : Option Holding) (s t : TableState) (f : HoldThen a m own told b s) → HoldThen b f.now own next c t → HoldThen a m own next c t
hold_follow a b c m own told next s t f g = record {
  now = g.now;
  held = g.held;
  table = g.table;
  lent = λ at len x some off e. g.lent at len x some off (f.lent at len x some off e);
}

pub still_follow : (a b c : KeyedRows) (told then next : Option Holding) → StillHold told then a b → StillHold then next b c → StillHold told next a c
still_follow a b c told then next one two = λ m held own s h.
    let f = one m held own s h in
    hold_follow a b c m own then next s s f (two f.now f.held own s f.table)

none_told : (m : Holding) → Some m ≡ None → ⊥
none_told m e = cc

pub kept_follow : (a b : KeyedRows) (told then : Option Holding) → (told ≡ None → then ≡ None) → StillHold told then a b → IsKept told a → IsKept then b
kept_follow a b told then untold still kept = by told refl
  where
    by : (o : Option Holding) → told ≡ o → IsKept then b
    by None none = λ m held. absurd (none_told m (sym held ∙ untold none))
    by (Some m) held = λ n there.
        let h = kept m held in
        let f = still m held h.0 h.1 h.2 in
        (h.0, h.1, subst (λ (q : Holding). HoldTable b h.0 h.1 q) (told_once then f.now n f.held there) f.table)

-- ---- a change of both files

-- Behind the change of a row the data file stands for the new state; where the trees then get its lists, the object does.
pub both_changed : (old mid new : KeyedRows) (m : Holding) (own : ℕ → ℕ) (mid_told next last : Option Holding) (s t : TableState) → mid.rows.file.name ≢ mid.trees.cache.name → defs_of new ≡ defs_of mid
    → (one : HoldThen old m own mid_told mid s) → (two : Holding) → next ≡ Some two → OthersStay mid.rows.file.name one.now two → new.rows.file.name ≡ mid.rows.file.name
    → IsTable (defs_of mid) t → IsNotedFileOf new.rows t two
    → (here : StandThen mid.trees one.now own (Some two) mid.trees (lists_of (defs_of mid) s.rows)) → StandThen mid.trees here.now own last new.trees (lists_of (defs_of mid) t.rows)
    → Told next last (OthersStay mid.trees.cache.name)
    → HoldThen old m own last new t
both_changed old mid new m own mid_told next last s t apart same one two held stay name table noted here three others =
    let d = defs_of mid in
    let both = stand_follow mid.trees mid.trees new.trees one.now own (Some two) last (lists_of d s.rows) (lists_of d t.rows) here three in
    let left = others.told two held in
    let off = subst (λ (n : Holding). OthersStay mid.trees.cache.name two n) (told_once last left.0 both.now left.1 both.held) left.2 in
    record {
      now = both.now;
      held = both.held;
      table = record {
        table = subst (λ (q : Defs). IsTable q t) (sym same) table;
        rows = noted_stays new.rows t mid.trees.cache.name two both.now off (λ e. apart (sym name ∙ e)) noted;
        trees = subst (λ (q : Defs). Stand new.trees both.now own (lists_of q t.rows)) (sym same) both.stand;
      };
      lent = λ at len x some far e. both.lent at len x some far (one.lent at len x some far e);
    }

-- ---- both files fit together afterwards

count_kinds : (old new : List Place) → SameKinds old new → length new ≡ length old
count_kinds [] [] same = refl
count_kinds [] (q ∷ new) same = absurd cc
count_kinds (p ∷ old) [] same = absurd cc
count_kinds (p ∷ old) (q ∷ new) same = let more = count_kinds old new (ap (λ (ps : List Place). Rattle.std.proofs.Common.drop 1 ps) same) in omega (arith, more)

abbrev HaveWidth : ℕ → List Place → Type 0
HaveWidth n places = AllByRecursion (λ (p : Place). p.rec_ref ≡ n) places

to_kinds : (n : ℕ) (places : List Place) → HaveWidth n places → HaveWidth n (kinds places)
to_kinds n [] all = tt
to_kinds n (p ∷ places) all = (all.0, to_kinds n places all.1)

of_kinds : (n : ℕ) (places : List Place) → HaveWidth n (kinds places) → HaveWidth n places
of_kinds n [] all = tt
of_kinds n (p ∷ places) all = (all.0, of_kinds n places all.1)

pub fits_again : (old new : KeyedRows) → IsFit old → new.rows.file.name ≡ old.rows.file.name → defs_of new ≡ defs_of old → new.trees.cache.name ≡ old.trees.cache.name → SameKinds old.trees.places new.trees.places → IsWhole new.trees.room → IsFit new
fits_again old new fit file defs index same whole =
    let count = count_kinds old.trees.places new.trees.places same in
    record {
      sound = subst IsSound (sym defs) fit.sound;
      each = count ∙ fit.each ∙ ap (λ (d : Defs). length d.keys) (sym defs);
      pointers = subst (λ (d : Defs). HaveWidth d.rec_ref new.trees.places) (sym defs) (of_kinds (defs_of old).rec_ref new.trees.places (subst (λ (ps : List Place). HaveWidth (defs_of old).rec_ref ps) (sym same) (to_kinds (defs_of old).rec_ref old.trees.places fit.pointers)));
      whole = whole;
      apart = λ e. fit.apart (sym file ∙ e ∙ index);
    }
