-- Refusing a row that has a key of another one, one key after the other.
use Rattle.std.proofs.Common.{true, ◌≡◌, ℕ, zero, suc, ◌+◌, ◌<◌, ◌≤◌, List, [], ◌∷◌, ◌++◌, length, take, slice_index_or, Option, Some, None, refl, sym, ap, subst, ◌∙◌, arith}
use Rattle.std.specs.List.{AllByRecursion}
use Rattle.std.proofs.lemmas.List.{take_more, take_all}
use Rattle.indexmap.specs.IndexMap.{IndexMap, get}
use Rattle.myi_base.specs.Holding.{Holding}
use Rattle.myi_defs.specs.declared.types.Defs.{Defs}
use Rattle.myi_pack.specs.Packed.{Values}
use Rattle.myi_keys.specs.Limits.{is_complete}
use Rattle.myi_data.specs.Keys.{IsKeyNumber}
use Rattle.myi_rowkeys.specs.TableKeys.{is_unique, key_numbers}
use Rattle.myi_tablestate.specs.Keyed.{Holder, holder, first_holder}
use Rattle.myi_keyedrows.specs.KeyedRows.{HoldTable, IfHold}
use Rattle.myi_snapshots.specs.Appended.{with_rows}
use Rattle.myi_inserter.specs.declared.inserter.TableInserter.{TableInserter}
use Rattle.myi_inserter.specs.declared.unique_key.UniqueKey.{UniqueKey}
use Rattle.myi_inserter.specs.declared.fault.InsertFault.{InsertFault}
use Rattle.myi_inserter.specs.declared.fault.InsertFault.TheVariants as fault
use Rattle.myi_inserter.specs.Faults.{IsCutOff, IsOfSearch, IsOfSearching, IsHeldBy}
use Rattle.myi_inserter.specs.UniqueKeys.{key_in, unique_keys, is_same, FindsNone}
use Rattle.myi_inserter.specs.Inserter.{IsInserter, IsSearched}
use Rattle.myi_inserter.proofs.SearchLemmas.{KeyHere, key_here, numbers, IsPlain, IsAbsent, one_none, one_held, all_none}

-- ---- what is answered of one key

abbrev pub Asks : Option Holding → TableInserter → UniqueKey → Option ℕ → Type 0
Asks told i key at = IfHold told i.rows (λ m own base. (rows : List Values) → IsInserter i rows → (values : Values) → key ≡ key_in i.defs values key.number → is_unique i.defs key.number ≡ true → is_complete key.key ≡ true
    → at ≡ holder i.defs values key.number (with_rows i.defs base rows).rows)

-- the base stands as before for the inserter after searches
abbrev pub StillStands : Option Holding → TableInserter → TableInserter → Type 0
StillStands told i j = IfHold told i.rows (λ m own base. HoldTable j.rows own base m)

asked : (told next : Option Holding) (i j : TableInserter) (key : UniqueKey) (at : Option ℕ) → next ≡ told → IsSearched i j → StillStands told i j → Asks next j key at → Asks told i key at
asked told next i j key at same s still asks = λ m held own base h rows is values k unique whole.
    let e : j.defs ≡ i.defs = s.same.defs in
    subst (λ (q : Defs). at ≡ holder q values key.number (with_rows q base rows).rows) e
    (asks m (same ∙ held) own base (still m held own base h) rows (s.ready rows is) values (subst (λ (q : Defs). key ≡ key_in q values key.number) (sym e) k) (subst (λ (q : Defs). is_unique q key.number ≡ true) (sym e) unique) whole)

pub still_on : (told next : Option Holding) (i j l : TableInserter) → next ≡ told → StillStands told i j → StillStands next j l → StillStands told i l
still_on told next i j l same one two = λ m held own base h. two m (same ∙ held) own base (one m held own base h)

-- the number of a key that is asked for is one
pub number_here : (i j : TableInserter) (row : Values) (keys : List UniqueKey) (n : ℕ) (key : UniqueKey) → IsSearched i j → keys ≡ unique_keys i.defs row → n < length keys → key ≡ slice_index_or keys n key → IsKeyNumber j.defs key.number
number_here i j row keys n key s are few is = subst (λ (d : Defs). IsKeyNumber d key.number) (sym s.same.defs) (key_here i.defs row keys n key are few is).has.0

-- ---- the first so many keys

-- no row has one of the first so many of these keys
abbrev pub NoneOf : Option Holding → TableInserter → List UniqueKey → ℕ → Type 0
NoneOf told i keys n = IfHold told i.rows (λ m own base. (rows : List Values) → IsInserter i rows → (row : Values) → keys ≡ unique_keys i.defs row
    → first_holder i.defs row (with_rows i.defs base rows).rows (take n (numbers i.defs row)) ≡ None)

-- what a row with these keys repeats
abbrev pub OfHolder : Option Holding → TableInserter → List UniqueKey → (Option Holder → Type 0) → Type 0
OfHolder told i keys P = IfHold told i.rows (λ m own base. (rows : List Values) → IsInserter i rows → (row : Values) → keys ≡ unique_keys i.defs row → P (first_holder i.defs row (with_rows i.defs base rows).rows (key_numbers i.defs)))

pub none_is : (o : Option ℕ) → ((r : ℕ) → o ≡ Some r → ⊥) → o ≡ None
none_is None never = refl
none_is (Some r) never = absurd (never r refl)

-- what the answer says of a row with these keys
held_here : (told next : Option Holding) (i j : TableInserter) (keys : List UniqueKey) (n : ℕ) (key : UniqueKey) (at : Option ℕ) → next ≡ told → IsSearched i j → StillStands told i j → n < length keys → key ≡ slice_index_or keys n key → Asks next j key at
    → IfHold told i.rows (λ m own base. (rows : List Values) → IsInserter i rows → (row : Values) → keys ≡ unique_keys i.defs row → KeyHere i.defs row n key × (at ≡ holder i.defs row key.number (with_rows i.defs base rows).rows))
held_here told next i j keys n key at same s still few is asks = λ m held own base h rows ready row are.
    let here : KeyHere i.defs row n key = key_here i.defs row keys n key are few is in
    (here, asked told next i j key at same s still asks m held own base h rows ready row here.is here.has.1 (ap (λ (u : UniqueKey). is_complete u.key) here.is ∙ here.has.2))

pub none_more : (told next : Option Holding) (i j : TableInserter) (keys : List UniqueKey) (n : ℕ) (key : UniqueKey) (at : Option ℕ) → next ≡ told → IsSearched i j → StillStands told i j → n < length keys → key ≡ slice_index_or keys n key → Asks next j key at → at ≡ None → NoneOf told i keys n → NoneOf told i keys (n + 1)
none_more told next i j keys n key at same s still few is asks none so_far = λ m held own base h rows ready row are.
    let one = held_here told next i j keys n key at same s still few is asks m held own base h rows ready row are in
    one_none i.defs row (with_rows i.defs base rows).rows n key.number one.0.few one.0.number (so_far m held own base h rows ready row are) (sym one.1 ∙ none)

pub held_then : (told next : Option Holding) (i j : TableInserter) (keys : List UniqueKey) (n : ℕ) (key : UniqueKey) (at : Option ℕ) (p : ℕ) → IsPlain i.defs → IsAbsent i.defs → next ≡ told → IsSearched i j → StillStands told i j → n < length keys → key ≡ slice_index_or keys n key → Asks next j key at → at ≡ Some p → NoneOf told i keys n
    → OfHolder told i keys (λ o. o ≡ Some (key.number, p))
held_then told next i j keys n key at p plain absent same s still few is asks some so_far = λ m held own base h rows ready row are.
    let one = held_here told next i j keys n key at same s still few is asks m held own base h rows ready row are in
    one_held i.defs plain absent row (with_rows i.defs base rows).rows n key.number p one.0.few one.0.number (so_far m held own base h rows ready row are) (sym one.1 ∙ some)

pub none_at_all : (told : Option Holding) (i : TableInserter) (keys : List UniqueKey) (n : ℕ) → IsPlain i.defs → IsAbsent i.defs → length keys ≤ n → NoneOf told i keys n → OfHolder told i keys (λ o. o ≡ None)
none_at_all told i keys n plain absent all so_far = λ m held own base h rows ready row are.
    all_none i.defs plain absent row (with_rows i.defs base rows).rows keys n are all (so_far m held own base h rows ready row are)

-- what stands at an index, whatever stands for none
pub nth_any : (keys : List UniqueKey) (n : ℕ) (one other : UniqueKey) → n < length keys → slice_index_or keys n one ≡ slice_index_or keys n other
nth_any [] n one other few = absurd (omega (arith, few))
nth_any (k ∷ keys) zero one other few = refl
nth_any (k ∷ keys) (suc n) one other few = nth_any keys n one other (omega (arith, few))

-- ---- the keys that were put

all_push : (P : UniqueKey → Type 0) (keys : List UniqueKey) (key : UniqueKey) → AllByRecursion P keys → P key → AllByRecursion P (keys ++ key ∷ [])
all_push P [] key all one = (one, tt)
all_push P (k ∷ keys) key all one = (all.0, all_push P keys key all.1 one)

pub absent_more : {S : Type 0} (put : IndexMap UniqueKey ℕ S) (keys : List UniqueKey) (n : ℕ) (key : UniqueKey) → n < length keys → key ≡ slice_index_or keys n key → FindsNone put (take n keys) → get is_same put key ≡ None → FindsNone put (take (n + 1) keys)
absent_more put keys n key few is all one =
    subst (FindsNone put) (sym (take_more keys n key few ∙ ap (λ (k : UniqueKey). take n keys ++ k ∷ []) (sym is))) (all_push (λ q. get is_same put q ≡ None) (take n keys) key all one)

pub absent_all : {S : Type 0} (put : IndexMap UniqueKey ℕ S) (keys : List UniqueKey) (n : ℕ) → length keys ≤ n → FindsNone put (take n keys) → FindsNone put keys
absent_all put keys n all none = subst (FindsNone put) (take_all n keys all) none

-- ---- refusals

pub cut_held : (o : Option Holder) (f : InsertFault) → IsCutOff f → IsHeldBy o f
cut_held o (fault.Duplicate key at) cut = absurd cut
cut_held o fault.Full cut = absurd cut
cut_held o (fault.NoRoom need free) cut = absurd cut
cut_held o (fault.Damaged at) cut = absurd cut
cut_held o fault.File cut = tt
cut_held o fault.Memory cut = tt

pub cut_off : (told next : Option Holding) (i j : TableInserter) (keys : List UniqueKey) (f : InsertFault) → next ≡ told → StillStands told i j → IfHold next j.rows (λ m own base. IsCutOff f) → OfHolder told i keys (λ o. IsHeldBy o f)
cut_off told next i j keys f same still never = λ m held own base h rows ready row are.
    cut_held (first_holder i.defs row (with_rows i.defs base rows).rows (key_numbers i.defs)) f (never m (same ∙ held) own base (still m held own base h))

pub searching : (f : InsertFault) → IsOfSearch f → IsOfSearching f
searching (fault.Duplicate key at) is = tt
searching fault.Full is = absurd is
searching (fault.NoRoom need free) is = absurd is
searching (fault.Damaged at) is = tt
searching fault.File is = tt
searching fault.Memory is = tt
