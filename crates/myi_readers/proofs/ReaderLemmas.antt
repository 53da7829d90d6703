-- What holds of a reader after its calls.
use Rattle.std.proofs.Common.{◌≡◌, ℕ, suc, ◌+◌, ◌-◌, ◌^◌, ◌<◌, ◌≤◌, List, [], ◌∷◌, length, take, min, refl, sym, ap, subst, ◌∙◌, arith}
use Rattle.std.specs.Prelude.{slice_index_or, slice_set}
use Rattle.std.proofs.lemmas.List.{length-take, take_all}
use Rattle.myi_defs.specs.declared.types.Defs.{Defs}
use Rattle.myi_pack.specs.Packed.{Values}
use Rattle.myi_keycache.specs.Kept.{Page, is_unwritten, AllWritten}
use Rattle.myi_keycache.specs.Caching.{pages_of}
use Rattle.myi_slots.specs.SlotFile.{SlotFile}
use Rattle.myi_btree.specs.declared.place.Place.{Place}
use Rattle.myi_state.specs.State.{TableState}
use Rattle.myi_keyedrows.specs.declared.keyed_rows.KeyedRows.{KeyedRows}
use Rattle.myi_keyedrows.specs.KeyedRows.{IsLeft}
use Rattle.myi_tail.specs.Prefix.{BeginsWith}
use Rattle.myi_tail.specs.Seats.{TailReader, room_of}
use Rattle.myi_tail.specs.Spelled.{spelled}
use Rattle.myi_snapshots.specs.declared.snapshot.Snapshot.{Snapshot}
use Rattle.myi_snapshots.specs.Appended.{with_rows}
use Rattle.myi_snapshots.specs.Known.{known_rows, packed_rows, end_with}
use Rattle.myi_snapshots.specs.Knowing.{Knowing, packed_of, told_place}
use Rattle.myi_snapshots.specs.Seen.{IsTaken}
use Rattle.myi_snapshots.proofs.CallerLemmas.{ends, first}
use Rattle.myi_readers.specs.declared.reader.TableReader.{TableReader}
use Rattle.myi_readers.specs.Reader.{IsReader, IsSameReader, rows_known}
use Rattle.myi_readers.specs.declared.known_keys.KnownKeys.{KnownKeys}
use Rattle.myi_readers.specs.Indexes.{IsIndexOf, AreIndexes}
use Rattle.myi_readers.proofs.SeenLemmas.{packed_known}
use Rattle.myi_readers.proofs.IndexLemmas.{indexes_on, indexes_set}

-- ---- trees that were searched

pub reader_again : (r : TableReader) (k : KeyedRows) → IsReader r → IsLeft r.rows k → k.trees.cache.name ≡ r.rows.trees.cache.name → AllWritten (pages_of k.trees.cache) → IsReader (record r { rows = k })
reader_again r k is left name written = record {
  sound = is.sound;
  defs = ap (λ (f : SlotFile). f.defs) left.file ∙ is.defs;
  named = is.named ∙ sym (ap (λ (f : SlotFile). f.name) left.file);
  apart = λ same. is.apart (sym (ap (λ (f : SlotFile). f.name) left.file) ∙ same ∙ name);
  keys = ap (λ (ps : List Place). length ps) left.places ∙ is.keys;
  written = written;
  of_table = is.of_table;
  behind = is.behind ∙ sym (ap (λ (f : SlotFile). f.counts.length) left.file);
  room = is.room;
  whole = is.whole;
  indexed = subst (λ (n : ℕ). AreIndexes r.defs n (known_rows r.defs r.seat.known) r.index.items) (sym (ap (λ (f : SlotFile). f.counts.length) left.file)) is.indexed;
  small = is.small;
}

-- indexes that took in more rows
pub reader_index : (r q : TableReader) → q ≡ record r { index = q.index } → IsReader r → AreIndexes r.defs r.rows.rows.file.counts.length (known_rows r.defs r.seat.known) q.index.items → IsReader q
reader_index r q same is indexed = subst IsReader (sym same) (record {
  sound = is.sound;
  defs = is.defs;
  named = is.named;
  apart = is.apart;
  keys = is.keys;
  written = is.written;
  of_table = is.of_table;
  behind = is.behind;
  room = is.room;
  whole = is.whole;
  indexed = indexed;
  small = is.small;
})

pub same_again : (r : TableReader) (k : KeyedRows) → IsLeft r.rows k → IsSameReader r (record r { rows = k })
same_again r k left = record { defs = refl; number = refl; tail = refl; file = left.file; places = left.places }

-- the index of a key as it stands by the rows that the object on the words knows
pub index_as_known : (r : TableReader) (k : ℕ) (x : KnownKeys) → IsReader r → k < length r.defs.keys → slice_index_or r.index.items k x ≡ x → IsIndexOf r.defs (suc k) r.known.begin (packed_of r.known) x
index_as_known r k x is lt there =
    let low : k < length r.index.items = let keys = is.indexed.keys in omega (arith, keys, lt) in
    subst (λ (l : List (List ℕ)). IsIndexOf r.defs (suc k) r.known.begin l x) (sym (packed_known r is)) (subst (λ (n : ℕ). IsIndexOf r.defs (suc k) n (rows_known r) x) (sym is.behind)
    (subst (IsIndexOf r.defs (suc k) r.rows.rows.file.counts.length (rows_known r)) there (is.indexed.each k x low)))

-- the index of a key took in more rows
pub reader_set : (r q : TableReader) (k : ℕ) (x : KnownKeys) → q ≡ record r { index = q.index } → q.index.items ≡ slice_set r.index.items k x → IsReader r → k < length r.defs.keys → IsIndexOf r.defs (suc k) r.known.begin (packed_of r.known) x → IsReader q
reader_set r q k x same set is lt there =
    let low : k < length r.index.items = let keys = is.indexed.keys in omega (arith, keys, lt) in
    let here : IsIndexOf r.defs (suc k) r.rows.rows.file.counts.length (rows_known r) x = subst (λ (l : List (List ℕ)). IsIndexOf r.defs (suc k) r.rows.rows.file.counts.length l x) (packed_known r is) (subst (λ (n : ℕ). IsIndexOf r.defs (suc k) n (packed_of r.known) x) is.behind there) in
    reader_index r q same is (subst (AreIndexes r.defs r.rows.rows.file.counts.length (rows_known r)) (sym set) (indexes_set r.defs r.rows.rows.file.counts.length (rows_known r) r.index.items k x low here is.indexed))

pub index_same : (r : TableReader) (k : KeyedRows) (q : TableReader) → q ≡ record r { rows = k; index = q.index } → IsLeft r.rows k → IsSameReader r q
index_same r k q same left = subst (λ (t : TableReader). IsSameReader r t) (sym same) (record { defs = refl; number = refl; tail = refl; file = left.file; places = left.places })

-- ---- words that were read on

-- a seat that saw the count and knows all words below it
pub record CaughtUp (old new : TailReader) (count : ℕ) : Type 0 where
  pub tail : new.tail ≡ old.tail
  pub more : BeginsWith new.known old.known
  pub within : length new.known ≤ count
  pub fits : count ≤ room_of old.tail

pub caught_up : (old half new : TailReader) (count : ℕ) → half ≡ record old { seen = count } → new ≡ record half { known = new.known } → BeginsWith new.known half.known → length new.known ≤ half.seen → count ≤ room_of old.tail → CaughtUp old new count
caught_up old half new count saw kept more within fits = record {
  tail = ap (λ (r : TailReader). r.tail) kept ∙ ap (λ (r : TailReader). r.tail) saw;
  more = subst (λ (known : List ℕ). BeginsWith new.known known) (ap (λ (r : TailReader). r.known) saw) more;
  within = let seen : half.seen ≡ count = ap (λ (r : TailReader). r.seen) saw in omega (arith, within, seen);
  fits = fits;
}

pub reader_on : (r : TableReader) (seat : TailReader) (known : Knowing) (words : List ℕ) (count : ℕ) → IsReader r → CaughtUp r.seat seat count → words ≡ seat.known → known ≡ record r.known { whole = spelled words } → IsReader (record r { seat = seat; known = known })
reader_on r seat known words count is caught shown read = record {
  sound = is.sound;
  defs = is.defs;
  named = is.named;
  apart = is.apart;
  keys = is.keys;
  written = is.written;
  of_table = ap (λ (k : Knowing). k.defs) read ∙ is.of_table;
  behind = ap (λ (k : Knowing). k.begin) read ∙ is.behind;
  room = ap (λ (k : Knowing). k.room) read ∙ is.room ∙ sym (ap room_of caught.tail);
  whole = ap (λ (k : Knowing). k.whole) read ∙ ap spelled shown;
  indexed = indexes_on r.defs r.rows.rows.file.counts.length (known_rows r.defs r.seat.known) (known_rows r.defs seat.known) r.index.items (first r.defs seat.known r.seat.known caught.more) is.indexed;
  small = subst (λ (n : ℕ). r.number + n < 2 ^ 64) (sym (ap room_of caught.tail)) is.small;
}

-- no fewer rows are known
pub more_known : (d : Defs) (old new : List ℕ) → BeginsWith new old → length (known_rows d old) ≤ length (known_rows d new)
more_known d old new front =
    let rows : known_rows d old ≡ take (length (known_rows d old)) (known_rows d new) = first d new old front in
    let long : length (known_rows d old) ≡ min (length (known_rows d old)) (length (known_rows d new)) = ap (λ (l : List (List ℕ)). length l) rows ∙ length-take (length (known_rows d old)) (known_rows d new) in
    omega (arith, long)

-- a snapshot of this moment
pub taken : (d : Defs) (base : TableState) (number : ℕ) (rows : List Values) (snap : Snapshot) (packed : List (List ℕ)) (begin : ℕ) → packed ≡ packed_rows d rows → base.space.end ≡ begin → snap.number ≡ number + length packed → snap.length ≡ told_place (end_with d begin packed) → end_with d begin packed < 2 ^ 64 → IsTaken d base number rows snap
taken d base number rows snap packed begin are ends_at numbered told small =
    let long : length packed ≡ length rows = ap (λ (l : List (List ℕ)). length l) are ∙ length-packed rows in
    let n : snap.number - number ≡ length rows = omega (arith, numbered, long) in
    let all : take (snap.number - number) rows ≡ rows = take_all (snap.number - number) rows (omega (arith, n)) in
    let whole : told_place (end_with d begin packed) ≡ end_with d begin packed = omega (arith, small) in
    record {
      later = omega (arith, numbered);
      there = omega (arith, n);
      end = told ∙ whole ∙ ap (λ (k : ℕ). end_with d k packed) (sym ends_at) ∙ ap (end_with d base.space.end) are ∙ sym (ends d base rows) ∙ ap (λ (l : List Values). (with_rows d base l).space.end) (sym all);
    }
  where
    length-packed : (rows : List Values) → length (packed_rows d rows) ≡ length rows
    length-packed [] = refl
    length-packed (x ∷ xs) = let rest = length-packed xs in omega (arith, rest)

-- ---- a reader that has read nothing

pub none_spelled : spelled [] ≡ []
unfolding spelled
none_spelled = refl

none_unwritten : AllWritten []
unfolding is_unwritten
none_unwritten p n e = cc

pub none_kept : (pages : List Page) → pages ≡ [] → AllWritten pages
none_kept pages none = subst AllWritten (sym none) none_unwritten
