-- Readers after their calls.
use Rattle.std.proofs.Common.{◌≡◌, ℕ, zero, suc, ◌≤◌, List, [], ◌∷◌, length, take, min, Option, refl, sym, ap, subst, ◌∙◌, arith}
use Rattle.std.proofs.lemmas.List.{length-take, take_all}
use Rattle.myi_base.specs.Holding.{Holding}
use Rattle.myi_adapters.specs.TwoReaders.{told_by}
use Rattle.myi_defs.specs.declared.types.Defs.{Defs}
use Rattle.myi_state.specs.declared.counts.Counts.{Counts}
use Rattle.myi_state.specs.Numbers.{counts_of}
use Rattle.myi_state.specs.Sound.{IsState}
use Rattle.myi_state.specs.State.{TableState}
use Rattle.myi_keyedrows.specs.declared.keyed_rows.KeyedRows.{KeyedRows}
use Rattle.myi_keyedrows.specs.KeyedRows.{HoldTable, IsKept, IfHold}
use Rattle.myi_tail.specs.Seats.{TailReader}
use Rattle.myi_tail.specs.Prefix.{BeginsWith}
use Rattle.myi_readers.specs.declared.file_reader.Reader.{Reader}
use Rattle.myi_readers.specs.declared.reader.TableReader.{TableReader}
use Rattle.myi_readers.specs.Reader.{IsReader, IsSameReader}
use Rattle.myi_rounds.specs.ReadJob.{ReadsOn}

-- ---- fronts

pub take_take : {A : Type 0} (j n : ℕ) (xs : List A) → j ≤ n → take j (take n xs) ≡ take j xs
take_take zero n xs le = refl
take_take (suc j) zero xs le = absurd (omega (arith, le))
take_take (suc j) (suc n) [] le = refl
take_take (suc j) (suc n) (x ∷ xs) le = ap (λ l. x ∷ l) (take_take j n xs (omega (arith, le)))

pub front_self : {A : Type 0} (xs : List A) → BeginsWith xs xs
front_self xs = sym (take_all (length xs) xs (omega arith))

pub front_length : {A : Type 0} (all few : List A) → BeginsWith all few → length few ≤ length all
front_length all few front =
    let long : length few ≡ min (length few) (length all) = ap (λ l. length l) front ∙ length-take (length few) all in
    omega (arith, long)

pub front_then : {A : Type 0} (a b c : List A) → BeginsWith b a → BeginsWith c b → BeginsWith c a
front_then a b c one two = one ∙ ap (take (length a)) two ∙ take_take (length a) (length b) c (front_length b a one)

-- ---- the same reader

pub same_self : (r : TableReader) → IsSameReader r r
same_self r = record { defs = refl; number = refl; tail = refl; file = refl; places = refl }

pub same_then : (a b c : TableReader) → IsSameReader a b → IsSameReader b c → IsSameReader a c
same_then a b c one two = record {
  defs = two.defs ∙ one.defs;
  number = two.number ∙ one.number;
  tail = two.tail ∙ one.tail;
  file = two.file ∙ one.file;
  places = two.places ∙ one.places;
}

-- ---- after calls

-- what holds beside the state that it stands for, and that
pub on_by : {R : Type 0} (shows : R → Option (List ℕ)) (old new : Reader R) → IsSameReader old.table new.table → IsReader new.table → BeginsWith new.table.seat.known old.table.seat.known → told_by shows new.files ≡ told_by shows old.files
    → IfHold (told_by shows old.files) old.table.rows (λ m own base. HoldTable new.table.rows own base m) → ReadsOn shows old new
on_by shows old new same ready more holds still = record { same = same; ready = ready; more = more; holds = holds; still = still }

pub on_same : {R : Type 0} (shows : R → Option (List ℕ)) (old new : Reader R) → IsReader old.table → new.table ≡ old.table → told_by shows new.files ≡ told_by shows old.files → ReadsOn shows old new
on_same shows old new ready table holds = record {
  same = subst (λ (t : TableReader). IsSameReader old.table t) (sym table) (same_self old.table);
  ready = subst IsReader (sym table) ready;
  more = subst (λ (t : TableReader). BeginsWith t.seat.known old.table.seat.known) (sym table) (front_self old.table.seat.known);
  holds = holds;
  still = λ m held own base h. subst (λ (t : TableReader). HoldTable t.rows own base m) (sym table) h;
}

-- a range leaves the seat
pub on_range : {R : Type 0} (shows : R → Option (List ℕ)) (old new : Reader R) → IsSameReader old.table new.table → IsReader new.table → new.table.seat ≡ old.table.seat → told_by shows new.files ≡ told_by shows old.files
    → IfHold (told_by shows old.files) old.table.rows (λ m own base. HoldTable new.table.rows own base m) → ReadsOn shows old new
on_range shows old new same ready seat holds still = record {
  same = same;
  ready = ready;
  more = subst (λ (s : TailReader). BeginsWith s.known old.table.seat.known) (sym seat) (front_self old.table.seat.known);
  holds = holds;
  still = still;
}

-- a lock leaves the object on the two files
pub on_lock : {R : Type 0} (shows : R → Option (List ℕ)) (old new : Reader R) → IsSameReader old.table new.table → IsReader new.table → BeginsWith new.table.seat.known old.table.seat.known → new.files ≡ old.files → new.table.rows ≡ old.table.rows → ReadsOn shows old new
on_lock shows old new same ready more files rows = record {
  same = same;
  ready = ready;
  more = more;
  holds = ap (told_by shows) files;
  still = λ m held own base h. subst (λ (k : KeyedRows). HoldTable k own base m) (sym rows) h;
}

pub on_then : {R : Type 0} (shows : R → Option (List ℕ)) (a b c : Reader R) → ReadsOn shows a b → ReadsOn shows b c → ReadsOn shows a c
on_then shows a b c one two = record {
  same = same_then a.table b.table c.table one.same two.same;
  ready = two.ready;
  more = front_then a.table.seat.known b.table.seat.known c.table.seat.known one.more two.more;
  holds = two.holds ∙ one.holds;
  still = λ m held own base h. two.still m (one.holds ∙ held) own base (one.still m held own base h);
}

pub kept_on : {R : Type 0} (shows : R → Option (List ℕ)) (old new : Reader R) → ReadsOn shows old new → IsKept (told_by shows old.files) old.table.rows → IsKept (told_by shows new.files) new.table.rows
kept_on shows old new on kept = λ m held.
    let k = kept m (sym on.holds ∙ held) in
    (k.0, k.1, on.still m (sym on.holds ∙ held) k.0 k.1 k.2)

-- ---- the base

pub base_state : (r : TableReader) (own : ℕ → ℕ) (base : TableState) (m : Holding) → IsReader r → HoldTable r.rows own base m → IsState r.defs base
base_state r own base m is h = subst (λ (d : Defs). IsState d base) is.defs h.table.state

pub base_end : (r : TableReader) (own : ℕ → ℕ) (base : TableState) (m : Holding) → HoldTable r.rows own base m → base.space.end ≡ r.rows.rows.file.counts.length
unfolding counts_of
base_end r own base m h = sym (ap (λ (c : Counts). c.length) h.rows.0.counts)
