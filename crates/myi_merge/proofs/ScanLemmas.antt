-- The rows of the tables that were scanned so far.
use Rattle.std.proofs.Common.{◌≡◌, ℕ, zero, suc, ◌+◌, ◌<◌, ◌≤◌, List, [], ◌∷◌, ◌++◌, length, take, drop, get_or, map, reverse, Some, None, refl, ap, sym, subst, ◌∙◌, arith, append_assoc, add-one}
use Rattle.std.specs.List.{AllByRecursion}
use Rattle.std.proofs.Math.Seq.{drop-cons}
use Rattle.std.proofs.lemmas.List.{append-nil, drop_all, map-append, reverse-append, take_more, take-append-drop}
use Rattle.myi_base.specs.Holding.{Holding}
use Rattle.myi_pack.specs.Packed.{Values}
use Rattle.myi_state.specs.State.{StoredRow, TableState}
use Rattle.myi_tablestate.specs.Listed.{placed}
use Rattle.myi_table.specs.declared.fault.Cause.{Cause}
use Rattle.myi_table.specs.Table.{OpenTable, HoldState}
use Rattle.myi_merge.specs.Merged.{HoldEach, AreWhole, FirstBroken}
use Rattle.myi_merge.specs.Reading.{answered, numbered, all_rows}
use Rattle.myi_merge.proofs.FrameLemmas.{as_many}

-- what a table answered, with its number, are its rows
pub numbered_is : (n : ℕ) (rows : List StoredRow) → map (λ (r : ℕ × Values). (n, r.0, r.1)) (map placed rows) ≡ map answered (numbered n rows)
numbered_is n [] = refl
numbered_is n (r ∷ rs) = ap (λ (q : List (ℕ × ℕ × Values)). (n, r.at, r.values) ∷ q) (numbered_is n rs)

-- each table stands for its state
pub hold_at : (ts : List OpenTable) (ss : List TableState) (m : Holding) (i : ℕ) (d : OpenTable) → HoldEach ts ss m → i < length ts → (s : TableState) × (drop i ss ≡ s ∷ drop (suc i) ss) × HoldState (get_or ts i d) s m
hold_at [] ss m i d h lt = absurd (omega (arith, lt))
hold_at (t ∷ ts) [] m i d h lt = elim h [ ]
hold_at (t ∷ ts) (s ∷ ss) m zero d h lt = (s, refl, h.0)
hold_at (t ∷ ts) (s ∷ ss) m (suc i) d h lt = hold_at ts ss m i d h.1 (omega (arith, lt))

pub all_at : {A : Type 0} (P : A → Type 0) (xs : List A) (i : ℕ) (d : A) → AllByRecursion P xs → i < length xs → P (get_or xs i d)
all_at P [] i d all lt = absurd (omega (arith, lt))
all_at P (x ∷ xs) zero d all lt = all.0
all_at P (x ∷ xs) (suc i) d all lt = all_at P xs i d all.1 (omega (arith, lt))

all_push : {A : Type 0} (P : A → Type 0) (xs : List A) (x : A) → AllByRecursion P xs → P x → AllByRecursion P (xs ++ x ∷ [])
all_push P [] x all p = (p, tt)
all_push P (y ∷ ys) x all p = (all.0, all_push P ys x all.1 p)

-- one more table is not broken
pub whole_more : (ts : List OpenTable) (i : ℕ) (d : OpenTable) → i < length ts → AreWhole (take i ts) → (get_or ts i d).broken ≡ None → AreWhole (take (i + 1) ts)
whole_more ts i d lt whole one = subst AreWhole (sym (take_more ts i d lt)) (all_push (λ (t : OpenTable). t.broken ≡ None) (take i ts) (get_or ts i d) whole one)

-- the table that is broken
pub broken_at : (ts : List OpenTable) (i : ℕ) (d : OpenTable) (by : Cause) → i < length ts → AreWhole (take i ts) → (get_or ts i d).broken ≡ Some by → FirstBroken ts by
broken_at ts i d by lt whole is = record {
  before = take i ts;
  table = get_or ts i d;
  after = drop (i + 1) ts;
  parts = sym (take-append-drop i ts) ∙ ap (λ (q : List OpenTable). take i ts ++ q) (rw (add-one, drop-cons ts i d lt) refl);
  whole = whole;
  broken = is;
}

-- the rows of one more table
pub scanned_more : (ss : List TableState) (i n : ℕ) (s : TableState) (found all : List (ℕ × ℕ × Values)) (more : List (ℕ × Values)) → n ≡ i + 1 → drop i ss ≡ s ∷ drop (suc i) ss → found ++ map answered (all_rows n (drop i ss)) ≡ all → more ≡ map placed s.rows
    → (found ++ map (λ (r : ℕ × Values). (n, r.0, r.1)) more) ++ map answered (all_rows (n + 1) (drop (suc i) ss)) ≡ all
scanned_more ss i n s found all more e next so rows =
    append_assoc found (map (λ (r : ℕ × Values). (n, r.0, r.1)) more) (map answered (all_rows (n + 1) (drop (suc i) ss)))
    ∙ ap (λ (q : List (ℕ × ℕ × Values)). found ++ (q ++ map answered (all_rows (n + 1) (drop (suc i) ss)))) (ap (map (λ (r : ℕ × Values). (n, r.0, r.1))) rows ∙ numbered_is n s.rows)
    ∙ ap (λ (q : List (ℕ × ℕ × Values)). found ++ q) (sym (map-append answered (numbered n s.rows) (all_rows (n + 1) (drop (suc i) ss))) ∙ ap (λ (q : List TableState). map answered (all_rows n q)) (sym next))
    ∙ so

-- the rows of all tables, when all were read
pub scanned_all : (ts : List OpenTable) (ss : List TableState) (m : Holding) (i n : ℕ) (found all : List (ℕ × ℕ × Values)) → HoldEach ts ss m → length ts ≤ i → found ++ map answered (all_rows n (drop i ss)) ≡ all → found ≡ all
scanned_all ts ss m i n found all h le so =
    let many = as_many ts ss m h in
    let none : drop i ss ≡ [] = drop_all i ss (omega (arith, le, many)) in
    sym (append-nil found) ∙ ap (λ (q : List TableState). found ++ map answered (all_rows n q)) (sym none) ∙ so

-- ---- the other way round

pub map_reverse : {A B : Type 0} (f : A → B) (xs : List A) → map f (reverse xs) ≡ reverse (map f xs)
map_reverse f [] = refl
map_reverse {A} {B} f (x ∷ xs) = ap (map f) (reverse-append (x ∷ []) xs) ∙ map-append f (reverse xs) (x ∷ []) ∙ ap (λ (l : List B). l ++ f x ∷ []) (map_reverse f xs) ∙ sym (reverse-append (f x ∷ []) (map f xs))
