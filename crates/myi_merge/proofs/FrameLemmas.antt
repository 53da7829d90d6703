-- Tables of a list of which one changes: what the others stand for stays.
use Rattle.std.proofs.Common.{◌≡◌, ◌≢◌, ℕ, zero, suc, ◌+◌, ◌<◌, true, false, List, [], ◌∷◌, ◌++◌, length, map, get_or, set, refl, sym, ap, ◌∙◌, arith}
use Rattle.std.specs.Prelude.{codes, bytes_eq}
use Rattle.std.specs.List.{AllByRecursion, IsDistinct}
use Rattle.std.proofs.lemmas.List.{append_cancel_right, length-append}
use Rattle.std.proofs.lemmas.Slice.Eq.{bytes_eq-Decides}
use Rattle.myi_base.specs.Holding.{Holding}
use Rattle.myi_opening.specs.Names.{rows_file, index_file}
use Rattle.myi_state.specs.State.{TableState}
use Rattle.myi_table.specs.Table.{OpenTable, HoldState, KeepsOthers}
use Rattle.myi_merge.specs.Merged.{IsSoundTable, HoldEach}
use Rattle.myi_merge.specs.Changing.{Keeps, KeepEach}
use Rattle.myi_merge.specs.Merging.{KeepBut}

-- a table stands for a state where its two files hold what they held
abbrev pub Rests : Type 0
Rests = (t : OpenTable) (s : TableState) (m n : Holding) → n t.rows.rows.file.name ≡ m t.rows.rows.file.name → n t.rows.trees.cache.name ≡ m t.rows.trees.cache.name → HoldState t s m → HoldState t s n

-- ---- names

rows_apart : (a b : List ℕ) → a ≢ b → rows_file a ≢ rows_file b
rows_apart a b apart = λ same. apart (append_cancel_right a b (codes ".MYD") same)

index_apart : (a b : List ℕ) → a ≢ b → index_file a ≢ index_file b
index_apart a b apart = λ same. apart (append_cancel_right a b (codes ".MYI") same)

last_of : (a : List ℕ) (x y z w : ℕ) → get_or (a ++ x ∷ y ∷ z ∷ w ∷ []) (length a + 3) 0 ≡ w
last_of [] x y z w = refl
last_of (c ∷ a) x y z w = let e : suc (length a) + 3 ≡ suc (length a + 3) = omega arith in ap (λ (n : ℕ). get_or (c ∷ (a ++ x ∷ y ∷ z ∷ w ∷ [])) n 0) e ∙ last_of a x y z w

-- a data file is no index file
pub kinds_apart : (a b : List ℕ) → rows_file a ≢ index_file b
kinds_apart a b = λ same.
    let long : length a + 4 ≡ length b + 4 = sym (length-append a (codes ".MYD")) ∙ ap length same ∙ length-append b (codes ".MYI") in
    let as_long : length a ≡ length b = omega (arith, long) in
    let one : get_or (rows_file a) (length a + 3) 0 ≡ 68 = last_of a 46 77 89 68 in
    let other : get_or (index_file b) (length b + 3) 0 ≡ 73 = last_of b 46 77 89 73 in
    let both : 68 ≡ 73 = sym one ∙ ap (λ (l : List ℕ). get_or l (length a + 3) 0) same ∙ ap (λ (n : ℕ). get_or (index_file b) (n + 3) 0) as_long ∙ other in
    omega (arith, both)

differs : (a b : List ℕ) → bytes_eq a b ≡ false → a ≢ b
differs a b e = λ same. let t : bytes_eq a b ≡ true = (bytes_eq-Decides a b).1 same in absurd (let bad : true ≡ false = sym t ∙ e in cc)

distinct_head : (q : List ℕ) (qs : List (List ℕ)) → IsDistinct bytes_eq (q ∷ qs) → AllByRecursion (λ (p : List ℕ). bytes_eq q p ≡ false) qs
unfolding IsDistinct
distinct_head q qs d = d.0

distinct_tail : (q : List ℕ) (qs : List (List ℕ)) → IsDistinct bytes_eq (q ∷ qs) → IsDistinct bytes_eq qs
unfolding IsDistinct
distinct_tail q qs d = d.1

-- ---- the files of tables

keeps_other : (name : List ℕ) (t : OpenTable) (m n : Holding) → t.name ≢ name → KeepsOthers name m n → Keeps t m n
keeps_other name t m n apart others = record {
  rows = others (rows_file t.name) (rows_apart t.name name apart) (kinds_apart t.name name);
  index = others (index_file t.name) (λ same. kinds_apart name t.name (sym same)) (index_apart t.name name apart);
}

pub still_one : Rests → (t : OpenTable) (s : TableState) (m n : Holding) → IsSoundTable t → Keeps t m n → HoldState t s m → HoldState t s n
still_one rests t s m n files keeps h = rests t s m n (ap n files.rows ∙ keeps.rows ∙ sym (ap m files.rows)) (ap n files.index ∙ keeps.index ∙ sym (ap m files.index)) h

keep_each : (name : List ℕ) (ts : List OpenTable) (m n : Holding) → AllByRecursion (λ (q : List ℕ). bytes_eq name q ≡ false) (map (λ (t : OpenTable). t.name) ts) → KeepsOthers name m n → KeepEach ts m n
keep_each name [] m n apart others = tt
keep_each name (t ∷ ts) m n apart others = (keeps_other name t m n (λ same. differs name t.name apart.0 (sym same)) others, keep_each name ts m n apart.1 others)

all_at : {A : Type 0} (P : A → Type 0) (xs : List A) (i : ℕ) (d : A) → AllByRecursion P xs → i < length xs → P (get_or xs i d)
all_at P [] i d all lt = absurd (omega (arith, lt))
all_at P (x ∷ xs) zero d all lt = all.0
all_at P (x ∷ xs) (suc i) d all lt = all_at P xs i d all.1 (omega (arith, lt))

name_at : (P : List ℕ → Type 0) (ts : List OpenTable) (i : ℕ) (d : OpenTable) → AllByRecursion P (map (λ (t : OpenTable). t.name) ts) → i < length ts → P (get_or ts i d).name
name_at P [] i d all lt = absurd (omega (arith, lt))
name_at P (t ∷ ts) zero d all lt = all.0
name_at P (t ∷ ts) (suc i) d all lt = name_at P ts i d all.1 (omega (arith, lt))

pub keep_but : (ts : List OpenTable) (i : ℕ) (d : OpenTable) (m n : Holding) → IsDistinct bytes_eq (map (λ (t : OpenTable). t.name) ts) → i < length ts → KeepsOthers (get_or ts i d).name m n → KeepBut i ts m n
keep_but [] i d m n once lt others = tt
keep_but (t ∷ ts) zero d m n once lt others = keep_each t.name ts m n (distinct_head t.name (map (λ (u : OpenTable). u.name) ts) once) others
keep_but (t ∷ ts) (suc i) d m n once lt others = (
  keeps_other (get_or ts i d).name t m n (differs t.name (get_or ts i d).name (name_at (λ (q : List ℕ). bytes_eq t.name q ≡ false) ts i d (distinct_head t.name (map (λ (u : OpenTable). u.name) ts) once) (omega (arith, lt)))) others,
  keep_but ts i d m n (distinct_tail t.name (map (λ (u : OpenTable). u.name) ts) once) (omega (arith, lt)) others,
)

-- ---- what tables stand for

pub still_each : Rests → (ts : List OpenTable) (ss : List TableState) (m n : Holding) → AllByRecursion IsSoundTable ts → KeepEach ts m n → HoldEach ts ss m → HoldEach ts ss n
still_each rests [] [] m n files keep h = tt
still_each rests [] (s ∷ ss) m n files keep h = elim h [ ]
still_each rests (t ∷ ts) [] m n files keep h = elim h [ ]
still_each rests (t ∷ ts) (s ∷ ss) m n files keep h = (still_one rests t s m n files.0 keep.0 h.0, still_each rests ts ss m n files.1 keep.1 h.1)

-- one table has another state, the others theirs
pub still_but : Rests → (ts : List OpenTable) (ss : List TableState) (m n : Holding) (i : ℕ) (new : OpenTable) (s : TableState) → AllByRecursion IsSoundTable ts → i < length ts → KeepBut i ts m n → HoldEach ts ss m → HoldState new s n → HoldEach (set ts i new) (set ss i s) n
still_but rests [] ss m n i new s files lt keep h one = absurd (omega (arith, lt))
still_but rests (t ∷ ts) [] m n i new s files lt keep h one = elim h [ ]
still_but rests (t ∷ ts) (q ∷ ss) m n zero new s files lt keep h one = (one, still_each rests ts ss m n files.1 keep h.1)
still_but rests (t ∷ ts) (q ∷ ss) m n (suc i) new s files lt keep h one = (still_one rests t q m n files.0 keep.0 h.0, still_but rests ts ss m n i new s files.1 (omega (arith, lt)) keep.1 h.1 one)

-- the state of one of them
pub state_at : (ts : List OpenTable) (ss : List TableState) (m : Holding) (i : ℕ) (d : OpenTable) (e : TableState) → HoldEach ts ss m → i < length ts → HoldState (get_or ts i d) (get_or ss i e) m
state_at [] ss m i d e h lt = absurd (omega (arith, lt))
state_at (t ∷ ts) [] m i d e h lt = elim h [ ]
state_at (t ∷ ts) (s ∷ ss) m zero d e h lt = h.0
state_at (t ∷ ts) (s ∷ ss) m (suc i) d e h lt = state_at ts ss m i d e h.1 (omega (arith, lt))

pub as_many : (ts : List OpenTable) (ss : List TableState) (m : Holding) → HoldEach ts ss m → length ss ≡ length ts
as_many [] [] m h = refl
as_many [] (s ∷ ss) m h = elim h [ ]
as_many (t ∷ ts) [] m h = elim h [ ]
as_many (t ∷ ts) (s ∷ ss) m h = let more = as_many ts ss m h.1 in omega (arith, more)

-- a state that is put where it was
pub set_itself : {A : Type 0} (xs : List A) (i : ℕ) (d : A) → set xs i (get_or xs i d) ≡ xs
set_itself [] i d = refl
set_itself (x ∷ xs) zero d = refl
set_itself {A} (x ∷ xs) (suc i) d = ap (λ (ys : List A). x ∷ ys) (set_itself xs i d)

pub all_set : {A : Type 0} (P : A → Type 0) (xs : List A) (i : ℕ) (y : A) → AllByRecursion P xs → P y → AllByRecursion P (set xs i y)
all_set P [] i y all p = tt
all_set P (x ∷ xs) zero y all p = (p, all.1)
all_set P (x ∷ xs) (suc i) y all p = (all.0, all_set P xs i y all.1 p)
