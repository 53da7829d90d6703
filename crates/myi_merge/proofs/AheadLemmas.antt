-- What readings have read ahead, from one call to the next; and the readings of the first so many tables.
use Rattle.std.proofs.Common.{◌≡◌, ℕ, zero, suc, ◌+◌, ◌<◌, List, [], ◌∷◌, ◌++◌, length, take, get_or, set, slice_get, Option, Some, None, refl, sym, ap, subst, ◌∙◌, arith}
use Rattle.std.specs.List.{AllByRecursion}
use Rattle.std.proofs.lemmas.Option.{same_Some}
use Rattle.myi_base.specs.Holding.{Holding, Told}
use Rattle.myi_state.specs.State.{TableState}
use Rattle.myi_ranges.specs.declared.ranges.RangeRows.{RangeRows}
use Rattle.myi_table.specs.declared.ranges.Range.{Range}
use Rattle.myi_table.specs.Table.{OpenTable, defs_in, HoldState, IfHolds}
use Rattle.myi_table.specs.Reading.{IsAhead, begun}
use Rattle.myi_merge.specs.declared.ranges.Reading.{Reading}
use Rattle.myi_merge.specs.Merged.{IsSoundTable}
use Rattle.myi_merge.specs.Changing.{Keeps, KeepEach}
use Rattle.myi_merge.specs.Merging.{Reads, ReadEach, AheadEach, KeepBut}
use Rattle.myi_merge.proofs.FrameLemmas.{Rests, still_one}

-- both files of a table hold what they held, the other way round
back : (t : OpenTable) (m n : Holding) → Keeps t m n → Keeps t n m
back t m n k = record { rows = sym k.rows; index = sym k.index }

ahead_still : Rests → (t : OpenTable) (r : RangeRows) (mid next : Option Holding) (P : Holding → Holding → Type 0) → IsSoundTable t → Told mid next P → ((m n : Holding) → P m n → Keeps t m n) → IfHolds mid t (λ m s. IsAhead t r s) → IfHolds next t (λ m s. IsAhead t r s)
ahead_still rests t r None next P sound told keeps ahead = λ n held s h. absurd (let e : ◌≡◌ {A = Option Holding} None (Some n) = sym (told.untold refl) ∙ held in cc)
ahead_still rests t r (Some m) next P sound told keeps ahead = λ n held s h.
    let then = told.told m refl in
    let same : then.0 ≡ n = same_Some then.0 n (sym then.1 ∙ held) in
    let now : HoldState t s then.0 = subst (HoldState t s) (sym same) h in
    ahead m refl s (still_one rests t s then.0 m sound (back t m then.0 (keeps m then.0 then.2)) now)

pub ahead_each : Rests → (ts : List OpenTable) (rs : List Reading) (mid next : Option Holding) (P : Holding → Holding → Type 0) → AllByRecursion IsSoundTable ts → Told mid next P → ((m n : Holding) → P m n → KeepEach ts m n) → AheadEach mid ts rs → AheadEach next ts rs
ahead_each rests [] [] mid next P sound told keeps ahead = tt
ahead_each rests [] (r ∷ rs) mid next P sound told keeps ahead = elim ahead [ ]
ahead_each rests (t ∷ ts) [] mid next P sound told keeps ahead = elim ahead [ ]
ahead_each rests (t ∷ ts) (r ∷ rs) mid next P sound told keeps ahead = (
  ahead_still rests t r.rows mid next P sound.0 told (λ m n p. (keeps m n p).0) ahead.0,
  ahead_each rests ts rs mid next P sound.1 told (λ m n p. (keeps m n p).1) ahead.1,
)

-- the reading of one table went on
pub ahead_but : Rests → (ts : List OpenTable) (rs : List Reading) (i : ℕ) (new : OpenTable) (r : Reading) (mid next : Option Holding) (P : Holding → Holding → Type 0) → AllByRecursion IsSoundTable ts → Told mid next P → ((m n : Holding) → P m n → KeepBut i ts m n) → AheadEach mid ts rs
    → IfHolds next new (λ m s. IsAhead new r.rows s) → AheadEach next (set ts i new) (set rs i r)
ahead_but rests [] [] i new r mid next P sound told keeps ahead one = tt
ahead_but rests [] (q ∷ rs) i new r mid next P sound told keeps ahead one = elim ahead [ ]
ahead_but rests (t ∷ ts) [] i new r mid next P sound told keeps ahead one = elim ahead [ ]
ahead_but rests (t ∷ ts) (q ∷ rs) zero new r mid next P sound told keeps ahead one = (one, ahead_each rests ts rs mid next P sound.1 told keeps ahead.1)
ahead_but rests (t ∷ ts) (q ∷ rs) (suc i) new r mid next P sound told keeps ahead one = (
  ahead_still rests t q.rows mid next P sound.0 told (λ m n p. (keeps m n p).0) ahead.0,
  ahead_but rests ts rs i new r mid next P sound.1 told (λ m n p. (keeps m n p).1) ahead.1 one,
)

pub ahead_at : (told : Option Holding) (ts : List OpenTable) (rs : List Reading) (i : ℕ) (t : OpenTable) (r : Reading) → AheadEach told ts rs → i < length ts → get_or ts i t ≡ t → slice_get rs i ≡ Some r → IfHolds told t (λ m s. IsAhead t r.rows s)
ahead_at told [] rs i t r ahead lt at is = absurd (omega (arith, lt))
ahead_at told (u ∷ ts) [] i t r ahead lt at is = elim ahead [ ]
ahead_at told (u ∷ ts) (q ∷ rs) zero t r ahead lt at is =
    subst (λ (w : OpenTable). IfHolds told w (λ m s. IsAhead w r.rows s)) at (subst (λ (p : Reading). IfHolds told u (λ m s. IsAhead u p.rows s)) (same_Some q r is) ahead.0)
ahead_at told (u ∷ ts) (q ∷ rs) (suc i) t r ahead lt at is = ahead_at told ts rs i t r ahead.1 (omega (arith, lt)) at is

-- ---- the first so many tables

pub ahead_push : (told : Option Holding) (ts : List OpenTable) (rs : List Reading) (t : OpenTable) (r : Reading) → AheadEach told ts rs → IfHolds told t (λ m s. IsAhead t r.rows s) → AheadEach told (ts ++ t ∷ []) (rs ++ r ∷ [])
ahead_push told [] [] t r ahead one = (one, tt)
ahead_push told [] (q ∷ rs) t r ahead one = elim ahead [ ]
ahead_push told (u ∷ ts) [] t r ahead one = elim ahead [ ]
ahead_push told (u ∷ ts) (q ∷ rs) t r ahead one = (ahead.0, ahead_push told ts rs t r ahead.1 one)

pub each_push : (range : Range) (n : ℕ) (ts : List OpenTable) (ss : List TableState) (rs : List Reading) (t : OpenTable) (s : TableState) (r : Reading) → ReadEach range n ts ss rs [] → Reads (defs_in t) s (begun range) r [] → ReadEach range n (ts ++ t ∷ []) (ss ++ s ∷ []) (rs ++ r ∷ []) []
each_push range n [] [] [] t s r each one = (one, tt)
each_push range n [] [] (q ∷ rs) t s r each one = elim each [ ]
each_push range n [] (u ∷ ss) rs t s r each one = elim each [ ]
each_push range n (u ∷ ts) [] rs t s r each one = elim each [ ]
each_push range n (u ∷ ts) (v ∷ ss) [] t s r each one = elim each [ ]
each_push range n (u ∷ ts) (v ∷ ss) (q ∷ rs) t s r each one = (each.0, each_push range (n + 1) ts ss rs t s r each.1 one)

pub take_set : {A : Type 0} (xs : List A) (i : ℕ) (y : A) → take i (set xs i y) ≡ take i xs
take_set [] zero y = refl
take_set [] (suc i) y = refl
take_set (x ∷ xs) zero y = refl
take_set {A} (x ∷ xs) (suc i) y = ap (λ (l : List A). x ∷ l) (take_set xs i y)

pub take_next : {A : Type 0} (xs : List A) (i : ℕ) (y : A) → i < length xs → take (i + 1) (set xs i y) ≡ take i xs ++ y ∷ []
take_next [] i y lt = absurd (omega (arith, lt))
take_next (x ∷ xs) zero y lt = refl
take_next {A} (x ∷ xs) (suc i) y lt = let next : suc i + 1 ≡ suc (i + 1) = omega arith in ap (λ (n : ℕ). take n (set (x ∷ xs) (suc i) y)) next ∙ ap (λ (l : List A). x ∷ l) (take_next xs i y (omega (arith, lt)))

-- the files of the tables before one stay where all but its own stay
pub keep_before : (ts : List OpenTable) (i : ℕ) (m n : Holding) → KeepBut i ts m n → KeepEach (take i ts) m n
keep_before [] zero m n keep = tt
keep_before [] (suc i) m n keep = tt
keep_before (t ∷ ts) zero m n keep = tt
keep_before (t ∷ ts) (suc i) m n keep = (keep.0, keep_before ts i m n keep.1)

pub all_take : {A : Type 0} (P : A → Type 0) (xs : List A) (i : ℕ) → AllByRecursion P xs → AllByRecursion P (take i xs)
all_take P [] zero all = tt
all_take P [] (suc i) all = tt
all_take P (x ∷ xs) zero all = tt
all_take P (x ∷ xs) (suc i) all = (all.0, all_take P xs i all.1)
