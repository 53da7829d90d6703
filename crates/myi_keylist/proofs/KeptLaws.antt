-- The pairs of the rows that are kept, with their pointers.
use Rattle.std.proofs.Common.{◌≡◌, ℕ, suc, ◌+◌, ◌<◌, Bool, true, false, cond, List, [], ◌∷◌, length, get_or, map, refl, sym, ap, ◌∙◌, arith}
use Rattle.std.specs.List.{filter, range_with_len}
use Rattle.myi_keylist.specs.declared.pair.Pair.{Pair}
use Rattle.myi_keylist.specs.PairOrder.{pair_with, sorted}
use Rattle.myi_keylist.specs.FirstBy.{KeyOf}
use Rattle.myi_keylist.specs.Classes.{picked}
use Rattle.myi_keylist.specs.Columns.{AreRisingAt, has_flag, key_by_number, numbered, pairs_with, pointed}
use Rattle.myi_keylist.proofs.PointerLaws.{kept_sorted}

pairs_from : KeyOf ℕ → ℕ → ℕ → List Pair
pairs_from key row n = map (λ r. pair_with (key r) r) (range_with_len row n)

from_place : {Row : Type 0} (named : KeyOf ℕ) (all : List Bool) (places : List ℕ) (key : KeyOf Row) (some : Row) (rows : List Row) (flags : List Bool) (pointers : List ℕ) (first : ℕ)
    → ((i j : ℕ) → j ≡ first + i → get_or all j false ≡ get_or flags i false) → ((i j : ℕ) → j ≡ first + i → get_or places j 0 ≡ get_or pointers i 0)
    → ((i j : ℕ) → j ≡ first + i → i < length rows → named j ≡ key (get_or rows i some)) → length flags ≡ length rows → length pointers ≡ length rows
    → map (pointed places) (filter (has_flag all) (pairs_from named first (length rows))) ≡ pairs_with key (picked flags rows) (picked flags pointers)
unfolding pairs_from
from_place named all places key some [] [] pointers first flagged placed keyed long same = refl
from_place named all places key some [] (b ∷ flags) pointers first flagged placed keyed long same = absurd (omega (arith, long))
from_place named all places key some (row ∷ rows) [] pointers first flagged placed keyed long same = absurd (omega (arith, long))
from_place named all places key some (row ∷ rows) (b ∷ flags) [] first flagged placed keyed long same = absurd (omega (arith, same))
from_place named all places key some (row ∷ rows) (b ∷ flags) (pointer ∷ pointers) first flagged placed keyed long same =
    let rest = from_place named all places key some rows flags pointers (first + 1) (λ i j at. flagged (suc i) j (omega (arith, at))) (λ i j at. placed (suc i) j (omega (arith, at)))
    (λ i j at few. keyed (suc i) j (omega (arith, at)) (omega (arith, few))) (omega (arith, long)) (omega (arith, same)) in
    ap (λ c. map (pointed places) (cond c (pair_with (named first) first ∷ filter (has_flag all) (pairs_from named (first + 1) (length rows))) (filter (has_flag all) (pairs_from named (first + 1) (length rows))))) (flagged 0 first (omega arith))
    ∙ by b rest (keyed 0 first (omega arith) (omega arith)) (placed 0 first (omega arith))
  where
    by : (c : Bool) → map (pointed places) (filter (has_flag all) (pairs_from named (first + 1) (length rows))) ≡ pairs_with key (picked flags rows) (picked flags pointers)
        → named first ≡ key row → get_or places first 0 ≡ pointer
        → map (pointed places) (cond c (pair_with (named first) first ∷ filter (has_flag all) (pairs_from named (first + 1) (length rows))) (filter (has_flag all) (pairs_from named (first + 1) (length rows))))
        ≡ pairs_with key (picked (c ∷ flags) (row ∷ rows)) (picked (c ∷ flags) (pointer ∷ pointers))
    by true others is at = ap (λ k. pair_with k (get_or places first 0) ∷ map (pointed places) (filter (has_flag all) (pairs_from named (first + 1) (length rows)))) is ∙ ap (λ n. pair_with (key row) n ∷ map (pointed places) (filter (has_flag all) (pairs_from named (first + 1) (length rows)))) at ∙ ap (λ ps. pair_with (key row) pointer ∷ ps) others
    by false others is at = others

pub kept_listed : {Row : Type 0} (key : KeyOf Row) (rows : List Row) (some : Row) (flags : List Bool) (pointers : List ℕ) → length flags ≡ length rows → length pointers ≡ length rows → AreRisingAt flags pointers
    → map (pointed pointers) (filter (has_flag flags) (sorted (numbered (key_by_number rows some key) (length rows)))) ≡ sorted (pairs_with key (picked flags rows) (picked flags pointers))
unfolding pairs_from
kept_listed key rows some flags pointers long same rise =
    sym (kept_sorted flags pointers (numbered (key_by_number rows some key) (length rows)) rise)
    ∙ ap sorted (from_place (key_by_number rows some key) flags pointers key some rows flags pointers 0 (λ i j at. let e : j ≡ i = omega (arith, at) in ap (λ n. get_or flags n false) e) (λ i j at. let e : j ≡ i = omega (arith, at) in ap (λ n. get_or pointers n 0) e)
    (λ i j at few. let e : j ≡ i = omega (arith, at) in ap (λ n. key (get_or rows n some)) e) long same)
