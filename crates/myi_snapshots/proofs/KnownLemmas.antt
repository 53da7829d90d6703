-- The rows that known words spell.
use Rattle.std.proofs.Common.{◌≡◌, ℕ, ◌≤◌, ◌<◌, ◌^◌, ◌&&◌, Bool, true, false, List, [], ◌∷◌, ◌++◌, length, All, Option, is_some, unwrap_or, refl, ap, ◌∙◌}
use Rattle.std.proofs.lemmas.Bool.{lt-ltb, ltb-true}
use Rattle.std.proofs.lemmas.List.Elements.{All-cons, All-nil}
use Rattle.myi_base.specs.Numbers.{AreBytes}
use Rattle.myi_defs.specs.declared.types.RowFormat.{RowFormat}
use Rattle.myi_defs.specs.declared.types.RowFormat.TheVariants.{Static, Dynamic}
use Rattle.myi_defs.specs.declared.types.Defs.{Defs}
use Rattle.myi_defs.specs.Sound.{IsSound}
use Rattle.myi_pack.specs.Packed.{Values}
use Rattle.myi_pack.specs.Spelling.{spelling, fits}
use Rattle.myi_pack.specs.Unpacking.{row_of}
use Rattle.myi_pack.proofs.CallerLemmas.{row-reads, row-told}
use Rattle.myi_tail.specs.Prefix.{BeginsWith}
use Rattle.myi_spelling.proofs.CallerLemmas as spelled
use Rattle.myi_snapshots.specs.Appended.{AllFit, AllAreBytes}
use Rattle.myi_snapshots.specs.Known.{is_short, is_row, known_rows, packed_rows, words_of_rows, values_of}

short_by : (format : RowFormat) (n : ℕ) → (format ≡ Dynamic → n < 2 ^ 32) → is_short format n ≡ true
short_by Static n lt = refl
short_by Dynamic n lt = lt-ltb n (2 ^ 32) (lt refl)

is_one : (d : Defs) (row : Values) → IsSound d → fits d row ≡ true → is_row d (spelling d row) ≡ true
is_one d row sound fit =
    ap (λ (o : Option Values). is_some o && is_short d.format (length (spelling d row))) (row-reads d row sound fit)
    ∙ short_by d.format (length (spelling d row)) (λ dynamic. row-told d row dynamic fit)

are_bytes : (d : Defs) (rows : List Values) → AllAreBytes d rows → All AreBytes (packed_rows d rows)
are_bytes d [] all = All-nil AreBytes
are_bytes d (x ∷ xs) all = All-cons AreBytes (spelling d x) (packed_rows d xs) all.0 (are_bytes d xs all.1)

are_rows : (d : Defs) (rows : List Values) → IsSound d → AllFit d rows → All (λ row. is_row d row ≡ true) (packed_rows d rows)
are_rows d [] sound fit = All-nil (λ row. is_row d row ≡ true)
are_rows d (x ∷ xs) sound fit = All-cons (λ row. is_row d row ≡ true) (spelling d x) (packed_rows d xs) (is_one d x sound fit.0) (are_rows d xs sound fit.1)

pub read : (d : Defs) (rows : List Values) (rest : List ℕ) → IsSound d → AllFit d rows → AllAreBytes d rows → known_rows d (words_of_rows d rows ++ rest) ≡ packed_rows d rows ++ known_rows d rest
read d rows rest sound fit bytes = spelled.read (is_row d) (packed_rows d rows) rest (are_bytes d rows bytes) (are_rows d rows sound fit)

pub values : (d : Defs) (rows : List Values) → IsSound d → AllFit d rows → values_of d (packed_rows d rows) ≡ rows
values d [] sound fit = refl
values d (x ∷ xs) sound fit =
    let here : unwrap_or (row_of d (spelling d x)) [] ≡ x = ap (λ (o : Option Values). unwrap_or o []) (row-reads d x sound fit.0) in
    let others = values d xs sound fit.1 in
    (λ i. here i ∷ others i)

pub first : (d : Defs) (all words : List ℕ) → BeginsWith all words → BeginsWith (known_rows d all) (known_rows d words)
first d all words front = spelled.first_spelled (is_row d) all words front

pub few : (d : Defs) (words : List ℕ) → length (known_rows d words) ≤ length words
few d words = spelled.few_rows (is_row d) words

and_parts : (a b : Bool) → (a && b) ≡ true → (a ≡ true) × (b ≡ true)
and_parts true b e = (refl, e)
and_parts false b e = absurd (cc e)

short_of : (format : RowFormat) (n : ℕ) → is_short format n ≡ true → format ≡ Dynamic → n < 2 ^ 32
short_of Static n is e = absurd (cc e)
short_of Dynamic n is e = ltb-true n (2 ^ 32) is

-- what a row of the table is
pub row_parts : (d : Defs) (bytes : List ℕ) → is_row d bytes ≡ true → (is_some (row_of d bytes) ≡ true) × (d.format ≡ Dynamic → length bytes < 2 ^ 32)
row_parts d bytes is =
    let parts = and_parts (is_some (row_of d bytes)) (is_short d.format (length bytes)) is in
    (parts.0, short_of d.format (length bytes) parts.1)
