-- In a spelled row the form of a field is written that is shorter, and at equal length the one without the flag.
use Rattle.std.proofs.Common.{◌≡◌, ℕ, zero, suc, ◌-◌, ◌*◌, ◌/◌, ◌<◌, ◌≤◌, Bool, true, false, List, [], ◌∷◌, ◌++◌, length, get_or, take, refl, sym, ap, subst, ◌∙◌, arith, length-append}
use Rattle.std.specs.Prelude.{◌==◌}
use Rattle.std.proofs.lemmas.Bool.{and_parts}
use Rattle.std.proofs.lemmas.List.Elements.{All-get_or}
use Rattle.myi_base.specs.Numbers.{low_num_bytes}
use Rattle.myi_base.specs.Blanks.{without_blanks}
use Rattle.myi_base.proofs.CallerLemmas.{length-low_num_bytes}
use Rattle.myi_defs.specs.declared.types.RowFormat.TheVariants.{Dynamic}
use Rattle.myi_defs.specs.declared.types.RowFormat.{RowFormat}
use Rattle.myi_defs.specs.declared.types.FieldKind.{FieldKind}
use Rattle.myi_defs.specs.declared.types.FieldKind.TheVariants.{Normal, SkipEndspace, SkipPrespace, SkipZero, Blob, Varchar}
use Rattle.myi_defs.specs.declared.types.Field.{Field}
use Rattle.myi_defs.specs.declared.types.Defs.{Defs}
use Rattle.myi_defs.specs.Kinds.{has_flag}
use Rattle.myi_defs.specs.Sound.{IsLengthOf, IsSound}
use Rattle.myi_pack.specs.Flags.{flag_at, flag_count, flag_bytes, packed_bits}
use Rattle.myi_pack.specs.Packed.{Values, PacksField}
use Rattle.myi_pack.specs.Spelling.{is_all, is_shorter, skip_length, trimmed_start, field_flag, field_bytes, skipped_bytes, flags_of, spelled_fields, spelled_row, spelling, fits_field, fits_fields, fits}
use Rattle.myi_pack.specs.Winning.{Wins, WinsInRow, flag_number}
use Rattle.myi_pack.proofs.FlagLemmas.{counted, few-flags, flag-packed, length-packed}
use Rattle.myi_pack.proofs.SpellingLemmas.{fits-each}
use Rattle.myi_pack.proofs.SpellingLaws.{shorter-has, field-spelled, field-least}

-- ---- a field

skipped-less : (n : ℕ) (t v : List ℕ) → is_shorter n (length t) ≡ true → length (skipped_bytes n t v) < n
skipped-less n t v e =
    let s = shorter-has n (length t) e in
    rw e (omega (arith, s.1, length-append (skip_length n (length t)) t))

zero-less : (n : ℕ) (v : List ℕ) → is_all 0 v ≡ true → 0 < n → length (field_bytes SkipZero n v) < n
zero-less n v e some = rw e some

blob-less : (n : ℕ) (v p : List ℕ) → (length v == 0) ≡ true → 9 ≤ n → p ≡ low_num_bytes (n - 8) (length v) → length (field_bytes Blob n v) < length (p ++ v)
blob-less n v p e long is = rw e (omega (arith, long, length-append p v, ap length is, length-low_num_bytes (n - 8) (length v)))

flagged-less : (kind : FieldKind) (n : ℕ) (v y : List ℕ) → IsLengthOf Dynamic kind n → field_flag kind n v ≡ true → PacksField kind n false v y → length (field_bytes kind n v) < length y
flagged-less Normal n v y long flag plain = absurd cc
flagged-less SkipEndspace n v y long flag plain = omega (arith, skipped-less n (without_blanks v) v flag, plain.0, ap length plain.1)
flagged-less SkipPrespace n v y long flag plain = omega (arith, skipped-less n (trimmed_start v) v flag, plain.0, ap length plain.1)
flagged-less SkipZero n v y long flag plain = omega (arith, zero-less n v flag long, plain.0, ap length plain.1)
flagged-less Blob n v y long flag plain = omega (arith, blob-less n v plain.0 flag long.1 plain.1.1, ap length plain.2)
flagged-less Varchar n v y long flag plain = absurd cc

field-wins : (kind : FieldKind) (n : ℕ) (v : List ℕ) → IsLengthOf Dynamic kind n → fits_field Dynamic kind n v ≡ true → Wins kind n v (field_flag kind n v)
field-wins kind n v long fit = by (field_flag kind n v) refl
  where
    by : (bit : Bool) → field_flag kind n v ≡ bit → Wins kind n v bit
    by true e = (field_bytes kind n v, subst (λ (b : Bool). PacksField kind n b v (field_bytes kind n v)) e (field-spelled kind n v fit), λ y. flagged-less kind n v y long e)
    by false e = (field_bytes kind n v, subst (λ (b : Bool). PacksField kind n b v (field_bytes kind n v)) e (field-spelled kind n v fit), λ y. field-least kind n true v y)

-- ---- its flag

-- the flag of a field, behind those of the fields before it
record HasFlag (fs : List Field) (vs : Values) (i : ℕ) (f : Field) : Type 0 where
  inside : flag_count (take i fs) < length (flags_of fs vs)
  is : get_or (flags_of fs vs) (flag_count (take i fs)) false ≡ field_flag f.kind f.length (get_or vs i [])

flag-first : (f : Field) (fs : List Field) (v : List ℕ) (vs : Values) → has_flag f.kind ≡ true → HasFlag (f ∷ fs) (v ∷ vs) 0 f
flag-first f fs v vs has =
    let all : flags_of (f ∷ fs) (v ∷ vs) ≡ field_flag f.kind f.length v ∷ flags_of fs vs = rw has refl in
    record { inside = omega (arith, ap (λ (l : List Bool). length l) all); is = ap (λ (l : List Bool). get_or l 0 false) all }

flag-behind : (f : Field) (fs : List Field) (v : List ℕ) (vs : Values) (i : ℕ) (g : Field) → HasFlag fs vs i g → (b : Bool) → has_flag f.kind ≡ b → HasFlag (f ∷ fs) (v ∷ vs) (suc i) g
flag-behind f fs v vs i g more true e =
    let n : flag_count (f ∷ take i fs) ≡ suc (flag_count (take i fs)) = omega (arith, counted f (take i fs) true e) in
    let all : flags_of (f ∷ fs) (v ∷ vs) ≡ field_flag f.kind f.length v ∷ flags_of fs vs = rw e refl in
    record {
      inside = omega (arith, n, more.inside, ap (λ (l : List Bool). length l) all);
      is = ap (λ (l : List Bool). get_or l (flag_count (f ∷ take i fs)) false) all ∙ ap (λ k. get_or (field_flag f.kind f.length v ∷ flags_of fs vs) k false) n ∙ more.is;
    }
flag-behind f fs v vs i g more false e =
    let n : flag_count (f ∷ take i fs) ≡ flag_count (take i fs) = omega (arith, counted f (take i fs) false e) in
    let all : flags_of (f ∷ fs) (v ∷ vs) ≡ flags_of fs vs = rw e refl in
    record {
      inside = omega (arith, n, more.inside, ap (λ (l : List Bool). length l) all);
      is = ap (λ (l : List Bool). get_or l (flag_count (f ∷ take i fs)) false) all ∙ ap (λ k. get_or (flags_of fs vs) k false) n ∙ more.is;
    }

flag-of : (fs : List Field) (vs : Values) (i : ℕ) (d : Field) → fits_fields Dynamic fs vs ≡ true → i < length fs → has_flag (get_or fs i d).kind ≡ true → HasFlag fs vs i (get_or fs i d)
flag-of [] vs i d fit inside has = absurd (omega arith)
flag-of (f ∷ fs) [] i d fit inside has = absurd cc
flag-of (f ∷ fs) (v ∷ vs) zero d fit inside has = flag-first f fs v vs has
flag-of (f ∷ fs) (v ∷ vs) (suc i) d fit inside has =
    flag-behind f fs v vs i (get_or fs i d) (flag-of fs vs i d (and_parts (fits_field Dynamic f.kind f.length v) (fits_fields Dynamic fs vs) fit).1 (omega arith) has) (has_flag f.kind) refl

front-byte : (xs ys : List ℕ) (i : ℕ) → i < length xs → get_or (xs ++ ys) i 0 ≡ get_or xs i 0
front-byte [] ys i inside = absurd (omega arith)
front-byte (x ∷ xs) ys zero inside = refl
front-byte (x ∷ xs) ys (suc i) inside = front-byte xs ys i (omega arith)

front-flag : (xs ys : List ℕ) (k : ℕ) → k < 8 * length xs → flag_at (xs ++ ys) k ≡ flag_at xs k
unfolding flag_at
front-flag xs ys k inside = rw (front-byte xs ys (k / 8) (omega (arith, inside))) refl

row-flag : (fs : List Field) (vs : Values) (i : ℕ) (d : Field) → fits_fields Dynamic fs vs ≡ true → i < length fs → has_flag (get_or fs i d).kind ≡ true
    → flag_at (packed_bits (flag_bytes (flag_count fs)) (flags_of fs vs) ++ spelled_fields Dynamic fs vs) (flag_number fs i) ≡ field_flag (get_or fs i d).kind (get_or fs i d).length (get_or vs i [])
row-flag fs vs i d fit inside has =
    let f = flag-of fs vs i d fit inside has in
    let long = length-packed (flag_bytes (flag_count fs)) (flags_of fs vs) in
    let few : flag_number fs i < 8 * flag_bytes (flag_count fs) = omega (arith, f.inside, few-flags fs vs) in
    front-flag (packed_bits (flag_bytes (flag_count fs)) (flags_of fs vs)) (spelled_fields Dynamic fs vs) (flag_number fs i) (omega (arith, few, long))
    ∙ flag-packed (flag_bytes (flag_count fs)) (flags_of fs vs) (flag_number fs i) few ∙ f.is

value-fits : (fs : List Field) (vs : Values) (i : ℕ) (d : Field) → fits_fields Dynamic fs vs ≡ true → i < length fs → fits_field Dynamic (get_or fs i d).kind (get_or fs i d).length (get_or vs i []) ≡ true
value-fits [] vs i d fit inside = absurd (omega arith)
value-fits (f ∷ fs) [] i d fit inside = absurd cc
value-fits (f ∷ fs) (v ∷ vs) zero d fit inside = (and_parts (fits_field Dynamic f.kind f.length v) (fits_fields Dynamic fs vs) fit).0
value-fits (f ∷ fs) (v ∷ vs) (suc i) d fit inside = value-fits fs vs i d (and_parts (fits_field Dynamic f.kind f.length v) (fits_fields Dynamic fs vs) fit).1 (omega arith)

-- ---- the row

pub row-wins : (d : Defs) (row : Values) (i : ℕ) → IsSound d → d.format ≡ Dynamic → fits d row ≡ true → i < length d.fields → (f : Field) → WinsInRow d row i (get_or d.fields i f)
unfolding spelling
row-wins d row i sound dynamic fit inside f has =
    let each = fits-each d row Dynamic d.fields row fit dynamic refl refl in
    let field = get_or d.fields i f in
    let long : IsLengthOf Dynamic field.kind field.length = subst (λ (x : RowFormat). IsLengthOf x field.kind field.length) dynamic (All-get_or (λ (g : Field). IsLengthOf d.format g.kind g.length) d.fields i f inside sound.lengths) in
    let flag : flag_at (spelled_row d.format d row) (flag_number d.fields i) ≡ field_flag field.kind field.length (get_or row i []) =
    ap (λ (x : RowFormat). flag_at (spelled_row x d row) (flag_number d.fields i)) dynamic ∙ row-flag d.fields row i f each inside has in
    subst (Wins field.kind field.length (get_or row i [])) (sym flag) (field-wins field.kind field.length (get_or row i []) long (value-fits d.fields row i f each inside))
