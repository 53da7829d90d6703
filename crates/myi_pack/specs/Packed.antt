-- Which bytes pack a row (MySQL Internals Manual, "MyISAM Dynamic Data File Layout" and "MyISAM Static
-- Data File Layout"). A row has one value for each field. Several bytes may pack one row; no bytes pack
-- two.
use Rattle.std.specs.Prelude.{◌≡◌, ◌≢◌, ◌≤◌, ◌<◌, ◌+◌, ◌-◌, ℕ, Bool, true, false, List, [], ◌∷◌, ◌++◌, length, replicate, slice_index}
use Rattle.myi_defs.specs.declared.types.RowFormat.{RowFormat}
use Rattle.myi_defs.specs.declared.types.RowFormat.TheVariants.{Static, Dynamic}
use Rattle.myi_defs.specs.declared.types.FieldKind.{FieldKind}
use Rattle.myi_defs.specs.declared.types.FieldKind.TheVariants.{Normal, SkipEndspace, SkipPrespace, SkipZero, Blob, Varchar}
use Rattle.myi_defs.specs.declared.types.Field.{Field}
use Rattle.myi_defs.specs.declared.types.Defs.{Defs}
use Rattle.myi_pack.specs.Lengths.{IsSkipLength, IsVarcharLength, IsLowLength, length_bytes}
use Rattle.myi_pack.specs.Flags.{flag_count, flag_bytes, flag_at, next_flag}

-- the values of a row, in the order of the fields
abbrev pub Values : Type 0
Values = List (List ℕ)

abbrev pub spaces : ℕ → List ℕ
spaces n = replicate n 32

-- the bytes are the value, which has n of them
abbrev pub IsPlain : ℕ → List ℕ → List ℕ → Type 0
IsPlain n v x = (length v ≡ n) × (x ≡ v)

-- a length below n and so many bytes, which spaces follow in the value
abbrev pub IsPadded : ℕ → List ℕ → List ℕ → Type 0
IsPadded n v x =
    (p : List ℕ) × (c : List ℕ) × (length c < n) × IsSkipLength n (length c) p
    × (v ≡ c ++ spaces (n - length c)) × (x ≡ p ++ c)

-- a length below n and so many bytes, before which spaces stand in the value
abbrev pub IsLed : ℕ → List ℕ → List ℕ → Type 0
IsLed n v x =
    (p : List ℕ) × (c : List ℕ) × (length c < n) × IsSkipLength n (length c) p
    × (v ≡ spaces (n - length c) ++ c) × (x ≡ p ++ c)

-- the bytes x of a field of n bytes in a dynamic row, whose flag is set or not, stand for the value v
abbrev pub PacksField : FieldKind → ℕ → Bool → List ℕ → List ℕ → Type 0
PacksField Normal n bit v x = IsPlain n v x
PacksField SkipEndspace n true v x = IsPadded n v x
PacksField SkipEndspace n false v x = IsPlain n v x
PacksField SkipPrespace n true v x = IsLed n v x
PacksField SkipPrespace n false v x = IsPlain n v x
PacksField SkipZero n true v x = (v ≡ replicate n 0) × (x ≡ [])
PacksField SkipZero n false v x = IsPlain n v x
PacksField Blob n true v x = (v ≡ []) × (x ≡ [])
PacksField Blob n false v x = (p : List ℕ) × IsLowLength (n - 8) (length v) p × (x ≡ p ++ v)
PacksField Varchar n bit v x =
    (p : List ℕ) × (length v + length_bytes n ≤ n) × IsVarcharLength n (length v) p × (x ≡ p ++ v)

-- the n bytes x of a field in a static row stand for the value v: what follows a VARCHAR's content is not
-- read, the other fields are plain, and there is no BLOB
abbrev pub FillsField : FieldKind → ℕ → List ℕ → List ℕ → Type 0
FillsField Normal n v x = IsPlain n v x
FillsField SkipEndspace n v x = IsPlain n v x
FillsField SkipPrespace n v x = IsPlain n v x
FillsField SkipZero n v x = IsPlain n v x
FillsField Blob n v x = ⊥
FillsField Varchar n v x =
    (p : List ℕ) × (rest : List ℕ) × (length v + length_bytes n ≤ n)
    × IsLowLength (length_bytes n) (length v) p × (length x ≡ n) × (x ≡ p ++ (v ++ rest))

abbrev pub HoldsField : RowFormat → FieldKind → ℕ → Bool → List ℕ → List ℕ → Type 0
HoldsField Static kind n bit v x = FillsField kind n v x
HoldsField Dynamic kind n bit v x = PacksField kind n bit v x

-- the fields, one after the other; flag k is the first of theirs
abbrev pub HoldsFields : RowFormat → List Field → ℕ → List ℕ → Values → List ℕ → Type 0
HoldsFields format [] k flags [] b = b ≡ []
HoldsFields format [] k flags (v ∷ vs) b = ⊥
HoldsFields format (f ∷ fs) k flags [] b = ⊥
HoldsFields format (f ∷ fs) k flags (v ∷ vs) b =
    (x : List ℕ) × (y : List ℕ) × (b ≡ x ++ y) × HoldsField format f.kind f.length (flag_at flags k) v x
    × HoldsFields format fs (next_flag f.kind k) flags vs y

-- a dynamic row: the flags, of which no spare one is set, and the fields, with no byte left over
pub record IsDynamicRow (fs : List Field) (row : Values) (b : List ℕ) : Type 0 where
  pub flags : List ℕ
  pub content : List ℕ
  pub whole : b ≡ flags ++ content
  pub count : length flags ≡ flag_bytes (flag_count fs)
  pub spare : (k : ℕ) → flag_count fs ≤ k → flag_at flags k ≡ false
  pub fields : HoldsFields Dynamic fs 0 flags row content

-- a static row: a whole slot whose first byte is not 0; what follows the fields is not read
pub record IsStaticRow (fs : List Field) (slot_length : ℕ) (row : Values) (b : List ℕ) : Type 0 where
  pub content : List ℕ
  pub rest : List ℕ
  pub whole : b ≡ content ++ rest
  pub slot : length b ≡ slot_length
  pub read : slice_index b 0 ≢ 0
  pub fields : HoldsFields Static fs 0 [] row content

abbrev pub IsRow : RowFormat → Defs → Values → List ℕ → Type 0
IsRow Static d row b = IsStaticRow d.fields d.slot_length row b
IsRow Dynamic d row b = IsDynamicRow d.fields row b

-- the bytes b pack the row
abbrev pub Packs : Defs → Values → List ℕ → Type 0
Packs d row b = IsRow d.format d row b
