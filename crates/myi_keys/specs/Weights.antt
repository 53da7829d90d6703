-- The weights of a segment's content. Integers stand low byte first in a row (MySQL Internals Manual, "MyISAM Record
-- Structure"); trailing blanks do not count in a text but in the collation binary (MySQL Reference Manual, "The binary
-- Collation Compared to _bin Collations"); a prefix of a text counts characters (MySQL Reference Manual, "Column
-- Indexes"), which is measured here by the bytes that begin one.
use Rattle.std.specs.Prelude.{◌≡◌, ℕ, zero, suc, ◌/◌, ◌||◌, Bool, List, [], ◌∷◌, length, take, map, reverse, nat_lt, bit_xor, Option, Some, None, IsSome, if◌then◌else◌}
use Rattle.myi_base.specs.Blanks.{without_blanks}
use Rattle.myi_defs.specs.declared.types.Segment.{Segment}
use Rattle.myi_defs.specs.declared.types.SegType.{SegType}
use Rattle.myi_defs.specs.declared.types.SegType.TheVariants as types
use Rattle.myi_keys.specs.declared.collations.Collation.{Collation}
use Rattle.myi_keys.specs.declared.collations.Collation.TheVariants as collations
use Rattle.myi_keys.specs.Collations.{collation_of, character_width, weight}

-- integers

-- the topmost bit inverted, so that negative numbers come before the others
abbrev pub sign_inverted : List ℕ → List ℕ
sign_inverted [] = []
sign_inverted (b ∷ bs) = bit_xor b 0x80 ∷ bs

-- texts

-- whether a byte begins a character of UTF-8: it is outside 80 to BF
abbrev pub begins_character : ℕ → Bool
begins_character b = nat_lt b 0x80 || nat_lt 0xBF b

-- the longest prefix with at most n bytes that begin a character
abbrev pub first_characters : ℕ → List ℕ → List ℕ
first_characters n [] = []
first_characters zero (b ∷ bs) = if begins_character b then [] else b ∷ first_characters zero bs
first_characters (suc n) (b ∷ bs) = b ∷ first_characters (if begins_character b then n else suc n) bs

-- where a segment's length counts characters, no more of them than the length has room for
abbrev pub character_prefix : Option ℕ → ℕ → List ℕ → List ℕ
character_prefix None limit content = content
character_prefix (Some width) limit content = first_characters (limit / width) content

-- collation 63 alone keeps trailing blanks
abbrev pub blanks_stripped : Collation → List ℕ → List ℕ
blanks_stripped collations.Binary bytes = bytes
blanks_stripped _ bytes = without_blanks bytes

-- what of a text's content is weighed: its first bytes, cut at a character, without trailing blanks
abbrev pub weighed_part : Collation → ℕ → List ℕ → List ℕ
weighed_part collation limit content = blanks_stripped collation (character_prefix (character_width collation) limit (take limit content))

-- each byte of that part by its weight
abbrev pub weights_in : Collation → ℕ → List ℕ → List ℕ
weights_in collation limit content = map (weight collation) (weighed_part collation limit content)

-- a text has weights in the seven collations only
abbrev pub text_weights : Option Collation → ℕ → List ℕ → List ℕ
text_weights None limit content = []
text_weights (Some collation) limit content = weights_in collation limit content

-- segments

-- the weights of content by a segment's type, language and length
abbrev pub weights_by : SegType → ℕ → ℕ → List ℕ → List ℕ
weights_by types.ShortInt language limit content = sign_inverted (reverse content)
weights_by types.LongInt language limit content = sign_inverted (reverse content)
weights_by types.Longlong language limit content = sign_inverted (reverse content)
weights_by types.Int24 language limit content = sign_inverted (reverse content)
weights_by types.Int8 language limit content = sign_inverted (reverse content)
weights_by types.UshortInt language limit content = reverse content
weights_by types.UlongInt language limit content = reverse content
weights_by types.Ulonglong language limit content = reverse content
weights_by types.Uint24 language limit content = reverse content
weights_by types.Binary language limit content = content
weights_by types.VarBinary language limit content = take limit content
weights_by types.Text language limit content = text_weights (collation_of language) limit content
weights_by types.VarText language limit content = text_weights (collation_of language) limit content

-- the weights of a segment's content
unfoldable pub weights : Segment → List ℕ → List ℕ
weights seg content = weights_by seg.seg seg.language seg.length content

-- what content a segment of a type, language and length can have: an integer has its type's size, a binary has the segment's length, and the
-- collation of a text is one of the seven
abbrev pub CanWeighBy : SegType → ℕ → ℕ → List ℕ → Type 0
CanWeighBy types.ShortInt language limit content = length content ≡ 2
CanWeighBy types.LongInt language limit content = length content ≡ 4
CanWeighBy types.Longlong language limit content = length content ≡ 8
CanWeighBy types.Int24 language limit content = length content ≡ 3
CanWeighBy types.Int8 language limit content = length content ≡ 1
CanWeighBy types.UshortInt language limit content = length content ≡ 2
CanWeighBy types.UlongInt language limit content = length content ≡ 4
CanWeighBy types.Ulonglong language limit content = length content ≡ 8
CanWeighBy types.Uint24 language limit content = length content ≡ 3
CanWeighBy types.Binary language limit content = length content ≡ limit
CanWeighBy types.VarBinary language limit content = Unit {0}
CanWeighBy types.Text language limit content = IsSome (collation_of language)
CanWeighBy types.VarText language limit content = IsSome (collation_of language)

-- whether content can be that of a segment
abbrev pub CanWeigh : Segment → List ℕ → Type 0
CanWeigh seg content = CanWeighBy seg.seg seg.language seg.length content
