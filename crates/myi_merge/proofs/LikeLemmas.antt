-- Fields and keys that are compared one by one.
use Rattle.std.proofs.Common.{◌≡◌, ◌<◌, ◌+◌, ◌==◌, ◌&&◌, ℕ, Bool, true, false, List, length, take, get_or, refl, sym, subst, ap, ◌∙◌}
use Rattle.std.specs.Bool.{Decides}
use Rattle.std.proofs.lemmas.Bool.Decides.{Decides-eqb}
use Rattle.std.proofs.lemmas.List.{take_more_same, get_or_default}
use Rattle.myi_defs.specs.declared.types.Field.{Field}
use Rattle.myi_defs.specs.declared.types.Segment.{Segment}
use Rattle.myi_defs.specs.declared.types.Key.{Key}

-- two tests, both of which decide
decides_both : {P Q : Type 0} (r s : Bool) → Decides r P → Decides s Q → Decides (r && s) (P × Q)
decides_both true s one other = (λ is. (one.0 refl, other.0 is), λ both. other.1 both.1)
decides_both false s one other = (λ is. absurd cc, λ both. let no : false ≡ true = one.1 both.0 in absurd cc)

-- a test behind another one that holds
pub decides_then : {P Q : Type 0} (value r s : Bool) → Decides r P → r ≡ true → Decides s Q → value ≡ s → Decides value (P × Q)
decides_then value r s one holds other is = (λ yes. (one.0 holds, other.0 (sym is ∙ yes)), λ both. is ∙ other.1 both.1)

-- and behind one that does not
pub decides_else : {P Q : Type 0} (value r : Bool) → Decides r P → r ≡ false → value ≡ false → Decides value (P × Q)
decides_else value r one fails is = (λ yes. let no : false ≡ true = sym is ∙ yes in absurd cc, λ both. let no : false ≡ true = sym fails ∙ one.1 both.0 in absurd cc)

-- ---- fields and segments

field_is : (a b : Field) → a.kind ≡ b.kind → a.length ≡ b.length → a.start ≡ b.start → a ≡ b
field_is a b k l s =
    let same : ◌≡◌ {A = Field} (record { kind = a.kind; length = a.length; start = a.start }) (record { kind = b.kind; length = b.length; start = b.start }) = cc in
    same

pub field_decides : (r : Bool) (a b : Field) → Decides r (a.kind ≡ b.kind) → Decides (r && (a.length == b.length && a.start == b.start)) (a ≡ b)
field_decides r a b d =
    let all = decides_both r _ d (decides_both (a.length == b.length) _ (Decides-eqb a.length b.length) (Decides-eqb a.start b.start)) in
    (λ is. let w = all.0 is in field_is a b w.0 w.1.0 w.1.1, λ same. all.1 (ap (λ (x : Field). x.kind) same, (ap (λ (x : Field). x.length) same, ap (λ (x : Field). x.start) same)))

segment_is : (a b : Segment) → a.seg ≡ b.seg → a.language ≡ b.language → a.null_bit ≡ b.null_bit → a.null_pos ≡ b.null_pos → a.length ≡ b.length → a.start ≡ b.start → a.field ≡ b.field → a ≡ b
segment_is a b s l n p q t f =
    let same : ◌≡◌ {A = Segment} (record { seg = a.seg; language = a.language; null_bit = a.null_bit; null_pos = a.null_pos; length = a.length; start = a.start; field = a.field }) (record { seg = b.seg; language = b.language; null_bit = b.null_bit; null_pos = b.null_pos; length = b.length; start = b.start; field = b.field }) = cc in
    same

pub segment_decides : (r : Bool) (a b : Segment) → Decides r (a.seg ≡ b.seg) → Decides (r && (a.language == b.language && (a.null_bit == b.null_bit && (a.null_pos == b.null_pos && (a.length == b.length && (a.start == b.start && a.field == b.field)))))) (a ≡ b)
segment_decides r a b d =
    let all = decides_both r _ d (decides_both (a.language == b.language) _ (Decides-eqb a.language b.language) (decides_both (a.null_bit == b.null_bit) _ (Decides-eqb a.null_bit b.null_bit) (decides_both (a.null_pos == b.null_pos) _ (Decides-eqb a.null_pos b.null_pos) (decides_both (a.length == b.length) _ (Decides-eqb a.length b.length) (decides_both (a.start == b.start) _ (Decides-eqb a.start b.start) (Decides-eqb a.field b.field)))))) in (
      λ is. let w = all.0 is in segment_is a b w.0 w.1.0 w.1.1.0 w.1.1.1.0 w.1.1.1.1.0 w.1.1.1.1.1.0 w.1.1.1.1.1.1,
      λ same. all.1 (ap (λ (x : Segment). x.seg) same, (ap (λ (x : Segment). x.language) same, (ap (λ (x : Segment). x.null_bit) same, (ap (λ (x : Segment). x.null_pos) same, (ap (λ (x : Segment). x.length) same, (ap (λ (x : Segment). x.start) same, (ap (λ (x : Segment). x.field) same))))))),
    )

-- ---- keys

key_is : (a b : Key) → a.unique ≡ b.unique → a.block_length ≡ b.block_length → a.segments ≡ b.segments → a ≡ b
key_is a b u l s =
    subst (λ (x : Bool). a ≡ record { unique = x; block_length = b.block_length; segments = b.segments }) u
    (subst (λ (y : ℕ). a ≡ record { unique = a.unique; block_length = y; segments = b.segments }) l
    (subst (λ (z : List Segment). a ≡ record { unique = a.unique; block_length = a.block_length; segments = z }) s refl))

-- keys that differ at most in their segments are the same where these are
pub key_decides : (a b : Key) (r : Bool) → a.unique ≡ b.unique → a.block_length ≡ b.block_length → Decides r (a.segments ≡ b.segments) → Decides r (a ≡ b)
key_decides a b r u l d = (λ is. key_is a b u l (d.0 is), λ same. d.1 (ap (λ (k : Key). k.segments) same))

-- one more key that is the same in both
pub same_more : (xs ys : List Key) (i : ℕ) (a b : Key) → i < length xs → i < length ys → a ≡ get_or xs i a → b ≡ get_or ys i b → take i xs ≡ take i ys → a ≡ b → take (i + 1) xs ≡ take (i + 1) ys
same_more xs ys i a b lt other_lt at other_at before same = take_more_same xs ys i a lt other_lt before (sym at ∙ same ∙ other_at ∙ get_or_default ys i b a other_lt)

-- the same keys are the same at each place
pub same_at : (xs ys : List Key) (i : ℕ) (a b : Key) → i < length ys → a ≡ get_or xs i a → b ≡ get_or ys i b → xs ≡ ys → a ≡ b
same_at xs ys i a b lt at other_at same = at ∙ ap (λ (l : List Key). get_or l i a) same ∙ get_or_default ys i a b lt ∙ sym other_at
