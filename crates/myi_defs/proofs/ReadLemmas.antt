-- What the definitions of a header give back.
use Rattle.std.proofs.Common.{◌≡◌, ℕ, zero, suc, ◌+◌, ◌≤◌, Bool, true, false, List, [], ◌∷◌, length, take, Option, Some, None, Result, Ok, Err, if◌then◌else◌, refl, sym, ◌∙◌, ap, subst, arith}
use Rattle.std.proofs.lemmas.List.{length-take-le}
use Rattle.std.proofs.lemmas.Bool.Decides.{nat_tests}
use Rattle.myi_base.specs.Numbers.{num_at}
use Rattle.myi_base.proofs.CallerLemmas.{numbers-take}
use Rattle.myi_defs.specs.declared.types.Defs.{Defs}
use Rattle.myi_defs.specs.declared.types.DefFault.{DefFault}
use Rattle.myi_defs.specs.declared.types.DefFault.TheVariants.{Lengths}
use Rattle.myi_defs.specs.declared.header.Front.{Front}
use Rattle.myi_defs.specs.declared.header.Outline.{Outline}
use Rattle.myi_defs.specs.Header.{front, header, outline}
use Rattle.myi_defs.specs.Conditions.{has_wrong_front, is_packed, has_checksum, has_fulltext, has_spatial, has_uniques, has_wrong_types, has_wrong_segment, has_wrong_place, has_wrong_collation, has_wrong_blocks, has_wrong_pointers, has_long_keys}
use Rattle.myi_defs.specs.ReadDefs.{is_short, has_other_magic, has_wrong_lengths, refusal, unless, judged, definitions, read_defs, AreDefs}
use Rattle.myi_defs.proofs.PlaceLemmas.{or_parts}

-- a condition that was passed
passed : (b : Bool) (f : DefFault) (r : Option DefFault) → (if b then Some f else r) ≡ None → (b ≡ false) × (r ≡ None)
passed true f r same = absurd (cc)
passed false f r same = (refl, same)

-- no condition holds
pub record Passes (o : Outline) : Type 0 where
  pub lengths : has_wrong_lengths o ≡ false
  pub types : has_wrong_types o ≡ false
  pub segments : has_wrong_segment o ≡ false
  pub places : has_wrong_place o ≡ false
  pub collations : has_wrong_collation o ≡ false
  pub blocks : has_wrong_blocks o ≡ false
  pub pointers : has_wrong_pointers o ≡ false
  pub keys : has_long_keys o ≡ false

pub refusal-passes : (o : Outline) → refusal o ≡ None → Passes o
unfolding refusal
refusal-passes o same =
    let c3 = passed (has_wrong_lengths o) _ _ same in
    let c4 = passed (is_packed o) _ _ c3.1 in
    let c5 = passed (has_checksum o) _ _ c4.1 in
    let c6 = passed (has_fulltext o) _ _ c5.1 in
    let c7 = passed (has_spatial o) _ _ c6.1 in
    let c8 = passed (has_uniques o) _ _ c7.1 in
    let c9 = passed (has_wrong_types o) _ _ c8.1 in
    let c10 = passed (has_wrong_segment o) _ _ c9.1 in
    let c11 = passed (has_wrong_place o) _ _ c10.1 in
    let c12 = passed (has_wrong_collation o) _ _ c11.1 in
    let c13 = passed (has_wrong_blocks o) _ _ c12.1 in
    let c14 = passed (has_wrong_pointers o) _ _ c13.1 in
    let c16 = passed (has_long_keys o) _ _ c14.1 in
    record {
      lengths = c3.0;
      types = c9.0;
      segments = c10.0;
      places = c11.0;
      collations = c12.0;
      blocks = c13.0;
      pointers = c14.0;
      keys = c16.0;
    }

pub wrong_lengths-judged : (o : Outline) (h : List ℕ) → has_wrong_lengths o ≡ true → judged o h ≡ Err Lengths
unfolding refusal
wrong_lengths-judged o h wrong = rw wrong refl

unless-ok : (r : Option DefFault) (e d : Defs) → unless r e ≡ Ok d → (r ≡ None) × (e ≡ d)
unless-ok None e d same = (refl, cc)
unless-ok (Some f) e d same = absurd (cc)

-- what is judged of accepted bytes
pub record Accepted (x : List ℕ) (d : Defs) : Type 0 where
  pub short : is_short x ≡ false
  pub magic : has_other_magic (front x) ≡ false
  pub rest : judged (outline (front x) (header x)) (header x) ≡ Ok d
  pub none : refusal (outline (front x) (header x)) ≡ None
  pub value : definitions (outline (front x) (header x)) (header x) ≡ d

passed_result : (b : Bool) (f : DefFault) (r : Result Defs DefFault) (d : Defs) → (if b then Err f else r) ≡ Ok d → (b ≡ false) × (r ≡ Ok d)
passed_result true f r d same = absurd (cc)
passed_result false f r d same = (refl, same)

pub accepted : (x : List ℕ) (d : Defs) → read_defs x ≡ Ok d → Accepted x d
unfolding read_defs
accepted x d same =
    let a = passed_result _ _ _ d same in
    let b = passed_result _ _ _ d a.1 in
    let both = unless-ok (refusal (outline (front x) (header x))) _ d b.1 in
    record { short = a.0; magic = b.0; rest = b.1; none = both.0; value = both.1 }

pub read_accepted : (x : List ℕ) (d : Defs) → is_short x ≡ false → has_other_magic (front x) ≡ false → judged (outline (front x) (header x)) (header x) ≡ Ok d → read_defs x ≡ Ok d
unfolding read_defs
read_accepted x d short magic rest = rw (short, magic) rest

take-take : (k : ℕ) (x : List ℕ) → take k (take k x) ≡ take k x
take-take zero x = refl
take-take (suc k) [] = refl
take-take (suc k) (b ∷ x) = ap (λ xs. b ∷ xs) (take-take k x)

-- a number depends on its bytes alone
pub num_at-take : (at n k : ℕ) (x : List ℕ) → at + n ≤ k → num_at at n (take k x) ≡ num_at at n x
num_at-take at n k x inside =
    let one = numbers-take at k (n ∷ []) (take k x) x (omega arith) (take-take k x) in
    cc

pub front-take : (k : ℕ) (x : List ℕ) → 24 ≤ k → front (take k x) ≡ front x
unfolding front
front-take k x long =
    let magic = num_at-take 0 4 k x (omega arith) in
    let options = num_at-take 4 2 k x (omega arith) in
    let header_length = num_at-take 6 2 k x (omega arith) in
    let state_info_length = num_at-take 8 2 k x (omega arith) in
    let base_info_length = num_at-take 10 2 k x (omega arith) in
    let base_pos = num_at-take 12 2 k x (omega arith) in
    let key_parts = num_at-take 14 2 k x (omega arith) in
    let keys = num_at-take 18 1 k x (omega arith) in
    let uniques = num_at-take 19 1 k x (omega arith) in
    let page_sizes = num_at-take 21 1 k x (omega arith) in
    let fulltext_keys = num_at-take 22 1 k x (omega arith) in
    cc

has_wrong_front-false : (f : Front) → has_wrong_front f ≡ false → 276 ≤ f.header_length
unfolding has_wrong_front
has_wrong_front-false f right = grind (arith, nat_tests)

pub wrong_lengths-front : (o : Outline) → has_wrong_lengths o ≡ false → has_wrong_front o.front ≡ false
unfolding has_wrong_lengths
wrong_lengths-front o right = (or_parts _ _ (or_parts _ _ (or_parts _ _ right).0).0).0

pub is_short-false : (x : List ℕ) → is_short x ≡ false → (24 ≤ length x) × ((front x).header_length ≤ length x)
unfolding is_short
is_short-false x long = (grind (arith, nat_tests), grind (arith, nat_tests))

pub not_short : (x : List ℕ) → 24 ≤ length x → (front x).header_length ≤ length x → is_short x ≡ false
unfolding is_short
not_short x many whole = grind (arith, nat_tests)

pub outline-front : (f : Front) (h : List ℕ) → (outline f h).front ≡ f
unfolding outline
outline-front f h = refl

pub raw-is : (x : List ℕ) (d : Defs) → read_defs x ≡ Ok d → d.raw ≡ header x
raw-is x d same = sym (ap (λ (d : Defs). d.raw) (accepted x d same).value)

pub are_defs : (x : List ℕ) (d : Defs) → read_defs x ≡ Ok d → AreDefs d
are_defs x d same =
    let all = accepted x d same in
    let o = outline (front x) (header x) in
    let right = wrong_lengths-front o (refusal-passes o all.none).lengths in
    let long = has_wrong_front-false (front x) (subst (λ f. has_wrong_front f ≡ false) (outline-front (front x) (header x)) right) in
    let whole = is_short-false x all.short in
    let n = (front x).header_length in
    let front_same : front (header x) ≡ front x = front-take n x (omega arith) in
    let count : length (header x) ≡ n = length-take-le n x whole.1 in
    let twice : take n (header x) ≡ header x = take-take n x in
    let short : is_short (header x) ≡ false = not_short (header x) (omega arith) (omega (arith, ap (λ (f : Front). f.header_length) front_same)) in
    let judge : judged (outline (front (header x)) (header (header x))) (header (header x)) ≡ Ok d = rw (front_same, twice) all.rest in
    let both : read_defs (header x) ≡ Ok d = read_accepted (header x) d short (rw front_same all.magic) judge in
    subst (λ h. read_defs h ≡ Ok d) (sym (raw-is x d same)) both

pub raw-header : (x : List ℕ) (d : Defs) → read_defs x ≡ Ok d → d.raw ≡ take (num_at 6 2 x) x
unfolding front
raw-header x d same = raw-is x d same

-- a file whose header has the same items gives the same definitions
pub printed-judged : (d : Defs) (x y z : List ℕ) → read_defs x ≡ Ok d → d.raw ≡ header x → front y ≡ front x → header y ≡ z → outline (front x) z ≡ outline (front x) (header x) → length x ≤ length y → 24 ≤ length x → length x ≡ (front x).header_length → read_defs y ≡ Ok (record d { raw = z })
printed-judged d x y z same whole first head out long many size =
    let all = accepted x d same in
    let o = outline (front x) (header x) in
    let short = not_short y (omega (arith, long, many)) (omega (arith, long, size, ap (λ (f : Front). f.header_length) first)) in
    let magic : has_other_magic (front y) ≡ false = ap has_other_magic first ∙ all.magic in
    let made : definitions o z ≡ record d { raw = z } = ap (λ (e : Defs). record e { raw = z }) all.value in
    let judge : judged (outline (front y) (header y)) (header y) ≡ Ok (record d { raw = z }) =
    ap (λ (f : Front). judged (outline f (header y)) (header y)) first
    ∙ ap (λ h. judged (outline (front x) h) h) head
    ∙ ap (λ (e : Outline). judged e z) out
    ∙ ap (λ (r : Option DefFault). unless r (definitions o z)) all.none
    ∙ ap Ok made in
    read_accepted y (record d { raw = z }) short magic judge
