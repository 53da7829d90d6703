-- A repaired data file is no longer than the one before.
use Rattle.std.proofs.Common.{◌≡◌, ℕ, ◌+◌, ◌-◌, ◌*◌, ◌/◌, ◌^◌, ◌<◌, ◌≤◌, Bool, true, false, cond, ◌⊎◌, inl, inr, List, [], ◌∷◌, ◌++◌, length, map, nat_le, nat_lt, sum, sum_by, All, refl, sym, ap, subst, ◌∙◌, arith, length-append, div-mul-le_self, le-div_iff_mul-le}
use Rattle.std.specs.List.{list_any, AllByRecursion}
use Rattle.std.proofs.lemmas.Bool.{and_parts, and_from, or_cases, or_left, or_right, leb-true, le-leb, ltb-true, lt-ltb}
use Rattle.std.proofs.lemmas.List.Elements.{All-from_recursion, recursion_from_All}
use Rattle.std.proofs.lemmas.List.Folds.{list_all-append}
use Rattle.std.proofs.lemmas.List.Sorted.{All-permutation, sum_by-IsPermutation}
use Rattle.std.specs.Prelude.{IsPermutation}
use Rattle.std.proofs.lemmas.List.Sums.{sum_by-cons, sum_by-append, sum-map}
use Rattle.myi_base.specs.Numbers.{AreBytes}
use Rattle.myi_base.specs.Ranges.{Range, are_apart, is_apart, AreDisjoint}
use Rattle.myi_defs.specs.declared.types.RowFormat.{RowFormat}
use Rattle.myi_defs.specs.declared.types.RowFormat.TheVariants.{Static, Dynamic}
use Rattle.myi_defs.specs.declared.types.Defs.{Defs}
use Rattle.myi_defs.specs.Sound.{IsSound}
use Rattle.myi_defs.specs.Addressable.{pointers, is_addressable}
use Rattle.myi_defs.specs.ReadDefs.{AreDefs}
use Rattle.myi_defs.proofs.CallerLemmas.{sound}
use Rattle.myi_frames.specs.Sizes.{least_size}
use Rattle.myi_pack.specs.Packed.{IsStaticRow, IsRow}
use Rattle.myi_pack.specs.Spelling.{spelling}
use Rattle.myi_pack.proofs.CallerLemmas.{row-spelled, row-least}
use Rattle.myi_chain.specs.Chain.{AreApart}
use Rattle.myi_chain.specs.Readable.{Row}
use Rattle.myi_chain.specs.Meeting.{ranges_of}
use Rattle.myi_data.specs.Readable.{readable}
use Rattle.myi_data.specs.Stored.{SizedRow, Share, shares, group_by, group, stored_size, stored, stored_from, stored_file, IsStorable}
use Rattle.myi_data.proofs.CallerLemmas.{spelling_some, stored_long, shares_less}
use Rattle.myi_data.proofs.CallerLemmas.{rows_apart}
use Rattle.myi_btree.proofs.CallerLemmas.{filled, few_bytes}
use Rattle.myi_pair.specs.FirstRows.{repeats_row, first_rows}
use Rattle.myi_keylist.specs.FirstBy.{first_after}
use Rattle.myi_pair.specs.Trees.{total}
use Rattle.myi_pair.specs.Clean.{sized_row}
use Rattle.myi_pair.specs.RecoveredBytes.{kept, new_data}
use Rattle.myi_pair.proofs.ReadLaws.{HasRoom, IsFine, readable_fine}
use Rattle.myi_pair.proofs.KeptLaws.{packs_values, row_storable, readable_storable, all-mapped, kept_each}

-- ranges that are apart have no more bytes than the file

abbrev pub Inside : ℕ → List Range → Type 0
Inside len rs = AllByRecursion (λ (r : Range). r.1 ≤ len) rs

total_filled : (len : ℕ) (rs : List Range) → Inside len rs → total rs ≡ filled len rs
total_filled len [] inside = refl
total_filled len (r ∷ rs) inside = sum_by-cons (λ (r : Range). r.1 - r.0) r rs ∙ omega (arith, inside.0, total_filled len rs inside.1)

-- each range apart from those before it is each apart from those behind it

turned : (r s : Range) → are_apart r s ≡ true → are_apart s r ≡ true
turned r s apart = by (or_cases (nat_le r.1 s.0) (nat_le s.1 r.0) apart)
  where
    by : (nat_le r.1 s.0 ≡ true) ⊎ (nat_le s.1 r.0 ≡ true) → are_apart s r ≡ true
    by (inl before) = or_right (nat_le s.1 r.0) (nat_le r.1 s.0) before
    by (inr after) = or_left (nat_le s.1 r.0) (nat_le r.1 s.0) after

apart_behind : (u : Range) (used rs : List Range) → AreApart used rs → ((s : Range) → is_apart s used ≡ true → are_apart u s ≡ true) → is_apart u rs ≡ true
apart_behind u used [] apart one = refl
apart_behind u used (r ∷ rs) apart one =
    and_from (are_apart u r) (is_apart u rs) (one r apart.0)
    (apart_behind u (used ++ r ∷ []) rs apart.1 (λ s free. one s (and_parts (is_apart s used) (is_apart s (r ∷ [])) (sym (list_all-append (are_apart s) used (r ∷ [])) ∙ free)).0))

pub disjoint : (used rs : List Range) → AreApart used rs → AreDisjoint rs
disjoint used [] apart = tt
disjoint used (r ∷ rs) apart = (
  apart_behind r (used ++ r ∷ []) rs apart.1
      (λ s free.
      let last = (and_parts (is_apart s used) (is_apart s (r ∷ [])) (sym (list_all-append (are_apart s) used (r ∷ [])) ∙ free)).1 in
      turned s r (and_parts (are_apart s r) true last).0),
  disjoint (used ++ r ∷ []) rs apart.1,
)

pub few_in : (len : ℕ) (rs : List Range) → AreApart [] rs → Inside len rs → total rs ≤ len
few_in len rs apart inside = omega (arith, total_filled len rs inside, few_bytes len rs (disjoint [] rs apart))

-- how long a stored row is

abbrev taken : List Share → ℕ
taken g = sum_by (λ (s : Share). s.size) g

size_in : (d : Defs) (r : SizedRow) (f : RowFormat) → d.format ≡ f → stored_size d r ≡ taken (group_by f r.sizes (length (spelling d r.values)))
unfolding group
size_in d r f is = ap (λ g. taken (group_by g r.sizes (length (spelling d r.values)))) is

pub length-slot : (d : Defs) (r : SizedRow) → IsSound d → d.format ≡ Static → IsStorable d r → stored_size d r ≡ d.slot_length
length-slot d r s static can =
    let n : ℕ = length (spelling d r.values) in
    let is : IsStaticRow d.fields d.slot_length r.values (spelling d r.values) = subst (λ (f : RowFormat). IsRow f d r.values (spelling d r.values)) static (row-spelled d r.values s can.fits) in
    size_in d r Static static ∙ sum_by-cons (λ (s : Share). s.size) (record { size = n; taken = n }) [] ∙ (let e : n + 0 ≡ n = omega arith in e) ∙ is.slot

-- blocks that have room for a row and held one as long take no more when it is stored anew
dynamic_room : (sizes : List ℕ) (n most : ℕ) → least_size n ≤ most → sum sizes ≤ most → taken (group_by Dynamic sizes n) ≤ most
dynamic_room sizes n most least all = by (nat_lt n (2 ^ 24))
  where
    by : (b : Bool) → taken (cond b (record { size = least_size n; taken = n } ∷ []) (shares sizes n)) ≤ most
    by true = omega (arith, least, sum_by-cons (λ (s : Share). s.size) (record { size = least_size n; taken = n }) [])
    by false = omega (arith, all, shares_less sizes n)

stored_room : (d : Defs) (len : ℕ) (r : Row) → AreDefs d → IsFine d.format d len r → stored_size d (sized_row d r) ≤ total r.blocks
stored_room d len r are fine = of_format d.format refl
  where
    s : IsSound d
    s = sound d are

    v : SizedRow
    v = sized_row d r

    can : IsStorable d v
    can = row_storable d len r are fine

    of_format : (f : RowFormat) → d.format ≡ f → stored_size d v ≤ total r.blocks
    of_format Static is =
        let room : HasRoom Static d r = subst (λ f. HasRoom f d r) is fine.room in
        omega (arith, room, length-slot d v s is can)
    of_format Dynamic is =
        let n : ℕ = length (spelling d v.values) in
        let room : HasRoom Dynamic d r = subst (λ f. HasRoom f d r) is fine.room in
        let few : n ≤ length r.bytes = row-least d v.values r.bytes s (packs_values d len r s fine) in
        let all : sum v.sizes ≡ total r.blocks = sum-map (λ (a : Range). a.1 - a.0) r.blocks in
        omega (arith, size_in d v Dynamic is, dynamic_room v.sizes n (total r.blocks) (room n (spelling_some d v.values s can.fits) few) (omega (arith, all)))

-- all rows together

abbrev pub stored_length : Defs → List SizedRow → ℕ
stored_length d rs = sum_by (λ r. stored_size d r) rs

length-from : (d : Defs) (at : ℕ) (rs : List SizedRow) → IsSound d → AllByRecursion (IsStorable d) rs → length (stored_from d at rs) ≡ stored_length d rs
length-from d at [] s all = refl
length-from d at (r ∷ rs) s all =
    length-append (stored d at r) (stored_from d (at + stored_size d r) rs)
    ∙ omega (arith, stored_long d r s all.0 at, length-from d (at + stored_size d r) rs s all.1, sum_by-cons (λ r. stored_size d r) r rs)

pub length-laid : (d : Defs) (rs : List SizedRow) → IsSound d → AllByRecursion (IsStorable d) rs → length (stored_file d rs) ≡ stored_length d rs
unfolding stored_file
length-laid d rs s all = length-from d 0 rs s all

rows_room : (d : Defs) (len : ℕ) (rows : List Row) → AreDefs d → AllByRecursion (IsFine d.format d len) rows → stored_length d (map (sized_row d) rows) ≤ total (ranges_of rows)
rows_room d len [] are fine = omega arith
rows_room d len (r ∷ rows) are fine =
    let here = stored_room d len r are fine.0 in
    let there = rows_room d len rows are fine.1 in
    omega (arith, here, there, sum_by-cons (λ r. stored_size d r) (sized_row d r) (map (sized_row d) rows), sum_by-append (λ (a : Range). a.1 - a.0) r.blocks (ranges_of rows))

inside-append : (len : ℕ) (rs ss : List Range) → Inside len rs → Inside len ss → Inside len (rs ++ ss)
inside-append len [] ss left right = right
inside-append len (r ∷ rs) ss left right = (left.0, inside-append len rs ss left.1 right)

rows_inside : (f : RowFormat) (d : Defs) (len : ℕ) (rows : List Row) → AllByRecursion (IsFine f d len) rows → Inside len (ranges_of rows)
rows_inside f d len [] fine = tt
rows_inside f d len (r ∷ rows) fine = inside-append len r.blocks (ranges_of rows) fine.0.inside (rows_inside f d len rows fine.1)

-- leaving rows out makes them no longer

first_after_less : (d : Defs) (repeats : SizedRow → SizedRow → Bool) (before rows : List SizedRow) → stored_length d (first_after repeats before rows) ≤ stored_length d rows
first_after_less d repeats before [] = omega arith
first_after_less d repeats before (row ∷ rows) = choose (list_any (repeats row) before) (first_after_less d repeats before rows) (first_after_less d repeats (before ++ row ∷ []) rows)
  where
    choose : (b : Bool) → stored_length d (first_after repeats before rows) ≤ stored_length d rows → stored_length d (first_after repeats (before ++ row ∷ []) rows) ≤ stored_length d rows → stored_length d (cond b (first_after repeats before rows) (row ∷ first_after repeats (before ++ row ∷ []) rows)) ≤ stored_length d (row ∷ rows)
    choose true dropped added = omega (arith, sum_by-cons (λ r. stored_size d r) row rows)
    choose false dropped added = omega (arith, sum_by-cons (λ r. stored_size d r) row rows, sum_by-cons (λ r. stored_size d r) row (first_after repeats (before ++ row ∷ []) rows))

-- all readable rows, stored anew, are no longer than the file
all_room : (d : Defs) (extend : Bool) (x : List ℕ) → AreDefs d → AreBytes x → stored_length d (map (sized_row d) (readable d extend x)) ≤ length x
all_room d extend x are bytes =
    let rows : List Row = readable d extend x in
    let fine : AllByRecursion (IsFine d.format d (length x)) rows = readable_fine d extend x bytes in
    let few = few_in (length x) (ranges_of rows) (rows_apart d extend x (sound d are)) (rows_inside d.format d (length x) rows fine) in
    omega (arith, few, rows_room d (length x) rows are fine)

pub shorter : (d : Defs) (extend : Bool) (x : List ℕ) → AreDefs d → AreBytes x → length (new_data d extend x) ≤ length x
unfolding new_data kept first_rows
shorter d extend x are bytes =
    omega (arith, all_room d extend x are bytes, length-laid d (kept d extend x) (sound d are) (kept_each d extend x are bytes), first_after_less d (repeats_row d) [] (map (sized_row d) (readable d extend x)))

-- and so are some of them, in any order

left_all : (P : SizedRow → Type 0) (rows others : List SizedRow) → AllByRecursion P (rows ++ others) → AllByRecursion P rows
left_all P [] others all = tt
left_all P (row ∷ rows) others all = (all.0, left_all P rows others all.1)

pub some_shorter : (d : Defs) (extend : Bool) (x : List ℕ) → AreDefs d → AreBytes x → (rows others : List SizedRow) → IsPermutation (map (sized_row d) (readable d extend x)) (rows ++ others) → length (stored_file d rows) ≤ length x
some_shorter d extend x are bytes rows others same =
    let read : List SizedRow = map (sized_row d) (readable d extend x) in
    let each : All (IsStorable d) read = All-from_recursion (IsStorable d) read (all-mapped (IsStorable d) (sized_row d) (readable d extend x) (readable_storable d extend x are bytes)) in
    let all : AllByRecursion (IsStorable d) rows = left_all (IsStorable d) rows others (recursion_from_All (IsStorable d) (rows ++ others) (All-permutation (IsStorable d) read (rows ++ others) same each)) in
    let sizes : stored_length d (rows ++ others) ≡ stored_length d read = sum_by-IsPermutation (λ r. stored_size d r) read (rows ++ others) same in
    omega (arith, all_room d extend x are bytes, sizes, sum_by-append (λ r. stored_size d r) rows others, length-laid d rows (sound d are) all)

pub each_shorter : (d : Defs) (extend : Bool) (x : List ℕ) → AreDefs d → AreBytes x → AllByRecursion (λ (r : Row). stored_size d (sized_row d r) ≤ total r.blocks) (readable d extend x)
each_shorter d extend x are bytes = each (readable d extend x) (readable_fine d extend x bytes)
  where
    each : (rows : List Row) → AllByRecursion (IsFine d.format d (length x)) rows → AllByRecursion (λ (r : Row). stored_size d (sized_row d r) ≤ total r.blocks) rows
    each [] fine = tt
    each (r ∷ rows) fine = (stored_room d (length x) r are fine.0, each rows fine.1)

-- a file that is no longer is within reach too

fewer_pointers : (f : RowFormat) (slot n m most : ℕ) → m ≤ n → (f ≡ Static → 0 < slot) → pointers f slot n < most → pointers f slot m < most
fewer_pointers Static slot n m most less some few =
    let s : 0 < slot = some refl in
    let whole : m / slot * slot ≤ m = div-mul-le_self m slot in
    let fewer : m / slot ≤ n / slot = (le-div_iff_mul-le s).1 (omega arith) in
    omega arith
fewer_pointers Dynamic slot n m most less some few = omega arith

pub reach_less : (d : Defs) (n m : ℕ) → IsSound d → m ≤ n → is_addressable d n ≡ true → is_addressable d m ≡ true
unfolding is_addressable
reach_less d n m s less reached =
    let most : ℕ = 256 ^ d.rec_ref - 1 in
    let both = and_parts (nat_le n (2 ^ 40)) (nat_lt (pointers d.format d.slot_length n) most) reached in
    let long : m ≤ 2 ^ 40 = omega (arith, leb-true n (2 ^ 40) both.0) in
    and_from _ _ (le-leb m (2 ^ 40) long) (lt-ltb _ _ (fewer_pointers d.format d.slot_length n m most less (λ static. omega (arith, s.slot_pointer static)) (ltb-true _ _ both.1)))

pub new_reached : (d : Defs) (extend : Bool) (x : List ℕ) → AreDefs d → AreBytes x → is_addressable d (length x) ≡ true → is_addressable d (length (new_data d extend x)) ≡ true
new_reached d extend x are bytes reached = reach_less d (length x) (length (new_data d extend x)) (sound d are) (shorter d extend x are bytes) reached

-- each place of a file within reach is a number of eight bytes
pub near_reached : (d : Defs) (n : ℕ) → is_addressable d n ≡ true → n < 2 ^ 64 - 1
unfolding is_addressable
near_reached d n reached =
    let both = and_parts (nat_le n (2 ^ 40)) (nat_lt (pointers d.format d.slot_length n) (256 ^ d.rec_ref - 1)) reached in
    let most : n ≤ 2 ^ 40 = leb-true _ _ both.0 in
    omega (arith, most)
