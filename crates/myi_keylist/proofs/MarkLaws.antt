-- Marks: what the growing of the buffer does to them, and their order.
use Rattle.std.proofs.Common.{◌≡◌, ℕ, zero, suc, ◌+◌, ◌*◌, ◌/◌, ◌%◌, ◌<◌, ◌≤◌, Bool, false, List, [], ◌∷◌, ◌++◌, length, get_or, take, drop, map, refl, sym, ap, ◌∙◌, arith, lit≤, append_assoc, append-nil, IsPermutation, IsSorted}
use Rattle.std.proofs.lemmas.Cmp.{nat_cmp_total, on_total, then_total}
use Rattle.std.proofs.lemmas.List.{take_at, drop_at, take-append-drop, length-append, length-drop, length-map}
use Rattle.std.proofs.lemmas.List.Elements.{All-from_recursion, recursion_from_All}
use Rattle.std.proofs.lemmas.List.Sorted.{IsPermutation-map, All-permutation}
use Rattle.std.proofs.lemmas.Bool.Decides.{nat_tests}
use Rattle.std.specs.List.{AllByRecursion}
use Rattle.std.specs.List.Sorted.{IsSortedBy}
use Rattle.std.specs.Ordering.{nat_cmp, ordering_then, ordering_reverse, is_lt}
use Rattle.std.specs.Cmp.{IsTotalOrder}
use Rattle.std.specs.declared.cmp.Ordering.{Ordering}
use Rattle.std.specs.declared.cmp.Ordering.TheVariants.{Less, Equal, Greater}
use Rattle.myi_base.specs.Numbers.{AreBytes}
use Rattle.myi_base.proofs.CallerLemmas.{bytes-take, bytes-drop}
use Rattle.myi_keys.specs.declared.values.KeySeg.{KeySeg}
use Rattle.myi_keys.specs.declared.values.KeySeg.TheVariants.{Absent, Weights}
use Rattle.myi_keys.specs.Limits.{IsSeg, IsKey}
use Rattle.myi_keys.specs.OrderLaws.{key_total}
use Rattle.myi_keys.specs.Codes.{seg_code, key_code}
use Rattle.myi_keys.specs.Comparing.{key_front, code_cmp, key_prefix}
use Rattle.myi_keys.proofs.CallerLemmas.{seg_size, front_again, prefix_less}
use Rattle.myi_keylist.specs.declared.pair.Pair.{Pair}
use Rattle.myi_keylist.specs.declared.pair_list.Mark.{Mark}
use Rattle.myi_keylist.specs.PairOrder.{pair_with, pair_cmp, sorted}
use Rattle.myi_keylist.specs.PairLists.{led, led_code, code_from, pair_at, pairs_at, IsMark, mark_cmp}
use Rattle.myi_keylist.proofs.SortedLaws.{sorted_is}

-- ---- where a code stands

pub led_again : (code rest : List ℕ) → led_code (led code ++ rest) ≡ code
led_again code rest =
    let whole : length code / 256 * 256 + length code % 256 ≡ length code = omega arith in
    rw whole (take_at code rest (length code) refl)

pub code_is : (codes : List ℕ) (mark : Mark) → (is : IsMark codes mark) → code_from codes mark.start ≡ key_code is.key
code_is codes mark is = ap led_code is.stands ∙ led_again (key_code is.key) is.rest

pub pair_is : (codes : List ℕ) (mark : Mark) → (is : IsMark codes mark) → pair_at codes mark ≡ pair_with is.key mark.row
unfolding pair_at
pair_is codes mark is = ap (λ key. pair_with key mark.row) (ap key_front (code_is codes mark is) ∙ front_again is.key is.is)

-- ---- a longer buffer

-- the buffer begins with what it had
pub record Begins (codes more : List ℕ) : Type 0 where
  pub front : take (length codes) more ≡ codes

drop_front : (n : ℕ) (codes rest : List ℕ) → n ≤ length codes → drop n (codes ++ rest) ≡ drop n codes ++ rest
drop_front zero codes rest few = refl
drop_front (suc n) [] rest few = absurd (omega arith)
drop_front (suc n) (b ∷ codes) rest few = drop_front n codes rest (omega arith)

inside : (codes : List ℕ) (mark : Mark) → IsMark codes mark → mark.start ≤ length codes
inside codes mark is = omega (arith, length-drop mark.start codes, ap length is.stands)

stands_on : (codes more : List ℕ) (mark : Mark) → Begins codes more → (is : IsMark codes mark) → drop mark.start more ≡ led (key_code is.key) ++ (is.rest ++ drop (length codes) more)
stands_on codes more mark begins is =
    let whole : more ≡ codes ++ drop (length codes) more = sym (take-append-drop (length codes) more) ∙ ap (λ t. t ++ drop (length codes) more) begins.front in
    ap (drop mark.start) whole
    ∙ drop_front mark.start codes (drop (length codes) more) (inside codes mark is)
    ∙ ap (λ t. t ++ drop (length codes) more) is.stands
    ∙ append_assoc (led (key_code is.key)) is.rest (drop (length codes) more)

pub grown : (codes more : List ℕ) (mark : Mark) → Begins codes more → IsMark codes mark → IsMark more mark
grown codes more mark begins is = record {
  key = is.key;
  is = is.is;
  rest = is.rest ++ drop (length codes) more;
  stands = stands_on codes more mark begins is;
  prefix = is.prefix;
}

pub marks_grown : (codes more : List ℕ) (marks : List Mark) → Begins codes more → AllByRecursion (IsMark codes) marks → AllByRecursion (IsMark more) marks
marks_grown codes more [] begins are = tt
marks_grown codes more (mark ∷ marks) begins are = (grown codes more mark begins are.0, marks_grown codes more marks begins are.1)

pub pairs_same : (codes more : List ℕ) (marks : List Mark) → Begins codes more → AllByRecursion (IsMark codes) marks → pairs_at more marks ≡ pairs_at codes marks
unfolding grown
pairs_same codes more [] begins are = refl
pairs_same codes more (mark ∷ marks) begins are =
    let one : pair_at more mark ≡ pair_at codes mark = pair_is more mark (grown codes more mark begins are.0) ∙ sym (pair_is codes mark are.0) in
    ap (λ p. p ∷ pairs_at more marks) one ∙ ap (λ ps. pair_at codes mark ∷ ps) (pairs_same codes more marks begins are.1)

-- the pair at an index
pub listed : (codes : List ℕ) (marks : List Mark) (i : ℕ) (mark : Mark) → AllByRecursion (IsMark codes) marks → i < length marks → mark ≡ get_or marks i mark → (other : Pair)
    → (code_from codes mark.start ≡ key_code (get_or (pairs_at codes marks) i other).key) × (mark.row ≡ (get_or (pairs_at codes marks) i other).row) × IsKey (get_or (pairs_at codes marks) i other).key
listed codes [] i mark are few is other = absurd (omega arith)
listed codes (m ∷ marks) zero mark are few is other =
    let one : mark ≡ m = is in
    let pair : pair_at codes m ≡ pair_with are.0.key m.row = pair_is codes m are.0 in
    rw (one, pair) (code_is codes m are.0, refl, are.0.is)
listed codes (m ∷ marks) (suc i) mark are few is other = listed codes marks i mark are.1 (omega arith) is other

-- ---- how long a code is

seg_short : (seg : KeySeg) → IsSeg seg → length (seg_code seg) ≤ 1003
seg_short Absent is = lit≤ tt
seg_short (Weights w) is = seg_size 1000 w is

segs_short : (key : List KeySeg) → AllByRecursion IsSeg key → length (key_code key) ≤ 1003 * length key
segs_short [] are = lit≤ tt
segs_short (seg ∷ key) are = omega (arith, length-append (seg_code seg) (key_code key), seg_short seg are.0, segs_short key are.1)

pub key_short : (key : List KeySeg) → IsKey key → length (key_code key) < 65536
key_short key is = omega (arith, segs_short key (recursion_from_All IsSeg key is.1), is.0)

-- ---- one more mark

all_more : {X : Type 0} (P : X → Type 0) (xs : List X) (x : X) → AllByRecursion P xs → P x → AllByRecursion P (xs ++ x ∷ [])
all_more P [] x are is = (is, tt)
all_more P (y ∷ xs) x are is = (are.0, all_more P xs x are.1 is)

map_more : {X Y : Type 0} (f : X → Y) (xs : List X) (x : X) → map f (xs ++ x ∷ []) ≡ map f xs ++ f x ∷ []
map_more f [] x = refl
map_more f (y ∷ xs) x = ap (λ ys. f y ∷ ys) (map_more f xs x)

pub new_mark : (codes more : List ℕ) (key : List KeySeg) (mark : Mark) → IsKey key → more ≡ codes ++ led (key_code key) → mark.start ≡ length codes → mark.prefix ≡ key_prefix key → IsMark more mark
new_mark codes more key mark is grows start prefix = record {
  key = key;
  is = is;
  rest = [];
  stands = rw (grows, start) (drop_at codes (led (key_code key)) (length codes) refl ∙ sym (append-nil (led (key_code key))));
  prefix = prefix;
}

pub marks_more : (codes more : List ℕ) (marks : List Mark) (mark : Mark) → Begins codes more → AllByRecursion (IsMark codes) marks → IsMark more mark → AllByRecursion (IsMark more) (marks ++ mark ∷ [])
marks_more codes more marks mark begins are is = all_more (IsMark more) marks mark (marks_grown codes more marks begins are) is

pub pairs_more : (codes more : List ℕ) (marks : List Mark) (mark : Mark) → Begins codes more → AllByRecursion (IsMark codes) marks → (is : IsMark more mark)
    → pairs_at more (marks ++ mark ∷ []) ≡ pairs_at codes marks ++ pair_with is.key mark.row ∷ []
pairs_more codes more marks mark begins are is =
    map_more (pair_at more) marks mark
    ∙ ap (λ ps. ps ++ pair_at more mark ∷ []) (pairs_same codes more marks begins are)
    ∙ ap (λ p. pairs_at codes marks ++ p ∷ []) (pair_is more mark is)

-- a code and its mark are added
pub pushed : (codes more : List ℕ) (marks : List Mark) (code : List ℕ) (prefix start row : ℕ) (key : List KeySeg) → AllByRecursion (IsMark codes) marks → IsKey key → code ≡ key_code key → more ≡ codes ++ led code
    → prefix ≡ key_prefix (key_front code) → start ≡ length codes
    → AllByRecursion (IsMark more) (marks ++ record { prefix = prefix; start = start; row = row } ∷ []) × (pairs_at more (marks ++ record { prefix = prefix; start = start; row = row } ∷ []) ≡ pairs_at codes marks ++ pair_with key row ∷ [])
unfolding new_mark
pushed codes more marks code prefix start row key are is coded grows first at =
    let mark : Mark = record { prefix = prefix; start = start; row = row } in
    let begins : Begins codes more = record { front = ap (take (length codes)) grows ∙ take_at codes (led code) (length codes) refl } in
    let new : IsMark more mark = new_mark codes more key mark is (grows ∙ ap (λ t. codes ++ led t) coded) at (first ∙ ap (λ t. key_prefix (key_front t)) coded ∙ ap key_prefix (front_again key is)) in
    (marks_more codes more marks mark begins are new, pairs_more codes more marks mark begins are new)

-- ---- the order of marks

pub code_total : IsTotalOrder code_cmp
code_total = on_total key_front key_total

pub mark_total : (codes : List ℕ) → IsTotalOrder (mark_cmp codes)
mark_total codes =
    then_total (on_total (λ (m : Mark). m.prefix) nat_cmp_total)
    (then_total (on_total (λ (m : Mark). code_from codes m.start) code_total) (on_total (λ (m : Mark). m.row) nat_cmp_total))

led_bytes : (x : List ℕ) → AreBytes x → AreBytes (led_code x)
led_bytes [] bytes = bytes
led_bytes (h ∷ []) bytes = λ i. bytes (suc i)
led_bytes (h ∷ l ∷ x) bytes = bytes-take (h * 256 + l) x (λ i. bytes (suc (suc i)))

prefix_is : (codes : List ℕ) (mark : Mark) → IsMark codes mark → mark.prefix ≡ key_prefix (key_front (code_from codes mark.start))
prefix_is codes mark is = is.prefix ∙ ap key_prefix (sym (ap key_front (code_is codes mark is) ∙ front_again is.key is.is))

-- by the order of marks the pairs are in order
pub pairs_follow : (codes : List ℕ) → AreBytes codes → (a b : Mark) → IsMark codes a → IsMark codes b → is_lt (mark_cmp codes b a) ≡ false → is_lt (pair_cmp (pair_at codes b) (pair_at codes a)) ≡ false
unfolding pair_at
pairs_follow codes bytes a b one other low = by (nat_cmp b.prefix a.prefix) refl low
  where
    ca : List ℕ
    ca = code_from codes a.start

    cb : List ℕ
    cb = code_from codes b.start

    by : (o : Ordering) → nat_cmp b.prefix a.prefix ≡ o → is_lt (ordering_then o (ordering_then (code_cmp cb ca) (nat_cmp b.row a.row))) ≡ false → is_lt (ordering_then (code_cmp cb ca) (nat_cmp b.row a.row)) ≡ false
    by Less is low = absurd cc
    by Equal is low = low
    by Greater is low =
        let less : a.prefix < b.prefix = grind (arith, nat_tests) in
        let fewer : key_prefix (key_front ca) < key_prefix (key_front cb) = omega (arith, prefix_is codes a one, prefix_is codes b other) in
        let first : code_cmp ca cb ≡ Less = prefix_less ca cb (led_bytes _ (bytes-drop a.start codes bytes)) (led_bytes _ (bytes-drop b.start codes bytes)) fewer in
        let behind : code_cmp cb ca ≡ Greater = code_total.antisymm cb ca ∙ ap ordering_reverse first in
        rw behind refl

pub map_sorted : {X Y : Type 0} (f : X → Y) (P : X → Type 0) (lt : X → X → Bool) (under : Y → Y → Bool) → ((a b : X) → P a → P b → lt b a ≡ false → under (f b) (f a) ≡ false)
    → (xs : List X) → AllByRecursion P xs → ((k : ℕ) (d : X) → k + 1 < length xs → lt (get_or xs (k + 1) d) (get_or xs k d) ≡ false)
    → (k : ℕ) (d : Y) → k + 1 < length xs → under (get_or (map f xs) (k + 1) d) (get_or (map f xs) k d) ≡ false
map_sorted f P lt under step [] are up k d few = absurd (omega arith)
map_sorted f P lt under step (x ∷ []) are up k d few = absurd (omega arith)
map_sorted f P lt under step (x ∷ y ∷ xs) are up zero d few = step x y are.0 are.1.0 (up 0 x (omega arith))
map_sorted f P lt under step (x ∷ y ∷ xs) are up (suc k) d few =
    let e : suc k + 1 ≡ suc (k + 1) = omega arith in
    rw e (map_sorted f P lt under step (y ∷ xs) are.1 (λ j c less. let g : suc j + 1 ≡ suc (j + 1) = omega arith in rw g at (up (suc j) c (omega arith))) k d (omega arith))

pub pairs_sorted : (codes : List ℕ) → AreBytes codes → (marks after : List Mark) → AllByRecursion (IsMark codes) marks → IsPermutation marks after → IsSortedBy (λ x y. is_lt (mark_cmp codes x y)) after
    → AllByRecursion (IsMark codes) after × (pairs_at codes after ≡ sorted (pairs_at codes marks))
pairs_sorted codes bytes marks after are permutes up =
    let still : AllByRecursion (IsMark codes) after = recursion_from_All (IsMark codes) after (All-permutation (IsMark codes) marks after permutes (All-from_recursion (IsMark codes) marks are)) in
    let order : IsSorted pair_cmp (pairs_at codes after) = λ k d low few.
    map_sorted (pair_at codes) (IsMark codes) (λ x y. is_lt (mark_cmp codes x y)) (λ x y. is_lt (pair_cmp x y)) (pairs_follow codes bytes) after still (λ j c less. up j c (omega arith) less) k d (omega (arith, length-map after (pair_at codes))) in
    (still, sorted_is (pairs_at codes marks) (pairs_at codes after) (IsPermutation-map (pair_at codes) marks after permutes) order)
