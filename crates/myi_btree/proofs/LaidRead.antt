-- Laid pages are read as they were laid.
use Rattle.std.proofs.Common.{◌≡◌, ℕ, zero, suc, ◌+◌, ◌-◌, ◌*◌, ◌%◌, ◌^◌, ◌<◌, ◌≤◌, Bool, true, false, not, ◌&&◌, eqb, ltb, Some, List, [], ◌∷◌, ◌++◌, length, replicate, take, drop, refl, sym, ap, subst, ◌∙◌, arith, inl, inr}
use Rattle.std.specs.List.{AllByRecursion}
use Rattle.std.proofs.lemmas.Bool.{cases_lt, cases_Bool, le-leb, leb-true, ltb-true, eq-eqb, ne_eqb, and_from, and_parts}
use Rattle.std.proofs.Math.Seq.{drop-cons}
use Rattle.std.proofs.lemmas.List.{length-append, length-drop}
use Rattle.myi_base.specs.Holding.{Holding}
use Rattle.myi_keys.specs.Limits.{IsKey}
use Rattle.myi_keys.proofs.CallerLemmas.{key_read}
use Rattle.myi_keypage.specs.declared.entry.Entry.{Entry}
use Rattle.myi_keypage.specs.Page.{page_with, page_bytes, IsPlace, IsBranching}
use Rattle.myi_keypage.specs.Fitting.{used_length}
use Rattle.myi_keypage.specs.Views.{page_in}
use Rattle.myi_keypage.proofs.CallerLemmas.{page_again, page_writable}
use Rattle.myi_keycache.specs.Caching.{Caching, lends}
use Rattle.myi_keylist.specs.declared.pair.Pair.{Pair}
use Rattle.myi_btree.specs.declared.place.Place.{Place}
use Rattle.myi_btree.specs.Walk.{Node, node_with}
use Rattle.myi_btree.specs.Nodes.{entry_of, entries_of, page_of_node, node_in}
use Rattle.myi_btree.specs.CachedTrees.{node_lent}
use Rattle.myi_btree.specs.Sizes.{IsPlaced, IsSized, AreSized, fits_in, IsCount}
use Rattle.myi_btree.specs.LaidPages.{greatest, count_of, Level, after_page, level_of, places_from, levels_from, laid, Stands}
use Rattle.myi_btree.specs.Building.{page_for, AreKeys, IsWritten, AreLent, Lays}
use Rattle.myi_btree.specs.Levels.{FitsPage, upper}
use Rattle.myi_btree.proofs.NodeLaws.{pairs_again, node_again}
use Rattle.myi_btree.proofs.CountLaws.{not_one}
use Rattle.myi_btree.proofs.FitCount.{one_fits, two_fit, entries-take}
use Rattle.myi_btree.proofs.BodyLaws.{body, last, all_take, all_drop}
use Rattle.myi_btree.proofs.LevelsLaws.{level_count, level_all, levels_step, places_are, branches_above, multiple}
use Rattle.myi_btree.specs.LaidOnce.{WalksOnce}
use Rattle.myi_btree.proofs.LaidWalks.{level_lt, count_pos, length-places_from}
use Rattle.myi_btree.proofs.LaidRanges.{walks_once}

-- ---- how many entries a page takes

differ : (b : Bool) → b ≡ true → b ≡ false → ⊥
differ true e f = cc
differ false e f = cc

record Greatest (passes : ℕ → Bool) (n c : ℕ) : Type 0 where
  pub passed : passes c ≡ true
  pub some : 0 < c
  pub most : c ≤ n

greatest_passes : (passes : ℕ → Bool) (n c : ℕ) → 0 < c → c ≤ n → passes c ≡ true → Greatest passes n (greatest passes n)
greatest_passes passes zero c pos le is = absurd (omega arith)
greatest_passes passes (suc n) c pos le is =
    elim (cases_Bool (passes (suc n))) [
      | inl top ↦
          let e : greatest passes (suc n) ≡ suc n = rw top refl in
          subst (λ (t : ℕ). Greatest passes (suc n) t) (sym e) (record { passed = top; some = omega arith; most = omega arith })
      | inr below ↦
          let e : greatest passes (suc n) ≡ greatest passes n = rw below refl in
          let k = greatest_passes passes n c pos (lower below) is in
          subst (λ (t : ℕ). Greatest passes (suc n) t) (sym e) (record { passed = k.passed; some = k.some; most = omega (arith, k.most) })
    ]
  where
    lower : passes (suc n) ≡ false → c ≤ n
    lower below = elim (cases_lt c (suc n)) [
      | inl less ↦ omega arith
      | inr more ↦ let e : c ≡ suc n = omega arith in absurd (differ (passes (suc n)) (subst (λ (t : ℕ). passes t ≡ true) e is) below)
    ]

abbrev passes_at : Place → Bool → List Pair → ℕ → Bool
passes_at place node ps c = fits_in place node (take c ps) && not (eqb (length ps - c) 1)

some_passes : (place : Place) (node : Bool) (ps : List Pair) → AreSized place ps → 0 < length ps → (c : ℕ) × (0 < c) × (c ≤ length ps) × (passes_at place node ps c ≡ true)
some_passes place node [] sized some = absurd (omega arith)
some_passes place node (p ∷ []) sized some = (1, omega arith, omega arith, and_from _ _ (le-leb _ _ (one_fits place node (entry_of p) sized.0)) refl)
some_passes place node (p ∷ q ∷ []) sized some = (2, omega arith, omega arith, and_from _ _ (le-leb _ _ (two_fit place node (entry_of p) (entry_of q) sized.0 sized.1.0)) refl)
some_passes place node (p ∷ q ∷ r ∷ ps) sized some = (1, omega arith, omega arith, and_from _ _ (le-leb _ _ (one_fits place node (entry_of p) sized.0)) (not_one (length (p ∷ q ∷ r ∷ ps)) 1 (λ e. omega arith)))

pub good_count : (place : Place) (node : Bool) (ps : List Pair) → AreSized place ps → 0 < length ps → IsCount place node ps (count_of (fits_in place node) ps)
good_count place node ps sized some =
    let w = some_passes place node ps sized some in
    let g = greatest_passes (passes_at place node ps) (length ps) w.0 w.1 w.2 w.3 in
    let c : ℕ = count_of (fits_in place node) ps in
    let k = and_parts (fits_in place node (take c ps)) (not (eqb (length ps - c) 1)) g.passed in
    let fit : used_length place.rec_ref node (entries_of (take c ps)) ≤ place.block_length = leb-true _ _ k.0 in
    record { is = refl; some = g.some; inside = g.most; one = λ e. differ (not (eqb (length ps - c) 1)) k.1 (last_one (length ps) c e); fit = subst (λ (t : List Entry). used_length place.rec_ref node t ≤ place.block_length) (entries-take c ps) fit }
  where
    last_one : (n c : ℕ) → c + 1 ≡ n → not (eqb (n - c) 1) ≡ false
    last_one n c e = let d : n - c ≡ 1 = omega arith in rw d refl

-- ---- each laid page is one that is read back

written_page : (place : Place) (node : Node) → IsPlaced place → FitsPage place (page_of_node node) → AreKeys node.pairs → IsWritten place node
written_page place node placed fits keys =
    record { page = page_writable place.rec_ref (page_of_node node) fits.branching fits.some fits.rows fits.places (omega (arith, placed.most, fits.fits)); branching = fits.branching; keys = keys; fits = fits.fits }

pub level_written : (n : ℕ) (place : Place) (node : Bool) (left : List Pair) (children : List ℕ) → IsPlaced place → length left ≤ n → 0 < length left → AreSized place left → AreKeys left → not (eqb (length children) 0) ≡ node → IsBranching (page_with (entries_of left) children) → AllByRecursion IsPlace children
    → AllByRecursion (IsWritten place) (level_of n (fits_in place node) left children).pages
level_written zero place node left children placed le some sized keys flag branching places = absurd (omega arith)
level_written (suc n) place node left children placed le some sized keys flag branching places =
    step (count_of (fits_in place node) left) (good_count place node left sized some) (drop (count_of (fits_in place node) left) left) refl
    (λ es cs l p s k f b a. level_written n place node es cs placed l p s k f b a)
  where
    step : (count : ℕ) → IsCount place node left count → (tail : List Pair) → drop count left ≡ tail
        → ((es : List Pair) (cs : List ℕ) → length es ≤ n → 0 < length es → AreSized place es → AreKeys es → not (eqb (length cs) 0) ≡ node → IsBranching (page_with (entries_of es) cs) → AllByRecursion IsPlace cs → AllByRecursion (IsWritten place) (level_of n (fits_in place node) es cs).pages)
        → AllByRecursion (IsWritten place) (after_page (level_of n (fits_in place node)) count left children tail).pages
    step count is [] e again =
        let none : length left ≤ count = omega (arith, ap length e, length-drop count left) in
        let l = last place node left count children is sized flag branching places none in
        (written_page place (node_with left children) placed l keys, tt)
    step count is (s ∷ r) e again =
        let lt : count < length left = omega (arith, ap length e, length-drop count left) in
        let rest_is : drop (suc count) left ≡ r = ap (drop 1) (sym (drop-cons left count s lt) ∙ e) in
        let one : suc count ≡ count + 1 = omega arith in
        let b = body place node left count children (take (suc count) children) (drop (suc count) children) s is sized flag branching places lt (ap (λ (t : ℕ). take t children) one) (ap (λ (t : ℕ). drop t children) one) in
        let keys_left : AreKeys (s ∷ r) = subst AreKeys e (all_drop (λ (p : Pair). IsKey p.key) count left keys) in (
          written_page place (node_with (take count left) (take (suc count) children)) placed b.page (all_take (λ (p : Pair). IsKey p.key) count left keys),
          again r (drop (suc count) children) (omega (arith, ap length rest_is, length-drop (suc count) left, le, is.some)) (subst (λ (t : List Pair). 0 < length t) rest_is b.some) (subst (AreSized place) rest_is b.sized) keys_left.1 b.flag (subst (λ (t : List Pair). IsBranching (page_with (entries_of t) (drop (suc count) children))) rest_is b.others_branching) b.others_places,
        )

pub all_both : {A : Type 0} (P : A → Type 0) (xs ys : List A) → AllByRecursion P xs → AllByRecursion P ys → AllByRecursion P (xs ++ ys)
all_both P [] ys a b = b
all_both P (x ∷ xs) ys a b = (a.0, all_both P xs ys a.1 b)

-- the levels above are laid from where a level ends
above_written : (n : ℕ) (place : Place) (at : ℕ) (more : Bool) (pages : List Node) (separators : List Pair) → ltb 1 (length pages) ≡ more → IsPlaced place → at % 1024 ≡ 0
    → at + place.block_length * length (pages ++ upper n (fits_in place) place.block_length (at + place.block_length * length pages) separators (places_from (length pages) place.block_length at) more) < 2 ^ 64
    → length pages ≡ suc (length separators) → length separators ≤ n → AreSized place separators → AreKeys separators
    → ((a : ℕ) (es : List Pair) (cs : List ℕ) → a % 1024 ≡ 0 → length es ≤ n → 0 < length es → AreSized place es → AreKeys es → not (eqb (length cs) 0) ≡ true → IsBranching (page_with (entries_of es) cs) → AllByRecursion IsPlace cs
    → a + place.block_length * length (levels_from n (fits_in place) place.block_length a true es cs) < 2 ^ 64 → AllByRecursion (IsWritten place) (levels_from n (fits_in place) place.block_length a true es cs))
    → AllByRecursion (IsWritten place) (upper n (fits_in place) place.block_length (at + place.block_length * length pages) separators (places_from (length pages) place.block_length at) more)
above_written n place at false pages separators is placed whole small count le sized keys again = tt
above_written n place at true pages separators is placed whole small count le sized keys again =
    let block : ℕ = place.block_length in
    let cs : List ℕ = places_from (length pages) block at in
    let behind : ℕ = at + block * length pages in
    let rest : List Node = levels_from n (fits_in place) block behind true separators cs in
    let long : length cs ≡ length pages = length-places_from (length pages) block at in
    let more : 1 < length pages = ltb-true _ _ is in
    let all : length (pages ++ rest) ≡ length pages + length rest = length-append pages rest in
    let end : at + block * (length pages + length rest) < 2 ^ 64 = subst (λ (k : ℕ). at + block * k < 2 ^ 64) all small in
    let flag : not (eqb (length cs) 0) ≡ true = rw (ne_eqb (length cs) 0 (λ z. omega arith)) refl in
    again behind separators cs (multiple block (length pages) at whole placed.whole) le (omega arith) sized keys flag (branches_above separators cs (long ∙ count)) (places_are (length pages) block at whole placed.whole (omega arith) (omega (arith, placed.least))) (omega arith)

pub levels_written : (n : ℕ) (place : Place) (at : ℕ) (node : Bool) (entries : List Pair) (children : List ℕ) → IsPlaced place → at % 1024 ≡ 0 → length entries ≤ n → 0 < length entries → AreSized place entries → AreKeys entries → not (eqb (length children) 0) ≡ node → IsBranching (page_with (entries_of entries) children)
    → AllByRecursion IsPlace children → at + place.block_length * length (levels_from n (fits_in place) place.block_length at node entries children) < 2 ^ 64 → AllByRecursion (IsWritten place) (levels_from n (fits_in place) place.block_length at node entries children)
levels_written zero place at node entries children placed whole le some sized keys flag branching places small = absurd (omega arith)
levels_written (suc n) place at node entries children placed whole le some sized keys flag branching places small =
    step (level_of (length entries) (fits_in place node) entries children) refl (λ a es cs w l p s k f b q t. levels_written n place a true es cs placed w l p s k f b q t)
  where
    step : (level : Level) → level ≡ level_of (length entries) (fits_in place node) entries children
        → ((a : ℕ) (es : List Pair) (cs : List ℕ) → a % 1024 ≡ 0 → length es ≤ n → 0 < length es → AreSized place es → AreKeys es → not (eqb (length cs) 0) ≡ true → IsBranching (page_with (entries_of es) cs) → AllByRecursion IsPlace cs
        → a + place.block_length * length (levels_from n (fits_in place) place.block_length a true es cs) < 2 ^ 64 → AllByRecursion (IsWritten place) (levels_from n (fits_in place) place.block_length a true es cs))
        → AllByRecursion (IsWritten place) (levels_from (suc n) (fits_in place) place.block_length at node entries children)
    step level is again =
        let block : ℕ = place.block_length in
        let cs : List ℕ = places_from (length level.pages) block at in
        let behind : ℕ = at + block * length level.pages in
        let pages = levels_step n (fits_in place) block at node entries children level is in
        let first : AllByRecursion (IsWritten place) level.pages = subst (λ (l : Level). AllByRecursion (IsWritten place) l.pages) (sym is) (level_written (length entries) place node entries children placed (omega arith) some sized keys flag branching places) in
        let count : length level.pages ≡ suc (length level.separators) = rw is (level_count (length entries) (fits_in place node) entries children) in
        let fewer : length level.separators < length entries = rw is (level_lt (length entries) (fits_in place node) entries children (count_pos (fits_in place node) entries) some) in
        let sized_above : AreSized place level.separators = rw is (level_all (λ p. IsSized place (entry_of p)) (length entries) (fits_in place node) entries children sized) in
        let keys_above : AreKeys level.separators = rw is (level_all (λ p. IsKey p.key) (length entries) (fits_in place node) entries children keys) in
        subst (AllByRecursion (IsWritten place)) (sym pages) (all_both (IsWritten place) level.pages (upper n (fits_in place) block behind level.separators cs (ltb 1 (length level.pages))) first
        (above_written n place at (ltb 1 (length level.pages)) level.pages level.separators refl placed whole (subst (λ (t : List Node). at + block * length t < 2 ^ 64) pages small) count (omega arith) sized_above keys_above again))

-- what building lays is read back
pub laid_written : (place : Place) (first : ℕ) (pairs : List Pair) → IsPlaced place → first % 1024 ≡ 0 → AreSized place pairs → AreKeys pairs → first + place.block_length * length (laid (fits_in place) place.block_length first pairs) < 2 ^ 64
    → AllByRecursion (IsWritten place) (laid (fits_in place) place.block_length first pairs)
laid_written place first [] placed whole sized keys small = tt
laid_written place first (p ∷ ps) placed whole sized keys small = levels_written (length (p ∷ ps)) place first false (p ∷ ps) [] placed whole (omega arith) (omega arith) sized keys refl tt tt small

pub written_read : (place : Place) (node : Node) → IsWritten place node → node_in place.rec_ref (page_for place node) ≡ Some node
unfolding page_for
written_read place node w =
    let text : List ℕ = page_bytes place.rec_ref (page_of_node node) in
    let page : page_in place.rec_ref (text ++ replicate (place.block_length - length text) 0) ≡ Some (page_of_node node) = page_again place.rec_ref (page_of_node node) (replicate (place.block_length - length text) 0) w.page w.branching in
    node_again place.rec_ref (text ++ replicate (place.block_length - length text) 0) node page (pairs_again key_read node.pairs w.keys)

node_there : (place : Place) (cache : Caching) (m : Holding) (at : ℕ) (node : Node) → at % 1024 ≡ 0 → lends cache m at place.block_length ≡ Some (page_for place node) → node_in place.rec_ref (page_for place node) ≡ Some node → node_lent place cache m at ≡ Some node
unfolding node_lent
node_there place cache m at node whole lent read = rw (eq-eqb (at % 1024) 0 whole, lent) read

pub lent_stand : (place : Place) (cache : Caching) (m : Holding) (first : ℕ) (nodes : List Node) → IsPlaced place → first % 1024 ≡ 0 → AllByRecursion (IsWritten place) nodes → AreLent place cache m first nodes
    → Stands (node_lent place cache m) place.block_length first nodes
lent_stand place cache m first [] placed whole written lent = tt
lent_stand place cache m first (node ∷ nodes) placed whole written lent = (
  node_there place cache m first node whole lent.0 (written_read place node written.0),
  lent_stand place cache m (first + place.block_length) nodes placed (omega (arith, placed.whole)) written.1 lent.1,
)

pub built_once : (place : Place) (first : ℕ) (p : Pair) (ps : List Pair) (old new : Caching) (m n : Holding) → IsPlaced place → first % 1024 ≡ 0 → AreSized place (p ∷ ps) → AreKeys (p ∷ ps)
    → first + place.block_length * length (laid (fits_in place) place.block_length first (p ∷ ps)) < 2 ^ 64 → Lays place first (laid (fits_in place) place.block_length first (p ∷ ps)) old new m n
    → WalksOnce (node_lent place new n) place.block_length first (length (laid (fits_in place) place.block_length first (p ∷ ps))) (p ∷ ps)
built_once place first p ps old new m n placed whole sized keys small lays =
    walks_once (node_lent place new n) (fits_in place) place.block_length first p ps (omega (arith, placed.least)) (lent_stand place new n first (laid (fits_in place) place.block_length first (p ∷ ps)) placed whole (laid_written place first (p ∷ ps) placed whole sized keys small) lays.there)
