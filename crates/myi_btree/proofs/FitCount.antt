-- How many pairs the next page takes, from how many of their entries fit.
use Rattle.std.proofs.Common.{◌≡◌, ℕ, zero, suc, ◌-◌, ◌*◌, ◌<◌, ◌≤◌, ◌≢◌, Bool, true, false, ◌&&◌, eqb, cond, List, [], ◌∷◌, length, take, drop, refl, sym, ap, subst, ◌∙◌, arith, inl, inr}
use Rattle.std.proofs.lemmas.Bool.{cases_lt, le-leb, lt-leb, leb-true, eq-eqb, ne_eqb}
use Rattle.std.proofs.lemmas.List.{length-map, length-take}
use Rattle.myi_keypage.specs.declared.entry.Entry.{Entry}
use Rattle.myi_keypage.specs.Fitting.{entries_length, used_length}
use Rattle.myi_keypage.proofs.CallerLemmas.{entry_least, front_used, two_used}
use Rattle.myi_keylist.specs.declared.pair.Pair.{Pair}
use Rattle.myi_btree.specs.declared.place.Place.{Place}
use Rattle.myi_btree.specs.Nodes.{entry_of, entries_of}
use Rattle.myi_btree.specs.Sizes.{IsPlaced, IsSized, AreSized, fits_in, IsFitting, IsCount}
use Rattle.myi_btree.specs.LaidPages.{count_of}
use Rattle.myi_btree.proofs.CountLaws.{count_is, cases_one}

-- an entry takes four bytes at least
few_from : (rec_ref : ℕ) (node : Bool) (before : List ℕ) (es : List Entry) → 2 ≤ rec_ref → 4 * length es ≤ entries_length rec_ref node before es
few_from rec_ref node before [] wide = omega arith
few_from rec_ref true before (e ∷ es) wide = omega (arith, few_from rec_ref true e.key es wide, entry_least rec_ref before e)
few_from rec_ref false before (e ∷ es) wide = omega (arith, few_from rec_ref false e.key es wide, entry_least rec_ref before e)

-- so a page has few
pub few_on : (place : Place) (node : Bool) (ps : List Pair) (count : ℕ) → IsPlaced place → IsCount place node ps count → count < 16384
few_on place node ps count placed is =
    let long : length (take count (entries_of ps)) ≡ count = omega (arith, length-take count (entries_of ps), length-map ps entry_of, is.inside) in
    omega (arith, few_from place.rec_ref node [] (take count (entries_of ps)) placed.wide, is.fit, placed.most)

pub entries-take : (n : ℕ) (ps : List Pair) → entries_of (take n ps) ≡ take n (entries_of ps)
entries-take zero ps = refl
entries-take (suc n) [] = refl
entries-take (suc n) (p ∷ ps) = ap (λ (t : List Entry). entry_of p ∷ t) (entries-take n ps)

pub entries-drop : (n : ℕ) (ps : List Pair) → entries_of (drop n ps) ≡ drop n (entries_of ps)
entries-drop zero ps = refl
entries-drop (suc n) [] = refl
entries-drop (suc n) (p ∷ ps) = entries-drop n ps

take_take : (k n : ℕ) (es : List Entry) → k ≤ n → take k (take n es) ≡ take k es
take_take zero n es le = refl
take_take (suc k) zero es le = absurd (omega arith)
take_take (suc k) (suc n) [] le = refl
take_take (suc k) (suc n) (e ∷ es) le = ap (λ (t : List Entry). e ∷ t) (take_take k n es (omega arith))

-- fewer pairs fit
fewer_fit : (place : Place) (node : Bool) (ps : List Pair) (c : ℕ) → fits_in place node (take (suc c) ps) ≡ true → fits_in place node (take c ps) ≡ true
fewer_fit place node ps c is =
    let all : used_length place.rec_ref node (entries_of (take (suc c) ps)) ≤ place.block_length = leb-true _ _ is in
    let same : take c (entries_of (take (suc c) ps)) ≡ entries_of (take c ps) = ap (take c) (entries-take (suc c) ps) ∙ take_take c (suc c) (entries_of ps) (omega arith) ∙ sym (entries-take c ps) in
    let front = front_used place.rec_ref node c (entries_of (take (suc c) ps)) in
    let less : used_length place.rec_ref node (entries_of (take c ps)) ≤ place.block_length = omega (arith, subst (λ (t : List Entry). used_length place.rec_ref node t ≤ used_length place.rec_ref node (entries_of (take (suc c) ps))) same front) in
    le-leb _ _ less

-- two entries fit, whichever they are
pub two_fit : (place : Place) (node : Bool) (a b : Entry) → IsSized place a → IsSized place b → used_length place.rec_ref node (a ∷ b ∷ []) ≤ place.block_length
two_fit place node a b ha hb =
    elim (cases_lt (length a.key) (length b.key)) [
      | inl less ↦ omega (arith, two_used place.rec_ref node (length b.key) a b (omega arith) (omega arith), hb.short)
      | inr more ↦ omega (arith, two_used place.rec_ref node (length a.key) a b (omega arith) (omega arith), ha.short)
    ]

pub one_fits : (place : Place) (node : Bool) (a : Entry) → IsSized place a → used_length place.rec_ref node (a ∷ []) ≤ place.block_length
one_fits place node a ha = omega (arith, front_used place.rec_ref node 1 (a ∷ a ∷ []), two_fit place node a a ha ha)

-- what fits, of a front of pairs
fits_so : (place : Place) (node : Bool) (ps : List Pair) (m k : ℕ) → IsFitting place node (entries_of ps) m → 0 < k → k ≤ m → fits_in place node (take k ps) ≡ true
fits_so place node ps m k f pos le =
    let used : used_length place.rec_ref node (take k (entries_of ps)) ≤ place.block_length = (f.exact k pos (omega (arith, f.inside))).0 le in
    le-leb _ _ (subst (λ (t : List Entry). used_length place.rec_ref node t ≤ place.block_length) (sym (entries-take k ps)) used)

-- two pairs fit, or the one that there is
least : (place : Place) (node : Bool) (ps : List Pair) (m : ℕ) → AreSized place ps → IsFitting place node (entries_of ps) m → 2 ≤ length ps → 2 ≤ m
least place node [] m sized f two = absurd (omega arith)
least place node (p ∷ []) m sized f two = absurd (omega arith)
least place node (p ∷ q ∷ ps) m sized f two = (f.exact 2 (omega arith) (omega arith)).1 (two_fit place node (entry_of p) (entry_of q) sized.0 sized.1.0)

over : (place : Place) (node : Bool) (ps : List Pair) (m : ℕ) → IsFitting place node (entries_of ps) m → m < length ps → fits_in place node (take (suc m) ps) ≡ false
over place node ps m f lt =
    let unfit : place.block_length < used_length place.rec_ref node (entries_of (take (suc m) ps)) =
    elim (cases_lt place.block_length (used_length place.rec_ref node (entries_of (take (suc m) ps)))) [
      | inl beyond ↦ beyond
      | inr within ↦
          let k : suc m ≤ m = (f.exact (suc m) (omega arith) (omega (arith, length-map ps entry_of))).1 (subst (λ (t : List Entry). used_length place.rec_ref node t ≤ place.block_length) (entries-take (suc m) ps) within) in
          absurd (omega arith)
    ] in
    lt-leb _ _ unfit

one_count : (passes : List Pair → Bool) (p : Pair) → count_of passes (p ∷ []) ≡ 1
one_count passes p = by (passes (p ∷ []))
  where
    by : (b : Bool) → ◌≡◌ {A = ℕ} (cond (b && true) 1 1) 1
    by true = refl
    by false = refl

single : (place : Place) (node : Bool) (ps : List Pair) (m : ℕ) → AreSized place ps → IsFitting place node (entries_of ps) m → length ps ≡ 1 → m ≡ 1
single place node [] m sized f e = absurd cc
single place node (p ∷ q ∷ ps) m sized f e = absurd (omega arith)
single place node (p ∷ []) m sized f e = omega (arith, (f.exact 1 (omega arith) (omega arith)).1 (one_fits place node (entry_of p) sized.0), f.inside)

-- how many the next page takes
count_for : (place : Place) (node : Bool) (ps : List Pair) (m : ℕ) → AreSized place ps → IsFitting place node (entries_of ps) m → 0 < length ps
    → count_of (fits_in place node) ps ≡ cond (eqb (length ps - m) 1) (m - 1) m
count_for place node [] m sized f some = absurd (omega arith)
count_for place node (p ∷ []) m sized f some =
    let one : m ≡ 1 = single place node (p ∷ []) m sized f refl in
    one_count (fits_in place node) p ∙ rw one refl
count_for place node (p ∷ q ∷ ps) m sized f some =
    let two = least place node (p ∷ q ∷ ps) m sized f (omega arith) in
    count_is (fits_in place node) (p ∷ q ∷ ps) m (fewer_fit place node (p ∷ q ∷ ps)) two (omega (arith, f.inside, length-map (p ∷ q ∷ ps) entry_of)) (fits_so place node (p ∷ q ∷ ps) m m f (omega arith) (omega arith))
    (λ lt. over place node (p ∷ q ∷ ps) m f lt)

pub takes : (place : Place) (node : Bool) (ps : List Pair) (m count : ℕ) → AreSized place ps → IsFitting place node (entries_of ps) m → 0 < length ps
    → count ≡ cond (eqb (length ps - m) 1) (m - 1) m → IsCount place node ps count
takes place node ps m count sized f some is =
    elim (cases_lt 1 (length ps)) [
      | inl two ↦ by_two (least place node ps m sized f two)
      | inr one ↦ by_one (omega arith)
    ]
  where
    fit_at : (k : ℕ) → 0 < k → k ≤ m → used_length place.rec_ref node (take k (entries_of ps)) ≤ place.block_length
    fit_at k pos le = subst (λ (t : List Entry). used_length place.rec_ref node t ≤ place.block_length) (entries-take k ps) (leb-true _ _ (fits_so place node ps m k f pos le))

    by_two : 2 ≤ m → IsCount place node ps count
    by_two two =
        elim (cases_one (length ps - m)) [
          | inl e ↦
              let c : count ≡ m - 1 = is ∙ rw (eq-eqb (length ps - m) 1 e) refl in
              record { is = is ∙ sym (count_for place node ps m sized f some); some = omega arith; inside = omega (arith, f.inside, length-map ps entry_of); one = λ h. omega arith; fit = fit_at count (omega arith) (omega arith) }
          | inr e ↦
              let c : count ≡ m = is ∙ rw (ne_eqb (length ps - m) 1 e) refl in
              record { is = is ∙ sym (count_for place node ps m sized f some); some = omega arith; inside = omega (arith, f.inside, length-map ps entry_of); one = λ h. e (omega arith); fit = fit_at count (omega arith) (omega arith) }
        ]

    by_one : length ps ≡ 1 → IsCount place node ps count
    by_one e =
        let whole = count_for place node ps m sized f some in
        let m_is : m ≡ 1 = single place node ps m sized f e in
        let c : count ≡ 1 = is ∙ rw (m_is, e) refl in
        record { is = is ∙ sym whole; some = omega arith; inside = omega arith; one = λ h. omega arith; fit = fit_at count (omega arith) (omega arith) }

pub then_count : (left m : ℕ) → left - m ≡ 1 → m - 1 ≡ cond (eqb (left - m) 1) (m - 1) m
then_count left m e = rw (eq-eqb (left - m) 1 e) refl

pub else_count : (left m : ℕ) → left - m ≢ 1 → m ≡ cond (eqb (left - m) 1) (m - 1) m
else_count left m e = rw (ne_eqb (left - m) 1 e) refl

-- at least one fits
pub one_of : (place : Place) (node : Bool) (ps : List Pair) (m : ℕ) → AreSized place ps → IsFitting place node (entries_of ps) m → 0 < length ps → 1 ≤ m
one_of place node [] m sized f some = absurd (omega arith)
one_of place node (p ∷ ps) m sized f some = (f.exact 1 (omega arith) (omega arith)).1 (one_fits place node (entry_of p) sized.0)
