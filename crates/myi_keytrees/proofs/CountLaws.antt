-- How many bytes pages and free room have, counted byte by byte.
use Rattle.std.proofs.Common.{◌≡◌, ℕ, zero, suc, ◌+◌, ◌*◌, ◌≤◌, List, [], ◌∷◌, length, refl, sym, ap, ◌∙◌, arith, inl, inr}
use Rattle.std.specs.List.{AllByRecursion}
use Rattle.std.proofs.lemmas.Bool.{cases_lt}
use Rattle.std.proofs.Math.Nat.{mul-suc}
use Rattle.myi_base.specs.Holding.{Holding}
use Rattle.myi_keylist.specs.declared.pair.Pair.{Pair}
use Rattle.myi_btree.specs.declared.place.Place.{Place}
use Rattle.myi_btree.specs.declared.place.Room.{Room}
use Rattle.myi_btree.specs.Visit.{page_range}
use Rattle.myi_btree.specs.Sizes.{IsPlaced}
use Rattle.myi_insertion.specs.Covers.{within, cover, covers, from_end, stock}
use Rattle.myi_insertion.proofs.CallerLemmas.{before_end}
use Rattle.myi_keytrees.specs.Trees.{Trees}
use Rattle.myi_keytrees.specs.Standing.{cover_each, Stand}
use Rattle.myi_keytrees.specs.InFile.{bytes_of_pages, bytes_of_free}
use Rattle.myi_keytrees.proofs.FileLaws.{range_one, range_zero, one_before}
use Rattle.myi_keytrees.proofs.OpenLaws.{end_before, end_one}

-- how often the first so many bytes are counted
abbrev total : (ℕ → ℕ) → ℕ → ℕ
total f zero = 0
total f (suc n) = f n + total f n

total_same : (f g : ℕ → ℕ) (n : ℕ) → ((x : ℕ) → f x ≡ g x) → total f n ≡ total g n
total_same f g zero same = refl
total_same f g (suc n) same = let e = same n in let r = total_same f g n same in omega arith

total_both : (f g : ℕ → ℕ) (n : ℕ) → total (λ x. f x + g x) n ≡ total f n + total g n
total_both f g zero = omega arith
total_both f g (suc n) = let r = total_both f g n in omega arith

total_most : (f : ℕ → ℕ) (n : ℕ) → ((x : ℕ) → f x ≤ 1) → total f n ≤ n
total_most f zero most = omega arith
total_most f (suc n) most = let m = most n in let r = total_most f n most in omega arith

-- ---- one page

page_low : (p b n : ℕ) → n ≤ p → total (within p b) n ≡ 0
page_low p b zero le = refl
page_low p b (suc n) le = let here : within p b n ≡ 0 = range_zero (page_range b p) n (inl (omega arith)) in let r = page_low p b n (omega arith) in omega arith

page_mid : (p b n : ℕ) → p ≤ n → n ≤ p + b → total (within p b) n + p ≡ n
page_mid p b zero low high = omega arith
page_mid p b (suc n) low high = elim (cases_lt n p) [
  | inl before ↦ let r = page_low p b (suc n) (omega arith) in omega arith
  | inr past ↦ let here : within p b n ≡ 1 = range_one (page_range b p) n past (omega arith) in let r = page_mid p b n past (omega arith) in omega arith
]

page_total : (p b n : ℕ) → p + b ≤ n → total (within p b) n ≡ b
page_total p b zero le = omega arith
page_total p b (suc n) le = elim (cases_lt n (p + b)) [
  | inl last ↦ let r = page_mid p b (suc n) (omega arith) (omega arith) in omega arith
  | inr past ↦ let here : within p b n ≡ 0 = range_zero (page_range b p) n (inr past) in let r = page_total p b n past in omega arith
]

no_total : (p n : ℕ) → total (within p 0) n ≡ 0
no_total p zero = refl
no_total p (suc n) =
    let here : within p 0 n ≡ 0 = range_zero (page_range 0 p) n (elim (cases_lt n p) [ inl before ↦ inl before | inr past ↦ inr (omega arith) ]) in
    let r = no_total p n in
    omega arith

-- ---- all pages, the free ones, and what lies behind the end

-- where nothing is counted
none_total : (n : ℕ) → total (λ x. 0) n ≡ 0
none_total zero = refl
none_total (suc n) = let r = none_total n in omega (arith, r)

zero_bytes : (b : ℕ) → 0 ≡ b * 0
zero_bytes b = omega arith

pages_total : (b n : ℕ) (pages : List ℕ) → AllByRecursion (λ p. p + b ≤ n) pages → total (cover b pages) n ≡ b * length pages
pages_total b n [] all = none_total n ∙ zero_bytes b
pages_total b n (p ∷ pages) all =
    let one = page_total p b n all.0 in
    let rest = pages_total b n pages all.1 in
    omega (arith, total_both (within p b) (cover b pages) n, one, rest, mul-suc b (length pages))

each_total : (n end : ℕ) (ps : List Place) (pages : List (List ℕ)) → end ≤ n → AllByRecursion IsPlaced ps → ((x : ℕ) → cover_each ps pages x + from_end end x ≤ 1) → total (cover_each ps pages) n ≡ bytes_of_pages ps pages
each_total n end [] pages le placed off = none_total n
each_total n end (p ∷ ps) [] le placed off = none_total n
each_total n end (p ∷ ps) (g ∷ pages) le placed off =
    let ends = one_before p.block_length end g (let l = placed.0.least in omega arith) (λ x. let o = off x in omega arith) in
    let one = pages_total p.block_length n g (all_up p.block_length end n g le ends) in
    let rest = each_total n end ps pages le placed.1 (λ x. let o = off x in omega arith) in
    omega (arith, total_both (cover p.block_length g) (cover_each ps pages) n, one, rest)
  where
    all_up : (b end n : ℕ) (g : List ℕ) → end ≤ n → AllByRecursion (λ p. p + b ≤ end) g → AllByRecursion (λ p. p + b ≤ n) g
    all_up b end n [] le all = tt
    all_up b end n (q ∷ g) le all = ((let k = all.0 in omega arith), all_up b end n g le all.1)

free_total : (n end : ℕ) (rs : List (ℕ × ℕ)) → end ≤ n → ((x : ℕ) → covers rs x + from_end end x ≤ 1) → total (covers rs) n ≡ bytes_of_free rs
free_total n end [] le off = none_total n
free_total n end (r ∷ rs) le off =
    let one : total (within r.0 r.1) n ≡ r.1 = elim (cases_lt 0 r.1) [
      | inl some ↦ page_total r.0 r.1 n (let k = before_end r.0 r.1 end some (λ x. let o = off x in omega arith) in omega arith)
      | inr none ↦ let is : r.1 ≡ 0 = omega arith in ap (λ (b : ℕ). total (within r.0 b) n) is ∙ no_total r.0 n ∙ sym is
    ] in
    let rest = free_total n end rs le (λ x. let o = off x in omega arith) in
    omega (arith, total_both (within r.0 r.1) (covers rs) n, one, rest)

end_low : (end n : ℕ) → n ≤ end → total (from_end end) n ≡ 0
end_low end zero le = refl
end_low end (suc n) le = let here = end_before end n (omega arith) in let r = end_low end n (omega arith) in omega arith

end_total : (end n : ℕ) → end ≤ n → total (from_end end) n + end ≡ n
end_total end zero le = omega arith
end_total end (suc n) le = elim (cases_lt n end) [
  | inl last ↦ let r = end_low end (suc n) (omega arith) in omega arith
  | inr past ↦ let here = end_one end n past in let r = end_total end n past in omega arith
]

-- ---- the trees of one object

stock_is : (room : Room) (x : ℕ) → stock room x ≡ from_end room.end x + covers room.free x
unfolding stock
stock_is room x = refl

own_total : (t : Trees) (m : Holding) (own : ℕ → ℕ) (lists : List (List Pair)) (n : ℕ) → t.room.end ≤ n → (s : Stand t m own lists)
    → total own n + t.room.end ≡ (bytes_of_pages t.places s.pages + bytes_of_free t.room.free) + n
own_total t m own lists n le s =
    let each : ℕ → ℕ = cover_each t.places s.pages in
    let ends : ℕ → ℕ = from_end t.room.end in
    let free : ℕ → ℕ = covers t.room.free in
    let parts : (x : ℕ) → own x ≡ cover_each t.places s.pages x + (from_end t.room.end x + covers t.room.free x) = λ x. sym (s.owned x) ∙ ap (λ (k : ℕ). cover_each t.places s.pages x + k) (stock_is t.room x) in
    let sum = total_same own (λ x. cover_each t.places s.pages x + (from_end t.room.end x + covers t.room.free x)) n parts in
    let one = total_both (cover_each t.places s.pages) (λ x. from_end t.room.end x + covers t.room.free x) n in
    let two = total_both (from_end t.room.end) (covers t.room.free) n in
    let a = each_total n t.room.end t.places s.pages le s.placed (λ x. omega (arith, s.once x, parts x)) in
    let b = free_total n t.room.end t.room.free le (λ x. omega (arith, s.once x, parts x)) in
    let c = end_total t.room.end n le in
    omega (arith, sum, one, two, a, b, c)

pub counted : (old new : Trees) (m n : Holding) (own : ℕ → ℕ) (xs ys : List (List Pair)) (s : Stand old m own xs) (t : Stand new n own ys)
    → (bytes_of_pages new.places t.pages + bytes_of_free new.room.free) + old.room.end ≡ (bytes_of_pages old.places s.pages + bytes_of_free old.room.free) + new.room.end
counted old new m n own xs ys s t =
    let limit : ℕ = old.room.end + new.room.end in
    let a = own_total old m own xs limit (omega arith) s in
    let b = own_total new n own ys limit (omega arith) t in
    omega (arith, a, b)

pub few : (t : Trees) (m : Holding) (own : ℕ → ℕ) (lists : List (List Pair)) (s : Stand t m own lists) → bytes_of_pages t.places s.pages + bytes_of_free t.room.free ≤ t.room.end
few t m own lists s =
    let a = own_total t m own lists t.room.end (omega arith) s in
    omega (arith, a, total_most own t.room.end s.once)
