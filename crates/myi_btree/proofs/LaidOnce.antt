-- The walk of laid pages goes over each of them once: a sum over the pages of the walk is that over the laid places.
use Rattle.std.proofs.Common.{◌≡◌, ℕ, zero, suc, ◌+◌, ◌*◌, ◌<◌, ◌≤◌, Bool, true, false, ltb, Option, Some, List, [], ◌∷◌, ◌++◌, length, map, take, drop, sum_by, refl, sym, ap, subst, ◌∙◌, arith, inl, inr}
use Rattle.std.specs.List.{flat_map}
use Rattle.std.proofs.lemmas.Option.{same_Some}
use Rattle.std.proofs.lemmas.Bool.{cases_lt, le-ltb, lt-ltb}
use Rattle.std.proofs.lemmas.List.{append-nil, length-append, length-take, length-drop, take-append-drop}
use Rattle.std.proofs.lemmas.List.Sums.{sum_by-cons, sum_by-append}
use Rattle.myi_keylist.specs.declared.pair.Pair.{Pair}
use Rattle.myi_btree.specs.Walk.{◌>>=◌, Node, node_with, Walked, each, at_node, walk_of, content}
use Rattle.myi_btree.specs.LaidPages.{count_of, Level, after_page, level_of, places_from, above, levels_from, laid, Stands, IsRooted}
use Rattle.myi_btree.proofs.Frames.{bind_some}
use Rattle.myi_btree.proofs.Once.{one_walk}
use Rattle.myi_btree.proofs.LaidWalks.{cons_each, level_lt, count_pos, length-places_from, laid_walks}

-- a sum over the pages of trees
abbrev pub pages_sum : (ℕ → ℕ) → List Walked → ℕ
pages_sum f ws = sum_by f (flat_map (λ (w : Walked). w.pages) ws)

abbrev pub places_sum : (ℕ → ℕ) → ℕ → ℕ → ℕ → ℕ
places_sum f n block first = sum_by f (places_from n block first)

-- these places have trees of this height, over whose pages sums are these
pub record Spans (read : ℕ → Option Node) (h : ℕ) (places : List ℕ) (entries : List Pair) (total : (ℕ → ℕ) → ℕ) : Type 0 where
  pub walks : (ws : List Walked) × (each (walk_of read h) places ≡ Some ws) × ((f : ℕ → ℕ) → pages_sum f ws ≡ total f)
  pub count : length places ≡ suc (length entries)

-- the sums over the pages below a page
abbrev pub Below : (ℕ → Option Node) → ℕ → List Pair → List ℕ → ((ℕ → ℕ) → ℕ) → Type 0
Below read zero entries children total = (children ≡ []) × ((f : ℕ → ℕ) → total f ≡ 0)
Below read (suc h) entries children total = Spans read h children entries total

page_spans : (read : ℕ → Option Node) (h place : ℕ) (entries : List Pair) (children : List ℕ) (total : (ℕ → ℕ) → ℕ) → Below read h entries children total → read place ≡ Some (node_with entries children)
    → (w : Walked) × (walk_of read h place ≡ Some w) × ((f : ℕ → ℕ) → sum_by f w.pages ≡ f place + total f)
page_spans read zero place entries children total m at =
    (record { pairs = map (λ p. (p, place)) entries; pages = place ∷ [] }, rw (at, m.0) refl, λ f. omega (arith, m.1 f))
page_spans read (suc h) place entries children total m at =
    let ws = m.walks.0 in
    let some : ltb 0 (length children) ≡ true = lt-ltb 0 (length children) (omega (arith, m.count)) in
    (at_node place (node_with entries children) ws, rw (at, m.walks.1, some) refl, λ f. sum_by-cons f place (flat_map (λ (w : Walked). w.pages) ws) ∙ ap (λ n. f place + n) (m.walks.2 f))

-- a separator parts what is below

each_parts : {A B : Type 0} (f : A → Option B) (n : ℕ) (xs : List A) (ys : List B) → each f xs ≡ Some ys → (each f (take n xs) ≡ Some (take n ys)) × (each f (drop n xs) ≡ Some (drop n ys))
each_parts f zero xs ys e = (refl, e)
each_parts f (suc n) [] ys e = subst (λ (t : List _). (Some [] ≡ Some (take (suc n) t)) × (Some [] ≡ Some (drop (suc n) t))) (same_Some _ _ e) (refl, refl)
each_parts f (suc n) (x ∷ xs) ys e =
    let a = bind_some (f x) (λ y. each f xs >>= λ ys. Some (y ∷ ys)) ys e in
    let b = bind_some (each f xs) (λ ys. Some (a.0 ∷ ys)) ys a.2 in
    let again = each_parts f n xs b.0 b.1 in
    subst (λ t. (each f (take (suc n) (x ∷ xs)) ≡ Some (take (suc n) t)) × (each f (drop (suc n) (x ∷ xs)) ≡ Some (drop (suc n) t))) (same_Some _ _ b.2)
    (cons_each f x (take n xs) a.0 (take n b.0) a.1 again.0, again.1)

pages_parts : (f : ℕ → ℕ) (n : ℕ) (ws : List Walked) → pages_sum f ws ≡ pages_sum f (take n ws) + pages_sum f (drop n ws)
pages_parts f zero ws = omega arith
pages_parts f (suc n) [] = refl
pages_parts f (suc n) (w ∷ ws) =
    omega (arith, sum_by-append f w.pages (flat_map (λ (w : Walked). w.pages) ws), sum_by-append f w.pages (flat_map (λ (w : Walked). w.pages) (take n ws)), pages_parts f n ws)

below_split : (read : ℕ → Option Node) (h : ℕ) (a : List Pair) (s : Pair) (r : List Pair) (children : List ℕ) (total : (ℕ → ℕ) → ℕ) → Below read h (a ++ s ∷ r) children total
    → (one : (ℕ → ℕ) → ℕ) × (two : (ℕ → ℕ) → ℕ) × Below read h a (take (suc (length a)) children) one × Below read h r (drop (suc (length a)) children) two × ((f : ℕ → ℕ) → total f ≡ one f + two f)
below_split read zero a s r children total m = (λ f. 0, λ f. 0, (rw m.0 refl, λ f. refl), (rw m.0 refl, λ f. refl), λ f. omega (arith, m.1 f))
below_split read (suc h) a s r children total m =
    let n : ℕ = suc (length a) in
    let ws = m.walks.0 in
    let k = each_parts (walk_of read h) n children ws m.walks.1 in
    let len = length-append a (s ∷ r) in (
      λ f. pages_sum f (take n ws),
      λ f. pages_sum f (drop n ws),
      record { walks = (take n ws, k.0, λ f. refl); count = omega (arith, m.count, length-take n children) },
      record { walks = (drop n ws, k.1, λ f. refl); count = omega (arith, m.count, length-drop n children) },
      λ f. sym (m.walks.2 f) ∙ pages_parts f n ws,
    )

-- a level

one_page : (read : ℕ → Option Node) (h block first : ℕ) (entries : List Pair) (children : List ℕ) (total : (ℕ → ℕ) → ℕ) → Below read h entries children total → Stands read block first (node_with entries children ∷ [])
    → Spans read h (first ∷ []) [] (λ f. places_sum f 1 block first + total f)
one_page read h block first entries children total m st =
    let w = page_spans read h first entries children total m st.0 in
    record {
      walks = (w.0 ∷ [], cons_each (walk_of read h) first [] w.0 [] w.1 refl, λ f. ap (λ ps. sum_by f ps) (append-nil w.0.pages) ∙ omega (arith, w.2 f));
      count = refl;
    }

pub level_spans : (n : ℕ) (read : ℕ → Option Node) (h block first : ℕ) (fits : List Pair → Bool) (entries : List Pair) (children : List ℕ) (total : (ℕ → ℕ) → ℕ) → Below read h entries children total
    → Stands read block first (level_of n fits entries children).pages
    → Spans read h (places_from (length (level_of n fits entries children).pages) block first) (level_of n fits entries children).separators (λ f. places_sum f (length (level_of n fits entries children).pages) block first + total f)
level_spans zero read h block first fits entries children total m st = one_page read h block first entries children total m st
level_spans (suc n) read h block first fits entries children total m st =
    step (count_of fits entries) (drop (count_of fits entries) entries) (take-append-drop (count_of fits entries) entries) (omega (arith, length-take (count_of fits entries) entries, length-drop (count_of fits entries) entries)) st (λ at es cs t. level_spans n read h block at fits es cs t)
  where
    step : (count : ℕ) (left : List Pair) → take count entries ++ left ≡ entries → (0 < length left → length (take count entries) ≡ count)
        → Stands read block first (after_page (level_of n fits) count entries children left).pages
        → ((at : ℕ) (es : List Pair) (cs : List ℕ) (t : (ℕ → ℕ) → ℕ) → Below read h es cs t → Stands read block at (level_of n fits es cs).pages → Spans read h (places_from (length (level_of n fits es cs).pages) block at) (level_of n fits es cs).separators (λ f. places_sum f (length (level_of n fits es cs).pages) block at + t f))
        → Spans read h (places_from (length (after_page (level_of n fits) count entries children left).pages) block first) (after_page (level_of n fits) count entries children left).separators (λ f. places_sum f (length (after_page (level_of n fits) count entries children left).pages) block first + total f)
    step count [] whole long st again = one_page read h block first entries children total m st
    step count (s ∷ r) whole long st again =
        let a : List Pair = take count entries in
        let len : length a ≡ count = long (omega arith) in
        let p = below_split read h a s r children total (subst (λ (es : List Pair). Below read h es children total) (sym whole) m) in
        let front : Below read h a (take (suc count) children) p.0 = subst (λ (k : ℕ). Below read h a (take (suc k) children) p.0) len p.2 in
        let back : Below read h r (drop (suc count) children) p.1 = subst (λ (k : ℕ). Below read h r (drop (suc k) children) p.1) len p.3 in
        let w = page_spans read h first a (take (suc count) children) p.0 front st.0 in
        let others = again (first + block) r (drop (suc count) children) p.1 back st.1 in
        let m2 : ℕ = length (level_of n fits r (drop (suc count) children)).pages in
        let places : List ℕ = places_from m2 block (first + block) in
        record {
          walks = (
            w.0 ∷ others.walks.0,
            cons_each (walk_of read h) first places w.0 others.walks.0 w.1 others.walks.1,
            λ f. omega (arith, sum_by-append f w.0.pages (flat_map (λ (w : Walked). w.pages) others.walks.0), w.2 f, others.walks.2 f, p.4 f, sum_by-cons f first places),
          );
          count = ap suc others.count;
        }

-- all levels

pub record IsSpanned (read : ℕ → Option Node) (block first n : ℕ) (total : (ℕ → ℕ) → ℕ) : Type 0 where
  pub before : ℕ
  pub last : n ≡ suc before
  pub height : ℕ
  pub walk : (w : Walked) × (walk_of read height (first + block * before) ≡ Some w) × ((f : ℕ → ℕ) → sum_by f w.pages ≡ total f)

places_more : (f : ℕ → ℕ) (m n block first : ℕ) → places_sum f (m + n) block first ≡ places_sum f m block first + places_sum f n block (first + block * m)
places_more f zero n block first =
    let e : zero + n ≡ n = omega arith in
    let at : first ≡ first + block * 0 = omega arith in
    ap (λ k. places_sum f k block first) e ∙ ap (λ k. places_sum f n block k) at ∙ omega arith
places_more f (suc m) n block first =
    let e : suc m + n ≡ suc (m + n) = omega arith in
    let at : first + block + block * m ≡ first + block * suc m = omega arith in
    ap (λ k. places_sum f k block first) e
    ∙ omega (
      arith,
      sum_by-cons f first (places_from (m + n) block (first + block)),
      sum_by-cons f first (places_from m block (first + block)),
      places_more f m n block (first + block),
      ap (λ k. places_sum f n block k) at,
    )

stands_left : (read : ℕ → Option Node) (block first : ℕ) (xs ys : List Node) → Stands read block first (xs ++ ys) → Stands read block first xs
stands_left read block first [] ys h = tt
stands_left read block first (x ∷ xs) ys h = (h.0, stands_left read block (first + block) xs ys h.1)

stands_right : (read : ℕ → Option Node) (block first : ℕ) (xs ys : List Node) → Stands read block first (xs ++ ys) → Stands read block (first + block * length xs) ys
stands_right read block first [] ys h = let e : first ≡ first + block * 0 = omega arith in subst (λ (at : ℕ). Stands read block at ys) e h
stands_right read block first (x ∷ xs) ys h =
    let e : first + block + block * length xs ≡ first + block * suc (length xs) = omega arith in
    subst (λ (at : ℕ). Stands read block at ys) e (stands_right read block (first + block) xs ys h.1)

only_one : (read : ℕ → Option Node) (h block first n : ℕ) (separators : List Pair) (total : (ℕ → ℕ) → ℕ) → Spans read h (places_from n block first) separators total → n ≤ 1 → IsSpanned read block first n total
only_one read h block first zero separators total m le = absurd (omega (arith, m.count))
only_one read h block first (suc (suc n)) separators total m le = absurd (omega arith)
only_one read h block first (suc zero) separators total m le =
    let a = bind_some (walk_of read h first) (λ y. Some (y ∷ [])) m.walks.0 m.walks.1 in
    let at : first ≡ first + block * 0 = omega arith in
    record {
      before = 0;
      last = refl;
      height = h;
      walk = (a.0, rw (← at) a.1, λ f. ap (λ ps. sum_by f ps) (sym (append-nil a.0.pages)) ∙ ap (pages_sum f) (same_Some (a.0 ∷ []) m.walks.0 a.2) ∙ m.walks.2 f);
    }

pub all_spanned : (n : ℕ) (read : ℕ → Option Node) (h block first : ℕ) (fits : Bool → List Pair → Bool) (node : Bool) (entries : List Pair) (children : List ℕ) (total : (ℕ → ℕ) → ℕ)
    → length entries ≤ n → 0 < length entries → Below read h entries children total → Stands read block first (levels_from n fits block first node entries children)
    → IsSpanned read block first (length (levels_from n fits block first node entries children)) (λ f. places_sum f (length (levels_from n fits block first node entries children)) block first + total f)
all_spanned zero read h block first fits node entries children total le some m st = absurd (omega arith)
all_spanned (suc n) read h block first fits node entries children total le some m st =
    step (level_of (length entries) (fits node) entries children)
    (level_lt (length entries) (fits node) entries children (count_pos (fits node) entries) some)
    (λ s. level_spans (length entries) read h block first (fits node) entries children total m s)
    st
    (λ at es cs t l p k s. all_spanned n read (suc h) block at fits true es cs t l p k s)
  where
    step : (level : Level) → length level.separators < length entries → (Stands read block first level.pages → Spans read h (places_from (length level.pages) block first) level.separators (λ f. places_sum f (length level.pages) block first + total f))
        → Stands read block first (above (λ l. levels_from n fits block (first + block * length l.pages) true l.separators (places_from (length l.pages) block first)) level (ltb 1 (length level.pages)))
        → ((at : ℕ) (es : List Pair) (cs : List ℕ) (t : (ℕ → ℕ) → ℕ) → length es ≤ n → 0 < length es → Spans read h cs es t → Stands read block at (levels_from n fits block at true es cs)
        → IsSpanned read block at (length (levels_from n fits block at true es cs)) (λ f. places_sum f (length (levels_from n fits block at true es cs)) block at + t f))
        → IsSpanned read block first (length (above (λ l. levels_from n fits block (first + block * length l.pages) true l.separators (places_from (length l.pages) block first)) level (ltb 1 (length level.pages))))
        (λ f. places_sum f (length (above (λ l. levels_from n fits block (first + block * length l.pages) true l.separators (places_from (length l.pages) block first)) level (ltb 1 (length level.pages)))) block first + total f)
    step level fewer has st again =
        elim (cases_lt 1 (length level.pages)) [
          | inr one ↦
              let t : ltb 1 (length level.pages) ≡ false = le-ltb 1 (length level.pages) one in
              let st1 = rw t at st in
              rw t (only_one read h block first (length level.pages) level.separators (λ f. places_sum f (length level.pages) block first + total f) (has st1) one)
          | inl more ↦
              let t : ltb 1 (length level.pages) ≡ true = lt-ltb 1 (length level.pages) more in
              let upper : List Node = levels_from n fits block (first + block * length level.pages) true level.separators (places_from (length level.pages) block first) in
              let st1 : Stands read block first (level.pages ++ upper) = rw t at st in
              let k = has (stands_left read block first level.pages upper st1) in
              let seps : length level.pages ≡ suc (length level.separators) = sym (length-places_from (length level.pages) block first) ∙ k.count in
              let r = again (first + block * length level.pages) level.separators (places_from (length level.pages) block first) (λ f. places_sum f (length level.pages) block first + total f) (omega arith) (omega arith) k (stands_right read block first level.pages upper st1) in
              let at : first + block * length level.pages + block * r.before ≡ first + block * (length level.pages + r.before) = omega arith in
              let all : length (level.pages ++ upper) ≡ length level.pages + length upper = length-append level.pages upper in
              rw t (record {
                before = length level.pages + r.before;
                last = omega (arith, all, r.last);
                height = r.height;
                walk = (
                  r.walk.0,
                  rw (← at) r.walk.1,
                  λ f. r.walk.2 f ∙ omega (arith, places_more f (length level.pages) (length upper) block first, ap (λ k. places_sum f k block first) all),
                );
              })
        ]

-- the tree of laid pages

pub record IsLaidTree (read : ℕ → Option Node) (block first n : ℕ) (pairs : List Pair) : Type 0 where
  pub before : ℕ
  pub last : n ≡ suc before
  pub height : ℕ
  pub w : Walked
  pub walk : walk_of read height (first + block * before) ≡ Some w
  pub content : content w ≡ pairs
  pub pages : (f : ℕ → ℕ) → sum_by f w.pages ≡ places_sum f n block first

pub laid_tree : (read : ℕ → Option Node) (fits : Bool → List Pair → Bool) (block first : ℕ) (p : Pair) (ps : List Pair) → Stands read block first (laid fits block first (p ∷ ps))
    → IsLaidTree read block first (length (laid fits block first (p ∷ ps))) (p ∷ ps)
laid_tree read fits block first p ps st =
    let n : ℕ = length (laid fits block first (p ∷ ps)) in
    let r : IsRooted read block first n (p ∷ ps) = laid_walks read fits block first p ps st in
    let s : IsSpanned read block first n (λ f. places_sum f n block first + 0) = all_spanned (length (p ∷ ps)) read 0 block first fits false (p ∷ ps) [] (λ f. 0) (omega arith) (omega arith) (refl, λ f. refl) st in
    let same_place : first + block * s.before ≡ first + block * r.before = ap (λ k. first + block * k) (let e : s.before ≡ r.before = omega (arith, r.last, s.last) in e) in
    let there : walk_of read s.height (first + block * r.before) ≡ Some s.walk.0 = subst (λ at. walk_of read s.height at ≡ Some s.walk.0) same_place s.walk.1 in
    let same : s.walk.0 ≡ r.walk.0 = one_walk read s.height r.height (first + block * r.before) s.walk.0 r.walk.0 there r.walk.1 in
    record {
      before = r.before;
      last = r.last;
      height = r.height;
      w = r.walk.0;
      walk = r.walk.1;
      content = r.walk.2;
      pages = λ f. ap (λ (w : Walked). sum_by f w.pages) (sym same) ∙ s.walk.2 f ∙ omega arith;
    }
