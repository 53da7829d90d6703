-- The walk of laid pages is the list of pairs.
use Rattle.std.proofs.Common.{◌≡◌, ℕ, zero, suc, ◌+◌, ◌-◌, ◌*◌, ◌<◌, ◌≤◌, Bool, true, false, not, ◌&&◌, eqb, cond, ltb, Option, Some, List, [], ◌∷◌, ◌++◌, length, map, take, drop, refl, sym, ap, subst, ◌∙◌, append_assoc, arith, inl, inr}
use Rattle.std.proofs.lemmas.Option.{same_Some}
use Rattle.std.proofs.lemmas.Bool.{cases_lt, le-ltb, lt-ltb}
use Rattle.std.proofs.lemmas.List.{map-append, append-nil, length-append, length-take, length-drop, take-append-drop}
use Rattle.myi_btree.specs.Walk.{◌>>=◌, Node, node_with, Walked, between_pairs, each, at_node, walk_of, content}
use Rattle.myi_btree.specs.LaidPages.{greatest, count_of, Level, after_page, level_of, places_from, above, levels_from, laid, Stands, IsRooted}
use Rattle.myi_keylist.specs.declared.pair.Pair.{Pair}
use Rattle.myi_btree.proofs.Frames.{bind_some}

abbrev pub contents : List Walked → List (List Pair)
contents ws = map content ws

-- child, pair, child, .. , child
abbrev pub weave : List (List Pair) → List Pair → List Pair
weave [] ps = []
weave (c ∷ cs) [] = c ++ weave cs []
weave (c ∷ cs) (p ∷ ps) = c ++ p ∷ weave cs ps

pub weave-between : (place : ℕ) (cs : List (List (Pair × ℕ))) (ps : List Pair) → map (λ (x : Pair × ℕ). x.0) (between_pairs place cs ps) ≡ weave (map (map (λ (x : Pair × ℕ). x.0)) cs) ps
weave-between place [] ps = refl
weave-between place (c ∷ cs) [] = map-append (λ (x : Pair × ℕ). x.0) c _ ∙ ap (λ (t : List Pair). map (λ (x : Pair × ℕ). x.0) c ++ t) (weave-between place cs [])
weave-between place (c ∷ cs) (p ∷ ps) = map-append (λ (x : Pair × ℕ). x.0) c _ ∙ ap (λ (t : List Pair). map (λ (x : Pair × ℕ). x.0) c ++ p ∷ t) (weave-between place cs ps)

pub maps : (ws : List Walked) → map (map (λ (x : Pair × ℕ). x.0)) (map (λ (w : Walked). w.pairs) ws) ≡ contents ws
maps [] = refl
maps (w ∷ ws) = ap (λ (t : List (List Pair)). content w ∷ t) (maps ws)

-- the children before and after a separator
weave_split : (cs : List (List Pair)) (a : List Pair) (s : Pair) (r : List Pair) → suc (length a) ≤ length cs → weave cs (a ++ s ∷ r) ≡ weave (take (suc (length a)) cs) a ++ s ∷ weave (drop (suc (length a)) cs) r
weave_split [] a s r le = absurd (omega arith)
weave_split (c ∷ cs) [] s r le = rw append-nil refl
weave_split (c ∷ cs) (p ∷ a) s r le = ap (λ (t : List Pair). c ++ p ∷ t) (weave_split cs a s r (omega arith)) ∙ sym (append_assoc c (p ∷ weave (take (suc (length a)) cs) a) (s ∷ weave (drop (suc (length a)) cs) r))

-- these places have trees of this height with this content between the entries
pub record Has (read : ℕ → Option Node) (h : ℕ) (places : List ℕ) (entries xs : List Pair) : Type 0 where
  pub walks : (ws : List Walked) × (each (walk_of read h) places ≡ Some ws) × (weave (contents ws) entries ≡ xs)
  pub count : length places ≡ suc (length entries)

pub cons_each : {A B : Type 0} (f : A → Option B) (x : A) (xs : List A) (y : B) (ys : List B) → f x ≡ Some y → each f xs ≡ Some ys → each f (x ∷ xs) ≡ Some (y ∷ ys)
cons_each f x xs y ys e h = rw (e, h) refl

each_take : {A B : Type 0} (f : A → Option B) (n : ℕ) (xs : List A) (ys : List B) → each f xs ≡ Some ys → (each f (take n xs) ≡ Some (take n ys)) × (each f (drop n xs) ≡ Some (drop n ys)) × (length ys ≡ length xs)
each_take f zero xs ys e = (refl, e, each_len f xs ys e)
  where
    each_len : {A B : Type 0} (f : A → Option B) (xs : List A) (ys : List B) → each f xs ≡ Some ys → length ys ≡ length xs
    each_len f [] ys e = ap length (sym (same_Some _ _ e))
    each_len f (x ∷ xs) ys e =
        let a = bind_some (f x) (λ y. each f xs >>= λ ys. Some (y ∷ ys)) ys e in
        let b = bind_some (each f xs) (λ ys. Some (a.0 ∷ ys)) ys a.2 in
        ap length (sym (same_Some _ _ b.2)) ∙ ap suc (each_len f xs b.0 b.1)
each_take f (suc n) [] ys e = subst (λ (t : List _). (Some [] ≡ Some (take (suc n) t)) × (Some [] ≡ Some (drop (suc n) t)) × (length t ≡ 0)) (same_Some _ _ e) (refl, refl, refl)
each_take f (suc n) (x ∷ xs) ys e =
    let a = bind_some (f x) (λ y. each f xs >>= λ ys. Some (y ∷ ys)) ys e in
    let b = bind_some (each f xs) (λ ys. Some (a.0 ∷ ys)) ys a.2 in
    let again = each_take f n xs b.0 b.1 in
    subst (λ t. (each f (take (suc n) (x ∷ xs)) ≡ Some (take (suc n) t)) × (each f (drop (suc n) (x ∷ xs)) ≡ Some (drop (suc n) t)) × (length t ≡ suc (length xs))) (same_Some _ _ b.2)
    (cons_each f x (take n xs) a.0 (take n b.0) a.1 again.0, again.1, ap suc again.2)

contents-take : (n : ℕ) (ws : List Walked) → contents (take n ws) ≡ take n (contents ws)
contents-take zero ws = refl
contents-take (suc n) [] = refl
contents-take (suc n) (w ∷ ws) = ap (λ (t : List (List Pair)). content w ∷ t) (contents-take n ws)

contents-drop : (n : ℕ) (ws : List Walked) → contents (drop n ws) ≡ drop n (contents ws)
contents-drop zero ws = refl
contents-drop (suc n) [] = refl
contents-drop (suc n) (w ∷ ws) = contents-drop n ws

length-contents : (ws : List Walked) → length (contents ws) ≡ length ws
length-contents [] = refl
length-contents (w ∷ ws) = ap suc (length-contents ws)

-- What a page's entries and children stand for: in a leaf the entries, in a node what its subtrees have between them.
abbrev pub Means : (ℕ → Option Node) → ℕ → List Pair → List ℕ → List Pair → Type 0
Means read zero entries children xs = (children ≡ []) × (xs ≡ entries)
Means read (suc h) entries children xs = Has read h children entries xs

pub plain : (place : ℕ) (entries : List Pair) → map (λ (x : Pair × ℕ). x.0) (map (λ (p : Pair). (p, place)) entries) ≡ entries
plain place [] = refl
plain place (p ∷ ps) = ap (λ (t : List Pair). p ∷ t) (plain place ps)

-- a page at its place is a tree with that content
page_walks : (read : ℕ → Option Node) (h place : ℕ) (entries : List Pair) (children : List ℕ) (xs : List Pair) → Means read h entries children xs → read place ≡ Some (node_with entries children)
    → (w : Walked) × (walk_of read h place ≡ Some w) × (content w ≡ xs)
page_walks read zero place entries children xs m at =
    (record { pairs = map (λ p. (p, place)) entries; pages = place ∷ [] }, rw (at, m.0) refl, plain place entries ∙ sym m.1)
page_walks read (suc h) place entries children xs m at =
    let ws = m.walks.0 in
    let some : ltb 0 (length children) ≡ true = lt-ltb 0 (length children) (omega (arith, m.count)) in
    (at_node place (node_with entries children) ws, rw (at, m.walks.1, some) refl, weave-between place (map (λ (w : Walked). w.pairs) ws) entries ∙ ap (λ (t : List (List Pair)). weave t entries) (maps ws) ∙ m.walks.2)

-- a separator parts what a page stands for
means_split : (read : ℕ → Option Node) (h : ℕ) (a : List Pair) (s : Pair) (r : List Pair) (children : List ℕ) (xs : List Pair) → Means read h (a ++ s ∷ r) children xs
    → (x1 : List Pair) × (x2 : List Pair) × (Means read h a (take (suc (length a)) children) x1) × (Means read h r (drop (suc (length a)) children) x2) × (xs ≡ x1 ++ s ∷ x2)
means_split read zero a s r children xs m = (a, r, (rw m.0 refl, refl), (rw m.0 refl, refl), m.1)
means_split read (suc h) a s r children xs m =
    let n : ℕ = suc (length a) in
    let ws = m.walks.0 in
    let k = each_take (walk_of read h) n children ws m.walks.1 in
    let len = length-append a (s ∷ r) in (
      weave (contents (take n ws)) a,
      weave (contents (drop n ws)) r,
      record { walks = (take n ws, k.0, refl); count = omega (arith, m.count, length-take n children) },
      record { walks = (drop n ws, k.1, refl); count = omega (arith, m.count, length-drop n children) },
      sym m.walks.2 ∙ weave_split (contents ws) a s r (omega (arith, m.count, k.2, length-contents ws)) ∙ ap (λ (t : List (List Pair)). weave t a ++ s ∷ weave (drop n (contents ws)) r) (sym (contents-take n ws))
          ∙ ap (λ (t : List (List Pair)). weave (contents (take n ws)) a ++ s ∷ weave t r) (sym (contents-drop n ws)),
    )

-- ---- a level

one_page : (read : ℕ → Option Node) (h block first : ℕ) (entries : List Pair) (children : List ℕ) (xs : List Pair) → Means read h entries children xs → Stands read block first (node_with entries children ∷ [])
    → Has read h (first ∷ []) [] xs
one_page read h block first entries children xs m st =
    let w = page_walks read h first entries children xs m st.0 in
    record { walks = (w.0 ∷ [], cons_each (walk_of read h) first [] w.0 [] w.1 refl, append-nil (content w.0) ∙ w.2); count = refl }

has_cons : (read : ℕ → Option Node) (h place : ℕ) (w : Walked) (s : Pair) (places : List ℕ) (entries xs : List Pair) → walk_of read h place ≡ Some w → Has read h places entries xs → Has read h (place ∷ places) (s ∷ entries) (content w ++ s ∷ xs)
has_cons read h place w s places entries xs e m =
    record { walks = (w ∷ m.walks.0, cons_each (walk_of read h) place places w m.walks.0 e m.walks.1, ap (λ (t : List Pair). content w ++ s ∷ t) m.walks.2); count = ap suc m.count }

pub level_has : (n : ℕ) (read : ℕ → Option Node) (h block first : ℕ) (fits : List Pair → Bool) (entries : List Pair) (children : List ℕ) (xs : List Pair) → Means read h entries children xs
    → Stands read block first (level_of n fits entries children).pages → Has read h (places_from (length (level_of n fits entries children).pages) block first) (level_of n fits entries children).separators xs
level_has zero read h block first fits entries children xs m st = one_page read h block first entries children xs m st
level_has (suc n) read h block first fits entries children xs m st =
    step (count_of fits entries) (drop (count_of fits entries) entries) (take-append-drop (count_of fits entries) entries) (omega (arith, length-take (count_of fits entries) entries, length-drop (count_of fits entries) entries)) st (λ at es cs ys. level_has n read h block at fits es cs ys)
  where
    step : (count : ℕ) (left : List Pair) → take count entries ++ left ≡ entries → (0 < length left → length (take count entries) ≡ count)
        → Stands read block first (after_page (level_of n fits) count entries children left).pages
        → ((at : ℕ) (es : List Pair) (cs : List ℕ) (ys : List Pair) → Means read h es cs ys → Stands read block at (level_of n fits es cs).pages → Has read h (places_from (length (level_of n fits es cs).pages) block at) (level_of n fits es cs).separators ys)
        → Has read h (places_from (length (after_page (level_of n fits) count entries children left).pages) block first) (after_page (level_of n fits) count entries children left).separators xs
    step count [] whole long st again = one_page read h block first entries children xs m st
    step count (s ∷ r) whole long st again =
        let a : List Pair = take count entries in
        let len : length a ≡ count = long (omega arith) in
        let p = means_split read h a s r children xs (subst (λ (es : List Pair). Means read h es children xs) (sym whole) m) in
        let front : Means read h a (take (suc count) children) p.0 = subst (λ (k : ℕ). Means read h a (take (suc k) children) p.0) len p.2 in
        let back : Means read h r (drop (suc count) children) p.1 = subst (λ (k : ℕ). Means read h r (drop (suc k) children) p.1) len p.3 in
        let w = page_walks read h first a (take (suc count) children) p.0 front st.0 in
        let others = again (first + block) r (drop (suc count) children) p.1 back st.1 in
        subst (λ (t : List Pair). Has read h (first ∷ places_from (length (level_of n fits r (drop (suc count) children)).pages) block (first + block)) (s ∷ (level_of n fits r (drop (suc count) children)).separators) t)
        (ap (λ (t : List Pair). t ++ s ∷ p.1) w.2 ∙ sym p.4) (has_cons read h first w.0 s _ _ p.1 w.1 others)

-- ---- all levels

level_le : (n : ℕ) (fits : List Pair → Bool) (entries : List Pair) (children : List ℕ) → length (level_of n fits entries children).separators ≤ length entries
level_le zero fits entries children = omega arith
level_le (suc n) fits entries children = step (count_of fits entries) (drop (count_of fits entries) entries) (omega (arith, length-drop (count_of fits entries) entries)) (λ es cs. level_le n fits es cs)
  where
    step : (count : ℕ) (left : List Pair) → length left ≤ length entries → ((es : List Pair) (cs : List ℕ) → length (level_of n fits es cs).separators ≤ length es)
        → length (after_page (level_of n fits) count entries children left).separators ≤ length entries
    step count [] le again = omega arith
    step count (s ∷ r) le again = omega (arith, again r (drop (suc count) children))

pub level_lt : (n : ℕ) (fits : List Pair → Bool) (entries : List Pair) (children : List ℕ) → 0 < count_of fits entries → 0 < length entries → length (level_of n fits entries children).separators < length entries
level_lt zero fits entries children pos some = some
level_lt (suc n) fits entries children pos some = step (count_of fits entries) (drop (count_of fits entries) entries) (omega (arith, length-drop (count_of fits entries) entries))
  where
    step : (count : ℕ) (left : List Pair) → length left < length entries → length (after_page (level_of n fits) count entries children left).separators < length entries
    step count [] lt = some
    step count (s ∷ r) lt = omega (arith, level_le n fits r (drop (suc count) children))

greatest_pos : (passes : ℕ → Bool) (n : ℕ) → 0 < greatest passes n
greatest_pos passes zero = omega arith
greatest_pos passes (suc n) = by (passes (suc n)) (greatest_pos passes n)
  where
    by : (b : Bool) → 0 < greatest passes n → 0 < cond b (suc n) (greatest passes n)
    by true again = omega arith
    by false again = again

pub count_pos : (fits : List Pair → Bool) (entries : List Pair) → 0 < count_of fits entries
count_pos fits entries = greatest_pos (λ c. fits (take c entries) && not (eqb (length entries - c) 1)) (length entries)

stands_left : (read : ℕ → Option Node) (block first : ℕ) (xs ys : List Node) → Stands read block first (xs ++ ys) → Stands read block first xs
stands_left read block first [] ys h = tt
stands_left read block first (x ∷ xs) ys h = (h.0, stands_left read block (first + block) xs ys h.1)

stands_right : (read : ℕ → Option Node) (block first : ℕ) (xs ys : List Node) → Stands read block first (xs ++ ys) → Stands read block (first + block * length xs) ys
stands_right read block first [] ys h = let e : first ≡ first + block * 0 = omega arith in subst (λ (at : ℕ). Stands read block at ys) e h
stands_right read block first (x ∷ xs) ys h =
    let e : first + block + block * length xs ≡ first + block * suc (length xs) = omega arith in
    subst (λ (at : ℕ). Stands read block at ys) e (stands_right read block (first + block) xs ys h.1)

pub length-places_from : (n block first : ℕ) → length (places_from n block first) ≡ n
length-places_from zero block first = refl
length-places_from (suc n) block first = ap suc (length-places_from n block (first + block))

only_one : (read : ℕ → Option Node) (h block first n : ℕ) (separators xs : List Pair) → Has read h (places_from n block first) separators xs → n ≤ 1 → IsRooted read block first n xs
only_one read h block first zero separators xs m le = absurd (omega (arith, m.count))
only_one read h block first (suc (suc n)) separators xs m le = absurd (omega arith)
only_one read h block first (suc zero) [] xs m le =
    let a = bind_some (walk_of read h first) (λ y. Some (y ∷ [])) m.walks.0 m.walks.1 in
    let at : first ≡ first + block * 0 = omega arith in
    record { before = 0; last = refl; height = h; walk = (a.0, rw (← at) a.1, sym (append-nil (content a.0)) ∙ ap (λ (t : List Walked). weave (contents t) []) (same_Some (a.0 ∷ []) m.walks.0 a.2) ∙ m.walks.2) }
only_one read h block first (suc zero) (s ∷ ss) xs m le = absurd (omega (arith, m.count))

pub all_levels : (n : ℕ) (read : ℕ → Option Node) (h block first : ℕ) (fits : Bool → List Pair → Bool) (node : Bool) (entries : List Pair) (children : List ℕ) (xs : List Pair)
    → length entries ≤ n → 0 < length entries → Means read h entries children xs → Stands read block first (levels_from n fits block first node entries children)
    → IsRooted read block first (length (levels_from n fits block first node entries children)) xs
all_levels zero read h block first fits node entries children xs le some m st = absurd (omega arith)
all_levels (suc n) read h block first fits node entries children xs le some m st =
    step (level_of (length entries) (fits node) entries children)
    (level_lt (length entries) (fits node) entries children (count_pos (fits node) entries) some)
    (λ s. level_has (length entries) read h block first (fits node) entries children xs m s)
    st
    (λ at es cs l p k s. all_levels n read (suc h) block at fits true es cs xs l p k s)
  where
    step : (level : Level) → length level.separators < length entries → (Stands read block first level.pages → Has read h (places_from (length level.pages) block first) level.separators xs)
        → Stands read block first (above (λ l. levels_from n fits block (first + block * length l.pages) true l.separators (places_from (length l.pages) block first)) level (ltb 1 (length level.pages)))
        → ((at : ℕ) (es : List Pair) (cs : List ℕ) → length es ≤ n → 0 < length es → Has read h cs es xs → Stands read block at (levels_from n fits block at true es cs) → IsRooted read block at (length (levels_from n fits block at true es cs)) xs)
        → IsRooted read block first (length (above (λ l. levels_from n fits block (first + block * length l.pages) true l.separators (places_from (length l.pages) block first)) level (ltb 1 (length level.pages)))) xs
    step level fewer has st again =
        elim (cases_lt 1 (length level.pages)) [
          | inr one ↦
              let t : ltb 1 (length level.pages) ≡ false = le-ltb 1 (length level.pages) one in
              let st1 = rw t at st in
              rw t (only_one read h block first (length level.pages) level.separators xs (has st1) one)
          | inl more ↦
              let t : ltb 1 (length level.pages) ≡ true = lt-ltb 1 (length level.pages) more in
              let upper : List Node = levels_from n fits block (first + block * length level.pages) true level.separators (places_from (length level.pages) block first) in
              let st1 : Stands read block first (level.pages ++ upper) = rw t at st in
              let k = has (stands_left read block first level.pages upper st1) in
              let seps : length level.pages ≡ suc (length level.separators) = sym (length-places_from (length level.pages) block first) ∙ k.count in
              let r = again (first + block * length level.pages) level.separators (places_from (length level.pages) block first) (omega arith) (omega arith) k (stands_right read block first level.pages upper st1) in
              let at : first + block * length level.pages + block * r.before ≡ first + block * (length level.pages + r.before) = omega arith in
              rw t (record {
                before = length level.pages + r.before;
                last = omega (arith, length-append level.pages upper, r.last);
                height = r.height;
                walk = (r.walk.0, rw (← at) r.walk.1, r.walk.2);
              })
        ]

pub laid_walks : (read : ℕ → Option Node) (fits : Bool → List Pair → Bool) (block first : ℕ) (p : Pair) (ps : List Pair) → Stands read block first (laid fits block first (p ∷ ps))
    → IsRooted read block first (length (laid fits block first (p ∷ ps))) (p ∷ ps)
laid_walks read fits block first p ps st = all_levels (length (p ∷ ps)) read 0 block first fits false (p ∷ ps) [] (p ∷ ps) (omega arith) (omega arith) (refl, refl) st
