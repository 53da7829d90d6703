-- Pages of a file that keeps what it holds, and of one in which a page is written before others.
use Rattle.std.proofs.Common.{◌≡◌, ℕ, zero, suc, ◌+◌, ◌-◌, ◌*◌, ◌%◌, ◌≤◌, Bool, cond, eqb, Option, Some, None, List, [], ◌∷◌, ◌++◌, length, take, drop, replicate, refl, sym, ap, ◌∙◌, append_assoc, length-append, length-take, length-drop, arith}
use Rattle.std.specs.Prelude.{nat_le}
use Rattle.std.proofs.lemmas.Bool.{le-leb}
use Rattle.std.proofs.lemmas.List.{take_all, drop_at, drop-append-le, take-append-le, take-append-drop, length-replicate}
use Rattle.std.proofs.lemmas.Slice.{drop-append-drop}
use Rattle.myi_base.specs.Holding.{overwritten, resized}
use Rattle.myi_keycache.specs.Lent.{bytes_at}
use Rattle.myi_btree.specs.Walk.{◌>>=◌, Agree}
use Rattle.myi_btree.specs.Nodes.{node_at, node_in}
use Rattle.myi_btree.specs.LaidPages.{places_from}

node_by : (rec_ref block p : ℕ) (x y : List ℕ) → bytes_at x p block ≡ bytes_at y p block → node_at rec_ref block x p ≡ node_at rec_ref block y p
unfolding node_at
node_by rec_ref block p x y same = ap (λ (o : Option (List ℕ)). cond (eqb (p % 1024) 0) (o >>= node_in rec_ref) None) same

-- ---- a file that holds before what another one holds

pub kept_long : (x y : List ℕ) → take (length x) y ≡ x → length x ≤ length y
kept_long x y kept = omega (arith, ap length kept, length-take (length x) y)

behind_kept : (block p : ℕ) (x z : List ℕ) → p + block ≤ length x → bytes_at x p block ≡ bytes_at (x ++ z) p block
unfolding bytes_at
behind_kept block p x z few =
    let one : drop p (x ++ z) ≡ drop p x ++ z = drop-append-le p x z (omega (arith, few)) in
    let long : length (drop p x) ≡ length x - p = length-drop p x in
    ap (λ (b : Bool). cond b (Some (take block (drop p x))) None) (le-leb block (length (drop p x)) (omega (arith, few, long)))
    ∙ ap (λ ys. Some ys) (sym (take-append-le block (drop p x) z (omega (arith, few, long))))
    ∙ sym (ap (λ (b : Bool). cond b (Some (take block (drop p x ++ z))) None) (le-leb block (length (drop p x ++ z)) (omega (arith, few, long, length-append (drop p x) z))))
    ∙ ap (λ (ys : List ℕ). cond (nat_le block (length ys)) (Some (take block ys)) None) (sym one)

kept_is : (x y : List ℕ) → take (length x) y ≡ x → x ++ drop (length x) y ≡ y
kept_is x y kept = ap (λ ys. ys ++ drop (length x) y) (sym kept) ∙ take-append-drop (length x) y

pub node_kept : (rec_ref block p : ℕ) (x y : List ℕ) → take (length x) y ≡ x → p + block ≤ length x → node_at rec_ref block x p ≡ node_at rec_ref block y p
node_kept rec_ref block p x y kept few = node_by rec_ref block p x y (behind_kept block p x (drop (length x) y) few ∙ ap (λ (ys : List ℕ). bytes_at ys p block) (kept_is x y kept))

pub places_kept : (rec_ref block n first : ℕ) (x y : List ℕ) → take (length x) y ≡ x → first + block * n ≤ length x → Agree (node_at rec_ref block x) (node_at rec_ref block y) (places_from n block first)
places_kept rec_ref block zero first x y kept few = tt
places_kept rec_ref block (suc n) first x y kept few =
    (node_kept rec_ref block first x y kept (let e : block * suc n ≡ block + block * n = omega arith in omega (arith, few, e)), places_kept rec_ref block n (first + block) x y kept (let e : block * suc n ≡ block + block * n = omega arith in omega (arith, few, e)))

pub kept_on : (x y z : List ℕ) → take (length x) y ≡ x → take (length y) z ≡ y → take (length x) z ≡ x
kept_on x y z one two =
    let few = kept_long x y one in
    sym (same_front (length x) (length y) z few) ∙ ap (take (length x)) two ∙ one
  where
    same_front : (a b : ℕ) (xs : List ℕ) → a ≤ b → take a (take b xs) ≡ take a xs
    same_front zero b xs low = refl
    same_front (suc a) zero xs low = absurd (omega (arith, low))
    same_front (suc a) (suc b) [] low = refl
    same_front (suc a) (suc b) (x ∷ xs) low = ap (λ ys. x ∷ ys) (same_front a b xs (omega (arith, low)))

-- ---- a page that is written into the file behind what it holds, before other pages or at its end

zeros_long : (at : ℕ) (xs : List ℕ) → length (resized at xs) ≡ at
zeros_long at xs = omega (arith, length-append (take at xs) (replicate (at - length xs) 0), length-take at xs, length-replicate {A = ℕ} (at - length xs) 0)

pub written_long : (start : ℕ) (page xs : List ℕ) → length (overwritten start page xs) ≡ start + length page + (length xs - (start + length page))
written_long start page xs =
    omega (arith, zeros_long start xs, length-append (resized start xs ++ page) (drop (start + length page) xs), length-append (resized start xs) page, length-drop (start + length page) xs)

-- what stood before the page stays
pub written_kept : (start : ℕ) (page x xs : List ℕ) → take (length x) xs ≡ x → length x ≤ start → take (length x) (overwritten start page xs) ≡ x
written_kept start page x xs kept few =
    let long = kept_long x xs kept in
    take-append-le (length x) (resized start xs ++ page) (drop (start + length page) xs) (omega (arith, zeros_long start xs, length-append (resized start xs) page, few))
    ∙ take-append-le (length x) (resized start xs) page (omega (arith, zeros_long start xs, few))
    ∙ take-append-le (length x) (take start xs) (replicate (start - length xs) 0) (omega (arith, length-take start xs, few, long))
    ∙ same_front (length x) start xs few ∙ kept
  where
    same_front : (a b : ℕ) (ys : List ℕ) → a ≤ b → take a (take b ys) ≡ take a ys
    same_front zero b ys low = refl
    same_front (suc a) zero ys low = absurd (omega (arith, low))
    same_front (suc a) (suc b) [] low = refl
    same_front (suc a) (suc b) (y ∷ ys) low = ap (λ zs. y ∷ zs) (same_front a b ys (omega (arith, low)))

-- the page is there, and behind it what stood there
pub written_from : (start : ℕ) (page xs : List ℕ) → drop start (overwritten start page xs) ≡ page ++ drop (start + length page) xs
written_from start page xs = ap (drop start) (append_assoc (resized start xs) page (drop (start + length page) xs)) ∙ drop_at (resized start xs) (page ++ drop (start + length page) xs) start (zeros_long start xs)

pub written_there : (start block : ℕ) (page xs : List ℕ) → length page ≡ block → bytes_at (overwritten start page xs) start block ≡ Some page
unfolding bytes_at
written_there start block page xs long =
    let there = written_from start page xs in
    ap (λ (ys : List ℕ). cond (nat_le block (length ys)) (Some (take block ys)) None) there
    ∙ ap (λ (b : Bool). cond b (Some (take block (page ++ drop (start + length page) xs))) None) (le-leb block (length (page ++ drop (start + length page) xs)) (omega (arith, length-append page (drop (start + length page) xs), long)))
    ∙ ap (λ ys. Some ys) (take-append-le block page (drop (start + length page) xs) (omega (arith, long)) ∙ take_all block page (omega (arith, long)))

-- what stands behind the page stays
behind_same : (start p : ℕ) (page xs : List ℕ) → start + length page ≤ p → drop p (overwritten start page xs) ≡ drop p xs
behind_same start p page xs low =
    drop-append-drop (start + length page) xs (resized start xs ++ page) p low (omega (arith, length-append (resized start xs) page, zeros_long start xs))

bytes_by : (block p : ℕ) (x y : List ℕ) → drop p y ≡ drop p x → bytes_at x p block ≡ bytes_at y p block
unfolding bytes_at
bytes_by block p x y same = ap (λ (ys : List ℕ). cond (nat_le block (length ys)) (Some (take block ys)) None) (sym same)

node_behind : (rec_ref block start p : ℕ) (page xs : List ℕ) → start + length page ≤ p → node_at rec_ref block xs p ≡ node_at rec_ref block (overwritten start page xs) p
node_behind rec_ref block start p page xs low = node_by rec_ref block p xs (overwritten start page xs) (bytes_by block p xs (overwritten start page xs) (behind_same start p page xs low))

pub places_behind : (rec_ref block n first start : ℕ) (page xs : List ℕ) → start + length page ≤ first → Agree (node_at rec_ref block xs) (node_at rec_ref block (overwritten start page xs)) (places_from n block first)
places_behind rec_ref block zero first start page xs low = tt
places_behind rec_ref block (suc n) first start page xs low = (node_behind rec_ref block start first page xs low, places_behind rec_ref block n (first + block) start page xs (omega (arith, low)))
