-- Nodes in a ring: one that is taken out, and one that is put in.
use Rattle.std.proofs.Common.{◌≡◌, ◌<◌, ℕ, zero, suc, List, [], ◌∷◌, ◌++◌, length, map, set, reverse, slice_get, Some, refl, sym, ap, subst, ◌∙◌, arith, append-nil, append_assoc}
use Rattle.std.proofs.lemmas.List.{reverse-append, reverse-reverse, length-map}
use Rattle.std.proofs.lemmas.Option.{same_Some, slice_get_within}
use Rattle.myi_keycache.specs.declared.lists.Link.{Link}
use Rattle.myi_keycache.specs.Ring.{Follows, IsAbsent, AreOnce, first_node, before_of, behind_of, hot_of, IsRing}

-- ---- an element that is set

pub get_set : {X : Type 0} (xs : List X) (i : ℕ) (v : X) → i < length xs → slice_get (set xs i v) i ≡ Some v
get_set [] i v lt = absurd (omega arith)
get_set (x ∷ xs) zero v lt = refl
get_set (x ∷ xs) (suc i) v lt = get_set xs i v (omega arith)

pub get_other : {X : Type 0} (xs : List X) (i j : ℕ) (v : X) → (j ≡ i → ⊥) → slice_get (set xs i v) j ≡ slice_get xs j
get_other [] i j v ne = refl
get_other (x ∷ xs) zero zero v ne = absurd (ne refl)
get_other (x ∷ xs) zero (suc j) v ne = refl
get_other (x ∷ xs) (suc i) zero v ne = refl
get_other (x ∷ xs) (suc i) (suc j) v ne = get_other xs i j v (λ e. ne (ap suc e))

pub get_mapped : {X Y : Type 0} (g : X → Y) (xs : List X) (i : ℕ) (x : X) → slice_get xs i ≡ Some x → slice_get (map g xs) i ≡ Some (g x)
get_mapped g [] i x at = absurd cc
get_mapped g (y ∷ xs) zero x at = ap (λ z. Some (g z)) (same_Some y x at)
get_mapped g (y ∷ xs) (suc i) x at = get_mapped g xs i x at

-- ---- numbers that stand once

pub absent_parts : (n : ℕ) (xs ys : List ℕ) → IsAbsent n (xs ++ ys) → IsAbsent n xs × IsAbsent n ys
absent_parts n [] ys all = (tt, all)
absent_parts n (x ∷ xs) ys all = let r = absent_parts n xs ys all.1 in ((all.0, r.0), r.1)

pub absent_both : (n : ℕ) (xs ys : List ℕ) → IsAbsent n xs → IsAbsent n ys → IsAbsent n (xs ++ ys)
absent_both n [] ys a b = b
absent_both n (x ∷ xs) ys a b = (a.0, absent_both n xs ys a.1 b)

pub once_parts : (xs ys : List ℕ) → AreOnce (xs ++ ys) → AreOnce xs × AreOnce ys
once_parts [] ys all = (tt, all)
once_parts (x ∷ xs) ys all = let r = once_parts xs ys all.1 in (((absent_parts x xs ys all.0).0, r.0), r.1)

pub once_out : (front : List ℕ) (x : ℕ) (back : List ℕ) → AreOnce (front ++ x ∷ back) → AreOnce (front ++ back) × IsAbsent x (front ++ back)
once_out [] x back all = (all.1, all.0)
once_out (y ∷ front) x back all =
    let r = once_out front x back all.1 in
    let a = absent_parts y front (x ∷ back) all.0 in
    ((absent_both y front back a.0 a.1.1, r.0), ((λ e. a.1.0 (sym e)), r.1))

pub once_in : (front : List ℕ) (x : ℕ) (back : List ℕ) → AreOnce (front ++ back) → IsAbsent x (front ++ back) → AreOnce (front ++ x ∷ back)
once_in [] x back all new = (new, all)
once_in (y ∷ front) x back all new =
    let a = absent_parts y front back all.0 in
    (absent_both y front (x ∷ back) a.0 ((λ e. new.0 (sym e)), a.1), once_in front x back all.1 new.1)

-- the last of these, or the one before them
pub last_node : ℕ → List ℕ → ℕ
last_node a [] = a
last_node a (x ∷ xs) = last_node x xs

not_last : (n a : ℕ) (xs : List ℕ) → (a ≡ n → ⊥) → IsAbsent n xs → last_node a xs ≡ n → ⊥
unfolding last_node
not_last n a [] ne all = ne
not_last n a (x ∷ xs) ne all = not_last n x xs all.0 all.1

last_absent : (a : ℕ) (xs ys : List ℕ) → AreOnce ((a ∷ xs) ++ ys) → IsAbsent (last_node a xs) ys
unfolding last_node
last_absent a [] ys all = all.0
last_absent a (x ∷ xs) ys all = last_absent x xs ys all.1

-- ---- the same nodes from the end

reverse-cons : (x : ℕ) (xs : List ℕ) → reverse (x ∷ xs) ≡ reverse xs ++ x ∷ []
reverse-cons x xs = reverse-append (x ∷ []) xs

rev_middle : (front : List ℕ) (x : ℕ) (back : List ℕ) → reverse (front ++ x ∷ back) ≡ reverse back ++ x ∷ reverse front
rev_middle front x back = reverse-append front (x ∷ back) ∙ ap (λ l. l ++ reverse front) (reverse-cons x back) ∙ append_assoc (reverse back) (x ∷ []) (reverse front)

last_end : (a : ℕ) (xs : List ℕ) (x : ℕ) → last_node a (xs ++ x ∷ []) ≡ x
unfolding last_node
last_end a [] x = refl
last_end a (y ∷ xs) x = last_end y xs x

last_rev : (xs : List ℕ) → last_node 0 (reverse xs) ≡ first_node xs
unfolding last_node
last_rev [] = refl
last_rev (x ∷ xs) = ap (last_node 0) (reverse-cons x xs) ∙ last_end 0 (reverse xs) x

first_rev : (xs : List ℕ) → first_node (reverse xs) ≡ last_node 0 xs
first_rev xs = sym (last_rev (reverse xs)) ∙ ap (last_node 0) (reverse-reverse xs)

absent_rev : (n : ℕ) (xs : List ℕ) → IsAbsent n xs → IsAbsent n (reverse xs)
absent_rev n [] all = tt
absent_rev n (x ∷ xs) all = subst (IsAbsent n) (sym (reverse-cons x xs)) (absent_both n (reverse xs) (x ∷ []) (absent_rev n xs all.1) (all.0, tt))

once_rev : (xs : List ℕ) → AreOnce xs → AreOnce (reverse xs)
once_rev [] all = tt
once_rev (x ∷ xs) all =
    let none : reverse xs ++ [] ≡ reverse xs = append-nil (reverse xs) in
    subst AreOnce (sym (reverse-cons x xs)) (once_in (reverse xs) x [] (subst AreOnce (sym none) (once_rev xs all.1)) (subst (IsAbsent x) (sym none) (absent_rev x xs all.0)))

-- ---- one direction of a ring

pub follows_split : (t : List ℕ) (a : ℕ) (front : List ℕ) (x : ℕ) (back : List ℕ) (z : ℕ) → Follows t a (front ++ x ∷ back) z → Follows t a front x × Follows t x back z
follows_split t a [] x back z h = h
follows_split t a (y ∷ front) x back z h = let r = follows_split t y front x back z h.1 in ((h.0, r.0), r.1)

pub follows_join : (t : List ℕ) (a : ℕ) (front : List ℕ) (x : ℕ) (back : List ℕ) (z : ℕ) → Follows t a front x → Follows t x back z → Follows t a (front ++ x ∷ back) z
follows_join t a [] x back z h k = (h, k)
follows_join t a (y ∷ front) x back z h k = (h.0, follows_join t y front x back z h.1 k)

follows_keep : (t : List ℕ) (a : ℕ) (xs : List ℕ) (z p v : ℕ) → (a ≡ p → ⊥) → IsAbsent p xs → Follows t a xs z → Follows (set t p v) a xs z
follows_keep t a [] z p v ne all h = get_other t p a v ne ∙ h
follows_keep t a (x ∷ xs) z p v ne all h = (get_other t p a v ne ∙ h.0, follows_keep t x xs z p v all.0 all.1 h.1)

-- the last of these leads to another node
follows_turn : (t : List ℕ) (a : ℕ) (xs : List ℕ) (x n : ℕ) → IsAbsent a xs → AreOnce xs → Follows t a xs x → Follows (set t (last_node a xs) n) a xs n
unfolding last_node
follows_turn t a [] x n all once h = get_set t a n (slice_get_within t a x h)
follows_turn t a (y ∷ xs) x n all once h =
    (get_other t (last_node y xs) a n (λ e. not_last a y xs all.0 all.1 (sym e)) ∙ h.0, follows_turn t y xs x n once.0 once.1 h.1)

pub follows_first : (t : List ℕ) (a : ℕ) (xs : List ℕ) → Follows t a xs 0 → slice_get t a ≡ Some (first_node xs)
follows_first t a [] h = h
follows_first t a (x ∷ xs) h = h.0

follows_last : (t : List ℕ) (a : ℕ) (front back : List ℕ) → Follows t a (front ++ back) 0 → slice_get t (last_node a front) ≡ Some (first_node back)
unfolding last_node
follows_last t a [] back h = follows_first t a back h
follows_last t a (x ∷ front) back h = follows_last t x front back h.1

goes_out : (t front : List ℕ) (x : ℕ) (back : List ℕ) → AreOnce (0 ∷ (front ++ x ∷ back)) → Follows t 0 (front ++ x ∷ back) 0 → Follows (set t (last_node 0 front) (first_node back)) 0 (front ++ back) 0
goes_out t front x [] once h =
    let f = once_parts (0 ∷ front) (x ∷ []) once in
    let s = follows_split t 0 front x [] 0 h in
    subst (λ l. Follows (set t (last_node 0 front) 0) 0 l 0) (sym (append-nil front)) (follows_turn t 0 front x 0 f.0.0 f.0.1 s.0)
goes_out t front x (y ∷ back) once h =
    let f = once_parts (0 ∷ front) (x ∷ y ∷ back) once in
    let s = follows_split t 0 front x (y ∷ back) 0 h in
    let a = last_absent 0 front (x ∷ y ∷ back) once in
    follows_join (set t (last_node 0 front) y) 0 front y back 0 (follows_turn t 0 front x y f.0.0 f.0.1 s.0) (follows_keep t y back 0 (last_node 0 front) y a.1.0 a.1.1 s.1.1)

comes_in : (t front : List ℕ) (x : ℕ) (back : List ℕ) → AreOnce (0 ∷ (front ++ back)) → IsAbsent x (0 ∷ (front ++ back)) → x < length t → Follows t 0 (front ++ back) 0
    → Follows (set (set t x (first_node back)) (last_node 0 front) x) 0 (front ++ x ∷ back) 0
comes_in t front x back once new lt h =
    let f = once_parts (0 ∷ front) back once in
    let apart = absent_parts x front back new.1 in
    let here : slice_get (set (set t x (first_node back)) (last_node 0 front) x) x ≡ Some (first_node back) =
    get_other (set t x (first_node back)) (last_node 0 front) x x (λ e. not_last x 0 front new.0 apart.0 (sym e)) ∙ get_set t x (first_node back) lt in
    by back f.0.0 f.0.1 (last_absent 0 front back once) here (follows_keep t 0 (front ++ back) 0 x (first_node back) new.0 new.1 h)
  where
    by : (back : List ℕ) → IsAbsent 0 front → AreOnce front → IsAbsent (last_node 0 front) back → slice_get (set (set t x (first_node back)) (last_node 0 front) x) x ≡ Some (first_node back) → Follows (set t x (first_node back)) 0 (front ++ back) 0
        → Follows (set (set t x (first_node back)) (last_node 0 front) x) 0 (front ++ x ∷ back) 0
    by [] none once1 all here k =
        let t1 : List ℕ = set t x 0 in
        follows_join (set t1 (last_node 0 front) x) 0 front x [] 0 (follows_turn t1 0 front 0 x none once1 (subst (λ l. Follows t1 0 l 0) (append-nil front) k)) here
    by (y ∷ back) none once1 all here k =
        let t1 : List ℕ = set t x y in
        let s = follows_split t1 0 front y back 0 k in
        follows_join (set t1 (last_node 0 front) x) 0 front x (y ∷ back) 0 (follows_turn t1 0 front y x none once1 s.0) (here, follows_keep t1 y back 0 (last_node 0 front) x all.0 all.1 s.1)

-- ---- both directions

-- what a node of a ring says
pub node_before : (links : List Link) (front : List ℕ) (x : ℕ) (back : List ℕ) → IsRing links (front ++ x ∷ back) → slice_get (before_of links) x ≡ Some (last_node 0 front)
node_before links front x back r =
    let s = follows_split (before_of links) 0 (reverse back) x (reverse front) 0 (subst (λ l. Follows (before_of links) 0 l 0) (rev_middle front x back) r.before) in
    follows_first (before_of links) x (reverse front) s.1 ∙ ap (λ (n : ℕ). Some n) (first_rev front)

pub node_behind : (links : List Link) (front : List ℕ) (x : ℕ) (back : List ℕ) → IsRing links (front ++ x ∷ back) → slice_get (behind_of links) x ≡ Some (first_node back)
node_behind links front x back r = follows_first (behind_of links) x back (follows_split (behind_of links) 0 front x back 0 r.behind).1

-- the node before another one, which may be node 0
pub before_first : (links : List Link) (front back : List ℕ) → IsRing links (front ++ back) → slice_get (before_of links) (first_node back) ≡ Some (last_node 0 front)
before_first links front back r =
    let h = subst (λ l. Follows (before_of links) 0 l 0) (reverse-append front back) r.before in
    subst (λ n. slice_get (before_of links) n ≡ Some (last_node 0 front)) (last_rev back) (follows_last (before_of links) 0 (reverse back) (reverse front) h ∙ ap (λ (n : ℕ). Some n) (first_rev front))

pub behind_last : (links : List Link) (front back : List ℕ) → IsRing links (front ++ back) → slice_get (behind_of links) (last_node 0 front) ≡ Some (first_node back)
behind_last links front back r = follows_last (behind_of links) 0 front back r.behind

once_back : (xs : List ℕ) → AreOnce (0 ∷ xs) → AreOnce (0 ∷ reverse xs)
once_back xs all = (absent_rev 0 xs all.0, once_rev xs all.1)

pub ring_out : (old new : List Link) (front : List ℕ) (x : ℕ) (back : List ℕ) → behind_of new ≡ set (behind_of old) (last_node 0 front) (first_node back) → before_of new ≡ set (before_of old) (first_node back) (last_node 0 front)
    → IsRing old (front ++ x ∷ back) → IsRing new (front ++ back)
ring_out old new front x back behind_is before_is r = record {
  behind = subst (λ t. Follows t 0 (front ++ back) 0) (sym behind_is) (goes_out (behind_of old) front x back r.once r.behind);
  before =
      let h = subst (λ l. Follows (before_of old) 0 l 0) (rev_middle front x back) r.before in
      let once = subst (λ l. AreOnce (0 ∷ l)) (rev_middle front x back) (once_back (front ++ x ∷ back) r.once) in
      let k = goes_out (before_of old) (reverse back) x (reverse front) once h in
      let is : set (before_of old) (last_node 0 (reverse back)) (first_node (reverse front)) ≡ before_of new = (λ i. set (before_of old) (last_rev back i) (first_rev front i)) ∙ sym before_is in
      subst (λ t. Follows t 0 (reverse (front ++ back)) 0) is (subst (λ l. Follows (set (before_of old) (last_node 0 (reverse back)) (first_node (reverse front))) 0 l 0) (sym (reverse-append front back)) k);
  once = (once_out (0 ∷ front) x back r.once).0;
}

pub ring_in : (old new : List Link) (front : List ℕ) (x : ℕ) (back : List ℕ) → x < length (behind_of old) → x < length (before_of old)
    → behind_of new ≡ set (set (behind_of old) x (first_node back)) (last_node 0 front) x → before_of new ≡ set (set (before_of old) x (last_node 0 front)) (first_node back) x
    → IsAbsent x (0 ∷ (front ++ back)) → IsRing old (front ++ back) → IsRing new (front ++ x ∷ back)
ring_in old new front x back lt lt1 behind_is before_is absent r = record {
  behind = subst (λ t. Follows t 0 (front ++ x ∷ back) 0) (sym behind_is) (comes_in (behind_of old) front x back r.once absent lt r.behind);
  before =
      let h = subst (λ l. Follows (before_of old) 0 l 0) (reverse-append front back) r.before in
      let once = subst (λ l. AreOnce (0 ∷ l)) (reverse-append front back) (once_back (front ++ back) r.once) in
      let none = subst (λ l. IsAbsent x (0 ∷ l)) (reverse-append front back) (absent.0, absent_rev x (front ++ back) absent.1) in
      let k = comes_in (before_of old) (reverse back) x (reverse front) once none lt1 h in
      let is : set (set (before_of old) x (first_node (reverse front))) (last_node 0 (reverse back)) x ≡ before_of new = (λ i. set (set (before_of old) x (first_rev front i)) (last_rev back i) x) ∙ sym before_is in
      subst (λ t. Follows t 0 (reverse (front ++ x ∷ back)) 0) is (subst (λ l. Follows (set (set (before_of old) x (first_node (reverse front))) (last_node 0 (reverse back)) x) 0 l 0) (sym (rev_middle front x back)) k);
  once = once_in (0 ∷ front) x back r.once ((λ e. absent.0 e), absent.1);
}

-- ---- nodes and their links

pub link_there : (links : List Link) (front : List ℕ) (x : ℕ) (back : List ℕ) → IsRing links (front ++ x ∷ back) → x < length links
link_there links front x back r =
    let lt = slice_get_within (behind_of links) x (first_node back) (node_behind links front x back r) in
    omega (arith, lt, length-map links (λ (l : Link). l.behind))

pub last_there : (links : List Link) (front back : List ℕ) → IsRing links (front ++ back) → last_node 0 front < length links
last_there links front back r =
    let lt = slice_get_within (behind_of links) (last_node 0 front) (first_node back) (behind_last links front back r) in
    omega (arith, lt, length-map links (λ (l : Link). l.behind))

pub first_there : (links : List Link) (front back : List ℕ) → IsRing links (front ++ back) → first_node back < length links
first_there links front back r =
    let lt = slice_get_within (before_of links) (first_node back) (last_node 0 front) (before_first links front back r) in
    omega (arith, lt, length-map links (λ (l : Link). l.before))

-- the same where a node stands between
pub first_behind : (links : List Link) (front : List ℕ) (x : ℕ) (back : List ℕ) → IsRing links (front ++ x ∷ back) → first_node back < length links
first_behind links front x back r = first_there links (front ++ x ∷ []) back (subst (IsRing links) (sym (append_assoc front (x ∷ []) back)) r)

pub link_is : (links : List Link) (front : List ℕ) (x : ℕ) (back : List ℕ) (l : Link) → slice_get links x ≡ Some l → IsRing links (front ++ x ∷ back) → (l.before ≡ last_node 0 front) × (l.behind ≡ first_node back)
link_is links front x back l at r = (
  same_Some l.before (last_node 0 front) (sym (get_mapped (λ (l : Link). l.before) links x l at) ∙ node_before links front x back r),
  same_Some l.behind (first_node back) (sym (get_mapped (λ (l : Link). l.behind) links x l at) ∙ node_behind links front x back r),
)

pub before_is : (links : List Link) (front back : List ℕ) (n : ℕ) (l : Link) → first_node back ≡ n → slice_get links n ≡ Some l → IsRing links (front ++ back) → l.before ≡ last_node 0 front
before_is links front back n l is at r =
    same_Some l.before (last_node 0 front) (sym (get_mapped (λ (l : Link). l.before) links n l at) ∙ ap (slice_get (before_of links)) (sym is) ∙ before_first links front back r)

pub same_links : (links new : List Link) → hot_of new ≡ hot_of links → length new ≡ length links
same_links links new same = sym (length-map new (λ (l : Link). l.hot)) ∙ ap length same ∙ length-map links (λ (l : Link). l.hot)

pub ring_same : (links new : List Link) (nodes : List ℕ) → before_of new ≡ before_of links → behind_of new ≡ behind_of links → IsRing links nodes → IsRing new nodes
ring_same links new nodes before_same behind_same r = record {
  behind = subst (λ t. Follows t 0 nodes 0) (sym behind_same) r.behind;
  before = subst (λ t. Follows t 0 (reverse nodes) 0) (sym before_same) r.before;
  once = r.once;
}
