-- Trees side by side.
use Rattle.std.proofs.Common.{◌≡◌, ℕ, suc, Option, Some, List, [], ◌∷◌, ◌++◌, length, refl, sym, ap, ◌∙◌, append_assoc, arith}
use Rattle.std.proofs.lemmas.Option.{same_Some}
use Rattle.std.proofs.lemmas.List.{map-append, append-nil, length-append}
use Rattle.myi_btree.specs.Walk.{◌>>=◌, Places, Walked, each, walk_of, content}
use Rattle.myi_btree.proofs.CallerLemmas.{bind_some}
use Rattle.myi_keylist.specs.declared.pair.Pair.{Pair}
use Rattle.myi_insertion.specs.Strips.{contents, all_pages, weave, lefts, rights, IsStrip, IsLeft, IsRight}

pub cons_each : {A B : Type 0} (f : A → Option B) (x : A) (xs : List A) (y : B) (ys : List B) → f x ≡ Some y → each f xs ≡ Some ys → each f (x ∷ xs) ≡ Some (y ∷ ys)
cons_each f x xs y ys e h = rw (e, h) refl

pub each_append : {A B : Type 0} (f : A → Option B) (xs ys : List A) (us bs : List B) → each f xs ≡ Some us → each f ys ≡ Some bs → each f (xs ++ ys) ≡ Some (us ++ bs)
each_append f [] ys us bs e h = h ∙ ap (λ (t : List _). Some (t ++ bs)) (same_Some [] us e)
each_append f (x ∷ xs) ys us bs e h =
    let a = bind_some (f x) (λ y. each f xs >>= λ ys. Some (y ∷ ys)) us e in
    let b = bind_some (each f xs) (λ ys. Some (a.0 ∷ ys)) us a.2 in
    cons_each f x (xs ++ ys) a.0 (b.0 ++ bs) a.1 (each_append f xs ys b.0 bs b.1 h) ∙ ap (λ (t : List _). Some (t ++ bs)) (same_Some (a.0 ∷ b.0) us b.2)

pub each_parts : {A B : Type 0} (f : A → Option B) (xs ys : List A) (zs : List B) → each f (xs ++ ys) ≡ Some zs → (us : List B) × (bs : List B) × (each f xs ≡ Some us) × (each f ys ≡ Some bs) × (zs ≡ us ++ bs)
each_parts f [] ys zs e = ([], zs, refl, e, refl)
each_parts f (x ∷ xs) ys zs e =
    let a = bind_some (f x) (λ y. each f (xs ++ ys) >>= λ ys. Some (y ∷ ys)) zs e in
    let b = bind_some (each f (xs ++ ys)) (λ ys. Some (a.0 ∷ ys)) zs a.2 in
    let again = each_parts f xs ys b.0 b.1 in
    (a.0 ∷ again.0, again.1, cons_each f x xs a.0 again.0 a.1 again.2, again.3, sym (same_Some (a.0 ∷ b.0) zs b.2) ∙ ap (λ (t : List _). a.0 ∷ t) again.4)

pub each_length : {A B : Type 0} (f : A → Option B) (xs : List A) (ys : List B) → each f xs ≡ Some ys → length ys ≡ length xs
each_length f [] ys e = ap length (sym (same_Some [] ys e))
each_length f (x ∷ xs) ys e =
    let a = bind_some (f x) (λ y. each f xs >>= λ ys. Some (y ∷ ys)) ys e in
    let b = bind_some (each f xs) (λ ys. Some (a.0 ∷ ys)) ys a.2 in
    ap length (sym (same_Some (a.0 ∷ b.0) ys b.2)) ∙ ap suc (each_length f xs b.0 b.1)

pub length-contents : (ws : List Walked) → length (contents ws) ≡ length ws
length-contents [] = refl
length-contents (w ∷ ws) = ap suc (length-contents ws)

pub all_pages-append : (us bs : List Walked) → all_pages (us ++ bs) ≡ all_pages us ++ all_pages bs
all_pages-append [] bs = refl
all_pages-append (a ∷ us) bs = ap (λ (t : List ℕ). a.pages ++ t) (all_pages-append us bs) ∙ sym (append_assoc a.pages (all_pages us) (all_pages bs))

weave_rights : (c : List Pair) (cs : List (List Pair)) (ps : List Pair) → length cs ≡ length ps → weave (c ∷ cs) ps ≡ c ++ rights ps cs
weave_rights c [] [] e = refl
weave_rights c (d ∷ cs) [] e = absurd (omega arith)
weave_rights c [] (p ∷ ps) e = absurd (omega arith)
weave_rights c (d ∷ cs) (p ∷ ps) e = ap (λ (t : List Pair). c ++ p ∷ t) (weave_rights d cs ps (omega arith))

weave_mid : (ds es : List (List Pair)) (qs rs : List Pair) → length ds ≡ suc (length qs) → length es ≡ length rs → weave (ds ++ es) (qs ++ rs) ≡ weave ds qs ++ rights rs es
weave_mid [] es qs rs e h = absurd (omega arith)
weave_mid (d ∷ []) es [] rs e h = weave_rights d es rs h ∙ ap (λ (t : List Pair). t ++ rights rs es) (sym (append-nil d))
weave_mid (d ∷ c ∷ ds) es [] rs e h = absurd (omega arith)
weave_mid (d ∷ ds) es (q ∷ qs) rs e h = ap (λ (t : List Pair). d ++ q ∷ t) (weave_mid ds es qs rs (omega arith) h) ∙ sym (append_assoc d (q ∷ weave ds qs) (rights rs es))

pub weave_whole : (cs ds es : List (List Pair)) (ps qs rs : List Pair) → length cs ≡ length ps → length ds ≡ suc (length qs) → length es ≡ length rs
    → weave ((cs ++ ds) ++ es) ((ps ++ qs) ++ rs) ≡ (lefts cs ps ++ weave ds qs) ++ rights rs es
weave_whole [] ds es [] qs rs a b c = weave_mid ds es qs rs b c
weave_whole [] ds es (p ∷ ps) qs rs a b c = absurd (omega arith)
weave_whole (k ∷ cs) ds es [] qs rs a b c = absurd (omega arith)
weave_whole (k ∷ cs) ds es (p ∷ ps) qs rs a b c =
    ap (λ (t : List Pair). k ++ p ∷ t) (weave_whole cs ds es ps qs rs (omega arith) b c) ∙ sym (append_assoc k (p ∷ lefts cs ps ++ weave ds qs) (rights rs es)) ∙ ap (λ (t : List Pair). t ++ rights rs es) (sym (append_assoc k (p ∷ lefts cs ps) (weave ds qs)))

pub lefts_more : (cs : List (List Pair)) (ps : List Pair) (c : List Pair) (p : Pair) → length cs ≡ length ps → lefts (cs ++ c ∷ []) (ps ++ p ∷ []) ≡ lefts cs ps ++ c ++ p ∷ []
lefts_more [] [] c p e = refl
lefts_more [] (q ∷ ps) c p e = absurd (omega arith)
lefts_more (d ∷ cs) [] c p e = absurd (omega arith)
lefts_more (d ∷ cs) (q ∷ ps) c p e =
    ap (λ (t : List Pair). d ++ q ∷ t) (lefts_more cs ps c p (omega arith)) ∙ sym (append_assoc d (q ∷ (lefts cs ps ++ c)) (p ∷ [])) ∙ ap (λ (t : List Pair). t ++ p ∷ []) (sym (append_assoc d (q ∷ lefts cs ps) c))

-- one more tree and the entry behind it
pub left_more : (read : Places) (h : ℕ) (places : List ℕ) (separators xs : List Pair) (pages : List ℕ) (at : ℕ) (w : Walked) (s : Pair) → IsLeft read h places separators xs pages → walk_of read h at ≡ Some w
    → IsLeft read h (places ++ at ∷ []) (separators ++ s ∷ []) (xs ++ content w ++ s ∷ []) (pages ++ w.pages)
left_more read h places separators xs pages at w s l e =
    let one : each (walk_of read h) (at ∷ []) ≡ Some (w ∷ []) = cons_each (walk_of read h) at [] w [] e refl in
    let n = each_length (walk_of read h) places l.walks l.are in
    record {
      walks = l.walks ++ w ∷ [];
      are = each_append (walk_of read h) places (at ∷ []) l.walks (w ∷ []) l.are one;
      content_is = ap (λ (t : List (List Pair)). lefts t (separators ++ s ∷ [])) (map-append content l.walks (w ∷ []))
          ∙ lefts_more (contents l.walks) separators (content w) s (omega (arith, length-contents l.walks, n, l.count)) ∙ ap (λ (t : List Pair). t ++ content w ++ s ∷ []) l.content_is;
      pages_are = all_pages-append l.walks (w ∷ []) ∙ ap (λ (t : List ℕ). all_pages l.walks ++ t) (append-nil w.pages) ∙ ap (λ (t : List ℕ). t ++ w.pages) l.pages_are;
      count = omega (arith, length-append places (at ∷ []), length-append separators (s ∷ []), l.count);
    }

weave_last : (cs : List (List Pair)) (ps : List Pair) (c : List Pair) → length cs ≡ length ps → weave (cs ++ c ∷ []) ps ≡ lefts cs ps ++ c
weave_last [] [] c e = append-nil c
weave_last [] (p ∷ ps) c e = absurd (omega arith)
weave_last (k ∷ cs) [] c e = absurd (omega arith)
weave_last (k ∷ cs) (p ∷ ps) c e = ap (λ (t : List Pair). k ++ p ∷ t) (weave_last cs ps c (omega arith)) ∙ sym (append_assoc k (p ∷ lefts cs ps) c)

-- the last tree
pub left_last : (read : Places) (h : ℕ) (places : List ℕ) (separators xs : List Pair) (pages : List ℕ) (at : ℕ) (w : Walked) → IsLeft read h places separators xs pages → walk_of read h at ≡ Some w
    → IsStrip read h (places ++ at ∷ []) separators (xs ++ content w) (pages ++ w.pages)
left_last read h places separators xs pages at w l e =
    let one : each (walk_of read h) (at ∷ []) ≡ Some (w ∷ []) = cons_each (walk_of read h) at [] w [] e refl in
    let n = each_length (walk_of read h) places l.walks l.are in
    record {
      walks = l.walks ++ w ∷ [];
      are = each_append (walk_of read h) places (at ∷ []) l.walks (w ∷ []) l.are one;
      content_is = ap (λ (t : List (List Pair)). weave t separators) (map-append content l.walks (w ∷ []))
          ∙ weave_last (contents l.walks) separators (content w) (omega (arith, length-contents l.walks, n, l.count)) ∙ ap (λ (t : List Pair). t ++ content w) l.content_is;
      pages_are = all_pages-append l.walks (w ∷ []) ∙ ap (λ (t : List ℕ). all_pages l.walks ++ t) (append-nil w.pages) ∙ ap (λ (t : List ℕ). t ++ w.pages) l.pages_are;
      count = omega (arith, length-append places (at ∷ []), l.count);
    }

-- trees to the left, in the middle and to the right are trees side by side
pub whole : (read : Places) (h : ℕ) (cs ds es : List ℕ) (ps qs rs x y z : List Pair) (a b c : List ℕ) → IsLeft read h cs ps x a → IsStrip read h ds qs y b → IsRight read h es rs z c
    → IsStrip read h ((cs ++ ds) ++ es) ((ps ++ qs) ++ rs) ((x ++ y) ++ z) ((a ++ b) ++ c)
whole read h cs ds es ps qs rs x y z a b c l m r =
    let n1 = each_length (walk_of read h) cs l.walks l.are in
    let n2 = each_length (walk_of read h) ds m.walks m.are in
    let n3 = each_length (walk_of read h) es r.walks r.are in
    let split : contents ((l.walks ++ m.walks) ++ r.walks) ≡ (contents l.walks ++ contents m.walks) ++ contents r.walks = map-append content (l.walks ++ m.walks) r.walks ∙ ap (λ (t : List (List Pair)). t ++ contents r.walks) (map-append content l.walks m.walks) in
    record {
      walks = (l.walks ++ m.walks) ++ r.walks;
      are = each_append (walk_of read h) (cs ++ ds) es (l.walks ++ m.walks) r.walks (each_append (walk_of read h) cs ds l.walks m.walks l.are m.are) r.are;
      content_is = ap (λ (t : List (List Pair)). weave t ((ps ++ qs) ++ rs)) split
          ∙ weave_whole (contents l.walks) (contents m.walks) (contents r.walks) ps qs rs (omega (arith, length-contents l.walks, n1, l.count)) (omega (arith, length-contents m.walks, n2, m.count)) (omega (arith, length-contents r.walks, n3, r.count))
          ∙ ap (λ (t : List Pair). (t ++ weave (contents m.walks) qs) ++ rights rs (contents r.walks)) l.content_is
          ∙ ap (λ (t : List Pair). (x ++ t) ++ rights rs (contents r.walks)) m.content_is ∙ ap (λ (t : List Pair). (x ++ y) ++ t) r.content_is;
      pages_are = all_pages-append (l.walks ++ m.walks) r.walks ∙ ap (λ (t : List ℕ). t ++ all_pages r.walks) (all_pages-append l.walks m.walks)
          ∙ ap (λ (t : List ℕ). (t ++ all_pages m.walks) ++ all_pages r.walks) l.pages_are ∙ ap (λ (t : List ℕ). (a ++ t) ++ all_pages r.walks) m.pages_are ∙ ap (λ (t : List ℕ). (a ++ b) ++ t) r.pages_are;
      count = omega (arith, length-append (cs ++ ds) es, length-append cs ds, length-append (ps ++ qs) rs, length-append ps qs, l.count, m.count, r.count);
    }

-- and the other way
pub record Parts (read : Places) (h : ℕ) (cs ds es : List ℕ) (ps qs rs xs : List Pair) (pages : List ℕ) : Type 0 where
  pub x : List Pair
  pub y : List Pair
  pub z : List Pair
  pub a : List ℕ
  pub b : List ℕ
  pub c : List ℕ
  pub left : IsLeft read h cs ps x a
  pub middle : IsStrip read h ds qs y b
  pub right : IsRight read h es rs z c
  pub content_is : xs ≡ (x ++ y) ++ z
  pub pages_are : pages ≡ (a ++ b) ++ c

pub parts : (read : Places) (h : ℕ) (cs ds es : List ℕ) (ps qs rs xs : List Pair) (pages : List ℕ) → length cs ≡ length ps → length ds ≡ suc (length qs) → IsStrip read h ((cs ++ ds) ++ es) ((ps ++ qs) ++ rs) xs pages
    → Parts read h cs ds es ps qs rs xs pages
parts read h cs ds es ps qs rs xs pages k1 k2 m =
    let o = each_parts (walk_of read h) (cs ++ ds) es m.walks m.are in
    let i = each_parts (walk_of read h) cs ds o.0 o.2 in
    let lw : List Walked = i.0 in
    let mw : List Walked = i.1 in
    let rw1 : List Walked = o.1 in
    let k3 : length es ≡ length rs = omega (arith, length-append (cs ++ ds) es, length-append cs ds, length-append (ps ++ qs) rs, length-append ps qs, m.count) in
    let n1 = each_length (walk_of read h) cs lw i.2 in
    let n2 = each_length (walk_of read h) ds mw i.3 in
    let n3 = each_length (walk_of read h) es rw1 o.3 in
    let walks_are : m.walks ≡ (lw ++ mw) ++ rw1 = o.4 ∙ ap (λ (t : List Walked). t ++ rw1) i.4 in
    let split : contents ((lw ++ mw) ++ rw1) ≡ (contents lw ++ contents mw) ++ contents rw1 = map-append content (lw ++ mw) rw1 ∙ ap (λ (t : List (List Pair)). t ++ contents rw1) (map-append content lw mw) in
    record {
      x = lefts (contents lw) ps;
      y = weave (contents mw) qs;
      z = rights rs (contents rw1);
      a = all_pages lw;
      b = all_pages mw;
      c = all_pages rw1;
      left = record { walks = lw; are = i.2; content_is = refl; pages_are = refl; count = k1 };
      middle = record { walks = mw; are = i.3; content_is = refl; pages_are = refl; count = k2 };
      right = record { walks = rw1; are = o.3; content_is = refl; pages_are = refl; count = k3 };
      content_is = sym m.content_is ∙ ap (λ (t : List Walked). weave (contents t) ((ps ++ qs) ++ rs)) walks_are ∙ ap (λ (t : List (List Pair)). weave t ((ps ++ qs) ++ rs)) split
          ∙ weave_whole (contents lw) (contents mw) (contents rw1) ps qs rs (omega (arith, length-contents lw, n1)) (omega (arith, length-contents mw, n2)) (omega (arith, length-contents rw1, n3));
      pages_are = sym m.pages_are ∙ ap all_pages walks_are ∙ all_pages-append (lw ++ mw) rw1 ∙ ap (λ (t : List ℕ). t ++ all_pages rw1) (all_pages-append lw mw);
    }
