-- One tree more is laid behind those before.
use Rattle.std.proofs.Common.{◌≡◌, ◌≢◌, ◌⊎◌, inl, inr, ℕ, zero, suc, ◌+◌, ◌-◌, ◌*◌, ◌/◌, ◌%◌, ◌^◌, ◌<◌, ◌≤◌, Option, Some, None, List, [], ◌∷◌, ◌++◌, length, get_or, take, drop, map, unwrap_or, refl, sym, ap, subst, ◌∙◌, arith, length-take, length-drop, length-append, append_assoc, append-nil, mul-div_cancel, mul_comm}
use Rattle.std.proofs.lemmas.List.{length-map, take_all, drop_all, take_more}
use Rattle.myi_base.specs.Holding.{Holding, Told, IfTold, bytes_of}
use Rattle.myi_defs.specs.declared.types.Defs.{Defs}
use Rattle.myi_header.specs.Layout.{first_page_of}
use Rattle.myi_header.specs.StateOf.{IsPlace}
use Rattle.myi_btree.specs.declared.place.Place.{Place}
use Rattle.myi_treecopy.specs.declared.page.TreeCopy.{TreeCopy}
use Rattle.myi_treecopy.specs.Copying.{Copies, LaysWhole}
use Rattle.myi_treecopy.specs.LaidBytes.{whole_tree}
use Rattle.myi_treecopy.proofs.CallerLemmas.{Frame, dropped_more}
use Rattle.myi_pair.specs.Trees.{block_of_key, place_of, no_walk}
use Rattle.myi_sortindex.specs.declared.fault.SortFault.{SortFault}
use Rattle.myi_sortindex.specs.declared.laying.IndexCopy.{IndexCopy}
use Rattle.myi_sortindex.specs.declared.laying.LaidTrees.{LaidTrees}
use Rattle.myi_sortindex.specs.Refusals.{CutsOff}
use Rattle.myi_sortindex.specs.Sorting.{nodes_of, tree_bytes, root_at, TreesLaid, trees_laid}
use Rattle.myi_sortindex.specs.Laying.{Tree, HasTreeWalk, AreTrees, end_of, roots_from, page_count, LaysTree, LaysTrees, IsOf, HasBytes, LaysFirst, LaysNext, IsNext, PutsBytes, HasNoRoom, HaveNoRoom}
use Rattle.myi_sortindex.proofs.TreeLaws.{end_first, end_more, roots_more, count_more, trees_more, trees_kept, no_tree, walk_at, root_is, taken}

-- ---- one tree, by its copy

-- how a tree is copied
abbrev pub tree_copy : IndexCopy → Place → TreeCopy
tree_copy c place = record { alloc = c.alloc; old = c.index; new = c.working; place = place; limit = c.limit }

quotient : (end start block n : ℕ) → 0 < block → end ≡ start + block * n → (end - start) / block ≡ n
quotient end start block n some is =
    let left : end - start ≡ n * block = (let e : end - start ≡ block * n = omega (arith, is) in e) ∙ mul_comm block n in
    ap (λ k. k / block) left ∙ mul-div_cancel n some

pub next_laid : (c : IndexCopy) (place : Place) (root : ℕ) (old new : LaidTrees) (m n : Holding) → 0 < place.block_length → Copies (tree_copy c place) root old.end new.end m n → LaysWhole (tree_copy c place) root old.end m n → new.pages ≡ old.pages + (new.end - old.end) / place.block_length
    → LaysNext c place (Some root) old new m n
next_laid c place root old new m n some s whole pages = record {
  long = s.long;
  kept = s.kept;
  others = s.others;
  tree = λ w walk.
      let a = s.anew walk.0 w walk.1 in
      let end = s.ends walk.0 w walk.1 in
      record {
        walked = a.walked;
        tree = record { walk = (walk.0, a.walk); pairs = a.pairs; places = a.places; pages = a.pages };
        end = end;
        count = pages ∙ ap (λ k. old.pages + k) (quotient new.end old.end place.block_length (length w.pages) some end);
      };
  exact = λ w walk.
      let there = whole walk.0 w walk.1 in
      record {
        there = there;
        count = pages
            ∙ ap (λ k. old.pages + k / place.block_length) (let e : new.end - old.end ≡ length (whole_tree place.rec_ref place.block_length (bytes_of c.index.now m) root old.end) = omega (arith, s.long, length-drop old.end (bytes_of c.working.now n), ap (λ (ys : List ℕ). length ys) there) in e);
      };
}

none_of : (block : ℕ) → 0 < block → 0 / block ≡ 0
none_of block some = ap (λ k. k / block) (let e : 0 ≡ 0 * block = omega arith in e) ∙ mul-div_cancel 0 some

pub next_none : (c : IndexCopy) (place : Place) (old new : LaidTrees) (m : Holding) → 0 < place.block_length → length (bytes_of c.working.now m) ≡ old.end → new.end ≡ old.end → new.pages ≡ old.pages → LaysNext c place None old new m m
next_none c place old new m some long end pages = record {
  long = long ∙ sym end;
  kept = take_all (length (bytes_of c.working.now m)) (bytes_of c.working.now m) (omega arith);
  others = λ q other. refl;
  tree = λ w walk.
      subst (λ v. IsNext place (bytes_of c.index.now m) (bytes_of c.working.now m) old new (None, v)) (sym walk) (record {
        walked = no_walk;
        tree = record { walk = refl; pairs = refl; places = refl; pages = refl };
        end = end ∙ (let e : old.end ≡ old.end + place.block_length * 0 = omega arith in e);
        count = pages ∙ (let e : old.pages ≡ old.pages + 0 = omega arith in e);
      });
  exact = λ w walk. record {
    there = drop_all old.end (bytes_of c.working.now m) (omega (arith, long));
    count = pages ∙ (let e : old.pages ≡ old.pages + 0 = omega arith in e) ∙ ap (λ k. old.pages + k) (sym (none_of place.block_length some));
  };
}

-- ---- the bytes of one tree more

at_place : (d : Defs) (x : List ℕ) (root : Option ℕ) (j k s t : ℕ) → j ≡ k → s ≡ t → tree_bytes d x j root s ≡ tree_bytes d x k root t
at_place d x root j k s t number place = ap (λ i. tree_bytes d x i root s) number ∙ ap (tree_bytes d x k root) place

none_first : (n : ℕ) → n + 0 ≡ 0 + n
none_first n = omega arith

summed : (a b c : ℕ) → a + (b + c) ≡ a + b + c
summed a b c = omega arith

-- what the trees with one more are
record OneMore (d : Defs) (x : List ℕ) (start k : ℕ) (rs : List (Option ℕ)) (root : Option ℕ) (first all : TreesLaid) : Type 0 where
  pub bytes : all.bytes ≡ first.bytes ++ tree_bytes d x (k + length rs) root (start + length first.bytes)
  pub roots : all.roots ≡ first.roots ++ root_at (start + length first.bytes) root ∷ []
  pub pages : all.pages ≡ first.pages + length (tree_bytes d x (k + length rs) root (start + length first.bytes)) / block_of_key d (k + length rs)

one_more : (d : Defs) (x : List ℕ) (start k : ℕ) (rs : List (Option ℕ)) (root : Option ℕ) → OneMore d x start k rs root (trees_laid d x start k rs) (trees_laid d x start k (rs ++ root ∷ []))
one_more d x start k [] root =
    let number : k ≡ k + 0 = omega arith in
    let place : start ≡ start + 0 = omega arith in
    let same = at_place d x root k (k + 0) start (start + 0) number place in
    record {
      bytes = append-nil (tree_bytes d x k root start) ∙ same;
      roots = ap (λ n. root_at n root ∷ []) place;
      pages = none_first (length (tree_bytes d x k root start) / block_of_key d k)
          ∙ ap (λ n. 0 + n / block_of_key d k) (ap (λ (ys : List ℕ). length ys) same)
          ∙ ap (λ j. 0 + length (tree_bytes d x (k + 0) root (start + 0)) / block_of_key d j) number;
    }
one_more d x start k (r ∷ rs) root =
    let own : List ℕ = tree_bytes d x k r start in
    let block : ℕ = block_of_key d k in
    let next : ℕ = start + length own in
    let inner : TreesLaid = trees_laid d x next (suc k) rs in
    let others = one_more d x next (suc k) rs root in
    let number : suc k + length rs ≡ k + suc (length rs) = omega arith in
    let place : next + length inner.bytes ≡ start + length (own ++ inner.bytes) = omega (arith, length-append own inner.bytes) in
    let same = at_place d x root (suc k + length rs) (k + suc (length rs)) (next + length inner.bytes) (start + length (own ++ inner.bytes)) number place in
    record {
      bytes = ap (λ ys. own ++ ys) others.bytes
          ∙ sym (append_assoc own inner.bytes (tree_bytes d x (suc k + length rs) root (next + length inner.bytes)))
          ∙ ap (λ ys. (own ++ inner.bytes) ++ ys) same;
      roots = ap (λ rs. root_at start r ∷ rs) others.roots ∙ ap (λ n. root_at start r ∷ (inner.roots ++ root_at n root ∷ [])) place;
      pages = ap (λ n. length own / block + n) others.pages
          ∙ ap (λ n. length own / block + (inner.pages + n / block_of_key d (suc k + length rs))) (ap (λ (ys : List ℕ). length ys) same)
          ∙ ap (λ j. length own / block + (inner.pages + length (tree_bytes d x (k + suc (length rs)) root (start + length (own ++ inner.bytes))) / block_of_key d j)) number
          ∙ summed (length own / block) inner.pages (length (tree_bytes d x (k + suc (length rs)) root (start + length (own ++ inner.bytes))) / block_of_key d (k + suc (length rs)));
    }

-- one tree more was laid, and its bytes put behind those before
has_more : (d : Defs) (x y z : List ℕ) (i : ℕ) (rs : List (Option ℕ)) (root : Option ℕ) (old new : LaidTrees) → 1 + length rs ≡ i + 1 → length y ≡ old.end → length z ≡ new.end → take (length y) z ≡ y → HasBytes (first_page_of d) y old (trees_laid d x (first_page_of d) 1 rs)
    → PutsBytes (block_of_key d (i + 1)) z old new (tree_bytes d x (i + 1) root old.end) → new.roots.items ≡ old.roots.items ++ root_at old.end root ∷ [] → HasBytes (first_page_of d) z new (trees_laid d x (first_page_of d) 1 (rs ++ root ∷ []))
has_more d x y z i rs root old new number long behind kept has puts more =
    let first : ℕ = first_page_of d in
    let before : TreesLaid = trees_laid d x first 1 rs in
    let own : List ℕ = tree_bytes d x (i + 1) root old.end in
    let all = one_more d x first 1 rs root in
    let same = at_place d x root (1 + length rs) (i + 1) (first + length before.bytes) old.end number (sym has.end) in
    let bytes = dropped_more first old.end y z kept long (omega (arith, has.end)) ∙ ap (λ ys. ys ++ drop old.end z) has.bytes ∙ ap (λ ys. before.bytes ++ ys) (puts.there ∙ sym same) ∙ sym all.bytes in
    let low : length y ≤ length z = omega (arith, ap (λ (ys : List ℕ). length ys) kept, length-take (length y) z) in
    record {
      bytes = bytes;
      end = omega (arith, behind, long, low, has.end, length-drop first z, ap (λ (ys : List ℕ). length ys) bytes);
      roots = more ∙ ap (λ rs. rs ++ root_at old.end root ∷ []) has.roots ∙ ap (λ n. before.roots ++ root_at n root ∷ []) has.end ∙ sym all.roots;
      count = puts.count
          ∙ ap (λ n. n + length own / block_of_key d (i + 1)) has.count
          ∙ ap (λ (ys : List ℕ). before.pages + length ys / block_of_key d (i + 1)) (sym same)
          ∙ ap (λ j. before.pages + length (tree_bytes d x (1 + length rs) root (first + length before.bytes)) / block_of_key d j) (sym number)
          ∙ sym all.pages;
    }

-- ---- the trees so far, and the next one

pub first_none : (c : IndexCopy) (d : Defs) (roots : List (Option ℕ)) (laid : LaidTrees) (m : Holding) → length (bytes_of c.working.now m) ≡ first_page_of d → laid.end ≡ first_page_of d → laid.roots.items ≡ [] → laid.pages ≡ 0 → LaysFirst c d roots 0 laid m m
first_none c d roots laid m long end none pages = record {
  long = long ∙ sym end;
  others = λ q other. refl;
  first = λ ts are is. record { trees = tt; end = end; roots = none; count = pages };
  exact = λ ts are is. record {
    bytes = drop_all (first_page_of d) (bytes_of c.working.now m) (omega (arith, long));
    end = end ∙ (let e : first_page_of d ≡ first_page_of d + 0 = omega arith in e);
    roots = none;
    count = pages;
  };
}

-- the tree that comes next
module _ (c : IndexCopy) (d : Defs) (roots : List (Option ℕ)) (i : ℕ) (root : Option ℕ) (old : LaidTrees) (m n : Holding) (low : i < length roots) (here : root ≡ get_or roots i root) (apart : c.index.now ≢ c.working.now) (before : LaysFirst c d roots i old m n) (ts : List Tree)
    (are : AreTrees d (bytes_of c.index.now m) 1 ts) (is : map (λ (t : Tree). t.0) ts ≡ roots) where
  abbrev t : Tree
  t = get_or ts i no_tree

  inside : i < length ts
  inside = omega (arith, low, ap (λ (rs : List (Option ℕ)). length rs) is, length-map ts (λ (t : Tree). t.0))

  number : 1 + length (take i ts) ≡ i + 1
  number = omega (arith, length-take i ts, inside)

  abbrev so_far : IsOf d (bytes_of c.index.now m) (bytes_of c.working.now n) old (take i ts)
  so_far = before.first ts are is

  same_index : bytes_of c.index.now n ≡ bytes_of c.index.now m
  same_index = ap (λ o. unwrap_or o []) (before.others c.index.now apart)

  same_root : t.0 ≡ root
  same_root = root_is ts roots i root is inside ∙ sym here

  walk_here : HasTreeWalk (nodes_of d (i + 1) (bytes_of c.index.now n)) root t.1
  walk_here =
      subst (λ b. HasTreeWalk (nodes_of d (i + 1) b) root t.1) (sym same_index)
      (subst (λ j. HasTreeWalk (nodes_of d j (bytes_of c.index.now m)) root t.1) (let e : 1 + i ≡ i + 1 = omega arith in e)
      (subst (λ r. HasTreeWalk (nodes_of d (1 + i) (bytes_of c.index.now m)) r t.1) same_root (walk_at d (bytes_of c.index.now m) 1 i ts are inside)))

  end_here : end_of d (first_page_of d) 1 (take (i + 1) ts) ≡ old.end + block_of_key d (i + 1) * length t.1.pages
  end_here =
      ap (end_of d (first_page_of d) 1) (taken ts i inside)
      ∙ end_more d (first_page_of d) 1 (take i ts) t
      ∙ ap (λ j. end_of d (first_page_of d) 1 (take i ts) + block_of_key d j * length t.1.pages) number
      ∙ ap (λ k. k + block_of_key d (i + 1) * length t.1.pages) (sym so_far.end)

  not_here : HasNoRoom c (place_of d (i + 1)) root old.end n → end_of d (first_page_of d) 1 ts ≤ c.limit → ⊥
  not_here none fits = none t.1 walk_here (omega (arith, end_here, end_first d (i + 1) (first_page_of d) 1 ts, fits))

  here_too : Frame → (new : LaidTrees) (k : Holding) → LaysNext c (place_of d (i + 1)) root old new n k → new.roots.items ≡ old.roots.items ++ root_at old.end root ∷ [] → IsOf d (bytes_of c.index.now m) (bytes_of c.working.now k) new (take (i + 1) ts)
  here_too frame new k next more =
      let x : List ℕ = bytes_of c.index.now m in
      let y : List ℕ = bytes_of c.working.now k in
      let first : ℕ = first_page_of d in
      let one = next.tree t.1 walk_here in
      let own : LaysTree (block_of_key d (i + 1)) (nodes_of d (i + 1) x) (nodes_of d (i + 1) y) old.end t one.walked =
      subst (λ b. LaysTree (block_of_key d (i + 1)) (nodes_of d (i + 1) b) (nodes_of d (i + 1) y) old.end t one.walked) same_index
      (subst (λ (r : Option ℕ). LaysTree (block_of_key d (i + 1)) (nodes_of d (i + 1) (bytes_of c.index.now n)) (nodes_of d (i + 1) y) old.end (r, t.1) one.walked) (sym same_root) one.tree) in
      let placed : LaysTree (block_of_key d (1 + length (take i ts))) (nodes_of d (1 + length (take i ts)) x) (nodes_of d (1 + length (take i ts)) y) (end_of d first 1 (take i ts)) t one.walked =
      subst (λ j. LaysTree (block_of_key d j) (nodes_of d j x) (nodes_of d j y) (end_of d first 1 (take i ts)) t one.walked) (sym number)
      (subst (λ s. LaysTree (block_of_key d (i + 1)) (nodes_of d (i + 1) x) (nodes_of d (i + 1) y) s t one.walked) so_far.end own) in
      record {
        trees = subst (λ us. LaysTrees d x y first 1 us) (sym (taken ts i inside))
            (trees_more d x y first 1 (take i ts) t one.walked (trees_kept frame d x (bytes_of c.working.now n) y first 1 (take i ts) next.kept (omega (arith, so_far.end, before.long)) so_far.trees) placed);
        end = one.end ∙ sym end_here;
        roots = more
            ∙ ap (λ rs. rs ++ root_at old.end root ∷ []) so_far.roots
            ∙ ap (λ s. roots_from d first 1 (take i ts) ++ root_at s root ∷ []) so_far.end
            ∙ ap (λ r. roots_from d first 1 (take i ts) ++ root_at (end_of d first 1 (take i ts)) r ∷ []) (sym same_root)
            ∙ sym (roots_more d first 1 (take i ts) t)
            ∙ ap (roots_from d first 1) (sym (taken ts i inside));
        count = one.count ∙ ap (λ k. k + length t.1.pages) so_far.count ∙ sym (count_more (take i ts) t) ∙ ap page_count (sym (taken ts i inside));
      }

  exact_too : (new : LaidTrees) (k : Holding) → LaysNext c (place_of d (i + 1)) root old new n k → new.roots.items ≡ old.roots.items ++ root_at old.end root ∷ []
      → HasBytes (first_page_of d) (bytes_of c.working.now k) new (trees_laid d (bytes_of c.index.now m) (first_page_of d) 1 (take (i + 1) roots))
  exact_too new k next more =
      let x : List ℕ = bytes_of c.index.now m in
      let y : List ℕ = bytes_of c.working.now k in
      let puts : PutsBytes (block_of_key d (i + 1)) y old new (tree_bytes d x (i + 1) root old.end) =
      subst (λ b. PutsBytes (block_of_key d (i + 1)) y old new (tree_bytes d b (i + 1) root old.end)) same_index (next.exact t.1 walk_here) in
      subst (λ rs. HasBytes (first_page_of d) y new (trees_laid d x (first_page_of d) 1 rs)) (sym (take_more roots i root low ∙ ap (λ r. take i roots ++ r ∷ []) (sym here)))
      (has_more d x (bytes_of c.working.now n) y i (take i roots) root old new (omega (arith, length-take i roots, low)) before.long next.long next.kept (before.exact ts are is) puts more)

pub first_more : Frame → (c : IndexCopy) (d : Defs) (roots : List (Option ℕ)) (i : ℕ) (root : Option ℕ) (old new : LaidTrees) (m n k : Holding) → i < length roots → root ≡ get_or roots i root → c.index.now ≢ c.working.now → LaysFirst c d roots i old m n
    → LaysNext c (place_of d (i + 1)) root old new n k → new.roots.items ≡ old.roots.items ++ root_at old.end root ∷ [] → LaysFirst c d roots (i + 1) new m k
first_more frame c d roots i root old new m n k low here apart before next more = record {
  long = next.long;
  others = λ q other. next.others q other ∙ before.others q other;
  first = λ ts are is. here_too c d roots i root old m n low here apart before ts are is frame new k next more;
  exact = λ ts are is. exact_too c d roots i root old m n low here apart before ts are is new k next more;
}

-- what stands at a place of a list does not depend on what is given for a place past its end
at_any : (xs : List (Option ℕ)) (i : ℕ) (a b : Option ℕ) → i < length xs → get_or xs i a ≡ get_or xs i b
at_any [] i a b low = absurd (omega (arith, low))
at_any (x ∷ xs) zero a b low = refl
at_any (x ∷ xs) (suc i) a b low = at_any xs i a b (omega (arith, low))

pub first_next : Frame → (c : IndexCopy) (d : Defs) (roots : List (Option ℕ)) (i : ℕ) (other : Option ℕ) (old new : LaidTrees) (m n k : Holding) → i < length roots → c.index.now ≢ c.working.now → LaysFirst c d roots i old m n
    → LaysNext c (place_of d (i + 1)) (get_or roots i other) old new n k → new.roots.items ≡ old.roots.items ++ root_at old.end (get_or roots i other) ∷ [] → LaysFirst c d roots (i + 1) new m k
first_next frame c d roots i other old new m n k low apart before next more =
    first_more frame c d roots i (get_or roots i other) old new m n k low (at_any roots i other (get_or roots i other) low) apart before next more

pub no_room_left : (c : IndexCopy) (d : Defs) (roots : List (Option ℕ)) (i : ℕ) (other : Option ℕ) (old : LaidTrees) (m n : Holding) → i < length roots → c.index.now ≢ c.working.now → LaysFirst c d roots i old m n
    → HasNoRoom c (place_of d (i + 1)) (get_or roots i other) old.end n → HaveNoRoom c d roots m
no_room_left c d roots i other old m n low apart before none ts are is fits =
    not_here c d roots i (get_or roots i other) old m n low (at_any roots i other (get_or roots i other) low) apart before ts are is none fits

-- a place of a page is one that eight bytes say
pub root_place : (start : ℕ) (root : Option ℕ) → start % 1024 ≡ 0 → IsPlace (root_at start root)
root_place start None whole = λ same. cc
root_place start (Some root) whole = λ same. let f : start ≡ 2 ^ 64 - 1 = cc in omega (arith, whole, f)

-- what is refused in a part of a call is refused in the call
pub refused_on : (old mid : Option Holding) (f e : SortFault) (P : Holding → Holding → Type 0) (A B : Holding → Type 0) → e ≡ f → Told old mid P → ((m n : Holding) → P m n → A n → B m) → CutsOff f ⊎ IfTold mid A → CutsOff e ⊎ IfTold old B
refused_on old mid f e P A B is told more (inl cut) = inl (subst CutsOff (sym is) cut)
refused_on old mid f e P A B is told more (inr none) = inr (λ m held. let t = told.told m held in more m t.0 t.2 (none t.0 t.1))
