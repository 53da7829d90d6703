-- A table stays clean where only the numbers of an analysis change: no definition of a clean pair reads them.
use Rattle.std.proofs.Common.{◌≡◌, ℕ, zero, suc, ◌+◌, ◌-◌, ◌*◌, ◌%◌, ◌^◌, ◌<◌, ◌≤◌, Bool, true, false, cond, ◌&&◌, ◌||◌, eqb, List, [], ◌∷◌, ◌++◌, length, get_or, take, drop, map, Option, Some, None, Result, Ok, refl, sym, ap, subst, ◌∙◌, arith, length-take, length-drop}
use Rattle.std.specs.Prelude.{replicate, nat_le, IsPermutation}
use Rattle.std.specs.List.{list_any, AllByRecursion}
use Rattle.std.specs.Str.{bytes_eq}
use Rattle.std.proofs.lemmas.Bool.{leb-true}
use Rattle.std.proofs.lemmas.List.{drop-take}
use Rattle.myi_base.specs.Ranges.{Range, are_apart}
use Rattle.myi_base.specs.Numbers.{num, num_at, pointer_of}
use Rattle.myi_base.specs.Items.{numbers}
use Rattle.myi_base.proofs.CallerLemmas.{num-take, numbers-take}
use Rattle.myi_defs.specs.declared.types.RowFormat.{RowFormat}
use Rattle.myi_defs.specs.declared.types.RowFormat.TheVariants.{Static, Dynamic}
use Rattle.myi_defs.specs.declared.types.Defs.{Defs}
use Rattle.myi_defs.specs.Sound.{IsSound}
use Rattle.myi_defs.specs.ReadDefs.{read_defs, AreDefs}
use Rattle.myi_defs.specs.Elsewhere.{AgreeOutsideState}
use Rattle.myi_defs.specs.declared.types.DefFault.{DefFault}
use Rattle.myi_defs.specs.Layout.{mark, first_page}
use Rattle.myi_defs.proofs.CallerLemmas.{sound, are_defs, elsewhere}
use Rattle.myi_header.specs.Layout.{layout_of, first_page_of, key_parts}
use Rattle.myi_header.specs.StateOf.{state_of, has_mark, roots_in}
use Rattle.myi_header.specs.Parts.{part}
use Rattle.myi_chain.specs.Readable.{Row}
use Rattle.myi_chain.specs.Readable as chains
use Rattle.myi_chain.specs.Meeting.{ranges_of}
use Rattle.myi_keycache.specs.Lent.{bytes_at}
use Rattle.myi_data.specs.Readable.{readable, deleted}
use Rattle.myi_btree.specs.Walk.{◌>>=◌, Walked, Places, walk_of, Agree}
use Rattle.myi_btree.specs.Nodes.{node_at, node_in}
use Rattle.myi_btree.specs.Visit.{page_range}
use Rattle.myi_pair.specs.FirstRows.{AreDistinct, key_numbers}
use Rattle.myi_pair.specs.Trees.{block_of_key, pages_on, AreFree, HasWalkApart, HaveWalks, AreKeyLists, all_pages, total}
use Rattle.myi_pair.proofs.CallerLemmas.{with_raw, readable_same, deleted_same, values_same, placed_same, addressable_same, distinct_same, lists_same, pages_same}
use Rattle.myi_pair.specs.Clean.{values_of, placed_row, covers, next_by, next_deleted, Follows, IsClean}
use Rattle.myi_header.specs.Analysis.{rows_place, part_place, with_numbers, HasRoomFor}
use Rattle.myi_header.proofs.CallerLemmas as header

-- ---- what does not depend on the header's bytes

module _ (d : Defs) (r : List ℕ) where
  next_same : (f : RowFormat) (x : List ℕ) (p : ℕ) → next_by f d x p ≡ next_by f (with_raw d r) x p
  next_same Static x p = refl
  next_same Dynamic x p = refl

  follows_same : (x : List ℕ) (before at : Option ℕ) (ps : List ℕ) → Follows d x before at ps → Follows (with_raw d r) x before at ps
  follows_same x before at [] t = t
  follows_same x before at (p ∷ ps) t = (t.0, t.1, follows_same x (Some p) (next_deleted (with_raw d r) x p) ps (subst (λ o. Follows d x (Some p) o ps) (next_same d.format x p) t.2))

-- ---- walks over pages that stay

-- from a place on two files have the same bytes, and they are as long
record SameBehind (first : ℕ) (x y : List ℕ) : Type 0 where
  long : length y ≡ length x
  same : (p : ℕ) → first ≤ p → drop p y ≡ drop p x

node_same_at : (rec_ref block first p : ℕ) (x y : List ℕ) → SameBehind first x y → are_apart (page_range block p) (0, first) ≡ true → node_at rec_ref block x p ≡ node_at rec_ref block y p
unfolding node_at bytes_at
node_same_at rec_ref block first p x y same apart = by (nat_le (p + block) 0) refl apart
  where
    behind : first ≤ p → node_at rec_ref block x p ≡ node_at rec_ref block y p
    behind low = ap (λ (b : List ℕ). cond (eqb (p % 1024) 0) (cond (nat_le block (length b)) (Some (take block b)) None >>= node_in rec_ref) None) (sym (same.same p low))

    none : p + block ≤ 0 → node_at rec_ref block x p ≡ node_at rec_ref block y p
    none few =
        let e : block ≡ 0 = omega (arith, few) in
        rw e (ap (λ n. cond (eqb (p % 1024) 0) (cond (nat_le 0 n) (Some []) None >>= node_in rec_ref) None) (length-drop p x ∙ ap (λ n. n - p) (sym same.long) ∙ sym (length-drop p y)))

    by : (b : Bool) → nat_le (p + block) 0 ≡ b → (nat_le (p + block) 0 || nat_le first p) ≡ true → node_at rec_ref block x p ≡ node_at rec_ref block y p
    by true is either = none (leb-true (p + block) 0 is)
    by false is either = behind (leb-true first p (sym (ap (λ b. b || nat_le first p) is) ∙ either))

agree : (rec_ref block first : ℕ) (x y : List ℕ) (rest : List Range) (pages : List ℕ) → SameBehind first x y → AreFree ((0, first) ∷ rest) (map (page_range block) pages) → Agree (node_at rec_ref block x) (node_at rec_ref block y) pages
agree rec_ref block first x y rest [] same free = tt
agree rec_ref block first x y rest (p ∷ pages) same free = (node_same_at rec_ref block first p x y same (and_first _ _ free.0), agree rec_ref block first x y rest pages same free.1)
  where
    and_first : (a b : Bool) → (a && b) ≡ true → a ≡ true
    and_first true b is = refl
    and_first false b is = is

module _ (d : Defs) (r : List ℕ) (first : ℕ) (x y : List ℕ) (same : SameBehind first x y) (frame : (one two : Places) (height place : ℕ) (w : Walked) → walk_of one height place ≡ Some w → Agree one two w.pages → walk_of two height place ≡ Some w) where
  walk_stays : (k : ℕ) (root : Option ℕ) (rest : List Range) (w : Walked) → HasWalkApart d k x root ((0, first) ∷ rest) w → HasWalkApart (with_raw d r) k y root ((0, first) ∷ rest) w
  walk_stays k None rest w t = t
  walk_stays k (Some root) rest w t = (
    record {
      height = t.0.height;
      walk = frame (node_at d.rec_ref (block_of_key d k) x) (node_at d.rec_ref (block_of_key d k) y) t.0.height root w t.0.walk (agree d.rec_ref (block_of_key d k) first x y rest w.pages same t.1);
      disjoint = t.0.disjoint;
    },
    t.1,
  )

  walks_stay : (rest : List Range) (ks : List ℕ) (roots : List (Option ℕ)) (ws : List Walked) → HaveWalks d x ((0, first) ∷ rest) ks roots ws → HaveWalks (with_raw d r) y ((0, first) ∷ rest) ks roots ws
  walks_stay rest [] roots ws t = t
  walks_stay rest (k ∷ ks) [] ws t = t
  walks_stay rest (k ∷ ks) (root ∷ roots) [] t = t
  walks_stay rest (k ∷ ks) (root ∷ roots) (w ∷ ws) t = (walk_stays k root rest w t.0, walks_stay (rest ++ pages_on d k w) ks roots ws t.1)

-- ---- the numbers of the state that stay

module _ (d : Defs) (rows : ℕ) (per x : List ℕ) (good : IsSound d) (room : HasRoomFor d rows per x) where
  num_same : (p w : ℕ) → 27 ≤ p → p + w ≤ rows_place d → num_at p w (with_numbers d rows per x) ≡ num_at p w x
  num_same p w low high =
      sym (num-take w w (drop p (with_numbers d rows per x)) (omega arith)) ∙ ap (num w) (header.numbers-between d rows per x p w good room low high) ∙ num-take w w (drop p x) (omega arith)

  roots_same : (at n : ℕ) → 27 ≤ at → at + 8 * n ≤ rows_place d → numbers at (replicate n 8) (with_numbers d rows per x) ≡ numbers at (replicate n 8) x
  roots_same at zero low high = refl
  roots_same at (suc n) low high =
      ap (λ v. v ∷ numbers (at + 8) (replicate n 8) (with_numbers d rows per x)) (num_same at 8 low (omega arith))
      ∙ ap (λ vs. num_at at 8 x ∷ vs) (roots_same (at + 8) n (omega arith) (omega arith))

-- ---- parts of a list

same_n : (k n : ℕ) (xs : List ℕ) → k ≤ n → take k (take n xs) ≡ take k xs
same_n zero n xs low = refl
same_n (suc k) zero xs low = absurd (omega arith)
same_n (suc k) (suc n) [] low = refl
same_n (suc k) (suc n) (y ∷ xs) low = ap (λ ys. y ∷ ys) (same_n k n xs (omega arith))

inner : (p w n : ℕ) (xs : List ℕ) → p + w ≤ n → take w (drop p (take n xs)) ≡ take w (drop p xs)
inner p w n xs few = sym (drop-take p w (take n xs)) ∙ ap (drop p) (same_n (p + w) n xs few) ∙ drop-take p w xs

dropped : (p n : ℕ) (xs : List ℕ) → p ≤ n → drop p (take n xs) ≡ take (n - p) (drop p xs)
dropped p n xs few = ap (λ k. drop p (take k xs)) (let e : n ≡ p + (n - p) = omega (arith, few) in e) ∙ drop-take p (n - p) xs

-- the front of a list that has so many items
same_front : (n m : ℕ) (xs : List ℕ) → m ≡ length (take n xs) → take n xs ≡ take m xs
same_front zero m xs is = ap (λ k. take k xs) (sym is)
same_front (suc n) zero [] is = refl
same_front (suc n) (suc m) [] is = refl
same_front (suc n) zero (z ∷ xs) is = absurd (omega (arith, is))
same_front (suc n) (suc m) (z ∷ xs) is = ap (λ ys. z ∷ ys) (same_front n m xs (omega (arith, is)))

-- ---- the table is clean again

module _ (file x : List ℕ) (rows : ℕ) (per : List ℕ) (c : IsClean file x) (good : IsSound c.defs) (are : AreDefs c.defs) (raw : c.defs.raw ≡ take (num_at 6 2 x) x) (few : length per ≤ key_parts c.defs) (counted : rows < 256 ^ 8) (small : AllByRecursion (λ n. n < 256 ^ 4) per)
    (frame : (one two : Places) (height place : ℕ) (w : Walked) → walk_of one height place ≡ Some w → Agree one two w.pages → walk_of two height place ≡ Some w) where
  short : length c.defs.raw ≤ length x
  short = omega (arith, ap (λ (xs : List ℕ). length xs) raw, length-take (num_at 6 2 x) x)

  room : HasRoomFor c.defs rows per x
  room = record { long = short; few = few; counted = counted; small = small }

  long : length (with_numbers c.defs rows per x) ≡ length x
  long = (header.numbers-read c.defs rows per x good room).long

  raw_is : c.defs.raw ≡ take (num_at 6 2 c.defs.raw) x
  raw_is = raw ∙ same_front (num_at 6 2 x) (length c.defs.raw) x (ap (λ (xs : List ℕ). length xs) raw) ∙ ap (λ n. take n x) good.header

  wide : num_at 12 2 c.defs.raw + 100 ≤ num_at 6 2 c.defs.raw
  wide = omega (arith, good.base_inside, good.header)

  behind : part_place c.defs (length per) ≤ num_at 12 2 c.defs.raw
  behind = omega (arith, good.base, few)

  early : 24 ≤ num_at 6 2 c.defs.raw
  early = omega (arith, wide, good.base)

  agrees : AgreeOutsideState c.defs.raw (with_numbers c.defs rows per x)
  agrees = record {
    long = omega (arith, long, short, good.header);
    front = header.numbers-front c.defs rows per x 24 good room (omega arith) ∙ sym (ap (take 24) raw_is ∙ same_n 24 (num_at 6 2 c.defs.raw) x early);
    base = ap (take 94) (header.numbers-behind c.defs rows per x (num_at 12 2 c.defs.raw) good room behind)
        ∙ sym (ap (λ xs. take 94 (drop (num_at 12 2 c.defs.raw) xs)) raw_is ∙ inner (num_at 12 2 c.defs.raw) 94 (num_at 6 2 c.defs.raw) x (omega (arith, wide)));
    back = dropped (num_at 12 2 c.defs.raw + 100) (num_at 6 2 c.defs.raw) (with_numbers c.defs rows per x) wide
        ∙ ap (take (num_at 6 2 c.defs.raw - (num_at 12 2 c.defs.raw + 100))) (header.numbers-behind c.defs rows per x (num_at 12 2 c.defs.raw + 100) good room (omega (arith, behind)))
        ∙ sym (dropped (num_at 12 2 c.defs.raw + 100) (num_at 6 2 c.defs.raw) x wide)
        ∙ sym (ap (λ xs. drop (num_at 12 2 c.defs.raw + 100) (take (num_at 6 2 c.defs.raw) xs)) raw_is ∙ ap (drop (num_at 12 2 c.defs.raw + 100)) (same_n (num_at 6 2 c.defs.raw) (num_at 6 2 c.defs.raw) x (omega arith)));
  }

  raw_front : take 24 (take (num_at 6 2 c.defs.raw) (with_numbers c.defs rows per x)) ≡ take 24 c.defs.raw
  raw_front = same_n 24 (num_at 6 2 c.defs.raw) (with_numbers c.defs rows per x) early ∙ agrees.front

  sizes_same : num_at 21 1 (take (num_at 6 2 c.defs.raw) (with_numbers c.defs rows per x)) ≡ num_at 21 1 c.defs.raw
  sizes_same = ap (λ (ns : List ℕ). get_or ns 0 0) (numbers-take 21 24 (1 ∷ []) (take (num_at 6 2 c.defs.raw) (with_numbers c.defs rows per x)) c.defs.raw (omega arith) raw_front)

  parts_count : num_at 14 2 (take (num_at 6 2 c.defs.raw) (with_numbers c.defs rows per x)) ≡ num_at 14 2 c.defs.raw
  parts_count = ap (λ (ns : List ℕ). get_or ns 0 0) (numbers-take 14 24 (2 ∷ []) (take (num_at 6 2 c.defs.raw) (with_numbers c.defs rows per x)) c.defs.raw (omega arith) raw_front)

  base_same : (layout_of (with_raw c.defs (take (num_at 6 2 c.defs.raw) (with_numbers c.defs rows per x)))).base ≡ (layout_of c.defs).base
  base_same = omega (arith, sizes_same, parts_count)

  raw_long : length (take (num_at 6 2 c.defs.raw) (with_numbers c.defs rows per x)) ≡ length c.defs.raw
  raw_long = omega (arith, length-take (num_at 6 2 c.defs.raw) (with_numbers c.defs rows per x), long, short, good.header)

  first_same : first_page_of (with_raw c.defs (take (num_at 6 2 c.defs.raw) (with_numbers c.defs rows per x))) ≡ first_page_of c.defs
  first_same = ap first_page raw_long

  marked : has_mark (with_raw c.defs (take (num_at 6 2 c.defs.raw) (with_numbers c.defs rows per x))) (with_numbers c.defs rows per x) ≡ true
  unfolding has_mark
  marked =
      ap (λ b. bytes_eq (part (b + 94) 6 (with_numbers c.defs rows per x)) mark) base_same
      ∙ ap (λ b. bytes_eq (take 6 b) mark) (header.numbers-behind c.defs rows per x ((layout_of c.defs).base + 94) good room (omega (arith, few)))
      ∙ c.mark

  same_behind : SameBehind (first_page_of c.defs) x (with_numbers c.defs rows per x)
  same_behind = record { long = long; same = λ p low. header.numbers-behind c.defs rows per x p good room (omega (arith, behind, wide, good.header, low, page_behind)) }
    where
      page_behind : length c.defs.raw ≤ first_page_of c.defs
      page_behind = omega arith

  head_same : pointer_of (num_at 52 8 (with_numbers c.defs rows per x)) ≡ pointer_of (num_at 52 8 x)
  head_same = ap pointer_of (num_same c.defs rows per x good room 52 8 (omega arith) (omega arith))

  roots_are : roots_in (length c.defs.keys) (with_numbers c.defs rows per x) ≡ roots_in (length c.defs.keys) x
  roots_are = ap (map pointer_of) (roots_same c.defs rows per x good room 124 (length c.defs.keys) (omega arith) (omega arith))

  pub clean_again : IsClean file (with_numbers c.defs rows per x)
  unfolding state_of
  clean_again =
      let r : List ℕ = take (num_at 6 2 c.defs.raw) (with_numbers c.defs rows per x) in
      let n : List ℕ = with_numbers c.defs rows per x in
      let e : Defs = with_raw c.defs r in
      record {
        defs = e;
        read = elsewhere c.defs n are agrees;
        mark = marked;
        addressable = addressable_same c.defs r (length file) ∙ c.addressable;
        covered = λ p few. ap (λ rs. list_any (covers p) (ranges_of rs ++ deleted e file)) (readable_same c.defs r false file) ∙ ap (λ rs. list_any (covers p) (ranges_of (readable c.defs false file) ++ rs)) (deleted_same c.defs r file) ∙ c.covered p few;
        list = (
          c.list.0,
          subst (λ (rs : List Range). IsPermutation (map (λ (a : Range). a.0) rs) c.list.0) (sym (deleted_same c.defs r file)) c.list.1,
          subst (λ h. Follows e file None h c.list.0) (sym head_same) (follows_same c.defs r file None _ c.list.0 c.list.2),
        );
        counts = record {
          records = num_same c.defs rows per x good room 28 8 (omega arith) (omega arith) ∙ c.counts.records ∙ sym (ap (λ (rs : List Row). length rs) (readable_same c.defs r false file));
          del = num_same c.defs rows per x good room 36 8 (omega arith) (omega arith) ∙ c.counts.del ∙ sym (ap (λ (rs : List Range). length rs) (deleted_same c.defs r file));
          split = num_same c.defs rows per x good room 44 8 (omega arith) (omega arith) ∙ c.counts.split ∙ sym (ap (λ rs. length (ranges_of rs)) (readable_same c.defs r false file));
          key_file_length = num_same c.defs rows per x good room 60 8 (omega arith) (omega arith) ∙ c.counts.key_file_length ∙ sym long;
          data_file_length = num_same c.defs rows per x good room 68 8 (omega arith) (omega arith) ∙ c.counts.data_file_length;
          empty = num_same c.defs rows per x good room 76 8 (omega arith) (omega arith) ∙ c.counts.empty ∙ sym (ap total (deleted_same c.defs r file));
        };
        walks = c.walks;
        trees = subst (λ f. HaveWalks e n ((0, f) ∷ []) (key_numbers c.defs) (roots_in (length c.defs.keys) n) c.walks) (sym first_same)
            (subst (λ rs. HaveWalks e n ((0, first_page_of c.defs) ∷ []) (key_numbers c.defs) rs c.walks) (sym roots_are)
            (walks_stay c.defs r (first_page_of c.defs) x n same_behind frame [] (key_numbers c.defs) _ c.walks c.trees));
        lists = subst (λ ps. AreKeyLists e ps (key_numbers c.defs) c.walks) (sym (ap (map (placed_row e)) (readable_same c.defs r false file) ∙ placed_same c.defs r (readable c.defs false file)))
            (lists_same c.defs r (map (placed_row c.defs) (readable c.defs false file)) (key_numbers c.defs) c.walks c.lists);
        key_empty = num_same c.defs rows per x good room 84 8 (omega arith) (omega arith) ∙ c.key_empty
            ∙ ap (λ l. l - first_page_of c.defs - total (all_pages c.defs (key_numbers c.defs) c.walks)) (sym long)
            ∙ ap (λ f. length n - f - total (all_pages c.defs (key_numbers c.defs) c.walks)) (sym first_same)
            ∙ ap (λ ps. length n - first_page_of e - total ps) (sym (pages_same c.defs r (key_numbers c.defs) c.walks));
        distinct = subst (AreDistinct e []) (sym (ap (map (values_of e)) (readable_same c.defs r false file) ∙ values_same c.defs r (readable c.defs false file)))
            (distinct_same c.defs r [] (map (values_of c.defs) (readable c.defs false file)) c.distinct);
      }

ok_same : {A E : Type 0} (x y : A) → ◌≡◌ {A = Result A E} (Ok x) (Ok y) → x ≡ y
ok_same x y same = cc

pub stays_clean : (file x : List ℕ) (d : Defs) (rows : ℕ) (per : List ℕ) → ((y : List ℕ) (e : Defs) → read_defs y ≡ Ok e → e.raw ≡ take (num_at 6 2 y) y)
    → ((one two : Places) (height place : ℕ) (w : Walked) → walk_of one height place ≡ Some w → Agree one two w.pages → walk_of two height place ≡ Some w)
    → read_defs x ≡ Ok d → length per ≤ key_parts d → rows < 256 ^ 8 → AllByRecursion (λ n. n < 256 ^ 4) per → IsClean file x → IsClean file (with_numbers d rows per x)
stays_clean file x d rows per raw frame read few counted small c =
    let same : c.defs ≡ d = ok_same {E = DefFault} c.defs d (sym c.read ∙ read) in
    let are : AreDefs c.defs = are_defs x c.defs c.read in
    subst (λ e. length per ≤ key_parts e → IsClean file (with_numbers e rows per x)) same (λ few. clean_again file x rows per c (sound c.defs are) are (raw x c.defs c.read) few counted small frame) few
