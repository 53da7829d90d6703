-- A row whose blocks are released: what the calls need, and what stands in the file then.
use Rattle.std.proofs.Common.{◌≡◌, ℕ, ◌+◌, ◌-◌, ◌^◌, ◌<◌, Bool, true, false, List, [], ◌∷◌, ◌++◌, length, Option, None, Ok, Err, inl, inr, refl, sym, ap, subst, ◌∙◌, arith}
use Rattle.std.specs.Prelude.{nat_le, min, sum_by, if◌then◌else◌}
use Rattle.std.specs.List.{AllByRecursion, flat_map}
use Rattle.std.proofs.lemmas.Bool.{leb-true, leb-false}
use Rattle.std.proofs.lemmas.List.Sums.{sum_by-cons}
use Rattle.myi_base.specs.Holding.{Holding, Told, IfTold, bytes_of}
use Rattle.myi_base.proofs.CallerLemmas.{told_more}
use Rattle.myi_frames.specs.declared.head.Head.{Head}
use Rattle.myi_frames.specs.Block.{Block}
use Rattle.myi_dellist.specs.declared.pieces.Piece.{Piece}
use Rattle.myi_dellist.specs.declared.rows.Freed.{Freed}
use Rattle.myi_dellist.specs.Areas.{Area, IsApart, AreApart, AreInside}
use Rattle.myi_dellist.specs.Releasing.{most_size, front_part, back_part, release_all, IsHole, IsFreeable}
use Rattle.myi_dellist.specs.Placing.{area_of, areas_of, sizes_of}
use Rattle.myi_dellist.specs.Standing.{first_or, HasList}
use Rattle.myi_dellist.specs.Freeing.{hole_in, IsHoleIn, IsLinkable}
use Rattle.myi_dellist.specs.FreeList.{ListState, HasHoles, IsLong}
use Rattle.myi_dellist.specs.Rows.{KeepsApart, AreListedBehind}
use Rattle.myi_dellist.specs.Several.{parts_of, heads_in, heads_written, added_in, release_ones_bytes}
use Rattle.myi_dellist.specs.Replacing.{head_after}
use Rattle.myi_dellist.specs.Chains.{IsRowBlock, IsRowIn, areas_in, StandsIn}
use Rattle.myi_dellist.specs.Freed.{freed_parts, IsPart, WritesFreed, FreesRow, RowFindsBad, RowIsFreed, TalliesFreed}
use Rattle.myi_dellist.proofs.AreaLemmas.{below-append, once-apart, no_more, inside_by}
use Rattle.myi_dellist.proofs.LinkLemmas.{all_join, all_split}
use Rattle.myi_dellist.proofs.FirstLemmas.{hole_bytes}
use Rattle.myi_dellist.proofs.StandLemmas.{apart-once}
use Rattle.myi_dellist.proofs.FreeLemmas.{IsOf, moved}
use Rattle.myi_dellist.proofs.PlanningLemmas.{linkable}
use Rattle.myi_dellist.proofs.SeveralLemmas.{several-found, several-stand, parts-all}
use Rattle.myi_dellist.proofs.OwnLemmas.{listed_own, seen_clear, all_holes, all_below, apart_parts}
use Rattle.myi_dellist.proofs.AgainLemmas.{head_is, same_heads}
use Rattle.myi_dellist.proofs.ChainLemmas.{standing-read, standing-sound, standing-free}

-- ---- what is released can be a deleted block, and what is planned can be written

part_one : (end : ℕ) (p : Piece) (rest : List Area) → IsRowBlock end p → AllByRecursion (IsPart end) rest → AllByRecursion (IsPart end) (parts_of (area_of p) ++ rest)
part_one end p rest b more = by_test (nat_le p.size most_size) refl
  where
    by_test : (t : Bool) → nat_le p.size most_size ≡ t → AllByRecursion (IsPart end) ((if t then area_of p ∷ [] else back_part (area_of p) ∷ front_part (area_of p) ∷ []) ++ rest)
    by_test true t = (record { place = b.place; most = leb-true _ _ t }, more)
    by_test false t =
        let long = leb-false _ _ t in (
          record { place = record { aligned = omega (arith, b.place.aligned); multiple = omega (arith, b.place.multiple, long); least = omega (arith, long); inside = omega (arith, long, b.place.inside) }; most = omega (arith, b.most) },
          (record { place = record { aligned = b.place.aligned; multiple = omega arith; least = omega arith; inside = omega (arith, long, b.place.inside) }; most = omega arith }, more),
        )

pub parts-ready : (end : ℕ) (ps : List Piece) → AllByRecursion (IsRowBlock end) ps → AllByRecursion (IsPart end) (freed_parts ps)
parts-ready end [] all = tt
parts-ready end (p ∷ ps) all = part_one end p (freed_parts ps) all.0 (parts-ready end ps all.1)

pub heads-ready : (end : ℕ) (heads : List Head) → end < 2 ^ 64 → AllByRecursion (IsHoleIn end) heads → AllByRecursion IsLinkable heads
heads-ready end [] lt all = tt
heads-ready end (h ∷ heads) lt all = (linkable end h lt all.0, heads-ready end heads lt all.1)

-- ---- the parts of blocks that stand

parts_apart : (own holes : List Area) → AllByRecursion IsFreeable own → AllByRecursion IsHole holes → AreApart (own ++ holes) → AreApart (flat_map parts_of own ++ holes)
parts_apart own holes f hs apart =
    let parts = flat_map parts_of own in
    once-apart (parts ++ holes) (hole_bytes (parts ++ holes) (all_join IsHole parts holes (all_holes own f) hs))
    (λ n. omega (arith, apart-once (own ++ holes) apart n, all_below n own, all_below (n + 1) own, below-append n parts holes, below-append (n + 1) parts holes, below-append n own holes, below-append (n + 1) own holes))

pub parts_inside : (end : ℕ) (own : List Area) → AllByRecursion IsFreeable own → AreInside end own → AreInside end (flat_map parts_of own)
parts_inside end own f inside =
    let parts = flat_map parts_of own in
    inside_by end parts (hole_bytes parts (all_holes own f)) (λ n le. omega (arith, all_below n own, all_below end own, no_more end n own inside le))

-- ---- what stands then

pub record IsFreed (d : List ℕ) (own holes : List Area) (heads : List Head) : Type 0 where
  pub list : HasList (heads_written heads d) (release_all own holes)
  pub long : length (heads_written heads d) ≡ length d
  pub keeps : KeepsApart (own ++ holes) d (heads_written heads d)
  pub head : head_after (first_or holes None) (flat_map parts_of own) ≡ first_or (release_all own holes) None

freed_of : (d : List ℕ) (own holes : List Area) (heads : List Head) → AllByRecursion IsFreeable own → AreInside (length d) own → AreApart (own ++ holes) → AreListedBehind own holes d → HasList d holes → heads_in (hole_in d) (first_or holes None) (flat_map parts_of own) ≡ Ok heads → IsFreed d own holes heads
freed_of d own holes heads f inside apart listed l found =
    let parts = flat_map parts_of own in
    let far = parts_apart own holes f l.sizes apart in
    let within = parts_inside (length d) own f inside in
    let k = several-found d parts holes l (record { sizes = all_holes own f; apart = far; clear = seen_clear d holes holes own (λ q e. e) (listed_own d holes own listed) }) in
    let same = same_heads (heads_in (hole_in d) (first_or holes None) parts) heads k.heads found k.found in
    let bytes : heads_written heads d ≡ release_ones_bytes parts holes d = ap (λ (hs : List Head). heads_written hs d) same ∙ k.bytes_are d in
    let st = several-stand parts holes d (all_holes own f) within far l in
    let all = parts-all own holes in
    record {
      list = subst (λ (x : List ℕ). HasList x (release_all own holes)) (sym bytes) (subst (λ (hs : List Area). HasList (release_ones_bytes parts holes d) hs) all st.list);
      long = ap (λ (x : List ℕ). length x) bytes ∙ st.long;
      keeps = subst (λ (x : List ℕ). KeepsApart (own ++ holes) d x) (sym bytes) (record {
        longer = omega (arith, st.long);
        bytes = λ p n inside away.
            let x : Area = record { at = p; size = n } in
            let two = all_split (IsApart x) own holes away in
            st.keeps p n inside (apart_parts x own two.0) two.1;
      });
      head = head_is parts holes ∙ ap (λ (hs : List Area). first_or hs None) all;
    }

-- in the words of a list
pub row-freed : (l k : ListState) (at : ℕ) (m n : Holding) → WritesFreed l k at m n → RowIsFreed l k at m n
row-freed l k at m n w row bs holes has stands listed =
    let d = bytes_of l.name m in
    let own = areas_in bs in
    let same : areas_of w.own ≡ own = standing-read d at row bs holes w.own stands w.row_is in
    let free = standing-free d bs stands.read stands.short in
    let found = ap (λ (o : Option ℕ). heads_in (hole_in d) o (flat_map parts_of own)) (sym has.head) ∙ ap (λ (xs : List Area). heads_in (hole_in d) l.head (flat_map parts_of xs)) (sym same) ∙ w.found in
    let f = freed_of d own holes w.heads free.0 free.1 stands.apart listed has.list found in
    let here = sym w.becomes.here in
    record {
      holes_are = record {
        head = w.head ∙ ap (λ (xs : List Area). head_after l.head (flat_map parts_of xs)) same ∙ ap (λ (o : Option ℕ). head_after o (flat_map parts_of own)) has.head ∙ f.head;
        list = subst (λ (x : List ℕ). HasList x (release_all own holes)) here f.list;
      };
      long = ap (λ (x : List ℕ). length x) w.becomes.here ∙ f.long;
      keeps = subst (λ (x : List ℕ). KeepsApart (own ++ holes) d x) here f.keeps;
    }

pub told-freed : (old new : Option Holding) (l k : ListState) (at : ℕ) → IfTold old (IsLong l) → Told old new (FreesRow l k at) → Told old new (RowIsFreed l k at)
told-freed old new l k at long t = told_more old new (FreesRow l k at) (RowIsFreed l k at) t (λ m n held f. row-freed l k at m n (f (long m held)))

-- ---- a row that stands is never found damaged

pub freed-sound : (l : ListState) (at p : ℕ) (m : Holding) (row : List ℕ) (bs : List Block) (holes : List Area) → HasHoles l holes (bytes_of l.name m) → StandsIn (bytes_of l.name m) at row bs holes → AreListedBehind (areas_in bs) holes (bytes_of l.name m) → RowFindsBad l at p m → ⊥
freed-sound l at p m row bs holes has stands listed (inl b) = standing-sound (bytes_of l.name m) at p row bs holes stands b
freed-sound l at p m row bs holes has stands listed (inr b) =
    let d = bytes_of l.name m in
    let own = areas_in bs in
    let same : areas_of b.own ≡ own = standing-read d at row bs holes b.own stands b.row_is in
    let free = standing-free d bs stands.read stands.short in
    let k = several-found d (flat_map parts_of own) holes has.list (record { sizes = all_holes own free.0; apart = parts_apart own holes free.0 has.list.sizes stands.apart; clear = seen_clear d holes holes own (λ q e. e) (listed_own d holes own listed) }) in
    let bad : heads_in (hole_in d) (first_or holes None) (flat_map parts_of own) ≡ Err p = ap (λ (o : Option ℕ). heads_in (hole_in d) o (flat_map parts_of own)) (sym has.head) ∙ ap (λ (xs : List Area). heads_in (hole_in d) l.head (flat_map parts_of xs)) (sym same) ∙ b.bad in
    let no : Ok k.heads ≡ Err p = sym k.found ∙ bad in
    absurd cc

-- ---- how many blocks that makes

pub area_count : (ps : List Piece) → length (areas_of ps) ≡ length ps
area_count [] = refl
area_count (p ∷ ps) = omega (arith, area_count ps)

pub area_sizes : (ps : List Piece) → sizes_of ps ≡ sum_by (λ (a : Area). a.size) (areas_of ps)
area_sizes [] = refl
area_sizes (p ∷ ps) = ap (λ (n : ℕ). p.size + n) (area_sizes ps) ∙ sym (sum_by-cons (λ (a : Area). a.size) (area_of p) (areas_of ps))

pub tallies-freed : (old : Option Holding) (l : ListState) (at : ℕ) (own : List Piece) (freed : Freed) → freed.blocks ≡ length own → freed.bytes ≡ min (sizes_of own) (2 ^ 64 - 1) → IfTold old (IsLong l) → IfTold old (λ m. IsLong l m → IsRowIn (bytes_of l.name m) at own) → IfTold old (λ m. IsLong l m → freed.more ≡ added_in (hole_in (bytes_of l.name m)) l.head (freed_parts own)) → IfTold old (TalliesFreed l at freed)
tallies-freed old l at own freed blocks bytes long rows more m held row bs holes has stands listed =
    let d = bytes_of l.name m in
    let areas = areas_in bs in
    let same : areas_of own ≡ areas = standing-read d at row bs holes own stands (rows m held (long m held)) in
    let free = standing-free d bs stands.read stands.short in
    let k = several-found d (flat_map parts_of areas) holes has.list (record { sizes = all_holes areas free.0; apart = parts_apart areas holes free.0 has.list.sizes stands.apart; clear = seen_clear d holes holes areas (λ q e. e) (listed_own d holes areas listed) }) in
    let added : freed.more ≡ added_in (hole_in d) (first_or holes None) (flat_map parts_of areas) = more m held (long m held) ∙ ap (λ (xs : List Area). added_in (hole_in d) l.head (flat_map parts_of xs)) same ∙ ap (λ (o : Option ℕ). added_in (hole_in d) o (flat_map parts_of areas)) has.head in
    record {
      blocks = blocks ∙ sym (area_count own) ∙ ap (λ (xs : List Area). length xs) same;
      bytes = bytes ∙ ap (λ (n : ℕ). min n (2 ^ 64 - 1)) (area_sizes own ∙ ap (λ (xs : List Area). sum_by (λ (a : Area). a.size) xs) same);
      holes_are = omega (arith, ap (λ (xs : List Area). length xs) (parts-all areas holes), k.counts, added);
    }

-- as the call tells it
pub told-added : (old mid : Option Holding) (l : ListState) (again : List ℕ) (end : ℕ) (head : Option ℕ) (parts areas : List Area) (more : ℕ) → IsOf l again end head → mid ≡ old → parts ≡ areas → IfTold mid (λ m. length (bytes_of again m) ≡ end → more ≡ added_in (hole_in (bytes_of again m)) head parts) → IfTold old (λ m. IsLong l m → more ≡ added_in (hole_in (bytes_of l.name m)) l.head areas)
told-added old mid l again end head parts areas more o same e t =
    let told = moved (λ a b c. IfTold mid (λ m. length (bytes_of a m) ≡ b → more ≡ added_in (hole_in (bytes_of a m)) c parts)) l again end head o t in
    λ m held long. told m (same ∙ held) long ∙ ap (λ (xs : List Area). added_in (hole_in (bytes_of l.name m)) l.head xs) e
