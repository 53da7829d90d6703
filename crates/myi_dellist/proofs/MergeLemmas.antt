-- Taking in the deleted block behind an area.
use Rattle.std.proofs.Common.{◌≡◌, ℕ, ◌+◌, Bool, true, false, List, [], ◌∷◌, ◌++◌, Option, Some, None, Result, Ok, refl, sym, ap, subst, ◌∙◌, arith}
use Rattle.std.specs.Prelude.{nat_le, if◌then◌else◌}
use Rattle.myi_base.specs.Holding.{Holding, bytes_of, Told, IfTold}
use Rattle.myi_base.proofs.CallerLemmas.{told_more}
use Rattle.myi_frames.specs.declared.head.Head.{Head}
use Rattle.myi_dellist.specs.declared.linked.Linked.{Linked}
use Rattle.myi_dellist.specs.declared.links.Merged.{Merged}
use Rattle.myi_dellist.specs.Areas.{Area, below, bytes_below}
use Rattle.myi_dellist.specs.Releasing.{most_size, hole_at, without}
use Rattle.myi_dellist.specs.Standing.{first_or, last_or, HasList, KeepsBut, LeavesList, without_block, before, behind, without_at}
use Rattle.myi_dellist.specs.Freeing.{hole_in, block_linked, hole_behind, joined_size, unlinked_bytes}
use Rattle.myi_dellist.specs.FreeList.{ListState, IsLong}
use Rattle.myi_dellist.specs.Merging.{if_joins, joins, size_with, list_past, bytes_past, merged_size, merged, some_linked, merge_by, merge_in, head_past, MergesOne, Merges, MergeFinds}
use Rattle.myi_dellist.proofs.LinkLemmas.{part_split}
use Rattle.myi_dellist.proofs.ReleaseLemmas.{taken_out}
use Rattle.myi_dellist.proofs.ReleasedLemmas.{SplitsAt, found_splits, taken-off-leaves}
use Rattle.myi_dellist.proofs.SeenLemmas.{the_head, the_link}
use Rattle.myi_dellist.proofs.PlanLemmas.{link_is, off_is, split_behind}
use Rattle.myi_dellist.proofs.NeedLemmas.{behind_none}
use Rattle.myi_dellist.proofs.FreeLemmas.{IsOf, moved}

-- ---- step by step

pub merge_none : (d : List ℕ) (head : Option ℕ) (at size : ℕ) (o : Option Head) → o ≡ hole_behind (hole_in d) at size → o ≡ None → merge_in (hole_in d) head at size ≡ Ok None
unfolding merge_in
merge_none d head at size o e n = ap (merge_by (hole_in d) head) (sym e ∙ n)

pub merge_some : (d : List ℕ) (head : Option ℕ) (at size : ℕ) (o : Option Head) (h : Head) → o ≡ hole_behind (hole_in d) at size → o ≡ Some h → merge_in (hole_in d) head at size ≡ some_linked (block_linked (hole_in d) head h)
unfolding merge_in
merge_some d head at size o h e s = ap (merge_by (hole_in d) head) (sym e ∙ s)

-- ---- in a file that has a list

-- what a merge does with the list, where this is taken in
pub record Finds (d : List ℕ) (holes : List Area) (a : Area) (o : Option Area) : Type 0 where
  pub joined : Option Linked
  pub found : merge_in (hole_in d) (first_or holes None) a.at a.size ≡ Ok joined
  pub size : joined_size a.size joined ≡ size_with a.size o
  pub head : head_past (first_or holes None) joined ≡ first_or (list_past holes o) None
  pub bytes : unlinked_bytes joined d ≡ bytes_past holes d o
  pub list : LeavesList (list_past holes o) d (bytes_past holes d o)

unchanged : (d : List ℕ) (holes : List Area) (a : Area) → HasList d holes → None ≡ hole_behind (hole_in d) a.at a.size → Finds d holes a None
unchanged d holes a l none = record {
  joined = None;
  found = merge_none d (first_or holes None) a.at a.size None none refl;
  size = refl;
  head = refl;
  bytes = refl;
  list = record { list = l; keeps = record { long = refl; bytes = λ p n le far. refl } };
}

head_off : (xs : List Area) (h : Area) (ys : List Area) → head_past (first_or (xs ++ h ∷ ys) None) (Some (the_link xs h ys)) ≡ first_or (xs ++ ys) None
head_off [] h ys = refl
head_off (x ∷ xs) h ys = refl

split_finds : (d : List ℕ) (a h : Area) (xs ys : List Area) → h.at ≡ a.at + a.size → HasList d (xs ++ h ∷ ys) → (b : Bool) → nat_le (a.size + h.size) most_size ≡ b → (rest : List Area) → rest ≡ xs ++ ys → (bytes : List ℕ) → bytes ≡ without_block xs ys d
    → (j : Option Linked) × (merge_in (hole_in d) (first_or (xs ++ h ∷ ys) None) a.at a.size ≡ Ok j) × (joined_size a.size j ≡ size_with a.size (if b then Some h else None)) × (head_past (first_or (xs ++ h ∷ ys) None) j ≡ first_or (if b then rest else xs ++ h ∷ ys) None) × (unlinked_bytes j d ≡ (if b then bytes else d)) × LeavesList (if b then rest else xs ++ h ∷ ys) d (if b then bytes else d)
split_finds d a h xs ys at l true t rest r bytes e =
    let parts = part_split d None None xs (h ∷ ys) l.linked in
    let seen = split_behind d a h (first_or ys None) (last_or xs None) at parts.1.0 ∙ ap (λ (b : Bool). if b then Some (the_head h (first_or ys None) (last_or xs None)) else None) t in
    let head = first_or (xs ++ h ∷ ys) None in
    let left = taken-off-leaves d xs h ys l in (
      Some (the_link xs h ys),
      merge_some d head a.at a.size (Some (the_head h (first_or ys None) (last_or xs None))) (the_head h (first_or ys None) (last_or xs None)) (sym seen) refl ∙ ap some_linked (link_is d xs h ys l.linked),
      refl,
      head_off xs h ys ∙ ap (λ (hs : List Area). first_or hs None) (sym r),
      off_is d xs h ys ∙ sym e,
      subst (λ (x : List ℕ). LeavesList rest d x) (sym e) (subst (λ (hs : List Area). LeavesList hs d (without_block xs ys d)) (sym r) left),
    )
split_finds d a h xs ys at l false t rest r bytes e =
    let parts = part_split d None None xs (h ∷ ys) l.linked in
    let seen = split_behind d a h (first_or ys None) (last_or xs None) at parts.1.0 ∙ ap (λ (b : Bool). if b then Some (the_head h (first_or ys None) (last_or xs None)) else None) t in (
      None,
      merge_none d (first_or (xs ++ h ∷ ys) None) a.at a.size None (sym seen) refl,
      refl,
      refl,
      refl,
      record { list = l; keeps = record { long = refl; bytes = λ p n le far. refl } },
    )

met_finds : (d : List ℕ) (holes : List Area) (a h : Area) → HasList d holes → hole_at (a.at + a.size) holes ≡ Some h → Finds d holes a (if_joins a.size (Some h))
met_finds d holes a h l e = by_test (nat_le (a.size + h.size) most_size) refl
  where
    s : SplitsAt (a.at + a.size) holes h
    s = found_splits (a.at + a.size) holes h e

    rest_is : without h.at holes ≡ before (a.at + a.size) holes ++ behind (a.at + a.size) holes
    rest_is = ap (λ (q : ℕ). without q holes) s.at ∙ s.rest

    bytes_are : without_at h.at holes d ≡ without_block (before (a.at + a.size) holes) (behind (a.at + a.size) holes) d
    bytes_are = ap (λ (q : ℕ). without_at q holes d) s.at

    by_test : (b : Bool) → nat_le (a.size + h.size) most_size ≡ b → Finds d holes a (if b then Some h else None)
    by_test true t =
        let f = split_finds d a h (before (a.at + a.size) holes) (behind (a.at + a.size) holes) s.at (subst (λ (hs : List Area). HasList d hs) s.all l) true t (without h.at holes) rest_is (without_at h.at holes d) bytes_are in
        record {
          joined = f.0;
          found = ap (λ (hs : List Area). merge_in (hole_in d) (first_or hs None) a.at a.size) s.all ∙ f.1;
          size = f.2;
          head = ap (λ (hs : List Area). head_past (first_or hs None) f.0) s.all ∙ f.3;
          bytes = f.4;
          list = f.5;
        }
    by_test false t =
        let f = split_finds d a h (before (a.at + a.size) holes) (behind (a.at + a.size) holes) s.at (subst (λ (hs : List Area). HasList d hs) s.all l) false t (without h.at holes) rest_is (without_at h.at holes d) bytes_are in
        record {
          joined = f.0;
          found = ap (λ (hs : List Area). merge_in (hole_in d) (first_or hs None) a.at a.size) s.all ∙ f.1;
          size = f.2;
          head = ap (λ (hs : List Area). head_past (first_or hs None) f.0) s.all ∙ f.3 ∙ ap (λ (hs : List Area). first_or hs None) (sym s.all);
          bytes = f.4;
          list = record { list = l; keeps = record { long = refl; bytes = λ p n le far. refl } };
        }

pub merge-finds : (d : List ℕ) (holes : List Area) (a : Area) → HasList d holes → (hole_at (a.at + a.size) holes ≡ None → hole_in d (a.at + a.size) ≡ None) → Finds d holes a (joins a holes)
unfolding joins
merge-finds d holes a l none = by_found (hole_at (a.at + a.size) holes) refl
  where
    by_found : (o : Option Area) → hole_at (a.at + a.size) holes ≡ o → Finds d holes a (if_joins a.size o)
    by_found None e = unchanged d holes a l (behind_none (hole_in d) a.at a.size (hole_in d (a.at + a.size)) refl (none e))
    by_found (Some h) e = met_finds d holes a h l e

-- ---- in the words of a list

same_joined : (r : Result (Option Linked) ℕ) (p q : Option Linked) → r ≡ Ok p → r ≡ Ok q → p ≡ q
same_joined r p q e f = cc

one_merges : (l k : ListState) (at size : ℕ) (r : Merged) (m n : Holding) → k.head ≡ r.head → IsLong l m → MergesOne l.name l.end l.head at size r m n → Merges l k (record { at = at; size = size }) r.size m n
one_merges l k at size r m n head long one holes has may =
    let a : Area = record { at = at; size = size } in
    let d = bytes_of l.name m in
    let o = one long in
    let f = merge-finds d holes a has.list may.behind in
    let found = ap (λ (h : Option ℕ). merge_in (hole_in d) h at size) has.head ∙ f.found in
    let same = same_joined (merge_in (hole_in d) l.head at size) o.0 f.joined o.1 found in
    let bytes = o.4.here ∙ ap (λ (j : Option Linked). unlinked_bytes j d) same ∙ f.bytes in
    let first = head ∙ o.3 ∙ ap (λ (j : Option Linked). head_past l.head j) same ∙ ap (λ (h : Option ℕ). head_past h f.joined) has.head ∙ f.head in
    record {
      bytes = bytes;
      holes_are = record { head = first; list = subst (λ (x : List ℕ). HasList x (merged a holes)) (sym bytes) f.list.list };
      keeps = subst (λ (x : List ℕ). KeepsBut (merged a holes) d x) (sym bytes) f.list.keeps;
      size = o.2 ∙ ap (joined_size size) same ∙ f.size;
    }

pub told_merge : (old new : Option Holding) (l k : ListState) (name : List ℕ) (end : ℕ) (head : Option ℕ) (at size : ℕ) (r : Merged) → IsOf l name end head → k.head ≡ r.head → IfTold old (IsLong l) → Told old new (MergesOne name end head at size r) → Told old new (Merges l k (record { at = at; size = size }) r.size)
told_merge old new l k name end head at size r o kh long t =
    told_more old new (MergesOne l.name l.end l.head at size r) (Merges l k (record { at = at; size = size }) r.size) (moved (λ n e h. Told old new (MergesOne n e h at size r)) l name end head o t) (λ m n held one. one_merges l k at size r m n kh (long m held) one)

pub finds_merge : (old new : Option Holding) (l : ListState) (name : List ℕ) (end : ℕ) (head : Option ℕ) (at size : ℕ) (r : Merged) → IsOf l name end head → IfTold old (IsLong l) → Told old new (MergesOne name end head at size r) → IfTold old (MergeFinds l (record { at = at; size = size }))
finds_merge old new l name end head at size r o long t m held =
    let s = (moved (λ n e h. Told old new (MergesOne n e h at size r)) l name end head o t).told m held in
    let p = s.2 (long m held) in
    (p.0, p.1)

-- ---- laws

pub merge-keeps-bytes : (n : ℕ) (a : Area) (holes : List Area) → below n (record { at = a.at; size = merged_size a holes }) + bytes_below n (merged a holes) ≡ below n a + bytes_below n holes
unfolding joins
merge-keeps-bytes n a holes = by_found (hole_at (a.at + a.size) holes) refl
  where
    by_found : (o : Option Area) → hole_at (a.at + a.size) holes ≡ o → below n (record { at = a.at; size = size_with a.size (if_joins a.size o) }) + bytes_below n (list_past holes (if_joins a.size o)) ≡ below n a + bytes_below n holes
    by_found None e = refl
    by_found (Some h) e = by_test (nat_le (a.size + h.size) most_size) (taken_out n (a.at + a.size) holes h e)
      where
        by_test : (b : Bool) → (h.at ≡ a.at + a.size) × (bytes_below n holes ≡ below n h + bytes_below n (without (a.at + a.size) holes)) → below n (record { at = a.at; size = size_with a.size (if b then Some h else None) }) + bytes_below n (list_past holes (if b then Some h else None)) ≡ below n a + bytes_below n holes
        by_test true f =
            let at = f.0 in
            let all = f.1 in
            let e : bytes_below n (without h.at holes) ≡ bytes_below n (without (a.at + a.size) holes) = ap (λ (q : ℕ). bytes_below n (without q holes)) at in
            omega (arith, all, at, e)
        by_test false f = refl
