-- Deleted blocks that are read from a file.
use Rattle.std.proofs.Common.{◌≡◌, ℕ, ◌+◌, ◌<◌, ◌≤◌, true, false, List, [], ◌++◌, length, take, drop, Some, None, refl, sym, ap, ◌∙◌, arith}
use Rattle.std.proofs.lemmas.List.{drop_all, append-nil, length-take-le}
use Rattle.myi_base.specs.Numbers.{AreBytes}
use Rattle.myi_frames.specs.declared.form.FrameKind.{FrameKind}
use Rattle.myi_frames.specs.declared.form.FrameKind.TheVariants.{Deleted, Whole, Start, Middle, End}
use Rattle.myi_frames.specs.declared.head.Head.{Head}
use Rattle.myi_frames.specs.declared.head.Header.{Header}
use Rattle.myi_frames.specs.Block.{block_of, header_of, IsPlace}
use Rattle.myi_frames.specs.Seeing.{IsPartAt, HeadsBlock}
use Rattle.myi_frames.proofs.CallerLemmas.{block-short, header-deleted, header-next, header-prev}
use Rattle.myi_dellist.specs.Freeing.{is_deleted, if_deleted, hole_in, IsHoleAt}

pub deleted_kind : (k : FrameKind) → is_deleted k ≡ true → k ≡ Deleted
deleted_kind Deleted e = refl
deleted_kind Whole e = absurd cc
deleted_kind Start e = absurd cc
deleted_kind Middle e = absurd cc
deleted_kind End e = absurd cc

if_hole : (h : Head) → is_deleted h.kind ≡ true → if_deleted (Some h) ≡ Some h
if_hole h e = rw e refl

if_other : (h : Head) → is_deleted h.kind ≡ false → if_deleted (Some h) ≡ None
if_other h e = rw e refl

pub hole_none : (d : List ℕ) (p : ℕ) → block_of d p ≡ None → None ≡ hole_in d p
unfolding hole_in
hole_none d p e = rw e refl

pub short_none : (d : List ℕ) (p : ℕ) → length d < p + 20 → None ≡ hole_in d p
short_none d p lt = hole_none d p (block-short d p lt)

pub head_none : (d : List ℕ) (p : ℕ) → HeadsBlock d None (block_of d p) → None ≡ hole_in d p
head_none d p e = hole_none d p e

pub head_other : (d : List ℕ) (p : ℕ) (h : Header) → is_deleted h.head.kind ≡ false → HeadsBlock d (Some h) (block_of d p) → None ≡ hole_in d p
unfolding hole_in
head_other d p h e s =
    let is = s.1 in
    rw is (sym (ap if_deleted (ap (λ (x : Head). Some x) s.2.head) ∙ if_other h.head e))

pub head_hole : (d : List ℕ) (p : ℕ) (h : Header) → is_deleted h.head.kind ≡ true → HeadsBlock d (Some h) (block_of d p) → Some h.head ≡ hole_in d p
unfolding hole_in
head_hole d p h e s =
    let is = s.1 in
    rw is (sym (ap if_deleted (ap (λ (x : Head). Some x) s.2.head) ∙ if_hole h.head e))

pub hole_place : (bytes : List ℕ) (at end : ℕ) (h : Header) → AreBytes bytes → Some h ≡ header_of bytes at end → (h.head.at ≡ at) × IsPlace at h.head.size end → is_deleted h.head.kind ≡ true → IsHoleAt at end h.head
hole_place bytes at end h are is place e =
    record {
      at = place.0;
      place = place.1;
      most = header-deleted bytes at end h are (sym is) (deleted_kind h.head.kind e);
      next = header-next bytes at end h are (sym is);
      prev = header-prev bytes at end h are (sym is);
    }

pub read_part : (into old d : List ℕ) (at : ℕ) → length old ≡ 20 → 20 ≤ length (drop at d) → into ≡ take (length old) (drop at d) ++ drop (length (drop at d)) old → IsPartAt at into d
read_part into old d at size long is =
    let rest : drop (length (drop at d)) old ≡ [] = drop_all (length (drop at d)) old (omega (arith, size)) in
    let bytes : into ≡ take 20 (drop at d) = is ∙ ap (λ (xs : List ℕ). take (length old) (drop at d) ++ xs) rest ∙ append-nil (take (length old) (drop at d)) ∙ ap (λ n. take n (drop at d)) size in
    let count : length into ≡ 20 = ap (λ (xs : List ℕ). length xs) bytes ∙ length-take-le 20 (drop at d) long in
    bytes ∙ ap (λ n. take n (drop at d)) (sym count)
