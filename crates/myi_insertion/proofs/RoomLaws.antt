-- Places out of a room.
use Rattle.std.proofs.Common.{◌≡◌, ℕ, suc, ◌+◌, ◌%◌, ◌<◌, List, [], ◌∷◌, ◌++◌, length, get_or, take, drop, refl, sym, ap, subst, ◌∙◌, arith, inl, inr}
use Rattle.std.specs.List.{AllByRecursion}
use Rattle.std.proofs.Math.Seq.{drop-cons}
use Rattle.std.proofs.lemmas.Bool.{cases_lt, le-ltb, lt-ltb, le-leb, lt-leb}
use Rattle.std.proofs.lemmas.List.{take-append-drop}
use Rattle.myi_btree.specs.declared.place.Room.{Room}
use Rattle.myi_insertion.specs.Covers.{within, stock, covers, from_end}
use Rattle.myi_insertion.specs.Rooms.{IsWhole, TakesFree, TakesEnd, Takes, Gives}
use Rattle.myi_insertion.proofs.FrameLaws.{all_left, all_right}

covers-append : (us vs : List (ℕ × ℕ)) (x : ℕ) → covers (us ++ vs) x ≡ covers us x + covers vs x
covers-append [] vs x = omega arith
covers-append (u ∷ us) vs x = omega (arith, covers-append us vs x)

-- the bytes of a page that is taken are those that are free no more
free_out : (len at : ℕ) (before after : Room) → TakesFree len at before after → (x : ℕ) → within at len x + stock after x ≡ stock before x
unfolding stock
free_out len at before after t x =
    let a = ap (λ (t : List (ℕ × ℕ)). covers t x) t.was in
    let b = ap (λ (t : List (ℕ × ℕ)). covers t x) t.left in
    let c = ap (λ (t : ℕ). from_end t x) t.end in
    omega (arith, covers-append t.front ((at, len) ∷ t.back) x, covers-append t.front t.back x)

end_out : (block end x : ℕ) → within end block x + from_end (end + block) x ≡ from_end end x
end_out block end x =
    elim (cases_lt x end) [
      | inl below ↦ rw (lt-leb end x below) (let k : x < end + block = omega arith in rw (lt-leb (end + block) x k) refl)
      | inr from ↦ elim (cases_lt x (end + block)) [
        | inl in_it ↦ rw (le-leb end x from, lt-ltb x (end + block) in_it, lt-leb (end + block) x in_it) refl
        | inr past ↦ rw (le-leb end x from, le-ltb x (end + block) past, le-leb (end + block) x past) refl
      ]
    ]

behind_out : (len at : ℕ) (before after : Room) → TakesEnd len at before after → (x : ℕ) → within at len x + stock after x ≡ stock before x
unfolding stock
behind_out len at before after t x =
    let a = end_out len before.end x in
    let b = ap (λ (t : List (ℕ × ℕ)). covers t x) t.free in
    let c = ap (λ (t : ℕ). from_end t x) t.end in
    let d = ap (λ (t : ℕ). within t len x) t.at_end in
    omega arith

pub stock_taken : (len at : ℕ) (before after : Room) → Takes len at before after → (x : ℕ) → within at len x + stock after x ≡ stock before x
stock_taken len at before after (inl t) = free_out len at before after t
stock_taken len at before after (inr t) = behind_out len at before after t

-- the bytes of a page that is given are free afterwards
pub stock_given : (len at : ℕ) (before after : Room) → Gives len at before after → (x : ℕ) → within at len x + stock before x ≡ stock after x
unfolding stock
stock_given len at before after t x =
    let a = ap (λ (t : List (ℕ × ℕ)). covers t x) t.free in
    let b = ap (λ (t : ℕ). from_end t x) t.end in
    omega (arith, covers-append before.free ((at, len) ∷ []) x)

pub all_both : {A : Type 0} (P : A → Type 0) (xs ys : List A) → AllByRecursion P xs → AllByRecursion P ys → AllByRecursion P (xs ++ ys)
all_both P [] ys h k = k
all_both P (x ∷ xs) ys h k = (h.0, all_both P xs ys h.1 k)

pub taken_free : (len i : ℕ) (r : ℕ × ℕ) (before after : Room) → i < length before.free → r ≡ get_or before.free i r → r.1 ≡ len → after.free ≡ take i before.free ++ drop (suc i) before.free → after.end ≡ before.end → TakesFree len r.0 before after
taken_free len i r before after lt is one left end = record {
  front = take i before.free;
  back = drop (suc i) before.free;
  was = sym (take-append-drop i before.free) ∙ ap (λ (t : List (ℕ × ℕ)). take i before.free ++ t) (drop-cons before.free i r lt) ∙ ap (λ (t : ℕ × ℕ). take i before.free ++ t ∷ drop (suc i) before.free) (sym is ∙ ap (λ (n : ℕ). (r.0, n)) one);
  left = left;
  end = end;
}

pub free_whole : (len at : ℕ) (before after : Room) → TakesFree len at before after → IsWhole before → (at % 1024 ≡ 0) × IsWhole after
free_whole len at before after t w =
    let P : ℕ × ℕ → Type 0 = λ r. r.0 % 1024 ≡ 0 in
    let all : AllByRecursion P (t.front ++ (at, len) ∷ t.back) = subst (AllByRecursion P) t.was w.free in
    let right = all_right P t.front ((at, len) ∷ t.back) all in (
      right.0,
      record {
        end = ap (λ (n : ℕ). n % 1024) t.end ∙ w.end;
        free = subst (AllByRecursion P) (sym t.left) (all_both P t.front t.back (all_left P t.front _ all) right.1);
      },
    )

-- a search from the back
pub none_more : (P : ℕ × ℕ → Type 0) (rs : List (ℕ × ℕ)) (i : ℕ) (d : ℕ × ℕ) → i < length rs → P (get_or rs i d) → AllByRecursion P (drop (suc i) rs) → AllByRecursion P (drop i rs)
none_more P rs i d lt one more = subst (AllByRecursion P) (sym (drop-cons rs i d lt)) (one, more)

pub given_whole : (len at : ℕ) (before after : Room) → Gives len at before after → at % 1024 ≡ 0 → IsWhole before → IsWhole after
given_whole len at before after t whole w = record {
  end = ap (λ (n : ℕ). n % 1024) t.end ∙ w.end;
  free = subst (AllByRecursion (λ (r : ℕ × ℕ). r.0 % 1024 ≡ 0)) (sym t.free) (all_both (λ (r : ℕ × ℕ). r.0 % 1024 ≡ 0) before.free ((at, len) ∷ []) w.free (whole, tt));
}
