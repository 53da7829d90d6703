-- What is shown after a window moved and read on.
use Rattle.std.proofs.Common.{◌≡◌, ◌∙◌, ◌+◌, ◌-◌, ◌<◌, ◌≤◌, ℕ, zero, suc, Bool, true, false, List, [], ◌∷◌, ◌++◌, length, take, drop, min, leb, Option, sym, ap, subst, arith, refl, append_assoc, inl, inr}
use Rattle.std.specs.Prelude.{if◌then◌else◌}
use Rattle.std.proofs.Math.Seq.{take-append-add}
use Rattle.std.proofs.lemmas.Bool.{cases_lt, leb-true, le-leb}
use Rattle.std.proofs.lemmas.List.{take_all, take-take, drop-drop, drop-take, length-drop, length-take, length-take-le, take_at}
use Rattle.myi_base.specs.Holding.{Holding}
use Rattle.myi_window.specs.Excerpt.{Excerpt, bytes_from, moved, AreFront, StandsIn, EndsBy, GoesTo}
use Rattle.myi_window.specs.declared.window.TheConstants.{WINDOW}

pub front_take : (n : ℕ) (xs ys : List ℕ) → AreFront xs ys → AreFront (take n xs) ys
front_take zero xs ys front = refl
front_take (suc n) [] ys front = refl
front_take (suc n) (x ∷ xs) [] front = absurd cc
front_take (suc n) (x ∷ xs) (y ∷ ys) front =
    let here : x ≡ y = cc in
    let rest : xs ≡ take (length xs) ys = cc in
    let more = front_take n xs ys rest in
    cc

pub front_drop : (n : ℕ) (xs ys : List ℕ) → AreFront xs ys → AreFront (drop n xs) (drop n ys)
front_drop zero xs ys front = front
front_drop (suc n) [] ys front = refl
front_drop (suc n) (x ∷ xs) [] front = absurd cc
front_drop (suc n) (x ∷ xs) (y ∷ ys) front = front_drop n xs ys cc

front_none : (ys : List ℕ) → AreFront [] ys
front_none ys = refl

-- a front of a front
pub take_both : (n m : ℕ) (xs : List ℕ) → take n (take m xs) ≡ take (min n m) xs
take_both n m xs = elim (cases_lt n m) [
  | inl below ↦ take-take n m xs (omega arith) ∙ ap (λ k. take k xs) (omega arith)
  | inr above ↦ take_all n (take m xs) (omega (arith, length-take m xs)) ∙ ap (λ k. take k xs) (omega arith)
]

pub take_add : (n m : ℕ) (xs : List ℕ) → take (n + m) xs ≡ take n xs ++ take m (drop n xs)
take_add zero m xs =
    let k : 0 + m ≡ m = omega arith in
    ap (λ j. take j xs) k
take_add (suc n) m [] = take_all (suc n + m) [] (omega arith) ∙ sym (take_all m [] (omega arith))
take_add (suc n) m (x ∷ xs) =
    let k : suc n + m ≡ suc (n + m) = omega arith in
    ap (λ j. take j (x ∷ xs)) k ∙ ap (λ (ys : List ℕ). x ∷ ys) (take_add n m xs)

-- the bytes of a file from a place on, up to an end
pub cut_at_end : (from end : ℕ) (d : List ℕ) → from ≤ end → drop from (take end d) ≡ take (end - from) (drop from d)
cut_at_end from end d inside =
    let e : end ≡ from + (end - from) = omega arith in
    ap (λ k. drop from (take k d)) e ∙ drop-take from (end - from) d

-- what a read behind the first of a buffer leaves
pub placed : (skip got room k : ℕ) (buf new post rest : List ℕ) → skip + room ≤ length buf → k ≡ room → got ≡ min (length (take k (drop skip buf))) (length rest) → new ≡ take (length (take k (drop skip buf))) rest ++ drop (length rest) (take k (drop skip buf))
    → take (skip + got) (take skip buf ++ (new ++ post)) ≡ take skip buf ++ take room rest
placed skip got room k buf new post rest inside same told bytes =
    let long : length (take skip buf) ≡ skip = length-take-le skip buf (omega arith) in
    let into : length (take k (drop skip buf)) ≡ room = length-take-le k (drop skip buf) (omega (arith, length-drop skip buf)) ∙ same in
    let count : length (take room rest) ≡ got = length-take room rest ∙ omega arith in
    let tail : List ℕ = drop (length rest) (take k (drop skip buf)) in
    let is : new ++ post ≡ take room rest ++ (tail ++ post) = ap (λ (xs : List ℕ). xs ++ post) (bytes ∙ ap (λ n. take n rest ++ tail) into) ∙ append_assoc (take room rest) tail post in
    ap (λ n. take (n + got) (take skip buf ++ (new ++ post))) (sym long) ∙ take-append-add (take skip buf) (new ++ post) got ∙ ap (λ (xs : List ℕ). take skip buf ++ xs) (ap (take got) is ∙ take_at (take room rest) (tail ++ post) got count)

pub put_front : (skip count : ℕ) (xs post : List ℕ) → count ≤ length xs → skip ≤ count → take (count - skip) (take (count - skip) (drop skip xs) ++ post) ≡ drop skip (take count xs)
put_front skip count xs post inside order =
    let e : count ≡ skip + (count - skip) = omega arith in
    take_at (take (count - skip) (drop skip xs)) post (count - skip) (length-take-le (count - skip) (drop skip xs) (omega (arith, length-drop skip xs)))
    ∙ sym (ap (λ n. drop skip (take n xs)) e ∙ drop-take skip (count - skip) xs)

-- a buffer that grew begins as it did
pub kept_front : (count : ℕ) (old new : List ℕ) → count ≤ length old → take (length old) new ≡ old → take count new ≡ take count old
kept_front count old new order front = sym (take-take count (length old) new order) ∙ ap (take count) front

-- a window that was shown rightly and read on shows all up to an end
full_window : (count got room from end : ℕ) (buf new d : List ℕ) → count ≤ length buf → count + room ≡ end - from → AreFront (take count buf) (drop from d)
    → take (count + got) new ≡ take count buf ++ take room (drop (from + count) d) → take (count + got) new ≡ take (end - from) (drop from d)
full_window count got room from end buf new d inside both front told =
    let long : length (take count buf) ≡ count = length-take-le count buf inside in
    let shown : take count buf ≡ take count (drop from d) = front ∙ ap (λ n. take n (drop from d)) long in
    told ∙ ap (λ (xs : List ℕ). xs ++ take room (drop (from + count) d)) shown ∙ ap (λ (xs : List ℕ). take count (drop from d) ++ take room xs) (sym (drop-drop count from d)) ∙ sym (ap (λ n. take n (drop from d)) (sym both) ∙ take_add count room (drop from d))

-- a window that moves goes on showing the file
pub moved_stands : (at end : ℕ) (s : Excerpt) (d : List ℕ) → StandsIn s d → StandsIn (moved at end s) d
moved_stands at end s d shows = front_take (end - at) (bytes_from at s) (drop at d) (by_place (leb s.from at) refl)
  where
    by_place : (b : Bool) → leb s.from at ≡ b → AreFront (if b then drop (at - s.from) s.bytes else []) (drop at d)
    by_place true e =
        let order : s.from ≤ at = leb-true _ _ e in
        let sum : s.from + (at - s.from) ≡ at = omega arith in
        subst (λ (ys : List ℕ). AreFront (drop (at - s.from) s.bytes) ys) (drop-drop (at - s.from) s.from d ∙ ap (λ n. drop n d) sum) (front_drop (at - s.from) s.bytes (drop s.from d) shows)
    by_place false e = front_none (drop at d)

pub moved_inside : (at end : ℕ) (s : Excerpt) → at ≤ end → at + length (take (end - at) (bytes_from at s)) ≤ end
moved_inside at end s order = omega (arith, length-take (end - at) (bytes_from at s))

-- what is shown from a place on is a front of the file's bytes there
pub excerpt_front : (at : ℕ) (s : Excerpt) (d : List ℕ) → StandsIn s d → AreFront (bytes_from at s) (drop at d)
excerpt_front at s d shows = by_place (leb s.from at) refl
  where
    by_place : (b : Bool) → leb s.from at ≡ b → AreFront (if b then drop (at - s.from) s.bytes else []) (drop at d)
    by_place true e =
        let order : s.from ≤ at = leb-true _ _ e in
        let sum : s.from + (at - s.from) ≡ at = omega arith in
        subst (λ (ys : List ℕ). AreFront (drop (at - s.from) s.bytes) ys) (drop-drop (at - s.from) s.from d ∙ ap (λ n. drop n d) sum) (front_drop (at - s.from) s.bytes (drop s.from d) shows)
    by_place false e = front_none (drop at d)

-- bytes of the file from a place on stand there
pub full_stands : (at n : ℕ) (s : Excerpt) (d : List ℕ) → s.from ≡ at → s.bytes ≡ take n (drop at d) → StandsIn s d
full_stands at n s d from same =
    let front : AreFront (take n (drop at d)) (drop at d) = front_take n (drop at d) (drop at d) (sym (take_all (length (drop at d)) (drop at d) (omega arith))) in
    subst (λ k. AreFront s.bytes (drop k d)) (sym from) (subst (λ (xs : List ℕ). AreFront xs (drop at d)) (sym same) front)

-- the same, said of what the window was
pub full_of : (s : Excerpt) (count got room from end : ℕ) (buf grown old new d : List ℕ) → record { from = from; bytes = take count buf } ≡ s → old ≡ grown → take (length buf) grown ≡ buf → count ≤ length buf → count + room ≡ end - from → StandsIn s d
    → take (count + got) new ≡ take count old ++ take room (drop (from + count) d) → take (count + got) new ≡ take (end - s.from) (drop s.from d)
full_of s count got room from end buf grown old new d view same front inside both shows told =
    let kept : take count old ≡ take count buf = ap (take count) same ∙ kept_front count buf grown inside front in
    subst (λ (w : Excerpt). StandsIn w d → take (count + got) new ≡ take (end - w.from) (drop w.from d)) view (λ shown. full_window count got room from end buf new d inside both shown (told ∙ ap (λ (xs : List ℕ). xs ++ take room (drop (from + count) d)) kept)) shows

-- up to a window behind a place or an end, whichever comes first
pub to_window : (at end to : ℕ) (d : List ℕ) → at ≤ end → to - at ≡ min WINDOW (end - at) → take (to - at) (drop at d) ≡ take WINDOW (drop at (take end d))
to_window at end to d order long =
    ap (λ n. take n (drop at d)) long ∙ sym (ap (take WINDOW) (cut_at_end at end d order) ∙ take_both WINDOW (end - at) (drop at d))

pub excerpt_inside : (at end : ℕ) (s : Excerpt) → at ≤ end → EndsBy end s → at + length (bytes_from at s) ≤ end
excerpt_inside at end s order inside = by_place (leb s.from at) refl
  where
    by_place : (b : Bool) → leb s.from at ≡ b → at + length (if b then drop (at - s.from) s.bytes else []) ≤ end
    by_place true e = omega (arith, leb-true _ _ e, length-drop (at - s.from) s.bytes)
    by_place false e = omega arith

-- what is shown inside an end is a front of the bytes up to there
pub front_to_end : (at end : ℕ) (xs d : List ℕ) → at + length xs ≤ end → AreFront xs (drop at d) → AreFront xs (drop at (take end d))
front_to_end at end xs d inside front =
    front ∙ sym (take-take (length xs) (end - at) (drop at d) (omega arith)) ∙ ap (take (length xs)) (sym (cut_at_end at end d (omega arith)))

pub excerpt_here : (at end : ℕ) (s : Excerpt) (d : List ℕ) → at ≤ end → EndsBy end s → StandsIn s d → AreFront (bytes_from at s) (drop at (take end d))
excerpt_here at end s d order inside shows = front_to_end at end (bytes_from at s) d (excerpt_inside at end s order inside) (excerpt_front at s d shows)

-- a window that was slid to a place and shows less than is asked for there met the end
pub short_excerpt : (at end size : ℕ) (s : Excerpt) (d : List ℕ) → s.from ≡ at → s.bytes ≡ take WINDOW (drop at (take end d)) → size ≤ WINDOW → length (bytes_from at s) < size → length (take end d) < at + size
short_excerpt at end size s d from bytes narrow short =
    let here : leb s.from at ≡ true = le-leb _ _ (omega arith) in
    let is : bytes_from at s ≡ drop (at - s.from) s.bytes = rw here refl in
    let long : length (bytes_from at s) ≡ length s.bytes - (at - s.from) = ap (λ (xs : List ℕ). length xs) is ∙ length-drop (at - s.from) s.bytes in
    let got : length s.bytes ≡ length (take WINDOW (drop at (take end d))) = ap (λ (xs : List ℕ). length xs) bytes in
    omega (arith, long, got, length-take WINDOW (drop at (take end d)), length-drop at (take end d))

-- a call that reads nothing at an end reads nothing at a later one
pub goes_within : (name : List ℕ) (at to end : ℕ) (holds : Option Holding) (old new : Excerpt) → to ≤ end → GoesTo name at to holds old new → GoesTo name at end holds old new
goes_within name at to end holds old new order goes = record { from = goes.from; inside = omega (arith, order, goes.inside); stands = goes.stands }
