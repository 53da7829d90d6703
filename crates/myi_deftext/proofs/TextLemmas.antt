-- Numbers in a creating text.
use Rattle.std.proofs.Common.{◌≡◌, ℕ, zero, suc, ◌+◌, ◌-◌, ◌*◌, ◌≤◌, ◌<◌, List, [], ◌∷◌, length, take, drop, map, fold, get_or, Option, Some, None, if◌then◌else◌, refl, ap, ◌∙◌, arith}
use Rattle.std.specs.List.{cons_option}
use Rattle.std.proofs.Math.Seq.{drop-cons}
use Rattle.std.proofs.lemmas.List.{length-map, get_or-map}
use Rattle.myi_deftext.specs.declared.text.Line.{Line}
use Rattle.myi_deftext.specs.declared.text.Stage.{Stage}
use Rattle.myi_deftext.specs.Text.{value, line_of, words, said, step, outside, may_end}

pub value-none : value [] ≡ 0
unfolding value
value-none = refl

more_from : (a : ℕ) (w : List ℕ) (i : ℕ) → i < length w → fold (λ n b. n * 10 + (b - 48)) a (take (suc i) w) ≡ fold (λ n b. n * 10 + (b - 48)) a (take i w) * 10 + (get_or w i 0 - 48)
more_from a [] i inside = absurd (omega arith)
more_from a (b ∷ w) zero inside = refl
more_from a (b ∷ w) (suc i) inside = more_from (a * 10 + (b - 48)) w i (omega arith)

-- one more digit
pub value-more : (w : List ℕ) (i : ℕ) → i < length w → value (take (suc i) w) ≡ value (take i w) * 10 + (get_or w i 0 - 48)
unfolding value
value-more w i inside = more_from 0 w i inside

rises : (a : ℕ) (w : List ℕ) → a ≤ fold (λ n b. n * 10 + (b - 48)) a w
rises a [] = omega arith
rises a (b ∷ w) = omega (arith, rises (a * 10 + (b - 48)) w)

part_from : (a : ℕ) (w : List ℕ) (i : ℕ) → fold (λ n b. n * 10 + (b - 48)) a (take i w) ≤ fold (λ n b. n * 10 + (b - 48)) a w
part_from a [] zero = omega arith
part_from a [] (suc i) = omega arith
part_from a (b ∷ w) zero = rises a (b ∷ w)
part_from a (b ∷ w) (suc i) = part_from (a * 10 + (b - 48)) w i

-- the number of some digits is at most that of all
pub value-part : (w : List ℕ) (i : ℕ) → value (take i w) ≤ value w
unfolding value
value-part w i = part_from 0 w i

-- the lines that are left, the first of them at a place
pub left : {A B : Type 0} (f : A → B) (xs : List A) (i : ℕ) (d : A) → i < length xs → drop i (map f xs) ≡ f (get_or xs i d) ∷ drop (i + 1) (map f xs)
left f xs i d inside =
    let count = length-map xs f in
    let index : suc i ≡ i + 1 = omega arith in
    drop-cons (map f xs) i (f d) (omega arith)
    ∙ ap (λ y. y ∷ drop (suc i) (map f xs)) (get_or-map f xs i d (f d) inside)
    ∙ ap (λ j. f (get_or xs i d) ∷ drop j (map f xs)) index

pub said-cons : (l : List ℕ) (ls : List (List ℕ)) (g : Line) → line_of (words l) ≡ Some g → said (l ∷ ls) ≡ g ∷ said ls
said-cons l ls g says = ap (λ (o : Option Line). cons_option o (said ls)) says

-- a line that may not follow is outside
pub stops : (s : Stage) (n : ℕ) (l : List ℕ) (ls : List (List ℕ)) → step s l ≡ None → outside (Some s) n (l ∷ ls) ≡ Some (n + 1)
stops s n l ls same = ap (λ (o : Option Stage). outside o (n + 1) ls) same

pub goes : (s t : Stage) (n : ℕ) (l : List ℕ) (ls : List (List ℕ)) → step s l ≡ Some t → outside (Some s) n (l ∷ ls) ≡ outside (Some t) (n + 1) ls
goes s t n l ls same = ap (λ (o : Option Stage). outside o (n + 1) ls) same

-- and where no line is left the text must be able to end
pub ends : (s : Stage) (n : ℕ) → outside (Some s) n [] ≡ (if may_end s.last then None else Some (n + 1))
ends s n = refl
