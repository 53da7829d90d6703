-- A text that is appended piece by piece, and parts of a buffer that grows.
use Rattle.std.proofs.Common.{◌≡◌, ℕ, ◌+◌, ◌-◌, ◌<◌, ◌≤◌, Bool, true, false, cond, List, [], ◌∷◌, ◌++◌, map, filter, length, take, drop, get_or, nat_lt, Option, Some, refl, sym, ap, subst, ◌∙◌, arith, append_assoc, append-nil, length-append}
use Rattle.std.specs.List.{AllByRecursion, flat_map, slice_range}
use Rattle.std.specs.Prelude.{Result, Ok, Err, OnOk, OnErr}
use Rattle.std.proofs.Math.Seq.{take-append-add, drop-append-add}
use Rattle.std.proofs.lemmas.Bool.Decides.{nat_tests}
use Rattle.std.proofs.lemmas.List.{map-append, take_at, take_all, drop_at, drop_all, drop_more, length-drop, take-append-drop, take-append-le, drop-append-le}
use Rattle.std.proofs.lemmas.List.Edits.{length-between}
use Rattle.std.proofs.lemmas.List.Elements.{All-get_or, All-from_recursion}
use Rattle.std.proofs.lemmas.List.Folds.{drop_split}
use Rattle.myi_base.specs.Holding.{IfTold}
use Rattle.myi_base.specs.Output.{Appends, AppendsPart}
use Rattle.myi_history.specs.declared.round_texts.Said.{Said}
use Rattle.myi_history.specs.RoundTexts.{LineText, part_of, said_in, IsWithin, moved_by}

-- ---- a text that is appended

-- of a text all was appended but this rest
pub record Front (old new text rest : List ℕ) : Type 0 where
  pub done : List ℕ
  pub is : new ≡ old ++ done
  pub whole : text ≡ done ++ rest

-- nothing yet
pub front_none : (old text : List ℕ) → Front old old text text
front_none old text = record { done = []; is = sym (append-nil old); whole = refl }

-- one piece more
pub front_more : (old mid new text piece rest : List ℕ) → Front old mid text (piece ++ rest) → new ≡ mid ++ piece → Front old new text rest
front_more old mid new text piece rest f more = record {
  done = f.done ++ piece;
  is = more ∙ ap (λ t. t ++ piece) f.is ∙ append_assoc old f.done piece;
  whole = f.whole ∙ sym (append_assoc f.done piece rest);
}

-- the rest in other words
pub front_rest : (old new text rest other : List ℕ) → rest ≡ other → Front old new text rest → Front old new text other
front_rest old new text rest other e f = record { done = f.done; is = f.is; whole = f.whole ∙ ap (λ t. f.done ++ t) e }

-- all
pub front_all : (old new text : List ℕ) → Front old new text [] → new ≡ old ++ text
front_all old new text f = f.is ∙ ap (λ t. old ++ t) (sym (append-nil f.done) ∙ sym f.whole)

-- a first part was appended
pub front_part : (old new text rest : List ℕ) → Front old new text rest → AppendsPart text (Some new) old
front_part old new text rest f = (
  length f.done,
  omega (arith, ap (λ t. length t) f.whole, length-append f.done rest),
  ap (λ (t : List ℕ). Some t) (f.is ∙ ap (λ t. old ++ t) (sym (ap (take (length f.done)) f.whole ∙ take_at f.done rest (length f.done) refl))),
)

some_is : (x y : List ℕ) → Some x ≡ Some y → x ≡ y
some_is x y e = let k = e in cc

-- a first part of the next piece was appended
pub part_more : (old mid text piece rest : List ℕ) (new : Option (List ℕ)) → Front old mid text (piece ++ rest) → AppendsPart piece new mid → AppendsPart text new old
part_more old mid text piece rest new f p =
    let left : piece ≡ take p.0 piece ++ drop p.0 piece = sym (take-append-drop p.0 piece) in
    let grown : Front old (mid ++ take p.0 piece) text (drop p.0 piece ++ rest) =
    front_more old mid (mid ++ take p.0 piece) text (take p.0 piece) (drop p.0 piece ++ rest)
    (front_rest old mid text (piece ++ rest) (take p.0 piece ++ (drop p.0 piece ++ rest)) (ap (λ t. t ++ rest) left ∙ append_assoc (take p.0 piece) (drop p.0 piece) rest) f) refl in
    subst (λ t. AppendsPart text t old) (sym p.2) (front_part old (mid ++ take p.0 piece) text (drop p.0 piece ++ rest) grown)

pub part_same : (old mid new text rest : List ℕ) → Front old mid text rest → new ≡ mid → AppendsPart text (Some new) old
part_same old mid new text rest f same = subst (λ (t : List ℕ). AppendsPart text (Some t) old) (sym same) (front_part old mid text rest f)

-- a text and a first part of the one behind it
pub part_behind : (old mid new text rest : List ℕ) → mid ≡ old ++ text → AppendsPart rest (Some new) mid → AppendsPart (text ++ rest) (Some new) old
part_behind old mid new text rest e part =
    part_more old mid (text ++ rest) rest [] (Some new)
    (front_rest old mid (text ++ rest) rest (rest ++ []) (sym (append-nil rest)) (front_more old old mid (text ++ rest) text rest (front_none old (text ++ rest)) e)) part

-- nothing was appended
pub part_none : (old new text : List ℕ) → new ≡ old → AppendsPart text (Some new) old
part_none old new text same = part_same old old new text text (front_none old text) same

-- a first part was appended, by some bytes
pub part_is : (old new text : List ℕ) (p : AppendsPart text (Some new) old) → new ≡ old ++ take p.0 text
part_is old new text p = some_is new (old ++ take p.0 text) p.2

-- of those that pass a test one more was appended, or one was left out
passed_next : {X : Type 0} (p : X → Bool) (f : X → List ℕ) (xs : List X) (i : ℕ) (x : X) (b : Bool) → i < length xs → x ≡ get_or xs i x → p x ≡ b
    → flat_map f (filter p (drop i xs)) ≡ flat_map f (cond b (x ∷ filter p (drop (i + 1) xs)) (filter p (drop (i + 1) xs)))
passed_next p f xs i x b lt is tells =
    ap (λ us. flat_map f (filter p us)) (drop_more xs i x lt ∙ ap (λ y. y ∷ drop (i + 1) xs) (sym is))
    ∙ ap (λ q. flat_map f (cond q (x ∷ filter p (drop (i + 1) xs)) (filter p (drop (i + 1) xs)))) tells

pub front_passed : {X : Type 0} (p : X → Bool) (f : X → List ℕ) (old mid new text : List ℕ) (xs : List X) (i : ℕ) (x : X) → i < length xs → x ≡ get_or xs i x → Front old mid text (flat_map f (filter p (drop i xs))) → p x ≡ true → new ≡ mid ++ f x
    → Front old new text (flat_map f (filter p (drop (i + 1) xs)))
front_passed p f old mid new text xs i x lt is so passes more =
    front_more old mid new text (f x) (flat_map f (filter p (drop (i + 1) xs)))
    (front_rest old mid text (flat_map f (filter p (drop i xs))) (f x ++ flat_map f (filter p (drop (i + 1) xs))) (passed_next p f xs i x true lt is passes) so) more

pub front_left : {X : Type 0} (p : X → Bool) (f : X → List ℕ) (old mid text : List ℕ) (xs : List X) (i : ℕ) (x : X) → i < length xs → x ≡ get_or xs i x → Front old mid text (flat_map f (filter p (drop i xs))) → p x ≡ false → Front old mid text (flat_map f (filter p (drop (i + 1) xs)))
front_left p f old mid text xs i x lt is so fails =
    front_rest old mid text (flat_map f (filter p (drop i xs))) (flat_map f (filter p (drop (i + 1) xs))) (passed_next p f xs i x false lt is fails) so

pub test_yes : (a b : ℕ) → a < b → nat_lt a b ≡ true
test_yes a b h = grind (arith, nat_tests)

pub test_no : (a b : ℕ) → b ≤ a → nat_lt a b ≡ false
test_no a b h = grind (arith, nat_tests)

-- at an error this holds
pub on_err : {T E : Type 0} (r : Result T E) (P : Type 0) → P → OnErr r P
on_err (Ok x) P p = tt
on_err (Err e) P p = p

-- ---- what was written to an output

-- what stood there is told, and of the text all was written but this rest
abbrev pub Wrote : Option (List ℕ) → Option (List ℕ) → List ℕ → List ℕ → Type 0
Wrote v w text rest = IfTold v (λ b. (c : List ℕ) × (w ≡ Some c) × Front b c text rest)

pub wrote_none : (v : Option (List ℕ)) (text rest : List ℕ) → rest ≡ text → Wrote v v text rest
wrote_none v text rest e b told = (b, told, front_rest b b text text rest (sym e) (front_none b text))

pub wrote_more : (v w u : Option (List ℕ)) (text piece rest : List ℕ) → Wrote v w text (piece ++ rest) → IfTold w (Appends piece u) → Wrote v u text rest
wrote_more v w u text piece rest so more b told =
    let s = so b told in
    (s.0 ++ piece, more s.0 s.1, front_more b s.0 (s.0 ++ piece) text piece rest s.2 refl)

pub wrote_rest : (v w : Option (List ℕ)) (text rest other : List ℕ) → rest ≡ other → Wrote v w text rest → Wrote v w text other
wrote_rest v w text rest other e so b told = let s = so b told in (s.0, s.1, front_rest b s.0 text rest other e s.2)

pub wrote_all : (v w u : Option (List ℕ)) (text piece : List ℕ) → Wrote v w text (piece ++ []) → IfTold w (Appends piece u) → IfTold v (Appends text u)
wrote_all v w u text piece so more b told =
    let s = wrote_more v w u text piece [] so more b told in
    s.1 ∙ ap (λ (t : List ℕ). Some t) (front_all b s.0 text s.2)

pub wrote_part : (v w u : Option (List ℕ)) (text piece rest : List ℕ) → Wrote v w text (piece ++ rest) → IfTold w (AppendsPart piece u) → IfTold v (AppendsPart text u)
wrote_part v w u text piece rest so part b told = let s = so b told in part_more b s.0 text piece rest u s.2 (part s.0 s.1)

-- ---- parts of a buffer

-- two parts that follow one another
pub range_join : (bytes : List ℕ) (i j k : ℕ) → i ≤ j → j ≤ k → j ≤ length bytes → slice_range bytes i k ≡ slice_range bytes i j ++ slice_range bytes j k
range_join bytes i j k low high within =
    let long : length (slice_range bytes i j) ≡ j - i = length-between bytes i j within in
    let size : k - i ≡ length (slice_range bytes i j) + (k - j) = omega (arith, long) in
    ap (take (k - i)) (drop_split bytes i j low)
    ∙ ap (λ n. take n (slice_range bytes i j ++ drop j bytes)) size
    ∙ take-append-add (slice_range bytes i j) (drop j bytes) (k - j)

-- a part of the buffer as it was
pub range_kept : (bytes more : List ℕ) (i j : ℕ) → i ≤ j → j ≤ length bytes → slice_range (bytes ++ more) i j ≡ slice_range bytes i j
range_kept bytes more i j low high =
    let long : length (drop i bytes) ≡ length bytes - i = length-drop i bytes in
    ap (take (j - i)) (drop-append-le i bytes more (omega arith)) ∙ take-append-le (j - i) (drop i bytes) more (omega (arith, long))

-- the part that came last
pub range_last : (bytes more : List ℕ) → slice_range (bytes ++ more) (length bytes) (length (bytes ++ more)) ≡ more
range_last bytes more =
    let size : length (bytes ++ more) - length bytes ≡ length more = omega (arith, length-append bytes more) in
    ap (take (length (bytes ++ more) - length bytes)) (drop_at bytes more (length bytes) refl) ∙ ap (λ n. take n more) size ∙ take_all (length more) more (omega arith)

pub within_at : (n : ℕ) (xs : List Said) (i : ℕ) (d : Said) → i < length xs → AllByRecursion (IsWithin n) xs → IsWithin n (get_or xs i d)
within_at n xs i d lt h = All-get_or (IsWithin n) xs i d lt (All-from_recursion (IsWithin n) xs h)

-- ---- parts that are written

abbrev pub parts_from : List ℕ → List Said → ℕ → List ℕ
parts_from bytes said i = flat_map (part_of bytes) (drop i said)

-- what waited was written, and the next part waits
pub parts_next : (v w u : Option (List ℕ)) (text bytes piece : List ℕ) (said : List Said) (i : ℕ) (d : Said) → i < length said → Wrote v w text (piece ++ parts_from bytes said i) → IfTold w (Appends piece u)
    → Wrote v u text (part_of bytes (get_or said i d) ++ parts_from bytes said (i + 1))
parts_next v w u text bytes piece said i d lt so more =
    wrote_rest v u text _ _ (ap (λ xs. flat_map (part_of bytes) xs) (drop_more said i d lt)) (wrote_more v w u text piece (parts_from bytes said i) so more)

-- the next part follows what waits, and waits with it
pub parts_joined : (v w : Option (List ℕ)) (text bytes : List ℕ) (from to : ℕ) (said : List Said) (i : ℕ) (d : Said) → i < length said → from ≤ to → to ≤ length bytes → (get_or said i d).from ≡ to → to ≤ (get_or said i d).to
    → Wrote v w text (slice_range bytes from to ++ parts_from bytes said i) → Wrote v w text (slice_range bytes from (get_or said i d).to ++ parts_from bytes said (i + 1))
parts_joined v w text bytes from to said i d lt low within starts high so =
    let x : Said = get_or said i d in
    let more : List ℕ = parts_from bytes said (i + 1) in
    wrote_rest v w text _ _
    (ap (λ xs. slice_range bytes from to ++ flat_map (part_of bytes) xs) (drop_more said i d lt)
    ∙ ap (λ n. slice_range bytes from to ++ (slice_range bytes n x.to ++ more)) starts
    ∙ sym (append_assoc (slice_range bytes from to) (slice_range bytes to x.to) more)
    ∙ ap (λ t. t ++ more) (sym (range_join bytes from to x.to low high within))) so

-- no part is left
pub parts_done : (v w : Option (List ℕ)) (text bytes piece : List ℕ) (said : List Said) (i : ℕ) → length said ≤ i → Wrote v w text (piece ++ parts_from bytes said i) → Wrote v w text (piece ++ [])
parts_done v w text bytes piece said i all so = wrote_rest v w text _ _ (ap (λ xs. piece ++ flat_map (part_of bytes) xs) (drop_all i said all)) so

-- ---- texts that are noted

pub within_more : (m n : ℕ) (xs : List Said) → m ≤ n → AllByRecursion (IsWithin m) xs → AllByRecursion (IsWithin n) xs
within_more m n [] le h = tt
within_more m n (x ∷ xs) le h = ((h.0.0, let l : x.to ≤ m = h.0.1 in omega arith), within_more m n xs le h.1)

within_add : (n : ℕ) (xs : List Said) (x : Said) → AllByRecursion (IsWithin n) xs → IsWithin n x → AllByRecursion (IsWithin n) (xs ++ x ∷ [])
within_add n [] x h k = (k, tt)
within_add n (y ∷ xs) x h k = (h.0, within_add n xs x h.1 k)

-- the texts stand where they stood
pub texts_kept : (bytes more : List ℕ) (xs : List Said) → AllByRecursion (IsWithin (length bytes)) xs → map (said_in (bytes ++ more)) xs ≡ map (said_in bytes) xs
texts_kept bytes more [] h = refl
texts_kept bytes more (x ∷ xs) h = two (ap (λ t. (x.line, t)) (range_kept bytes more x.from x.to h.0.0 h.0.1)) (texts_kept bytes more xs h.1)
  where
    two : {a b : LineText} {us vs : List LineText} → a ≡ b → us ≡ vs → a ∷ us ≡ b ∷ vs
    two e f = cc

texts_more : (bytes : List ℕ) (xs : List Said) (x : Said) → map (said_in bytes) (xs ++ x ∷ []) ≡ map (said_in bytes) xs ++ said_in bytes x ∷ []
texts_more bytes [] x = refl
texts_more bytes (y ∷ xs) x = ap (λ t. said_in bytes y ∷ t) (texts_more bytes xs x)

-- what is noted of the text of a line that came behind others
abbrev pub noted : ℕ → ℕ → ℕ → Said
noted line from to = record { line = line; from = from; to = to }

-- bytes came behind the texts, and were noted as the text of a line
pushed_texts : (line : ℕ) (old new text : List ℕ) (xs ys : List Said) → AllByRecursion (IsWithin (length old)) xs → new ≡ old ++ text → ys ≡ xs ++ noted line (length old) (length new) ∷ []
    → map (said_in new) ys ≡ map (said_in old) xs ++ (line, text) ∷ []
pushed_texts line old new text xs ys h grown more =
    ap (map (said_in new)) more
    ∙ texts_more new xs (noted line (length old) (length new))
    ∙ ap (λ q. map (said_in q) xs ++ (line, slice_range q (length old) (length q)) ∷ []) grown
    ∙ ap (λ q. q ++ (line, slice_range (old ++ text) (length old) (length (old ++ text))) ∷ []) (texts_kept old text xs h)
    ∙ ap (λ q. map (said_in old) xs ++ (line, q) ∷ []) (range_last old text)

pushed_within : (line : ℕ) (old new text : List ℕ) (xs ys : List Said) → AllByRecursion (IsWithin (length old)) xs → new ≡ old ++ text → ys ≡ xs ++ noted line (length old) (length new) ∷ [] → AllByRecursion (IsWithin (length new)) ys
pushed_within line old new text xs ys h grown more =
    let le : length old ≤ length new = omega (arith, length-append old text, ap (λ t. length t) grown) in
    subst (AllByRecursion (IsWithin (length new))) (sym more) (within_add (length new) xs (noted line (length old) (length new)) (within_more (length old) (length new) xs le h) (le, omega arith))

-- bytes came behind the texts, and no text was noted
grown_texts : (old new text : List ℕ) (xs ys : List Said) → AllByRecursion (IsWithin (length old)) xs → new ≡ old ++ text → ys ≡ xs → map (said_in new) ys ≡ map (said_in old) xs
grown_texts old new text xs ys h grown same = ap (map (said_in new)) same ∙ ap (λ q. map (said_in q) xs) grown ∙ texts_kept old text xs h

grown_within : (old new text : List ℕ) (xs ys : List Said) → AllByRecursion (IsWithin (length old)) xs → new ≡ old ++ text → ys ≡ xs → AllByRecursion (IsWithin (length new)) ys
grown_within old new text xs ys h grown same =
    let le : length old ≤ length new = omega (arith, length-append old text, ap (λ t. length t) grown) in
    subst (AllByRecursion (IsWithin (length new))) (sym same) (within_more (length old) (length new) xs le h)

-- what noting a text leaves, by its outcome
pub noted_within : {T E : Type 0} (r : Result T E) (line from to : ℕ) (old new text : List ℕ) (xs ys : List Said) → AllByRecursion (IsWithin (length old)) xs → new ≡ old ++ text → from ≡ length old → to ≡ length new
    → OnOk r (ys ≡ xs ++ noted line from to ∷ []) → OnErr r (ys ≡ xs) → AllByRecursion (IsWithin (length new)) ys
noted_within (Ok x) line from to old new text xs ys h grown first last ok err = pushed_within line old new text xs ys h grown (ok ∙ ap (λ n. xs ++ noted line n to ∷ []) first ∙ ap (λ n. xs ++ noted line (length old) n ∷ []) last)
noted_within (Err x) line from to old new text xs ys h grown first last ok err = grown_within old new text xs ys h grown err

pub noted_texts : {T E : Type 0} (r : Result T E) (line from to : ℕ) (old new text : List ℕ) (xs ys : List Said) (was : List LineText) → AllByRecursion (IsWithin (length old)) xs → new ≡ old ++ text → from ≡ length old → to ≡ length new → map (said_in old) xs ≡ was
    → OnOk r (ys ≡ xs ++ noted line from to ∷ []) → OnOk r (map (said_in new) ys ≡ was ++ (line, text) ∷ [])
noted_texts (Ok x) line from to old new text xs ys was h grown first last is ok =
    pushed_texts line old new text xs ys h grown (ok ∙ ap (λ n. xs ++ noted line n to ∷ []) first ∙ ap (λ n. xs ++ noted line (length old) n ∷ []) last) ∙ ap (λ q. q ++ (line, text) ∷ []) is
noted_texts (Err x) line from to old new text xs ys was h grown first last is ok = tt

pub noted_none : {T E : Type 0} (r : Result T E) (old new text : List ℕ) (xs ys : List Said) (was : List LineText) → AllByRecursion (IsWithin (length old)) xs → new ≡ old ++ text → map (said_in old) xs ≡ was
    → OnErr r (ys ≡ xs) → OnErr r (map (said_in new) ys ≡ was)
noted_none (Ok x) old new text xs ys was h grown is err = tt
noted_none (Err x) old new text xs ys was h grown is err = grown_texts old new text xs ys h grown err ∙ is

-- memory ran out with a part of the text appended
pub cut_texts : (old new text : List ℕ) (xs : List Said) (was : List LineText) → AllByRecursion (IsWithin (length old)) xs → AppendsPart text (Some new) old → map (said_in old) xs ≡ was → map (said_in new) xs ≡ was
cut_texts old new text xs was h part is = grown_texts old new (take part.0 text) xs xs h (part_is old new text part) refl ∙ is

pub cut_within : (old new text : List ℕ) (xs : List Said) → AllByRecursion (IsWithin (length old)) xs → AppendsPart text (Some new) old → AllByRecursion (IsWithin (length new)) xs
cut_within old new text xs h part = grown_within old new (take part.0 text) xs xs h (part_is old new text part) refl

-- ---- texts of another buffer

pub within_all : (n : ℕ) (xs ys : List Said) → AllByRecursion (IsWithin n) xs → AllByRecursion (IsWithin n) ys → AllByRecursion (IsWithin n) (xs ++ ys)
within_all n [] ys h k = k
within_all n (x ∷ xs) ys h k = (h.0, within_all n xs ys h.1 k)

pub moved_within : (m n by : ℕ) (xs : List Said) → AllByRecursion (IsWithin m) xs → by + m ≤ n → AllByRecursion (IsWithin n) (map (moved_by by) xs)
moved_within m n by [] h le = tt
moved_within m n by (x ∷ xs) h le =
    let low : x.from ≤ x.to = h.0.0 in
    let high : x.to ≤ m = h.0.1 in
    ((omega (arith, low), omega (arith, high, le)), moved_within m n by xs h.1 le)

range_moved : (a b : List ℕ) (i j : ℕ) → slice_range (a ++ b) (length a + i) (length a + j) ≡ slice_range b i j
range_moved a b i j =
    ap (λ (n : ℕ). take n (drop (length a + i) (a ++ b))) (let e : (length a + j) - (length a + i) ≡ j - i = omega arith in e) ∙ ap (take (j - i)) (drop-append-add a b i)

two_texts : (a b : LineText) (us vs : List LineText) → a ≡ b → us ≡ vs → a ∷ us ≡ b ∷ vs
two_texts a b us vs one more = ap (λ (t : LineText). t ∷ us) one ∙ ap (λ (l : List LineText). b ∷ l) more

pub texts_moved : (a b : List ℕ) (xs : List Said) → map (said_in (a ++ b)) (map (moved_by (length a)) xs) ≡ map (said_in b) xs
texts_moved a b [] = refl
texts_moved a b (x ∷ xs) = two_texts _ _ _ _ (ap (λ (t : List ℕ). (x.line, t)) (range_moved a b x.from x.to)) (texts_moved a b xs)

-- the texts stand where they stood
pub texts_grown : (a b new : List ℕ) (xs : List Said) (old : List LineText) → AllByRecursion (IsWithin (length a)) xs → new ≡ a ++ b → old ≡ map (said_in a) xs → map (said_in new) xs ≡ old
texts_grown a b new xs old h is is_old = ap (λ (t : List ℕ). map (said_in t) xs) is ∙ texts_kept a b xs h ∙ sym is_old

pub within_grown : (a b new : List ℕ) (xs same : List Said) → AllByRecursion (IsWithin (length a)) xs → new ≡ a ++ b → same ≡ xs → AllByRecursion (IsWithin (length new)) same
within_grown a b new xs same h is kept =
    let long : length new ≡ length a + length b = ap (λ (l : List ℕ). length l) is ∙ length-append a b in
    subst (AllByRecursion (IsWithin (length new))) (sym kept) (within_more (length a) (length new) xs (omega (arith, long)) h)

-- texts of another buffer stand behind those of this one
pub texts_joined : (a b new : List ℕ) (by : ℕ) (xs ys moved both : List Said) (old more : List LineText) → AllByRecursion (IsWithin (length a)) xs → new ≡ a ++ b → by ≡ length a → moved ≡ map (moved_by by) ys → both ≡ xs ++ moved → old ≡ map (said_in a) xs → more ≡ map (said_in b) ys → map (said_in new) both ≡ old ++ more
texts_joined a b new by xs ys moved both old more h is_new is_by is_moved is_both is_old is_more =
    let moved_are : moved ≡ map (moved_by (length a)) ys = is_moved ∙ ap (λ (n : ℕ). map (moved_by n) ys) is_by in
    ap (λ (t : List ℕ). map (said_in t) both) is_new ∙ ap (map (said_in (a ++ b))) is_both ∙ map-append (said_in (a ++ b)) xs moved
    ∙ ap (λ (t : List LineText). t ++ map (said_in (a ++ b)) moved) (texts_kept a b xs h ∙ sym is_old)
    ∙ ap (λ (t : List Said). old ++ map (said_in (a ++ b)) t) moved_are ∙ ap (λ (t : List LineText). old ++ t) (texts_moved a b ys ∙ sym is_more)

pub joined_within : (a b new : List ℕ) (by : ℕ) (xs ys moved both : List Said) → AllByRecursion (IsWithin (length a)) xs → AllByRecursion (IsWithin (length b)) ys → new ≡ a ++ b → by ≡ length a → moved ≡ map (moved_by by) ys → both ≡ xs ++ moved → AllByRecursion (IsWithin (length new)) both
joined_within a b new by xs ys moved both h k is_new is_by is_moved is_both =
    let long : length new ≡ length a + length b = ap (λ (l : List ℕ). length l) is_new ∙ length-append a b in
    let moved_are : moved ≡ map (moved_by (length a)) ys = is_moved ∙ ap (λ (n : ℕ). map (moved_by n) ys) is_by in
    subst (AllByRecursion (IsWithin (length new))) (sym (is_both ∙ ap (λ (l : List Said). xs ++ l) moved_are)) (within_all (length new) xs (map (moved_by (length a)) ys) (within_more (length a) (length new) xs (omega (arith, long)) h) (moved_within (length b) (length new) (length a) ys k (omega (arith, long))))
