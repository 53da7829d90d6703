-- What the deleted blocks of a data file name, by the numbers that stand for their places.
use Rattle.std.proofs.Common.{◌≡◌, ◌≤◌, ◌<◌, ◌+◌, ◌⊎◌, inl, inr, ℕ, true, List, [], ◌∷◌, ◌++◌, length, get_or, Option, Some, None, refl, sym, ap, subst, ◌∙◌, arith, length-append}
use Rattle.std.specs.Prelude.{IfSome}
use Rattle.std.proofs.lemmas.Bool.{cases_lt}
use Rattle.std.proofs.lemmas.List.{get_or_append_left, get_or-append-add}
use Rattle.myi_defs.specs.declared.types.Defs.{Defs}
use Rattle.myi_defs.specs.declared.types.RowFormat.{RowFormat}
use Rattle.myi_defs.specs.declared.types.RowFormat.TheVariants.{Static, Dynamic}
use Rattle.myi_pair.specs.Clean.{next_deleted}
use Rattle.myi_pair.specs.FirstBad.{list_bad}
use Rattle.myi_pair.specs.Findings.{names_by, names_before}
use Rattle.myi_check.specs.declared.link.Link.{Link}
use Rattle.myi_check.specs.Rows.{ArePointed}
use Rattle.myi_check.specs.ListWalk.{unit_by, unit_in, place_of, before_in, HaveBefore, MeetsEach, OfRows, AreNextIn, AreNamedIn, IsGoodIn}
use Rattle.myi_check.proofs.UnmetLemmas.{elements_same, pointed_one}

-- ---- lists that grow

-- what holds of each by its index, with one more behind them
pub more_each : (P : ℕ → ℕ → Type 0) (xs : List ℕ) (y : ℕ) → ((k : ℕ) → k < length xs → P k (get_or xs k 0)) → P (length xs) y → (k : ℕ) → k < length (xs ++ y ∷ []) → P k (get_or (xs ++ y ∷ []) k 0)
more_each P xs y each last k lt = by (cases_lt k (length xs))
  where
    by : (k < length xs) ⊎ (length xs ≤ k) → P k (get_or (xs ++ y ∷ []) k 0)
    by (inl front) = subst (P k) (sym (get_or_append_left xs (y ∷ []) 0 k front)) (each k front)
    by (inr behind) =
        let same : length xs ≡ k = omega (arith, lt, behind, length-append xs (y ∷ [])) in
        let is : get_or (xs ++ y ∷ []) (length xs + 0) 0 ≡ y = get_or-append-add xs (y ∷ []) 0 0 in
        let here : get_or (xs ++ y ∷ []) (length xs) 0 ≡ y = ap (λ (j : ℕ). get_or (xs ++ y ∷ []) j 0) (omega arith) ∙ is in
        subst (λ (j : ℕ). P j (get_or (xs ++ y ∷ []) j 0)) same (subst (P (length xs)) (sym here) last)

-- nothing is below no index
pub none_below : (P : ℕ → Type 0) (n : ℕ) → n ≡ 0 → (k : ℕ) → k < n → P k
none_below P n none k lt = absurd (omega (arith, none, lt))

-- what holds below an index, and at it
pub index_more : (P : ℕ → Type 0) (i : ℕ) → ((k : ℕ) → k < i → P k) → P i → (k : ℕ) → k < i + 1 → P k
index_more P i below here k lt = by (cases_lt k i)
  where
    by : (k < i) ⊎ (i ≤ k) → P k
    by (inl front) = below k front
    by (inr behind) = subst P (omega (arith, lt, behind)) here

-- what holds of a value if there is one holds of it
pub some_holds : {A : Type 0} (o : Option A) (x : A) (P : A → Type 0) → o ≡ Some x → IfSome o P → P x
some_holds o x P is holds = subst (λ v. IfSome v P) is holds

-- ---- one deleted block

-- what holds of all places of deleted blocks holds of the one at an index
pub pointed_at : (d : Defs) (end : ℕ) (ps : List ℕ) (i p : ℕ) → i < length ps → p ≡ get_or ps i 0 → ArePointed d end ps → ArePointed d end (p ∷ [])
pointed_at d end ps i p lt is are = pointed_one d end ps p (i, lt, λ other. elements_same ps i other 0 lt ∙ sym is) are

-- the numbers of the next places, with that of one more block
pub next_on : (d : Defs) (unit : ℕ) (places xs rows : List ℕ) (i p y : ℕ) (link : Link) → length xs ≡ i → p ≡ get_or places i 0 → link.next ≡ next_deleted d rows p → link.next ≡ place_of unit y
    → ((k : ℕ) → k < length xs → next_deleted d rows (get_or places k 0) ≡ place_of unit (get_or xs k 0)) → (k : ℕ) → k < length (xs ++ y ∷ []) → next_deleted d rows (get_or places k 0) ≡ place_of unit (get_or (xs ++ y ∷ []) k 0)
next_on d unit places xs rows i p y link long at says stands each =
    more_each (λ k n. next_deleted d rows (get_or places k 0) ≡ place_of unit n) xs y each
    (ap (λ (j : ℕ). next_deleted d rows (get_or places j 0)) long ∙ ap (next_deleted d rows) (sym at) ∙ sym says ∙ stands)

-- the same for what names the places before
pub named_on : (d : Defs) (places marks rows : List ℕ) (i p : ℕ) (before : Option ℕ) → p ≡ get_or places i 0 → before ≡ place_of 4 (before_in (get_or marks i 0)) → names_before d rows p before ≡ true
    → ((k : ℕ) → k < i → names_before d rows (get_or places k 0) (place_of 4 (before_in (get_or marks k 0))) ≡ true) → (k : ℕ) → k < i + 1 → names_before d rows (get_or places k 0) (place_of 4 (before_in (get_or marks k 0))) ≡ true
named_on d places marks rows i p before at is names below =
    index_more (λ k. names_before d rows (get_or places k 0) (place_of 4 (before_in (get_or marks k 0))) ≡ true) i below
    (ap (λ (q : ℕ). names_before d rows q (place_of 4 (before_in (get_or marks i 0)))) (sym at) ∙ ap (names_before d rows p) (sym is) ∙ names)

-- ---- the whole list

-- what names the places before does so in the unit of the table
named_in : (f : RowFormat) (slot_length : ℕ) (places marks rows : List ℕ) → HaveBefore 4 (names_by f rows) places marks → HaveBefore (unit_by f slot_length) (names_by f rows) places marks
named_in Static slot_length places marks rows named = λ k lt. refl
named_in Dynamic slot_length places marks rows named = named

pub good : (d : Defs) (end unit : ℕ) (places numbers marks : List ℕ) (first : ℕ) (head : Option ℕ) (rows : List ℕ) → unit ≡ unit_in d → head ≡ place_of unit first → MeetsEach unit places numbers marks first
    → OfRows d end places (AreNextIn d places numbers) rows → OfRows d end places (AreNamedIn d places marks) rows → OfRows d end places (IsGoodIn d places head) rows
good d end unit places numbers marks first head rows in_units is each nexts named = λ size up points.
    ap (λ (o : Option ℕ). list_bad (next_deleted d rows) (names_before d rows) (length places) places None o) (is ∙ ap (λ (u : ℕ). place_of u first) in_units)
    ∙ subst (λ (u : ℕ). MeetsEach u places numbers marks first) in_units each (next_deleted d rows) (names_before d rows) up (nexts size up points) (named_in d.format d.slot_length places marks rows (named size up points))
