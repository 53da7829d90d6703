-- What is seen by a snapshot.
use Rattle.std.proofs.Common.{◌≡◌, ℕ, zero, suc, ◌-◌, ◌≤◌, Bool, nat_lt, List, [], ◌∷◌, ◌++◌, take, drop, sym, refl, ap, ◌∙◌, arith, cond}
use Rattle.std.proofs.lemmas.Bool.{lt-ltb, le-ltb}
use Rattle.std.proofs.lemmas.List.{append-nil, take-append-drop}
use Rattle.std.proofs.lemmas.List.Elements.{filter-append}
use Rattle.myi_defs.specs.declared.types.Defs.{Defs}
use Rattle.myi_defs.specs.Sound.{IsSound}
use Rattle.myi_pack.specs.Packed.{Values}
use Rattle.myi_state.specs.State.{StoredRow, TableState}
use Rattle.myi_state.specs.Changes.{insert_at_end, accepted}
use Rattle.myi_state.specs.Sound.{IsState}
use Rattle.myi_snapshots.specs.declared.snapshot.Snapshot.{Snapshot}
use Rattle.myi_snapshots.specs.Appended.{with_rows, rows_before, AllFit}
use Rattle.myi_snapshots.specs.Seen.{state_at, seen_rows, IsTaken}
use Rattle.myi_snapshots.proofs.AppendLemmas.{AllBefore, AllFrom, before_end, kept, extended}

before_all : (place : ℕ) (rows : List StoredRow) → AllBefore place rows → rows_before place rows ≡ rows
before_all place [] all = refl
before_all place (r ∷ rows) all = ap (λ (b : Bool). cond b (r ∷ rows_before place rows) (rows_before place rows)) (lt-ltb r.at place all.0) ∙ ap (λ l. r ∷ l) (before_all place rows all.1)

before_none : (low place : ℕ) (rows : List StoredRow) → place ≤ low → AllFrom low rows → rows_before place rows ≡ []
before_none low place [] le all = refl
before_none low place (r ∷ rows) le all =
    let here = all.0 in
    ap (λ (b : Bool). cond b (r ∷ rows_before place rows) (rows_before place rows)) (le-ltb r.at place (omega arith)) ∙ before_none low place rows le all.1

before_both : (place : ℕ) (xs ys : List StoredRow) → rows_before place (xs ++ ys) ≡ rows_before place xs ++ rows_before place ys
before_both place xs ys = filter-append (λ (r : StoredRow). nat_lt r.at place) xs ys

pub by_earlier : (d : Defs) (base : TableState) (rows : List Values) (snap : Snapshot) → IsSound d → IsState d base → AllFit d rows → snap.length ≤ base.space.end
    → seen_rows d base rows snap ≡ rows_before snap.length base.rows
by_earlier d base rows snap sound i fit le =
    let e = extended d base rows sound i fit in
    ap (rows_before snap.length) e.rows ∙ before_both snap.length base.rows e.more
    ∙ ap (λ l. rows_before snap.length base.rows ++ l) (before_none base.space.end snap.length e.more le e.behind)
    ∙ append-nil (rows_before snap.length base.rows)

-- those that came first, and then the others
in_two : (d : Defs) (s : TableState) (xs ys : List Values) → with_rows d s (xs ++ ys) ≡ with_rows d (with_rows d s xs) ys
in_two d s [] ys = refl
in_two d s (x ∷ xs) ys = in_two d (accepted d s (insert_at_end x)).state xs ys

fit_front : (d : Defs) (n : ℕ) (rows : List Values) → AllFit d rows → AllFit d (take n rows)
fit_front d zero rows fit = tt
fit_front d (suc n) [] fit = tt
fit_front d (suc n) (x ∷ xs) fit = (fit.0, fit_front d n xs fit.1)

fit_back : (d : Defs) (n : ℕ) (rows : List Values) → AllFit d rows → AllFit d (drop n rows)
fit_back d zero rows fit = fit
fit_back d (suc n) [] fit = tt
fit_back d (suc n) (x ∷ xs) fit = fit_back d n xs fit.1

pub by_number : (d : Defs) (base : TableState) (number : ℕ) (rows : List Values) (snap : Snapshot) → IsSound d → IsState d base → AllFit d rows → IsTaken d base number rows snap
    → seen_rows d base rows snap ≡ (state_at d base number rows snap.number).rows
by_number d base number rows snap sound i fit taken =
    let n : ℕ = snap.number - number in
    let now : TableState = with_rows d base (take n rows) in
    let state : IsState d now = kept d base (take n rows) sound i (fit_front d n rows fit) in
    let e = extended d now (drop n rows) sound state (fit_back d n rows fit) in
    let all : with_rows d base rows ≡ with_rows d now (drop n rows) = ap (with_rows d base) (sym (take-append-drop n rows)) ∙ in_two d base (take n rows) (drop n rows) in
    ap (λ l. rows_before l (with_rows d base rows).rows) taken.end
    ∙ ap (λ (s : TableState). rows_before now.space.end s.rows) all
    ∙ ap (rows_before now.space.end) e.rows ∙ before_both now.space.end now.rows e.more
    ∙ (λ j. before_all now.space.end now.rows (before_end d now sound state) j ++ before_none now.space.end now.space.end e.more (omega arith) e.behind j)
    ∙ append-nil now.rows
