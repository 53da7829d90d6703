-- A worked run of accesses to a key cache of 4 blocks, division 50 and age 100.
use Rattle.std.specs.Prelude.{◌≡◌, ℕ, List, [], ◌∷◌, fold}
use Rattle.myi_keycache.specs.declared.setup.CacheSetup.{CacheSetup}
use Rattle.myi_keycache.specs.Midpoint.{Listed, Lists, midpoint}

abbrev pub four_blocks : CacheSetup
four_blocks = record { blocks = 4; division = 50; age = 100 }

-- the page of a number, with its hits and its last access
abbrev pub page_at : ℕ → ℕ → ℕ → Listed
page_at page hits last = record { at = page; len = 1; hits = hits; last = last }

-- the lists after accesses to the pages of these numbers, where none was there before
abbrev pub after_accesses : CacheSetup → List ℕ → Lists
after_accesses setup pages = fold (λ lists page. midpoint setup lists page 1) (record { warm = []; hot = []; accesses = 0 }) pages

-- both lists after so many accesses
abbrev pub lists_at : ℕ → List Listed → List Listed → Lists
lists_at accesses warm hot = record { warm = warm; hot = hot; accesses = accesses }

-- accesses to the pages of these numbers, one after the other, each with the lists after it
abbrev pub Passes : CacheSetup → Lists → List (ℕ × Lists) → Type 0
Passes setup lists [] = Unit {0}
Passes setup lists ((page, next) ∷ run) = (midpoint setup lists page 1 ≡ next) × Passes setup next run

-- the run of 14 accesses, with the lists after each of them
abbrev pub four_run : List (ℕ × Lists)
four_run =
    (0, lists_at 1 (page_at 0 0 1 ∷ []) []) ∷
    (1, lists_at 2 (page_at 0 0 1 ∷ page_at 1 0 2 ∷ []) []) ∷
    (2, lists_at 3 (page_at 0 0 1 ∷ page_at 1 0 2 ∷ page_at 2 0 3 ∷ []) []) ∷
    (3, lists_at 4 (page_at 0 0 1 ∷ page_at 1 0 2 ∷ page_at 2 0 3 ∷ page_at 3 0 4 ∷ []) []) ∷
    (0, lists_at 5 (page_at 1 0 2 ∷ page_at 2 0 3 ∷ page_at 3 0 4 ∷ page_at 0 1 5 ∷ []) []) ∷
    (0, lists_at 6 (page_at 1 0 2 ∷ page_at 2 0 3 ∷ page_at 3 0 4 ∷ page_at 0 2 6 ∷ []) []) ∷
    (0, lists_at 7 (page_at 1 0 2 ∷ page_at 2 0 3 ∷ page_at 3 0 4 ∷ []) (page_at 0 3 7 ∷ [])) ∷
    (4, lists_at 8 (page_at 2 0 3 ∷ page_at 3 0 4 ∷ page_at 4 0 8 ∷ []) (page_at 0 3 7 ∷ [])) ∷
    (2, lists_at 9 (page_at 3 0 4 ∷ page_at 4 0 8 ∷ page_at 2 1 9 ∷ []) (page_at 0 3 7 ∷ [])) ∷
    (3, lists_at 10 (page_at 4 0 8 ∷ page_at 2 1 9 ∷ page_at 3 1 10 ∷ []) (page_at 0 3 7 ∷ [])) ∷
    (4, lists_at 11 (page_at 2 1 9 ∷ page_at 3 1 10 ∷ page_at 4 1 11 ∷ []) (page_at 0 3 7 ∷ [])) ∷
    (2, lists_at 12 (page_at 0 0 7 ∷ page_at 3 1 10 ∷ page_at 4 1 11 ∷ page_at 2 2 12 ∷ []) []) ∷
    (5, lists_at 13 (page_at 3 1 10 ∷ page_at 4 1 11 ∷ page_at 2 2 12 ∷ page_at 5 0 13 ∷ []) []) ∷
    (0, lists_at 14 (page_at 4 1 11 ∷ page_at 2 2 12 ∷ page_at 5 0 13 ∷ page_at 0 0 14 ∷ []) []) ∷ []
