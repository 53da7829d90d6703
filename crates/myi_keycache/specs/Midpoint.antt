-- The two lists of a key cache (MySQL Reference Manual, "The MyISAM Key Cache", "Midpoint Insertion Strategy"): pages leave
-- from the beginning of the warm list, and a page that is asked for often goes to the hot list. That the age of a page counts
-- all accesses, also those of pages that were not kept, is this project's own.
use Rattle.std.specs.Prelude.{◌≡◌, ◌⊎◌, ◌==◌, ◌&&◌, ◌||◌, ◌≤◌, ◌+◌, ◌-◌, ◌*◌, ◌/◌, ℕ, Bool, nat_le, nat_lt, List, [], ◌∷◌, ◌++◌, length, drop, find, count_by, slice_get, Option, Some, None, is_some, if◌then◌else◌}
use Rattle.std.specs.Option.{option_or, option_map_or}
use Rattle.myi_keycache.specs.declared.setup.CacheSetup.{CacheSetup}
use Rattle.myi_keycache.specs.Counts.{raised}

-- a page on a list: its place and length, how often it was hit, and the number of the last access to it
pub record Listed : Type 0 where
  pub at : ℕ
  pub len : ℕ
  pub hits : ℕ
  pub last : ℕ

-- both lists, each from its beginning to its end, and how many accesses there were
pub record Lists : Type 0 where
  pub warm : List Listed
  pub hot : List Listed
  pub accesses : ℕ

-- a page is named by its place and its length
abbrev pub is_named : ℕ → ℕ → Listed → Bool
is_named at len page = (page.at == at) && (page.len == len)

-- the page of that name on a list
abbrev pub listed : ℕ → ℕ → List Listed → Option Listed
listed at len pages = find (is_named at len) pages

-- a list without the page of that name
unfoldable pub without : ℕ → ℕ → List Listed → List Listed
without at len [] = []
without at len (page ∷ pages) = if is_named at len page then pages else page ∷ without at len pages

-- all blocks are used
abbrev pub is_full : CacheSetup → Lists → Bool
is_full setup lists = nat_le setup.blocks (length lists.warm + length lists.hot)

-- the lists without their first page: the first warm one, or the first hot one where none is warm
abbrev pub without_first : Lists → Lists
without_first lists = record lists { warm = drop 1 lists.warm; hot = if length lists.warm == 0 then drop 1 lists.hot else lists.hot }

-- a page that was not there goes to the warm end, and takes the place of the first page where all blocks are used
abbrev pub taken_in : CacheSetup → ℕ → ℕ → Lists → Lists
taken_in setup at len lists =
    let room : Lists = if is_full setup lists then without_first lists else lists in
    record room { warm = room.warm ++ record { at = at; len = len; hits = 0; last = lists.accesses } ∷ [] }

-- without the page the warm list still has its share of the blocks
abbrev pub keeps_share : CacheSetup → List Listed → Bool
keeps_share setup rest = nat_le (setup.division * setup.blocks) (length rest * 100)

-- A warm page that was hit has one hit more. With 3 hits or more, and where the warm list keeps its share, it goes to the hot
-- end, else to the warm end.
abbrev pub hit_warm : CacheSetup → Listed → Lists → Lists
hit_warm setup page lists =
    let rest : List Listed = without page.at page.len lists.warm in
    let hit : Listed = record page { hits = raised 1 page.hits; last = lists.accesses } in
    if nat_le 3 hit.hits && keeps_share setup rest then record lists { warm = rest; hot = lists.hot ++ hit ∷ [] } else record lists { warm = rest ++ hit ∷ [] }

-- a hot page that was hit goes to the hot end
abbrev pub hit_hot : Listed → Lists → Lists
hit_hot page lists = record lists { hot = without page.at page.len lists.hot ++ record page { last = lists.accesses } ∷ [] }

-- the lists after an access to a page, before the age is looked at
abbrev pub asked : CacheSetup → ℕ → ℕ → Lists → Lists
asked setup at len lists =
    option_map_or (λ page. hit_warm setup page lists) (listed at len lists.warm)
    (option_map_or (λ page. hit_hot page lists) (listed at len lists.hot) (taken_in setup at len lists))

-- the lists after an access, before the age is looked at
abbrev pub accessed : CacheSetup → Lists → ℕ → ℕ → Lists
accessed setup lists at len = asked setup at len (record lists { accesses = raised 1 lists.accesses })

-- the page that was asked for, as it stands on a list afterwards: a warm page has one hit more, and a page that was not there none
abbrev pub asked_page : Lists → ℕ → ℕ → Listed
asked_page lists at len = record {
  at = at;
  len = len;
  hits = option_map_or (λ page. raised 1 page.hits) (listed at len lists.warm) (option_map_or (λ page. page.hits) (listed at len lists.hot) 0);
  last = raised 1 lists.accesses;
}

-- how many accesses may follow the last one to a hot page before it is old
abbrev pub age_limit : CacheSetup → ℕ
age_limit setup = (setup.blocks * setup.age) / 100

-- where the first hot page is old, it goes to the warm beginning with no hits
abbrev pub aged : CacheSetup → Lists → Lists
aged setup lists =
    option_map_or (λ page. if nat_lt (age_limit setup) (lists.accesses - page.last) then record lists { warm = record page { hits = 0 } ∷ lists.warm; hot = drop 1 lists.hot } else lists)
    (slice_get lists.hot 0) lists

-- the lists after one access to the page of that place and length
unfoldable pub midpoint : CacheSetup → Lists → ℕ → ℕ → Lists
midpoint setup lists at len = aged setup (accessed setup lists at len)

-- the page of that name, on whichever list it is
abbrev pub on_lists : ℕ → ℕ → Lists → Option Listed
on_lists at len lists = option_or (listed at len lists.warm) (listed at len lists.hot)

-- the page of that place and length is on a list
abbrev pub is_listed : Lists → ℕ → ℕ → Bool
is_listed lists at len = is_some (listed at len lists.warm) || is_some (listed at len lists.hot)

-- how often a page of this place and length stands on a list
abbrev pub times : ℕ → ℕ → List Listed → ℕ
times at len pages = count_by (is_named at len) pages

-- no page stands twice on the lists, and there are no more than the cache may keep
pub record AreLists (setup : CacheSetup) (lists : Lists) : Type 0 where
  pub once : (at len : ℕ) → times at len lists.warm + times at len lists.hot ≤ 1
  pub few : length lists.warm + length lists.hot ≤ setup.blocks

-- the page that is the first to leave: the first warm one, or the first hot one where none is warm
abbrev pub IsFirst : Lists → Listed → Type 0
IsFirst lists page = (slice_get lists.warm 0 ≡ Some page) ⊎ ((lists.warm ≡ []) × (slice_get lists.hot 0 ≡ Some page))

-- the page that goes in an access: none where the page is there or a block is free
abbrev pub goes : CacheSetup → Lists → ℕ → ℕ → Option Listed
goes setup lists at len = if is_listed lists at len || nat_lt (length lists.warm + length lists.hot) setup.blocks then None else slice_get (lists.warm ++ lists.hot) 0
