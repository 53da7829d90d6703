-- The walk of laid pages goes over each of them once.
use Rattle.std.specs.Prelude.{◌≡◌, ℕ, suc, ◌+◌, ◌*◌, List, length}
use Rattle.std.specs.List.{AllByRecursion}
use Rattle.myi_keylist.specs.declared.pair.Pair.{Pair}
use Rattle.myi_btree.specs.Walk.{Places, Walked, content}
use Rattle.myi_btree.specs.LaidPages.{IsLaidAt}
use Rattle.myi_btree.specs.Visit.{HasWalk}

-- From the last of so many pages there is a walk with these pairs. Its pages, of which no two have a byte in common, are
-- as many, and stand where pages were laid.
pub record WalksOnce (read : Places) (block first total : ℕ) (pairs : List Pair) : Type 0 where
  pub before : ℕ
  pub last : total ≡ suc before
  pub walked : Walked
  pub walk : HasWalk block read (first + block * before) walked
  pub content : content walked ≡ pairs
  pub count : length walked.pages ≡ total
  pub pages : AllByRecursion (IsLaidAt block first total) walked.pages
