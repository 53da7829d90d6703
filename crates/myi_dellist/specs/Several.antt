-- Areas that are released one after another, where all is read before anything is written: what is seen of a deleted block is
-- what the releases before it will write there, and else what stands in the file.
use Rattle.std.specs.Prelude.{◌≡◌, ℕ, ◌+◌, ◌==◌, nat_le, if◌then◌else◌, List, [], ◌∷◌, ◌++◌, Option, Some, None, Result, Ok, Err}
use Rattle.std.specs.List.{AllByRecursion}
use Rattle.std.specs.Option.{option_copied, unwrap_or}
use Rattle.myi_frames.specs.declared.head.Head.{Head}
use Rattle.myi_dellist.specs.declared.linked.Linked.{Linked}
use Rattle.myi_dellist.specs.declared.linked.ReleasePlan.{ReleasePlan}
use Rattle.myi_dellist.specs.declared.linked.Sight.{Sight}
use Rattle.myi_dellist.specs.Heads.{over}
use Rattle.myi_dellist.specs.Areas.{Area, AreApart}
use Rattle.myi_dellist.specs.Releasing.{most_size, hole_at, front_part, back_part, release_one, IsHole}
use Rattle.myi_dellist.specs.Standing.{with_head, release_one_bytes}
use Rattle.myi_dellist.specs.Freeing.{hole_in, plan_in, area_at, place_at, joined_size, first_head, IsHoleIn}
use Rattle.myi_dellist.specs.Planning.{alone_by}

-- ---- what is seen

-- no deleted block is seen at this place, where there is one
abbrev pub hide : Option ℕ → (ℕ → Option Head) → (ℕ → Option Head)
hide None seen = seen
hide (Some q) seen = λ p. if q == p then None else seen p

-- the headers that a reader has planned to write
abbrev pub planned_in : Sight → List Head
planned_in s = unwrap_or (option_copied s.heads) []

-- what a reader sees that has planned to write headers
abbrev pub seen_in : Sight → List ℕ → (ℕ → Option Head)
seen_in s d = hide s.hidden (over (planned_in s) (hole_in d))

-- these headers are those of deleted blocks in the file
abbrev pub IsSight : Sight → Type 0
IsSight s = AllByRecursion (IsHoleIn s.end) (planned_in s)

-- ---- the headers that a release writes, in their order

-- the block before one that is taken off names the next, and the one behind it names the one before
abbrev pub before_heads : Head → Option Head → List Head
before_heads hole None = []
before_heads hole (Some b) = record b { next = hole.next } ∷ []

abbrev pub behind_heads : Head → Option Head → List Head
behind_heads hole None = []
behind_heads hole (Some b) = record b { prev = hole.prev } ∷ []

abbrev pub joined_heads : Option Linked → List Head
joined_heads None = []
joined_heads (Some l) = before_heads l.hole l.before ++ behind_heads l.hole l.behind

-- the first block names the area before it
abbrev pub first_heads : ℕ → Option Head → List Head
first_heads at None = []
first_heads at (Some f) = record f { prev = Some at } ∷ []

abbrev pub plan_heads : Area → ReleasePlan → List Head
plan_heads a p = joined_heads p.joined ++ (first_head (record { at = a.at; size = joined_size a.size p.joined }) (place_at p.first) ∷ first_heads a.at p.first)

-- ---- several releases

abbrev pub with_heads : List Head → Result (List Head) ℕ → Result (List Head) ℕ
with_heads heads (Ok more) = Ok (heads ++ more)
with_heads heads (Err p) = Err p

abbrev pub heads_by : Area → (List Head → Result (List Head) ℕ) → Result ReleasePlan ℕ → Result (List Head) ℕ
heads_by a go (Ok plan) = with_heads (plan_heads a plan) (go (plan_heads a plan))
heads_by a go (Err p) = Err p

-- the place of the next area that is released
abbrev pub next_of : List Area → Option ℕ
next_of [] = None
next_of (a ∷ areas) = Some a.at

-- The headers that releases of these areas write, or the place of the first block that is not what the list needs. The area that
-- is released next is not deleted yet, whatever its bytes are.
abbrev pub heads_in : (ℕ → Option Head) → Option ℕ → List Area → Result (List Head) ℕ
heads_in seen head [] = Ok []
heads_in seen head (a ∷ areas) = heads_by a (λ heads. heads_in (over heads seen) (Some a.at) areas) (plan_in (hide (next_of areas) seen) head a.at a.size)

-- how many deleted blocks they add to the list: one for each area that is joined with none
abbrev pub added_by : Area → (List Head → ℕ) → Result ReleasePlan ℕ → ℕ
added_by a go (Ok plan) = alone_by plan.joined + go (plan_heads a plan)
added_by a go (Err p) = 0

abbrev pub added_in : (ℕ → Option Head) → Option ℕ → List Area → ℕ
added_in seen head [] = 0
added_in seen head (a ∷ areas) = added_by a (λ heads. added_in (over heads seen) (Some a.at) areas) (plan_in (hide (next_of areas) seen) head a.at a.size)

-- the headers that a release writes behind planned ones, and how many deleted blocks it adds; or the place of the first block that
-- is not what the list needs then
pub record PlansPart (d : List ℕ) (head : Option ℕ) (a : Area) (hidden : Option ℕ) (heads more : List Head) (added : ℕ) : Type 0 where
  pub plan : ReleasePlan
  pub found : plan_in (hide hidden (over heads (hole_in d))) head a.at a.size ≡ Ok plan
  pub heads_are : more ≡ heads ++ plan_heads a plan
  pub added_is : added ≡ alone_by plan.joined

abbrev pub PartBad : List ℕ → Option ℕ → Area → Option ℕ → List Head → ℕ → Type 0
PartBad d head a hidden heads p = plan_in (hide hidden (over heads (hole_in d))) head a.at a.size ≡ Err p

-- the file's bytes once headers of deleted blocks are written
abbrev pub heads_written : List Head → List ℕ → List ℕ
heads_written [] d = d
heads_written (h ∷ heads) d = heads_written heads (with_head (area_at h) h.next h.prev d)

-- ---- on lists

-- the list, and the file's bytes, after areas were released that deleted blocks can be
abbrev pub release_ones : List Area → List Area → List Area
release_ones [] holes = holes
release_ones (a ∷ areas) holes = release_ones areas (release_one a holes)

abbrev pub release_ones_bytes : List Area → List Area → List ℕ → List ℕ
release_ones_bytes [] holes d = d
release_ones_bytes (a ∷ areas) holes d = release_ones_bytes areas (release_one a holes) (release_one_bytes a holes d)

-- a longer area is released as two, the later part first
abbrev pub parts_of : Area → List Area
parts_of a = if nat_le a.size most_size then a ∷ [] else back_part a ∷ front_part a ∷ []

-- ---- areas that may be released

-- behind each of these, where no block of the list and none of the areas before it begins, no deleted block is seen
abbrev pub AreClear : (ℕ → Option Head) → List Area → List Area → Type 0
AreClear seen holes [] = Unit {0}
AreClear seen holes (a ∷ areas) = (hole_at (a.at + a.size) holes ≡ None → hide (next_of areas) seen (a.at + a.size) ≡ None) × AreClear seen (a ∷ holes) areas

-- they have no byte of one another or of a deleted block, and a deleted block directly behind one of them is on the list
pub record MayReleaseAll (areas holes : List Area) (d : List ℕ) : Type 0 where
  pub sizes : AllByRecursion IsHole areas
  pub apart : AreApart (areas ++ holes)
  pub clear : AreClear (hole_in d) holes areas
