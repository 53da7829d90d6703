-- What a release needs of the deleted list, by the blocks that stand in the file; where one is not what the list needs, its place.
use Rattle.std.specs.Prelude.{◌≡◌, ℕ, ◌+◌, ◌-◌, ◌^◌, ◌<◌, ◌≤◌, ◌==◌, Bool, true, false, nat_le, if◌then◌else◌, List, length, Option, Some, None, Result, Ok, Err, IfSome}
use Rattle.std.specs.Option.{option_map}
use Rattle.myi_base.specs.Holding.{Holding, bytes_of, OthersStay}
use Rattle.myi_frames.specs.declared.form.FrameKind.{FrameKind}
use Rattle.myi_frames.specs.declared.form.FrameKind.TheVariants.{Deleted, Whole, Start, Middle, End}
use Rattle.myi_frames.specs.declared.head.Head.{Head}
use Rattle.myi_frames.specs.Block.{block_of, head_of, IsPlace, IsPointer}
use Rattle.myi_dellist.specs.declared.fault.FreeFault.{FreeFault}
use Rattle.myi_dellist.specs.declared.fault.FreeFault.TheVariants as fault
use Rattle.myi_dellist.specs.declared.linked.Linked.{Linked}
use Rattle.myi_dellist.specs.declared.linked.ReleasePlan.{ReleasePlan}
use Rattle.myi_dellist.specs.Areas.{Area}
use Rattle.myi_dellist.specs.Releasing.{most_size, half_size}
use Rattle.myi_dellist.specs.Standing.{with_head}

abbrev pub is_deleted : FrameKind → Bool
is_deleted Deleted = true
is_deleted Whole = false
is_deleted Start = false
is_deleted Middle = false
is_deleted End = false

abbrev pub if_deleted : Option Head → Option Head
if_deleted None = None
if_deleted (Some h) = if is_deleted h.kind then Some h else None

-- the deleted block at a place of a file, by what its header says
unfoldable pub hole_in : List ℕ → ℕ → Option Head
hole_in d p = if_deleted (option_map head_of (block_of d p))

-- two links are the same
abbrev pub same_link : Option ℕ → Option ℕ → Bool
same_link None None = true
same_link None (Some q) = false
same_link (Some p) None = false
same_link (Some p) (Some q) = p == q

-- a deleted block at a place that says so; else the place
abbrev pub if_says : (Head → Bool) → ℕ → Option Head → Result Head ℕ
if_says says p None = Err p
if_says says p (Some h) = if says h then Ok h else Err p

abbrev pub names_next : Option ℕ → Head → Bool
names_next next h = same_link h.next next

abbrev pub names_prev : Option ℕ → Head → Bool
names_prev prev h = same_link h.prev prev

abbrev pub given : Result Head ℕ → Result (Option Head) ℕ
given (Ok h) = Ok (Some h)
given (Err p) = Err p

-- The block before one on the list names it as the next. Only the head of the list has none before it.
abbrev pub before_by : (ℕ → Option Head) → Option ℕ → ℕ → Option ℕ → Result (Option Head) ℕ
before_by seen head at None = if same_link head (Some at) then Ok None else Err at
before_by seen head at (Some p) = given (if_says (names_next (Some at)) p (seen p))

unfoldable pub block_before : (ℕ → Option Head) → Option ℕ → Head → Result (Option Head) ℕ
block_before seen head h = before_by seen head h.at h.prev

-- The block at a place that a link names, if it names one, names this one before it.
abbrev pub named_by : (ℕ → Option Head) → Option ℕ → Option ℕ → Result (Option Head) ℕ
named_by seen prev None = Ok None
named_by seen prev (Some p) = given (if_says (names_prev prev) p (seen p))

unfoldable pub block_named : (ℕ → Option Head) → Option ℕ → Option ℕ → Result (Option Head) ℕ
block_named seen prev link = named_by seen prev link

-- how an answer of the code shows such a result: what has another cause says nothing of it
abbrev pub Answers : {T : Type 0} → Result T FreeFault → Result T ℕ → Type 0
Answers (Ok x) r = r ≡ Ok x
Answers (Err fault.Full) r = ⊥
Answers (Err (fault.Damaged at)) r = r ≡ Err at
Answers (Err fault.File) r = Unit {0}
Answers (Err fault.Memory) r = Unit {0}

-- a deleted block that was read at a place of a file of this length
pub record IsHoleAt (p end : ℕ) (h : Head) : Type 0 where
  pub at : h.at ≡ p
  pub place : IsPlace p h.size end
  pub most : h.size < 2 ^ 24
  pub next : IsPointer h.next
  pub prev : IsPointer h.prev

-- one that was read at some place
abbrev pub IsHoleIn : ℕ → Head → Type 0
IsHoleIn end h = IsHoleAt h.at end h

-- one that is on the list, with those beside it
pub record AreHolesIn (end : ℕ) (l : Linked) : Type 0 where
  pub before : IfSome l.before (IsHoleIn end)
  pub hole : IsHoleIn end l.hole
  pub behind : IfSome l.behind (IsHoleIn end)

-- what a release of so many bytes found
pub record IsPlanIn (end size : ℕ) (p : ReleasePlan) : Type 0 where
  pub joined : IfSome p.joined (AreHolesIn end)
  pub short : IfSome p.joined (λ l. size + l.hole.size ≤ most_size)
  pub first : IfSome p.first (IsHoleIn end)

-- the header of a deleted block can be written so
pub record IsLinkable (h : Head) : Type 0 where
  pub place : h.at < 2 ^ 64 - 1
  pub least : 20 ≤ h.size
  pub most : h.size < 2 ^ 24
  pub next : IsPointer h.next
  pub prev : IsPointer h.prev

-- a block, and those beside it
pub record AreLinkable (l : Linked) : Type 0 where
  pub before : IfSome l.before IsLinkable
  pub hole : IsLinkable l.hole
  pub behind : IfSome l.behind IsLinkable

-- a call was cut off by a failed file call or for want of memory
abbrev pub CutsOff : FreeFault → Type 0
CutsOff fault.Full = ⊥
CutsOff (fault.Damaged at) = ⊥
CutsOff fault.File = Unit {0}
CutsOff fault.Memory = Unit {0}

-- a call that makes no file longer is not refused for want of room
abbrev pub IsNotFull : FreeFault → Type 0
IsNotFull fault.Full = ⊥
IsNotFull (fault.Damaged at) = Unit {0}
IsNotFull fault.File = Unit {0}
IsNotFull fault.Memory = Unit {0}

-- where a place is damaged, this holds of it
abbrev pub IfDamaged : FreeFault → (ℕ → Type 0) → Type 0
IfDamaged fault.Full P = Unit {0}
IfDamaged (fault.Damaged at) P = P at
IfDamaged fault.File P = Unit {0}
IfDamaged fault.Memory P = Unit {0}

-- a file holds these bytes now, and the others what they held
pub record Becomes (name bytes : List ℕ) (m n : Holding) : Type 0 where
  pub here : bytes_of name n ≡ bytes
  pub others : OthersStay name m n

-- ---- a release of an area that a deleted block can be

-- a block on the list, with those beside it
abbrev pub linked_by : Head → Result (Option Head) ℕ → Result (Option Head) ℕ → Result Linked ℕ
linked_by h (Ok b) (Ok c) = Ok (record { before = b; hole = h; behind = c })
linked_by h (Ok b) (Err p) = Err p
linked_by h (Err p) r = Err p

unfoldable pub block_linked : (ℕ → Option Head) → Option ℕ → Head → Result Linked ℕ
block_linked seen head h = linked_by h (block_before seen head h) (block_named seen (Some h.at) h.next)

-- the deleted block behind an area, where one deleted block may be as long as both
abbrev pub if_short : ℕ → Option Head → Option Head
if_short size None = None
if_short size (Some h) = if nat_le (size + h.size) most_size then Some h else None

unfoldable pub hole_behind : (ℕ → Option Head) → ℕ → ℕ → Option Head
hole_behind seen at size = if_short size (seen (at + size))

abbrev pub without_prev : Option Head → Option Head
without_prev None = None
without_prev (Some h) = Some (record h { prev = None })

-- the first block of the list names another next one, where it is the one before the block that is taken off
abbrev pub next_past : Head → Head → Option Head → Option Head
next_past b hole None = None
next_past b hole (Some f) = if f.at == b.at then Some (record f { next = hole.next }) else Some f

abbrev pub past : Head → Head → Result (Option Head) ℕ → Result (Option Head) ℕ
past b hole (Ok f) = Ok (next_past b hole f)
past b hole (Err p) = Err p

-- the first block of the list once a block is taken off it
abbrev pub first_by : (ℕ → Option Head) → Option ℕ → Linked → Option Head → Result (Option Head) ℕ
first_by seen head l None = Ok (without_prev l.behind)
first_by seen head l (Some b) = past b l.hole (block_named seen None head)

unfoldable pub first_without : (ℕ → Option Head) → Option ℕ → Linked → Result (Option Head) ℕ
first_without seen head l = first_by seen head l l.before

abbrev pub with_joined : Option Linked → Result (Option Head) ℕ → Result ReleasePlan ℕ
with_joined joined (Ok first) = Ok (record { joined = joined; first = first })
with_joined joined (Err p) = Err p

abbrev pub plan_linked : (ℕ → Option Head) → Option ℕ → Result Linked ℕ → Result ReleasePlan ℕ
plan_linked seen head (Ok l) = with_joined (Some l) (first_without seen head l)
plan_linked seen head (Err p) = Err p

abbrev pub plan_by : (ℕ → Option Head) → Option ℕ → Option Head → Result ReleasePlan ℕ
plan_by seen head None = with_joined None (block_named seen None head)
plan_by seen head (Some h) = plan_linked seen head (block_linked seen head h)

-- what a release finds, or the place of the first block that is not what the list needs there
unfoldable pub plan_in : (ℕ → Option Head) → Option ℕ → ℕ → ℕ → Result ReleasePlan ℕ
plan_in seen head at size = plan_by seen head (hole_behind seen at size)

-- ---- what it writes

abbrev pub area_at : Head → Area
area_at h = record { at = h.at; size = h.size }

abbrev pub place_at : Option Head → Option ℕ
place_at None = None
place_at (Some h) = Some h.at

-- the block before names the next one, and the one behind names the one before
abbrev pub before_bytes : Head → Option Head → List ℕ → List ℕ
before_bytes hole None d = d
before_bytes hole (Some b) d = with_head (area_at b) hole.next b.prev d

abbrev pub behind_bytes : Head → Option Head → List ℕ → List ℕ
behind_bytes hole None d = d
behind_bytes hole (Some b) d = with_head (area_at b) b.next hole.prev d

abbrev pub taken_off_bytes : Linked → List ℕ → List ℕ
taken_off_bytes l d = behind_bytes l.hole l.behind (before_bytes l.hole l.before d)

-- the area becomes the head, and the first block names it as the one before
abbrev pub first_bytes : ℕ → Option Head → List ℕ → List ℕ
first_bytes at None d = d
first_bytes at (Some f) d = with_head (area_at f) f.next (Some at) d

abbrev pub put_first_bytes : Area → Option Head → List ℕ → List ℕ
put_first_bytes a first d = first_bytes a.at first (with_head a (place_at first) None d)

abbrev pub joined_size : ℕ → Option Linked → ℕ
joined_size size None = size
joined_size size (Some l) = size + l.hole.size

abbrev pub unlinked_bytes : Option Linked → List ℕ → List ℕ
unlinked_bytes None d = d
unlinked_bytes (Some l) d = taken_off_bytes l d

abbrev pub plan_bytes : ReleasePlan → ℕ → ℕ → List ℕ → List ℕ
plan_bytes p at size d = put_first_bytes (record { at = at; size = joined_size size p.joined }) p.first (unlinked_bytes p.joined d)

-- the file holds what a release of an area writes, by what it found
abbrev pub ReleasesOne : List ℕ → ℕ → Option ℕ → ℕ → ℕ → Holding → Holding → Type 0
ReleasesOne name end head at size m n = length (bytes_of name m) ≡ end → (p : ReleasePlan) × (plan_in (hole_in (bytes_of name m)) head at size ≡ Ok p) × Becomes name (plan_bytes p at size (bytes_of name m)) m n

-- ---- a release of a longer area, as two

-- a deleted block that names none before it
abbrev pub first_head : Area → Option ℕ → Head
first_head a next = record { kind = Deleted; at = a.at; size = a.size; rec_len = 0; next = next; prev = None }

-- its back part is released by what was found, and then its front part becomes the head
abbrev pub two_bytes : ReleasePlan → ℕ → ℕ → List ℕ → List ℕ
two_bytes p at size d =
    put_first_bytes (record { at = at; size = half_size })
    (Some (first_head (record { at = at + half_size; size = joined_size (size - half_size) p.joined }) (place_at p.first)))
    (plan_bytes p (at + half_size) (size - half_size) d)

abbrev pub ReleasesTwo : List ℕ → ℕ → Option ℕ → ℕ → ℕ → Holding → Holding → Type 0
ReleasesTwo name end head at size m n = length (bytes_of name m) ≡ end → (p : ReleasePlan) × (plan_in (hole_in (bytes_of name m)) head (at + half_size) (size - half_size) ≡ Ok p) × Becomes name (two_bytes p at size (bytes_of name m)) m n
