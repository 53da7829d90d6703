-- What is written beside a row that ends in a deleted block: the block that is the first of the list then, and what that block
-- leaves over, which is released.
use Rattle.std.specs.Prelude.{ℕ, ◌+◌, ◌-◌, ◌^◌, ◌<◌, ◌≤◌, ◌==◌, Bool, true, false, nat_le, if◌then◌else◌, List, [], ◌∷◌, ◌++◌, Option, Some, None, Result, Ok, Err, IfSome}
use Rattle.std.specs.Option.{option_map}
use Rattle.myi_frames.specs.declared.head.Head.{Head}
use Rattle.myi_frames.specs.Block.{IsPlace}
use Rattle.myi_frames.specs.Sizes.{least_size}
use Rattle.myi_dellist.specs.declared.linked.Linked.{Linked}
use Rattle.myi_dellist.specs.declared.linked.ReleasePlan.{ReleasePlan}
use Rattle.myi_dellist.specs.declared.pieces.Piece.{Piece}
use Rattle.myi_dellist.specs.declared.planning.Spare.{Spare}
use Rattle.myi_dellist.specs.declared.planning.RestPlan.{RestPlan}
use Rattle.myi_dellist.specs.declared.planning.RowPlan.{RowPlan}
use Rattle.myi_dellist.specs.Releasing.{most_size}
use Rattle.myi_dellist.specs.Standing.{with_head}
use Rattle.myi_dellist.specs.Freeing.{hole_in, same_link, block_named, without_prev, next_past, area_at, plan_bytes, IsHoleIn, IsPlanIn, IsLinkable, AreLinkable}
use Rattle.myi_dellist.specs.Merging.{merge_in}
use Rattle.myi_dellist.specs.Rows.{row_written}

-- a place is that of one of these blocks
abbrev pub is_taken : ℕ → List Piece → Bool
is_taken at [] = false
is_taken at (p ∷ ps) = if p.at == at then true else is_taken at ps

-- ---- the list once blocks up to one of them are taken

-- a block that named that one names none before it
abbrev pub past_taken : ℕ → Head → Head
past_taken last h = if same_link h.prev (Some last) then record h { prev = None } else h

-- a block that is taken off it
abbrev pub link_past : ℕ → Linked → Linked
link_past last l = record { before = if same_link l.hole.prev (Some last) then None else option_map (past_taken last) l.before; hole = past_taken last l.hole; behind = l.behind }

-- its first block then
abbrev pub first_by : Option Head → Linked → Option Head → Option Head
first_by next l None = without_prev l.behind
first_by next l (Some b) = next_past b l.hole (without_prev next)

abbrev pub first_past : Option Head → Linked → Option Head
first_past next l = first_by next l l.before

-- What is left over is released by this: where the block behind it is one of the row's, it is joined with none.
abbrev pub rest_plan : List Piece → ℕ → Option Head → Option Linked → ReleasePlan
rest_plan ps last next None = record { joined = None; first = without_prev next }
rest_plan ps last next (Some l) =
    if is_taken l.hole.at ps then record { joined = None; first = without_prev next }
    else record { joined = Some (link_past last l); first = first_past next (link_past last l) }

abbrev pub rest_by : List Piece → Spare → Option Head → Result (Option Linked) ℕ → Result RestPlan ℕ
rest_by ps s next (Ok j) = Ok (record { at = s.at; size = s.size; plan = rest_plan ps s.last next j })
rest_by ps s next (Err p) = Err p

-- what that release finds, or the place of the first block that is not what the list needs
unfoldable pub rest_in : List ℕ → Option ℕ → List Piece → Spare → Option Head → Result RestPlan ℕ
rest_in d head ps s next = rest_by ps s next (merge_in (hole_in d) head s.at s.size)

-- ---- a row's last block

-- its size: the least, where what is left over can be a block
abbrev pub last_size : ℕ → ℕ → ℕ
last_size left size = if nat_le (least_size left + 20) size then least_size left else size

abbrev pub last_piece : ℕ → Head → Piece
last_piece left h = record { at = h.at; size = last_size left h.size; taken = left }

abbrev pub spare_of : ℕ → Head → Spare
spare_of left h = record { at = h.at + last_size left h.size; size = h.size - last_size left h.size; last = h.at }

abbrev pub with_rest : Option Head → Result RestPlan ℕ → Result RowPlan ℕ
with_rest next (Ok r) = Ok (record { next = next; rest = Some r })
with_rest next (Err p) = Err p

-- where nothing is left over nothing more is needed
abbrev pub if_left : Bool → Option Head → Result RestPlan ℕ → Result RowPlan ℕ
if_left true next r = Ok (record { next = next; rest = None })
if_left false next r = with_rest next r

abbrev pub row_plan_by : List ℕ → Option ℕ → List Piece → ℕ → Head → Result (Option Head) ℕ → Result RowPlan ℕ
row_plan_by d head ps left h (Ok next) = if_left (last_size left h.size == h.size) next (rest_in d head (ps ++ last_piece left h ∷ []) (spare_of left h) next)
row_plan_by d head ps left h (Err p) = Err p

-- what a row that ends in this block finds behind the blocks that it fills
unfoldable pub row_plan_in : List ℕ → Option ℕ → List Piece → ℕ → Head → Result RowPlan ℕ
row_plan_in d head ps left h = row_plan_by d head ps left h (block_named (hole_in d) (Some h.at) h.next)

-- ---- what it found can be written

pub record IsRestIn (end : ℕ) (r : RestPlan) : Type 0 where
  pub place : IsPlace r.at r.size end
  pub most : r.size ≤ most_size
  pub plan : IsPlanIn end r.size r.plan

pub record IsRowPlanIn (end : ℕ) (r : RowPlan) : Type 0 where
  pub next : IfSome r.next (IsHoleIn end)
  pub rest : IfSome r.rest (IsRestIn end)

-- what is left over can be released so, wherever the file ends
pub record IsReleasable (r : RestPlan) : Type 0 where
  pub place : r.at < 2 ^ 64 - 1
  pub least : 20 ≤ r.size
  pub most : r.size ≤ most_size
  pub joined : IfSome r.plan.joined AreLinkable
  pub short : IfSome r.plan.joined (λ l. r.size + l.hole.size ≤ most_size)
  pub first : IfSome r.plan.first IsLinkable

-- the first block of the list names none before it
abbrev pub next_bytes : Option Head → List ℕ → List ℕ
next_bytes None d = d
next_bytes (Some h) d = with_head (area_at h) h.next None d

abbrev pub rest_bytes : Option RestPlan → List ℕ → List ℕ
rest_bytes None d = d
rest_bytes (Some r) d = plan_bytes r.plan r.at r.size d

-- the file's bytes once a row is written and what is left over is released
abbrev pub planned_bytes : RowPlan → List Piece → List ℕ → List ℕ → List ℕ
planned_bytes r ps row d = rest_bytes r.rest (row_written ps row (next_bytes r.next d))

-- where the list begins then
abbrev pub head_by : Option Head → Option RestPlan → Option ℕ
head_by next (Some r) = Some r.at
head_by None None = None
head_by (Some h) None = Some h.at

-- how many deleted blocks are on the list that were not: what is left over, where it is joined with none
abbrev pub alone_by : Option Linked → ℕ
alone_by None = 1
alone_by (Some l) = 0

abbrev pub more_by : Option RestPlan → ℕ
more_by None = 0
more_by (Some r) = alone_by r.plan.joined
