-- The kinds of steps of a script, and what they do to the session's table lock (MySQL Reference
-- Manual, "LOCK TABLES and UNLOCK TABLES Statements").
use Rattle.std.specs.Prelude.{Bool, true, false, ◌==◌, ◌||◌, ◌&&◌, not, nat_lt, Option, Some, None}
use Rattle.myi_locks.specs.declared.steps.LockKind.{LockKind}
use Rattle.myi_locks.specs.declared.steps.LockKind.TheVariants.{Read, ReadLocal, Write}
use Rattle.myi_locks.specs.declared.steps.StepKind.{StepKind}
use Rattle.myi_locks.specs.declared.steps.StepKind.TheVariants.{Release, Take, Rows, Insert, Change, Unlock, Stats, End}
use Rattle.myi_locks.specs.declared.steps.Step.{Step}

-- Release, Unlock, End and Stats go whatever lock another session holds.
abbrev pub waits_for_none : StepKind → Bool
waits_for_none Release = true
waits_for_none Unlock = true
waits_for_none End = true
waits_for_none Stats = true
waits_for_none kind = false

-- an insert, delete or update
abbrev pub writes_rows : StepKind → Bool
writes_rows Insert = true
writes_rows Change = true
writes_rows kind = false

abbrev pub is_insert : StepKind → Bool
is_insert Insert = true
is_insert kind = false

-- a scan or a range
abbrev pub is_read : StepKind → Bool
is_read Rows = true
is_read kind = false

-- a delete, an update or `lock write`: a write whatever the other sessions do
abbrev pub is_always_write : StepKind → Bool
is_always_write Change = true
is_always_write (Take Write) = true
is_always_write kind = false

-- `lock read` or `lock read local`
abbrev pub takes_read : StepKind → Bool
takes_read (Take Read) = true
takes_read (Take ReadLocal) = true
takes_read kind = false

-- the lock of a session after a step: Release, Unlock and End give it up
abbrev pub lock_after : StepKind → Option LockKind → Option LockKind
lock_after Release held = None
lock_after (Take kind) held = Some kind
lock_after Unlock held = None
lock_after End held = None
lock_after kind held = held

-- of two steps this one is the first: it has the lower line; an added End, which has line 0, comes
-- after all lines
abbrev pub comes_before : Step → Step → Bool
comes_before a b = not (a.line == 0) && (b.line == 0 || nat_lt a.line b.line)
