-- The rule of rounds: which steps of the sessions are done next. It follows the MySQL Reference
-- Manual on table locks ("LOCK TABLES and UNLOCK TABLES Statements", "Table Locking Issues") and on
-- concurrent inserts ("Concurrent Inserts", `concurrent_insert` 0, 1 and 2): a write waits until no
-- other session holds a lock, reads wait for a write that waits, and an insert at the end may go
-- beside reads. That steps go in rounds, and which is the first, is this project's own.
use Rattle.std.specs.Prelude.{ℕ, Bool, true, ◌==◌, ◌||◌, ◌&&◌, not, map, filter, List, Option, Some, None, option_map, if◌then◌else◌}
use Rattle.std.specs.List.{find, list_any, take_while}
use Rattle.myi_locks.specs.declared.steps.Step.{Step}
use Rattle.myi_locks.specs.declared.steps.StepKind.{StepKind}
use Rattle.myi_locks.specs.declared.steps.Run.{Run}
use Rattle.myi_locks.specs.declared.steps.Round.{Round}
use Rattle.myi_locks.specs.declared.steps.Round.TheVariants.{Finished, Alone, Together}
use Rattle.myi_locks.specs.Steps.{waits_for_none, writes_rows, is_insert, is_read, is_always_write, takes_read}
use Rattle.myi_locks.specs.Sessions.{Session, holds_read, holds_local, holds_write, holds_any, is_next, others_hold, first}

-- where the sessions stand: the setting of concurrent inserts, 0, 1 or 2, and the sessions in the
-- order of their numbers
pub record LockState : Type 0 where
  pub setting : ℕ
  pub sessions : List Session

-- a setting and sessions
abbrev pub lock_state : ℕ → List Session → LockState
lock_state setting ss = record { setting = setting; sessions = ss }

-- A table is in use for a session where another session holds READ LOCAL or has a read as its next
-- step.
abbrev pub is_in_use : List Session → ℕ → Bool
is_in_use ss n = list_any (λ s. not (s.number == n) && (holds_local s.held || is_next is_read s)) ss

-- An insert may be concurrent where no other session holds READ, and either the setting is 1 or 2
-- and the table has no hole, or the setting is 2 and the table is in use for the inserting session.
abbrev pub may_be_concurrent : LockState → Bool → ℕ → Bool
may_be_concurrent r holes n =
    not (others_hold holds_read n r.sessions)
    && ((r.setting == 1 || r.setting == 2) && not holes || r.setting == 2 && is_in_use r.sessions n)

-- A session's next step is a write: a delete, an update, `lock write`, or an insert that may not be
-- concurrent.
abbrev pub is_write : LockState → Bool → Session → Bool
is_write r holes s =
    is_next is_always_write s || is_next is_insert s && not (may_be_concurrent r holes s.number)

-- A run is the longest list of steps of one kind that begins with the session's next step.
abbrev pub run_of : (StepKind → Bool) → Session → Run
run_of test s = record { session = s.number; steps = take_while (λ x. test x.kind) s.left }

-- the runs of reads of the sessions that pass the test
abbrev pub reads : (Session → Bool) → List Session → List Run
reads test ss = map (run_of is_read) (filter (λ s. test s && is_next is_read s) ss)

-- a round of this run of inserts, if there is one, beside these runs of reads
abbrev pub together : Option Run → List Run → Round
together inserter readers = Together inserter (record { runs = readers })

-- the session of that number
abbrev pub session_of : ℕ → List Session → Option Session
session_of n ss = find (λ s. s.number == n) ss

-- ---- the six cases

-- 1. Some next step is Release, Unlock, End, Stats, or an insert, delete or update of a session
-- that itself holds READ or READ LOCAL: the first of these goes alone.
abbrev pub at_once : Session → Bool
at_once s =
    is_next waits_for_none s || is_next writes_rows s && (holds_read s.held || holds_local s.held)

unfoldable pub case_at_once : List Session → Option Step
case_at_once ss = first at_once ss

-- 2. A session holds WRITE: its next step goes alone.
unfoldable pub case_write_held : List Session → Option Step
case_write_held ss = first (λ s. holds_write s.held) ss

-- 3. Some next step is a write, and no other session than its own holds a lock: the first such goes
-- alone.
unfoldable pub case_write : LockState → Bool → Option Step
case_write r holes =
    first (λ s. is_write r holes s && not (others_hold holds_any s.number r.sessions)) r.sessions

-- 4. Some next step is a write: the runs of reads of all sessions that hold a lock go together, and
-- nobody else runs.
unfoldable pub case_write_waits : LockState → Bool → Option Round
case_write_waits r holes =
    if list_any (is_write r holes) r.sessions
    then Some (together None (reads (λ s. holds_any s.held) r.sessions)) else None

-- 5. Some next step takes READ or READ LOCAL: the first goes alone.
unfoldable pub case_takes_read : List Session → Option Step
case_takes_read ss = first (is_next takes_read) ss

-- 6. The runs of reads of all sessions go together, with the run of inserts of the first session
-- whose next step is an insert.
abbrev pub session_at : Option Step → List Session → Option Session
session_at None ss = None
session_at (Some x) ss = session_of x.session ss

-- the run of the session that inserts beside the reads
abbrev pub inserter : List Session → Option Run
inserter ss = option_map (run_of is_insert) (session_at (first (is_next is_insert) ss) ss)

unfoldable pub case_together : List Session → Round
case_together ss = together (inserter ss) (reads (λ s. true) ss)

-- ---- the next round

-- a step that goes alone in a round, or else this round
abbrev pub alone : Option Step → Round → Round
alone None more = more
alone (Some x) more = Alone x

-- the first of two rounds that there is
abbrev pub or_else : Option Round → Round → Round
or_else None more = more
or_else (Some round) more = round

-- the session has a step that is not done
abbrev pub has_step : Session → Bool
has_step s = is_next (λ kind. true) s

-- some session has one
abbrev pub has_steps : LockState → Bool
has_steps r = list_any has_step r.sessions

-- Where no step is left the rounds are finished. Else the next round is the first of the six cases
-- that holds.
unfoldable pub next_round : LockState → Bool → Round
next_round r holes =
    if not (has_steps r) then Finished
    else alone (case_at_once r.sessions)
    (alone (case_write_held r.sessions)
    (alone (case_write r holes)
    (or_else (case_write_waits r holes)
    (alone (case_takes_read r.sessions)
    (case_together r.sessions)))))
