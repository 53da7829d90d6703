-- What is so of the fields of an appender and of a reader: the seat's view says what the fields say, and
-- the lists have memory for all words of the table.
use Rattle.std.specs.Prelude.{◌≡◌, ◌+◌, ◌<◌, ◌≤◌, [], vec_len}
use Rattle.std.specs.Vec.{vec_capacity}
use Rattle.std.specs.Arc.{arc_value}
use Rattle.myi_tail.specs.declared.table.View.TheVariants.{Appends, Reads}
use Rattle.myi_tail.specs.Plays.{joined_of}
use Rattle.myi_tail.specs.declared.appender.Appender.TheInside as appender
use Rattle.myi_tail.specs.declared.closing.ClosingAppender.TheInside as closing
use Rattle.myi_tail.specs.declared.reader.ReaderSeat.TheInside as reader

pub record IsAppender (a : appender.Inside) : Type 0 where
  pub shared : a.seat.table_id ≡ (arc_value a.table).shared.table_id
  pub view : a.seat.me ≡ (Appends a.seat.table_id.words a.words.items a.published [], [])
  pub within : a.published ≤ vec_len a.words
  pub fits : vec_len a.words ≤ a.room
  pub size : a.room + 1 ≡ a.seat.table_id.words
  pub memory : a.room ≤ vec_capacity a.words

pub record IsClosing (a : closing.Inside) : Type 0 where
  pub shared : a.seat.table_id ≡ (arc_value a.table).shared.table_id
  pub nonempty : 0 < a.seat.table_id.words
  pub view : a.seat.me ≡ (Appends a.seat.table_id.words a.words.items a.published (joined_of a.seat.me.0), [])
  pub within : a.published ≤ vec_len a.words

pub record IsReader (r : reader.Inside) : Type 0 where
  pub shared : r.seat.table_id ≡ (arc_value r.table).shared.table_id
  pub view : r.seat.me ≡ (Reads r.seat.table_id.words r.seen r.known.items, [])
  pub within : vec_len r.known ≤ r.seen
  pub fits : r.seen < r.seat.table_id.words
  pub memory : r.seat.table_id.words ≤ vec_capacity r.known + 1
