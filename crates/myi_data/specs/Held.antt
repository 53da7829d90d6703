-- Where the bytes of slots are held: in a window, or a longer slot in a buffer of its length.
use Rattle.std.specs.Prelude.{◌≡◌, ◌≤◌, ℕ}
use Rattle.myi_window.specs.Excerpt.{Excerpt}
use Rattle.myi_window.specs.declared.window.TheConstants.{WINDOW}
use Rattle.myi_data.specs.declared.slot_bytes.Held.{Held}
use Rattle.myi_data.specs.declared.slot_bytes.Held.TheVariants as held

abbrev pub excerpt_in : Held → Excerpt
excerpt_in (held.Window w) = w
excerpt_in (held.Slot s) = s.held

abbrev pub IsForSize : ℕ → Held → Type 0
IsForSize size (held.Window w) = size ≤ WINDOW
IsForSize size (held.Slot s) = s.size ≡ size
