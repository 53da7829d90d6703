-- The rules by which a writer chooses among the types of the format (this project's own), said of any
-- type, and not of how one is found.
use Rattle.std.specs.Prelude.{◌≡◌, ◌≢◌, ℕ, ◌+◌, ◌^◌, ◌≤◌, Some}
use Rattle.myi_base.specs.Items.{Fit}
use Rattle.myi_frames.specs.declared.form.FrameKind.TheVariants.{Deleted}
use Rattle.myi_frames.specs.declared.form.Form.{Form}
use Rattle.myi_frames.specs.declared.write.FrameSpec.{FrameSpec}
use Rattle.myi_frames.specs.Form.{form_of, header_len, block_size}
use Rattle.myi_frames.specs.Writing.{widths, numbers_of, len_of, unused_of}

-- A block with n row bytes can be written in this size as this type, and the rules choose it: lengths
-- of at most 65,535 stand in two bytes, and only a giant row begins with type 13.
pub record IsChosen (f : FrameSpec) (n size t : ℕ) : Type 0 where
  pub form : Form
  pub is : form_of t ≡ Some form
  pub kind : form.kind ≡ f.kind
  pub fit : Fit (widths form) (numbers_of form f n size)
  pub sized : block_size f.kind (header_len form) f.rec_len (len_of f.kind n size) (unused_of f.kind (header_len form + n) size) ≡ size
  pub short : f.kind ≢ Deleted → f.rec_len ≤ 65535 → n ≤ 65535 → (form.rec_len ≤ 2) × (form.len ≤ 2)
  pub giant : 4 ≤ form.rec_len → 2 ^ 24 ≤ f.rec_len
