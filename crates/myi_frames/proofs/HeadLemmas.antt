-- How great the numbers of a header are, in bytes.
use Rattle.std.proofs.Common.{◌≡◌, ℕ, ◌^◌, ◌<◌, List, Some, Option, sym, subst, get_or}
use Rattle.myi_base.specs.Numbers.{num_at, AreBytes}
use Rattle.myi_frames.specs.declared.form.FrameKind.{FrameKind}
use Rattle.myi_frames.specs.declared.form.FrameKind.TheVariants.{Deleted}
use Rattle.myi_frames.specs.declared.head.Header.{Header}
use Rattle.myi_frames.specs.Form.{len_at, unused_at, next_at, prev_at, header_len, block_size}
use Rattle.myi_frames.specs.Block.{read_header, header_of, IsPointer}
use Rattle.myi_frames.proofs.FormLemmas.{form-narrow}
use Rattle.myi_frames.proofs.BlockLemmas.{header-read, number-below, link-below}

-- what a header says is as small as its bytes
record IsSmall (h : Header) : Type 0 where
  size : h.head.kind ≡ Deleted → h.head.size < 2 ^ 24
  next : IsPointer h.head.next
  prev : IsPointer h.head.prev

deleted_small : (k : FrameKind) (header rec_len len unused : ℕ) → len < 256 ^ 3 → k ≡ Deleted → block_size k header rec_len len unused < 2 ^ 24
deleted_small k header rec_len len unused l e = subst (λ (x : FrameKind). block_size x header rec_len len unused < 2 ^ 24) (sym e) l

small : (bytes : List ℕ) (at len : ℕ) (h : Header) → AreBytes bytes → header_of bytes at len ≡ Some h → IsSmall h
small bytes at len h are is =
    let r = header-read bytes at len h is in
    let f = r.form in
    let narrow = form-narrow (get_or bytes 0 0) f r.is in
    let made : IsSmall (read_header bytes at f) = record {
      size = deleted_small f.kind (header_len f) (num_at 1 f.rec_len bytes) (num_at (len_at f) f.len bytes) (num_at (unused_at f) f.unused bytes) (number-below (len_at f) f.len 3 bytes are narrow.len);
      next = link-below f.next (num_at (next_at f) f.next bytes) (number-below (next_at f) f.next 8 bytes are narrow.next);
      prev = link-below f.prev (num_at (prev_at f) f.prev bytes) (number-below (prev_at f) f.prev 8 bytes are narrow.prev);
    } in
    subst IsSmall r.header made

pub header-deleted : (bytes : List ℕ) (at len : ℕ) (h : Header) → AreBytes bytes → header_of bytes at len ≡ Some h → h.head.kind ≡ Deleted → h.head.size < 2 ^ 24
header-deleted bytes at len h are is = (small bytes at len h are is).size

pub header-next : (bytes : List ℕ) (at len : ℕ) (h : Header) → AreBytes bytes → header_of bytes at len ≡ Some h → IsPointer h.head.next
header-next bytes at len h are is = (small bytes at len h are is).next

pub header-prev : (bytes : List ℕ) (at len : ℕ) (h : Header) → AreBytes bytes → header_of bytes at len ≡ Some h → IsPointer h.head.prev
header-prev bytes at len h are is = (small bytes at len h are is).prev
