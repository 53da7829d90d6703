-- The header that is read is that of the block at the place.
use Rattle.std.proofs.Common.{◌≡◌, ◌∙◌, ℕ, ◌+◌, ◌-◌, ◌≤◌, ◌⊎◌, List, length, take, drop, Option, Some, None, refl, sym, ap, subst, arith}
use Rattle.std.specs.Option.{option_map}
use Rattle.std.proofs.lemmas.List.{length-take-le, length-drop, drop-drop}
use Rattle.myi_frames.specs.declared.head.Header.{Header}
use Rattle.myi_frames.specs.Block.{block_of, block_by, header_of}
use Rattle.myi_frames.specs.Seeing.{IsPartAt, HeadsBlock}
use Rattle.myi_frames.proofs.BlockLemmas.{header-read, read-inside, found-block, header-part}

heads_by : (x : List ℕ) (at : ℕ) (r : Option Header) → r ≡ header_of (drop at x) at (length x) → HeadsBlock x r (block_of x at)
unfolding block_of
heads_by x at None e = ap (option_map (block_by (drop at x))) (sym e)
heads_by x at (Some h) e =
    let read = header-read (drop at x) at (length x) h (sym e) in
    let room = read-inside (drop at x) at (length x) h read in
    let here : h.head.at ≡ at = ap (λ k. k.head.at) (sym read.header) in
    let long : length (drop at x) ≡ length x - at = length-drop at x in
    let rest : length (drop h.start (drop at x)) ≡ length (drop at x) - h.start = length-drop h.start (drop at x) in (
      block_by (drop at x) h,
      found-block x at h (sym e),
      record {
        head = refl;
        long = length-take-le h.data_len (drop h.start (drop at x)) (omega (arith, long, rest, room.0, read.place.inside));
        bytes = ap (take h.data_len) (drop-drop h.start at x) ∙ ap (λ n. take h.data_len (drop (n + h.start) x)) (sym here);
        inside = omega (arith, here, room.0, read.place.inside);
      },
    )

pub heads_block : (bytes d : List ℕ) (at len : ℕ) (r : Option Header) → (20 ≤ length bytes) ⊎ (len ≤ at + length bytes) → r ≡ header_of bytes at len → length d ≡ len → IsPartAt at bytes d → HeadsBlock d r (block_of d at)
heads_block bytes d at len r window e long part =
    let W : ℕ → Type 0 = λ n. (20 ≤ length bytes) ⊎ (n ≤ at + length bytes) in
    heads_by d at r (e ∙ ap (header_of bytes at) (sym long) ∙ header-part bytes d at (subst W (sym long) window) part)
