-- The blocks of a giant row: sizes that held a chain hold it again, and what is written in them is a chain whose row
-- bytes are those of the row.
use Rattle.std.proofs.Common.{◌≡◌, ℕ, ◌+◌, ◌-◌, ◌%◌, ◌^◌, ◌<◌, ◌≤◌, true, List, [], ◌∷◌, ◌++◌, length, map, take, drop, Option, Some, None, refl, sym, ap, subst, ◌∙◌, arith, append_assoc, length-append, length-drop}
use Rattle.std.specs.List.{AllByRecursion}
use Rattle.std.proofs.lemmas.List.{length-take-le, take-append-drop, append-nil}
use Rattle.std.proofs.lemmas.List.Sums.{sum_by-cons}
use Rattle.myi_base.specs.Numbers.{AreBytes}
use Rattle.myi_base.specs.Ranges.{Range}
use Rattle.myi_frames.specs.declared.write.FrameSpec.{FrameSpec}
use Rattle.myi_frames.specs.Block.{Block, block_of}
use Rattle.myi_frames.specs.Sizes.{start_room, middle_room, held_bytes, total_size}
use Rattle.myi_frames.specs.Writing.{IsWritable, block_bytes, written_block, start_spec, middle_spec, end_spec}
use Rattle.myi_frames.proofs.CallerLemmas.{block-bounded, block-sized, block-start, block-middle, block-start-few, block-middle-few, least-least, length-block, length-block-naming, block-joined}
use Rattle.myi_chain.specs.Chain.{Reading, IsTail, AreLinked, IsChain, ranges, row_bytes, promised}
use Rattle.myi_chain.specs.Laid.{AreJoined}
use Rattle.myi_chain.proofs.CallerLemmas.{blocks_read, joined_far}
use Rattle.myi_data.specs.Stored.{Share, is_end, shares, bytes_behind, shared_bytes, ranges_from, HaveHeld}
use Rattle.myi_data.proofs.ShareLemmas.{total_shares, total_more, end_from, room_short, HoldBehind, Hold, FillBehind, Fill, fills}

-- ---- sizes that held a chain

abbrev block_sizes : List Block → List ℕ
block_sizes bs = map (λ (b : Block). b.size) bs

held_more : (b : Block) (bs : List Block) → held_bytes (b ∷ bs) ≡ length b.bytes + held_bytes bs
held_more b bs = sum_by-cons (λ (b : Block). length b.bytes) b bs

held_is : (bs : List Block) → held_bytes bs ≡ length (row_bytes bs)
held_is [] = refl
held_is (b ∷ bs) = omega (arith, held_more b bs, held_is bs, length-append b.bytes (row_bytes bs))

module _ (file : List ℕ) (are : AreBytes file) where
  -- a block that held what is left has room for it
  block_ends : (p rest : ℕ) (b : Block) → block_of file p ≡ Some b → rest ≤ length b.bytes → is_end rest b.size ≡ true
  block_ends p rest b here le =
      let few = (block-bounded file p b are here).bytes in
      end_from rest b.size (omega (arith, few)) (least-least rest (length b.bytes) b.size le (block-sized file p b are here))

  tail_holds : (next : Option ℕ) (bs : List Block) (rest : ℕ) → IsTail (block_of file) next bs → 0 < rest → rest ≤ held_bytes bs → HoldBehind (block_sizes bs) rest
  tail_holds None bs rest t some le = absurd t
  tail_holds (Some p) [] rest t some le = absurd t
  tail_holds (Some p) (b ∷ []) rest t some le =
      let sized = block-sized file p b are t.0 in
      let end : is_end rest b.size ≡ true = block_ends p rest b t.0 (omega (arith, le, held_more b [])) in
      (sized.multiple, sized.least, λ e. absurd cc)
  tail_holds (Some p) (b ∷ c ∷ bs) rest t some le =
      let sized = block-sized file p b are t.0 in
      let few = block-middle-few file p b are t.0 t.1 in
      let held = block-middle file p b are t.0 t.1 in (
        sized.multiple,
        sized.least,
        λ e.
            let short = room_short rest b.size sized.multiple sized.least few e in
            (few, tail_holds b.next (c ∷ bs) (rest - middle_room b.size) t.2 (omega (arith, short)) (omega (arith, held, le, held_more b (c ∷ bs)))),
      )

  chain_holds : (at n : ℕ) (bs : List Block) → IsChain (block_of file) at [] bs → 2 ^ 24 ≤ n → n ≤ held_bytes bs → Hold (block_sizes bs) n
  chain_holds at n [] chain giant le = absurd chain.linked
  chain_holds at n (b ∷ []) chain giant le =
      absurd (omega (arith, giant, le, held_more b [], (block-bounded file at b are chain.linked.0).bytes))
  chain_holds at n (b ∷ c ∷ bs) chain giant le =
      let linked = chain.linked in
      let sized = block-sized file at b are linked.0 in
      let few = block-start-few file at b n are linked.0 linked.1 giant in
      let told : n ≤ b.rec_len = omega (arith, le, held_is (b ∷ c ∷ bs), chain.whole) in
      let held = block-start file at b n are linked.0 linked.1 told in
      (sized.multiple, sized.least, few, tail_holds b.next (c ∷ bs) (n - start_room n b.size) linked.2 (omega (arith, few, giant)) (omega (arith, held, le, held_more b (c ∷ bs))))

pub held_hold : (sizes : List ℕ) (n : ℕ) → HaveHeld sizes n → 2 ^ 24 ≤ n → Hold sizes n
held_hold sizes n held giant = subst (λ (ss : List ℕ). Hold ss n) held.sized (chain_holds held.file held.bytes held.at n held.blocks held.chain giant held.room)

-- a row of fewer than 2^32 bytes fills the blocks in such sizes
pub held_fill : (sizes : List ℕ) (n : ℕ) → HaveHeld sizes n → 2 ^ 24 ≤ n → n < 2 ^ 32 → Fill (shares sizes n) n
held_fill sizes n held giant few = fills sizes n giant few (held_hold sizes n held giant)

-- ---- the blocks that are written

blocks_behind : ℕ → List Share → List ℕ → List Block
blocks_behind at [] b = []
blocks_behind at (s ∷ []) b = written_block end_spec at s.size b ∷ []
blocks_behind at (s ∷ t ∷ ts) b = written_block (middle_spec (Some (at + s.size))) at s.size (take s.taken b) ∷ blocks_behind (at + s.size) (t ∷ ts) (drop s.taken b)

pub shared_blocks : ℕ → List Share → List ℕ → List Block
shared_blocks at [] b = []
shared_blocks at (s ∷ ss) b = written_block (start_spec (length b) (Some (at + s.size))) at s.size (take s.taken b) ∷ blocks_behind (at + s.size) ss (drop s.taken b)

-- their row bytes are those of the row

behind_bytes : (at : ℕ) (ss : List Share) (b : List ℕ) (rest : ℕ) → FillBehind ss rest → row_bytes (blocks_behind at ss b) ≡ b
unfolding blocks_behind
behind_bytes at [] b rest f = absurd f
behind_bytes at (s ∷ []) b rest f = append-nil b
behind_bytes at (s ∷ t ∷ ts) b rest f = ap (λ (x : List ℕ). take s.taken b ++ x) (behind_bytes (at + s.size) (t ∷ ts) (drop s.taken b) (rest - s.taken) f.3) ∙ take-append-drop s.taken b

pub shared_row : (at : ℕ) (ss : List Share) (b : List ℕ) → Fill ss (length b) → row_bytes (shared_blocks at ss b) ≡ b
unfolding shared_blocks
shared_row at [] b f = absurd f
shared_row at (s ∷ ss) b f = ap (λ (x : List ℕ). take s.taken b ++ x) (behind_bytes (at + s.size) ss (drop s.taken b) (length b - s.taken) f.3) ∙ take-append-drop s.taken b

-- they stand one directly after the other

behind_joined : (at : ℕ) (ss : List Share) (b : List ℕ) → AreJoined at (blocks_behind at ss b)
unfolding blocks_behind
behind_joined at [] b = tt
behind_joined at (s ∷ []) b = (refl, tt)
behind_joined at (s ∷ t ∷ ts) b = (refl, behind_joined (at + s.size) (t ∷ ts) (drop s.taken b))

pub shared_joined : (at : ℕ) (ss : List Share) (b : List ℕ) → AreJoined at (shared_blocks at ss b)
unfolding shared_blocks
shared_joined at [] b = tt
shared_joined at (s ∷ ss) b = (refl, behind_joined (at + s.size) ss (drop s.taken b))

behind_ranges : (at : ℕ) (ss : List Share) (b : List ℕ) → ranges (blocks_behind at ss b) ≡ ranges_from at ss
unfolding blocks_behind
behind_ranges at [] b = refl
behind_ranges at (s ∷ []) b = refl
behind_ranges at (s ∷ t ∷ ts) b = ap (λ (rs : List Range). (at, at + s.size) ∷ rs) (behind_ranges (at + s.size) (t ∷ ts) (drop s.taken b))

pub shared_ranges : (at : ℕ) (ss : List Share) (b : List ℕ) → ranges (shared_blocks at ss b) ≡ ranges_from at ss
unfolding shared_blocks
shared_ranges at [] b = refl
shared_ranges at (s ∷ ss) b = ap (λ (rs : List Range). (at, at + s.size) ∷ rs) (behind_ranges (at + s.size) ss (drop s.taken b))

size_more : (b : Block) (bs : List Block) → total_size (b ∷ bs) ≡ b.size + total_size bs
size_more b bs = sum_by-cons (λ (b : Block). b.size) b bs

behind_total : (at : ℕ) (ss : List Share) (b : List ℕ) → total_size (blocks_behind at ss b) ≡ total_shares ss
unfolding blocks_behind
behind_total at [] b = refl
behind_total at (s ∷ []) b = omega (arith, size_more (written_block end_spec at s.size b) [], total_more s [])
behind_total at (s ∷ t ∷ ts) b =
    omega (
      arith,
      size_more (written_block (middle_spec (Some (at + s.size))) at s.size (take s.taken b)) (blocks_behind (at + s.size) (t ∷ ts) (drop s.taken b)),
      total_more s (t ∷ ts),
      behind_total (at + s.size) (t ∷ ts) (drop s.taken b),
    )

pub shared_total : (at : ℕ) (ss : List Share) (b : List ℕ) → total_size (shared_blocks at ss b) ≡ total_shares ss
unfolding shared_blocks
shared_total at [] b = refl
shared_total at (s ∷ ss) b =
    omega (
      arith,
      size_more (written_block (start_spec (length b) (Some (at + s.size))) at s.size (take s.taken b)) (blocks_behind (at + s.size) ss (drop s.taken b)),
      total_more s ss,
      behind_total (at + s.size) ss (drop s.taken b),
    )

-- each holds a byte of the row

behind_filled : (at : ℕ) (ss : List Share) (b : List ℕ) → FillBehind ss (length b) → AllByRecursion (λ (c : Block). 0 < length c.bytes) (blocks_behind at ss b)
unfolding blocks_behind
behind_filled at [] b f = tt
behind_filled at (s ∷ []) b f = (f.1, tt)
behind_filled at (s ∷ t ∷ ts) b f =
    let first : length (take s.taken b) ≡ s.taken = length-take-le s.taken b f.1 in
    let more : FillBehind (t ∷ ts) (length (drop s.taken b)) = subst (FillBehind (t ∷ ts)) (sym (length-drop s.taken b)) f.3 in
    (omega (arith, first, f.0), behind_filled (at + s.size) (t ∷ ts) (drop s.taken b) more)

shared_filled : (at : ℕ) (ss : List Share) (b : List ℕ) → Fill ss (length b) → AllByRecursion (λ (c : Block). 0 < length c.bytes) (shared_blocks at ss b)
unfolding shared_blocks
shared_filled at [] b f = absurd f
shared_filled at (s ∷ ss) b f =
    let first : length (take s.taken b) ≡ s.taken = length-take-le s.taken b f.1 in
    let more : FillBehind ss (length (drop s.taken b)) = subst (FillBehind ss) (sym (length-drop s.taken b)) f.3 in
    (omega (arith, first, f.0), behind_filled (at + s.size) ss (drop s.taken b) more)

-- they take the bytes of their sizes, wherever they stand

behind_long : (at : ℕ) (ss : List Share) (b : List ℕ) → FillBehind ss (length b) → length (bytes_behind at ss b) ≡ total_shares ss
behind_long at [] b f = absurd f
behind_long at (s ∷ []) b f = omega (arith, length-block end_spec b s.size f.2, total_more s [])
behind_long at (s ∷ t ∷ ts) b f =
    let first : length (take s.taken b) ≡ s.taken = length-take-le s.taken b f.1 in
    let more : FillBehind (t ∷ ts) (length (drop s.taken b)) = subst (FillBehind (t ∷ ts)) (sym (length-drop s.taken b)) f.3 in
    let w : IsWritable (middle_spec None) (length (take s.taken b)) s.size = subst (λ n. IsWritable (middle_spec None) n s.size) (sym first) f.2 in
    let text : List ℕ = block_bytes (middle_spec (Some (at + s.size))) (take s.taken b) s.size in
    let long : length text ≡ s.size = length-block-naming (middle_spec None) (Some (at + s.size)) (take s.taken b) s.size w in
    omega (arith, long, length-append text (bytes_behind (at + s.size) (t ∷ ts) (drop s.taken b)), behind_long (at + s.size) (t ∷ ts) (drop s.taken b) more, total_more s (t ∷ ts))

pub shared_long : (at : ℕ) (ss : List Share) (b : List ℕ) → Fill ss (length b) → length (shared_bytes at ss b) ≡ total_shares ss
shared_long at [] b f = absurd f
shared_long at (s ∷ ss) b f =
    let first : length (take s.taken b) ≡ s.taken = length-take-le s.taken b f.1 in
    let more : FillBehind ss (length (drop s.taken b)) = subst (FillBehind ss) (sym (length-drop s.taken b)) f.3 in
    let w : IsWritable (start_spec (length b) None) (length (take s.taken b)) s.size = subst (λ n. IsWritable (start_spec (length b) None) n s.size) (sym first) f.2 in
    let text : List ℕ = block_bytes (start_spec (length b) (Some (at + s.size))) (take s.taken b) s.size in
    let long : length text ≡ s.size = length-block-naming (start_spec (length b) None) (Some (at + s.size)) (take s.taken b) s.size w in
    omega (arith, long, length-append text (bytes_behind (at + s.size) ss (drop s.taken b)), behind_long (at + s.size) ss (drop s.taken b) more, total_more s ss)

-- ---- they are read as a chain

pub block_at : (x front back : List ℕ) (at : ℕ) (f : FrameSpec) (size : ℕ) (content : List ℕ) → length front ≡ at → at % 4 ≡ 0 → IsWritable f (length content) size → x ≡ front ++ (block_bytes f content size ++ back) → block_of x at ≡ Some (written_block f at size content)
block_at x front back at f size content long aligned w is =
    let whole : length front % 4 ≡ 0 = omega (arith, long, aligned) in
    ap (λ (y : List ℕ). block_of y at) is
    ∙ subst (λ p. block_of (front ++ (block_bytes f content size ++ back)) p ≡ Some (written_block f p size content)) long (block-joined f content front back size w whole)

start_naming : (n rec size next : ℕ) → IsWritable (start_spec rec None) n size → next < 2 ^ 64 - 1 → IsWritable (start_spec rec (Some next)) n size
start_naming n rec size next w near = record { multiple = w.multiple; least = w.least; few = w.few; kind = w.kind; next = near; prev = tt }

middle_naming : (n size next : ℕ) → IsWritable (middle_spec None) n size → next < 2 ^ 64 - 1 → IsWritable (middle_spec (Some next)) n size
middle_naming n size next w near = record { multiple = w.multiple; least = w.least; few = w.few; kind = w.kind; next = near; prev = tt }

link_middle : (read : Reading) (p q size : ℕ) (content : List ℕ) (cs : List Block) → read p ≡ Some (written_block (middle_spec (Some q)) p size content) → IsTail read (Some q) cs → IsTail read (Some p) (written_block (middle_spec (Some q)) p size content ∷ cs)
link_middle read p q size content [] here t = absurd t
link_middle read p q size content (c ∷ cs) here t = (here, refl, t)

link_start : (read : Reading) (p q n size : ℕ) (content : List ℕ) (cs : List Block) → read p ≡ Some (written_block (start_spec n (Some q)) p size content) → IsTail read (Some q) cs → AreLinked read p (written_block (start_spec n (Some q)) p size content ∷ cs)
link_start read p q n size content [] here t = absurd t
link_start read p q n size content (c ∷ cs) here t = (here, refl, t)

-- a block of the least size or more
some_size : (f : FrameSpec) (n size : ℕ) → IsWritable f n size → 20 ≤ size
some_size f n size w = w.least

behind_linked : (x front back : List ℕ) (at : ℕ) (ss : List Share) (b : List ℕ) → length front ≡ at → at % 4 ≡ 0 → FillBehind ss (length b) → at + total_shares ss < 2 ^ 64 - 1 → x ≡ front ++ (bytes_behind at ss b ++ back) → IsTail (block_of x) (Some at) (blocks_behind at ss b)
unfolding blocks_behind
behind_linked x front back at [] b long aligned f near is = absurd f
behind_linked x front back at (s ∷ []) b long aligned f near is = (block_at x front back at end_spec s.size b long aligned f.2 is, refl)
behind_linked x front back at (s ∷ t ∷ ts) b long aligned f near is =
    let next : ℕ = at + s.size in
    let piece : List ℕ = take s.taken b in
    let left : List ℕ = drop s.taken b in
    let first : length piece ≡ s.taken = length-take-le s.taken b f.1 in
    let more : FillBehind (t ∷ ts) (length left) = subst (FillBehind (t ∷ ts)) (sym (length-drop s.taken b)) f.3 in
    let sum = total_more s (t ∷ ts) in
    let w : IsWritable (middle_spec (Some next)) (length piece) s.size = middle_naming (length piece) s.size next (subst (λ n. IsWritable (middle_spec None) n s.size) (sym first) f.2) (omega (arith, near, sum)) in
    let text : List ℕ = block_bytes (middle_spec (Some next)) piece s.size in
    let behind : List ℕ = bytes_behind next (t ∷ ts) left in
    let here : block_of x at ≡ Some (written_block (middle_spec (Some next)) at s.size piece) =
    block_at x front (behind ++ back) at (middle_spec (Some next)) s.size piece long aligned w (is ∙ ap (λ (y : List ℕ). front ++ y) (append_assoc text behind back)) in
    let size : length text ≡ s.size = length-block (middle_spec (Some next)) piece s.size w in
    let far : length (front ++ text) ≡ next = omega (arith, length-append front text, long, size) in
    let split : x ≡ (front ++ text) ++ (behind ++ back) = is ∙ ap (λ (y : List ℕ). front ++ y) (append_assoc text behind back) ∙ sym (append_assoc front text (behind ++ back)) in
    let tail = behind_linked x (front ++ text) back next (t ∷ ts) left far (omega (arith, aligned, w.multiple)) more (omega (arith, near, sum)) split in
    link_middle (block_of x) at next s.size piece (blocks_behind next (t ∷ ts) left) here tail

shared_linked : (x front back : List ℕ) (at : ℕ) (ss : List Share) (b : List ℕ) → length front ≡ at → at % 4 ≡ 0 → Fill ss (length b) → at + total_shares ss < 2 ^ 64 - 1 → x ≡ front ++ (shared_bytes at ss b ++ back) → AreLinked (block_of x) at (shared_blocks at ss b)
unfolding shared_blocks
shared_linked x front back at [] b long aligned f near is = absurd f
shared_linked x front back at (s ∷ ss) b long aligned f near is =
    let next : ℕ = at + s.size in
    let piece : List ℕ = take s.taken b in
    let left : List ℕ = drop s.taken b in
    let first : length piece ≡ s.taken = length-take-le s.taken b f.1 in
    let more : FillBehind ss (length left) = subst (FillBehind ss) (sym (length-drop s.taken b)) f.3 in
    let sum = total_more s ss in
    let w : IsWritable (start_spec (length b) (Some next)) (length piece) s.size = start_naming (length piece) (length b) s.size next (subst (λ n. IsWritable (start_spec (length b) None) n s.size) (sym first) f.2) (omega (arith, near, sum)) in
    let text : List ℕ = block_bytes (start_spec (length b) (Some next)) piece s.size in
    let behind : List ℕ = bytes_behind next ss left in
    let here : block_of x at ≡ Some (written_block (start_spec (length b) (Some next)) at s.size piece) =
    block_at x front (behind ++ back) at (start_spec (length b) (Some next)) s.size piece long aligned w (is ∙ ap (λ (y : List ℕ). front ++ y) (append_assoc text behind back)) in
    let size : length text ≡ s.size = length-block (start_spec (length b) (Some next)) piece s.size w in
    let far : length (front ++ text) ≡ next = omega (arith, length-append front text, long, size) in
    let split : x ≡ (front ++ text) ++ (behind ++ back) = is ∙ ap (λ (y : List ℕ). front ++ y) (append_assoc text behind back) ∙ sym (append_assoc front text (behind ++ back)) in
    let tail = behind_linked x (front ++ text) back next ss left far (omega (arith, aligned, w.multiple)) more (omega (arith, near, sum)) split in
    link_start (block_of x) at next (length b) s.size piece (blocks_behind next ss left) here tail

told_all : (at : ℕ) (ss : List Share) (b : List ℕ) → Fill ss (length b) → promised (shared_blocks at ss b) ≡ length b
unfolding shared_blocks
told_all at [] b f = absurd f
told_all at (s ∷ ss) b f = refl

pub shared_chain : (x front back : List ℕ) (at : ℕ) (ss : List Share) (b : List ℕ) → length front ≡ at → at % 4 ≡ 0 → Fill ss (length b) → at + total_shares ss < 2 ^ 64 - 1 → x ≡ front ++ (shared_bytes at ss b ++ back) → IsChain (block_of x) at [] (shared_blocks at ss b)
shared_chain x front back at ss b long aligned f near is =
    let linked = shared_linked x front back at ss b long aligned f near is in
    record {
      linked = linked;
      filled = shared_filled at ss b f;
      whole = ap (λ (y : List ℕ). length y) (shared_row at ss b f) ∙ sym (told_all at ss b f);
      apart = joined_far (block_of x) (length x) (blocks_read x) at (shared_blocks at ss b) linked (shared_joined at ss b);
    }
