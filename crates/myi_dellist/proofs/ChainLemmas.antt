-- The blocks of a row as they are read, and as they stand.
use Rattle.std.proofs.Common.{◌≡◌, ℕ, ◌+◌, ◌-◌, ◌<◌, ◌≤◌, ◌⊎◌, inl, inr, Bool, List, [], ◌∷◌, ◌++◌, length, Option, Some, None, refl, sym, ap, subst, ◌∙◌, arith, length-append}
use Rattle.std.specs.Prelude.{◌==◌, ◌&&◌, nat_lt, if◌then◌else◌}
use Rattle.std.specs.List.{AllByRecursion, flat_map}
use Rattle.std.proofs.lemmas.Bool.{le-leb, lt-ltb, eq-eqb}
use Rattle.std.proofs.lemmas.List.{append-nil}
use Rattle.myi_frames.specs.declared.form.FrameKind.{FrameKind}
use Rattle.myi_frames.specs.declared.form.FrameKind.TheVariants.{Whole, Start, Middle, End}
use Rattle.myi_frames.specs.declared.head.Head.{Head}
use Rattle.myi_frames.specs.declared.head.Header.{Header}
use Rattle.myi_frames.specs.Block.{Block, block_of, head_of, IsPlace}
use Rattle.myi_frames.specs.Seeing.{HeadsBlock}
use Rattle.myi_frames.proofs.CallerLemmas.{block-short, block-stands}
use Rattle.myi_dellist.specs.declared.chains.RowLink.{RowLink}
use Rattle.myi_dellist.specs.declared.chains.RowStep.{RowStep}
use Rattle.myi_dellist.specs.declared.pieces.Piece.{Piece}
use Rattle.myi_dellist.specs.Areas.{Area, AreInside}
use Rattle.myi_dellist.specs.Releasing.{most_size, half_size, IsFreeable}
use Rattle.myi_dellist.specs.Placing.{area_of, areas_of}
use Rattle.myi_dellist.specs.RowBlocks.{AreNamed, HoldRow}
use Rattle.myi_dellist.specs.Chains.{link_step, more_step, last_step, first_step, next_step, step_by, step_of, block_step, step_in, first_link, piece_of, Passes, IsRowIn, IsBroken, IsRowBlock, areas_in, StandsIn}

-- blocks are passed up to a link, or the last one is read
abbrev pub ReadsOn : List ℕ → ℕ → List Piece → Option RowLink → Type 0
ReadsOn d at ps (Some l) = Passes d (first_link at) ps l
ReadsOn d at ps None = IsRowIn d at ps

-- the first block is to come, or it lies in the file
abbrev pub BeginsAt : Option RowLink → ℕ → ℕ → Type 0
BeginsAt None at end = at < end
BeginsAt (Some l) at end = (l.at ≡ at) ⊎ (at < end)

pub begins-on : (o : Option RowLink) (l : RowLink) (next : Option RowLink) (at end size : ℕ) → o ≡ Some l → BeginsAt o at end → IsPlace l.at size end → BeginsAt next at end
begins-on o l next at end size e was place = by_next next (here (subst (λ (x : Option RowLink). BeginsAt x at end) e was))
  where
    here : (l.at ≡ at) ⊎ (at < end) → at < end
    here (inl same) = omega (arith, same, place.least, place.inside)
    here (inr lt) = lt

    by_next : (n : Option RowLink) → at < end → BeginsAt n at end
    by_next None lt = lt
    by_next (Some q) lt = inr lt

passes_more : (d : List ℕ) (l k q : RowLink) (ps : List Piece) (s : RowStep) → Passes d l ps k → step_in d k ≡ Some s → s.next ≡ Some q → Passes d l (ps ++ piece_of k s ∷ []) q
passes_more d l k q [] s p is next = (s, q, subst (λ (x : RowLink). step_in d x ≡ Some s) (sym p) is, next, ap (λ (x : RowLink). piece_of x s) (sym p), refl)
passes_more d l k q (x ∷ ps) s p is next = (p.0, p.1, p.2, p.3, p.4, passes_more d p.1 k q ps s p.5 is next)

pub reads-next : (d : List ℕ) (at : ℕ) (o : Option RowLink) (l : RowLink) (ps qs : List Piece) (s : RowStep) → o ≡ Some l → ReadsOn d at ps o → step_in d l ≡ Some s → qs ≡ ps ++ piece_of l s ∷ [] → ReadsOn d at qs s.next
reads-next d at o l ps qs s e r is are = by_next s.next refl
  where
    here : Passes d (first_link at) ps l
    here = subst (λ (x : Option RowLink). ReadsOn d at ps x) e r

    by_next : (n : Option RowLink) → s.next ≡ n → ReadsOn d at qs n
    by_next None n = record { passed = ps; link = l; step = s; passes = here; is = is; last = n; pieces = are }
    by_next (Some q) n = subst (λ (xs : List Piece). Passes d (first_link at) xs q) (sym are) (passes_more d (first_link at) l q ps s here is n)

-- ---- what is read of one block

pub step-none : (d : List ℕ) (l : RowLink) → block_of d l.at ≡ None → step_in d l ≡ None
unfolding step_in
step-none d l e = rw e refl

pub step-some : (d : List ℕ) (l : RowLink) (b : Block) → block_of d l.at ≡ Some b → step_in d l ≡ block_step l.left b
unfolding step_in
step-some d l b e = rw e refl

pub step-header : (d : List ℕ) (l : RowLink) (h : Header) → HeadsBlock d (Some h) (block_of d l.at) → step_of l.left h.head h.data_len ≡ step_in d l
step-header d l h s = sym (step-some d l s.0 s.1 ∙ ap (λ (x : Head). step_of l.left x (length s.0.bytes)) s.2.head ∙ ap (step_of l.left h.head) s.2.long)

pub step-short : (d : List ℕ) (l : RowLink) → length d < l.at + 20 → step_in d l ≡ None
step-short d l lt = step-none d l (block-short d l.at lt)

blocks_join : (end : ℕ) (ps : List Piece) (p : Piece) → AllByRecursion (IsRowBlock end) ps → IsRowBlock end p → AllByRecursion (IsRowBlock end) (ps ++ p ∷ [])
blocks_join end [] p all one = (one, tt)
blocks_join end (q ∷ ps) p all one = (all.0, blocks_join end ps p all.1 one)

pub blocks-more : (end : ℕ) (ps qs : List Piece) (p : Piece) → AllByRecursion (IsRowBlock end) ps → IsRowBlock end p → qs ≡ ps ++ p ∷ [] → AllByRecursion (IsRowBlock end) qs
blocks-more end ps qs p all one are = subst (λ (xs : List Piece). AllByRecursion (IsRowBlock end) xs) (sym are) (blocks_join end ps p all one)

-- ---- a row that stands is read block by block

-- a chain from a link on has blocks in these areas
abbrev pub IsReadOn : List ℕ → Option RowLink → List Area → Type 0
IsReadOn d None areas = areas ≡ []
IsReadOn d (Some l) [] = ⊥
IsReadOn d (Some l) (a ∷ areas) = (s : RowStep) × (step_in d l ≡ Some s) × (a ≡ record { at = l.at; size = s.size }) × IsReadOn d s.next areas

-- what a block says that is the last one, and one that is not
abbrev end_step : Block → RowStep
end_step b = record { size = b.size; taken = length b.bytes; next = None }

abbrev on_step : Block → ℕ → ℕ → RowStep
on_step b left q = record { size = b.size; taken = length b.bytes; next = Some (record { at = q; left = Some (left - length b.bytes) }) }

short_step : (left : Option ℕ) (b : Block) → b.size ≤ half_size + most_size → block_step left b ≡ step_by left (head_of b) (length b.bytes)
short_step left b le = ap (λ (t : Bool). if t then step_by left (head_of b) (length b.bytes) else None) (le-leb _ _ le)

whole_step : (b : Block) → b.size ≤ half_size + most_size → b.kind ≡ Whole → 0 < length b.bytes → block_step None b ≡ Some (end_step b)
whole_step b le k some =
    short_step None b le ∙ ap (λ (x : FrameKind). first_step x (head_of b) (length b.bytes)) k ∙ ap (last_step (head_of b) (length b.bytes)) (lt-ltb _ _ some)

more_is : (b : Block) (left q : ℕ) → b.next ≡ Some q → 0 < length b.bytes → length b.bytes < left → more_step (head_of b) (length b.bytes) left ≡ Some (on_step b left q)
more_is b left q n some lt =
    ap (λ (t : Bool). if t && nat_lt (length b.bytes) left then link_step (head_of b) (length b.bytes) left b.next else None) (lt-ltb _ _ some)
    ∙ ap (λ (t : Bool). if t then link_step (head_of b) (length b.bytes) left b.next else None) (lt-ltb _ _ lt)
    ∙ ap (link_step (head_of b) (length b.bytes) left) n

start_step : (b : Block) (left q : ℕ) → b.size ≤ half_size + most_size → b.kind ≡ Start → b.rec_len ≡ left → b.next ≡ Some q → 0 < length b.bytes → length b.bytes < left → block_step None b ≡ Some (on_step b left q)
start_step b left q le k r n some lt =
    short_step None b le ∙ ap (λ (x : FrameKind). first_step x (head_of b) (length b.bytes)) k ∙ ap (more_step (head_of b) (length b.bytes)) r ∙ more_is b left q n some lt

middle_step : (b : Block) (left q : ℕ) → b.size ≤ half_size + most_size → b.kind ≡ Middle → b.next ≡ Some q → 0 < length b.bytes → length b.bytes < left → block_step (Some left) b ≡ Some (on_step b left q)
middle_step b left q le k n some lt = short_step (Some left) b le ∙ ap (λ (x : FrameKind). next_step x (head_of b) (length b.bytes) left) k ∙ more_is b left q n some lt

last_is : (b : Block) (left : ℕ) → b.size ≤ half_size + most_size → b.kind ≡ End → 0 < length b.bytes → length b.bytes ≡ left → block_step (Some left) b ≡ Some (end_step b)
last_is b left le k some e =
    short_step (Some left) b le ∙ ap (λ (x : FrameKind). next_step x (head_of b) (length b.bytes) left) k
    ∙ ap (λ (t : Bool). last_step (head_of b) (length b.bytes) (t && (length b.bytes == left))) (lt-ltb _ _ some)
    ∙ ap (last_step (head_of b) (length b.bytes)) (eq-eqb _ _ e)

-- the bytes of blocks
abbrev bytes_in : List Block → List ℕ
bytes_in bs = flat_map (λ b. b.bytes) bs

abbrev AreRead : List ℕ → List Block → Type 0
AreRead d bs = AllByRecursion (λ (b : Block). block_of d b.at ≡ Some b) bs

abbrev AreShort : List Block → Type 0
AreShort bs = AllByRecursion (λ (b : Block). b.size ≤ half_size + most_size) bs

abbrev AreFilled : List Block → Type 0
AreFilled bs = AllByRecursion (λ (b : Block). 0 < length b.bytes) bs

link_same : (p q : ℕ) (o : Option ℕ) → o ≡ Some p → o ≡ Some q → p ≡ q
link_same p q o e f = cc

tail_read : (d : List ℕ) (bs : List Block) (link : Option ℕ) (q left : ℕ) → AreNamed link bs → AreFilled bs → AreRead d bs → AreShort bs → link ≡ Some q → left ≡ length (bytes_in bs) → IsReadOn d (Some (record { at = q; left = Some left })) (areas_in bs)
tail_read d [] link q left n f r s e t = absurd n
tail_read d (b ∷ []) link q left n f r s e t =
    let at : q ≡ b.at = link_same q b.at link e n.0 in
    let l : RowLink = record { at = q; left = Some left } in
    let whole : length b.bytes ≡ left = ap length (sym (append-nil b.bytes)) ∙ sym t in
    (end_step b, step-some d l b (ap (block_of d) at ∙ r.0) ∙ last_is b left s.0 n.1 f.0 whole, ap (λ (p : ℕ). record { at = p; size = b.size }) (sym at), refl)
tail_read d (b ∷ c ∷ bs) link q left n f r s e t =
    let at : q ≡ b.at = link_same q b.at link e n.0 in
    let l : RowLink = record { at = q; left = Some left } in
    let sum : left ≡ length b.bytes + length (bytes_in (c ∷ bs)) = t ∙ length-append b.bytes (bytes_in (c ∷ bs)) in
    let more : length (bytes_in (c ∷ bs)) ≡ length c.bytes + length (bytes_in bs) = length-append c.bytes (bytes_in bs) in
    let next = named_next b.next c bs n.2 in
    (on_step b left c.at, step-some d l b (ap (block_of d) at ∙ r.0) ∙ middle_step b left c.at s.0 n.1 next f.0 (omega (arith, sum, more, f.1.0)), ap (λ (p : ℕ). record { at = p; size = b.size }) (sym at), tail_read d (c ∷ bs) b.next c.at (left - length b.bytes) n.2 f.1 r.1 s.1 next (omega (arith, sum)))
  where
    named_next : (o : Option ℕ) (x : Block) (xs : List Block) → AreNamed o (x ∷ xs) → o ≡ Some x.at
    named_next o x [] n = n.0
    named_next o x (y ∷ xs) n = n.0

row_read : (d : List ℕ) (at : ℕ) (row : List ℕ) (bs : List Block) → HoldRow (Some at) row bs → AreRead d bs → AreShort bs → IsReadOn d (Some (first_link at)) (areas_in bs)
row_read d at row [] h r s = absurd h.linked
row_read d at row (b ∷ []) h r s =
    let e : at ≡ b.at = link_same at b.at (Some at) refl h.linked.0 in
    (end_step b, step-some d (first_link at) b (ap (block_of d) e ∙ r.0) ∙ whole_step b s.0 h.linked.1 h.filled.0, ap (λ (p : ℕ). record { at = p; size = b.size }) (sym e), refl)
row_read d at row (b ∷ c ∷ bs) h r s =
    let e : at ≡ b.at = link_same at b.at (Some at) refl h.linked.0 in
    let len = b.rec_len in
    let sum : len ≡ length b.bytes + length (bytes_in (c ∷ bs)) = h.said ∙ ap length (sym h.bytes) ∙ length-append b.bytes (bytes_in (c ∷ bs)) in
    let more : length (bytes_in (c ∷ bs)) ≡ length c.bytes + length (bytes_in bs) = length-append c.bytes (bytes_in bs) in
    let next = named_next b.next c bs h.linked.2 in
    (on_step b len c.at, step-some d (first_link at) b (ap (block_of d) e ∙ r.0) ∙ start_step b len c.at s.0 h.linked.1 refl next h.filled.0 (omega (arith, sum, more, h.filled.1.0)), ap (λ (p : ℕ). record { at = p; size = b.size }) (sym e), tail_read d (c ∷ bs) b.next c.at (len - length b.bytes) h.linked.2 h.filled.1 r.1 s.1 next (omega (arith, sum)))
  where
    named_next : (o : Option ℕ) (x : Block) (xs : List Block) → AreNamed o (x ∷ xs) → o ≡ Some x.at
    named_next o x [] n = n.0
    named_next o x (y ∷ xs) n = n.0

-- ---- what is read is what stands

same_step : (o : Option RowStep) (s t : RowStep) → o ≡ Some s → o ≡ Some t → s ≡ t
same_step o s t e f = cc

record Follows (d : List ℕ) (ps : List Piece) (k : RowLink) (areas : List Area) : Type 0 where
  rest : List Area
  areas_are : areas ≡ areas_of ps ++ rest
  on : IsReadOn d (Some k) rest

follow : (d : List ℕ) (l k : RowLink) (ps : List Piece) (areas : List Area) → Passes d l ps k → IsReadOn d (Some l) areas → Follows d ps k areas
follow d l k [] areas p on = record { rest = areas; areas_are = refl; on = subst (λ (x : RowLink). IsReadOn d (Some x) areas) p on }
follow d l k (x ∷ ps) [] p on = absurd on
follow d l k (x ∷ ps) (a ∷ areas) p on =
    let same : on.0 ≡ p.0 = same_step (step_in d l) on.0 p.0 on.1 p.2 in
    let next : on.0.next ≡ Some p.1 = ap (λ (s : RowStep). s.next) same ∙ p.3 in
    let more = follow d p.1 k ps areas p.5 (subst (λ (o : Option RowLink). IsReadOn d o areas) next on.3) in
    let here : a ≡ area_of x = on.2 ∙ ap (λ (s : RowStep). record { at = l.at; size = s.size }) same ∙ ap area_of (sym p.4) in
    record { rest = more.rest; areas_are = ap (λ (xs : List Area). a ∷ xs) more.areas_are ∙ ap (λ (b : Area). b ∷ areas_of ps ++ more.rest) here; on = more.on }

areas_append : (xs ys : List Piece) → areas_of (xs ++ ys) ≡ areas_of xs ++ areas_of ys
areas_append [] ys = refl
areas_append (x ∷ xs) ys = ap (λ (zs : List Area). area_of x ∷ zs) (areas_append xs ys)

read_all : (d : List ℕ) (at : ℕ) (ps : List Piece) (areas : List Area) → IsRowIn d at ps → IsReadOn d (Some (first_link at)) areas → areas_of ps ≡ areas
read_all d at ps areas r on =
    let f = follow d (first_link at) r.link r.passed areas r.passes on in
    ap areas_of r.pieces ∙ areas_append r.passed (piece_of r.link r.step ∷ []) ∙ ap (λ (xs : List Area). areas_of r.passed ++ xs) (by_rest f.rest f.on) ∙ sym f.areas_are
  where
    by_rest : (rest : List Area) → IsReadOn d (Some r.link) rest → record { at = r.link.at; size = r.step.size } ∷ [] ≡ rest
    by_rest [] on = absurd on
    by_rest (a ∷ more) on =
        let same : on.0 ≡ r.step = same_step (step_in d r.link) on.0 r.step on.1 r.is in
        let next : on.0.next ≡ None = ap (λ (s : RowStep). s.next) same ∙ r.last in
        let none : more ≡ [] = subst (λ (o : Option RowLink). IsReadOn d o more) next on.3 in
        let here : a ≡ record { at = r.link.at; size = r.step.size } = on.2 ∙ ap (λ (s : RowStep). record { at = r.link.at; size = s.size }) same in
        ap (λ (x : Area). x ∷ []) (sym here) ∙ ap (λ (xs : List Area). a ∷ xs) (sym none)

never_broken : (d : List ℕ) (at p : ℕ) (areas : List Area) → IsBroken d at p → IsReadOn d (Some (first_link at)) areas → ⊥
never_broken d at p areas b on =
    let f = follow d (first_link at) b.link b.passed areas b.passes on in
    by_rest f.rest f.on
  where
    by_rest : (rest : List Area) → IsReadOn d (Some b.link) rest → ⊥
    by_rest [] on = on
    by_rest (a ∷ more) on = let no : None ≡ Some on.0 = sym b.none ∙ on.1 in absurd cc

pub standing-read : (d : List ℕ) (at : ℕ) (row : List ℕ) (bs : List Block) (holes : List Area) (ps : List Piece) → StandsIn d at row bs holes → IsRowIn d at ps → areas_of ps ≡ areas_in bs
standing-read d at row bs holes ps w r = read_all d at ps (areas_in bs) r (row_read d at row bs w.row_is w.read w.short)

pub standing-sound : (d : List ℕ) (at p : ℕ) (row : List ℕ) (bs : List Block) (holes : List Area) → StandsIn d at row bs holes → IsBroken d at p → ⊥
standing-sound d at p row bs holes w b = never_broken d at p (areas_in bs) b (row_read d at row bs w.row_is w.read w.short)

-- ---- its blocks may be released

pub standing-free : (d : List ℕ) (bs : List Block) → AllByRecursion (λ (b : Block). block_of d b.at ≡ Some b) bs → AllByRecursion (λ (b : Block). b.size ≤ half_size + most_size) bs → AllByRecursion IsFreeable (areas_in bs) × AreInside (length d) (areas_in bs)
standing-free d [] r s = (tt, tt)
standing-free d (b ∷ bs) r s =
    let k = block-stands d b.at b r.0 in
    let more = standing-free d bs r.1 s.1 in
    ((record { aligned = k.aligned; multiple = k.multiple; least = k.least; most = s.0 }, more.0), (k.inside, more.1))
