-- The blocks of a row, one after the other: each says how the row goes on.
use Rattle.std.proofs.Common.{◌≡◌, ◌∙◌, ℕ, ◌+◌, ◌-◌, ◌<◌, Bool, true, false, eqb, ltb, List, [], ◌∷◌, ◌++◌, length, Option, Some, None, refl, sym, ap, subst, arith, append_assoc}
use Rattle.std.specs.Prelude.{if◌then◌else◌}
use Rattle.std.specs.List.{AllByRecursion}
use Rattle.std.proofs.lemmas.Bool.{eq-eqb, lt-ltb, ne_eqb}
use Rattle.std.proofs.lemmas.List.{length-append, append-nil}
use Rattle.myi_frames.specs.declared.form.FrameKind.{FrameKind}
use Rattle.myi_frames.specs.declared.form.FrameKind.TheVariants.{Whole, Start, Middle, End}
use Rattle.myi_frames.specs.declared.head.Head.{Head}
use Rattle.myi_frames.specs.declared.head.Header.{Header}
use Rattle.myi_frames.specs.Block.{Block, block_of}
use Rattle.myi_frames.specs.Seeing.{Heads}
use Rattle.myi_chain.specs.Chain.{Reading, by_kind, IsChain, IsTail, placed, row_bytes}
use Rattle.myi_order.specs.declared.row_at.Link.{Link}
use Rattle.myi_order.specs.declared.row_at.Link.TheVariants.{Last, More}
use Rattle.myi_order.specs.RowLinks.{more_at, first_link, next_link, noted, Remains, GoesOn}

-- ---- which kind of block it is

kind_is : (x : List ℕ) (h : Header) (b : Block) (k : FrameKind) → Heads x h b → b.kind ≡ k → h.head.kind ≡ k
kind_is x h b k heads kind = ap (λ (g : Head). g.kind) (sym heads.head) ∙ kind

rec_len_is : (x : List ℕ) (h : Header) (b : Block) → Heads x h b → h.head.rec_len ≡ b.rec_len
rec_len_is x h b heads = ap (λ (g : Head). g.rec_len) (sym heads.head)

next_is : (x : List ℕ) (h : Header) (b : Block) → Heads x h b → h.head.next ≡ b.next
next_is x h b heads = ap (λ (g : Head). g.next) (sym heads.head)

noted_is : (x : List ℕ) (h : Header) (b : Block) → Heads x h b → noted h ≡ (b.at, b.size) ∷ []
noted_is x h b heads = ap (λ (g : Head). (g.at, g.size) ∷ []) (sym heads.head)

first_whole : (h : Header) → h.head.kind ≡ Whole → h.data_len ≡ h.head.rec_len → first_link h ≡ Some Last
first_whole h kind all =
    let test : eqb h.data_len h.head.rec_len ≡ true = eq-eqb h.data_len h.head.rec_len all in
    ap (λ k. by_kind k None (if eqb h.data_len h.head.rec_len then Some Last else None) (if ltb h.data_len h.head.rec_len then more_at h.head.next (h.head.rec_len - h.data_len) else None) None None) kind ∙ rw test refl

first_start : (h : Header) (at : ℕ) → h.head.kind ≡ Start → h.data_len < h.head.rec_len → h.head.next ≡ Some at → first_link h ≡ Some (More at (h.head.rec_len - h.data_len))
first_start h at kind few next =
    let test : ltb h.data_len h.head.rec_len ≡ true = lt-ltb h.data_len h.head.rec_len few in
    ap (λ k. by_kind k None (if eqb h.data_len h.head.rec_len then Some Last else None) (if ltb h.data_len h.head.rec_len then more_at h.head.next (h.head.rec_len - h.data_len) else None) None None) kind ∙ rw (test, next) refl

next_end : (h : Header) (left : ℕ) → h.head.kind ≡ End → 0 < h.data_len → h.data_len ≡ left → next_link h left ≡ Some Last
next_end h left kind some all =
    let none : eqb h.data_len 0 ≡ false = ne_eqb h.data_len 0 (λ e. omega (arith, e, some)) in
    let test : eqb h.data_len left ≡ true = eq-eqb h.data_len left all in
    ap (λ (t : Bool). if t then None else by_kind h.head.kind None None None (if ltb h.data_len left then more_at h.head.next (left - h.data_len) else None) (if eqb h.data_len left then Some Last else None)) none
    ∙ ap (λ k. by_kind k None None None (if ltb h.data_len left then more_at h.head.next (left - h.data_len) else None) (if eqb h.data_len left then Some Last else None)) kind ∙ rw test refl

next_middle : (h : Header) (left at : ℕ) → h.head.kind ≡ Middle → 0 < h.data_len → h.data_len < left → h.head.next ≡ Some at → next_link h left ≡ Some (More at (left - h.data_len))
next_middle h left at kind some few next =
    let none : eqb h.data_len 0 ≡ false = ne_eqb h.data_len 0 (λ e. omega (arith, e, some)) in
    let test : ltb h.data_len left ≡ true = lt-ltb h.data_len left few in
    ap (λ (t : Bool). if t then None else by_kind h.head.kind None None None (if ltb h.data_len left then more_at h.head.next (left - h.data_len) else None) (if eqb h.data_len left then Some Last else None)) none
    ∙ ap (λ k. by_kind k None None None (if ltb h.data_len left then more_at h.head.next (left - h.data_len) else None) (if eqb h.data_len left then Some Last else None)) kind ∙ rw (test, next) refl

-- ---- how a row goes on behind a block

abbrev pub FirstGoes : (x : List ℕ) (h : Header) (bs : List Block) (b : Block) → Type 0
FirstGoes x h bs b = (link : Link) × (first_link h ≡ Some link) × GoesOn (block_of x) bs link b.bytes (noted h)

abbrev pub NextGoes : (x : List ℕ) (all : List Block) (before : List ℕ) (seen : List (ℕ × ℕ)) (left : ℕ) (h : Header) (b : Block) → Type 0
NextGoes x all before seen left h b = (link : Link) × (next_link h left ≡ Some link) × GoesOn (block_of x) all link (before ++ b.bytes) (seen ++ noted h)

some_is : {A : Type 0} {a b : A} → Some a ≡ Some b → a ≡ b
some_is e = cc

one_bytes : (b : Block) → row_bytes (b ∷ []) ≡ b.bytes
one_bytes b = append-nil b.bytes

more_bytes : (b : Block) (bs : List Block) → length (row_bytes (b ∷ bs)) ≡ length b.bytes + length (row_bytes bs)
more_bytes b bs = length-append b.bytes (row_bytes bs)

-- the blocks behind one that is not the last
behind : (x : List ℕ) (next : Option ℕ) (b c : Block) (bs : List Block) → b.next ≡ next → IsTail (block_of x) b.next (c ∷ bs) → (at : ℕ) × (b.next ≡ Some at) × IsTail (block_of x) (Some at) (c ∷ bs)
behind x None b c bs is tail = absurd (no bs (subst (λ n. IsTail (block_of x) n (c ∷ bs)) is tail))
  where
    no : (ds : List Block) → IsTail (block_of x) None (c ∷ ds) → ⊥
    no ds t = t
behind x (Some at) b c bs is tail = (at, is, subst (λ n. IsTail (block_of x) n (c ∷ bs)) is tail)

first_by : (x : List ℕ) (at : ℕ) (h : Header) (b : Block) (bs : List Block) → IsChain (block_of x) at [] (b ∷ bs) → Heads x h b → FirstGoes x h (b ∷ bs) b
first_by x at h b [] c heads =
    let all : h.data_len ≡ h.head.rec_len = sym heads.long ∙ ap (λ (ys : List ℕ). length ys) (sym (one_bytes b)) ∙ c.whole ∙ sym (rec_len_is x h b heads) in
    (Last, first_whole h (kind_is x h b Whole heads c.linked.1) all, (sym (one_bytes b), noted_is x h b heads))
first_by x at h b (d ∷ ds) c heads =
    let t = behind x b.next b d ds refl c.linked.2 in
    let rec_len = rec_len_is x h b heads in
    let sum : length b.bytes + length (row_bytes (d ∷ ds)) ≡ b.rec_len = sym (more_bytes b (d ∷ ds)) ∙ c.whole in
    let some : 0 < length d.bytes = c.filled.1.0 in
    let few : h.data_len < h.head.rec_len = omega (arith, heads.long, rec_len, sum, more_bytes d ds, some) in (
      More t.0 (h.head.rec_len - h.data_len),
      first_start h t.0 (kind_is x h b Start heads c.linked.1) few (next_is x h b heads ∙ t.1),
      record {
        blocks = d ∷ ds;
        linked = t.2;
        filled = c.filled.1;
        whole = omega (arith, heads.long, rec_len, sum);
        row_is = refl;
        seen_is = ap (λ (s : List (ℕ × ℕ)). s ++ placed (d ∷ ds)) (noted_is x h b heads);
      },
    )

pub first-step : (x : List ℕ) (at : ℕ) (h : Header) (b : Block) (bs : List Block) → IsChain (block_of x) at [] bs → block_of x at ≡ Some b → Heads x h b → FirstGoes x h bs b
first-step x at h b [] c read heads = absurd c.linked
first-step x at h b (d ∷ []) c read heads =
    let same : b ≡ d = some_is (sym read ∙ c.linked.0) in
    subst (FirstGoes x h (d ∷ [])) (sym same) (first_by x at h d [] c (subst (Heads x h) same heads))
first-step x at h b (d ∷ e ∷ ds) c read heads =
    let same : b ≡ d = some_is (sym read ∙ c.linked.0) in
    subst (FirstGoes x h (d ∷ e ∷ ds)) (sym same) (first_by x at h d (e ∷ ds) c (subst (Heads x h) same heads))

seen_more : (seen : List (ℕ × ℕ)) (x : List ℕ) (h : Header) (b : Block) (bs : List Block) → Heads x h b → (seen ++ noted h) ++ placed bs ≡ seen ++ placed (b ∷ bs)
seen_more seen x h b bs heads = append_assoc seen (noted h) (placed bs) ∙ ap (λ (s : List (ℕ × ℕ)). seen ++ (s ++ placed bs)) (noted_is x h b heads)

next_by : (x : List ℕ) (all : List Block) (before : List ℕ) (seen : List (ℕ × ℕ)) (at left : ℕ) (h : Header) (b : Block) (bs : List Block) → IsTail (block_of x) (Some at) (b ∷ bs) → AllByRecursion (λ (c : Block). 0 < length c.bytes) (b ∷ bs) → length (row_bytes (b ∷ bs)) ≡ left → before ++ row_bytes (b ∷ bs) ≡ row_bytes all → seen ++ placed (b ∷ bs) ≡ placed all → Heads x h b → NextGoes x all before seen left h b
next_by x all before seen at left h b [] tail filled whole is noting heads =
    let last : h.data_len ≡ left = sym heads.long ∙ ap (λ (ys : List ℕ). length ys) (sym (one_bytes b)) ∙ whole in
    (Last, next_end h left (kind_is x h b End heads tail.1) (omega (arith, heads.long, filled.0)) last, (ap (λ (ys : List ℕ). before ++ ys) (sym (one_bytes b)) ∙ is, ap (λ (s : List (ℕ × ℕ)). seen ++ s) (noted_is x h b heads) ∙ noting))
next_by x all before seen at left h b (d ∷ ds) tail filled whole is noting heads =
    let t = behind x b.next b d ds refl tail.2 in
    let sum : length b.bytes + length (row_bytes (d ∷ ds)) ≡ left = sym (more_bytes b (d ∷ ds)) ∙ whole in
    let some : 0 < length d.bytes = filled.1.0 in
    let few : h.data_len < left = omega (arith, heads.long, sum, more_bytes d ds, some) in (
      More t.0 (left - h.data_len),
      next_middle h left t.0 (kind_is x h b Middle heads tail.1) (omega (arith, heads.long, filled.0)) few (next_is x h b heads ∙ t.1),
      record {
        blocks = d ∷ ds;
        linked = t.2;
        filled = filled.1;
        whole = omega (arith, heads.long, sum);
        row_is = append_assoc before b.bytes (row_bytes (d ∷ ds)) ∙ is;
        seen_is = seen_more seen x h b (d ∷ ds) heads ∙ noting;
      },
    )

next_of : (x : List ℕ) (all : List Block) (before : List ℕ) (seen : List (ℕ × ℕ)) (at left : ℕ) (h : Header) (b : Block) (bs : List Block) → IsTail (block_of x) (Some at) bs → AllByRecursion (λ (c : Block). 0 < length c.bytes) bs → length (row_bytes bs) ≡ left → before ++ row_bytes bs ≡ row_bytes all → seen ++ placed bs ≡ placed all → block_of x at ≡ Some b → Heads x h b → NextGoes x all before seen left h b
next_of x all before seen at left h b [] tail filled whole is noting read heads = absurd tail
next_of x all before seen at left h b (d ∷ []) tail filled whole is noting read heads =
    let same : b ≡ d = some_is (sym read ∙ tail.0) in
    subst (NextGoes x all before seen left h) (sym same) (next_by x all before seen at left h d [] tail filled whole is noting (subst (Heads x h) same heads))
next_of x all before seen at left h b (d ∷ e ∷ ds) tail filled whole is noting read heads =
    let same : b ≡ d = some_is (sym read ∙ tail.0) in
    subst (NextGoes x all before seen left h) (sym same) (next_by x all before seen at left h d (e ∷ ds) tail filled whole is noting (subst (Heads x h) same heads))

pub next-step : (x : List ℕ) (all : List Block) (before : List ℕ) (seen : List (ℕ × ℕ)) (at left : ℕ) (h : Header) (b : Block) → Remains (block_of x) all at left before seen → block_of x at ≡ Some b → Heads x h b → NextGoes x all before seen left h b
next-step x all before seen at left h b r read heads = next_of x all before seen at left h b r.blocks r.linked r.filled r.whole r.row_is r.seen_is read heads

-- the link that was found is that of the block, its bytes were appended, and it was noted
pub goes-same : (read : Reading) (all : List Block) (link found : Link) (before bytes : List ℕ) (seen notes : List (ℕ × ℕ)) → Some link ≡ Some found → bytes ≡ before → notes ≡ seen → GoesOn read all link before seen → GoesOn read all found bytes notes
goes-same read all link found before bytes seen notes same is noting g =
    subst (λ (k : Link). GoesOn read all k bytes notes) (some_is same) (subst (λ (ys : List ℕ). GoesOn read all link ys notes) (sym is) (subst (λ (s : List (ℕ × ℕ)). GoesOn read all link before s) (sym noting) g))
