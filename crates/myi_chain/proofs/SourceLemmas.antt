-- A file that is read through a window: what one call leaves, and what it appends.
use Rattle.std.proofs.Common.{◌≡◌, ◌∙◌, ℕ, ◌+◌, ◌-◌, ◌<◌, ◌≤◌, Bool, true, eqb, leb, List, [], ◌∷◌, ◌++◌, length, take, drop, min, Option, Some, None, refl, sym, ap, subst, arith, append_assoc, inl, inr}
use Rattle.std.specs.Prelude.{replicate}
use Rattle.std.proofs.lemmas.Bool.{eq-eqb, le-leb}
use Rattle.std.proofs.lemmas.List.{append-nil, length-append, length-take, length-take-le, length-drop, drop-drop, length-replicate, take_all, take_at, take-take, drop_all}
use Rattle.myi_base.specs.Holding.{Holding, bytes_of, IfTold}
use Rattle.myi_window.specs.Excerpt.{Excerpt, bytes_from, AreFront, StandsIn, EndsBy, IsFull, IsOver}
use Rattle.myi_window.specs.declared.window.TheConstants.{WINDOW}
use Rattle.myi_window.proofs.CallerLemmas.{take_add, cut_at_end, front_drop, excerpt_front, excerpt_here}
use Rattle.myi_frames.specs.Block.{Block, block_of}
use Rattle.myi_frames.specs.Seeing.{Heads, HeadsBlock, IsPartAt}
use Rattle.myi_frames.specs.declared.head.Header.{Header}
use Rattle.myi_frames.proofs.CallerLemmas.{block-stands}
use Rattle.std.specs.List.{AllByRecursion}
use Rattle.myi_chain.specs.ScanModel.{EndsInside, BeginsAt, AreBlocksAt, IsCutOff}
use Rattle.myi_chain.specs.Used.{IsRange}
use Rattle.myi_chain.specs.Source.{SourceModel, read_bytes, read_blocks, IsReady, ReadsOn, EndsWithKept, MayFall, EndStaysOr, StaysAt, IsHeader, IsKept, kept_bytes, range_by}

-- the file is read on
pub reads_on : (holds : Option Holding) (s : SourceModel) (name file : List ℕ) (end : ℕ) (w v : Excerpt) → record { name = name; end = end; kept = w } ≡ s → file ≡ name → IfTold holds (IsReady s) → ((m : Holding) → holds ≡ Some m → StandsIn w (bytes_of file m) → StandsIn v (bytes_of file m)) → ReadsOn holds s (record { name = name; end = end; kept = v })
reads_on holds s name file end w v view same ready stands = subst (λ (t : SourceModel). IfTold holds (IsReady t) → ReadsOn holds t (record { name = name; end = end; kept = v })) view (λ is. record {
  name = refl;
  falls = omega arith;
  end = λ m held. refl;
  ready = λ m held. record { kept = subst (λ n. StandsIn v (bytes_of n m)) same (stands m held (subst (λ n. StandsIn w (bytes_of n m)) (sym same) (is m held).kept)); long = (is m held).long };
}) ready

pub reads_same : (holds : Option Holding) (s : SourceModel) → IfTold holds (IsReady s) → ReadsOn holds s s
reads_same holds s ready = record { name = refl; falls = omega arith; end = λ m held. refl; ready = ready }

-- a window that was slid to a place holds the bytes from there on
pub held_here : (at : ℕ) (v : Excerpt) → v.from ≡ at → bytes_from at v ≡ v.bytes
held_here at v from =
    let order : leb v.from at ≡ true = le-leb v.from at (omega (arith, from)) in
    let none : at - v.from ≡ 0 = omega (arith, from) in
    rw (order, none) refl

-- ---- where the end falls to

-- where the file ends behind the bytes that are kept, those from a place among them on are all up to the end
pub kept_rest : (at end : ℕ) (e : Excerpt) → IsCutOff e end → e.from ≤ at → at ≤ end → length (bytes_from at e) ≡ end - at
kept_rest at end e cut order inside =
    let test : leb e.from at ≡ true = le-leb e.from at order in
    let is : bytes_from at e ≡ drop (at - e.from) e.bytes = rw test refl in
    omega (arith, ap (λ (xs : List ℕ). length xs) is, length-drop (at - e.from) e.bytes, cut)

pub falls_none : (at : ℕ) (old new : SourceModel) → new.end ≡ old.end → MayFall at old new
falls_none at old new e = inl e

pub falls_then : (at next : ℕ) (old mid new : SourceModel) → at ≤ next → MayFall at old mid → MayFall at mid new → StaysAt at mid new → MayFall next old new
falls_then at next old mid new order first more stays = elim first [
  | inr fell ↦
      let same : new ≡ mid = stays fell.0 fell.1 in
      inr (subst EndsWithKept (sym same) fell.0, omega (arith, order, fell.1, ap (λ (s : SourceModel). s.kept.from) same))
  | inl e ↦ elim more [
    | inl f ↦ inl (f ∙ e)
    | inr fell ↦ inr (fell.0, omega (arith, order, fell.1))
  ]
]

pub stays_then : (at : ℕ) (old mid new : SourceModel) → StaysAt at old mid → StaysAt at mid new → StaysAt at old new
stays_then at old mid new first more ends order =
    let same : mid ≡ old = first ends order in
    more (subst EndsWithKept (sym same) ends) (omega (arith, order, ap (λ (s : SourceModel). s.kept.from) same)) ∙ same

pub falls_or : (at : ℕ) (old new : SourceModel) → MayFall at old new → EndStaysOr old new
falls_or at old new falls = elim falls [
  | inl e ↦ inl e
  | inr fell ↦ inr fell.0
]

-- ---- what is read

-- a window that is not full holds all up to the end, where the file is long enough
not_full : (at end : ℕ) (v : Excerpt) (d : List ℕ) → at ≤ end → end ≤ length d → v.from ≡ at → v.bytes ≡ take WINDOW (drop at (take end d)) → length (bytes_from at v) < WINDOW → at + length (bytes_from at v) ≡ end
not_full at end v d order long from bytes few =
    let count : length (bytes_from at v) ≡ min WINDOW (length (drop at (take end d))) = ap (λ (xs : List ℕ). length xs) (held_here at v from ∙ bytes) ∙ length-take WINDOW (drop at (take end d)) in
    omega (arith, count, length-drop at (take end d), length-take-le end d long)

-- the file is read on, and ends where fewer bytes came than a window can hold
pub reads_cut : (holds : Option Holding) (s : SourceModel) (name file : List ℕ) (end now at : ℕ) (w v : Excerpt) → record { name = name; end = end; kept = w } ≡ s → file ≡ name → at ≤ end → IfTold holds (IsReady s) → ((m : Holding) → holds ≡ Some m → StandsIn w (bytes_of file m) → StandsIn v (bytes_of file m)) → v.from ≡ at
    → ((m : Holding) → holds ≡ Some m → IsFull file at end w v m) → length (bytes_from at v) < WINDOW → EndsBy end v → now ≡ at + length (bytes_from at v) → ReadsOn holds s (record { name = name; end = now; kept = v })
reads_cut holds s name file end now at w v view same order ready stands from full few inside is =
    let on = reads_on holds s name file end w v view same ready stands in
    let ends : s.end ≡ end = sym (ap (λ (t : SourceModel). t.end) view) in
    let all : (m : Holding) → holds ≡ Some m → now ≡ s.end = λ m held.
    let stood : StandsIn w (bytes_of file m) = subst (λ (t : SourceModel). StandsIn t.kept (bytes_of file m)) (sym view) (subst (λ n. StandsIn s.kept (bytes_of n m)) (ap (λ (t : SourceModel). t.name) (sym view) ∙ sym same) (ready m held).kept) in
    let long : end ≤ length (bytes_of file m) = subst (λ n. end ≤ length (bytes_of n m)) (ap (λ (t : SourceModel). t.name) (sym view) ∙ sym same) (subst (λ e. e ≤ length (bytes_of s.name m)) ends (ready m held).long) in
    is ∙ not_full at end v (bytes_of file m) order long from (full m held stood) few ∙ sym ends in
    record {
      name = on.name;
      falls = omega (arith, is, ends, inside, ap (λ (xs : List ℕ). length xs) (held_here at v from), from);
      end = all;
      ready = λ m held. record { kept = (on.ready m held).kept; long = subst (λ e. e ≤ length (bytes_of name m)) (sym (all m held ∙ ends)) (on.ready m held).long };
    }

-- a window that was stretched over a block holds it, where the file tells what it holds
pub over_held : (s : SourceModel) (name file : List ℕ) (end at size : ℕ) (w v : Excerpt) (m : Holding) → record { name = name; end = end; kept = w } ≡ s → file ≡ name → IsReady s m → at + size ≤ s.end → v.from ≡ at → IsOver file at size w v m → length (bytes_from at v) < size → ⊥
over_held s name file end at size w v m view same ready inside from over few =
    let called : s.name ≡ file = ap (λ (t : SourceModel). t.name) (sym view) ∙ sym same in
    let d = bytes_of file m in
    let stood : StandsIn w d = subst (λ (t : SourceModel). StandsIn t.kept d) (sym view) (subst (λ n. StandsIn s.kept (bytes_of n m)) called ready.kept) in
    let long : s.end ≤ length d = subst (λ n. s.end ≤ length (bytes_of n m)) called ready.long in
    let count : length (take size v.bytes) ≡ length (take size (drop at d)) = ap (λ (xs : List ℕ). length xs) (over stood) in
    let here : length (bytes_from at v) ≡ length v.bytes = ap (λ (xs : List ℕ). length xs) (held_here at v from) in
    absurd (omega (arith, few, here, count, length-take size v.bytes, length-take size (drop at d), length-drop at d, long, inside))

-- the file is read on, and ends where fewer bytes came than were asked for, as no file does that tells what it holds
pub reads_short : (holds : Option Holding) (s : SourceModel) (name file : List ℕ) (end now : ℕ) (w v : Excerpt) → record { name = name; end = end; kept = w } ≡ s → file ≡ name → IfTold holds (IsReady s) → ((m : Holding) → holds ≡ Some m → StandsIn w (bytes_of file m) → StandsIn v (bytes_of file m)) → now ≤ end → ((m : Holding) → holds ≡ Some m → ⊥)
    → ReadsOn holds s (record { name = name; end = now; kept = v })
reads_short holds s name file end now w v view same ready stands falls none =
    let on = reads_on holds s name file end w v view same ready stands in
    record { name = on.name; falls = omega (arith, falls, on.falls); end = λ m held. absurd (none m held); ready = λ m held. absurd (none m held) }

-- a file that tells what it holds gives the last byte of a block that ends before it does
pub last_there : (s : SourceModel) (file : List ℕ) (m : Holding) (at size count : ℕ) → s.name ≡ file → IsReady s m → 0 < size → at + size ≤ s.end → count ≡ min 1 (length (drop (at + (size - 1)) (bytes_of file m))) → count ≡ 1
last_there s file m at size count same ready some inside told =
    let long : s.end ≤ length (bytes_of file m) = subst (λ n. s.end ≤ length (bytes_of n m)) same ready.long in
    omega (arith, told, length-drop (at + (size - 1)) (bytes_of file m), long, some, inside)

none_by : (d : List ℕ) (p : ℕ) (o : Option Block) → block_of d p ≡ o → length d < p + 20 → o ≡ None
none_by d p None e h = refl
none_by d p (Some b) e h = let s = block-stands d p b e in absurd (omega (arith, s.least, s.inside))

-- no block stands where its header would pass the end
pub none_short : (s : SourceModel) (m : Holding) (at : ℕ) → IsReady s m → s.end < at + 20 → read_blocks s m at ≡ None
none_short s m at ready short = none_by (read_bytes s m) at (read_blocks s m at) refl (omega (arith, length-take-le s.end (bytes_of s.name m) ready.long))

-- what is kept from a place on is a part of the file there
pub kept_part : (s : SourceModel) (m : Holding) (at : ℕ) (bytes : List ℕ) → IsReady s m → EndsBy s.end s.kept → at ≤ s.end → bytes ≡ bytes_from at s.kept → IsPartAt at bytes (read_bytes s m)
kept_part s m at bytes ready inside order is = subst (λ (xs : List ℕ). IsPartAt at xs (read_bytes s m)) (sym is) (excerpt_here at s.end s.kept (bytes_of s.name m) order inside ready.kept)

-- a block that ends before the file does, wherever that ends, has its header still
pub header_still : (at end now : ℕ) (h : Header) → IsHeader at end h → at + h.head.size ≤ now → now ≤ end → IsHeader at now h
header_still at end now h is inside falls = record {
  here = is.here;
  place = record { aligned = is.place.aligned; multiple = is.place.multiple; least = is.place.least; inside = inside };
  inside = is.inside;
  small = omega (arith, is.small, falls);
}

pub filled_behind : (start at count k : ℕ) (into new post d : List ℕ) → start ≤ length into → k ≡ length into - start → at + length into ≤ start + length d → post ≡ [] → count ≡ min (length (take k (drop start into))) (length (drop at d)) → new ≡ take (length (take k (drop start into))) (drop at d) ++ drop (length (drop at d)) (take k (drop start into))
    → (start + count ≡ length into) × (take start into ++ (new ++ post) ≡ take start into ++ take count (drop at d))
filled_behind start at count k into new post d inside size long none told bytes =
    let rest : length (drop start into) ≡ length into - start = length-drop start into in
    let mid : length (take k (drop start into)) ≡ k = length-take-le k (drop start into) (omega arith) in
    let file : length (drop at d) ≡ length d - at = length-drop at d in
    let all : count ≡ k = omega (arith, told, mid, file) in
    let tail : drop (length (drop at d)) (take k (drop start into)) ≡ [] = drop_all (length (drop at d)) (take k (drop start into)) (omega arith) in
    let is : new ≡ take count (drop at d) = bytes ∙ ap (λ (ys : List ℕ). take (length (take k (drop start into))) (drop at d) ++ ys) tail ∙ append-nil (take (length (take k (drop start into))) (drop at d)) ∙ ap (λ n. take n (drop at d)) (mid ∙ sym all) in
    (omega (arith, all), ap (λ (ys : List ℕ). take start into ++ (new ++ ys)) none ∙ ap (λ (ys : List ℕ). take start into ++ ys) (append-nil new ∙ is))

pub appended : (old grown new d : List ℕ) (len count at : ℕ) → grown ≡ take (length old + len) old ++ replicate (length old + len - length old) 0 → length old + count ≡ length grown → new ≡ take (length old) grown ++ take count (drop at d)
    → (eqb count len ≡ true) × (new ≡ old ++ take len (drop at d))
appended old grown new d len count at is long bytes =
    let front : take (length old + len) old ≡ old = take_all (length old + len) old (omega arith) in
    let form : grown ≡ old ++ replicate (length old + len - length old) 0 = is ∙ ap (λ (ys : List ℕ). ys ++ replicate (length old + len - length old) 0) front in
    let size : length grown ≡ length old + len = ap (λ (ys : List ℕ). length ys) form ∙ length-append old (replicate (length old + len - length old) 0) ∙ ap (λ n. length old + n) (length-replicate (length old + len - length old) 0) ∙ omega arith in
    let same : count ≡ len = omega (arith, long, size) in
    let kept : take (length old) grown ≡ old = ap (take (length old)) form ∙ take_at old (replicate (length old + len - length old) 0) (length old) refl in
    (eq-eqb count len same, bytes ∙ ap (λ (ys : List ℕ). ys ++ take count (drop at d)) kept ∙ ap (λ n. old ++ take n (drop at d)) same)

pub grown_size : (old grown : List ℕ) (len : ℕ) → grown ≡ take (length old + len) old ++ replicate (length old + len - length old) 0 → length grown ≡ length old + len
grown_size old grown len is =
    let front : take (length old + len) old ≡ old = take_all (length old + len) old (omega arith) in
    let more : ℕ = length old + len - length old in
    ap (λ (ys : List ℕ). length ys) (is ∙ ap (λ (ys : List ℕ). ys ++ replicate more 0) front) ∙ length-append old (replicate more 0) ∙ ap (λ n. length old + n) (length-replicate more 0) ∙ omega arith

-- a range inside an end is that of the file
pub cut_inside : (p n end : ℕ) (d : List ℕ) → p + n ≤ length (take end d) → take n (drop p (take end d)) ≡ take n (drop p d)
cut_inside p n end d inside =
    let few : p + n ≤ end = omega (arith, length-take end d) in
    ap (take n) (cut_at_end p end d (omega arith)) ∙ take-take n (end - p) (drop p d) (omega arith)

-- the row bytes of a block of the file
pub block_bytes : (s : SourceModel) (m : Holding) (h : Header) (b : Block) → Heads (read_bytes s m) h b → b.bytes ≡ take h.data_len (drop (h.head.at + h.start) (bytes_of s.name m))
block_bytes s m h b heads = heads.bytes ∙ cut_inside (h.head.at + h.start) h.data_len s.end (bytes_of s.name m) heads.inside

-- the same bytes are read
pub same_bytes : (holds : Option Holding) (old new : SourceModel) (m : Holding) → holds ≡ Some m → ReadsOn holds old new → read_bytes new m ≡ read_bytes old m
same_bytes holds old new m held on = ap (λ n. take n (bytes_of new.name m)) (on.end m held) ∙ ap (λ n. take old.end (bytes_of n m)) on.name

pub reads_then : (h k : Option Holding) (old mid new : SourceModel) → k ≡ h → ReadsOn h old mid → ReadsOn k mid new → ReadsOn h old new
reads_then h k old mid new same a b = record { name = b.name ∙ a.name; falls = omega (arith, a.falls, b.falls); end = λ m held. b.end m (same ∙ held) ∙ a.end m held; ready = λ m held. b.ready m (same ∙ held) }

pub long_bytes : (s : SourceModel) (m : Holding) → IsReady s m → length (read_bytes s m) ≡ s.end
long_bytes s m ready = length-take-le s.end (bytes_of s.name m) ready.long

-- the header by the bytes that are kept from a place on is that of the block there
pub heads_kept : (h : Option Holding) (old s : SourceModel) (name : List ℕ) (end : ℕ) (w : Excerpt) (at : ℕ) (bytes : List ℕ) (o p : Option Header) (m : Holding) → h ≡ Some m → ReadsOn h old s → record { name = name; end = end; kept = w } ≡ s → EndsBy end w → at ≤ end → bytes ≡ bytes_from at w
    → ((d : List ℕ) → length d ≡ end → IsPartAt at bytes d → HeadsBlock d o (block_of d at)) → o ≡ p → HeadsBlock (read_bytes old m) p (read_blocks old m at)
heads_kept h old s name end w at bytes o p m held on view inside order is block same =
    let now : IsReady s m = on.ready m held in
    let ends : end ≡ s.end = ap (λ (t : SourceModel). t.end) view in
    let kept : w ≡ s.kept = ap (λ (t : SourceModel). t.kept) view in
    let part = kept_part s m at bytes now (subst (λ (t : SourceModel). EndsBy t.end t.kept) view inside) (omega (arith, ends, order)) (is ∙ ap (λ k. bytes_from at k) kept) in
    subst (λ q. HeadsBlock (read_bytes old m) q (read_blocks old m at)) same (subst (λ (x : List ℕ). HeadsBlock x o (block_of x at)) (same_bytes h old s m held on) (block (read_bytes s m) (long_bytes s m now ∙ sym ends) part))

-- a header of the file as it was read before is one of the file
pub heads_still : (h k : Option Holding) (old mid : SourceModel) (at : ℕ) (o : Option Header) → k ≡ h → ReadsOn h old mid → IfTold k (λ m. HeadsBlock (read_bytes mid m) o (read_blocks mid m at)) → (m : Holding) → h ≡ Some m → HeadsBlock (read_bytes old m) o (read_blocks old m at)
heads_still h k old mid at o same on told m held = subst (λ (x : List ℕ). HeadsBlock x o (block_of x at)) (same_bytes h old mid m held on) (told m (same ∙ held))

-- the file is ready for the next call
pub ready_still : (h k : Option Holding) (old mid : SourceModel) → k ≡ h → ReadsOn h old mid → IfTold k (IsReady mid)
ready_still h k old mid same on m held = on.ready m (sym same ∙ held)

-- a block of the file is a range
pub header_range : (at end : ℕ) (h : Header) → IsHeader at end h → IsRange (range_by h)
header_range at end h is = (omega (arith, is.place.least), omega (arith, is.here, is.place.inside, is.small))

front_cut : (n : ℕ) (xs ys : List ℕ) → AreFront xs ys → n ≤ length xs → take n ys ≡ take n xs
front_cut n xs ys front few = sym (take-take n (length xs) ys few) ∙ ap (take n) (sym front)

turn : (start at : ℕ) (d : List ℕ) → drop (at + start) d ≡ drop start (drop at d)
turn start at d = sym (drop-drop start at d)

-- the row bytes of a block that is kept whole
pub kept_block : (s : SourceModel) (m : Holding) (h : Header) (b : Block) → IsReady s m → IsKept h s.kept → Heads (read_bytes s m) h b → b.bytes ≡ kept_bytes h s.kept
kept_block s m h b ready kept heads =
    let d = bytes_of s.name m in
    let xs = bytes_from h.head.at s.kept in
    let front : AreFront (drop h.start xs) (drop h.start (drop h.head.at d)) = front_drop h.start xs (drop h.head.at d) (excerpt_front h.head.at s.kept d ready.kept) in
    block_bytes s m h b heads ∙ ap (take h.data_len) (turn h.start h.head.at d) ∙ front_cut h.data_len (drop h.start xs) (drop h.start (drop h.head.at d)) front (omega (arith, kept.0, kept.1, length-drop h.start xs))

-- a whole read of the first bytes of a header
pub read_part : (into old d : List ℕ) (at end : ℕ) → length old ≡ 20 → at + 20 ≤ end → end ≤ length d → into ≡ take (length old) (drop at d) ++ drop (length (drop at d)) old → IsPartAt at into (take end d)
read_part into old d at end size room long is =
    let file : length (drop at d) ≡ length d - at = length-drop at d in
    let rest : drop (length (drop at d)) old ≡ [] = drop_all (length (drop at d)) old (omega (arith, file, size)) in
    let bytes : into ≡ take 20 (drop at d) = is ∙ ap (λ (xs : List ℕ). take (length old) (drop at d) ++ xs) rest ∙ append-nil (take (length old) (drop at d)) ∙ ap (λ n. take n (drop at d)) size in
    let count : length into ≡ 20 = ap (λ (xs : List ℕ). length xs) bytes ∙ length-take-le 20 (drop at d) (omega (arith, file)) in
    bytes ∙ sym (take-take 20 (end - at) (drop at d) (omega arith)) ∙ ap (take 20) (sym (cut_at_end at end d (omega arith))) ∙ ap (λ n. take n (drop at (take end d))) (sym count)

pub heads_read : (s : SourceModel) (name file : List ℕ) (end : ℕ) (w : Excerpt) (m : Holding) (at : ℕ) (o : Option Header) → record { name = name; end = end; kept = w } ≡ s → file ≡ name → IsReady s m → (end ≤ length (bytes_of file m) → HeadsBlock (take end (bytes_of file m)) o (block_of (take end (bytes_of file m)) at)) → HeadsBlock (read_bytes s m) o (read_blocks s m at)
heads_read s name file end w m at o view same ready told = subst (λ (t : SourceModel). IsReady t m → HeadsBlock (read_bytes t m) o (read_blocks t m at)) view (λ is.
    subst (λ n. end ≤ length (bytes_of n m) → HeadsBlock (take end (bytes_of n m)) o (block_of (take end (bytes_of n m)) at)) same told is.long) ready

-- what is kept from a place on is the file's
kept_front : (s : SourceModel) (m : Holding) (at n : ℕ) (xs : List ℕ) → IsReady s m → xs ≡ bytes_from at s.kept → n ≤ length xs → take n xs ≡ take n (drop at (bytes_of s.name m))
kept_front s m at n xs ready is few = sym (front_cut n xs (drop at (bytes_of s.name m)) (subst (λ (ys : List ℕ). AreFront ys (drop at (bytes_of s.name m))) (sym is) (excerpt_front at s.kept (bytes_of s.name m) ready.kept)) few)

-- all row bytes of a block are kept
pub appends_kept : (s : SourceModel) (m : Holding) (h : Header) (b : Block) (xs : List ℕ) (n : ℕ) (old new : List ℕ) → IsReady s m → xs ≡ bytes_from (h.head.at + h.start) s.kept → n ≤ length xs → n ≡ h.data_len → new ≡ old ++ take n xs → Heads (read_bytes s m) h b → new ≡ old ++ b.bytes
appends_kept s m h b xs n old new ready is few all grown heads =
    grown ∙ ap (λ (ys : List ℕ). old ++ ys) (kept_front s m (h.head.at + h.start) n xs ready is few ∙ ap (λ k. take k (drop (h.head.at + h.start) (bytes_of s.name m))) all ∙ sym (block_bytes s m h b heads))

-- the first row bytes of a block are kept, and the others were read behind them
pub appends_rest : (s : SourceModel) (file : List ℕ) (m : Holding) (h : Header) (b : Block) (xs : List ℕ) (n rest : ℕ) (whole : Bool) (old mid new : List ℕ) → file ≡ s.name → IsReady s m → xs ≡ bytes_from (h.head.at + h.start) s.kept → n ≤ length xs → n + rest ≡ h.data_len → mid ≡ old ++ take n xs
    → (h.head.at + h.start + n + rest ≤ length (bytes_of file m) → (whole ≡ true) × (new ≡ mid ++ take rest (drop (h.head.at + h.start + n) (bytes_of file m)))) → Heads (read_bytes s m) h b → (whole ≡ true) × (new ≡ old ++ b.bytes)
appends_rest s file m h b xs n rest whole old mid new same ready is few all grown told heads =
    let d = bytes_of s.name m in
    let at : ℕ = h.head.at + h.start in
    let t = subst (λ f. at + n + rest ≤ length (bytes_of f m) → (whole ≡ true) × (new ≡ mid ++ take rest (drop (at + n) (bytes_of f m)))) same told (omega (arith, heads.inside, all, length-take s.end d)) in
    let front : mid ≡ old ++ take n (drop at d) = grown ∙ ap (λ (ys : List ℕ). old ++ ys) (kept_front s m at n xs ready is few) in
    let both : take n (drop at d) ++ take rest (drop (at + n) d) ≡ b.bytes = ap (λ (ys : List ℕ). take n (drop at d) ++ take rest ys) (turn n at d) ∙ sym (take_add n rest (drop at d)) ∙ ap (λ k. take k (drop at d)) all ∙ sym (block_bytes s m h b heads) in
    (t.0, t.1 ∙ ap (λ (ys : List ℕ). ys ++ take rest (drop (at + n) d)) front ∙ append_assoc old (take n (drop at d)) (take rest (drop (at + n) d)) ∙ ap (λ (ys : List ℕ). old ++ ys) both)

-- ---- where the blocks of a row lie

-- the block with a header ends in the file
pub lies_block : (at end : ℕ) (h : Header) → IsHeader at end h → EndsInside end (h.head.at, h.head.size)
lies_block at end h is = (omega (arith, is.here, is.place.inside), omega (arith, is.here, is.place.inside, is.small))

pub lies_one : (end : ℕ) (h : Header) → IsHeader h.head.at end h → AreBlocksAt h.head.at end ((h.head.at, h.head.size) ∷ [])
lies_one end h is = (refl, (lies_block h.head.at end h is, tt))

pub lies_more : (p at end : ℕ) (h : Header) (old new : List (ℕ × ℕ)) → IsHeader at end h → new ≡ old ++ (h.head.at, h.head.size) ∷ [] → AreBlocksAt p end old → AreBlocksAt p end new
lies_more p at end h old new is grown lies = subst (AreBlocksAt p end) (sym grown) (first old lies, each old lies.1)
  where
    first : (bs : List (ℕ × ℕ)) → AreBlocksAt p end bs → BeginsAt p (bs ++ (h.head.at, h.head.size) ∷ [])
    first [] l = absurd l.0
    first (b ∷ bs) l = l.0

    each : (bs : List (ℕ × ℕ)) → AllByRecursion (EndsInside end) bs → AllByRecursion (EndsInside end) (bs ++ (h.head.at, h.head.size) ∷ [])
    each [] l = (lies_block at end h is, tt)
    each (b ∷ bs) l = (l.0, each bs l.1)
