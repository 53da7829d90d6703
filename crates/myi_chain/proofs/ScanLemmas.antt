-- What a scan leaves, from what was found between two places of its file.
use Rattle.std.proofs.Common.{◌≡◌, ◌≢◌, ◌⊎◌, inl, inr, ◌++◌, ◌∙◌, ◌+◌, ◌<◌, ◌≤◌, ℕ, Bool, true, List, [], ◌∷◌, length, take, unwrap_or, Option, Some, None, Result, Ok, Err, refl, sym, ap, subst, arith}
use Rattle.std.specs.List.{AllByRecursion}
use Rattle.std.proofs.lemmas.List.{length-take, length-take-le}
use Rattle.myi_base.specs.Holding.{Holding, bytes_of, IfTold}
use Rattle.myi_base.specs.Ranges.{Range}
use Rattle.myi_chain.specs.declared.piece.Piece.{Piece}
use Rattle.myi_chain.specs.declared.piece.Item.{Item as Answer}
use Rattle.myi_chain.specs.declared.piece.Item.TheVariants as item
use Rattle.myi_chain.specs.declared.piece.ScanFault.{ScanFault}
use Rattle.myi_chain.specs.declared.piece.Wanted.{Wanted}
use Rattle.myi_chain.specs.declared.piece.Wanted.TheVariants.{Items, Rows}
use Rattle.myi_chain.specs.declared.step.FoundRow.{FoundRow}
use Rattle.myi_chain.specs.declared.step.Found.{Found}
use Rattle.myi_chain.specs.declared.step.Found.TheVariants as found
use Rattle.myi_chain.specs.declared.step.Position.{Position}
use Rattle.myi_chain.specs.declared.step.RowBuffer.{RowBuffer}
use Rattle.myi_frames.specs.Block.{Block, block_of}
use Rattle.myi_window.specs.Excerpt.{nothing, StandsIn}
use Rattle.myi_window.specs.declared.window.TheConstants.{WINDOW}
use Rattle.myi_chain.specs.Laid.{AreLaid}
use Rattle.myi_chain.specs.Readable.{Row, Item, row, free, rest, items_in, rows_of}
use Rattle.myi_chain.specs.Pieces.{piece_bytes}
use Rattle.myi_chain.specs.Used.{joined}
use Rattle.myi_chain.specs.Chain.{ranges_at}
use Rattle.myi_chain.specs.Source.{SourceModel, read_blocks, IsReady, ReadsOn, EndStaysOr}
use Rattle.myi_chain.specs.Found.{met_at, row_held, item_at, found_at, found_blocks, LiesRow, MeetsShortAt, WentPlain, place_of, IsBetween, IsMeant}
use Rattle.myi_chain.specs.ScanModel.{Scanning, scanned, FallsToKept, IsSameScan, IsCurrent, IsItem, IsWanted, LendsBlock, place_in, EndsInside, AreBlocksAt, StandsItem, ArePassed, PassesTo, ComesFirst, items_left, Answers, HasEnded, Keeps, IsBehind, MeetsPlain, ScansPlain, MayLack, After}
use Rattle.myi_chain.proofs.BlockLemmas.{blocks_read}
use Rattle.myi_chain.proofs.ReadableLemmas.{rest_end}
use Rattle.myi_chain.proofs.StepLemmas.{met_same}

pub err_same : {T E : Type 0} {x y : E} → ◌≡◌ {A = Result T E} (Err x) (Err y) → x ≡ y
err_same is = cc

-- a deleted block that is found is answered where it is wanted
pub free_meant : (wanted : Wanted) (at size : ℕ) → IsMeant wanted (found.Free at size) → IsWanted wanted (item.Free at size)
free_meant Items at size is = tt
free_meant Rows at size is = absurd cc

abbrev pub scan_of : {A : Type 0} → SourceModel → A → Bool → Position → List (ℕ × ℕ) → Scanning A
scan_of s test extend p blocks = record { name = s.name; test = test; extend = extend; end = s.end; place = p.place; used = p.used; blocks = blocks; kept = s.kept }

module _ {A : Type 0} (h : Option Holding) (old : Scanning A) (s : SourceModel) (test : A) (extend : Bool) (p : Position) (blocks : List (ℕ × ℕ)) (view : scan_of s test extend p blocks ≡ old) (current : IfTold h (IsCurrent old)) where
  pub ready_scan : IfTold h (IsReady s)
  ready_scan m held = let is = subst (λ (o : Scanning A). IsCurrent o m) (sym view) (current m held) in record { kept = is.kept; long = is.long }

  module _ (gives : A → List ℕ → Bool) (mid : SourceModel) (q : Position) (r : RowBuffer) (on : ReadsOn h s mid) (fell : EndStaysOr s mid) where
    left_before : (m : Holding) → items_left gives old m ≡ met_at extend (gives test) s p m
    left_before m = subst (λ (o : Scanning A). items_left gives o m ≡ met_at extend (gives test) s p m) view refl

    left_behind : (now : List (ℕ × ℕ)) (m : Holding) → h ≡ Some m → items_left gives (scan_of mid test extend q now) m ≡ met_at extend (gives test) s q m
    left_behind now m held = met_same h extend (gives test) s mid q m held on

    same_scan : (now : List (ℕ × ℕ)) → IsSameScan old (scan_of mid test extend q now)
    same_scan now = subst (λ (o : Scanning A). IsSameScan o (scan_of mid test extend q now)) view (record { name = on.name; test = refl; extend = refl; end = on.falls })

    current_scan : (now : List (ℕ × ℕ)) → IfTold h (IsCurrent (scan_of mid test extend q now))
    current_scan now m held = let is = on.ready m held in record { kept = is.kept; long = is.long }

    old_place : old.place ≡ p.place
    old_place = sym (ap (λ (o : Scanning A). o.place) view)

    old_end : old.end ≡ s.end
    old_end = sym (ap (λ (o : Scanning A). o.end) view)

    whole_scan : IfTold h (λ m. mid.end ≡ old.end)
    whole_scan m held = on.end m held ∙ sym old_end

    falls_scan : (now : List (ℕ × ℕ)) → FallsToKept old (scan_of mid test extend q now)
    falls_scan now = elim fell [
      | inl e ↦ inl (e ∙ sym old_end)
      | inr cut ↦ inr cut
    ]

    old_blocks : old.blocks ≡ blocks
    old_blocks = sym (ap (λ (o : Scanning A). o.blocks) view)

    -- what was found is the first that was wanted
    comes_first : (wanted : Wanted) (f : Found) (answer : Answer) (now : List (ℕ × ℕ)) → IsItem (item_at mid r f) answer blocks now
        → IfTold h (λ m. PassesTo wanted (met_at extend (gives test) s p m) (item_at mid r f ∷ met_at extend (gives test) s q m))
        → IfTold h (λ m. ComesFirst wanted (items_left gives old m) (items_left gives (scan_of mid test extend q now) m) answer old.blocks now)
    comes_first wanted f answer now is told m held =
        let t = told m held in
        record {
          first = item_at mid r f;
          next = (t.0, t.1, left_before m ∙ t.2 ∙ ap (λ (js : List Item). t.0 ++ item_at mid r f ∷ js) (sym (left_behind now m held)));
          is = subst (λ (b : List (ℕ × ℕ)). IsItem (item_at mid r f) answer b now) (sym old_blocks) is;
        }

    answered : (wanted : Wanted) (f : Found) (answer : Answer) (now : List (ℕ × ℕ)) → IsBetween p.place q.place f × (q.place ≤ mid.end) → place_of f ≡ place_in answer → IsItem (item_at mid r f) answer blocks now → StandsItem answer old (scan_of mid test extend q now)
        → IfTold h (λ m. PassesTo wanted (met_at extend (gives test) s p m) (item_at mid r f ∷ met_at extend (gives test) s q m))
        → Answers (items_left gives) IsCurrent wanted h old answer (scan_of mid test extend q now)
    answered wanted f answer now rises here is stands told = record {
      same = same_scan now;
      rises = omega (arith, old_place, rises.0.0, rises.0.1);
      between = (omega (arith, old_place, here, rises.0.0), omega (arith, here, rises.0.1));
      within = rises.1;
      falls = falls_scan now;
      whole = whole_scan;
      stands = stands;
      told = comes_first wanted f answer now is told;
      current = current_scan now;
    }

    pub row_answered : (wanted : Wanted) (f : FoundRow) (at : ℕ) (piece : Piece) (now : List (ℕ × ℕ)) → IsBetween p.place q.place (found.Row f) × (q.place ≤ mid.end)
        → IfTold h (λ m. PassesTo wanted (met_at extend (gives test) s p m) (row (row_held mid r f) ∷ met_at extend (gives test) s q m))
        → piece_bytes piece ≡ (row_held mid r f).bytes → found_at f ≡ at → now ≡ found_blocks r.chain.taken f → LendsBlock piece now → LiesRow mid r f
        → Answers (items_left gives) IsCurrent wanted h old (item.Row at piece) (scan_of mid test extend q now)
    row_answered wanted f at piece now rises told is here kept lends lies =
        answered wanted (found.Row f) (item.Row at piece) now rises here (here, is, ap ranges_at kept) (lends, subst (λ n. AreBlocksAt n mid.end now) here (subst (AreBlocksAt (found_at f) mid.end) (sym kept) lies)) told

    pub free_answered : (wanted : Wanted) (at size : ℕ) → EndsInside mid.end (at, size) → IsBetween p.place q.place (found.Free at size) × (q.place ≤ mid.end)
        → IfTold h (λ m. PassesTo wanted (met_at extend (gives test) s p m) (free (at, at + size) ∷ met_at extend (gives test) s q m))
        → Answers (items_left gives) IsCurrent wanted h old (item.Free at size) (scan_of mid test extend q blocks)
    free_answered wanted at size lies rises told = answered wanted (found.Free at size) (item.Free at size) blocks rises refl (refl, refl) (sym old_blocks, lies) told

    pub ended : (wanted : Wanted) → (p.place ≤ q.place) × (q.place ≡ mid.end) → IfTold h (λ m. ArePassed wanted (met_at extend (gives test) s p m) × (met_at extend (gives test) s q m ≡ [])) → HasEnded (items_left gives) IsCurrent wanted h old (scan_of mid test extend q blocks)
    ended wanted last told = record {
      same = same_scan blocks;
      later = omega (arith, old_place, last.0);
      ended = last.1;
      falls = falls_scan blocks;
      whole = whole_scan;
      blocks = sym old_blocks;
      told = λ m held. (subst (ArePassed wanted) (sym (left_before m)) (told m held).0, left_behind blocks m held ∙ (told m held).1);
      current = current_scan blocks;
    }

    plain_cases : (m : Holding) → MeetsPlain gives old m → (s.end ≤ p.place) ⊎ MeetsShortAt (gives test) s p m
    plain_cases m meets = subst (λ (o : Scanning A). MeetsPlain gives o m) (sym view) meets

    -- while only rows in one block are met, one after the other
    pub goes_on_plain : (f : Found) → IsBetween p.place q.place f × (q.place ≤ mid.end) → (m : Holding) → (MeetsShortAt (gives test) s p m → WentPlain (read_blocks s m) p.place q.place q.used) → MeetsPlain gives old m → IsBehind (block_of (scanned old m)) old.place q.place × (q.used ≡ joined q.place)
    goes_on_plain f rises m short meets = elim (plain_cases m meets) [
      | inl last ↦ absurd (omega (arith, last, rises.0.0, rises.0.1, rises.1, on.falls))
      | inr next ↦
          let t = short next in
          (subst (λ (o : Scanning A). IsBehind (block_of (scanned o m)) o.place q.place) view t.0, t.1)
    ]

    -- after a refusal the scan stands where it stood
    pub kept_after : (wanted : Wanted) → q ≡ p → q.place ≤ mid.end → Keeps (items_left gives) IsCurrent wanted h old (scan_of mid test extend q blocks)
    kept_after wanted same within = record {
      same = same_scan blocks;
      place = ap (λ (r : Position). r.place) same ∙ sym old_place;
      used = ap (λ (r : Position). r.used) same ∙ ap (λ (o : Scanning A). o.used) view;
      within = within;
      falls = falls_scan blocks;
      whole = whole_scan;
      blocks = sym old_blocks;
      told = λ m held. left_behind blocks m held ∙ ap (λ (r : Position). met_at extend (gives test) s r m) same ∙ sym (left_before m);
      current = current_scan blocks;
    }

    pub some_left : p.place < s.end → old.place < old.end
    some_left some = omega (arith, old_place, old_end, some)

    pub never_plain : p.place < s.end → IfTold h (λ m. MeetsShortAt (gives test) s p m → ⊥) → MayLack gives h old
    never_plain some never m held meets = elim (plain_cases m meets) [
      | inl last ↦ absurd (omega (arith, last, some))
      | inr next ↦ never m held next
    ]

    pub packs_old : (bytes : List ℕ) → gives test bytes ≡ true → gives old.test bytes ≡ true
    packs_old bytes packs = subst (λ (t : A). gives t bytes ≡ true) (ap (λ (o : Scanning A). o.test) view) packs

-- ---- what is left of a file

pub fresh_all : {A : Type 0} (gives : A → List ℕ → Bool) (s : Scanning A) (m : Holding) → s.place ≡ 0 → s.used ≡ [] → items_left gives s m ≡ items_in s.extend (gives s.test) (scanned s m)
unfolding items_in
fresh_all gives s m start none =
    let x = scanned s m in
    ap (λ p. rest s.extend (block_of x) (length x) (gives s.test) p s.used) start ∙ ap (λ (u : List Range). rest s.extend (block_of x) (length x) (gives s.test) 0 u) none

pub fresh_current : {A : Type 0} (s : Scanning A) (m : Holding) → s.kept ≡ nothing → s.end ≤ length (bytes_of s.name m) → IsCurrent s m
fresh_current s m none long = record { kept = subst (λ e. StandsIn e (bytes_of s.name m)) (sym none) refl; long = long }

pub scan_ended : {A : Type 0} (gives : A → List ℕ → Bool) (s : Scanning A) (m : Holding) → s.end ≤ s.place → items_left gives s m ≡ []
scan_ended gives s m ended =
    let x = scanned s m in
    rest_end (block_of x) (length x) (blocks_read x) s.extend (gives s.test) s.place s.used (omega (arith, length-take s.end (bytes_of s.name m)))

pub others_change : {A : Type 0} (gives : A → List ℕ → Bool) (s : Scanning A) (m n : Holding) → n s.name ≡ m s.name → (items_left gives s n ≡ items_left gives s m) × (IsCurrent s m → IsCurrent s n)
others_change gives s m n same =
    let bytes : bytes_of s.name n ≡ bytes_of s.name m = ap (λ (o : Option (List ℕ)). unwrap_or o []) same in (
      ap (λ (d : List ℕ). rest s.extend (block_of (take s.end d)) (length (take s.end d)) (gives s.test) s.place s.used) bytes,
      λ is. record { kept = subst (λ (d : List ℕ). StandsIn s.kept d) (sym bytes) is.kept; long = subst (λ (d : List ℕ). s.end ≤ length d) (sym bytes) is.long },
    )

-- ---- a scan of rows in one block each

-- a scan of a file of such rows meets one, or its end
pub plain_meets : {A : Type 0} (gives : A → List ℕ → Bool) (s : Scanning A) (m : Holding) → IsCurrent s m → ScansPlain gives s m → MeetsPlain gives s m
plain_meets gives s m current is = by is.blocks is.laid is.short
  where
    by : (bs : List Block) → AreLaid (block_of (scanned s m)) (gives s.test) (length (scanned s m)) s.place bs → AllByRecursion (λ b. b.size ≤ WINDOW) bs → MeetsPlain gives s m
    by [] laid short = inl (omega (arith, laid, length-take-le s.end (bytes_of s.name m) current.long))
    by (b ∷ bs) laid short = inr (record { plain = is.plain; block = b; whole = laid.0; short = short.0 })

-- the same bytes are scanned
same_scanned : {A : Type 0} (old new : Scanning A) (m : Holding) → IsSameScan old new → new.end ≡ old.end → scanned new m ≡ scanned old m
same_scanned old new m is end = ap (λ n. take n (bytes_of new.name m)) end ∙ ap (λ n. take old.end (bytes_of n m)) is.name

-- behind such a row it scans on so
pub plain_goes : {A : Type 0} (gives : A → List ℕ → Bool) (old new : Scanning A) (m : Holding) → IsSameScan old new → new.end ≡ old.end → old.place < new.place → new.place ≤ new.end → IsCurrent old m → IsBehind (block_of (scanned old m)) old.place new.place → new.used ≡ joined new.place → ScansPlain gives old m → ScansPlain gives new m
plain_goes gives old new m same end rises within current behind used is = by is.blocks is.laid is.short
  where
    by : (bs : List Block) → AreLaid (block_of (scanned old m)) (gives old.test) (length (scanned old m)) old.place bs → AllByRecursion (λ b. b.size ≤ WINDOW) bs → ScansPlain gives new m
    by [] laid short = absurd (omega (arith, laid, rises, within, end, length-take-le old.end (bytes_of old.name m) current.long))
    by (b ∷ bs) laid short =
        let next : old.place + b.size ≡ new.place = sym (behind b laid.0.here) in
        let there = subst (λ p. AreLaid (block_of (scanned old m)) (gives old.test) (length (scanned old m)) p bs) next laid.1 in
        let read = subst (λ (x : List ℕ). AreLaid (block_of x) (gives old.test) (length x) new.place bs) (sym (same_scanned old new m same end)) there in
        record { plain = used; blocks = bs; laid = subst (λ t. AreLaid (block_of (scanned new m)) (gives t) (length (scanned new m)) new.place bs) (sym same.test) read; short = short.1 }

-- where it stands still it scans on so
pub plain_stays : {A : Type 0} (gives : A → List ℕ → Bool) (old new : Scanning A) (m : Holding) → IsSameScan old new → new.end ≡ old.end → new.place ≡ old.place → new.used ≡ old.used → ScansPlain gives old m → ScansPlain gives new m
plain_stays gives old new m same end place used is =
    let there = subst (λ p. AreLaid (block_of (scanned old m)) (gives old.test) (length (scanned old m)) p is.blocks) (sym place) is.laid in
    let read = subst (λ (x : List ℕ). AreLaid (block_of x) (gives old.test) (length x) new.place is.blocks) (sym (same_scanned old new m same end)) there in
    record { plain = used ∙ is.plain ∙ ap joined (sym place); blocks = is.blocks; laid = subst (λ t. AreLaid (block_of (scanned new m)) (gives t) (length (scanned new m)) new.place is.blocks) (sym same.test) read; short = is.short }

-- whatever a call answers but the end, the scan goes on so
pub plain_after : {A : Type 0} (gives : A → List ℕ → Bool) (wanted : Wanted) (h : Option Holding) (old new : Scanning A) (r : Result (Option Answer) ScanFault) → r ≢ Ok None → IfTold h (IsCurrent old) → After gives wanted h old r new → IfTold h (λ m. ScansPlain gives old m → ScansPlain gives new m)
plain_after gives wanted h old new (Ok None) some current after m held is = absurd (some refl)
plain_after gives wanted h old new (Ok (Some found)) some current after m held is =
    let t = after.1 m held (plain_meets gives old m (current m held) is) in
    plain_goes gives old new m after.0.same (after.0.whole m held) after.0.rises after.0.within (current m held) t.0 t.1 is
plain_after gives wanted h old new (Err e) some current after m held is =
    plain_stays gives old new m after.0.same (after.0.whole m held) after.0.place after.0.used is

-- ---- rows

-- over deleted blocks the rows begin with the row behind them
over_frees : (passed : List Item) (i : Item) (after : List Item) → rows_of passed ≡ [] → rows_of (passed ++ i ∷ after) ≡ rows_of (i ∷ after)
over_frees [] i after none = refl
over_frees (row q ∷ passed) i after none = absurd cc
over_frees (free a ∷ passed) i after none = over_frees passed i after none

pub row_first : (before after : List Item) (at : ℕ) (p : Piece) (old new : List (ℕ × ℕ)) → ComesFirst Rows before after (item.Row at p) old new → (r : Row) × (rows_of before ≡ r ∷ rows_of after) × IsItem (row r) (item.Row at p) old new
row_first before after at p old new first = by first.first first.next.2 first.is
  where
    by : (i : Item) → before ≡ first.next.0 ++ i ∷ after → IsItem i (item.Row at p) old new → (r : Row) × (rows_of before ≡ r ∷ rows_of after) × IsItem (row r) (item.Row at p) old new
    by (row r) next is = (r, ap rows_of next ∙ over_frees first.next.0 (row r) after first.next.1, is)
    by (free a) next is = absurd is
