-- The two files that a repair row by row leaves: the index file is the working one with the new header, cut behind its trees.
use Rattle.std.proofs.Common.{◌≡◌, ℕ, zero, suc, ◌+◌, ◌-◌, ◌<◌, ◌≤◌, Bool, true, false, Option, Some, None, List, [], ◌∷◌, ◌++◌, length, take, drop, map, replicate, unwrap_or, bytes_eq, Ok, refl, sym, ap, subst, ◌∙◌, arith, length-append, length-take}
use Rattle.std.specs.Prelude.{Result, IsPermutation}
use Rattle.std.specs.List.{AllByRecursion, list_any}
use Rattle.std.proofs.lemmas.List.{take-append-le, take-append-drop, take_all, length-replicate}
use Rattle.std.proofs.lemmas.List.Elements.{All-from_recursion}
use Rattle.myi_base.specs.Numbers.{num_at}
use Rattle.myi_base.specs.Ranges.{Range}
use Rattle.myi_base.specs.Holding.{resized, overwritten}
use Rattle.myi_defs.specs.declared.types.RowFormat.{RowFormat}
use Rattle.myi_defs.specs.declared.types.RowFormat.TheVariants.{Static, Dynamic}
use Rattle.myi_defs.specs.declared.types.Defs.{Defs}
use Rattle.myi_defs.specs.declared.types.DefFault.{DefFault}
use Rattle.myi_defs.specs.declared.layout.Layout.{Layout}
use Rattle.myi_defs.specs.Sound.{IsSound}
use Rattle.myi_defs.specs.ReadDefs.{AreDefs}
use Rattle.myi_defs.specs.Elsewhere.{AgreeOutsideState}
use Rattle.myi_defs.specs.Layout.{mark}
use Rattle.myi_defs.specs.Addressable.{is_addressable}
use Rattle.myi_defs.proofs.CallerLemmas.{sound, elsewhere}
use Rattle.myi_header.specs.declared.state.State.{State}
use Rattle.myi_header.specs.Layout.{first_page_of}
use Rattle.myi_header.specs.StateOf.{state_of, has_mark}
use Rattle.myi_header.specs.HeaderOf.{header_of, IsStored}
use Rattle.myi_header.specs.Parts.{part}
use Rattle.myi_header.proofs.CallerLemmas.{header-long, header-state, header-marked, header-elsewhere}
use Rattle.myi_pack.specs.Packed.{Values}
use Rattle.myi_pack.specs.Unpacking.{row_of}
use Rattle.myi_pack.specs.Spelling.{spelling}
use Rattle.myi_pack.proofs.CallerLemmas.{row-reads}
use Rattle.myi_chain.specs.Readable.{Row}
use Rattle.myi_chain.specs.Meeting.{ranges_of}
use Rattle.myi_data.specs.Readable.{readable, deleted}
use Rattle.myi_data.specs.Stored.{SizedRow, stored_size, stored_file, stored_rows, block_count, IsStorable}
use Rattle.myi_data.proofs.CallerLemmas.{stored_read}
use Rattle.myi_keytrees.specs.InFile.{KeepsBetween}
use Rattle.myi_keytrees.proofs.CallerLemmas.{cut_keeps}
use Rattle.myi_pair.specs.FirstRows.{key_numbers, AreDistinct}
use Rattle.myi_pair.specs.KeyList.{PlacedRow}
use Rattle.myi_pair.specs.Trees.{HaveWalks, AreKeyLists, total}
use Rattle.myi_pair.specs.Clean.{values_of, placed_row, covers, next_by, next_deleted, Follows, Counts, IsClean}
use Rattle.myi_pair.specs.RebuiltBytes.{placed_from, rebuilt_state}
use Rattle.myi_pair.specs.Rebuilt.{Rebuilt}
use Rattle.myi_pair.specs.RecoveredBytes.{kept, new_data, new_index}
use Rattle.myi_pair.specs.Recovered.{IsRepairable, Recovered}
use Rattle.myi_pair.proofs.CallerLemmas.{recovered, IsLike, layout_same, first_same, state_same, header_like, with_raw, readable_same, deleted_same, values_same, placed_same, addressable_same, distinct_same, walks_same, lists_same, pages_same}
use Rattle.myi_repair.proofs.CallerLemmas.{short_enough}
use Rattle.myi_saferepair.specs.Recovered.{with_trees_of, RebuiltAnyhow, SafelyRecovered}
use Rattle.myi_saferepair.specs.Filling.{HasTrees}
use Rattle.myi_saferepair.proofs.TreeLaws.{Stands, stands_between}
use Rattle.myi_saferepair.proofs.HeaderLaws.{AreFew, made_state, stored}

-- ---- the bytes of the index file

take_fewer : (k m : ℕ) (x : List ℕ) → k ≤ m → take k (take m x) ≡ take k x
take_fewer zero m x le = refl
take_fewer (suc k) zero x le = absurd (omega arith)
take_fewer (suc k) (suc m) [] le = refl
take_fewer (suc k) (suc m) (b ∷ x) le = ap (λ (xs : List ℕ). b ∷ xs) (take_fewer k m x (omega arith))

none_before : (xs : List ℕ) → resized 0 xs ≡ []
none_before xs = let e : 0 - length xs ≡ 0 = omega arith in rw e refl

-- a header over the front of a file that is made so long
abbrev pub over_front : ℕ → List ℕ → List ℕ → List ℕ
over_front end h x = resized end (overwritten 0 h x)

module _ (end : ℕ) (h x : List ℕ) (inside : length h ≤ end) where
  written : overwritten 0 h x ≡ h ++ drop (0 + length h) x
  written = ap (λ (b : List ℕ). (b ++ h) ++ drop (0 + length h) x) (none_before x)

  abbrev w : List ℕ
  w = overwritten 0 h x

  w_long : length h ≤ length w
  w_long = omega (arith, ap (λ (b : List ℕ). length b) written, length-append h (drop (0 + length h) x))

  front : take (length h) (over_front end h x) ≡ h
  front =
      take-append-le (length h) (take end w) (replicate (end - length w) 0) (omega (arith, length-take end w, w_long, inside))
      ∙ take_fewer (length h) end w inside
      ∙ ap (take (length h)) written
      ∙ take-append-le (length h) h (drop (0 + length h) x) (omega arith)
      ∙ take_all (length h) h (omega arith)

  pub behind : over_front end h x ≡ h ++ drop (length h) (over_front end h x)
  behind = sym (take-append-drop (length h) (over_front end h x)) ∙ ap (λ (b : List ℕ). b ++ drop (length h) (over_front end h x)) front

  pub front_long : length (over_front end h x) ≡ end
  front_long = omega (arith, length-append (take end w) (replicate (end - length w) 0), length-take end w, length-replicate {A = ℕ} (end - length w) 0)

-- the law of files whose front is written over
abbrev pub Fronts : Type 0
Fronts = (first end : ℕ) (file bytes : List ℕ) → length bytes ≤ first → KeepsBetween first end file (overwritten 0 bytes file)

between : Fronts → (first end : ℕ) (h x : List ℕ) → length h ≤ first → KeepsBetween first end x (over_front end h x)
between law first end h x short at len bytes some low high e = cut_keeps first end (overwritten 0 h x) at len bytes some low high (law first end x h short at len bytes some low high e)

-- ---- what does not depend on the header's bytes

next_same : (d : Defs) (r : List ℕ) (f : RowFormat) (x : List ℕ) (p : ℕ) → next_by f d x p ≡ next_by f (with_raw d r) x p
next_same d r Static x p = refl
next_same d r Dynamic x p = refl

follows_same : (d : Defs) (r x : List ℕ) (before at : Option ℕ) (ps : List ℕ) → Follows d x before at ps → Follows (with_raw d r) x before at ps
follows_same d r x before at [] t = t
follows_same d r x before at (p ∷ ps) t = (t.0, t.1, follows_same d r x (Some p) (next_deleted (with_raw d r) x p) ps (subst (λ o. Follows d x (Some p) o ps) (next_same d r d.format x p) t.2))

mark_same : (d : Defs) (r y : List ℕ) → IsLike d r → has_mark (with_raw d r) y ≡ has_mark d y
unfolding has_mark
mark_same d r y like = ap (λ (l : Layout). bytes_eq (part (l.base + 94) 6 y) mark) (layout_same d r like)

-- ---- rows that were stored one after the other

laid_placed : (d : Defs) (at : ℕ) (rs : List SizedRow) → IsSound d → AllByRecursion (IsStorable d) rs → map (placed_row d) (stored_rows d at rs) ≡ placed_from d at rs
unfolding stored_rows
laid_placed d at [] s all = refl
laid_placed d at (r ∷ rs) s all =
    let first : unwrap_or (row_of d (spelling d r.values)) [] ≡ r.values = ap (λ (o : Option Values). unwrap_or o []) (row-reads d r.values s all.0.fits) in
    let next : ℕ = at + stored_size d r in
    ap (λ (w : Values). (at, w) ∷ map (placed_row d) (stored_rows d next rs)) first ∙ ap (λ (ps : List PlacedRow). (at, r.values) ∷ ps) (laid_placed d next rs s all.1)

ok_same : {A E : Type 0} (x y : A) → ◌≡◌ {A = Result A E} (Ok x) (Ok y) → x ≡ y
ok_same x y same = cc

-- ---- the two files

-- a table that is made anew of these rows, by its files (e, x), and another index file y with trees that stand elsewhere
module _ (d : Defs) (rows : List SizedRow) (now : ℕ) (e x y : List ℕ) (end : ℕ) (roots : List (Option ℕ)) (defined : AreDefs d) (s : IsSound d) (old : Rebuilt d rows now e x) (can : AllByRecursion (IsStorable d) rows) (reached : is_addressable d (length e) ≡ true)
    (marked : has_mark d y ≡ true) (agree : AgreeOutsideState d.raw y) (state : state_of d y ≡ made_state d (length rows) (block_count d rows) (length (stored_file d rows)) end now roots) (long : length y ≡ end) (stands : Stands d roots end rows y) where
  abbrev r0 : List ℕ
  r0 = take (num_at 6 2 d.raw) x

  abbrev d0 : Defs
  d0 = with_raw d r0

  abbrev r : List ℕ
  r = take (num_at 6 2 d.raw) y

  abbrev e0 : Defs
  e0 = with_raw d r

  same0 : old.clean.defs ≡ d0
  same0 = ok_same {E = DefFault} old.clean.defs d0 (sym old.clean.read ∙ old.definitions)

  like0 : IsLike d r0
  like0 = header_like d x s old.elsewhere

  like : IsLike d r
  like = header_like d y s agree

  first_is : first_page_of e0 ≡ first_page_of d
  first_is = first_same d r like

  state_is : state_of e0 y ≡ state_of d y
  state_is = state_same d r y like

  -- the state of the other index file
  old_state : state_of d0 x ≡ rebuilt_state d rows now
  old_state = state_same d r0 x like0 ∙ old.state

  new_is : state_of e0 y ≡ made_state d (length rows) (block_count d rows) (length (stored_file d rows)) end now roots
  new_is = state_is ∙ state

  read_same : readable e0 false e ≡ readable d0 false e
  read_same = readable_same d0 r false e

  gone_same : deleted e0 e ≡ deleted d0 e
  gone_same = deleted_same d0 r e

  counts0 : Counts d0 (state_of d0 x) e x
  counts0 = subst (λ (D : Defs). Counts D (state_of D x) e x) same0 old.clean.counts

  counts_y : Counts e0 (state_of e0 y) e y
  counts_y = record {
    records = ap (λ (t : State). t.records) (new_is ∙ refl) ∙ ap (λ (t : State). t.records) (sym old_state) ∙ counts0.records ∙ ap (λ (rs : List Row). length rs) (sym read_same);
    del = ap (λ (t : State). t.del) new_is ∙ ap (λ (t : State). t.del) (sym old_state) ∙ counts0.del ∙ ap (λ (rs : List Range). length rs) (sym gone_same);
    split = ap (λ (t : State). t.split) new_is ∙ ap (λ (t : State). t.split) (sym old_state) ∙ counts0.split ∙ ap (λ (rs : List Row). length (ranges_of rs)) (sym read_same);
    key_file_length = ap (λ (t : State). t.key_file_length) new_is ∙ sym long;
    data_file_length = ap (λ (t : State). t.data_file_length) new_is ∙ ap (λ (t : State). t.data_file_length) (sym old_state) ∙ counts0.data_file_length;
    empty = ap (λ (t : State). t.empty) new_is ∙ ap (λ (t : State). t.empty) (sym old_state) ∙ counts0.empty ∙ ap total (sym gone_same);
  }

  list0 : (ps : List ℕ) × IsPermutation (map (λ (a : Range). a.0) (deleted d0 e)) ps × Follows d0 e None (state_of d0 x).dellink ps
  list0 = subst (λ (D : Defs). (ps : List ℕ) × IsPermutation (map (λ (a : Range). a.0) (deleted D e)) ps × Follows D e None (state_of D x).dellink ps) same0 old.clean.list

  no_head : (state_of e0 y).dellink ≡ (state_of d0 x).dellink
  no_head = ap (λ (t : State). t.dellink) new_is ∙ ap (λ (t : State). t.dellink) (sym old_state)

  rows_are : readable d false e ≡ stored_rows d 0 rows
  rows_are =
      ap (readable d false) old.laid
      ∙ stored_read d false rows s (All-from_recursion (IsStorable d) rows can) (λ dynamic. omega (arith, short_enough d (length e) reached, ap (λ (b : List ℕ). length b) old.laid))

  placed_are : map (placed_row e0) (readable e0 false e) ≡ placed_from d 0 rows
  placed_are = ap (map (placed_row e0)) (readable_same d r false e) ∙ placed_same d r (readable d false e) ∙ ap (map (placed_row d)) rows_are ∙ laid_placed d 0 rows s can

  roots_are : (state_of e0 y).roots ≡ roots
  roots_are = ap (λ (t : State). t.roots) new_is

  trees_y : HaveWalks e0 y ((0, first_page_of e0) ∷ []) (key_numbers e0) (state_of e0 y).roots stands.walks
  trees_y =
      subst (λ (n : ℕ). HaveWalks e0 y ((0, n) ∷ []) (key_numbers e0) (state_of e0 y).roots stands.walks) (sym first_is)
      (subst (λ (rs : List (Option ℕ)). HaveWalks e0 y ((0, first_page_of d) ∷ []) (key_numbers e0) rs stands.walks) (sym roots_are)
      (walks_same d r y ((0, first_page_of d) ∷ []) (key_numbers d) roots stands.walks stands.trees))

  distinct0 : AreDistinct d0 [] (map (values_of d0) (readable d0 false e))
  distinct0 = subst (λ (D : Defs). AreDistinct D [] (map (values_of D) (readable D false e))) same0 old.clean.distinct

  covered0 : (p : ℕ) → p < length e → list_any (covers p) (ranges_of (readable d0 false e) ++ deleted d0 e) ≡ true
  covered0 = subst (λ (D : Defs). (p : ℕ) → p < length e → list_any (covers p) (ranges_of (readable D false e) ++ deleted D e) ≡ true) same0 old.clean.covered

  clean_y : IsClean e y
  clean_y = record {
    defs = e0;
    read = elsewhere d y defined agree;
    mark = mark_same d r y like ∙ marked;
    addressable = addressable_same d r (length e) ∙ reached;
    covered = λ p few. ap (λ (rs : List Row). list_any (covers p) (ranges_of rs ++ deleted e0 e)) read_same ∙ ap (λ (rs : List Range). list_any (covers p) (ranges_of (readable d0 false e) ++ rs)) gone_same ∙ covered0 p few;
    list = (
      list0.0,
      subst (λ (rs : List Range). IsPermutation (map (λ (a : Range). a.0) rs) list0.0) (sym gone_same) list0.1,
      subst (λ (h : Option ℕ). Follows e0 e None h list0.0) (sym no_head) (follows_same d0 r e None (state_of d0 x).dellink list0.0 list0.2),
    );
    counts = counts_y;
    walks = stands.walks;
    trees = trees_y;
    lists = subst (λ (ps : List PlacedRow). AreKeyLists e0 ps (key_numbers e0) stands.walks) (sym placed_are) (lists_same d r (placed_from d 0 rows) (key_numbers d) stands.walks stands.lists);
    key_empty = ap (λ (t : State). t.key_empty) new_is ∙ omega (arith, first_is, long, stands.size, ap total (pages_same d r (key_numbers d) stands.walks));
    distinct = subst (AreDistinct e0 []) (sym (ap (map (values_of e0)) read_same ∙ values_same d0 r (readable d0 false e))) (distinct_same d0 r [] (map (values_of d0) (readable d0 false e)) distinct0);
  }

  pub rebuilt_anyhow : RebuiltAnyhow d rows now e y
  rebuilt_anyhow = record {
    read = old.read;
    laid = old.laid;
    definitions = elsewhere d y defined agree;
    elsewhere = agree;
    clean = clean_y;
    state = state ∙ ap (λ (t : State). with_trees_of t (rebuilt_state d rows now)) (sym state);
  }

-- row pointers reach the data file
old_reached : (d : Defs) (rows : List SizedRow) (now : ℕ) (e x : List ℕ) → Rebuilt d rows now e x → is_addressable d (length e) ≡ true
old_reached d rows now e x old =
    let r0 : List ℕ = take (num_at 6 2 d.raw) x in
    let same0 : old.clean.defs ≡ with_raw d r0 = ok_same {E = DefFault} old.clean.defs (with_raw d r0) (sym old.clean.read ∙ old.definitions) in
    sym (addressable_same d r0 (length e)) ∙ subst (λ (D : Defs). is_addressable D (length e) ≡ true) same0 old.clean.addressable

-- ---- what was filled and finished

-- the state that is written
abbrev pub kept_state : Defs → Bool → List ℕ → ℕ → ℕ → List (Option ℕ) → State
kept_state d extend b end now roots = made_state d (length (kept d extend b)) (block_count d (kept d extend b)) (length (stored_file d (kept d extend b))) end now roots

kept_again : (d : Defs) (extend : Bool) (b : List ℕ) (now : ℕ) (y : List ℕ) → Recovered d extend b now (new_data d extend b) (new_index d extend b now) → RebuiltAnyhow d (kept d extend b) now (new_data d extend b) y → SafelyRecovered d extend b now (new_data d extend b) y
kept_again d extend b now y old new = record { rebuilt = new; shorter = old.shorter }

pub finished_recovered : Fronts → (d : Defs) (extend : Bool) (b : List ℕ) (now end : ℕ) (roots : List (Option ℕ)) (x : List ℕ) → IsRepairable d b now → AllByRecursion (IsStorable d) (kept d extend b)
    → AreFew d (length (kept d extend b)) (block_count d (kept d extend b)) (length (stored_file d (kept d extend b))) end now roots → HasTrees d roots end (kept d extend b) x → first_page_of d ≤ end
    → SafelyRecovered d extend b now (new_data d extend b) (over_front end (header_of d (kept_state d extend b end now roots)) x)
finished_recovered law d extend b now end roots x can storable few has inside =
    let s : IsSound d = sound d can.defined in
    let rows = kept d extend b in
    let state : State = kept_state d extend b end now roots in
    let holds : IsStored d state = stored d (length rows) (block_count d rows) (length (stored_file d rows)) end now roots s few in
    let h : List ℕ = header_of d state in
    let long : length h ≡ first_page_of d = header-long d state s holds.roots holds.rest in
    let within : length h ≤ end = omega (arith, long, inside) in
    let y : List ℕ = over_front end h x in
    let more : List ℕ = drop (length h) y in
    let is : y ≡ h ++ more = behind end h x within in
    let old = recovered d extend b now can in
    let reached = old_reached d rows now (new_data d extend b) (new_index d extend b now) old.rebuilt in
    kept_again d extend b now y old
    (rebuilt_anyhow d rows now (new_data d extend b) (new_index d extend b now) y end roots can.defined s old.rebuilt storable reached
    (ap (has_mark d) is ∙ header-marked d state more s holds)
    (subst (AgreeOutsideState d.raw) (sym is) (header-elsewhere d state more s holds))
    (ap (state_of d) is ∙ header-state d state more s holds)
    (front_long end h x within)
    (stands_between d roots end rows x y s few.count has (between law (first_page_of d) end h x (omega (arith, long)))))

-- what any repair leaves is left so
pub any_repair : (d : Defs) (extend : Bool) (b : List ℕ) (now : ℕ) (e y : List ℕ) → Recovered d extend b now e y → SafelyRecovered d extend b now e y
any_repair d extend b now e y old = record {
  rebuilt = record {
    read = old.rebuilt.read;
    laid = old.rebuilt.laid;
    definitions = old.rebuilt.definitions;
    elsewhere = old.rebuilt.elsewhere;
    clean = old.rebuilt.clean;
    state = old.rebuilt.state ∙ ap (λ (t : State). with_trees_of t (rebuilt_state d (kept d extend b) now)) (sym old.rebuilt.state);
  };
  shorter = old.shorter;
}
