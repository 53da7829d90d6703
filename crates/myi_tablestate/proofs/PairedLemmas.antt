-- A clean pair stands for exactly one table.
use Rattle.std.proofs.Common.{◌≡◌, ℕ, ◌-◌, ◌^◌, ◌<◌, Bool, true, false, ◌&&◌, List, [], ◌∷◌, length, map, Option, Some, None, refl, sym, ap, subst, ◌∙◌, arith}
use Rattle.std.specs.Prelude.{nat_le, nat_lt}
use Rattle.std.specs.List.{AllByRecursion}
use Rattle.std.proofs.lemmas.Bool.{leb-true}
use Rattle.myi_base.specs.Numbers.{AreBytes}
use Rattle.myi_defs.specs.declared.types.RowFormat.{RowFormat}
use Rattle.myi_defs.specs.declared.types.RowFormat.TheVariants.{Static, Dynamic}
use Rattle.myi_defs.specs.declared.types.Defs.{Defs}
use Rattle.myi_defs.specs.Addressable.{is_addressable, pointers}
use Rattle.myi_defs.specs.Sound.{IsSound}
use Rattle.myi_defs.proofs.CallerLemmas.{sound, are_defs}
use Rattle.myi_header.specs.StateOf.{state_of}
use Rattle.myi_frames.specs.Block.{Block, block_of}
use Rattle.myi_pack.specs.Spelling.{fits}
use Rattle.myi_chain.specs.Readable.{Row}
use Rattle.myi_chain.specs.Meeting.{AreRising}
use Rattle.myi_dellist.specs.Areas.{Area}
use Rattle.myi_dellist.specs.Standing.{first_or, IsPart, hole_block}
use Rattle.myi_data.specs.Readable.{readable}
use Rattle.myi_data.specs.Stored.{IsStorable}
use Rattle.myi_state.specs.declared.counts.Counts.{Counts}
use Rattle.myi_state.specs.State.{StoredRow, TableState}
use Rattle.myi_state.specs.Sound.{IsSlot, AreHoles}
use Rattle.myi_state.specs.Numbers.{counts_of}
use Rattle.myi_state.specs.Standing.{stored_row, ListSlots, HolesStand, StandsFor}
use Rattle.myi_slots.specs.SlotFile.{counts_in}
use Rattle.myi_btree.specs.Walk.{Walked}
use Rattle.myi_pair.specs.FirstRows.{key_numbers, AreDistinct}
use Rattle.myi_pair.specs.KeyList.{PlacedRow, key_list}
use Rattle.myi_pair.specs.Trees.{AreKeyLists}
use Rattle.myi_pair.specs.Clean.{sized_row, placed_row, IsClean, IsCovered, ListsDeleted}
use Rattle.myi_pair.proofs.CallerLemmas.{readable_storable}
use Rattle.myi_tablestate.specs.Listed.{placed}
use Rattle.myi_tablestate.specs.Standing.{HavePairs, StandForTable}
use Rattle.myi_tablestate.proofs.CleanLemmas.{IsRead, placed_read, values_read}
use Rattle.myi_tablestate.proofs.StandLemmas.{Rises, IsListed, table_of, listed_state, listed_stands, listed_head}

-- ---- a clean pair stands for a table

and_left : (a b : Bool) → (a && b) ≡ true → a ≡ true
and_left true b is = refl
and_left false b is = absurd cc

short_by : (len : ℕ) (b : Bool) → (nat_le len (2 ^ 40) && b) ≡ true → len < 2 ^ 64
short_by len b is = let few = leb-true len (2 ^ 40) (and_left (nat_le len (2 ^ 40)) b is) in omega (arith, few)

is_short : (d : Defs) (len : ℕ) → is_addressable d len ≡ true → len < 2 ^ 64
unfolding is_addressable
is_short d len is = short_by len (nat_lt (pointers d.format d.slot_length len) (256 ^ d.rec_ref - 1)) is

rows_fit : (d : Defs) (rows : List Row) → AllByRecursion (λ (r : Row). IsStorable d (sized_row d r)) rows → AllByRecursion (λ (r : StoredRow). fits d r.values ≡ true) (map (stored_row d) rows)
rows_fit d [] all = tt
rows_fit d (r ∷ rows) all = (all.0.fits, rows_fit d rows all.1)

have_pairs : (d : Defs) (rows : List StoredRow) (placed_rows : List PlacedRow) → map placed rows ≡ placed_rows → (ks : List ℕ) (ws : List Walked) → AreKeyLists d placed_rows ks ws → HavePairs d rows ks ws
have_pairs d rows placed_rows same [] ws have = have
have_pairs d rows placed_rows same (k ∷ ks) [] have = absurd have
have_pairs d rows placed_rows same (k ∷ ks) (w ∷ ws) have = (have.0 ∙ ap (key_list d k) (sym same), have_pairs d rows placed_rows same ks ws have.1)

counts_same : (a b : Counts) → a.records ≡ b.records → a.del ≡ b.del → a.split ≡ b.split → a.empty ≡ b.empty → a.length ≡ b.length → a.dellink ≡ b.dellink → a ≡ b
counts_same a b r d s e l h =
    ap (λ (n : ℕ). record { records = n; del = a.del; split = a.split; empty = a.empty; length = a.length; dellink = a.dellink }) r
    ∙ ap (λ (n : ℕ). record { records = b.records; del = n; split = a.split; empty = a.empty; length = a.length; dellink = a.dellink }) d
    ∙ ap (λ (n : ℕ). record { records = b.records; del = b.del; split = n; empty = a.empty; length = a.length; dellink = a.dellink }) s
    ∙ ap (λ (n : ℕ). record { records = b.records; del = b.del; split = b.split; empty = n; length = a.length; dellink = a.dellink }) e
    ∙ ap (λ (n : ℕ). record { records = b.records; del = b.del; split = b.split; empty = b.empty; length = n; dellink = a.dellink }) l
    ∙ ap (λ (n : Option ℕ). record { records = b.records; del = b.del; split = b.split; empty = b.empty; length = b.length; dellink = n }) h

pub is_listed : (d : Defs) (b : List ℕ) (head : Option ℕ) → IsSound d → AreBytes b → is_addressable d (length b) ≡ true → IsCovered d b → (list : ListsDeleted d b head) → Rises d b → AreRising 0 (readable d false b) → IsListed d b head list.0
is_listed d b head fine bytes reached covered list rise rising = record {
  sound = fine;
  bytes = bytes;
  short = is_short d (length b) reached;
  rise = rise;
  rising = rising;
  full = covered;
  same = list.1;
  follows = list.2;
}

pub is_clean_listed : (b x : List ℕ) (c : IsClean b x) → AreBytes b → Rises c.defs b → AreRising 0 (readable c.defs false b) → IsListed c.defs b (state_of c.defs x).dellink c.list.0
is_clean_listed b x c bytes rise rising = is_listed c.defs b (state_of c.defs x).dellink (sound c.defs (are_defs x c.defs c.read)) bytes c.addressable c.covered c.list rise rising

pub stands : (b x : List ℕ) → AreBytes b → (c : IsClean b x) → (l : IsListed c.defs b (state_of c.defs x).dellink c.list.0) → IsRead c.defs (table_of c.defs b c.list.0) b → StandForTable c.defs (table_of c.defs b c.list.0) b x
unfolding counts_of
stands b x bytes c l r =
    let d = c.defs in
    let s = table_of d b c.list.0 in
    let rows = readable d false b in
    let n = c.counts in
    record {
      table = record {
        state = listed_state d b (state_of d x).dellink c.list.0 l;
        fit = rows_fit d rows (readable_storable d false b (are_defs x d c.read) bytes);
        distinct = subst (λ vs. AreDistinct d [] vs) (sym (values_read d rows)) c.distinct;
      };
      rows = listed_stands d b (state_of d x).dellink c.list.0 l;
      addressable = c.addressable;
      read = c.read;
      mark = c.mark;
      numbers = counts_same (counts_in (state_of d x)) (counts_of s) (n.records ∙ sym r.records) (n.del ∙ sym r.del) (n.split ∙ sym r.split) (n.empty ∙ sym r.empty) (n.data_file_length ∙ sym r.long) (sym (listed_head d b (state_of d x).dellink c.list.0 c.list.2));
      long = n.key_file_length;
      trees = record {
        walks = c.walks;
        trees = c.trees;
        pairs = have_pairs d s.rows (map (placed_row d) rows) (placed_read d rows) (key_numbers d) c.walks c.lists;
        free = c.key_empty;
      };
    }

-- ---- for one alone

some_area : (a b : ℕ) → Some a ≡ Some b → a ≡ b
some_area a b is = cc

area_same : (a b : Area) → a.at ≡ b.at → a.size ≡ b.size → a ≡ b
area_same a b at size = ap (λ (p : ℕ). record { at = p; size = a.size }) at ∙ ap (λ (n : ℕ). record { at = b.at; size = n }) size

slots_same : (d : Defs) (x : List ℕ) (one other : List Area) → first_or one None ≡ first_or other None → AllByRecursion (IsSlot d.slot_length) one → AllByRecursion (IsSlot d.slot_length) other → ListSlots d x one → ListSlots d x other → one ≡ other
slots_same d x [] [] head a b l m = refl
slots_same d x [] (h ∷ other) head a b l m = absurd cc
slots_same d x (g ∷ one) [] head a b l m = absurd cc
slots_same d x (g ∷ one) (h ∷ other) head a b l m =
    let at = some_area g.at h.at head in
    let same = area_same g h at (a.0 ∙ sym b.0) in
    let next : first_or one None ≡ first_or other None = sym l.1 ∙ ap (λ (p : ℕ). Rattle.myi_state.specs.Standing.next_in_slot d x p) at ∙ m.1 in
    ap (λ (t : Area). t ∷ one) same ∙ ap (λ (ts : List Area). h ∷ ts) (slots_same d x one other next a.1 b.1 l.2 m.2)

some_block : (a b : Block) → Some a ≡ Some b → a ≡ b
some_block a b is = cc

blocks_same : (x : List ℕ) (before : Option ℕ) (one other : List Area) → first_or one None ≡ first_or other None → IsPart x before one None → IsPart x before other None → one ≡ other
blocks_same x before [] [] head l m = refl
blocks_same x before [] (h ∷ other) head l m = absurd cc
blocks_same x before (g ∷ one) [] head l m = absurd cc
blocks_same x before (g ∷ one) (h ∷ other) head l m =
    let at = some_area g.at h.at head in
    let block = some_block (hole_block g (first_or one None) before) (hole_block h (first_or other None) before) (sym l.0 ∙ ap (block_of x) at ∙ m.0) in
    let same = area_same g h at (ap (λ (b : Block). b.size) block) in
    ap (λ (t : Area). t ∷ one) same
    ∙ ap (λ (ts : List Area). h ∷ ts) (blocks_same x (Some h.at) one other (ap (λ (b : Block). b.next) block) (subst (λ (p : ℕ). IsPart x (Some p) one None) at l.1) m.1)

holes_same : (f : RowFormat) (d : Defs) (x : List ℕ) (one other : List Area) → first_or one None ≡ first_or other None → AreHoles f d.slot_length one → AreHoles f d.slot_length other → HolesStand f d x one → HolesStand f d x other → one ≡ other
holes_same Static d x one other head a b l m = slots_same d x one other head a b l m
holes_same Dynamic d x one other head a b l m = blocks_same x None one other head l.linked m.linked

state_same : (s t : TableState) → s.rows ≡ t.rows → s.space.holes ≡ t.space.holes → s.space.end ≡ t.space.end → s ≡ t
state_same s t rows holes end =
    ap (λ rs. record { rows = rs; space = s.space }) rows
    ∙ ap (λ hs. record { rows = t.rows; space = record { holes = hs; end = s.space.end } }) holes
    ∙ ap (λ n. record { rows = t.rows; space = record { holes = t.space.holes; end = n } }) end

pub once : (d : Defs) (s t : TableState) (b x : List ℕ) → StandForTable d s b x → StandForTable d t b x → IsRead d s b → IsRead d t b → s ≡ t
unfolding counts_of
once d s t b x one other r q =
    let head : first_or s.space.holes None ≡ first_or t.space.holes None = ap (λ (c : Counts). c.dellink) (sym one.numbers ∙ other.numbers) in
    state_same s t (sym r.rows ∙ q.rows) (holes_same d.format d b s.space.holes t.space.holes head one.rows.state.holes other.rows.state.holes one.rows.holes other.rows.holes) (sym one.rows.long ∙ other.rows.long)
