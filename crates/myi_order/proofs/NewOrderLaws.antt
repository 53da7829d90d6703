-- Rows that are put one after the other into a new data file, in the order of places.
use Rattle.std.proofs.Common.{◌≡◌, ◌∙◌, ℕ, zero, suc, ◌+◌, ◌-◌, ◌<◌, ◌≤◌, true, false, drop, List, [], ◌∷◌, ◌++◌, length, get_or, map, take, unwrap_or, Option, Some, refl, sym, ap, subst, arith}
use Rattle.std.specs.List.{AllByRecursion}
use Rattle.std.proofs.lemmas.List.{map-append, take_all, length-map}
use Rattle.myi_base.specs.Holding.{Holding, HoldsBytes, OthersStay, bytes_of, resized}
use Rattle.myi_base.specs.Numbers.{AreBytes}
use Rattle.myi_defs.specs.ReadDefs.{AreDefs}
use Rattle.myi_defs.specs.declared.types.Defs.{Defs}
use Rattle.myi_opening.specs.declared.opening.OpenedTable.{OpenedTable}
use Rattle.myi_pack.specs.Spelling.{fits}
use Rattle.myi_chain.specs.Readable.{Row}
use Rattle.myi_keylist.specs.declared.pair.Pair.{Pair}
use Rattle.myi_keylist.specs.PairOrder.{sorted}
use Rattle.myi_data.specs.Readable.{readable}
use Rattle.myi_data.specs.Stored.{SizedRow, stored_file, IsStorable}
use Rattle.myi_rowkeys.specs.TableKeys.{row_keys}
use Rattle.myi_rowkeys.specs.RowLists.{with_pairs}
use Rattle.myi_rowkeys.proofs.CallerLemmas.{numbers_next, mapped_at}
use Rattle.myi_pair.specs.KeyList.{PlacedRow}
use Rattle.myi_pair.specs.Clean.{placed_row, sized_row}
use Rattle.myi_repair.specs.Names.{FourNames, AreApart, KeepsBoth}
use Rattle.myi_repair.specs.Keeping.{IsPrepared, AreStorable, Adds, WritesIf}
use Rattle.myi_repair.specs.Gathering.{all_chosen, IsOfRows}
use Rattle.myi_repair.specs.declared.gathering.Gathered.{Gathered}
use Rattle.myi_pair.proofs.CallerLemmas.{readable_storable}
use Rattle.myi_order.specs.Sorting.{rows_of}
use Rattle.myi_order.proofs.OrderLaws.{order_all, order_pairs}
use Rattle.myi_order.proofs.PlaceLaws.{readable_stand}
use Rattle.myi_repair.proofs.CallerLemmas.{chosen_all}
use Rattle.myi_order.specs.declared.new_order.NewTable.{NewTable}
use Rattle.myi_order.specs.declared.rows_read.RowsRead.{RowsRead}
use Rattle.myi_order.specs.InOrder.{placed_key, in_order}
use Rattle.myi_order.specs.Counting.{placed_pair, HasRead}
use Rattle.myi_order.specs.AtPlaces.{Stands}
use Rattle.myi_order.specs.declared.nearby.Nearby.{Nearby}
use Rattle.myi_order.specs.Nearby.{Knows}
use Rattle.myi_window.specs.Excerpt.{StandsIn, GoesOnStanding}
use Rattle.myi_order.specs.NewOrder.{HasPut, Puts, Appends, AreAt, IsOrder, GathersInOrder}

-- ---- one row

-- one more row was put
pub puts_more : (d : Defs) (old new : NewTable) → ((row : SizedRow) → IsPrepared d row old.next → new.keys ≡ with_pairs (length old.rows.pointers) (row_keys d row.values) old.keys) → ((row : SizedRow) → IsPrepared d row old.next → Adds d true row old.rows new.rows) → Puts d old new
puts_more d old new keys adds row rows prepared put = record {
  written = adds row prepared all_chosen rows refl put.written;
  keys = keys row prepared ∙ ap (λ n. with_pairs n (row_keys d row.values) old.keys) put.written.came.long ∙ ap (with_pairs (length rows) (row_keys d row.values)) put.keys ∙ numbers_next d rows row;
}

pub appends_more : (d : Defs) (file : List ℕ) (old : NewTable) (m n : Holding) → ((row : SizedRow) → IsPrepared d row old.next → WritesIf d file true row old.rows m n) → Appends d file old m n
appends_more d file old m n writes row rows prepared put can here =
    writes row prepared all_chosen rows refl put.written can (here ∙ ap (λ rs. Some (stored_file d rs)) (sym (chosen_all rows)))
    ∙ ap (λ rs. Some (stored_file d rs)) (chosen_all (rows ++ row ∷ []))

-- ---- the place that comes next

pub place_next : (P : Row → Type 0) (order : List Pair) (rs : List Row) (i at : ℕ) → map (λ (r : Row). r.at) rs ≡ map (λ (p : Pair). p.row) order → i < length order → ((p : Pair) → at ≡ (get_or order i p).row) → AllByRecursion P rs
    → (r : Row) × (r.at ≡ at) × P r × (take (i + 1) rs ≡ take i rs ++ r ∷ [])
place_next P [] rs i at same inside is all = absurd (omega arith)
place_next P (p ∷ order) [] i at same inside is all = absurd cc
place_next P (p ∷ order) (r ∷ rs) zero at same inside is all = (r, ap (λ ns. get_or ns 0 0) same ∙ sym (is p), all.0, refl)
place_next P (p ∷ order) (r ∷ rs) (suc i) at same inside is all =
    let more = place_next P order rs i at (ap (drop 1) same) (omega arith) is all.1 in
    let e : suc i + 1 ≡ suc (i + 1) = omega arith in
    (more.0, more.1, more.2, rw e (ap (λ (qs : List Row). r ∷ qs) more.3))

-- ---- the loop

-- the rows at the first places were put, and the data file is as it was
abbrev pub PutTo : FourNames → OpenedTable → List Pair → ℕ → List SizedRow → Holding → Holding → Type 0
PutTo t o order i rows m n = (bytes_of t.rows n ≡ bytes_of t.rows m) × ((rs : List Row) → length (bytes_of t.rows m) ≡ o.length → AreAt o.defs (bytes_of t.rows m) order rs → (rows ≡ map (sized_row o.defs) (take i rs)) × (n t.new_rows ≡ Some (stored_file o.defs rows)))

pub put_none : (t : FourNames) (o : OpenedTable) (order : List Pair) (m : Holding) → m t.new_rows ≡ Some [] → PutTo t o order 0 [] m m
unfolding stored_file
put_none t o order m empty = (refl, λ rs long at. (refl, empty))

all_of : {X : Type 0} (P : X → Type 0) (i : ℕ) (xs : List X) → AllByRecursion P xs → AllByRecursion P (take i xs)
all_of P zero xs all = tt
all_of P (suc i) [] all = tt
all_of P (suc i) (x ∷ xs) all = (all.0, all_of P i xs all.1)

map_take : {X Y : Type 0} (f : X → Y) (i : ℕ) (xs : List X) → map f (take i xs) ≡ take i (map f xs)
map_take f zero xs = refl
map_take f (suc i) [] = refl
map_take f (suc i) (x ∷ xs) = ap (λ ys. f x ∷ ys) (map_take f i xs)

-- the rows at the first places can be stored
storable_front : (d : Defs) (i : ℕ) (rs : List Row) → AreStorable d (map (sized_row d) rs) → AreStorable d (map (sized_row d) (take i rs))
storable_front d i rs all = subst (AreStorable d) (sym (map_take (sized_row d) i rs)) (all_of (IsStorable d) i (map (sized_row d) rs) all)

-- the same, and what is held of the data file stands in it
abbrev pub PutNear : FourNames → OpenedTable → List Pair → ℕ → List SizedRow → Nearby → Holding → Holding → Type 0
PutNear t o order i rows near m n = PutTo t o order i rows m n × StandsIn near.window (bytes_of t.rows n)

-- the row that stands at a place of the data file is this
abbrev pub IsThere : List ℕ → OpenedTable → Nearby → ℕ → SizedRow → Holding → Type 0
IsThere name o near at row k = Knows near name k → (r : Row) → r.at ≡ at → Stands o.defs (bytes_of name k) r → sized_row o.defs r ≡ row

-- it was read on, and one row was put
pub record Steps (t : FourNames) (o : OpenedTable) (old near : Nearby) (at : ℕ) (row : SizedRow) (new : NewTable) (k n : Holding) : Type 0 where
  pub appends : Appends o.defs t.new_rows new k n
  pub others : OthersStay t.new_rows k n
  pub stands : GoesOnStanding t.rows old.window near.window k
  pub there : IsThere t.rows o near at row k

put_next : (t : FourNames) (o : OpenedTable) (order : List Pair) (i at : ℕ) (rows : List SizedRow) (row : SizedRow) (near : Nearby) (new : NewTable) (m k n : Holding) → near.end ≡ o.length → StandsIn near.window (bytes_of t.rows k) → (t.rows ≡ t.new_rows → ⊥) → i < length order → ((p : Pair) → at ≡ (get_or order i p).row) → PutTo t o order i rows m k → IsPrepared o.defs row new.next → IsThere t.rows o near at row k → HasPut o.defs rows new
    → Appends o.defs t.new_rows new k n → OthersStay t.new_rows k n → PutTo t o order (i + 1) (rows ++ row ∷ []) m n
put_next t o order i at rows row near new m k n end held apart inside is before prepared there put appends others = (
  ap (λ (b : Option (List ℕ)). unwrap_or b []) (others t.rows apart) ∙ before.0,
  λ rs long are.
      let d = o.defs in
      let was = before.1 rs long are in
      let next = place_next (Stands d (bytes_of t.rows m)) order rs i at are.places inside is are.stand in
      let stands : Stands d (bytes_of t.rows k) next.0 = subst (λ x. Stands d x next.0) (sym before.0) next.2 in
      let same : sized_row d next.0 ≡ row = there (record { long = ap (λ (x : List ℕ). length x) before.0 ∙ long ∙ sym end; stands = held }) next.0 next.1 stands in
      let came : rows ++ row ∷ [] ≡ map (sized_row d) (take (i + 1) rs) =
      ap (λ qs. qs ++ row ∷ []) was.0 ∙ ap (λ r. map (sized_row d) (take i rs) ++ r ∷ []) (sym same) ∙ sym (map-append (sized_row d) (take i rs) (next.0 ∷ [])) ∙ ap (map (sized_row d)) (sym next.3) in
      let can : AreStorable d rows = subst (AreStorable d) (sym was.0) (storable_front d i rs are.storable) in
      (came, appends row rows prepared put can was.1),
)

pub put_near : (t : FourNames) (o : OpenedTable) (order : List Pair) (i at : ℕ) (rows : List SizedRow) (row : SizedRow) (old near : Nearby) (new : NewTable) (m k n : Holding) → near.end ≡ o.length → (t.rows ≡ t.new_rows → ⊥) → i < length order → ((p : Pair) → at ≡ (get_or order i p).row) → PutNear t o order i rows old m k
    → IsPrepared o.defs row new.next → HasPut o.defs rows new → Steps t o old near at row new k n → PutNear t o order (i + 1) (rows ++ row ∷ []) near m n
put_near t o order i at rows row old near new m k n end apart inside is before prepared put step =
    let held : StandsIn near.window (bytes_of t.rows k) = step.stands before.1 in
    let same : bytes_of t.rows n ≡ bytes_of t.rows k = ap (λ (b : Option (List ℕ)). unwrap_or b []) (step.others t.rows apart) in
    (put_next t o order i at rows row near new m k n end held apart inside is before.0 prepared step.there put step.appends step.others, subst (StandsIn near.window) (sym same) held)

pub put_whole : (t : FourNames) (o : OpenedTable) (order : List Pair) (i : ℕ) (rows : List SizedRow) (m n : Holding) → length order ≤ i → PutTo t o order i rows m n → (rs : List Row) → length (bytes_of t.rows m) ≡ o.length → AreAt o.defs (bytes_of t.rows m) order rs → (rows ≡ map (sized_row o.defs) rs) × (n t.new_rows ≡ Some (stored_file o.defs rows))
put_whole t o order i rows m n end is rs long are =
    let was = is.1 rs long are in
    let many : length rs ≡ length order = sym (length-map rs (λ (r : Row). r.at)) ∙ ap (λ (ns : List ℕ). length ns) are.places ∙ length-map order (λ (p : Pair). p.row) in
    (was.0 ∙ ap (map (sized_row o.defs)) (take_all i rs (omega (arith, end, many))), was.1)

-- ---- the order

keys_placed : (d : Defs) (k : ℕ) (rows : List Row) → map (placed_pair d k) (map (placed_row d) rows) ≡ map (placed_key d k) rows
keys_placed d k [] = refl
keys_placed d k (r ∷ rows) = ap (λ (ps : List Pair). placed_key d k r ∷ ps) (keys_placed d k rows)

-- the list of a key, put in order
pub ordered_list : (d : Defs) (k i : ℕ) (rows : List PlacedRow) (x : List ℕ) (r : RowsRead) (lists : List (List Pair)) (list order : List Pair) → i ≡ k - 1 → 0 < k → k ≤ length d.keys → HasRead d rows r → rows ≡ map (placed_row d) (readable d false x) → lists ≡ r.keys → list ≡ get_or lists i [] → order ≡ sorted list → IsOrder d k x order
ordered_list d k i rows x r lists list order index some inside has is same taken sort =
    let number : 1 + i ≡ k = omega (arith, index, some) in
    let here : list ≡ map (placed_pair d k) rows =
    taken ∙ ap (λ (ls : List (List Pair)). get_or ls i []) (same ∙ has.pairs) ∙ mapped_at (λ j. map (placed_pair d j) rows) 1 (length d.keys) i [] (omega (arith, index, some, inside)) ∙ ap (λ j. map (placed_pair d j) rows) number in
    sort ∙ ap sorted (here ∙ ap (map (placed_pair d k)) is ∙ keys_placed d k (readable d false x))

-- a file of length 0 has no byte
pub resized_none : (xs : List ℕ) → resized 0 xs ≡ []
resized_none xs = let e : 0 - length xs ≡ 0 = omega arith in rw e refl

-- what was told of the data file behind a change of the working file is so of the one before it
pub put_after : (t : FourNames) (o : OpenedTable) (order : List Pair) (rows : List SizedRow) (m k n : Holding) → (t.rows ≡ t.new_rows → ⊥) → OthersStay t.new_rows m k
    → ((rs : List Row) → length (bytes_of t.rows k) ≡ o.length → AreAt o.defs (bytes_of t.rows k) order rs → (rows ≡ map (sized_row o.defs) rs) × (n t.new_rows ≡ Some (stored_file o.defs rows)))
    → (rs : List Row) → length (bytes_of t.rows m) ≡ o.length → AreAt o.defs (bytes_of t.rows m) order rs → (rows ≡ map (sized_row o.defs) rs) × (n t.new_rows ≡ Some (stored_file o.defs rows))
put_after t o order rows m k n apart others is rs long are =
    let same : bytes_of t.rows k ≡ bytes_of t.rows m = ap (λ (b : Option (List ℕ)). unwrap_or b []) (others t.rows apart) in
    is rs (ap (λ (x : List ℕ). length x) same ∙ long) (subst (λ x. AreAt o.defs x order rs) (sym same) are)

-- ---- the whole

places_of : (d : Defs) (k : ℕ) (rows : List Row) → map (λ (p : Pair). p.row) (map (placed_key d k) rows) ≡ map (λ (r : Row). r.at) rows
places_of d k [] = refl
places_of d k (r ∷ rows) = ap (λ (ns : List ℕ). r.at ∷ ns) (places_of d k rows)

all_mapped : {X Y : Type 0} (P : Y → Type 0) (f : X → Y) (xs : List X) → AllByRecursion (λ x. P (f x)) xs → AllByRecursion P (map f xs)
all_mapped P f [] all = tt
all_mapped P f (x ∷ xs) all = (all.0, all_mapped P f xs all.1)

-- the rows of a data file in the order of a key can be stored
pub ordered_storable : (d : Defs) (k : ℕ) (x : List ℕ) → AreDefs d → AreBytes x → AreStorable d (rows_of d k x)
ordered_storable d k x are bytes = all_mapped (IsStorable d) (sized_row d) (in_order d k (readable d false x)) (order_all (λ (r : Row). IsStorable d (sized_row d r)) d k (readable d false x) (readable_storable d false x are bytes))

-- they stand at the places of the sorted pairs
are_at : (d : Defs) (k : ℕ) (x : List ℕ) (order : List Pair) → AreDefs d → AreBytes x → IsOrder d k x order → AreAt d x order (in_order d k (readable d false x))
are_at d k x order are bytes is = record {
  places = sym (ap (map (λ (p : Pair). p.row)) (is ∙ sym (order_pairs d k (readable d false x))) ∙ places_of d k (in_order d k (readable d false x)));
  stand = order_all (Stands d x) d k (readable d false x) (readable_stand d x);
  storable = ordered_storable d k x are bytes;
}

pub gathered_in_order : (t : FourNames) (k : ℕ) (o : OpenedTable) (order : List Pair) (rows : List SizedRow) (g : Gathered) (m n : Holding) → AreDefs o.defs → HoldsBytes m → g.defs ≡ o.defs → g.report.old_length ≡ o.length → ((x : List ℕ) → m t.rows ≡ Some x → IsOrder o.defs k x order)
    → (AreStorable o.defs rows → IsOfRows rows g × (g.report.repeats ≡ 0)) → ((rs : List Row) → length (bytes_of t.rows m) ≡ o.length → AreAt o.defs (bytes_of t.rows m) order rs → (rows ≡ map (sized_row o.defs) rs) × (n t.new_rows ≡ Some (stored_file o.defs rows)))
    → GathersInOrder t k g m n
gathered_in_order t k o order rows g m n are holds defs long ordered gathered put x there fits =
    let d = o.defs in
    let here : bytes_of t.rows m ≡ x = ap (λ (b : Option (List ℕ)). unwrap_or b []) there in
    let bytes : AreBytes x = subst AreBytes here (holds t.rows) in
    let at : AreAt d (bytes_of t.rows m) order (in_order d k (readable d false x)) = subst (λ y. AreAt d y order (in_order d k (readable d false x))) (sym here) (are_at d k x order are bytes (ordered x there)) in
    let took = put (in_order d k (readable d false x)) (ap (λ (y : List ℕ). length y) here ∙ fits ∙ long) at in
    let can : AreStorable d rows = subst (AreStorable d) (sym took.0) (ordered_storable d k x are bytes) in
    let is = gathered can in
    let rows_is : rows ≡ rows_of g.defs k x = took.0 ∙ ap (λ e. rows_of e k x) (sym defs) in
    record {
      rows = subst (λ rs. IsOfRows rs g) rows_is is.0;
      none = is.1;
      written = took.1 ∙ ap (λ e. Some (stored_file e rows)) (sym defs) ∙ ap (λ rs. Some (stored_file g.defs rs)) rows_is;
    }

-- ---- the two files

pub both_new_rows : (t : FourNames) (m n : Holding) → AreApart t → OthersStay t.new_rows m n → KeepsBoth t m n
both_new_rows t m n apart keeps = record { rows = keeps t.rows apart.rows-new_rows; index = keeps t.index apart.index-new_rows }

pub both_after : (t : FourNames) (m n p : Holding) → KeepsBoth t n p → KeepsBoth t m n → KeepsBoth t m p
both_after t m n p second first = record { rows = second.rows ∙ first.rows; index = second.index ∙ first.index }
