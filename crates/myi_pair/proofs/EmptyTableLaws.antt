-- An empty table is a clean pair: the header of an empty table, and a data file of no bytes.
use Rattle.std.proofs.Common.{◌≡◌, ℕ, zero, suc, ◌+◌, ◌-◌, ◌*◌, ◌<◌, Bool, true, false, nat_lt, List, [], ◌∷◌, ◌++◌, length, take, drop, replicate, None, Ok, Err, refl, sym, ap, ◌∙◌, arith, length-append}
use Rattle.std.specs.Prelude.{not, if◌then◌else◌, Result}
use Rattle.std.specs.List.{flat_map}
use Rattle.std.proofs.Math.Nat.{zero-div}
use Rattle.std.proofs.lemmas.List.{length-replicate}
use Rattle.std.proofs.lemmas.List.Sorted.{IsPermutation-refl}
use Rattle.myi_base.specs.Numbers.{AreBytes}
use Rattle.myi_base.specs.Ranges.{Range}
use Rattle.myi_base.proofs.CallerLemmas.{bytes-take, bytes-drop, bytes-append, bytes-num_bytes}
use Rattle.myi_defs.specs.declared.types.RowFormat.{RowFormat}
use Rattle.myi_defs.specs.declared.types.RowFormat.TheVariants.{Static, Dynamic}
use Rattle.myi_defs.specs.declared.types.Defs.{Defs}
use Rattle.myi_defs.specs.declared.header.Front.{Front}
use Rattle.myi_defs.specs.Header.{front}
use Rattle.myi_defs.specs.Layout.{mark, first_page, all_keys}
use Rattle.myi_defs.specs.EmptyTable.{zeros, nulls, front_bytes, base_bytes, empty_header}
use Rattle.myi_defs.specs.EmptyTable as part
use Rattle.myi_defs.specs.ReadDefs.{read_defs, AreDefs}
use Rattle.myi_defs.specs.Sound.{IsSound}
use Rattle.myi_defs.proofs.CallerLemmas.{sound, are_defs, printed-again, print_reads}
use Rattle.myi_header.specs.declared.state.State.{State}
use Rattle.myi_header.specs.declared.state.StateFault.{StateFault}
use Rattle.myi_header.specs.declared.state.StateFault.TheVariants as fault
use Rattle.myi_header.specs.Layout.{first_page_of, page_sizes, key_parts}
use Rattle.myi_header.specs.StateOf.{rest_length, read_state, state_of, has_mark}
use Rattle.myi_header.specs.EmptyState.{empty_state}
use Rattle.myi_header.proofs.CallerLemmas.{header-long, empty-header, empty-again}
use Rattle.myi_chain.specs.Readable as chains
use Rattle.myi_data.specs.Readable.{packs, slot_items, items_at, items_by, items_in, readable, deleted}
use Rattle.myi_data.specs.Slots.{slots}
use Rattle.myi_pair.specs.FirstRows.{numbers_from}
use Rattle.myi_pair.specs.KeyList.{key_list}
use Rattle.myi_pair.specs.Trees.{HaveWalks, AreKeyLists, no_walk, all_pages}
use Rattle.myi_pair.specs.Clean.{IsClean}
use Rattle.myi_pair.specs.Findings.{findings}
use Rattle.myi_pair.proofs.FoundLaws.{none_where_clean, empty_reached}

-- nothing is met in a data file of no bytes
nothing_by : (format : RowFormat) (d : Defs) → items_by format d false [] ≡ []
unfolding items_at chains.items_in chains.rest chains.items
nothing_by Static d = ap (λ n. flat_map (slot_items (packs d)) (slots n 0 d.slot_length [])) (zero-div d.slot_length)
nothing_by Dynamic d = refl

nothing : (d : Defs) → items_in d false [] ≡ []
unfolding items_in
nothing d = nothing_by d.format d

no_rows : (d : Defs) → readable d false [] ≡ []
unfolding readable
no_rows d = ap chains.rows_of (nothing d)

no_blocks : (d : Defs) → deleted d [] ≡ []
unfolding deleted
no_blocks d = rw (nothing d) refl

-- no row has a key
no_pairs : (d : Defs) (k : ℕ) → key_list d k [] ≡ []
unfolding key_list
no_pairs d k = refl

-- no tree has a page
no_walks : (d : Defs) (x : List ℕ) (busy : List Range) (first n : ℕ) → HaveWalks d x busy (numbers_from first n) (replicate n None) (replicate n no_walk)
no_walks d x busy first zero = (refl, refl)
no_walks d x busy first (suc n) = (refl, no_walks d x (busy ++ []) (suc first) n)

no_lists : (d : Defs) (first n : ℕ) → AreKeyLists d [] (numbers_from first n) (replicate n no_walk)
no_lists d first zero = refl
no_lists d first (suc n) = (sym (no_pairs d first), no_lists d (suc first) n)

no_pages : (d : Defs) (first n : ℕ) → all_pages d (numbers_from first n) (replicate n no_walk) ≡ []
no_pages d first zero = refl
no_pages d first (suc n) = no_pages d (suc first) n

-- what is read of a marked header
marked_by : (short marked : Bool) (s t : State) → ◌≡◌ {A = Result State StateFault} (if short then Err fault.Short else (if not marked then Err fault.Foreign else Ok s)) (Ok t) → (marked ≡ true) × (s ≡ t)
marked_by true marked s t e = absurd cc
marked_by false true s t e = (refl, cc)
marked_by false false s t e = absurd cc

read_marked : (d : Defs) (x : List ℕ) (t : State) → read_state d x ≡ Ok t → (has_mark d x ≡ true) × (state_of d x ≡ t)
unfolding read_state
read_marked d x t e = marked_by (nat_lt (length x) (length d.raw)) (has_mark d x) (state_of d x) t e

-- by the definitions that are read of the header
empty_clean : (d : Defs) (x : List ℕ) → IsSound d → read_defs x ≡ Ok d → has_mark d x ≡ true → state_of d x ≡ empty_state d → length x ≡ first_page_of d → IsClean [] x
empty_clean d x s read mark state long = record {
  defs = d;
  read = read;
  mark = mark;
  addressable = empty_reached d s;
  covered = λ p inside. absurd (omega (arith, inside));
  list = ([], rw (no_blocks d) (IsPermutation-refl []), rw state refl);
  counts = record {
    records = rw (state, no_rows d) refl;
    del = rw (state, no_blocks d) refl;
    split = rw (state, no_rows d) refl;
    key_file_length = rw state (sym long);
    data_file_length = rw state refl;
    empty = rw (state, no_blocks d) refl;
  };
  walks = replicate (length d.keys) no_walk;
  trees = rw state (no_walks d x ((0, first_page_of d) ∷ []) 1 (length d.keys));
  lists = rw (no_rows d) (no_lists d 1 (length d.keys));
  key_empty = rw (state, no_pages d 1 (length d.keys)) (omega (arith, long));
  distinct = rw (no_rows d) tt;
}

-- ---- a header of bytes has bytes

filled : (n b : ℕ) → b < 256 → AreBytes (replicate n b)
filled zero b few i = omega arith
filled (suc n) b few zero = few
filled (suc n) b few (suc i) = filled n b few i

bytes-nothing : (n : ℕ) → AreBytes (zeros n)
unfolding zeros
bytes-nothing n = filled n 0 (omega arith)

bytes-nulls : (n : ℕ) → AreBytes (nulls n)
unfolding nulls
bytes-nulls n = filled (8 * n) 255 (omega arith)

bytes-state : (f : Front) (n : ℕ) → AreBytes (part.empty_state f n)
unfolding part.empty_state
bytes-state f n =
    bytes-append _ _ (bytes-nothing 28)
    (bytes-append _ _ (bytes-nulls 1)
    (bytes-append _ _ (bytes-num_bytes 8 n)
    (bytes-append _ _ (bytes-nothing 56)
    (bytes-append _ _ (bytes-nulls (f.keys + f.page_sizes))
    (bytes-append _ _ (bytes-nothing 12)
    (bytes-append _ _ (bytes-num_bytes 8 (all_keys f.keys)) (bytes-nothing (32 + 4 * f.key_parts))))))))

bytes-mark : AreBytes mark
bytes-mark zero = omega arith
bytes-mark (suc zero) = omega arith
bytes-mark (suc (suc zero)) = omega arith
bytes-mark (suc (suc (suc zero))) = omega arith
bytes-mark (suc (suc (suc (suc zero)))) = omega arith
bytes-mark (suc (suc (suc (suc (suc zero))))) = omega arith
bytes-mark (suc (suc (suc (suc (suc (suc i)))))) = omega arith

bytes-front : (x : List ℕ) → AreBytes x → AreBytes (front_bytes x)
unfolding front_bytes
bytes-front x bytes = bytes-take 24 x bytes

bytes-base : (at : ℕ) (x : List ℕ) → AreBytes x → AreBytes (base_bytes at x)
unfolding base_bytes
bytes-base at x bytes = bytes-take 94 (drop at x) (bytes-drop at x bytes)

bytes-header : (x : List ℕ) → AreBytes x → AreBytes (empty_header x)
unfolding empty_header
bytes-header x bytes =
    bytes-append _ _ (bytes-front x bytes)
    (bytes-append _ _ (bytes-state (front x) (first_page (length x)))
    (bytes-append _ _ (bytes-base (front x).base_pos x bytes)
    (bytes-append mark _ bytes-mark
    (bytes-append _ _ (bytes-drop ((front x).base_pos + 100) x bytes) (bytes-nothing (first_page (length x) - length x))))))

-- ---- the header of an empty table

-- it ends where the first page is to stand
ends_before_pages : (d : Defs) → IsSound d → length (empty_header d.raw) ≡ first_page_of d
ends_before_pages d s =
    let N : List ℕ = replicate (8 * page_sizes d) 255 in
    let Z : List ℕ = replicate (36 + 4 * key_parts d) 0 in
    let O : List ℕ = replicate 24 0 in
    let rest : length (empty_state d).rest ≡ rest_length d = length-append O (N ++ Z) ∙ omega (arith, length-append N Z, length-replicate {A = ℕ} 24 0, length-replicate {A = ℕ} (8 * page_sizes d) 255, length-replicate {A = ℕ} (36 + 4 * key_parts d) 0) in
    ap (λ (x : List ℕ). length x) (empty-header d s) ∙ header-long d (empty_state d) s (length-replicate (length d.keys) None) rest

pub empty_is_clean : (d : Defs) → AreDefs d → AreBytes d.raw → IsClean [] (empty_header d.raw)
empty_is_clean d are bytes =
    let x = empty_header d.raw in
    let again : Defs = record d { raw = take (length d.raw) x } in
    let read : read_defs x ≡ Ok again = print_reads d are in
    let raw : AreBytes again.raw = bytes-take (length d.raw) x (bytes-header d.raw bytes) in
    let of = sound again (are_defs x again read) in
    let parts = read_marked again x (empty_state again) (empty-again d again are raw read) in
    let same = printed-again d again are read in
    empty_clean again x of read parts.0 parts.1 (sym (ap (λ (y : List ℕ). length y) same) ∙ ends_before_pages again of)

pub empty_none : (d again : Defs) → AreDefs d → AreBytes d.raw → read_defs (empty_header d.raw) ≡ Ok again → findings again [] (empty_header d.raw) ≡ []
empty_none d again are bytes read = none_where_clean again [] (empty_header d.raw) read (empty_is_clean d are bytes)
