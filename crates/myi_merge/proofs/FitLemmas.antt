-- A row that fits one of two tables that are alike fits the other: how long a slot is counts for nothing there.
use Rattle.std.proofs.Common.{◌≡◌, ◌==◌, ◌-◌, ◌^◌, ℕ, zero, suc, Bool, true, not, nat_lt, ◌&&◌, List, [], ◌∷◌, ◌++◌, length, replicate, slice_index, slice_get, Some, refl, sym, ap, ◌∙◌}
use Rattle.std.specs.Prelude.{IfSome}
use Rattle.myi_defs.specs.declared.types.Field.{Field}
use Rattle.myi_defs.specs.declared.types.Defs.{Defs}
use Rattle.myi_defs.specs.declared.types.RowFormat.{RowFormat}
use Rattle.myi_defs.specs.declared.types.RowFormat.TheVariants.{Static, Dynamic}
use Rattle.myi_pack.specs.Flags.{flag_count, flag_bytes, packed_bits}
use Rattle.myi_pack.specs.Packed.{Values}
use Rattle.myi_pack.specs.Spelling.{fits, fits_fields, can_stand, spelling, spelled_row, spelled_fields, flags_of}
use Rattle.myi_table.specs.Table.{OpenTable, defs_in}
use Rattle.myi_merge.specs.Merged.{IsLike, AreAlike}
use Rattle.myi_merge.proofs.TableLemmas.{like_at}

first_of : (x : List ℕ) (k : ℕ) → slice_index (x ++ replicate k 0) 0 ≡ slice_index x 0
first_of [] zero = refl
first_of [] (suc k) = refl
first_of (y ∷ ys) k = refl

spelled_as : (d : Defs) (row : Values) (f : RowFormat) → d.format ≡ f → spelling d row ≡ spelled_row f d row
unfolding spelling
spelled_as d row f is = ap (λ (g : RowFormat). spelled_row g d row) is

stands_like : (d e : Defs) (row : Values) (f : RowFormat) → d.format ≡ f → e.format ≡ f → d.fields ≡ e.fields → can_stand f d row ≡ can_stand f e row
stands_like d e row Static df ef same =
    let one : slice_index (spelling d row) 0 ≡ slice_index (spelled_fields Static d.fields row) 0 = ap (λ (b : List ℕ). slice_index b 0) (spelled_as d row Static df) ∙ first_of (spelled_fields Static d.fields row) (d.slot_length - length (spelled_fields Static d.fields row)) in
    let other : slice_index (spelling e row) 0 ≡ slice_index (spelled_fields Static e.fields row) 0 = ap (λ (b : List ℕ). slice_index b 0) (spelled_as e row Static ef) ∙ first_of (spelled_fields Static e.fields row) (e.slot_length - length (spelled_fields Static e.fields row)) in
    ap (λ (n : ℕ). not (n == 0)) (one ∙ ap (λ (fs : List Field). slice_index (spelled_fields Static fs row) 0) same ∙ sym other)
stands_like d e row Dynamic df ef same =
    ap (λ (b : List ℕ). nat_lt (length b) (2 ^ 32))
    (spelled_as d row Dynamic df ∙ ap (λ (fs : List Field). packed_bits (flag_bytes (flag_count fs)) (flags_of fs row) ++ spelled_fields Dynamic fs row) same ∙ sym (spelled_as e row Dynamic ef))

fits_as : (d : Defs) (row : Values) (f : RowFormat) → d.format ≡ f → fits d row ≡ (fits_fields f d.fields row && can_stand f d row)
unfolding fits
fits_as d row f is = ap (λ (g : RowFormat). fits_fields g d.fields row && can_stand g d row) is

pub fits_like : (d e : Defs) (row : Values) → IsLike d e → fits d row ≡ true → fits e row ≡ true
fits_like d e row like fit =
    let f : RowFormat = d.format in
    fits_as e row f (sym like.format) ∙ ap (λ (fs : List Field). fits_fields f fs row && can_stand f e row) (sym like.fields) ∙ ap (λ (b : Bool). fits_fields f d.fields row && b) (sym (stands_like d e row f refl (sym like.format) like.fields)) ∙ sym (fits_as d row f refl) ∙ fit

-- a row that fits the first table of a list fits each
pub fits_at : (ts : List OpenTable) (i : ℕ) (t : OpenTable) (row : Values) → AreAlike ts → slice_get ts i ≡ Some t → IfSome (slice_get ts 0) (λ (f : OpenTable). fits (defs_in f) row ≡ true) → fits (defs_in t) row ≡ true
fits_at [] i t row alike at fit = absurd cc
fits_at (f ∷ ts) i t row alike at fit = fits_like (defs_in f) (defs_in t) row (like_at (f ∷ ts) f i t alike refl at) fit
