-- What a row adds to a static file.
use Rattle.std.proofs.Common.{◌≡◌, ℕ, ◌+◌, ◌-◌, List, [], ◌++◌, length, Option, Some, None, Result, Ok, Err, IfOk, OnOk, refl, ap, sym, subst, ◌∙◌, arith}
use Rattle.std.specs.Prelude.{unwrap_or}
use Rattle.std.proofs.lemmas.List.{append-nil, take_all, drop_all}
use Rattle.myi_base.specs.Holding.{Holding, Told, IfTold, Writes, bytes_of, overwritten}
use Rattle.myi_base.proofs.CallerLemmas.{told_more}
use Rattle.myi_defs.specs.declared.types.RowFormat.{RowFormat}
use Rattle.myi_defs.specs.declared.types.RowFormat.TheVariants.{Static}
use Rattle.myi_pack.specs.Packed.{Values}
use Rattle.myi_pack.specs.Spelling.{spelling}
use Rattle.myi_state.specs.Adding.{packed_at_end, added_bytes}
use Rattle.myi_slots.specs.declared.fault.DataFault.{DataFault}
use Rattle.myi_slots.specs.SlotFile.{SlotFile, IsLong, Adds, AddsNew, appended_counts}

-- bytes that are written at a file's end
written_at_end : (d x : List ℕ) (at : ℕ) → length d ≡ at → overwritten at x d ≡ d ++ x
written_at_end d x at e =
    let none : at - length d ≡ 0 = omega (arith, e) in
    rw (none, take_all at d (omega (arith, e)), drop_all (at + length x) d (omega (arith, e))) (append-nil _ ∙ ap (λ (xs : List ℕ). xs ++ x) (append-nil d))

static_adds : (f g : SlotFile) (values : Values) (bytes : List ℕ) (m n : Holding) → f.defs.format ≡ Static → bytes ≡ spelling f.defs values → g.counts.dellink ≡ f.counts.dellink → IsLong f m → Writes f.name f.counts.length bytes m n → Adds f g values m n
unfolding added_bytes
static_adds f g values bytes m n static packed first long w = record {
  bytes = ap (λ (o : Option (List ℕ)). unwrap_or o []) w.here ∙ written_at_end (bytes_of f.name m) bytes f.counts.length long
      ∙ ap (λ (x : List ℕ). bytes_of f.name m ++ x) (packed ∙ ap (λ (k : RowFormat). packed_at_end k f.counts.length (spelling f.defs values)) (sym static));
  first = first;
}

-- a row behind the end
pub append-adds : (f g : SlotFile) (values : Values) (bytes : List ℕ) (old new : Option Holding) (r : Result ℕ DataFault) → f.defs.format ≡ Static → bytes ≡ spelling f.defs values → IfTold old (IsLong f) → OnOk r (Told old new (Writes f.name f.counts.length bytes)) → OnOk r (g ≡ record f { counts = appended_counts (f.counts.length + length bytes) f.counts }) → OnOk r (Told old new (Adds f g values))
append-adds f g values bytes old new (Err e) static packed long written object = tt
append-adds f g values bytes old new (Ok at) static packed long written object =
    told_more old new (Writes f.name f.counts.length bytes) (Adds f g values) written (λ m n held w. static_adds f g values bytes m n static packed (ap (λ (h : SlotFile). h.counts.dellink) object) (long m held) w)

-- where nothing is deleted
pub new-adds : (f g : SlotFile) (values : Values) (old new : Option Holding) (r : Result ℕ DataFault) → OnOk r (Told old new (Adds f g values)) → OnOk r (Told old new (AddsNew f g values))
new-adds f g values old new (Err e) adds = tt
new-adds f g values old new (Ok at) adds = told_more old new (Adds f g values) (AddsNew f g values) adds (λ m n held a none. a)

-- of one in a deleted slot nothing is said
pub fill-adds : (f g : SlotFile) (values : Values) (bytes : List ℕ) (at : ℕ) (old new : Option Holding) (r : Result ℕ DataFault) → f.counts.dellink ≡ Some at → OnOk r (Told old new (Writes f.name at bytes)) → OnOk r (Told old new (AddsNew f g values))
fill-adds f g values bytes at old new (Err e) head written = tt
fill-adds f g values bytes at old new (Ok p) head written = told_more old new (Writes f.name at bytes) (AddsNew f g values) written (λ m n held w none. absurd cc)
