-- What a row adds to the data file, where the index file changes before and after.
use Rattle.std.proofs.Common.{◌≡◌, ◌∙◌, ℕ, Bool, true, false, List, [], ◌++◌, Option, None, ap, sym, subst}
use Rattle.std.specs.Prelude.{◌≢◌, unwrap_or}
use Rattle.myi_base.specs.Holding.{Holding, Told, OthersStay, bytes_of}
use Rattle.myi_base.proofs.CallerLemmas.{told_then}
use Rattle.myi_pack.specs.Packed.{Values}
use Rattle.myi_state.specs.Adding.{added_bytes}
use Rattle.myi_slots.specs.SlotFile.{SlotFile, Adds, AddsNew}
use Rattle.myi_blocks.specs.Places.{NotedFile}
use Rattle.myi_keyedrows.specs.declared.keyed_rows.KeyedRows.{KeyedRows}
use Rattle.myi_keyedrows.specs.Checking.{AddsTo}

stays : (name other : List ℕ) (m n : Holding) → name ≢ other → OthersStay other m n → bytes_of name n ≡ bytes_of name m
stays name other m n apart others = ap (λ (o : Option (List ℕ)). unwrap_or o []) (others name apart)

adds_behind : (f g : SlotFile) (values : Values) (other : List ℕ) (m n k : Holding) → f.name ≢ other → OthersStay other m n → Adds f g values n k → Adds f g values m k
adds_behind f g values other m n k apart others a = record {
  bytes = a.bytes ∙ ap (λ (x : List ℕ). x ++ added_bytes f.defs values f.counts.length) (stays f.name other m n apart others);
  first = a.first;
}

adds_before : (f g : SlotFile) (values : Values) (other : List ℕ) (m n k : Holding) → f.name ≢ other → Adds f g values m n → OthersStay other n k → Adds f g values m k
adds_before f g values other m n k apart a others = record { bytes = stays f.name other n k apart others ∙ a.bytes; first = a.first }

to_behind : (b : Bool) (f g : SlotFile) (values : Values) (other : List ℕ) (m n k : Holding) → f.name ≢ other → OthersStay other m n → AddsTo b f g values n k → AddsTo b f g values m k
to_behind true f g values other m n k apart others a = adds_behind f g values other m n k apart others a
to_behind false f g values other m n k apart others a = λ none. adds_behind f g values other m n k apart others (a none)

to_before : (b : Bool) (f g : SlotFile) (values : Values) (other : List ℕ) (m n k : Holding) → f.name ≢ other → AddsTo b f g values m n → OthersStay other n k → AddsTo b f g values m k
to_before true f g values other m n k apart a others = adds_before f g values other m n k apart a others
to_before false f g values other m n k apart a others = λ none. adds_before f g values other m n k apart (a none) others

-- the trees were searched, the row was put into the data file, and its pairs into the trees
pub added_whole : (b : Bool) (old mid : KeyedRows) (g : SlotFile) (values : Values) (told then next last : Option Holding) → old.rows.file.name ≢ old.trees.cache.name → mid.rows ≡ old.rows → mid.trees.cache.name ≡ old.trees.cache.name → Told told then (OthersStay old.trees.cache.name) → Told then next (AddsTo b mid.rows.file g values) → Told next last (OthersStay mid.trees.cache.name) → Told told last (AddsTo b old.rows.file g values)
added_whole b old mid g values told then next last apart rows name before put after =
    let f = old.rows.file in
    let other = old.trees.cache.name in
    let here : Told then next (AddsTo b f g values) = subst (λ (r : NotedFile). Told then next (AddsTo b r.file g values)) rows put in
    let behind : Told next last (OthersStay other) = subst (λ (q : List ℕ). Told next last (OthersStay q)) name after in
    let both : Told told next (AddsTo b f g values) = told_then told then next (OthersStay other) (AddsTo b f g values) (AddsTo b f g values) before here (λ m n k o a. to_behind b f g values other m n k apart o a) in
    told_then told next last (AddsTo b f g values) (OthersStay other) (AddsTo b f g values) both behind (λ m n k a o. to_before b f g values other m n k apart a o)
