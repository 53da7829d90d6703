-- The script language, this project's own: what a statement and a line are, over a table's definitions.
use Rattle.std.specs.Prelude.{◌≡◌, ℕ, zero, suc, ◌+◌, ◌-◌, ◌^◌, ◌≤◌, Bool, true, false, List, [], ◌∷◌, ◌++◌, length, map, codes, Option, Some, None}
use Rattle.myi_defs.specs.declared.types.Segment.{Segment}
use Rattle.myi_defs.specs.declared.types.Key.{Key}
use Rattle.myi_defs.specs.declared.types.Defs.{Defs}
use Rattle.myi_deftext.specs.Grammar.{IsNumber}
use Rattle.myi_keys.specs.declared.values.KeySeg.{KeySeg}
use Rattle.myi_keys.specs.declared.values.KeySeg.TheVariants.{Absent, Weights}
use Rattle.myi_keys.specs.Weights.{weights}
use Rattle.myi_locks.specs.declared.steps.LockKind.TheVariants.{Read, ReadLocal, Write}
use Rattle.myi_pack.specs.Spelling.{fits}
use Rattle.myi_script.specs.declared.types.Act.{Act}
use Rattle.myi_script.specs.declared.types.Act.TheVariants as act
use Rattle.myi_script.specs.declared.form.Form.{Form}
use Rattle.myi_script.specs.Values.{field_form, segment_form, IsValue}

-- the highest position
abbrev pub highest : ℕ
highest = 2 ^ 64 - 1

-- ---- rows

abbrev pub row_forms : Defs → List Form
row_forms d = map field_form d.fields

-- one value for each form, before each a space
abbrev pub AreValues : List Form → List ℕ → List (List ℕ) → Type 0
AreValues [] text row = (text ≡ []) × (row ≡ [])
AreValues (f ∷ fs) text row =
    (w : List ℕ) × (more : List ℕ) × (v : List ℕ) × (others : List (List ℕ))
    × (text ≡ 32 ∷ (w ++ more)) × (row ≡ v ∷ others) × IsValue f w v × AreValues fs more others

-- a value for each field, of a row that a table can have
abbrev pub IsRow : Defs → List ℕ → List (List ℕ) → Type 0
IsRow d text row = AreValues (row_forms d) text row × (fits d row ≡ true)

-- ---- ranges

-- the segments of key i, counted from 0
abbrev pub segments_from : List Key → ℕ → List Segment
segments_from [] i = []
segments_from (k ∷ ks) zero = k.segments
segments_from (k ∷ ks) (suc i) = segments_from ks i

-- the segments of the key of this number, from 1
abbrev pub segments_of : Defs → ℕ → List Segment
segments_of d n = segments_from d.keys (n - 1)

-- `null` where there is no value, else a value, which is weighed
abbrev pub IsPart : Segment → List ℕ → KeySeg → Type 0
IsPart s w Absent = w ≡ codes "null"
IsPart s w (Weights x) = (v : List ℕ) × IsValue (segment_form s) w v × (x ≡ weights s v)

-- one part for each segment; before the first one stands this byte, before each other one a comma
abbrev pub AreParts : ℕ → List Segment → List ℕ → List KeySeg → Type 0
AreParts mark [] text key = (text ≡ []) × (key ≡ [])
AreParts mark (s ∷ ss) text key =
    (w : List ℕ) × (more : List ℕ) × (k : KeySeg) × (others : List KeySeg)
    × (text ≡ mark ∷ (w ++ more)) × (key ≡ k ∷ others) × IsPart s w k × AreParts 44 ss more others

-- a space, and `*` where there is no bound, else its parts
abbrev pub IsBound : List Segment → List ℕ → Option (List KeySeg) → Type 0
IsBound ss text None = text ≡ codes " *"
IsBound ss text (Some key) = AreParts 32 ss text key

-- ---- statements

-- a statement, in the words of the language; a list of tables has none that names a position
abbrev pub Says : Bool → Defs → List ℕ → Act → Type 0
Says merge d text (act.Insert row) = (vs : List ℕ) × (text ≡ codes "insert" ++ vs) × IsRow d vs row
Says merge d text (act.Update at row) = (p : List ℕ) × (vs : List ℕ) × (merge ≡ false) × (text ≡ codes "update " ++ (p ++ vs)) × IsNumber 0 highest p at × IsRow d vs row
Says merge d text (act.Delete at) = (p : List ℕ) × (merge ≡ false) × (text ≡ codes "delete " ++ p) × IsNumber 0 highest p at
Says merge d text act.Scan = text ≡ codes "scan"
Says merge d text (act.Over r) =
    (k : List ℕ) × (from : List ℕ) × (to : List ℕ) × (text ≡ codes "range " ++ (k ++ (from ++ to)))
    × IsNumber 1 (length d.keys) k r.key × IsBound (segments_of d r.key) from r.from × IsBound (segments_of d r.key) to r.to
Says merge d text (act.Lock Read) = text ≡ codes "lock read"
Says merge d text (act.Lock ReadLocal) = text ≡ codes "lock read local"
Says merge d text (act.Lock Write) = text ≡ codes "lock write"
Says merge d text act.Unlock = text ≡ codes "unlock"
Says merge d text act.Stats = text ≡ codes "stats"
Says merge d text act.End = text ≡ codes "end"

-- a line that does something: S1 to S9, a space and a statement
abbrev pub IsLine : Bool → Defs → List ℕ → ℕ → Act → Type 0
IsLine merge d line session a = (text : List ℕ) × (1 ≤ session) × (session ≤ 9) × (line ≡ 83 ∷ (48 + session) ∷ 32 ∷ text) × Says merge d text a
