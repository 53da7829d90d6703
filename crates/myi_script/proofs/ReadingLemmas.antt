-- What is read so far of a list and what is left of it.
use Rattle.std.proofs.Common.{◌≡◌, ℕ, suc, ◌+◌, ◌*◌, ◌-◌, ◌<◌, ◌≤◌, List, [], ◌∷◌, ◌++◌, length, take, drop, get_or, map, Option, Some, None, Result, Ok, Err, refl, ap, sym, ◌∙◌, arith, append_assoc, add-one, fold, Bool, true, false}
use Rattle.std.proofs.Math.Seq.{take-suc, take-length, drop-cons}
use Rattle.std.proofs.lemmas.List.{take-append-drop, append-nil, drop_all}
use Rattle.std.proofs.lemmas.List.Sums.{fold-append}
use Rattle.std.specs.Str.{is_utf8}
use Rattle.myi_defs.specs.declared.types.Field.{Field}
use Rattle.myi_defs.specs.declared.types.FieldKind.TheVariants as kind
use Rattle.myi_defs.specs.declared.types.SegType.TheVariants as seg
use Rattle.myi_defs.specs.declared.types.Segment.{Segment}
use Rattle.myi_defs.specs.declared.types.Defs.{Defs}
use Rattle.myi_deftext.specs.Text.{value}
use Rattle.myi_keys.specs.declared.values.KeySeg.{KeySeg}
use Rattle.myi_script.specs.declared.types.Act.{Act}
use Rattle.myi_script.specs.declared.types.Act.TheVariants as act
use Rattle.myi_script.specs.declared.types.Line.{Line}
use Rattle.myi_script.specs.Values.{field_form}
use Rattle.myi_script.specs.Reading.{unhex, byte_before, byte_of, digit_of, is_nil, value_of, next_value, before_values, then_values, values_of, part_of, before_parts, then_parts, parts_of, bound_of, with_from, line_of}
use Rattle.myi_script.specs.Script.{most_lines, does_nothing, has_ended, ended_by, with_line, read_lines}
use Rattle.std.specs.Prelude.{nat_le, if◌then◌else◌}

-- ---- digits

-- a number grows with each digit
grows : (a : ℕ) (ds : List ℕ) → a ≤ fold (λ n b. n * 10 + (b - 48)) a ds
grows a [] = omega arith
grows a (d ∷ ds) = let h = grows (a * 10 + (d - 48)) ds in omega arith

pub value_part : (i : ℕ) (w : List ℕ) → value (take i w) ≤ value w
unfolding value
value_part i w =
    let f : ℕ → ℕ → ℕ = λ n b. n * 10 + (b - 48) in
    let whole : fold f 0 w ≡ fold f (fold f 0 (take i w)) (drop i w) = ap (λ q. fold f 0 q) (sym (take-append-drop i w)) ∙ fold-append f 0 (take i w) (drop i w) in
    let h = grows (fold f 0 (take i w)) (drop i w) in omega arith

pub value_more : (i : ℕ) (w : List ℕ) → i < length w → value (take (i + 1) w) ≡ value (take i w) * 10 + (get_or w i 0 - 48)
unfolding value
value_more i w lt =
    let f : ℕ → ℕ → ℕ = λ n b. n * 10 + (b - 48) in
    rw (add-one, take-suc w i 0 lt) (fold-append f 0 (take i w) (get_or w i 0 ∷ []))

-- ---- a list in front of what is left

abbrev pub joined : {A : Type 0} → List A → Option (List A) → Option (List A)
joined front None = None
joined front (Some v) = Some (front ++ v)

one_more : (front rest whole : List ℕ) (a b x : ℕ) → joined front (unhex (a ∷ b ∷ rest)) ≡ unhex whole → byte_of (digit_of a) (digit_of b) ≡ Some x → joined (front ++ x ∷ []) (unhex rest) ≡ unhex whole
one_more front rest whole a b x so e = go (unhex rest) (rw e at so)
  where
    go : (o : Option (List ℕ)) → joined front (byte_before (Some x) o) ≡ unhex whole → joined (front ++ x ∷ []) o ≡ unhex whole
    go None h = h
    go (Some v) h = ap (λ q. Some q) (append_assoc front (x ∷ []) v) ∙ h

pub pair_step : (front xs whole items : List ℕ) (x : ℕ) → 2 ≤ length xs → joined front (unhex xs) ≡ unhex whole → Some x ≡ byte_of (digit_of (get_or xs 0 0)) (digit_of (get_or xs 1 0))
    → items ≡ front ++ x ∷ [] → joined items (unhex (take (length xs - 2) (drop 2 xs))) ≡ unhex whole
pair_step front [] whole items x l so e i = absurd (omega arith)
pair_step front (a ∷ []) whole items x l so e i = absurd (omega arith)
pair_step front (a ∷ b ∷ rest) whole items x l so e i =
    let n : length (a ∷ b ∷ rest) - 2 ≡ length rest = omega arith in
    ap (λ q. joined q (unhex (take (length (a ∷ b ∷ rest) - 2) rest))) i
    ∙ ap (λ q. joined (front ++ x ∷ []) (unhex q)) (ap (λ k. take k rest) n ∙ take-length rest)
    ∙ one_more front rest whole a b x so (sym e)

-- parts of a bound before those that are left, and what stands after them
abbrev pub joined_parts : List KeySeg → Option (List KeySeg × List ℕ) → Option (List KeySeg × List ℕ)
joined_parts front None = None
joined_parts front (Some p) = Some (front ++ p.0, p.1)

-- ---- lines

abbrev pub joined_lines : List Line → Result (List Line) ℕ → Result (List Line) ℕ
joined_lines front (Ok others) = Ok (front ++ others)
joined_lines front (Err k) = Err k

pub next_line : {A : Type 0} (f : A → List ℕ) (xs : List A) (i : ℕ) (d : A) → i < length xs → map f (drop i xs) ≡ f (get_or xs i d) ∷ map f (drop (i + 1) xs)
next_line f xs i d lt = rw (add-one, drop-cons xs i d lt) refl

pub late_step : (m : Bool) (d : Defs) (ended : List ℕ) (n : ℕ) (all ls : List (List ℕ)) (l : List ℕ) (front : List Line) (whole : Result (List Line) ℕ) → all ≡ l ∷ ls → nat_le n most_lines ≡ false → joined_lines front (read_lines m d ended n all) ≡ whole → whole ≡ Err n
unfolding read_lines
late_step m d ended n all ls l front whole e late so = sym so ∙ ap (λ q. joined_lines front (read_lines m d ended n q)) e ∙ rw late refl

pub nothing_step : (m : Bool) (d : Defs) (ended : List ℕ) (n : ℕ) (all ls : List (List ℕ)) (l : List ℕ) (front : List Line) (whole : Result (List Line) ℕ) → all ≡ l ∷ ls → nat_le n most_lines ≡ true → does_nothing l ≡ true → is_utf8 l ≡ true
    → joined_lines front (read_lines m d ended n all) ≡ whole → joined_lines front (read_lines m d ended (n + 1) ls) ≡ whole
unfolding read_lines
nothing_step m d ended n all ls l front whole e few quiet text so = sym (ap (λ q. joined_lines front (read_lines m d ended n q)) e ∙ rw (few, quiet, text) refl) ∙ so

pub other_step : (m : Bool) (d : Defs) (ended : List ℕ) (n : ℕ) (all ls : List (List ℕ)) (l : List ℕ) (front : List Line) (whole : Result (List Line) ℕ) → all ≡ l ∷ ls → nat_le n most_lines ≡ true → does_nothing l ≡ true → is_utf8 l ≡ false
    → joined_lines front (read_lines m d ended n all) ≡ whole → whole ≡ Err n
unfolding read_lines
other_step m d ended n all ls l front whole e few quiet text so = sym so ∙ ap (λ q. joined_lines front (read_lines m d ended n q)) e ∙ rw (few, quiet, text) refl

pub outside_step : (m : Bool) (d : Defs) (ended : List ℕ) (n : ℕ) (all ls : List (List ℕ)) (l : List ℕ) (front : List Line) (whole : Result (List Line) ℕ) → all ≡ l ∷ ls → nat_le n most_lines ≡ true → does_nothing l ≡ false → line_of m d l ≡ None
    → joined_lines front (read_lines m d ended n all) ≡ whole → whole ≡ Err n
unfolding read_lines
outside_step m d ended n all ls l front whole e few loud none so = sym so ∙ ap (λ q. joined_lines front (read_lines m d ended n q)) e ∙ rw (few, loud, none) refl

pub ended_step : (m : Bool) (d : Defs) (ended : List ℕ) (n : ℕ) (all ls : List (List ℕ)) (l : List ℕ) (s : ℕ) (a : Act) (front : List Line) (whole : Result (List Line) ℕ) → all ≡ l ∷ ls → nat_le n most_lines ≡ true → does_nothing l ≡ false
    → line_of m d l ≡ Some (s, a) → has_ended s ended ≡ true → joined_lines front (read_lines m d ended n all) ≡ whole → whole ≡ Err n
unfolding read_lines
ended_step m d ended n all ls l s a front whole e few loud said over so = sym so ∙ ap (λ q. joined_lines front (read_lines m d ended n q)) e ∙ rw (few, loud, said, over) refl

pub said_step : (m : Bool) (d : Defs) (ended more : List ℕ) (n : ℕ) (all ls : List (List ℕ)) (l : List ℕ) (s : ℕ) (a : Act) (front items : List Line) (whole : Result (List Line) ℕ) → all ≡ l ∷ ls → nat_le n most_lines ≡ true → does_nothing l ≡ false
    → line_of m d l ≡ Some (s, a) → has_ended s ended ≡ false → more ≡ ended_by s a ended → items ≡ front ++ record { session = s; line = n; act = a } ∷ [] → joined_lines front (read_lines m d ended n all) ≡ whole
    → joined_lines items (read_lines m d more (n + 1) ls) ≡ whole
unfolding read_lines
said_step m d ended more n all ls l s a front items whole e few loud said over em ei so =
    rw (em, ei) (go (read_lines m d (ended_by s a ended) (n + 1) ls) ∙ sym (ap (λ q. joined_lines front (read_lines m d ended n q)) e ∙ rw (few, loud, said, over) refl) ∙ so)
  where
    go : (o : Result (List Line) ℕ) → joined_lines (front ++ record { session = s; line = n; act = a } ∷ []) o ≡ joined_lines front (with_line (record { session = s; line = n; act = a }) o)
    go (Ok others) = ap (λ q. Ok q) (append_assoc front (record { session = s; line = n; act = a } ∷ []) others)
    go (Err k) = refl

pub no_lines : {A : Type 0} (f : A → List ℕ) (xs : List A) (i : ℕ) (m : Bool) (d : Defs) (ended : List ℕ) (n : ℕ) (front : List Line) (whole : Result (List Line) ℕ) → length xs ≤ i → joined_lines front (read_lines m d ended n (map f (drop i xs))) ≡ whole → whole ≡ Ok front
unfolding read_lines
no_lines f xs i m d ended n front whole le so = sym so ∙ ap (λ q. joined_lines front (read_lines m d ended n (map f q))) (drop_all i xs le) ∙ ap (λ q. Ok q) (append-nil front)

-- ---- the parts of a bound

no_segment : Segment
no_segment = record { seg = seg.Text; language = 0; null_bit = 0; null_pos = 0; length = 0; start = 0; field = 0 }

pub part_none : (mark i : ℕ) (ss : List Segment) (front : List KeySeg) (rest : List ℕ) (whole : Option (List KeySeg × List ℕ)) → i < length ss → next_value mark rest ≡ None
    → joined_parts front (parts_of mark (drop i ss) rest) ≡ whole → None ≡ whole
unfolding parts_of
part_none mark i ss front rest whole lt none so = sym (ap (λ q. joined_parts front (parts_of mark q rest)) (drop-cons ss i no_segment lt) ∙ rw none refl) ∙ so

pub part_unread : (mark i : ℕ) (ss : List Segment) (s : Segment) (front : List KeySeg) (rest w more : List ℕ) (whole : Option (List KeySeg × List ℕ)) → i < length ss → next_value mark rest ≡ Some (w, more) → part_of (get_or ss i s) w ≡ None
    → joined_parts front (parts_of mark (drop i ss) rest) ≡ whole → None ≡ whole
unfolding parts_of
part_unread mark i ss s front rest w more whole lt next none so =
    sym (ap (λ q. joined_parts front (parts_of mark q rest)) (drop-cons ss i s lt) ∙ ap (λ q. joined_parts front (then_parts (get_or ss i s) q (λ t. parts_of 44 (drop (suc i) ss) t))) next ∙ rw none refl) ∙ so

pub part_more : (mark i : ℕ) (ss : List Segment) (s : Segment) (k : KeySeg) (front items : List KeySeg) (rest w more : List ℕ) (whole : Option (List KeySeg × List ℕ)) → i < length ss → next_value mark rest ≡ Some (w, more) → part_of (get_or ss i s) w ≡ Some k
    → items ≡ front ++ k ∷ [] → joined_parts front (parts_of mark (drop i ss) rest) ≡ whole → joined_parts items (parts_of 44 (drop (i + 1) ss) more) ≡ whole
unfolding parts_of
part_more mark i ss s k front items rest w more whole lt next part ei so =
    rw (ei, add-one) (go (parts_of 44 (drop (suc i) ss) more)
    ∙ sym (ap (λ q. joined_parts front (parts_of mark q rest)) (drop-cons ss i s lt) ∙ ap (λ q. joined_parts front (then_parts (get_or ss i s) q (λ t. parts_of 44 (drop (suc i) ss) t))) next ∙ ap (λ q. joined_parts front (before_parts q (parts_of 44 (drop (suc i) ss) more))) part) ∙ so)
  where
    go : (o : Option (List KeySeg × List ℕ)) → joined_parts (front ++ k ∷ []) o ≡ joined_parts front (before_parts (Some k) o)
    go None = refl
    go (Some p) = ap (λ q. Some (q, p.1)) (append_assoc front (k ∷ []) p.0)

pub parts_whole : (mark i : ℕ) (ss : List Segment) (front : List KeySeg) (rest : List ℕ) (whole : Option (List KeySeg × List ℕ)) → length ss ≤ i → joined_parts front (parts_of mark (drop i ss) rest) ≡ whole → Some (front, rest) ≡ whole
unfolding parts_of
parts_whole mark i ss front rest whole le so = sym (ap (λ q. joined_parts front (parts_of mark q rest)) (drop_all i ss le) ∙ ap (λ q. Some (q, rest)) (append-nil front)) ∙ so

-- ---- the values of a row

pub no_field : Field
no_field = record { kind = kind.Normal; length = 0; start = 0 }

pub value_none : (i : ℕ) (fs : List Field) (front : List (List ℕ)) (rest : List ℕ) (whole : Option (List (List ℕ))) → i < length fs → next_value 32 rest ≡ None
    → joined front (values_of (map field_form (drop i fs)) rest) ≡ whole → None ≡ whole
unfolding values_of
value_none i fs front rest whole lt none so = sym (ap (λ q. joined front (values_of (map field_form q) rest)) (drop-cons fs i no_field lt) ∙ rw none refl) ∙ so

pub value_unread : (i : ℕ) (fs : List Field) (f : Field) (front : List (List ℕ)) (rest w more : List ℕ) (whole : Option (List (List ℕ))) → i < length fs → next_value 32 rest ≡ Some (w, more) → value_of (field_form (get_or fs i f)) w ≡ None
    → joined front (values_of (map field_form (drop i fs)) rest) ≡ whole → None ≡ whole
unfolding values_of
value_unread i fs f front rest w more whole lt next none so =
    sym (ap (λ q. joined front (values_of (map field_form q) rest)) (drop-cons fs i f lt) ∙ ap (λ q. joined front (then_values (field_form (get_or fs i f)) q (λ t. values_of (map field_form (drop (suc i) fs)) t))) next ∙ rw none refl) ∙ so

pub value_more_row : (i : ℕ) (fs : List Field) (f : Field) (v : List ℕ) (front items : List (List ℕ)) (rest w more : List ℕ) (whole : Option (List (List ℕ))) → i < length fs → next_value 32 rest ≡ Some (w, more) → value_of (field_form (get_or fs i f)) w ≡ Some v
    → items ≡ front ++ v ∷ [] → joined front (values_of (map field_form (drop i fs)) rest) ≡ whole → joined items (values_of (map field_form (drop (i + 1) fs)) more) ≡ whole
unfolding values_of
value_more_row i fs f v front items rest w more whole lt next value ei so =
    rw (ei, add-one) (go (values_of (map field_form (drop (suc i) fs)) more)
    ∙ sym (ap (λ q. joined front (values_of (map field_form q) rest)) (drop-cons fs i f lt) ∙ ap (λ q. joined front (then_values (field_form (get_or fs i f)) q (λ t. values_of (map field_form (drop (suc i) fs)) t))) next
    ∙ ap (λ q. joined front (before_values q (values_of (map field_form (drop (suc i) fs)) more))) value) ∙ so)
  where
    go : (o : Option (List (List ℕ))) → joined (front ++ v ∷ []) o ≡ joined front (before_values (Some v) o)
    go None = refl
    go (Some row) = ap (λ q. Some q) (append_assoc front (v ∷ []) row)

pub values_whole : (i : ℕ) (fs : List Field) (front : List (List ℕ)) (rest : List ℕ) (whole : Option (List (List ℕ))) → length fs ≤ i → joined front (values_of (map field_form (drop i fs)) rest) ≡ whole
    → joined front (if is_nil rest then Some [] else None) ≡ whole
unfolding values_of
values_whole i fs front rest whole le so = sym (ap (λ q. joined front (values_of (map field_form q) rest)) (drop_all i fs le)) ∙ so

-- ---- a range

pub from_none : (ss : List Segment) (k : ℕ) (text : List ℕ) → bound_of ss text ≡ None → None ≡ with_from ss k (bound_of ss text)
from_none ss k text e = rw e refl

pub to_none : (ss : List Segment) (k : ℕ) (text rest : List ℕ) (from : Option (List KeySeg)) → bound_of ss text ≡ Some (from, rest) → bound_of ss rest ≡ None → None ≡ with_from ss k (bound_of ss text)
to_none ss k text rest from e f = rw (e, f) refl

pub over_all : (ss : List Segment) (k : ℕ) (text rest more : List ℕ) (from to : Option (List KeySeg)) → bound_of ss text ≡ Some (from, rest) → bound_of ss rest ≡ Some (to, more) → is_nil more ≡ true
    → Some (act.Over (record { key = k; from = from; to = to })) ≡ with_from ss k (bound_of ss text)
over_all ss k text rest more from to e f none = rw (e, f, none) refl

pub over_more : (ss : List Segment) (k : ℕ) (text rest more : List ℕ) (from to : Option (List KeySeg)) → bound_of ss text ≡ Some (from, rest) → bound_of ss rest ≡ Some (to, more) → is_nil more ≡ false → None ≡ with_from ss k (bound_of ss text)
over_more ss k text rest more from to e f some = rw (e, f, some) refl
