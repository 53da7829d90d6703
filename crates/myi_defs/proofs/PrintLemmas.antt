-- What is printed is read.
use Rattle.std.proofs.Common.{◌≡◌, ℕ, ◌+◌, ◌-◌, ◌*◌, ◌≤◌, List, ◌++◌, length, take, drop, Result, Ok, refl, sym, ap, subst, ◌∙◌, arith, append_assoc, length-append}
use Rattle.std.proofs.lemmas.List.{drop_at, length-replicate, length-take-le, length-drop}
use Rattle.std.proofs.Math.Seq.{take-append_seam}
use Rattle.myi_base.proofs.CallerLemmas.{length-num_bytes}
use Rattle.myi_defs.specs.declared.types.Defs.{Defs}
use Rattle.myi_defs.specs.declared.types.DefFault.{DefFault}
use Rattle.myi_defs.specs.declared.header.Front.{Front}
use Rattle.myi_defs.specs.Header.{front, header, outline}
use Rattle.myi_defs.specs.Layout.{mark, first_page}
use Rattle.myi_defs.specs.EmptyTable.{zeros, nulls, empty_state, front_bytes, base_bytes, empty_header}
use Rattle.myi_defs.specs.ReadDefs.{read_defs, AreDefs}
use Rattle.myi_defs.proofs.ReadLemmas.{front-take, raw-is, printed-judged}
use Rattle.myi_defs.proofs.SameLemmas.{outline-same}
use Rattle.myi_defs.proofs.SoundLaws.{sound}

length-zeros : (n : ℕ) → length (zeros n) ≡ n
unfolding zeros
length-zeros n = length-replicate n 0

length-nulls : (n : ℕ) → length (nulls n) ≡ 8 * n
unfolding nulls
length-nulls n = length-replicate (8 * n) 255

length-empty_state : (f : Front) (end : ℕ) → length (empty_state f end) ≡ 152 + 8 * (f.keys + f.page_sizes) + 4 * f.key_parts
unfolding empty_state
length-empty_state f end =
    simp (length-append, length-zeros, length-nulls, length-num_bytes) (omega arith)

-- what the first 24 bytes of the header of read definitions say
pub record HeaderFacts (x : List ℕ) : Type 0 where
  pub long : 24 ≤ length x
  pub size : length x ≡ (front x).header_length
  pub keys : (front x).keys ≤ 64
  pub base : (front x).base_pos ≡ 176 + 8 * (front x).keys + 8 * (front x).page_sizes + 4 * (front x).key_parts
  pub inside : (front x).base_pos + 100 ≤ length x

pub header_facts : (d : Defs) → AreDefs d → HeaderFacts d.raw
unfolding front
header_facts d same =
    let s = sound d same in
    record {
      long = omega (arith, s.base, s.base_inside);
      size = s.header;
      keys = omega (arith, s.keys, s.few_keys);
      base = omega (arith, s.base, s.keys);
      inside = s.base_inside;
    }

-- the header without the zeros behind it
abbrev printed : List ℕ → List ℕ
printed x = front_bytes x ++ (empty_state (front x) (first_page (length x)) ++ (base_bytes (front x).base_pos x ++ (mark ++ drop ((front x).base_pos + 100) x)))

pub empty_header-printed : (x : List ℕ) → empty_header x ≡ printed x ++ zeros (first_page (length x) - length x)
unfolding empty_header
empty_header-printed x = sym (simp append_assoc)

length-front_bytes : (x : List ℕ) → 24 ≤ length x → length (front_bytes x) ≡ 24
unfolding front_bytes
length-front_bytes x long = length-take-le 24 x long

length-base_bytes : (at : ℕ) (x : List ℕ) → at + 100 ≤ length x → length (base_bytes at x) ≡ 94
unfolding base_bytes
length-base_bytes at x long = length-take-le 94 (drop at x) (omega (arith, length-drop at x))

front_bytes-front : (x : List ℕ) → front (front_bytes x) ≡ front x
unfolding front_bytes
front_bytes-front x = front-take 24 x (omega arith)

-- a list that begins with the first 24 bytes of another has its items
front-append : (b rest : List ℕ) → length b ≡ 24 → front (b ++ rest) ≡ front b
front-append b rest size =
    sym (front-take (length b) (b ++ rest) (omega arith)) ∙ ap front (take-append_seam b rest)

base_bytes-at : (at : ℕ) (x b rest : List ℕ) → drop at x ≡ b ++ rest → length b ≡ 94 → base_bytes at x ≡ b
unfolding base_bytes
base_bytes-at at x b rest here size =
    ap (λ n. take n (drop at x)) (sym size) ∙ ap (take (length b)) here ∙ take-append_seam b rest

front_bytes-at : (x b rest : List ℕ) → x ≡ b ++ rest → length b ≡ 24 → front_bytes x ≡ b
unfolding front_bytes
front_bytes-at x b rest is size = ap (λ n. take n x) (sym size) ∙ ap (take (length b)) is ∙ take-append_seam b rest

record PrintedFacts (x : List ℕ) : Type 0 where
  pub size : length (printed x) ≡ length x
  pub front_again : front_bytes (printed x) ≡ front_bytes x
  pub front_same : front (printed x) ≡ front x
  pub base_same : base_bytes (front x).base_pos (printed x) ≡ base_bytes (front x).base_pos x
  pub rest_same : drop ((front x).base_pos + 100) (printed x) ≡ drop ((front x).base_pos + 100) x

printed_facts : (x : List ℕ) → HeaderFacts x → PrintedFacts x
printed_facts x fact =
    let f = front x in
    let p = f.base_pos in
    let a = front_bytes x in
    let s = empty_state f (first_page (length x)) in
    let b = base_bytes p x in
    let rest = drop (p + 100) x in
    let la = length-front_bytes x fact.long in
    let ls = length-empty_state f (first_page (length x)) in
    let lb = length-base_bytes p x fact.inside in
    let lr = length-drop (p + 100) x in
    let before : length (a ++ s) ≡ p = omega (arith, length-append a s, la, ls, fact.base) in
    let here : drop p (printed x) ≡ b ++ (mark ++ rest) =
    ap (drop p) (sym (append_assoc a s (b ++ (mark ++ rest)))) ∙ drop_at (a ++ s) (b ++ (mark ++ rest)) p before in
    let upto : length ((a ++ s) ++ (b ++ mark)) ≡ p + 100 = omega (arith, length-append (a ++ s) (b ++ mark), length-append b mark, before, lb) in
    let split : printed x ≡ ((a ++ s) ++ (b ++ mark)) ++ rest = sym (simp append_assoc) in
    record {
      size = omega (arith, ap length split, length-append ((a ++ s) ++ (b ++ mark)) rest, upto, lr, fact.inside);
      front_again = front_bytes-at (printed x) a (s ++ (b ++ (mark ++ rest))) refl la;
      front_same = front-append a (s ++ (b ++ (mark ++ rest))) la ∙ front_bytes-front x;
      base_same = base_bytes-at p (printed x) b (mark ++ rest) here lb;
      rest_same = ap (drop (p + 100)) split ∙ drop_at ((a ++ s) ++ (b ++ mark)) rest (p + 100) upto;
    }

pub print_reads : (d : Defs) → AreDefs d → read_defs (empty_header d.raw) ≡ Ok (record d { raw = take (length d.raw) (empty_header d.raw) })
print_reads d same =
    let x : List ℕ = d.raw in
    let fact = header_facts d same in
    let p = printed_facts x fact in
    let z = printed x in
    let tail = zeros (first_page (length x) - length x) in
    let y = empty_header x in
    let whole : y ≡ z ++ tail = empty_header-printed x in
    let cut : take (length x) y ≡ z = ap (take (length x)) whole ∙ ap (λ n. take n (z ++ tail)) (sym p.size) ∙ take-append_seam z tail in
    let first : front y ≡ front x =
    sym (front-take (length x) y fact.long) ∙ ap front cut ∙ p.front_same in
    let head : header y ≡ z = ap (λ (f : Front). take f.header_length y) first ∙ ap (λ n. take n y) (sym fact.size) ∙ cut in
    let long : length x ≤ length y = omega (arith, ap length whole, length-append z tail, p.size) in
    let itself : x ≡ header x = raw-is x d same in
    let out : outline (front x) z ≡ outline (front x) (header x) = outline-same (front x) z x p.base_same p.rest_same ∙ ap (outline (front x)) itself in
    subst (λ r. read_defs y ≡ Ok (record d { raw = r })) (sym cut) (printed-judged d x y z same itself first head out long fact.long fact.size)

-- printing what is read of it prints it again

abbrev header_by : Front → ℕ → List ℕ → List ℕ → List ℕ → List ℕ
header_by f n first base rest =
    first ++ (empty_state f (first_page n) ++ (base ++ (mark ++ (rest ++ zeros (first_page n - n)))))

same_printed : (z x : List ℕ) → front z ≡ front x → length z ≡ length x → front_bytes z ≡ front_bytes x → base_bytes (front x).base_pos z ≡ base_bytes (front x).base_pos x → drop ((front x).base_pos + 100) z ≡ drop ((front x).base_pos + 100) x → empty_header z ≡ empty_header x
unfolding empty_header
same_printed z x f n first base rest =
    ap (λ (g : Front). header_by g (length z) (front_bytes z) (base_bytes g.base_pos z) (drop (g.base_pos + 100) z)) f
    ∙ ap (λ k. header_by (front x) k (front_bytes z) (base_bytes (front x).base_pos z) (drop ((front x).base_pos + 100) z)) n
    ∙ ap (λ b. header_by (front x) (length x) b (base_bytes (front x).base_pos z) (drop ((front x).base_pos + 100) z)) first
    ∙ ap (λ b. header_by (front x) (length x) (front_bytes x) b (drop ((front x).base_pos + 100) z)) base
    ∙ ap (header_by (front x) (length x) (front_bytes x) (base_bytes (front x).base_pos x)) rest

pub printed-again : (d again : Defs) → AreDefs d → read_defs (empty_header d.raw) ≡ Ok again → empty_header again.raw ≡ empty_header d.raw
printed-again d again same read =
    let x : List ℕ = d.raw in
    let fact = header_facts d same in
    let p = printed_facts x fact in
    let z = printed x in
    let tail = zeros (first_page (length x) - length x) in
    let cut : take (length x) (empty_header x) ≡ z = ap (take (length x)) (empty_header-printed x) ∙ ap (λ n. take n (z ++ tail)) (sym p.size) ∙ take-append_seam z tail in
    let twice : ◌≡◌ {A = Result Defs DefFault} (Ok again) (Ok (record d { raw = take (length x) (empty_header x) })) = sym read ∙ print_reads d same in
    let raw : again.raw ≡ z = ap (λ (e : Defs). e.raw) (ok_same again (record d { raw = take (length x) (empty_header x) }) twice) ∙ cut in
    ap empty_header raw ∙ same_printed z x p.front_same p.size p.front_again p.base_same p.rest_same
  where
    ok_same : (a b : Defs) → ◌≡◌ {A = Result Defs DefFault} (Ok a) (Ok b) → a ≡ b
    ok_same a b e = cc
