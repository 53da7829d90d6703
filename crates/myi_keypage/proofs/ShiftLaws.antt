-- Adding to the children of a page, one after the other.
use Rattle.std.proofs.Common.{◌≡◌, ℕ, suc, ◌+◌, ◌-◌, ◌*◌, Bool, true, false, cond, get_or, ◌/◌, ◌^◌, ◌<◌, ◌≤◌, List, [], ◌∷◌, ◌++◌, Some, None, length, take, drop, refl, sym, ap, ◌∙◌, append_assoc, append-nil, arith}
use Rattle.std.proofs.lemmas.List.{length-append, take-append-drop, drop_at, take-append-le, take_all}
use Rattle.myi_base.specs.Numbers.{num, num_at, num_bytes}
use Rattle.myi_base.proofs.CallerLemmas.{length-num_bytes, num-num_bytes}
use Rattle.myi_keypage.specs.declared.entry.Entry.{Entry}
use Rattle.std.proofs.lemmas.Bool.{lt-ltb, lt-leb, le-leb}
use Rattle.myi_keypage.specs.Page.{Page, page_with, page_bytes, head_bytes, is_node, IsPage, shared, entry_bytes, entries_bytes, packed_bytes, child_bytes, IsPlace}
use Rattle.myi_keypage.specs.Shifting.{further, shifted, CanShift, HasEntries}
use Rattle.myi_keypage.specs.PageItems.{Item, item_at}
use Rattle.myi_keypage.proofs.ItemLaws.{item_again}
use Rattle.myi_keypage.proofs.PageIs.{expected}
use Rattle.myi_keypage.proofs.FitLaws.{entry_least}
use Rattle.myi_keypage.proofs.WriteLaws.{entry_len}

take_at : (p q : List ℕ) (n : ℕ) → length p ≡ n → take n (p ++ q) ≡ p
take_at p q n e = take-append-le n p q (omega (arith, e)) ∙ take_all n p (omega (arith, e))

-- the number of the child that stands at a place
pub child_number : (bytes front back : List ℕ) (at child : ℕ) → bytes ≡ front ++ (child_bytes child ++ back) → length front ≡ at → IsPlace child → num_at at 7 bytes ≡ child / 1024
child_number bytes front back at child e len place =
    let there : drop at bytes ≡ child_bytes child ++ back = ap (drop at) e ∙ drop_at front (child_bytes child ++ back) at len in
    ap (num 7) there ∙ num-num_bytes 7 (child / 1024) back (omega (arith, place.1))

sum_is : (child by : ℕ) → IsPlace child → IsPlace (child + by) → child / 1024 + by / 1024 ≡ (child + by) / 1024
sum_is child by one two = omega (arith, one.0, two.0)

pub small_sum : (bytes front back : List ℕ) (at child by : ℕ) → bytes ≡ front ++ (child_bytes child ++ back) → length front ≡ at → IsPlace child → IsPlace (child + by) → num_at at 7 bytes + by / 1024 < 2 ^ 56
small_sum bytes front back at child by e len one two = omega (arith, child_number bytes front back at child e len one, sum_is child by one two, two.1)

-- the bytes with that child further on
pub child_shifted : (bytes new front back : List ℕ) (at child by : ℕ) → bytes ≡ front ++ (child_bytes child ++ back) → length front ≡ at → IsPlace child → IsPlace (child + by)
    → take (at + 7) new ≡ take at bytes ++ num_bytes 7 (num_at at 7 bytes + by / 1024) → drop (at + 7) new ≡ drop (at + 7) bytes
    → new ≡ (front ++ child_bytes (child + by)) ++ back
child_shifted bytes new front back at child by e len one two taken left =
    let number : num_at at 7 bytes + by / 1024 ≡ (child + by) / 1024 = ap (λ (n : ℕ). n + by / 1024) (child_number bytes front back at child e len one) ∙ sum_is child by one two in
    let before : take at bytes ≡ front = ap (take at) e ∙ take_at front (child_bytes child ++ back) at len in
    let total : length (front ++ child_bytes child) ≡ at + 7 = omega (arith, length-append front (child_bytes child), length-num_bytes 7 (child / 1024), len) in
    let behind : drop (at + 7) bytes ≡ back = ap (drop (at + 7)) (e ∙ sym (append_assoc front (child_bytes child) back)) ∙ drop_at (front ++ child_bytes child) back (at + 7) total in
    sym (take-append-drop (at + 7) new) ∙ ap (λ (t : List ℕ). t ++ drop (at + 7) new) (taken ∙ ap (λ (t : List ℕ). t ++ num_bytes 7 (num_at at 7 bytes + by / 1024)) before ∙ ap (λ (n : ℕ). front ++ num_bytes 7 n) number)
    ∙ ap (λ (t : List ℕ). (front ++ child_bytes (child + by)) ++ t) (left ∙ behind)

-- the entry that stands at a place, and the child after it
pub record Next (rec_ref by : ℕ) (bytes : List ℕ) (at used : ℕ) (done before : List ℕ) (entries : List Entry) (children rest : List ℕ) : Type 0 where
  pub entry : Entry
  pub child : ℕ
  pub back : List ℕ
  pub others : List Entry
  pub left : List ℕ
  pub here : drop at bytes ≡ entry_bytes rec_ref before entry ++ (child_bytes child ++ back)
  pub prefix : shared before entry.key < 65536
  pub key : length (drop (shared before entry.key) entry.key) < 65536
  pub row : entry.row < 256 ^ rec_ref
  pub there : bytes ≡ (done ++ entry_bytes rec_ref before entry) ++ (child_bytes child ++ back)
  pub start : length (done ++ entry_bytes rec_ref before entry) ≡ at + length (entry_bytes rec_ref before entry)
  pub room : at + length (entry_bytes rec_ref before entry) + 7 ≤ length bytes
  pub one : IsPlace child
  pub two : IsPlace (child + by)
  pub then : (new : List ℕ) → new ≡ ((done ++ entry_bytes rec_ref before entry) ++ child_bytes (child + by)) ++ back
      → HasEntries rec_ref by new (at + length (entry_bytes rec_ref before entry) + 7) used ((done ++ entry_bytes rec_ref before entry) ++ child_bytes (child + by)) entry.key others left rest
  pub whole : ((done ++ entry_bytes rec_ref before entry) ++ child_bytes (child + by)) ++ (entries_bytes rec_ref entry.key others (further by left) ++ rest)
      ≡ done ++ (entries_bytes rec_ref before entries (further by children) ++ rest)

pub going_on : (rec_ref by : ℕ) (bytes : List ℕ) (at used : ℕ) (done before : List ℕ) (entries : List Entry) (children rest : List ℕ) → HasEntries rec_ref by bytes at used done before entries children rest → at < used
    → Next rec_ref by bytes at used done before entries children rest
going_on rec_ref by bytes at used done before [] children rest h lt = absurd (omega (arith, h.end))
going_on rec_ref by bytes at used done before (e ∷ es) [] rest h lt = absurd (omega (arith, h.same))
going_on rec_ref by bytes at used done before (e ∷ es) (c ∷ cs) rest h lt =
    let first : List ℕ = entry_bytes rec_ref before e in
    let others : List ℕ = entries_bytes rec_ref e.key es cs in
    let regroup : (first ++ child_bytes c ++ others) ++ rest ≡ first ++ (child_bytes c ++ (others ++ rest)) = simp append_assoc refl in
    let text : bytes ≡ done ++ (first ++ (child_bytes c ++ (others ++ rest))) = h.text ∙ ap (λ (t : List ℕ). done ++ t) regroup in
    let long : length (first ++ child_bytes c ++ others) ≡ length first + 7 + length others = omega (arith, length-append (first ++ child_bytes c) others, length-append first (child_bytes c), length-num_bytes 7 (c / 1024)) in
    let parts = entry_len rec_ref before e (length others) (omega (arith, h.short, long)) in
    let total : length bytes ≡ length done + (length first + (7 + (length others + length rest))) =
    omega (arith, ap length text, length-append done (first ++ (child_bytes c ++ (others ++ rest))), length-append first (child_bytes c ++ (others ++ rest)), length-append (child_bytes c) (others ++ rest), length-append others rest, length-num_bytes 7 (c / 1024)) in
    record {
      entry = e;
      child = c;
      back = others ++ rest;
      others = es;
      left = cs;
      here = ap (drop at) text ∙ drop_at done (first ++ (child_bytes c ++ (others ++ rest))) at h.start;
      prefix = parts.0;
      key = parts.1;
      row = h.rows.0;
      there = text ∙ sym (append_assoc done first (child_bytes c ++ (others ++ rest)));
      start = omega (arith, length-append done first, h.start);
      room = omega (arith, total, h.start);
      one = h.places.0;
      two = h.further.0;
      then = λ new is. record {
        text = is;
        start = omega (arith, length-append (done ++ first) (child_bytes (c + by)), length-append done first, length-num_bytes 7 ((c + by) / 1024), h.start);
        end = omega (arith, h.end, long);
        same = omega (arith, h.same);
        rows = h.rows.1;
        places = h.places.1;
        further = h.further.1;
        short = parts.2;
      };
      whole = simp append_assoc refl;
    }

-- nothing is left
pub gone : (rec_ref by : ℕ) (bytes : List ℕ) (at used : ℕ) (done before : List ℕ) (entries : List Entry) (children rest : List ℕ) → HasEntries rec_ref by bytes at used done before entries children rest → used ≤ at
    → bytes ≡ done ++ (entries_bytes rec_ref before entries (further by children) ++ rest)
gone rec_ref by bytes at used done before [] children rest h le = h.text
gone rec_ref by bytes at used done before (e ∷ es) [] rest h le = absurd (omega (arith, h.same))
gone rec_ref by bytes at used done before (e ∷ es) (c ∷ cs) rest h le =
    absurd (omega (arith, h.end, length-append (entry_bytes rec_ref before e ++ child_bytes c) (entries_bytes rec_ref e.key es cs), length-append (entry_bytes rec_ref before e) (child_bytes c), entry_least rec_ref before e))

-- some children are further on, and what is left gives the whole
pub record Gone (rec_ref by : ℕ) (bytes : List ℕ) (at used : ℕ) (whole rest : List ℕ) : Type 0 where
  pub done : List ℕ
  pub before : List ℕ
  pub entries : List Entry
  pub children : List ℕ
  pub has : HasEntries rec_ref by bytes at used done before entries children rest
  pub same : done ++ (entries_bytes rec_ref before entries (further by children) ++ rest) ≡ whole

-- children further on take as many bytes
further_length : (rec_ref by : ℕ) (before : List ℕ) (es : List Entry) (cs : List ℕ) → length (entries_bytes rec_ref before es (further by cs)) ≡ length (entries_bytes rec_ref before es cs)
further_length rec_ref by before [] cs = refl
further_length rec_ref by before (e ∷ es) [] = refl
further_length rec_ref by before (e ∷ es) (c ∷ cs) =
    omega (
      arith,
      length-append (entry_bytes rec_ref before e ++ child_bytes (c + by)) (entries_bytes rec_ref e.key es (further by cs)),
      length-append (entry_bytes rec_ref before e) (child_bytes (c + by)),
      length-num_bytes 7 ((c + by) / 1024),
      length-append (entry_bytes rec_ref before e ++ child_bytes c) (entries_bytes rec_ref e.key es cs),
      length-append (entry_bytes rec_ref before e) (child_bytes c),
      length-num_bytes 7 (c / 1024),
      further_length rec_ref by e.key es cs,
    )

-- ---- a whole page

is_page : (rec_ref by : ℕ) (bytes rest : List ℕ) (p : Page) → CanShift rec_ref by p → bytes ≡ page_bytes rec_ref p ++ rest → IsPage rec_ref bytes p
is_page rec_ref by bytes rest p can e = record { has = can.has; branching = can.branching; text = (rest, e) }

pub two_there : (rec_ref by : ℕ) (bytes rest : List ℕ) (p : Page) → CanShift rec_ref by p → bytes ≡ page_bytes rec_ref p ++ rest → 2 ≤ length bytes
two_there rec_ref by bytes rest p can e = (expected rec_ref bytes p (is_page rec_ref by bytes rest p can e)).two

-- a leaf stays
pub leaf_stays : (rec_ref by : ℕ) (bytes rest : List ℕ) (es : List Entry) (cs : List ℕ) → CanShift rec_ref by (page_with es cs) → bytes ≡ page_bytes rec_ref (page_with es cs) ++ rest → get_or bytes 0 0 < 128
    → bytes ≡ page_bytes rec_ref (page_with es (further by cs)) ++ rest
leaf_stays rec_ref by bytes rest es [] can e low = e
leaf_stays rec_ref by bytes rest es (c ∷ cs) can e low =
    let x = expected rec_ref bytes (page_with es (c ∷ cs)) (is_page rec_ref by bytes rest (page_with es (c ∷ cs)) can e) in
    let node : true ≡ false = sym (lt-ltb 0 (suc (length cs)) (omega arith)) ∙ sym x.node ∙ lt-leb 128 (get_or bytes 0 0) low in
    absurd cc

-- the first child of a node, and the entries behind it
pub record First (rec_ref by : ℕ) (bytes rest : List ℕ) (p : Page) (used : ℕ) : Type 0 where
  pub front : List ℕ
  pub child : ℕ
  pub left : List ℕ
  pub back : List ℕ
  pub there : bytes ≡ front ++ (child_bytes child ++ back)
  pub start : length front ≡ 2
  pub one : IsPlace child
  pub two : IsPlace (child + by)
  pub room : 9 ≤ length bytes
  pub then : (new : List ℕ) → new ≡ (front ++ child_bytes (child + by)) ++ back → HasEntries rec_ref by new 9 used (front ++ child_bytes (child + by)) [] p.entries left rest
  pub whole : (front ++ child_bytes (child + by)) ++ (entries_bytes rec_ref [] p.entries (further by left) ++ rest) ≡ page_bytes rec_ref (shifted by p) ++ rest

pub first_child : (rec_ref by : ℕ) (bytes rest : List ℕ) (es : List Entry) (cs : List ℕ) (used : ℕ) → CanShift rec_ref by (page_with es cs) → bytes ≡ page_bytes rec_ref (page_with es cs) ++ rest → 128 ≤ get_or bytes 0 0
    → used ≡ (get_or bytes 0 0 - 128) * 256 + get_or bytes 1 0 → First rec_ref by bytes rest (page_with es cs) used
unfolding page_bytes
first_child rec_ref by bytes rest es [] used can e high is =
    let x = expected rec_ref bytes (page_with es []) (is_page rec_ref by bytes rest (page_with es []) can e) in
    let node : true ≡ false = sym (le-leb 128 (get_or bytes 0 0) high) ∙ x.node in
    absurd cc
first_child rec_ref by bytes rest es (c ∷ cs) used can e high is =
    let p : Page = page_with es (c ∷ cs) in
    let x = expected rec_ref bytes p (is_page rec_ref by bytes rest p can e) in
    let others : List ℕ = entries_bytes rec_ref [] es cs in
    let moved : List ℕ = entries_bytes rec_ref [] es (further by cs) in
    let len : ℕ = length (child_bytes c ++ others) in
    let front : List ℕ = head_bytes (is_node p) (len + 2) in
    let total : len ≡ 7 + length others = omega (arith, length-append (child_bytes c) others, length-num_bytes 7 (c / 1024)) in
    let head_is : get_or bytes 0 0 ≡ cond (is_node p) 128 0 + (len + 2) / 256 = ap (λ (t : List ℕ). get_or t 0 0) e in
    let head_node : get_or bytes 0 0 ≡ 128 + (len + 2) / 256 = head_is ∙ ap (λ (b : Bool). cond b 128 0 + (len + 2) / 256) (lt-ltb 0 (suc (length cs)) (omega arith)) in
    let byte : get_or bytes 0 0 < 256 = omega (arith, head_node, can.has.used) in
    let used_is : used ≡ len + 2 = omega (arith, is, x.used, byte) in
    let text : bytes ≡ front ++ (child_bytes c ++ (others ++ rest)) = e ∙ simp append_assoc refl in
    let same_node : is_node p ≡ is_node (shifted by p) = lt-ltb 0 (suc (length cs)) (omega arith) ∙ sym (lt-ltb 0 (suc (length (further by cs))) (omega arith)) in
    let same_len : len + 2 ≡ length (child_bytes (c + by) ++ moved) + 2 = omega (arith, total, length-append (child_bytes (c + by)) moved, length-num_bytes 7 ((c + by) / 1024), further_length rec_ref by [] es cs) in
    let head : front ≡ head_bytes (is_node (shifted by p)) (length (child_bytes (c + by) ++ moved) + 2) = ap (λ (b : Bool). head_bytes b (len + 2)) same_node ∙ ap (head_bytes (is_node (shifted by p))) same_len in
    record {
      front = front;
      child = c;
      left = cs;
      back = others ++ rest;
      there = text;
      start = refl;
      one = can.has.places.0;
      two = can.places.0;
      room = omega (arith, x.most, total);
      then = λ new new_is. record {
        text = new_is;
        start = omega (arith, length-append front (child_bytes (c + by)), length-num_bytes 7 ((c + by) / 1024));
        end = omega (arith, used_is, total);
        same = can.branching;
        rows = can.has.rows;
        places = can.has.places.1;
        further = can.places.1;
        short = omega (arith, can.has.used, total);
      };
      whole = ap (λ (t : List ℕ). (t ++ child_bytes (c + by)) ++ (moved ++ rest)) head ∙ simp append_assoc refl;
    }

-- an entry is read without a child
pub leaf_item : (rec_ref prefix row : ℕ) (rest more : List ℕ) → prefix < 65536 → length rest < 65536 → row < 256 ^ rec_ref
    → item_at false rec_ref (packed_bytes rec_ref prefix rest row ++ more) ≡ Some (record { prefix = prefix; rest = rest; row = row; child = None }, more)
leaf_item rec_ref prefix row rest more small short fits =
    let item : Item = record { prefix = prefix; rest = rest; row = row; child = None } in
    ap (λ (t : List ℕ). item_at false rec_ref (t ++ more)) (sym (append-nil (packed_bytes rec_ref prefix rest row))) ∙ item_again false rec_ref item more (record { prefix = small; rest = short; row = fits; child = tt })
