-- Writing into a slice.
use Rattle.std.proofs.Common.{Bool, true, false, not, eqb, replicate, cond, ◌≡◌, ℕ, zero, suc, ◌+◌, ◌-◌, ◌*◌, ◌/◌, ◌%◌, ◌^◌, ◌<◌, ◌≤◌, List, [], ◌∷◌, ◌++◌, length, get_or, set, take, drop, min, refl, sym, ap, subst, ◌∙◌, append_assoc, arith, inl, inr}
use Rattle.std.proofs.lemmas.List.{drop_more, drop_all, append-nil, length-append, length-drop, length-take, drop-take, drop_at, get_or-take, get_or-drop, get_or_default}
use Rattle.std.specs.List.{AllByRecursion}
use Rattle.std.proofs.lemmas.Bool.{eqb-true, ne_eqb, lt-ltb, cases_lt}
use Rattle.myi_base.specs.Numbers.{num_bytes}
use Rattle.myi_keypage.specs.Page.{shared, entry_with, Page, body_bytes, entry_bytes, entries_bytes, child_bytes, packed_bytes, number_bytes, page_with, page_bytes, IsBranching, is_node, head_bytes}
use Rattle.myi_keypage.specs.declared.entry.Entry.{Entry}
use Rattle.myi_base.proofs.CallerLemmas.{length-num_bytes}
use Rattle.myi_keypage.specs.Writing.{Puts, filled_up}
use Rattle.myi_keypage.specs.Fitting.{entries_length, used_length}
use Rattle.myi_keypage.proofs.Shared.{shared_empty, shared_le, shared_le_right}

pub shared_end : (xs ys : List ℕ) (i : ℕ) → length ys ≤ i → shared xs (drop i ys) ≡ 0
shared_end xs ys i le = eqb-true _ _ (shared_empty xs (drop i ys) (inr (rw (drop_all i ys le) refl)))

pub Puts-then : (old : List ℕ) (at : ℕ) (mid : List ℕ) (end : ℕ) (new : List ℕ) (last : ℕ) (a b : List ℕ) → Puts old at mid end a → Puts mid end new last b → Puts old at new last (a ++ b)
Puts-then old at mid end new last a b p q = record {
  ends = omega (arith, p.ends, q.ends, length-append a b);
  front = q.front ∙ ap (λ (t : List ℕ). t ++ b) p.front ∙ append_assoc (take at old) a b;
}

pub ruleset lengths = (length-num_bytes, length-append)

-- the entry at an index, by its key and its row
pub entry_at : (es : List Entry) (i : ℕ) (key : List ℕ) (row : ℕ) → ((d : Entry) → key ≡ (get_or es i d).key) → ((d : Entry) → row ≡ (get_or es i d).row) → entry_with key row ≡ get_or es i (entry_with key row)
entry_at es i key row k r =
    let x : Entry = get_or es i (entry_with key row) in
    ap (λ (t : List ℕ). entry_with t row) (k (entry_with key row)) ∙ ap (λ (t : ℕ). entry_with x.key t) (r (entry_with key row))

-- the entry at an index, whose key is known
pub keyed_at : (es : List Entry) (i : ℕ) (key : List ℕ) → i < length es → ((d : Entry) → key ≡ (get_or es i d).key) → (row : ℕ) × (entry_with key row ≡ get_or es i (entry_with key row))
keyed_at es i key lt k =
    let x : Entry = get_or es i (entry_with key 0) in
    (x.row, entry_at es i key x.row k (λ d. ap (λ (e : Entry). e.row) (get_or_default es i (entry_with key 0) d lt)))

pub row_at : (es : List Entry) (rec_ref i row : ℕ) → i < length es → ((d : Entry) → row ≡ (get_or es i d).row) → AllByRecursion (λ (e : Entry). e.row < 256 ^ rec_ref) es → row < 256 ^ rec_ref
row_at [] rec_ref i row lt r all = absurd (omega arith)
row_at (e ∷ es) rec_ref zero row lt r all = subst (λ (t : ℕ). t < 256 ^ rec_ref) (sym (r e)) all.0
row_at (e ∷ es) rec_ref (suc i) row lt r all = row_at es rec_ref i row (omega arith) r all.1

-- the entry at an index of a part of a list
pub part_at : (es : List Entry) (start count i : ℕ) (d : Entry) → i < length (take count (drop start es)) → (start + i < length es) × (get_or es (min start (length es) + i) d ≡ get_or (take count (drop start es)) i d)
part_at es start count i d lt =
    let few : i < count = omega (arith, length-take count (drop start es)) in
    let inside : start + i < length es = omega (arith, length-take count (drop start es), length-drop start es) in
    let at : min start (length es) + i ≡ start + i = omega arith in
    (inside, ap (λ (n : ℕ). get_or es n d) at ∙ sym (get_or-drop start es i d) ∙ sym (get_or-take count (drop start es) i d few))

pub tail_at : (es : List Entry) (i : ℕ) (e : Entry) → i < length es → e ≡ get_or es i e → drop i es ≡ e ∷ drop (i + 1) es
tail_at es i e lt is = drop_more es i e lt ∙ ap (λ (x : Entry). x ∷ drop (i + 1) es) (sym is)

-- the entry at i, with no child after it
pub leaf_step : (rec_ref : ℕ) (before : List ℕ) (es : List Entry) (cs : List ℕ) (i : ℕ) (e : Entry) → i < length es → e ≡ get_or es i e → length cs ≤ i
    → entries_bytes rec_ref before (drop i es) (drop i cs) ≡ entry_bytes rec_ref before e ++ entries_bytes rec_ref e.key (drop (i + 1) es) (drop (i + 1) cs)
leaf_step rec_ref before es cs i e lt is le = rw (tail_at es i e lt is, drop_all i cs le, drop_all (i + 1) cs (omega arith)) refl

pub node_step : (rec_ref : ℕ) (before : List ℕ) (es : List Entry) (cs : List ℕ) (i : ℕ) (e : Entry) → i < length es → e ≡ get_or es i e → i < length cs
    → entries_bytes rec_ref before (drop i es) (drop i cs) ≡ (entry_bytes rec_ref before e ++ child_bytes (get_or cs i 0)) ++ entries_bytes rec_ref e.key (drop (i + 1) es) (drop (i + 1) cs)
node_step rec_ref before es cs i e lt is le = rw (tail_at es i e lt is, drop_more cs i 0 le) refl

pub length-packed : (rec_ref prefix : ℕ) (rest : List ℕ) (row : ℕ) → length (packed_bytes rec_ref prefix rest row) ≡ length (number_bytes prefix) + length (number_bytes (length rest)) + length rest + rec_ref
length-packed rec_ref prefix rest row =
    let a = length-append (number_bytes prefix ++ number_bytes (length rest) ++ rest) (num_bytes rec_ref row) in
    let b = length-append (number_bytes prefix ++ number_bytes (length rest)) rest in
    let c = length-append (number_bytes prefix) (number_bytes (length rest)) in
    omega (arith, length-num_bytes rec_ref row)

pub first_le : (rec_ref : ℕ) (before : List ℕ) (es : List Entry) (cs : List ℕ) (i : ℕ) (e : Entry) → i < length es → e ≡ get_or es i e
    → length (entry_bytes rec_ref before e) ≤ length (entries_bytes rec_ref before (drop i es) (drop i cs))
first_le rec_ref before es cs i e lt is =
    elim (cases_lt i (length cs)) [
      | inl more ↦ rw (node_step rec_ref before es cs i e lt is more) (simp length-append (omega arith))
      | inr none ↦ rw (leaf_step rec_ref before es cs i e lt is none) (simp length-append (omega arith))
    ]

-- an entry that is short enough has short parts
pub entry_len : (rec_ref : ℕ) (before : List ℕ) (e : Entry) (more : ℕ) → length before + (length (entry_bytes rec_ref before e) + more) < 65536
    → (shared before e.key < 65536) × (length (drop (shared before e.key) e.key) < 65536) × (length e.key + more < 65536)
entry_len rec_ref before e more lt =
    let p : ℕ = shared before e.key in
    let r : List ℕ = drop p e.key in
    let a = length-append (number_bytes p ++ number_bytes (length r) ++ r) (num_bytes rec_ref e.row) in
    let b = length-append (number_bytes p ++ number_bytes (length r)) r in
    let c = length-drop p e.key in
    let d = shared_le before e.key in
    let f = shared_le_right before e.key in
    (omega arith, omega arith, omega arith)

-- a part of what is left is put, and the rest is left
pub puts_on : (old : List ℕ) (at : ℕ) (new : List ℕ) (end : ℕ) (text rest more whole : List ℕ) (n : ℕ) → Puts old at new end text → rest ≡ text ++ more → take at old ++ rest ≡ whole → at + length rest ≡ n
    → (take end new ++ more ≡ whole) × (end + length more ≡ n)
puts_on old at new end text rest more whole n p r w l = (
  ap (λ (t : List ℕ). t ++ more) p.front ∙ append_assoc (take at old) text more ∙ ap (λ (t : List ℕ). take at old ++ t) (sym r) ∙ w,
  omega (arith, p.ends, ap length r, length-append text more),
)

-- what is left behind an entry stays short
pub few_left : (rec_ref : ℕ) (before : List ℕ) (es : List Entry) (cs : List ℕ) (i : ℕ) (e : Entry) → i < length es → e ≡ get_or es i e
    → length before + length (entries_bytes rec_ref before (drop i es) (drop i cs)) < 65536 → length e.key + length (entries_bytes rec_ref e.key (drop (i + 1) es) (drop (i + 1) cs)) < 65536
few_left rec_ref before es cs i e lt is few =
    let more : ℕ = length (entries_bytes rec_ref e.key (drop (i + 1) es) (drop (i + 1) cs)) in
    elim (cases_lt i (length cs)) [
      | inl some ↦
          let whole = ap length (node_step rec_ref before es cs i e lt is some) in
          let a = length-append (entry_bytes rec_ref before e ++ child_bytes (get_or cs i 0)) (entries_bytes rec_ref e.key (drop (i + 1) es) (drop (i + 1) cs)) in
          let b = length-append (entry_bytes rec_ref before e) (child_bytes (get_or cs i 0)) in
          (entry_len rec_ref before e more (omega arith)).2
      | inr none ↦
          let whole = ap length (leaf_step rec_ref before es cs i e lt is none) in
          let a = length-append (entry_bytes rec_ref before e) (entries_bytes rec_ref e.key (drop (i + 1) es) (drop (i + 1) cs)) in
          (entry_len rec_ref before e more (omega arith)).2
    ]

-- there is room for an entry and the child after it
pub child_le : (rec_ref : ℕ) (before : List ℕ) (es : List Entry) (cs : List ℕ) (i : ℕ) (e : Entry) → i < length es → e ≡ get_or es i e → i < length cs
    → length (entry_bytes rec_ref before e) + 7 ≤ length (entries_bytes rec_ref before (drop i es) (drop i cs))
child_le rec_ref before es cs i e lt is more =
    let whole = ap length (node_step rec_ref before es cs i e lt is more) in
    let a = length-append (entry_bytes rec_ref before e ++ child_bytes (get_or cs i 0)) (entries_bytes rec_ref e.key (drop (i + 1) es) (drop (i + 1) cs)) in
    let b = length-append (entry_bytes rec_ref before e) (child_bytes (get_or cs i 0)) in
    omega (arith, length-num_bytes 7 (get_or cs i 0 / 1024))

-- there is room for the first child
pub body_le : (rec_ref : ℕ) (es : List Entry) (cs : List ℕ) → 1 ≤ length cs → 7 ≤ length (body_bytes rec_ref (page_with es cs))
body_le rec_ref es [] some = absurd (omega arith)
body_le rec_ref es (c ∷ cs) some = omega (arith, length-append (child_bytes c) (entries_bytes rec_ref [] es cs), length-num_bytes 7 (c / 1024))

pub ruleset length_packed = (length-packed)

len_leaf : (rec_ref : ℕ) (before : List ℕ) (es : List Entry) → entries_length rec_ref false before es ≡ length (entries_bytes rec_ref before es [])
len_leaf rec_ref before [] = refl
len_leaf rec_ref before (e ∷ es) = omega (arith, length-append (entry_bytes rec_ref before e) (entries_bytes rec_ref e.key es []), len_leaf rec_ref e.key es)

len_node : (rec_ref : ℕ) (before : List ℕ) (es : List Entry) (cs : List ℕ) → length cs ≡ length es → entries_length rec_ref true before es ≡ length (entries_bytes rec_ref before es cs)
len_node rec_ref before [] cs h = refl
len_node rec_ref before (e ∷ es) [] h = absurd (omega arith)
len_node rec_ref before (e ∷ es) (c ∷ cs) h =
    omega (arith, length-append (entry_bytes rec_ref before e ++ child_bytes c) (entries_bytes rec_ref e.key es cs), length-append (entry_bytes rec_ref before e) (child_bytes c), length-num_bytes 7 (c / 1024), len_node rec_ref e.key es cs (omega arith))

pub used_is : (rec_ref : ℕ) (node : Bool) (es : List Entry) (cs : List ℕ) → IsBranching (page_with es cs) → not (eqb (length cs) 0) ≡ node → (used_length rec_ref node es ≡ length (body_bytes rec_ref (page_with es cs)) + 2) × (is_node (page_with es cs) ≡ node)
used_is rec_ref true es [] b n = absurd cc
used_is rec_ref false es [] b n = (omega (arith, len_leaf rec_ref [] es), refl)
used_is rec_ref false es (c ∷ cs) b n = absurd (node_not c cs n)
  where
    node_not : (c : ℕ) (cs : List ℕ) → not (eqb (length (c ∷ cs)) 0) ≡ false → ⊥
    node_not c cs h = let k : eqb (length (c ∷ cs)) 0 ≡ false = ne_eqb _ _ (omega arith) in let l : not false ≡ false = rw k at h in cc
used_is rec_ref true es (c ∷ cs) b n =
    (omega (arith, length-append (child_bytes c) (entries_bytes rec_ref [] es cs), length-num_bytes 7 (c / 1024), len_node rec_ref [] es cs b), lt-ltb 0 (length (c ∷ cs)) (omega arith))

-- the used length of a page
pub used_page : (rec_ref : ℕ) (es : List Entry) (cs : List ℕ) → IsBranching (page_with es cs) → used_length rec_ref (is_node (page_with es cs)) es ≡ length (body_bytes rec_ref (page_with es cs)) + 2
used_page rec_ref es cs branching =
    let u = used_is rec_ref (not (eqb (length cs) 0)) es cs branching refl in
    rw u.1 u.0

pub length-page_bytes : (rec_ref : ℕ) (page : Page) → length (page_bytes rec_ref page) ≡ length (body_bytes rec_ref page) + 2
unfolding page_bytes
length-page_bytes rec_ref page = omega arith

-- two bytes set at the front
pub set_two : (bytes : List ℕ) (a b : ℕ) → 2 ≤ length bytes → set (set bytes 0 a) 1 b ≡ a ∷ b ∷ drop 2 bytes
set_two [] a b long = absurd (omega arith)
set_two (x ∷ []) a b long = absurd (omega arith)
set_two (x ∷ y ∷ bytes) a b long = refl

-- the page that is left once its body, the two bytes before it and the zeros behind it are put
pub written : (rec_ref : ℕ) (page : Page) (old body head new : List ℕ) (node : Bool) (used : ℕ) → 2 ≤ length old → is_node page ≡ node → Puts old 2 body used (body_bytes rec_ref page)
    → length body ≡ length old → head ≡ head_bytes node used ++ drop 2 body → length head ≡ length body → new ≡ take used head ++ replicate (length head - used) 0 → new ≡ filled_up (page_bytes rec_ref page) (length old)
unfolding page_bytes
written rec_ref page old body head new node used long n p len h same e =
    let text : List ℕ = body_bytes rec_ref page in
    let ends : used ≡ length text + 2 = omega (arith, p.ends) in
    let two : used ≡ suc (suc (length text)) = omega (arith, p.ends) in
    let behind_two : used ≡ 2 + length text = omega (arith, p.ends) in
    let short : length (take 2 old) ≡ 2 = omega (arith, length-take 2 old) in
    let behind : take (length text) (drop 2 body) ≡ text =
    sym (drop-take 2 (length text) body) ∙ ap (λ (k : ℕ). drop 2 (take k body)) (sym behind_two) ∙ ap (drop 2) p.front ∙ drop_at (take 2 old) text 2 short in
    let front : take used head ≡ head_bytes node used ++ text =
    ap (take used) h ∙ ap (λ (k : ℕ). take k (head_bytes node used ++ drop 2 body)) two ∙ ap (λ (t : List ℕ). head_bytes node used ++ t) behind in
    let spelled : take used head ≡ head_bytes (is_node page) (length text + 2) ++ text =
    front ∙ ap (λ (m : Bool). head_bytes m used ++ text) (sym n) ∙ ap (λ (k : ℕ). head_bytes (is_node page) k ++ text) ends in
    let left : length head - used ≡ length old - length (head_bytes (is_node page) (length text + 2) ++ text) = omega (arith, two) in
    e ∙ ap (λ (t : List ℕ). t ++ replicate (length head - used) 0) spelled ∙ ap (λ (k : ℕ). (head_bytes (is_node page) (length text + 2) ++ text) ++ replicate k 0) left
