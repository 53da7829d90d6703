-- What a row takes of the blocks of the row in whose place it is put.
use Rattle.std.proofs.Common.{◌≡◌, ℕ, ◌-◌, ◌^◌, ◌<◌, ◌≤◌, ◌⊎◌, inl, inr, Bool, true, false, List, [], ◌∷◌, ◌++◌, length, refl, sym, ap, subst, ◌∙◌, arith, append_assoc}
use Rattle.std.specs.Prelude.{nat_lt, if◌then◌else◌}
use Rattle.std.specs.List.{flat_map}
use Rattle.std.proofs.lemmas.Bool.{lt-ltb, ltb-true, lt-leb, le-leb}
use Rattle.std.proofs.lemmas.List.{append-nil}
use Rattle.myi_dellist.specs.declared.pieces.Piece.{Piece}
use Rattle.myi_dellist.specs.Areas.{Area}
use Rattle.myi_dellist.specs.Releasing.{most_size, front_part, back_part}
use Rattle.myi_dellist.specs.Placing.{area_of, areas_of, room, fits, Taking, take_one, take_from, with_piece, is_none, own_parts, own_areas, IsUsable}
use Rattle.myi_dellist.specs.Replacing.{parts_for}
use Rattle.myi_dellist.proofs.SizeLemmas.{not-fits-few, room-bounds}

-- ---- the blocks, long ones as two

areas_append : (xs ys : List Piece) → areas_of (xs ++ ys) ≡ areas_of xs ++ areas_of ys
areas_append [] ys = refl
areas_append (x ∷ xs) ys = ap (λ (bs : List Area). area_of x ∷ bs) (areas_append xs ys)

one_part : (len : ℕ) (a : Area) → (len < 2 ^ 24) ⊎ (a.size ≤ most_size) → parts_for len a ≡ a ∷ []
one_part len a (inl lt) = ap (λ (b : Bool). if b then a ∷ [] else own_parts a) (lt-ltb _ _ lt)
one_part len a (inr le) = by_test (nat_lt len (2 ^ 24))
  where
    by_test : (b : Bool) → (if b then a ∷ [] else own_parts a) ≡ a ∷ []
    by_test true = refl
    by_test false = ap (λ (b : Bool). if b then a ∷ [] else front_part a ∷ back_part a ∷ []) (le-leb _ _ le)

two_parts : (len : ℕ) (a : Area) → 2 ^ 24 ≤ len → most_size < a.size → parts_for len a ≡ front_part a ∷ back_part a ∷ []
two_parts len a far lt = by_test (nat_lt len (2 ^ 24)) refl
  where
    by_test : (b : Bool) → nat_lt len (2 ^ 24) ≡ b → (if b then a ∷ [] else own_parts a) ≡ front_part a ∷ back_part a ∷ []
    by_test true t = absurd (omega (arith, ltb-true _ _ t, far))
    by_test false t = ap (λ (b : Bool). if b then a ∷ [] else front_part a ∷ back_part a ∷ []) (lt-leb _ _ lt)

pub own-one : (len : ℕ) (ps qs : List Piece) (p : Piece) → (len < 2 ^ 24) ⊎ (p.size ≤ most_size) → qs ≡ ps ++ p ∷ [] → areas_of qs ≡ areas_of ps ++ parts_for len (area_of p)
own-one len ps qs p one are = ap areas_of are ∙ areas_append ps (p ∷ []) ∙ ap (λ (bs : List Area). areas_of ps ++ bs) (sym (one_part len (area_of p) one))

pub own-two : (len : ℕ) (ps qs rs : List Piece) (p front back : Piece) → 2 ^ 24 ≤ len → most_size < p.size → area_of front ≡ front_part (area_of p) → area_of back ≡ back_part (area_of p) → qs ≡ ps ++ front ∷ [] → rs ≡ qs ++ back ∷ [] → areas_of rs ≡ areas_of ps ++ parts_for len (area_of p)
own-two len ps qs rs p front back far lt f b are more =
    ap areas_of more ∙ areas_append qs (back ∷ []) ∙ ap (λ (xs : List Piece). areas_of xs ++ area_of back ∷ []) are ∙ ap (λ (bs : List Area). bs ++ area_of back ∷ []) (areas_append ps (front ∷ []))
    ∙ append_assoc (areas_of ps) (area_of front ∷ []) (area_of back ∷ [])
    ∙ ap (λ (x : Area). areas_of ps ++ x ∷ area_of back ∷ []) f ∙ ap (λ (x : Area). areas_of ps ++ front_part (area_of p) ∷ x ∷ []) b
    ∙ ap (λ (bs : List Area). areas_of ps ++ bs) (sym (two_parts len (area_of p) far lt))

none_of : {A : Type 0} (xs : List A) → length xs ≡ 0 → xs ≡ []
none_of [] e = refl
none_of (x ∷ xs) e = absurd (omega (arith, e))

all_parts : (len : ℕ) (own : List Area) → flat_map (parts_for len) own ≡ own_areas len own
all_parts len own = by_test (nat_lt len (2 ^ 24))
  where
    alone : (xs : List Area) → flat_map (λ (a : Area). a ∷ []) xs ≡ xs
    alone [] = refl
    alone (x ∷ xs) = ap (λ (bs : List Area). x ∷ bs) (alone xs)

    by_test : (b : Bool) → flat_map (λ (a : Area). if b then a ∷ [] else own_parts a) own ≡ (if b then own else flat_map own_parts own)
    by_test true = alone own
    by_test false = refl

pub own-all : (len : ℕ) (ps left all : List Piece) → length left ≡ 0 → areas_of ps ++ flat_map (parts_for len) (areas_of left) ≡ flat_map (parts_for len) (areas_of all) → areas_of ps ≡ own_areas len (areas_of all)
own-all len ps left all none so_far = sym (append-nil (areas_of ps)) ∙ ap (λ (xs : List Piece). areas_of ps ++ flat_map (parts_for len) (areas_of xs)) (sym (none_of left none)) ∙ so_far ∙ all_parts len (areas_of all)

-- ---- one block after the other

-- what is taken, and what is taken of the blocks that are left, is all of it
pub record TakesBy (len : ℕ) (all : List Area) (ps : List Piece) (first : Bool) (left : ℕ) (blocks : List Area) : Type 0 where
  pub pieces : ps ++ (take_from len first left blocks).pieces ≡ (take_from len true len all).pieces
  pub left_is : (take_from len first left blocks).left ≡ (take_from len true len all).left
  pub spare : (take_from len first left blocks).spare ≡ (take_from len true len all).spare
  pub unused : (take_from len first left blocks).unused ≡ (take_from len true len all).unused

abbrev pub TakesOn : ℕ → List Area → List Piece → ℕ → List Area → Type 0
TakesOn len all ps left blocks = TakesBy len all ps (is_none ps) left blocks

behind_one : (ps : List Piece) (p : Piece) → is_none (ps ++ p ∷ []) ≡ false
behind_one [] p = refl
behind_one (x ∷ ps) p = refl

full_is : (len : ℕ) (first : Bool) (left : ℕ) (a : Area) (more : List Area) → fits left a.size ≡ false → take_from len first left (a ∷ more) ≡ with_piece (record { at = a.at; size = a.size; taken = room len first a.size }) (take_from len false (left - room len first a.size) more)
full_is len first left a more e = ap (λ (b : Bool). take_one len first left a more b (λ n. take_from len false n more)) e

pub takes-full : (len : ℕ) (all : List Area) (ps qs : List Piece) (left : ℕ) (p : Piece) (taken : ℕ) (blocks behind : List Area) → blocks ≡ area_of p ∷ behind → fits left p.size ≡ false → taken ≡ room len (is_none ps) p.size → qs ≡ ps ++ record { at = p.at; size = p.size; taken = taken } ∷ [] → TakesOn len all ps left blocks → TakesOn len all qs (left - taken) behind
takes-full len all ps qs left p taken blocks behind is small room_is are t =
    let q : Piece = record { at = p.at; size = p.size; taken = taken } in
    let u = take_from len false (left - taken) behind in
    let here : take_from len (is_none ps) left blocks ≡ with_piece q u =
    ap (take_from len (is_none ps) left) is ∙ full_is len (is_none ps) left (area_of p) behind small
    ∙ ap (λ (n : ℕ). with_piece (record { at = p.at; size = p.size; taken = n }) (take_from len false (left - n) behind)) (sym room_is) in
    let made : TakesBy len all (ps ++ q ∷ []) false (left - taken) behind = record {
      pieces = append_assoc ps (q ∷ []) u.pieces ∙ ap (λ (x : Taking). ps ++ x.pieces) (sym here) ∙ t.pieces;
      left_is = ap (λ (x : Taking). x.left) (sym here) ∙ t.left_is;
      spare = ap (λ (x : Taking). x.spare) (sym here) ∙ t.spare;
      unused = ap (λ (x : Taking). x.unused) (sym here) ∙ t.unused;
    } in
    subst (λ (xs : List Piece). TakesOn len all xs (left - taken) behind) (sym are) (subst (λ (f : Bool). TakesBy len all (ps ++ q ∷ []) f (left - taken) behind) (sym (behind_one ps q)) made)

-- one that is filled takes less than is left
pub full-less : (len left : ℕ) (ps : List Piece) (p : Piece) (taken : ℕ) → left ≤ len → IsUsable len (area_of p) → fits left p.size ≡ false → taken ≡ room len (is_none ps) p.size → (taken < left) × (4 ≤ taken)
full-less len left ps p taken le u small is =
    let few = not-fits-few len left (is_none ps) (area_of p) le u small in
    let bounds = room-bounds len (is_none ps) p.size u.least in
    (omega (arith, is, few.0), omega (arith, is, bounds.0))
