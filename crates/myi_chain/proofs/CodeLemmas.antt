-- What the walk along a chain meets.
use Rattle.std.proofs.Common.{◌≡◌, ℕ, zero, suc, ◌-◌, ◌<◌, ◌≤◌, List, [], ◌∷◌, ◌++◌, length, map, Option, Some, None, refl, sym, ap, ◌∙◌, arith}
use Rattle.myi_base.specs.Ranges.{Range}
use Rattle.myi_frames.specs.Block.{Block}
use Rattle.myi_chain.specs.declared.chain.Link.{Link}
use Rattle.myi_chain.specs.declared.chain.Link.TheVariants.{Broken, Last, More}
use Rattle.myi_chain.specs.Chain.{Reading, range_of, ranges, prepend, next_link, taken_by, tail_of, tail}
use Rattle.myi_chain.specs.Chain.{placed, ranges_at}
use Rattle.myi_chain.proofs.ChainLemmas.{tail_sound, tail_complete}

pub map_append : {A B : Type 0} (f : A → B) (xs ys : List A) → map f (xs ++ ys) ≡ map f xs ++ map f ys
map_append f [] ys = refl
map_append f (x ∷ xs) ys = ap (λ t. f x ∷ t) (map_append f xs ys)

pub placed_ranges : (bs : List Block) → ranges_at (placed bs) ≡ ranges bs
placed_ranges [] = refl
placed_ranges (b ∷ bs) = ap (λ t. range_of b ∷ t) (placed_ranges bs)

-- ---- the rest of a chain, one block after the other

same_fuel : (f g : ℕ) (read : Reading) (n : Option ℕ) (u : List Range) (l : ℕ) (o q : Option (List Block)) → l ≤ f → l ≤ g → tail_of f read n u l ≡ o → tail_of g read n u l ≡ q → o ≡ q
same_fuel f g read n u l (Some bs) q h k e r = sym (tail_complete g read n u l bs (tail_sound f read n u l bs e) k) ∙ r
same_fuel f g read n u l None None h k e r = refl
same_fuel f g read n u l None (Some bs) h k e r = sym (sym (tail_complete f read n u l bs (tail_sound g read n u l bs r) h) ∙ e)

pub tail_fuel : (f : ℕ) (read : Reading) (n : Option ℕ) (u : List Range) (l : ℕ) → l ≤ f → tail_of f read n u l ≡ tail read n u l
unfolding tail
tail_fuel f read n u l h = same_fuel f l read n u l _ _ h (omega arith) refl refl

tail_by : (read : Reading) (p : ℕ) (used : List Range) (left : ℕ) (b : Block) (l : Link) → read p ≡ Some b → 0 < left → next_link b used left ≡ l → 0 < length b.bytes → tail read (Some p) used left ≡ taken_by l b (tail read b.next (used ++ range_of b ∷ []) (left - length b.bytes))
unfolding tail
tail_by read p used zero b l e pos k h = absurd (omega arith)
tail_by read p used (suc left) b l e pos k h =
    let same = tail_fuel left read b.next (used ++ range_of b ∷ []) (suc left - length b.bytes) (omega arith) in
    rw (e, k, same) refl

pub tail_none : (read : Reading) (used : List Range) (left : ℕ) → tail read None used left ≡ None
unfolding tail
tail_none read used zero = refl
tail_none read used (suc left) = refl

pub tail_no_block : (read : Reading) (p : ℕ) (used : List Range) (left : ℕ) → read p ≡ None → tail read (Some p) used left ≡ None
unfolding tail
tail_no_block read p used zero e = refl
tail_no_block read p used (suc left) e = rw e refl

pub tail_broken : (read : Reading) (p : ℕ) (used : List Range) (left : ℕ) (b : Block) → read p ≡ Some b → next_link b used left ≡ Broken → tail read (Some p) used left ≡ None
unfolding tail
tail_broken read p used zero b e k = refl
tail_broken read p used (suc left) b e k = rw (e, k) refl

pub tail_last : (read : Reading) (p : ℕ) (used : List Range) (left : ℕ) (b : Block) → read p ≡ Some b → 0 < left → next_link b used left ≡ Last → 0 < length b.bytes → tail read (Some p) used left ≡ Some (b ∷ [])
tail_last read p used left b e pos k h = tail_by read p used left b Last e pos k h

pub tail_more : (read : Reading) (p : ℕ) (used : List Range) (left : ℕ) (b : Block) → read p ≡ Some b → 0 < left → next_link b used left ≡ More → 0 < length b.bytes → tail read (Some p) used left ≡ prepend b (tail read b.next (used ++ range_of b ∷ []) (left - length b.bytes))
tail_more read p used left b e pos k h = tail_by read p used left b More e pos k h
