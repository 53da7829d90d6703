-- What a walk shows once one more event was met.
use Rattle.std.proofs.Common.{◌≡◌, ℕ, ◌+◌, ◌-◌, ◌^◌, ◌<◌, ◌&&◌, Bool, true, false, not, nat_cmp, Option, Some, None, List, [], ◌∷◌, map, drop, refl, sym, ap, subst, ◌∙◌, arith}
use Rattle.std.specs.Prelude.{min, is_none}
use Rattle.std.specs.Option.{option_or}
use Rattle.std.specs.List.{list_all}
use Rattle.std.specs.BTreeSet.{insert_key}
use Rattle.std.proofs.lemmas.List.Sums.{sum_by-cons}
use Rattle.myi_base.specs.Ranges.{Range, is_apart}
use Rattle.myi_keylist.specs.declared.pair.Pair.{Pair}
use Rattle.myi_btree.specs.Visit.{page_range}
use Rattle.myi_btree.specs.Events.{Event, page, pair, bad, first_bad, pages_in}
use Rattle.myi_btree.specs.Used.{up_to_used}
use Rattle.myi_pair.specs.FirstBad.{walk_bad}
use Rattle.myi_pair.specs.Findings.{told}
use Rattle.myi_check.specs.declared.pairs_met.PairsMet.{PairsMet}
use Rattle.myi_check.specs.declared.busy.BusyPages.{BusyPages}
use Rattle.myi_check.specs.declared.walks.TreeKey.{TreeKey}
use Rattle.myi_check.specs.declared.walks.TreeWalk.{TreeWalk}
use Rattle.myi_check.specs.WalksBusy.{is_free}
use Rattle.myi_check.specs.Walks.{last_key, bad_with, bytes_met, Shows, ShowsApart}
use Rattle.myi_check.proofs.BusyLaws.{all_more}

-- ---- before the first event

pub shows_first : (unique : Bool) (block : ℕ) (pairs : List Pair) (walk : TreeWalk) (all : List Event) → walk.is_cut ≡ false → walk.met ≡ record { count = 0; last = None; bad = None } → walk.places.keys ≡ [] → walk.bytes ≡ 0 → Shows unique block pairs walk all all
shows_first unique block pairs walk all cut met none zero = record {
  cut = λ e. let k : true ≡ false = sym e ∙ cut in absurd cc;
  bad = ap (λ (m : PairsMet). bad_with unique pairs m all) (sym met);
  whole = ap (λ (b : Bool). not b && is_none (first_bad all)) (sym cut);
  bytes = λ e. ap told (let k : bytes_met block all ≡ walk.bytes + bytes_met block all = omega (arith, zero) in k);
  places = λ e test. ap (λ (t : List ℕ). list_all test t && list_all test (pages_in all)) (sym none);
}

-- ---- a bad place

or_some : (o : Option ℕ) (at : ℕ) (x : Option ℕ) → option_or (option_or o (Some at)) x ≡ option_or o (Some at)
or_some None at x = refl
or_some (Some p) at x = refl

or_there : (o : Option ℕ) (at : ℕ) → is_none (option_or o (Some at)) ≡ false
or_there None at = refl
or_there (Some p) at = refl

and_false : (b : Bool) → (b && false) ≡ false
and_false true = refl
and_false false = refl

pub shows_cut : (unique : Bool) (block : ℕ) (pairs : List Pair) (old new : TreeWalk) (at : ℕ) (all left : List Event) → new.met ≡ record old.met { bad = option_or old.met.bad (Some at) } → new.is_cut ≡ true → Shows unique block pairs old all (bad at ∷ []) → Shows unique block pairs new all left
shows_cut unique block pairs old new at all left met cut s = record {
  cut = λ e. ap (λ (m : PairsMet). is_none m.bad) met ∙ or_there old.met.bad at;
  bad = s.bad ∙ sym (ap (λ (m : PairsMet). bad_with unique pairs m left) met ∙ or_some old.met.bad at (walk_bad unique (last_key old.met) (drop old.met.count pairs) left));
  whole = s.whole ∙ and_false (not old.is_cut) ∙ sym (ap (λ (b : Bool). not b && is_none (first_bad left)) cut);
  bytes = λ e. let k : true ≡ false = sym cut ∙ e in absurd cc;
  places = λ e. let k : true ≡ false = sym cut ∙ e in absurd cc;
}

-- behind it nothing counts
or_any : (o x y : Option ℕ) → is_none o ≡ false → option_or o x ≡ option_or o y
or_any None x y e = absurd cc
or_any (Some p) x y e = refl

pub shows_any : (unique : Bool) (block : ℕ) (pairs : List Pair) (walk : TreeWalk) (all left other : List Event) → walk.is_cut ≡ true → Shows unique block pairs walk all left → Shows unique block pairs walk all other
shows_any unique block pairs walk all left other cut s = record {
  cut = s.cut;
  bad = s.bad ∙ or_any walk.met.bad (walk_bad unique (last_key walk.met) (drop walk.met.count pairs) left) (walk_bad unique (last_key walk.met) (drop walk.met.count pairs) other) (s.cut cut);
  whole = s.whole ∙ ap (λ (b : Bool). not b && is_none (first_bad left)) cut ∙ sym (ap (λ (b : Bool). not b && is_none (first_bad other)) cut);
  bytes = λ e. let k : true ≡ false = sym cut ∙ e in absurd cc;
  places = λ e. let k : true ≡ false = sym cut ∙ e in absurd cc;
}

-- ---- a pair

pub shows_pair : (unique : Bool) (block : ℕ) (pairs : List Pair) (old new : TreeWalk) (p : Pair) (at : ℕ) (all left : List Event) → new.is_cut ≡ old.is_cut → new.places ≡ old.places → new.bytes ≡ old.bytes → (is_none old.met.bad ≡ false → new.met.bad ≡ old.met.bad)
    → bad_with unique pairs old.met (pair p at ∷ left) ≡ bad_with unique pairs new.met left → Shows unique block pairs old all (pair p at ∷ left) → Shows unique block pairs new all left
shows_pair unique block pairs old new p at all left cut places bytes keeps is s = record {
  cut = λ e. let there = s.cut (sym cut ∙ e) in ap is_none (keeps there) ∙ there;
  bad = s.bad ∙ is;
  whole = s.whole ∙ ap (λ (b : Bool). not b && is_none (first_bad left)) (sym cut);
  bytes = λ e. s.bytes (sym cut ∙ e) ∙ ap (λ n. told (n + bytes_met block left)) (sym bytes);
  places = λ e test. s.places (sym cut ∙ e) test ∙ ap (λ s. list_all test s.keys && list_all test (pages_in left)) (sym places);
}

-- ---- a page

told_more : (a b c old new block at : ℕ) → told a ≡ told (old + b) → b ≡ (at + block - at) + c → new ≡ min (old + block) (2 ^ 64 - 1) → told a ≡ told (new + c)
told_more a b c old new block at e f g = omega (arith, e, f, g)

pub shows_page : (unique : Bool) (block : ℕ) (pairs : List Pair) (old new : TreeWalk) (at : ℕ) (all left : List Event) → new.is_cut ≡ old.is_cut → new.met ≡ old.met → new.places.keys ≡ insert_key nat_cmp old.places.keys at → new.bytes ≡ min (old.bytes + block) (2 ^ 64 - 1)
    → Shows unique block pairs old all (page at ∷ left) → Shows unique block pairs new all left
shows_page unique block pairs old new at all left cut met places bytes s = record {
  cut = λ e. ap (λ (m : PairsMet). is_none m.bad) met ∙ s.cut (sym cut ∙ e);
  bad = s.bad ∙ ap (λ (m : PairsMet). bad_with unique pairs m left) (sym met);
  whole = s.whole ∙ ap (λ (b : Bool). not b && is_none (first_bad left)) (sym cut);
  bytes = λ e. told_more (bytes_met block all) (bytes_met block (page at ∷ left)) (bytes_met block left) old.bytes new.bytes block at (s.bytes (sym cut ∙ e)) (sum_by-cons (λ (r : Range). r.1 - r.0) (page_range block at) (map (page_range block) (pages_in left))) bytes;
  places = λ e test. s.places (sym cut ∙ e) test ∙ all_more test old.places.keys new.places.keys at (pages_in left) places;
}

-- ---- up to the first busy page

used_free : (block : ℕ) (ranges : List Range) (at : ℕ) (left : List Event) → is_apart (page_range block at) ranges ≡ true → up_to_used block ranges (page at ∷ left) ≡ page at ∷ up_to_used block ranges left
used_free block ranges at left e = rw e refl

used_busy : (block : ℕ) (ranges : List Range) (at : ℕ) (left : List Event) → is_apart (page_range block at) ranges ≡ false → up_to_used block ranges (page at ∷ left) ≡ bad at ∷ []
used_busy block ranges at left e = rw e refl

pub apart_page : (key : TreeKey) (pairs : List Pair) (busy : BusyPages) (old new : TreeWalk) (at : ℕ) (all left : List Event) → 0 < key.place.block_length → is_free busy at key.place.block_length ≡ true → new.is_cut ≡ old.is_cut → new.met ≡ old.met
    → new.places.keys ≡ insert_key nat_cmp old.places.keys at → new.bytes ≡ min (old.bytes + key.place.block_length) (2 ^ 64 - 1)
    → ShowsApart key pairs busy old all (page at ∷ left) → ShowsApart key pairs busy new all left
apart_page key pairs busy old new at all left some free cut met places bytes s = λ ranges are.
    let block = key.place.block_length in
    let given = subst (Shows key.unique block pairs old (up_to_used block ranges all)) (used_free block ranges at left (are at block some ∙ free)) (s ranges are) in
    shows_page key.unique block pairs old new at (up_to_used block ranges all) (up_to_used block ranges left) cut met places bytes given

pub apart_busy : (key : TreeKey) (pairs : List Pair) (busy : BusyPages) (walk : TreeWalk) (at : ℕ) (all left : List Event) → 0 < key.place.block_length → is_free busy at key.place.block_length ≡ false → ShowsApart key pairs busy walk all (page at ∷ left) → ShowsApart key pairs busy walk all (bad at ∷ left)
apart_busy key pairs busy walk at all left some free s = λ ranges are.
    let block = key.place.block_length in
    subst (Shows key.unique block pairs walk (up_to_used block ranges all)) (used_busy block ranges at left (are at block some ∙ free)) (s ranges are)

pub apart_first : (key : TreeKey) (pairs : List Pair) (busy : BusyPages) (walk : TreeWalk) (all : List Event) → walk.is_cut ≡ false → walk.met ≡ record { count = 0; last = None; bad = None } → walk.places.keys ≡ [] → walk.bytes ≡ 0 → ShowsApart key pairs busy walk all all
apart_first key pairs busy walk all cut met none zero = λ ranges are. shows_first key.unique key.place.block_length pairs walk (up_to_used key.place.block_length ranges all) cut met none zero

pub apart_any : (key : TreeKey) (pairs : List Pair) (busy : BusyPages) (walk : TreeWalk) (all left other : List Event) → walk.is_cut ≡ true → ShowsApart key pairs busy walk all left → ShowsApart key pairs busy walk all other
apart_any key pairs busy walk all left other cut s = λ ranges are.
    let block = key.place.block_length in
    shows_any key.unique block pairs walk (up_to_used block ranges all) (up_to_used block ranges left) (up_to_used block ranges other) cut (s ranges are)

pub apart_cut : (key : TreeKey) (pairs : List Pair) (busy : BusyPages) (old new : TreeWalk) (at : ℕ) (all left : List Event) → new.met ≡ record old.met { bad = option_or old.met.bad (Some at) } → new.is_cut ≡ true → ShowsApart key pairs busy old all (bad at ∷ left) → ShowsApart key pairs busy new all left
apart_cut key pairs busy old new at all left met cut s = λ ranges are.
    let block = key.place.block_length in
    shows_cut key.unique block pairs old new at (up_to_used block ranges all) (up_to_used block ranges left) met cut (s ranges are)

pub apart_pair : (key : TreeKey) (pairs : List Pair) (busy : BusyPages) (old new : TreeWalk) (p : Pair) (at : ℕ) (all left : List Event) → new.is_cut ≡ old.is_cut → new.places ≡ old.places → new.bytes ≡ old.bytes → (is_none old.met.bad ≡ false → new.met.bad ≡ old.met.bad)
    → ((left : List Event) → bad_with key.unique pairs old.met (pair p at ∷ left) ≡ bad_with key.unique pairs new.met left) → ShowsApart key pairs busy old all (pair p at ∷ left) → ShowsApart key pairs busy new all left
apart_pair key pairs busy old new p at all left cut places bytes keeps is s = λ ranges are.
    let block = key.place.block_length in
    shows_pair key.unique block pairs old new p at (up_to_used block ranges all) (up_to_used block ranges left) cut places bytes keeps (is (up_to_used block ranges left)) (s ranges are)
