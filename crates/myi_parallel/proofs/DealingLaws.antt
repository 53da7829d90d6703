-- Keys that are dealt out one after the other, and trees that are collected in the same order.
use Rattle.std.proofs.Common.{◌≡◌, ◌≢◌, ℕ, zero, suc, ◌+◌, ◌-◌, ◌<◌, ◌≤◌, ◌⊎◌, inl, inr, List, [], ◌∷◌, ◌++◌, length, map, set, get_or, drop, take, refl, sym, ap, subst, ◌∙◌, arith, length-drop, append-nil, drop_of_length-le, Bool, true, false}
use Rattle.std.specs.Prelude.{nat_lt, ◌==◌, if◌then◌else◌, replicate}
use Rattle.std.proofs.lemmas.Bool.{cases_lt, lt-ltb, le-ltb, ne_eqb}
use Rattle.std.proofs.lemmas.List.{get_or-set_same, get_or-set_other, length-set, length-replicate, get_or-drop, drop-drop, take_all, length-map}
use Rattle.myi_keylist.specs.PairOrder.{sorted}
use Rattle.myi_btree.specs.declared.laid.Laid.{Laid}
use Rattle.myi_parallel.specs.Asked.{Asked, asked}
use Rattle.myi_parallel.specs.declared.workers.KeyPairs.{KeyPairs}
use Rattle.myi_parallel.specs.KeyPairs.{asked_from}
use Rattle.myi_parallel.specs.LaidTrees.{IsLaid, AreLaid}
use Rattle.myi_parallel.specs.Dealing.{dealt, others_before, next_turn, next_round}
use Rattle.myi_parallel.specs.Shares.{share_of, GetsOne, Deals}
use Rattle.myi_parallel.proofs.DealLaws.{then_before, one_later, if_here, dealt_more, before_more, here_zero, here_more, dealt_zero, dealt_tail, same_or, others_at, others_here, others_else, next_before, next_last, next_more, one_later_zero}

-- so many keys were dealt out, and it is the turn of this worker
pub record Dealing (workers turn : ℕ) (all : List Asked) (shares : List (List Asked)) : Type 0 where
  pub deals : Deals workers all shares
  pub waits : (worker : ℕ) → worker < workers → then_before workers worker all ≡ others_before workers turn worker

none_there : (n worker : ℕ) → share_of (replicate n []) worker ≡ []
none_there zero worker = refl
none_there (suc n) zero = refl
none_there (suc n) (suc worker) = none_there n worker

pub deals_begin : (workers : ℕ) (shares : List (List Asked)) → shares ≡ replicate workers [] → Dealing workers 0 [] shares
deals_begin workers shares is = subst (Dealing workers 0 []) (sym is) record {
  deals = record { count = length-replicate workers []; each = λ worker inside. none_there workers worker };
  waits = λ worker inside. omega (arith, others_at workers 0 worker (omega arith));
}

pub deals_next : (workers turn : ℕ) (all : List Asked) (x : Asked) (old new : List (List Asked)) → turn < workers → GetsOne turn x old new → Dealing workers turn all old → Dealing workers (next_turn workers turn) (all ++ x ∷ []) new
deals_next workers turn all x old new inside gets was = record {
  deals = record {
    count = ap length gets ∙ length-set old turn (share_of old turn ++ x ∷ []) ∙ was.deals.count;
    each = λ worker within. ap (λ (s : List (List Asked)). share_of s worker) gets ∙ one worker within (same_or worker turn) ∙ sym (dealt_more workers worker all x);
  };
  waits = λ worker within. before_more workers worker all x ∙ (ap (one_later workers) (was.waits worker within) ∙ next_before workers turn worker inside within);
}
  where
    one : (worker : ℕ) → worker < workers → (worker ≡ turn) ⊎ (worker ≢ turn) → share_of (set old turn (share_of old turn ++ x ∷ [])) worker ≡ dealt workers worker all ++ if_here (then_before workers worker all) x
    one worker within (inl is) =
        let zero_left : then_before workers worker all ≡ 0 = was.waits worker within ∙ (ap (others_before workers turn) is ∙ others_here workers turn) in
        ap (share_of (set old turn (share_of old turn ++ x ∷ []))) is ∙ (get_or-set_same old turn (share_of old turn ++ x ∷ []) [] (omega (arith, inside, was.deals.count)) ∙ (ap (λ (s : List Asked). s ++ x ∷ []) (ap (share_of old) (sym is) ∙ was.deals.each worker within) ∙ ap (λ (s : List Asked). dealt workers worker all ++ s) (sym (here_zero (then_before workers worker all) x zero_left))))
    one worker within (inr differs) =
        let some_left : 0 < then_before workers worker all = subst (λ n. 0 < n) (sym (was.waits worker within)) (others_else workers turn worker inside differs) in
        get_or-set_other old turn worker (share_of old turn ++ x ∷ []) [] differs ∙ (was.deals.each worker within ∙ (sym (append-nil (dealt workers worker all)) ∙ ap (λ (s : List Asked). dealt workers worker all ++ s) (sym (here_more (then_before workers worker all) x some_left))))

pub asked_more : (number : ℕ) (ks : List KeyPairs) (k : KeyPairs) → asked_from number (ks ++ k ∷ []) ≡ asked_from number ks ++ asked (number + length ks) k.place (sorted k.pairs) ∷ []
asked_more number [] k = ap (λ n. asked n k.place (sorted k.pairs) ∷ []) (omega arith)
asked_more number (j ∷ ks) k = ap (λ l. asked number j.place (sorted j.pairs) ∷ l) (asked_more (number + 1) ks k ∙ ap (λ n. asked_from (number + 1) ks ++ asked n k.place (sorted k.pairs) ∷ []) (omega arith))

pub length-asked_from : (number : ℕ) (ks : List KeyPairs) → length (asked_from number ks) ≡ length ks
length-asked_from number [] = refl
length-asked_from number (k ∷ ks) = ap suc (length-asked_from (number + 1) ks)

-- ---- collecting

-- how many trees of a worker were taken, where those of so many rounds were and it is the turn of another one
abbrev pub taken_of : ℕ → ℕ → ℕ → ℕ
taken_of turn round worker = if nat_lt worker turn then round + 1 else round

-- what is left of each worker's keys is what of all keys that are left goes to it
pub record Collecting (workers turn round : ℕ) (left : List Asked) (shares : List (List Asked)) : Type 0 where
  pub each : (worker : ℕ) → worker < workers → drop (taken_of turn round worker) (share_of shares worker) ≡ dealt workers (others_before workers turn worker) left

taken_before : (turn round worker : ℕ) → worker < turn → taken_of turn round worker ≡ round + 1
taken_before turn round worker lt = ap (λ b. if b then round + 1 else round) (lt-ltb worker turn lt)

taken_behind : (turn round worker : ℕ) → turn ≤ worker → taken_of turn round worker ≡ round
taken_behind turn round worker le = ap (λ b. if b then round + 1 else round) (le-ltb worker turn le)

pub collecting_begins : (workers : ℕ) (all : List Asked) (shares : List (List Asked)) → Deals workers all shares → Collecting workers 0 0 all shares
collecting_begins workers all shares deals = record {
  each = λ worker inside. ap (λ n. drop n (share_of shares worker)) (taken_behind 0 0 worker (omega arith)) ∙ (deals.each worker inside ∙ ap (λ n. dealt workers n all) (omega (arith, others_at workers 0 worker (omega arith))));
}

module _ (workers turn round : ℕ) (x : Asked) (xs : List Asked) (shares : List (List Asked)) (inside : turn < workers) (was : Collecting workers turn round (x ∷ xs) shares) where
  pub own_left : drop round (share_of shares turn) ≡ x ∷ dealt workers (workers - 1) xs
  own_left = ap (λ n. drop n (share_of shares turn)) (sym (taken_behind turn round turn (omega arith))) ∙ (was.each turn inside ∙ dealt_zero workers (others_before workers turn turn) x xs (others_here workers turn))

  pub own_inside : round < length (share_of shares turn)
  own_inside = omega (arith, ap (λ (l : List Asked). length l) own_left, length-drop round (share_of shares turn))

  pub own_is : x ≡ get_or (share_of shares turn) round x
  own_is = sym (ap (λ (l : List Asked). get_or l 0 x) own_left) ∙ (get_or-drop round (share_of shares turn) 0 x ∙ ap (λ n. get_or (share_of shares turn) n x) (omega arith))

  round_last : turn + 1 ≡ workers → next_round (next_turn workers turn) round ≡ round + 1
  round_last is = ap (λ t. next_round t round) (next_last workers turn is)

  round_more : turn + 1 < workers → next_round (next_turn workers turn) round ≡ round
  round_more more = ap (λ b. if b then round + 1 else round) (ne_eqb (next_turn workers turn) 0 (λ is. absurd (omega (arith, is, next_more workers turn more))))

  taken_next : (worker : ℕ) → worker < workers → taken_of (next_turn workers turn) (next_round (next_turn workers turn) round) worker ≡ (if nat_lt turn worker then round else round + 1)
  taken_next worker within = by (cases_lt (turn + 1) workers) (cases_lt turn worker)
    where
      to_own : worker ≤ turn → round + 1 ≡ (if nat_lt turn worker then round else round + 1)
      to_own le = ap (λ b. if b then round else round + 1) (sym (le-ltb turn worker le))

      to_other : turn < worker → round ≡ (if nat_lt turn worker then round else round + 1)
      to_other lt = ap (λ b. if b then round else round + 1) (sym (lt-ltb turn worker lt))

      by : (turn + 1 < workers) ⊎ (workers ≤ turn + 1) → (turn < worker) ⊎ (worker ≤ turn) → taken_of (next_turn workers turn) (next_round (next_turn workers turn) round) worker ≡ (if nat_lt turn worker then round else round + 1)
      by (inl more) (inl lt) = ap (λ r. taken_of (next_turn workers turn) r worker) (round_more more) ∙ (ap (λ t. taken_of t round worker) (next_more workers turn more) ∙ (taken_behind (turn + 1) round worker (omega (arith, lt)) ∙ to_other lt))
      by (inl more) (inr le) = ap (λ r. taken_of (next_turn workers turn) r worker) (round_more more) ∙ (ap (λ t. taken_of t round worker) (next_more workers turn more) ∙ (taken_before (turn + 1) round worker (omega (arith, le)) ∙ to_own le))
      by (inr end) (inl lt) = absurd (omega (arith, end, lt, within))
      by (inr end) (inr le) =
          let last : turn + 1 ≡ workers = omega (arith, end, inside) in
          ap (λ r. taken_of (next_turn workers turn) r worker) (round_last last) ∙ (ap (λ t. taken_of t (round + 1) worker) (next_last workers turn last) ∙ (taken_behind 0 (round + 1) worker (omega arith) ∙ to_own le))

  pub collecting_next : Collecting workers (next_turn workers turn) (next_round (next_turn workers turn) round) xs shares
  collecting_next = record { each = λ worker within. ap (λ n. drop n (share_of shares worker)) (taken_next worker within) ∙ (one worker within (cases_lt worker turn) (cases_lt turn worker) ∙ ap (λ n. dealt workers n xs) (next_before workers turn worker inside within)) }
    where
      past : (n : ℕ) (s rest : List Asked) → drop n s ≡ x ∷ rest → drop (n + 1) s ≡ rest
      past n s rest is = sym (drop-drop 1 n s) ∙ ap (drop 1) is

      one : (worker : ℕ) → worker < workers → (worker < turn) ⊎ (turn ≤ worker) → (turn < worker) ⊎ (worker ≤ turn) → drop (if nat_lt turn worker then round else round + 1) (share_of shares worker) ≡ dealt workers (one_later workers (others_before workers turn worker)) xs
      one worker within (inl lt) second =
          ap (λ b. drop (if b then round else round + 1) (share_of shares worker)) (le-ltb turn worker (omega (arith, lt))) ∙ (ap (λ n. drop n (share_of shares worker)) (sym (taken_before turn round worker lt)) ∙ (was.each worker within ∙ dealt_tail workers (others_before workers turn worker) x xs (others_else workers turn worker inside (λ e. absurd (omega (arith, e, lt))))))
      one worker within (inr le) (inl gt) =
          ap (λ b. drop (if b then round else round + 1) (share_of shares worker)) (lt-ltb turn worker gt) ∙ (ap (λ n. drop n (share_of shares worker)) (sym (taken_behind turn round worker le)) ∙ (was.each worker within ∙ dealt_tail workers (others_before workers turn worker) x xs (others_else workers turn worker inside (λ e. absurd (omega (arith, e, gt))))))
      one worker within (inr le) (inr ge) =
          let same : worker ≡ turn = omega (arith, le, ge) in
          ap (λ b. drop (if b then round else round + 1) (share_of shares worker)) (le-ltb turn worker ge) ∙ (ap (λ w. drop (round + 1) (share_of shares w)) same ∙ (past round (share_of shares turn) _ own_left ∙ ap (λ n. dealt workers n xs) (sym (one_later_zero workers (others_before workers turn worker) (ap (others_before workers turn) same ∙ others_here workers turn)))))

pub laid_more : (bs : List Asked) (ls : List Laid) (a : Asked) (l : Laid) → AreLaid bs ls → IsLaid a.place a.pairs l → AreLaid (bs ++ a ∷ []) (ls ++ l ∷ [])
laid_more [] [] a l all one = (one, tt)
laid_more [] (m ∷ ls) a l all one = absurd all
laid_more (b ∷ bs) [] a l all one = absurd all
laid_more (b ∷ bs) (m ∷ ls) a l all one = (all.0, laid_more bs ls a l all.1 one)

-- shares of which the same is asked are dealt out to as many workers
pub still_dealt : (workers : ℕ) (all : List Asked) (old new : List (List Asked)) → Deals workers all old → new ≡ old → Deals (length new) all new
still_dealt workers all old new deals same =
    let count : workers ≡ length new = sym deals.count ∙ ap length (sym same) in
    subst (λ n. Deals n all new) count (subst (Deals workers all) (sym same) deals)

-- ---- lists that are handed on as slices

pub slice_back : {X : Type 0} (n : ℕ) (new old : List X) → n ≡ length old → length new ≡ length old → take n (new ++ drop (length new) old) ≡ new
slice_back n new old count long =
    let none : drop (length new) old ≡ [] = drop_of_length-le old (omega (arith, long)) in
    ap (λ (l : List _). take n (new ++ l)) none ∙ (ap (take n) (append-nil new) ∙ take_all n new (omega (arith, count, long)))

pub same_long : {X Y : Type 0} (f : X → Y) (new old : List X) → map f new ≡ map f old → length new ≡ length old
same_long f new old same = sym (length-map new f) ∙ (ap length same ∙ length-map old f)

pub split_here : {X : Type 0} (xs : List X) (i : ℕ) → i < length xs → (x : X) × (drop i xs ≡ x ∷ drop (i + 1) xs) × (take (i + 1) xs ≡ take i xs ++ x ∷ [])
split_here [] i inside = absurd (omega arith)
split_here (y ∷ ys) zero inside = (y, refl, refl)
split_here (y ∷ ys) (suc i) inside =
    let s = split_here ys i (omega arith) in
    let next : suc (i + 1) ≡ suc i + 1 = omega arith in
    (s.0, s.1 ∙ ap (λ n. s.0 ∷ drop n (y ∷ ys)) next, ap (λ n. take n (y ∷ ys)) (sym next) ∙ ap (λ l. y ∷ l) s.2)

pub round_most : (turn round : ℕ) → next_round turn round ≤ round + 1
round_most turn round = by (turn == 0)
  where
    by : (b : Bool) → (if b then round + 1 else round) ≤ round + 1
    by true = omega arith
    by false = omega arith
