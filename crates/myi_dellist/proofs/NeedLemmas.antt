-- What a release needs, step by step.
use Rattle.std.proofs.Common.{◌≡◌, ◌<◌, ◌≤◌, ◌+◌, ℕ, Bool, Option, Some, None, Result, Ok, Err, sym, ap, subst, ◌∙◌}
use Rattle.std.specs.Prelude.{if◌then◌else◌, IfSome}
use Rattle.std.proofs.lemmas.Bool.{lt-leb, le-leb}
use Rattle.myi_frames.specs.declared.head.Head.{Head}
use Rattle.myi_dellist.specs.declared.fault.FreeFault.{FreeFault}
use Rattle.myi_dellist.specs.declared.fault.FreeFault.TheVariants as fault
use Rattle.myi_dellist.specs.declared.linked.Linked.{Linked}
use Rattle.myi_dellist.specs.Releasing.{most_size}
use Rattle.myi_dellist.specs.Freeing.{if_short, hole_behind, first_by, first_without, without_prev, next_past, past, linked_by, block_linked, with_joined, plan_linked, plan_by, plan_in, same_link, if_says, names_next, names_prev, given, before_by, block_before, named_by, block_named, Answers}

pub given_err : (f : FreeFault) (r : Result Head ℕ) → Answers {T = Head} (Err f) r → Answers {T = Option Head} (Err f) (given r)
given_err fault.Full r a = absurd a
given_err (fault.Damaged at) r a = ap given a
given_err fault.File r a = tt
given_err fault.Memory r a = tt

pub given_ok : (h : Head) (r : Result Head ℕ) → r ≡ Ok h → given r ≡ Ok (Some h)
given_ok h r e = ap given e

pub before_none : (d : ℕ → Option Head) (head : Option ℕ) (h : Head) → h.prev ≡ None → (b : Bool) → same_link head (Some h.at) ≡ b → block_before d head h ≡ (if b then Ok None else Err h.at)
unfolding block_before
before_none d head h e b t = ap (before_by d head h.at) e ∙ ap (λ (x : Bool). if x then Ok None else Err h.at) t

pub before_some : (d : ℕ → Option Head) (head : Option ℕ) (h : Head) (p : ℕ) → h.prev ≡ Some p → given (if_says (names_next (Some h.at)) p (d p)) ≡ block_before d head h
unfolding block_before
before_some d head h p e = sym (ap (before_by d head h.at) e)

pub named_none : (d : ℕ → Option Head) (prev link : Option ℕ) → link ≡ None → block_named d prev link ≡ Ok None
unfolding block_named
named_none d prev link e = ap (named_by d prev) e

pub named_some : (d : ℕ → Option Head) (prev link : Option ℕ) (p : ℕ) → link ≡ Some p → given (if_says (names_prev prev) p (d p)) ≡ block_named d prev link
unfolding block_named
named_some d prev link p e = sym (ap (named_by d prev) e)

pub err_given : (x : Result (Option Head) FreeFault) (f : FreeFault) (r : Result Head ℕ) (s : Result (Option Head) ℕ) → x ≡ Err f → given r ≡ s → Answers {T = Head} (Err f) r → Answers x s
err_given x f r s e g a = subst (λ (y : Result (Option Head) FreeFault). Answers y s) (sym e) (subst (λ (t : Result (Option Head) ℕ). Answers {T = Option Head} (Err f) t) g (given_err f r a))

pub err_any : {T U : Type 0} (x : Result U FreeFault) (f : FreeFault) (r : Result T ℕ) (s : Result U ℕ) → x ≡ Err f → ((p : ℕ) → r ≡ Err p → s ≡ Err p) → Answers {T = T} (Err f) r → Answers {T = U} x s
err_any {T = T} {U = U} x f r s e go a = subst (λ (y : Result U FreeFault). Answers {T = U} y s) (sym e) (by_fault f a)
  where
    by_fault : (f : FreeFault) → Answers {T = T} (Err f) r → Answers {T = U} (Err f) s
    by_fault fault.Full a = absurd a
    by_fault (fault.Damaged at) a = go at a
    by_fault fault.File a = tt
    by_fault fault.Memory a = tt

-- ---- the block behind

pub behind_none : (d : ℕ → Option Head) (at size : ℕ) (o : Option Head) → o ≡ d (at + size) → o ≡ None → None ≡ hole_behind d at size
unfolding hole_behind
behind_none d at size o e n = sym (ap (if_short size) (sym e ∙ n))

pub behind_long : (d : ℕ → Option Head) (at size : ℕ) (o : Option Head) (h : Head) → o ≡ d (at + size) → o ≡ Some h → most_size < size + h.size → None ≡ hole_behind d at size
unfolding hole_behind
behind_long d at size o h e s lt = sym (ap (if_short size) (sym e ∙ s) ∙ ap (λ (b : Bool). if b then Some h else None) (lt-leb _ _ lt))

pub behind_some : (d : ℕ → Option Head) (at size : ℕ) (o : Option Head) (h : Head) → o ≡ d (at + size) → o ≡ Some h → size + h.size ≤ most_size → Some h ≡ hole_behind d at size
unfolding hole_behind
behind_some d at size o h e s le = sym (ap (if_short size) (sym e ∙ s) ∙ ap (λ (b : Bool). if b then Some h else None) (le-leb _ _ le))

-- ---- the first block

pub first_none : (d : ℕ → Option Head) (head : Option ℕ) (l : Linked) → l.before ≡ None → first_without d head l ≡ Ok (without_prev l.behind)
unfolding first_without
first_none d head l e = ap (first_by d head l) e

pub first_some : (d : ℕ → Option Head) (head : Option ℕ) (l : Linked) (b : Head) → l.before ≡ Some b → first_without d head l ≡ past b l.hole (block_named d None head)
unfolding first_without
first_some d head l b e = ap (first_by d head l) e

pub first_err : (d : ℕ → Option Head) (head : Option ℕ) (l : Linked) (b : Head) → l.before ≡ Some b → (p : ℕ) → block_named d None head ≡ Err p → first_without d head l ≡ Err p
first_err d head l b e p r = first_some d head l b e ∙ ap (past b l.hole) r

pub first_ok : (d : ℕ → Option Head) (head : Option ℕ) (l : Linked) (b : Head) (f : Option Head) → l.before ≡ Some b → block_named d None head ≡ Ok f → first_without d head l ≡ Ok (next_past b l.hole f)
first_ok d head l b f e r = first_some d head l b e ∙ ap (past b l.hole) r

-- ---- a block with those beside it

pub link_first : (d : ℕ → Option Head) (head : Option ℕ) (h : Head) (p : ℕ) → block_before d head h ≡ Err p → block_linked d head h ≡ Err p
unfolding block_linked
link_first d head h p e = ap (λ (x : Result (Option Head) ℕ). linked_by h x (block_named d (Some h.at) h.next)) e

pub link_second : (d : ℕ → Option Head) (head : Option ℕ) (h : Head) (b : Option Head) → block_before d head h ≡ Ok b → (p : ℕ) → block_named d (Some h.at) h.next ≡ Err p → block_linked d head h ≡ Err p
unfolding block_linked
link_second d head h b e p f = ap (λ (x : Result (Option Head) ℕ). linked_by h x (block_named d (Some h.at) h.next)) e ∙ ap (linked_by h (Ok b)) f

pub link_both : (d : ℕ → Option Head) (head : Option ℕ) (h : Head) (b c : Option Head) → block_before d head h ≡ Ok b → block_named d (Some h.at) h.next ≡ Ok c → block_linked d head h ≡ Ok (record { before = b; hole = h; behind = c })
unfolding block_linked
link_both d head h b c e f = ap (λ (x : Result (Option Head) ℕ). linked_by h x (block_named d (Some h.at) h.next)) e ∙ ap (linked_by h (Ok b)) f

-- ---- the whole

pub plan_none : (d : ℕ → Option Head) (head : Option ℕ) (at size : ℕ) (o : Option Head) → o ≡ hole_behind d at size → o ≡ None → plan_in d head at size ≡ with_joined None (block_named d None head)
unfolding plan_in
plan_none d head at size o e n = ap (plan_by d head) (sym e ∙ n)

pub plan_some : (d : ℕ → Option Head) (head : Option ℕ) (at size : ℕ) (o : Option Head) (h : Head) → o ≡ hole_behind d at size → o ≡ Some h → plan_in d head at size ≡ plan_linked d head (block_linked d head h)
unfolding plan_in
plan_some d head at size o h e s = ap (plan_by d head) (sym e ∙ s)

pub some_has : {T : Type 0} (P : T → Type 0) (o : Option T) (x : T) → IfSome o P → o ≡ Some x → P x
some_has P None x h e = absurd cc
some_has P (Some y) x h e = let same : y ≡ x = cc in subst P same h
