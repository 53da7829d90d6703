-- What the calls of a list leave.
use Rattle.std.proofs.Common.{◌≡◌, ℕ, ◌+◌, ◌-◌, ◌<◌, ◌≤◌, Bool, List, ◌∷◌, length, Option, Some, None, Result, Ok, refl, sym, ap, subst, ◌∙◌, arith}
use Rattle.std.specs.Prelude.{if◌then◌else◌}
use Rattle.std.proofs.lemmas.Bool.{le-leb, lt-leb}
use Rattle.myi_base.specs.Holding.{Holding, bytes_of, Told, IfTold}
use Rattle.myi_base.proofs.CallerLemmas.{told_more}
use Rattle.myi_frames.specs.Block.{IsPlace}
use Rattle.myi_dellist.specs.declared.linked.ReleasePlan.{ReleasePlan}
use Rattle.myi_dellist.specs.Areas.{Area}
use Rattle.myi_dellist.specs.Releasing.{most_size, half_size, hole_at, release_one, front_part, back_part, release, IsFreeable}
use Rattle.myi_dellist.specs.Standing.{HasList, KeepsBut, first_or, with_first, release_one_bytes, release_bytes}
use Rattle.myi_dellist.specs.Freeing.{hole_in, plan_in, plan_bytes, put_first_bytes, joined_size, first_head, two_bytes, ReleasesOne, ReleasesTwo}
use Rattle.myi_dellist.specs.FreeList.{ListState, MayRelease, Frees, Releases, IsLong, FindsAll, read_part}
use Rattle.myi_dellist.proofs.ReleasedLemmas.{release-stands, back_head, front_alone}
use Rattle.myi_dellist.proofs.PlanLemmas.{release-plans}

pub short_release : (a : Area) (holes : List Area) → a.size ≤ most_size → release a holes ≡ release_one a holes
unfolding release
short_release a holes le = ap (λ (b : Bool). if b then release_one a holes else release_one (front_part a) (release_one (back_part a) holes)) (le-leb _ _ le)

short_bytes : (a : Area) (holes : List Area) (d : List ℕ) → a.size ≤ most_size → release_bytes a holes d ≡ release_one_bytes a holes d
unfolding release_bytes
short_bytes a holes d le = ap (λ (b : Bool). if b then release_one_bytes a holes d else release_one_bytes (front_part a) (release_one (back_part a) holes) (release_one_bytes (back_part a) holes d)) (le-leb _ _ le)

pub first_one : (a : Area) (holes : List Area) → first_or (release_one a holes) None ≡ Some a.at
unfolding release_one
first_one a holes =
    let h = back_head a holes (hole_at (a.at + a.size) holes) in
    ap (λ (hs : List Area). first_or hs None) h.2 ∙ ap (λ (n : ℕ). Some n) h.3

released_first : (a : Area) (holes : List Area) → a.size ≤ most_size → first_or (release a holes) None ≡ Some a.at
released_first a holes le = ap (λ (hs : List Area). first_or hs None) (short_release a holes le) ∙ first_one a holes

long_release : (a : Area) (holes : List Area) → most_size < a.size → release a holes ≡ front_part a ∷ release_one (back_part a) holes
unfolding release
long_release a holes lt = ap (λ (b : Bool). if b then release_one a holes else release_one (front_part a) (release_one (back_part a) holes)) (lt-leb _ _ lt) ∙ (front_alone a holes lt).0

long_bytes : (a : Area) (holes : List Area) (d : List ℕ) → most_size < a.size → release_bytes a holes d ≡ with_first (front_part a) (release_one (back_part a) holes) (release_one_bytes (back_part a) holes d)
unfolding release_bytes
long_bytes a holes d lt = ap (λ (b : Bool). if b then release_one_bytes a holes d else release_one_bytes (front_part a) (release_one (back_part a) holes) (release_one_bytes (back_part a) holes d)) (lt-leb _ _ lt) ∙ (front_alone a holes lt).1 (release_one_bytes (back_part a) holes d)

frees : (k : ListState) (a : Area) (holes : List Area) (d e : List ℕ) → k.head ≡ Some a.at → first_or (release a holes) None ≡ Some a.at → IsFreeable a → a.at + a.size ≤ length d → MayRelease a holes d → HasList d holes → e ≡ release_bytes a holes d → Frees k a holes d e
frees k a holes d e head first f inside may list is =
    let r = release-stands d a holes f inside may.apart list in
    record {
      bytes = is;
      holes_are = record { head = head ∙ sym first; list = subst (λ (x : List ℕ). HasList x (release a holes)) (sym is) r.list };
      keeps = subst (λ (x : List ℕ). KeepsBut (release a holes) d x) (sym is) r.keeps;
    }

same_plan : (r : Result ReleasePlan ℕ) (p q : ReleasePlan) → r ≡ Ok p → r ≡ Ok q → p ≡ q
same_plan r p q e f = cc

-- in the words of a list
one_frees : (l k : ListState) (at size : ℕ) (m n : Holding) → k.head ≡ Some at → IsLong l m → IsPlace at size l.end → size ≤ most_size → ReleasesOne l.name l.end l.head at size m n → Releases l k (record { at = at; size = size }) m n
one_frees l k at size m n head long place le r holes has may =
    let a : Area = record { at = at; size = size } in
    let d = bytes_of l.name m in
    let one = r long in
    let plans = release-plans d a holes has.list may.behind in
    let found = ap (λ (h : Option ℕ). plan_in (hole_in d) h at size) has.head ∙ plans.found in
    let same = same_plan (plan_in (hole_in d) l.head at size) one.0 plans.plan one.1 found in
    let bytes = one.2.here ∙ ap (λ (p : ReleasePlan). plan_bytes p at size d) same ∙ plans.bytes_are d ∙ sym (short_bytes a holes d le) in
    let f : IsFreeable a = record { aligned = place.aligned; multiple = place.multiple; least = place.least; most = omega arith } in
    frees k a holes d (bytes_of l.name n) head (released_first a holes le) f (omega (arith, place.inside, long)) may has.list bytes

put_second : (f c : Area) (rest : List Area) (e : List ℕ) → put_first_bytes f (Some (first_head c (first_or rest None))) e ≡ with_first f (c ∷ rest) e
put_second f c rest e = refl

two_frees : (l k : ListState) (at size : ℕ) (m n : Holding) → k.head ≡ Some at → IsLong l m → IsPlace at size l.end → most_size < size → size ≤ half_size + most_size → ReleasesTwo l.name l.end l.head at size m n → Releases l k (record { at = at; size = size }) m n
two_frees l k at size m n head long place lt most r holes has may =
    let a : Area = record { at = at; size = size } in
    let b = back_part a in
    let d = bytes_of l.name m in
    let two = r long in
    let stop : b.at + b.size ≡ at + size = omega arith in
    let none : hole_at (b.at + b.size) holes ≡ None → hole_in d (b.at + b.size) ≡ None = subst (λ (q : ℕ). hole_at q holes ≡ None → hole_in d q ≡ None) (sym stop) may.behind in
    let plans = release-plans d b holes has.list none in
    let found = ap (λ (h : Option ℕ). plan_in (hole_in d) h b.at b.size) has.head ∙ plans.found in
    let same = same_plan (plan_in (hole_in d) l.head b.at b.size) two.0 plans.plan two.1 found in
    let c : Area = record { at = b.at; size = joined_size b.size plans.plan.joined } in
    let bytes = two.2.here ∙ ap (λ (p : ReleasePlan). two_bytes p at size d) same
    ∙ ap (λ (o : Option ℕ). put_first_bytes (front_part a) (Some (first_head c o)) (plan_bytes plans.plan b.at b.size d)) plans.next
    ∙ ap (λ (x : List ℕ). put_first_bytes (front_part a) (Some (first_head c (first_or plans.rest None))) x) (plans.bytes_are d)
    ∙ put_second (front_part a) c plans.rest (release_one_bytes b holes d)
    ∙ ap (λ (hs : List Area). with_first (front_part a) hs (release_one_bytes b holes d)) (sym plans.shape)
    ∙ sym (long_bytes a holes d lt) in
    let f : IsFreeable a = record { aligned = place.aligned; multiple = place.multiple; least = place.least; most = most } in
    let first = ap (λ (hs : List Area). first_or hs None) (long_release a holes lt) in
    frees k a holes d (bytes_of l.name n) head first f (omega (arith, place.inside, long)) may has.list bytes

-- ---- as told

-- what a call was handed is what the list says
pub record IsOf (l : ListState) (name : List ℕ) (end : ℕ) (head : Option ℕ) : Type 0 where
  pub name_is : name ≡ l.name
  pub end_is : end ≡ l.end
  pub head_is : head ≡ l.head

pub moved : (P : List ℕ → ℕ → Option ℕ → Type 0) (l : ListState) (name : List ℕ) (end : ℕ) (head : Option ℕ) → IsOf l name end head → P name end head → P l.name l.end l.head
moved P l name end head o t =
    subst (λ (x : List ℕ). P x l.end l.head) o.name_is (subst (λ (x : ℕ). P name x l.head) o.end_is (subst (λ (x : Option ℕ). P name end x) o.head_is t))

pub told_one : (old new : Option Holding) (l k : ListState) (name : List ℕ) (end : ℕ) (head : Option ℕ) (at size : ℕ) → IsOf l name end head → k.head ≡ Some at → IfTold old (IsLong l) → IsPlace at size l.end → size ≤ most_size → Told old new (ReleasesOne name end head at size) → Told old new (Releases l k (record { at = at; size = size }))
told_one old new l k name end head at size o kh long place le t =
    told_more old new (ReleasesOne l.name l.end l.head at size) (Releases l k (record { at = at; size = size })) (moved (λ n e h. Told old new (ReleasesOne n e h at size)) l name end head o t) (λ m n held r. one_frees l k at size m n kh (long m held) place le r)

pub told_two : (old new : Option Holding) (l k : ListState) (name : List ℕ) (end : ℕ) (head : Option ℕ) (at size : ℕ) → IsOf l name end head → k.head ≡ Some at → IfTold old (IsLong l) → IsPlace at size l.end → most_size < size → size ≤ half_size + most_size → Told old new (ReleasesTwo name end head at size) → Told old new (Releases l k (record { at = at; size = size }))
told_two old new l k name end head at size o kh long place lt most t =
    told_more old new (ReleasesTwo l.name l.end l.head at size) (Releases l k (record { at = at; size = size })) (moved (λ n e h. Told old new (ReleasesTwo n e h at size)) l name end head o t) (λ m n held r. two_frees l k at size m n kh (long m held) place lt most r)

short_part : (at size : ℕ) → size ≤ most_size → read_part (record { at = at; size = size }) ≡ record { at = at; size = size }
short_part at size le = ap (λ (b : Bool). if b then area at size else back_part (area at size)) (le-leb _ _ le)
  where
    area : ℕ → ℕ → Area
    area at size = record { at = at; size = size }

long_part : (at size : ℕ) → most_size < size → read_part (record { at = at; size = size }) ≡ record { at = at + half_size; size = size - half_size }
long_part at size lt = ap (λ (b : Bool). if b then area at size else back_part (area at size)) (lt-leb _ _ lt)
  where
    area : ℕ → ℕ → Area
    area at size = record { at = at; size = size }

one_found : (l : ListState) (at size : ℕ) (m : Holding) (p : ReleasePlan) → size ≤ most_size → plan_in (hole_in (bytes_of l.name m)) l.head at size ≡ Ok p → FindsAll l (record { at = at; size = size }) m
one_found l at size m p le e = (p, ap (λ (a : Area). plan_in (hole_in (bytes_of l.name m)) l.head a.at a.size) (short_part at size le) ∙ e)

two_found : (l : ListState) (at size : ℕ) (m : Holding) (p : ReleasePlan) → most_size < size → plan_in (hole_in (bytes_of l.name m)) l.head (at + half_size) (size - half_size) ≡ Ok p → FindsAll l (record { at = at; size = size }) m
two_found l at size m p lt e = (p, ap (λ (a : Area). plan_in (hole_in (bytes_of l.name m)) l.head a.at a.size) (long_part at size lt) ∙ e)

pub finds_one : (old new : Option Holding) (l : ListState) (name : List ℕ) (end : ℕ) (head : Option ℕ) (at size : ℕ) → IsOf l name end head → IfTold old (IsLong l) → size ≤ most_size → Told old new (ReleasesOne name end head at size) → IfTold old (FindsAll l (record { at = at; size = size }))
finds_one old new l name end head at size o long le t m held =
    let r = (moved (λ n e h. Told old new (ReleasesOne n e h at size)) l name end head o t).told m held in
    let p = r.2 (long m held) in
    one_found l at size m p.0 le p.1

pub finds_two : (old new : Option Holding) (l : ListState) (name : List ℕ) (end : ℕ) (head : Option ℕ) (at size : ℕ) → IsOf l name end head → IfTold old (IsLong l) → most_size < size → Told old new (ReleasesTwo name end head at size) → IfTold old (FindsAll l (record { at = at; size = size }))
finds_two old new l name end head at size o long lt t m held =
    let r = (moved (λ n e h. Told old new (ReleasesTwo n e h at size)) l name end head o t).told m held in
    let p = r.2 (long m held) in
    two_found l at size m p.0 lt p.1
