-- Which instances are calm can be told by lanes: no update of theirs that waits has a lane of the render, and after a commit no update of a visible instance is owed.
use Rattle.std.specs.List.{list_any}
use Rattle.std.specs.Prelude.{Bool, List, [], false, if◌then◌else◌, map, nat_lt, not, refl, true, ℕ, ◌&&◌, ◌||◌, ◌∷◌, ◌≡◌}
use Rattle.rx_meaning.specs.Fresh.{Sight}
use Rattle.rx_queue.specs.History.{stands_done, stands_owed}
use Rattle.rx_queue.specs.Journal.{Posted, belongs_to, is_included, is_resource, marked_update}
use Rattle.rx_queue.specs.declared.entry.Standing.{Standing}
use Rattle.rx_queue.specs.declared.entry.Standing.TheVariants.{Done, Open, Owed}
use Rattle.rx_meaning.specs.Again.{AccountedBefore, IsFreeOf, NoneOwed}
use Rattle.rx_lane.specs.Lanes as lanes_of

one_free : (x l b : Bool) (st : Standing) → (b ≡ true → (stands_owed st ≡ false) × (stands_done st ≡ false → l ≡ false))
    → ((x && (stands_done st || stands_owed st || l)) && (not (stands_done st) && b)) ≡ false
one_free true l b Done h = refl
one_free false l b Done h = refl
one_free true l true Owed h = absurd (cc (h refl).0)
one_free true l false Owed h = refl
one_free false l b Owed h = refl
one_free true true true Open h = absurd (cc ((h refl).1 refl))
one_free true true false Open h = refl
one_free true false b Open h = refl
one_free false l b Open h = refl

-- no included update of theirs isn't done
pub free_is_calm : (s : Sight) (set : List ℕ) (us : List Posted) → IsFreeOf s.lanes set us
    → list_any (λ u. is_included s.lanes s.cut u && (not (stands_done u.standing) && belongs_to set u.target)) us ≡ false
free_is_calm s set [] h = refl
free_is_calm s set (u ∷ us) h =
    rw (one_free (nat_lt u.update.number s.cut.updates) (lanes_of.has s.lanes u.update.lane) (belongs_to set u.target) u.standing h.0, free_is_calm s set us h.1) refl

one_owed : (x l k r : Bool) (st : Standing) → (stands_owed st ≡ true → x ≡ true) → (v : Bool) → v ≡ true
    → stands_owed (if (x && (stands_done st || stands_owed st || l)) && (v || r) then Done else if x && (not (stands_done st) && (l && k)) then Owed else st) ≡ false
one_owed x l k r st h false e = absurd (cc e)
one_owed true l k r Done h true e = refl
one_owed false l k r Done h true e = refl
one_owed true l k r Owed h true e = refl
one_owed false l k r Owed h true e = absurd (cc (h refl))
one_owed true true k r Open h true e = refl
one_owed true false k r Open h true e = refl
one_owed false l k r Open h true e = refl

pub none_owed : (s : Sight) (visible kept : List ℕ) (us : List Posted) → AccountedBefore s.cut us → NoneOwed visible (map (marked_update s.lanes s.cut visible kept) us)
none_owed s visible kept [] a = tt
none_owed s visible kept (u ∷ us) a = (
  one_owed (nat_lt u.update.number s.cut.updates) (lanes_of.has s.lanes u.update.lane) (belongs_to kept u.target) (is_resource u.target) u.standing a.0.1 (belongs_to visible u.target),
  none_owed s visible kept us a.1,
)
