-- Each instance of a new tree is new, or the old tree has it.
use Rattle.std.specs.Prelude.{◌≡◌, ◌≤◌, ◌⊎◌, ℕ, zero, suc, ℤ, List, Bool, true, false, Option, Some, refl}
use Rattle.std.proofs.Common.{inl, inr, ap, ◌∙◌, subst}
use Rattle.rx_elem.specs.Numbers.{Numbers, numbered}
use Rattle.rx_elem.specs.Spots.{Mounted}
use Rattle.rx_elem.specs.Trees.{Node}
use Rattle.rx_meaning.specs.Fresh.{Sight, fresh, made}
use Rattle.rx_meaning.specs.Counts.{each_unit, whole}
use Rattle.rx_meaning.specs.Cursor.{Cursor, after, at_end, at_place, ended}
use Rattle.render_laws.proofs.Counting.{whole_gives_fresh}
use Rattle.draw_laws.specs.Made.{BeginsMeeting, EachMounted, InstancesMade, IsNewOrMeets, MountedMeets}
use Rattle.draw_laws.proofs.MadeTrees.{numbered_made, old_from}
use Rattle.draw_laws.proofs.Making.{place_meets, start_makes, unit_makes}

-- what holds of each instance of the old tree holds of each one that a render gives, but for the new ones
module _ (R : ℕ → List ℤ → Type 0) where
  -- the old instance of a place is one of the old tree
  begins_meeting : (c : Cursor) → InstancesMade R R c → BeginsMeeting R c
  begins_meeting (at_place n fs cs e old) h = λ c i k component at is. place_meets R R n fs cs e old i k h at is
  begins_meeting (at_end n fs o done) h = tt
  begins_meeting (ended p) h = tt

  -- it holds after so many units, and so of a whole render
  after_makes : (k : ℕ) (s : Sight) (old : Option Node) → InstancesMade R R (after zero s old) → InstancesMade R R (after k s old)
  after_makes zero s old h = h
  after_makes (suc k) s old h = let so_far = after_makes k s old h in unit_makes R R s (after k s old) (begins_meeting (after k s old) so_far) so_far

  whole_makes : (s : Sight) (old : Option Node) (new : Node) → EachMounted (λ (m : Mounted). R m.number m.initials) old → fresh s old ≡ made new
      → InstancesMade R R (ended (made new))
  whole_makes s old new h gives =
      subst (λ c. InstancesMade R R c) (whole_gives_fresh s old ∙ ap ended gives) (after_makes (whole each_unit s old) s old (start_makes R R s old (old_from R old h)))

  -- it meets the one test or the other, which are the same
  either_meets : (m : Mounted) → MountedMeets R R m → R m.number m.initials
  either_meets m h = go m.visible refl
    where
      go : (v : Bool) → m.visible ≡ v → R m.number m.initials
      go true is = h.where_visible is
      go false is = h.where_hidden is

  -- or the instance is new
  new_or_meets : (next : ℕ) (m : Mounted) → IsNewOrMeets next R R m → (next ≤ m.number) ⊎ R m.number m.initials
  new_or_meets next m (inl new) = inl new
  new_or_meets next m (inr h) = inr (either_meets m h)

  -- each instance of the new tree has a number from the next one on, or the old tree has it
  pub new_or_old : (s : Sight) (old : Option Node) (new : Node) (next : Numbers) → EachMounted (λ (m : Mounted). R m.number m.initials) old → fresh s old ≡ made new
      → EachMounted (λ (m : Mounted). (next.instance ≤ m.number) ⊎ R m.number m.initials) (Some (numbered next new).1)
  new_or_old s old new next h gives k m at = new_or_meets next.instance m (numbered_made R R new next (whole_makes s old new h gives) k m at)
