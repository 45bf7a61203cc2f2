-- How hosts are linked: each to its parent and its neighbours, and a parent to its first and last child.
use Rattle.std.specs.Prelude.{◌≡◌, ℕ, zero, suc, Bool, true, false, List, [], ◌∷◌, Option, Some, None, nat_eq, if◌then◌else◌}
use Rattle.rx_forest.specs.Forests.{is_among}

-- the links of each number; no link is `None`
pub record Links : Type 0 where
  pub parent : ℕ → Option ℕ
  pub before : ℕ → Option ℕ
  pub after : ℕ → Option ℕ
  pub first : ℕ → Option ℕ
  pub last : ℕ → Option ℕ

-- two links lead to the same number, or neither leads anywhere
abbrev pub same_link : Option ℕ → Option ℕ → Bool
same_link None None = true
same_link (Some m) (Some n) = nat_eq m n
same_link None (Some n) = false
same_link (Some m) None = false

-- what stands behind a number in a list, or first in it, if this is what stands before the list
abbrev pub behind_from : (start : Option ℕ) → List ℕ → Option ℕ → Option ℕ
behind_from start [] link = None
behind_from start (m ∷ ms) link = if same_link link start then Some m else behind_from (Some m) ms link

-- what stands before a number in a list, or last in it, if this is what stands before the list
abbrev pub ahead_from : (start : Option ℕ) → List ℕ → Option ℕ → Option ℕ
ahead_from start [] link = start
ahead_from start (m ∷ ms) link = if same_link link (Some m) then start else ahead_from (Some m) ms link

-- what stands behind a number in a list, or, behind no number, first in it
abbrev pub behind : List ℕ → Option ℕ → Option ℕ
behind ms link = behind_from None ms link

-- what stands before a number in a list, or, before no number, last in it
abbrev pub ahead : List ℕ → Option ℕ → Option ℕ
ahead ms link = ahead_from None ms link

-- the children of a parent, if there is one
abbrev pub siblings : (children : ℕ → List ℕ) → (parent : Option ℕ) → List ℕ
siblings children None = []
siblings children (Some p) = children p

-- a link leads to this number
abbrev pub leads_to : ℕ → Option ℕ → Bool
leads_to p None = false
leads_to p (Some q) = nat_eq p q

-- each number stands in a list once
abbrev pub AreDistinct : List ℕ → Type 0
AreDistinct [] = Unit {0}
AreDistinct (n ∷ ns) = (is_among ns n ≡ false) × AreDistinct ns

-- a link leads to one of these, or nowhere
abbrev pub is_within : List ℕ → Option ℕ → Bool
is_within ms None = true
is_within ms (Some n) = is_among ms n

-- what stands before a child of a parent, or is last, by its link
abbrev pub link_ahead : Links → (parent : ℕ) → (child : Option ℕ) → Option ℕ
link_ahead links p None = links.last p
link_ahead links p (Some n) = links.before n

-- The links are those of these children: each number is among those of its parent alone and once, and is linked to its neighbours there.
pub record IsLinked (links : Links) (children : ℕ → List ℕ) : Type 0 where
  pub distinct : (p : ℕ) → AreDistinct (children p)
  pub members : (p n : ℕ) → is_among (children p) n ≡ leads_to p (links.parent n)
  pub first : (p : ℕ) → links.first p ≡ behind (children p) None
  pub last : (p : ℕ) → links.last p ≡ ahead (children p) None
  pub before : (n : ℕ) → links.before n ≡ ahead (siblings children (links.parent n)) (Some n)
  pub after : (n : ℕ) → links.after n ≡ behind (siblings children (links.parent n)) (Some n)

-- as many numbers as this, from a link on
abbrev pub walk : (after : ℕ → Option ℕ) → (bound : ℕ) → Option ℕ → List ℕ
walk after zero link = []
walk after (suc k) None = []
walk after (suc k) (Some n) = n ∷ walk after k (after n)

-- the children that the links lead through, at most this many
unfoldable pub linked_children : Links → (bound : ℕ) → ℕ → List ℕ
linked_children links bound p = walk links.after bound (links.first p)

-- What the steps of a change make of the links

-- a number's link is this one
abbrev pub put : (ℕ → Option ℕ) → ℕ → Option ℕ → ℕ → Option ℕ
put f n link m = if nat_eq m n then link else f m

-- what stands behind a child of a parent, or first, is this
abbrev pub with_behind : Links → (parent : ℕ) → (child link : Option ℕ) → Links
with_behind links p None link = record links { first = put links.first p link }
with_behind links p (Some n) link = record links { after = put links.after n link }

-- what stands before a child of a parent, or last, is this
abbrev pub with_ahead : Links → (parent : ℕ) → (child link : Option ℕ) → Links
with_ahead links p None link = record links { last = put links.last p link }
with_ahead links p (Some n) link = record links { before = put links.before n link }

-- a number stands there
abbrev pub with_place : Links → (host : ℕ) → (parent before after : Option ℕ) → Links
with_place links n parent before after =
    record links { parent = put links.parent n parent; before = put links.before n before; after = put links.after n after }
