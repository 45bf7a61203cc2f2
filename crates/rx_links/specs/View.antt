-- The two trees, computed from the nodes.
use Rattle.std.specs.Coded.{Coded}
use Rattle.std.specs.Prelude.{◌≡◌, ℕ, zero, suc, Option, Some, None, if◌then◌else◌, refl}
use base.Stored.{Gv, gnil, gnum, gcons, num}
use mathlib.Core.Path.{ap}
use Rattle.rx_arena.specs.Nodes.{at}
use Rattle.rx_arena.specs.declared.arena.Node.{Node}
use Rattle.rx_lists.specs.Reads.{Nodes, limit, shape_of}
use Rattle.rx_lists.specs.Shapes.{Shape, none, fiber, holds}
use Rattle.rx_links.specs.Drafts.{Draft, taken, made, Trees}
use Rattle.rx_links.specs.Stands.{Roots, Shows}

module _ {F : Type 0} where
  -- a made fiber, if it has a node, with the lists from its links
  abbrev pub drafted : ℕ → Option (Node F) → (Option ℕ → Draft F) → Draft F
  drafted id None f = taken none
  drafted id (Some n) f = made id n.value n.alternate (f n.child) (f n.sibling)

  -- the draft from a link, to this depth, beside a current list
  unfoldable pub draft_of : ℕ → Nodes F → Shape F → Option ℕ → Draft F
  draft_of zero a c link = taken none
  draft_of (suc n) a c None = taken none
  draft_of (suc n) a c (Some id) =
      if holds c id then taken (shape_of (suc n) a (Some id)) else drafted id (at a id) (draft_of n a c)

  -- the two trees that the links make
  unfoldable pub trees_of : Roots F → Trees F
  trees_of t =
      let c = shape_of limit t.nodes t.current in
      record { current = c; draft = draft_of limit t.nodes c t.draft }

  -- the nodes stand for the two trees that are computed from them
  pub record IsSound (t : Roots F) : Type 0 where
    pub shows : Shows t (trees_of t)

-- the first of a pair
abbrev head : Gv → Gv
head gnil = gnil
head (gnum n) = gnil
head (gcons a b) = a

-- the second of a pair
abbrev tail : Gv → Gv
tail gnil = gnil
tail (gnum n) = gnil
tail (gcons a b) = b

-- an optional id as a number
abbrev option_code : Option ℕ → Gv
option_code None = gnil
option_code (Some i) = gnum i

pub option_one : (x y : Option ℕ) → option_code x ≡ option_code y → x ≡ y
option_one None None p = refl
option_one (Some i) (Some j) p = ap Some (ap num p)
option_one _ _ p = cc

module _ {F : Type 0} (value : Coded F) where
  -- a list of fibers as numbers
  abbrev stored : Shape F → Gv
  stored none = gnil
  stored (fiber id v ks rs) = gcons (gnum id) (gcons (value.code v) (gcons (stored ks) (stored rs)))

  pub stored_one : (x y : Shape F) → stored x ≡ stored y → x ≡ y
  stored_one none none p = refl
  stored_one (fiber id v ks rs) (fiber jd u ls ts) p =
      λ i.
      fiber (num (head (p i))) (value.inj v u (ap (λ g. head (tail g)) p) i) (stored_one ks ls (ap (λ g. head (tail (tail g))) p) i)
      (stored_one rs ts (ap (λ g. tail (tail (tail g))) p) i)
  stored_one _ _ p = cc

  -- a list in progress as numbers
  abbrev kept : Draft F → Gv
  kept (taken s) = gcons gnil (stored s)
  kept (made id v o ks rs) = gcons (gnum id) (gcons (value.code v) (gcons (option_code o) (gcons (kept ks) (kept rs))))

  pub kept_one : (x y : Draft F) → kept x ≡ kept y → x ≡ y
  kept_one (taken s) (taken t) p = λ i. taken (stored_one s t (ap tail p) i)
  kept_one (made id v o ks rs) (made jd u q ls ts) p =
      λ i.
      made (num (head (p i))) (value.inj v u (ap (λ g. head (tail g)) p) i) (option_one o q (ap (λ g. head (tail (tail g))) p) i)
      (kept_one ks ls (ap (λ g. head (tail (tail (tail g)))) p) i)
      (kept_one rs ts (ap (λ g. tail (tail (tail (tail g)))) p) i)
  kept_one _ _ p = cc

  -- both trees as numbers
  abbrev all : Trees F → Gv
  all t = gcons (stored t.current) (kept t.draft)

  pub all_one : (x y : Trees F) → all x ≡ all y → x ≡ y
  all_one x y p = λ i. record { current = stored_one x.current y.current (ap head p) i; draft = kept_one x.draft y.draft (ap tail p) i }

  -- that coding
  abbrev pub trees_code : Coded (Trees F)
  trees_code = record { code = all; inj = all_one }
