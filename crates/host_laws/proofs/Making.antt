-- Operations that can be made, one after another: removals, creations, contents and marks.
use Rattle.std.specs.Prelude.{◌≡◌, ℕ, Bool, true, false, cond, not, ◌||◌, List, [], ◌∷◌, ◌++◌, Option, Some, None, flat_map, is_some, map, nat_eq, option_map, bytes_eq, refl, if◌then◌else◌}
use Rattle.std.specs.List.{AllByRecursion}
use Rattle.std.specs.Option.{option_map_or}
use Rattle.std.proofs.Common.{sym, ap, subst, inl, inr, ◌∙◌}
use Rattle.std.proofs.lemmas.Bool.Decides.{Decides-eqb}
use Rattle.rx_base.specs.Values.{Name}
use Rattle.rx_elem.specs.declared.attr.Attr.{Attr}
use Rattle.rx_elem.specs.declared.attr.AttrValue.{AttrValue}
use Rattle.rx_forest.specs.declared.op.HostOp.{HostOp}
use Rattle.rx_forest.specs.declared.op.HostOp.TheVariants as op
use Rattle.rx_forest.specs.Hosts.{Host, Content, host_numbered, has_host}
use Rattle.rx_forest.specs.Hosts as hosts
use Rattle.rx_forest.specs.HostOps.{attr_ops, content_ops, creation, hiding_ops}
use Rattle.rx_forest.specs.Forests.{HostForest, Held, Body, tag, letters, forest_of, held_of, with_held, with_body, with_value, is_tag, is_held, holds_tag, is_among, Replays, CanBeReplayed}
use Rattle.host_laws.specs.Related.{AreDistinct, ParentsFirst, GoneBelow, AreAlike, is_element}
use Rattle.host_laws.proofs.Placing.{neither}
use Rattle.host_laws.proofs.OneResult.{becomes_once, removed_once}
use Rattle.host_laws.proofs.Contents.{embodied, going, coming, unset_all, unsets}
use Rattle.host_laws.proofs.Removals.{Notes, cut, removes_one, NumbersApart, gone_parts, or_right, either}
use Rattle.host_laws.proofs.Between.{creation_if}

-- One list of operations after another

pub can_append : (xs ys : List HostOp) (f g : HostForest) → Replays f xs g → CanBeReplayed f xs → CanBeReplayed g ys → CanBeReplayed f (xs ++ ys)
can_append [] ys f g r can later = subst (λ g. CanBeReplayed g ys) r later
can_append (x ∷ xs) ys f g r can later = (
  can.0,
  λ h b.
      let same : r.0 ≡ h = becomes_once f x r.0 h r.1 b in
      can_append xs ys h g (subst (λ k. Replays k xs g) same r.2) (can.1 h b) later,
)

-- Removals

numbered_there : (hs : List Host) (n : ℕ) → has_host hs n ≡ true → is_some (host_numbered hs n) ≡ true
numbered_there [] n h = absurd (cc)
numbered_there (g ∷ hs) n h = go (nat_eq g.number n) (numbered_there hs n) h
  where
    go : (b : Bool) → (has_host hs n ≡ true → is_some (host_numbered hs n) ≡ true) → (b || has_host hs n) ≡ true
        → is_some (cond b (Some g) (host_numbered hs n)) ≡ true
    go true rest k = refl
    go false rest k = rest k

mapped_there : (o : Option Host) → is_some o ≡ true → is_some (option_map held_of o) ≡ true
mapped_there None h = absurd (cc)
mapped_there (Some g) h = refl

pub removals_made : (old new : List Host) (note : ℕ → Option ℕ) → Notes old new note → ParentsFirst old → GoneBelow old new → (done rs : List ℕ)
    → ((m : ℕ) → is_among done m ≡ true → note m ≡ Some m) → ((m : ℕ) → is_among rs m ≡ true → note m ≡ Some m)
    → ((m : ℕ) → is_among done m ≡ true → is_among rs m ≡ true → ⊥) → NumbersApart rs → CanBeReplayed (cut note done (forest_of old)) (map op.Remove rs)
removals_made old new note n first closed done [] selves more apart d = tt
removals_made old new note n first closed done (r ∷ rs) selves more apart d = (
  held,
  λ g b.
      let same : cut note (r ∷ done) (forest_of old) ≡ g =
      removed_once (cut note done (forest_of old)) r (cut note (r ∷ done) (forest_of old)) g
      (removes_one old new note n first closed done r (not_done (is_among done r) refl) selves start) b in
      subst (λ g. CanBeReplayed g (map op.Remove rs)) same
      (removals_made old new note n first closed (r ∷ done) rs selves' (λ m k. more m (or_right (nat_eq m r) _ k)) apart' d.1),
)
  where
    self : nat_eq r r ≡ true
    self = (Decides-eqb r r).1 refl

    start : note r ≡ Some r
    start = more r (ap (λ b. b || is_among rs r) self)

    not_done : (b : Bool) → is_among done r ≡ b → b ≡ false
    not_done true e = absurd (apart r e (ap (λ b. b || is_among rs r) self))
    not_done false e = refl

    held : is_held (cut note done (forest_of old)) r ≡ true
    held =
        let out : is_among done r ≡ false = not_done (is_among done r) refl in
        let was : has_host old r ≡ true = (gone_parts (has_host old r) (has_host new r) (n.gone r r start)).0 in
        rw (start, out) (mapped_there (host_numbered old r) (numbered_there old r was))

    selves' : (m : ℕ) → is_among (r ∷ done) m ≡ true → note m ≡ Some m
    selves' m k = elim (either (nat_eq m r) (is_among done m) k) [
      | inl e ↦ let same : m ≡ r = (Decides-eqb m r).0 e in ap note same ∙ start ∙ ap Some (sym same)
      | inr e ↦ selves m e
    ]

    apart' : (m : ℕ) → is_among (r ∷ done) m ≡ true → is_among rs m ≡ true → ⊥
    apart' m k l = elim (either (nat_eq m r) (is_among done m) k) [
      | inl e ↦ let same : m ≡ r = (Decides-eqb m r).0 e in absurd (cc (ap (is_among rs) same, d.0))
      | inr e ↦ apart m e (or_right (nat_eq m r) _ l)
    ]

-- Operations that change one host each

-- what is said of what is held of each host
abbrev pub EachHeld : (Host → Option Held → Type 0) → HostForest → List Host → Type 0
EachHeld P f hs = AllByRecursion (λ h. P h (f.held h.number)) hs

other_held : (P : Host → Option Held → Type 0) (f : HostForest) (n : ℕ) (change : Option Held → Option Held) (hs : List Host) → has_host hs n ≡ false → EachHeld P f hs
    → EachHeld P (with_held f n change) hs
other_held P f n change [] o h = tt
other_held P f n change (g ∷ hs) o h =
    let parts : (nat_eq g.number n ≡ false) × (has_host hs n ≡ false) = neither _ _ o in
    (rw parts.0 h.0, other_held P f n change hs parts.1 h.1)

pub changes_made : (ops : Host → List HostOp) (change : Host → Option Held → Option Held) (P : Host → Option Held → Type 0)
    → ((h : Host) (f : HostForest) → Replays f (ops h) (with_held f h.number (change h)))
    → ((h : Host) (f : HostForest) → P h (f.held h.number) → CanBeReplayed f (ops h))
    → (hs : List Host) → AreDistinct hs → (f : HostForest) → EachHeld P f hs → CanBeReplayed f (flat_map ops hs)
changes_made ops change P each can [] d f h = tt
changes_made ops change P each can (g ∷ hs) d f h =
    can_append (ops g) (flat_map ops hs) f (with_held f g.number (change g)) (each g f) (can g f h.0)
    (changes_made ops change P each can hs d.1 (with_held f g.number (change g)) (other_held P f g.number (change g) hs d.0 h.1))

-- Creations

-- a host that is made isn't held yet, and isn't the container
abbrev pub IsNew : List Host → Host → Option Held → Type 0
IsNew old h x = (nat_eq h.number 0 ≡ false) × (has_host old h.number ≡ false → x ≡ None)

pub creation_made : (old : List Host) (h : Host) (f : HostForest) → IsNew old h (f.held h.number) → CanBeReplayed f (creation_if old h)
creation_made old h f new = go (has_host old h.number) refl
  where
    one : (c : Content) → f.held h.number ≡ None → CanBeReplayed f (creation h.number c ∷ [])
    one (hosts.tag name attrs) e = (rw (new.0, e) refl, λ g b. tt)
    one (hosts.letters t) e = (rw (new.0, e) refl, λ g b. tt)

    go : (b : Bool) → has_host old h.number ≡ b → CanBeReplayed f (if b then [] else creation h.number h.content ∷ [])
    go true e = tt
    go false e = one h.content (new.1 e)

-- Contents

-- what is held is an element or a text, as a content
abbrev pub IsHeldAs : Content → Option Held → Type 0
IsHeldAs c x = (y : Held) × (x ≡ Some y) × (is_tag y.body ≡ is_element c)

tag_stays : (name : Name) (v : Option AttrValue) (b : Body) → is_tag b ≡ true → is_tag (with_value name v b) ≡ true
tag_stays name v (tag n values) h = refl
tag_stays name v (letters t) h = absurd (cc)

still_tag : (f : HostForest) (n : ℕ) (name : Name) (v : Option AttrValue) → holds_tag f n ≡ true → holds_tag (embodied f n (with_value name v)) n ≡ true
still_tag f n name v h = rw ((Decides-eqb n n).1 refl) (go (f.held n) h)
  where
    go : (o : Option Held) → option_map_or (λ h. is_tag h.body) o false ≡ true → option_map_or (λ h. is_tag h.body) (option_map (with_body (with_value name v)) o) false ≡ true
    go None k = absurd (cc)
    go (Some y) k = tag_stays name v y.body k

unsets_made : (n : ℕ) (attrs : List Attr) (f : HostForest) → holds_tag f n ≡ true → CanBeReplayed f (map (λ a. op.UnsetAttr n a.name) attrs)
unsets_made n [] f h = tt
unsets_made n (a ∷ attrs) f h = (
  h,
  λ g b. subst (λ g. CanBeReplayed g (map (λ a. op.UnsetAttr n a.name) attrs)) (sym b)
      (unsets_made n attrs (embodied f n (with_value a.name None)) (still_tag f n a.name None h)),
)

sets_made : (n : ℕ) (attrs : List Attr) (f : HostForest) → holds_tag f n ≡ true → CanBeReplayed f (map (λ a. op.SetAttr n a.name a.value) attrs)
sets_made n [] f h = tt
sets_made n (a ∷ attrs) f h = (
  h,
  λ g b. subst (λ g. CanBeReplayed g (map (λ a. op.SetAttr n a.name a.value) attrs)) (sym b)
      (sets_made n attrs (embodied f n (with_value a.name (Some a.value))) (still_tag f n a.name (Some a.value) h)),
)

still_tag_all : (n : ℕ) (attrs : List Attr) (f : HostForest) → holds_tag f n ≡ true → holds_tag (embodied f n (unset_all attrs)) n ≡ true
still_tag_all n attrs f h = rw ((Decides-eqb n n).1 refl) (go (f.held n) h)
  where
    all : (attrs : List Attr) (b : Body) → is_tag b ≡ true → is_tag (unset_all attrs b) ≡ true
    all [] b k = k
    all (a ∷ attrs) b k = all attrs (with_value a.name None b) (tag_stays a.name None b k)

    go : (o : Option Held) → option_map_or (λ h. is_tag h.body) o false ≡ true → option_map_or (λ h. is_tag h.body) (option_map (with_body (unset_all attrs)) o) false ≡ true
    go None k = absurd (cc)
    go (Some y) k = all attrs y.body k

attrs_made : (n : ℕ) (old new : List Attr) (f : HostForest) → holds_tag f n ≡ true → CanBeReplayed f (attr_ops n old new)
attrs_made n old new f h =
    can_append (map (λ a. op.UnsetAttr n a.name) (going old new)) (map (λ a. op.SetAttr n a.name a.value) (coming old new)) f
    (embodied f n (unset_all (going old new))) (unsets n (going old new) f) (unsets_made n (going old new) f h)
    (sets_made n (coming old new) (embodied f n (unset_all (going old new))) (still_tag_all n (going old new) f h))

pub contents_made : (n : ℕ) (c d : Content) (f : HostForest) → AreAlike c d → IsHeldAs c (f.held n) → CanBeReplayed f (content_ops n c d)
contents_made n (hosts.tag m old) (hosts.tag name new) f alike held = attrs_made n old new f (rw held.1 held.2)
contents_made n (hosts.letters s) (hosts.letters t) f alike held = go (bytes_eq s t)
  where
    go : (b : Bool) → CanBeReplayed f (if b then [] else op.SetText n t ∷ [])
    go true = tt
    go false = (rw held.1 (ap not held.2), λ g b. tt)
contents_made n (hosts.tag m old) (hosts.letters t) f alike held = tt
contents_made n (hosts.letters s) (hosts.tag name new) f alike held = tt

-- Marks

pub marks_made : (before after : Bool) (n : ℕ) (f : HostForest) → is_held f n ≡ true → CanBeReplayed f (hiding_ops n before after)
marks_made false true n f h = (h, λ g b. tt)
marks_made true false n f h = (h, λ g b. tt)
marks_made false false n f h = tt
marks_made true true n f h = tt
