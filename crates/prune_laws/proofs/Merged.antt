-- Two lists of hosts, each without some that are in both: the operations between the lists are those between what is left.
use Rattle.std.specs.Prelude.{◌≡◌, ℕ, Bool, true, false, cond, not, ◌&&◌, ◌||◌, ◌⊎◌, List, [], ◌∷◌, ◌++◌, Some, None, filter, flat_map, map, is_none, nat_eq, bytes_eq, refl}
use Rattle.std.specs.List.{AllByRecursion}
use Rattle.std.specs.Option.{option_map_or}
use Rattle.std.proofs.Common.{sym, ◌∙◌, ap, subst, arith, inl, inr}
use Rattle.std.proofs.lemmas.Bool.Decides.{nat_tests, Decides-eqb, Decides-int_eq}
use Rattle.std.proofs.lemmas.Option.{none-some}
use Rattle.std.proofs.lemmas.Slice.Eq.{bytes_eq-Decides}
use Rattle.rx_elem.specs.Elements.{same_value}
use Rattle.rx_elem.specs.declared.attr.Attr.{Attr}
use Rattle.rx_elem.specs.declared.attr.AttrValue.{AttrValue}
use Rattle.rx_elem.specs.declared.attr.AttrValue.TheVariants.{Number, Text}
use Rattle.rx_forest.specs.Hosts.{Host, Content, host_numbered, has_host}
use Rattle.rx_forest.specs.Hosts as hosts
use Rattle.rx_forest.specs.HostOps.{is_gone, goes_with_parent, removals, creation, creations, placements, attr_named, has_attr, attr_ops, bare, content_ops, contents, hiding_ops, hidings, ops_between}
use Rattle.rx_forest.specs.declared.op.HostOp.TheVariants as op
use Rattle.host_laws.specs.Related.{AreDistinct, HaveOwnNames, AreAlike, KeepKinds, old_content}
use Rattle.host_laws.proofs.Placing.{neither}
use Rattle.host_laws.proofs.Placements.{other_number}

-- What is in a list

-- this is in the list
abbrev pub IsIn : {X : Type 0} → X → List X → Type 0
IsIn x [] = ⊥
IsIn x (y ∷ ys) = (y ≡ x) ⊎ IsIn x ys

pub in_left : {X : Type 0} (x : X) (ys zs : List X) → IsIn x ys → IsIn x (ys ++ zs)
in_left x [] zs i = absurd i
in_left x (y ∷ ys) zs (inl e) = inl e
in_left x (y ∷ ys) zs (inr i) = inr (in_left x ys zs i)

pub in_right : {X : Type 0} (x : X) (ys zs : List X) → IsIn x zs → IsIn x (ys ++ zs)
in_right x [] zs i = i
in_right x (y ∷ ys) zs i = inr (in_right x ys zs i)

pub in_either : {X : Type 0} (x : X) (ys zs : List X) → IsIn x (ys ++ zs) → IsIn x ys ⊎ IsIn x zs
in_either x [] zs i = inr i
in_either x (y ∷ ys) zs (inl e) = inl (inl e)
in_either x (y ∷ ys) zs (inr i) = elim (in_either x ys zs i) [ inl j ↦ inl (inr j) | inr j ↦ inr j ]

of_all : {X : Type 0} (P : X → Type 0) (xs : List X) (x : X) → AllByRecursion P xs → IsIn x xs → P x
of_all P [] x a i = absurd i
of_all P (y ∷ ys) x a (inl e) = subst P e a.0
of_all P (y ∷ ys) x a (inr i) = of_all P ys x a.1 i

none_passes : {X : Type 0} (p : X → Bool) (xs : List X) → ((x : X) → IsIn x xs → p x ≡ false) → filter p xs ≡ []
none_passes p [] h = refl
none_passes p (x ∷ xs) h = rw (h x (inl refl)) (none_passes p xs (λ y i. h y (inr i)))

-- A list without some of its hosts

-- a list is merged of the hosts that are kept and those that are left out
pub data Merged : (kept left whole : List Host) → Type 0 where
  ended : Merged [] [] []
  keep : (h : Host) {ks ls hs : List Host} → Merged ks ls hs → Merged (h ∷ ks) ls (h ∷ hs)
  leave : (h : Host) {ks ls hs : List Host} → Merged ks ls hs → Merged ks (h ∷ ls) (h ∷ hs)

pub merged-append : {ks ls hs ms ns gs : List Host} → Merged ks ls hs → Merged ms ns gs → Merged (ks ++ ms) (ls ++ ns) (hs ++ gs)
merged-append ended n = n
merged-append (keep h m) n = keep h (merged-append m n)
merged-append (leave h m) n = leave h (merged-append m n)

pub all_kept : (hs : List Host) → Merged hs [] hs
all_kept [] = ended
all_kept (h ∷ hs) = keep h (all_kept hs)

pub all_left : (hs : List Host) → Merged [] hs hs
all_left [] = ended
all_left (h ∷ hs) = leave h (all_left hs)

-- what is left out of a list is in it
pub left_in : {ks ls hs : List Host} → Merged ks ls hs → (g : Host) → IsIn g ls → IsIn g hs
left_in ended g i = absurd i
left_in (keep h m) g i = inr (left_in m g i)
left_in (leave h m) g (inl e) = inl e
left_in (leave h m) g (inr i) = inr (left_in m g i)

-- a number is that of a host that is kept or of one that is left out
has_merged : {ks ls hs : List Host} → Merged ks ls hs → (n : ℕ) → has_host hs n ≡ (has_host ks n || has_host ls n)
has_merged ended n = refl
has_merged (keep h {ks} {ls} {hs} m) n = ap (λ b. nat_eq h.number n || b) (has_merged m n) ∙ go (nat_eq h.number n)
  where
    go : (b : Bool) → (b || (has_host ks n || has_host ls n)) ≡ ((b || has_host ks n) || has_host ls n)
    go true = refl
    go false = refl
has_merged (leave h {ks} {ls} {hs} m) n = ap (λ b. nat_eq h.number n || b) (has_merged m n) ∙ go (nat_eq h.number n) (has_host ks n)
  where
    go : (b c : Bool) → (b || (c || has_host ls n)) ≡ (c || (b || has_host ls n))
    go true true = refl
    go true false = refl
    go false true = refl
    go false false = refl

same_has : {ks ls hs : List Host} → Merged ks ls hs → (n : ℕ) → has_host ls n ≡ false → has_host hs n ≡ has_host ks n
same_has {ks} {ls} m n o = has_merged m n ∙ rw o (or_false (has_host ks n))
  where
    or_false : (b : Bool) → (b || false) ≡ b
    or_false true = refl
    or_false false = refl

same_numbered : {ks ls hs : List Host} → Merged ks ls hs → (n : ℕ) → has_host ls n ≡ false → host_numbered hs n ≡ host_numbered ks n
same_numbered ended n o = refl
same_numbered (keep h m) n o = ap (λ x. cond (nat_eq h.number n) (Some h) x) (same_numbered m n o)
same_numbered (leave h {ks} {ls} {hs} m) n o =
    let p : (nat_eq h.number n ≡ false) × (has_host ls n ≡ false) = neither _ _ o in rw p.0 (same_numbered m n p.1)

flipped : (m n : ℕ) → nat_eq n m ≡ false → nat_eq m n ≡ false
flipped m n e = grind (arith, nat_tests)

-- the hosts that are kept and those that are left out have different numbers
pub kept_apart : {ks ls hs : List Host} → Merged ks ls hs → AreDistinct hs → (n : ℕ) → has_host ks n ≡ true → has_host ls n ≡ false
kept_apart ended d n k = refl
kept_apart (keep h {ks} {ls} {hs} m) d n k = go (kept_apart m d.1 n) (nat_eq h.number n) refl k
  where
    go : (has_host ks n ≡ true → has_host ls n ≡ false) → (b : Bool) → nat_eq h.number n ≡ b → (b || has_host ks n) ≡ true → has_host ls n ≡ false
    go rest true e k =
        let same : h.number ≡ n = (Decides-eqb h.number n).0 e in
        (neither _ _ (sym (has_merged m n) ∙ ap (has_host hs) (sym same) ∙ d.0)).1
    go rest false e k = rest k
kept_apart (leave h {ks} {ls} {hs} m) d n k =
    let whole : has_host hs n ≡ true = has_merged m n ∙ rw k refl in
    rw (flipped h.number n (other_number hs h.number n d.0 whole)) (kept_apart m d.1 n k)

-- those that are kept have numbers of their own
pub kept_distinct : {ks ls hs : List Host} → Merged ks ls hs → AreDistinct hs → AreDistinct ks
kept_distinct ended d = tt
kept_distinct (keep h m) d = ((neither _ _ (sym (has_merged m h.number) ∙ d.0)).0, kept_distinct m d.1)
kept_distinct (leave h m) d = kept_distinct m d.1

-- a host of a list is there, and found by its number
in_has : (hs : List Host) (h : Host) → IsIn h hs → has_host hs h.number ≡ true
in_has [] h i = absurd i
in_has (g ∷ hs) h (inl e) = rw ((Decides-eqb g.number h.number).1 (ap (λ x. x.number) e)) refl
in_has (g ∷ hs) h (inr i) = go (in_has hs h i) (nat_eq g.number h.number)
  where
    go : has_host hs h.number ≡ true → (b : Bool) → (b || has_host hs h.number) ≡ true
    go rest true = refl
    go rest false = rest

in_numbered : (hs : List Host) (h : Host) → AreDistinct hs → IsIn h hs → host_numbered hs h.number ≡ Some h
in_numbered [] h d i = absurd i
in_numbered (g ∷ hs) h d (inl e) = rw ((Decides-eqb g.number h.number).1 (ap (λ x. x.number) e)) (ap Some e)
in_numbered (g ∷ hs) h d (inr i) =
    rw (flipped g.number h.number (other_number hs g.number h.number d.0 (in_has hs h i))) (in_numbered hs h d.1 i)

has_one : (hs : List Host) (n : ℕ) → has_host hs n ≡ true → (h : Host) × IsIn h hs × (h.number ≡ n)
has_one [] n k = absurd (cc)
has_one (g ∷ hs) n k = go (has_one hs n) (nat_eq g.number n) refl k
  where
    go : (has_host hs n ≡ true → (h : Host) × IsIn h hs × (h.number ≡ n)) → (b : Bool) → nat_eq g.number n ≡ b → (b || has_host hs n) ≡ true
        → (h : Host) × IsIn h (g ∷ hs) × (h.number ≡ n)
    go rest true e k = (g, inl refl, (Decides-eqb g.number n).0 e)
    go rest false e k = let found = rest k in (found.0, inr found.1, found.2)

-- two lists have the same hosts
pub record SameHosts (ls ms : List Host) : Type 0 where
  pub there : (h : Host) → IsIn h ls → IsIn h ms
  pub back : (h : Host) → IsIn h ms → IsIn h ls

none_there : (ls ms : List Host) → ((h : Host) → IsIn h ms → IsIn h ls) → (n : ℕ) → has_host ls n ≡ false → has_host ms n ≡ false
none_there ls ms back n o = go (has_host ms n) refl
  where
    go : (b : Bool) → has_host ms n ≡ b → b ≡ false
    go true e =
        let one = has_one ms n e in
        let here : has_host ls n ≡ true = ap (has_host ls) (sym one.2) ∙ in_has ls one.0 (back one.0 one.1) in
        absurd (cc)
    go false e = refl

-- What is said of the hosts that are kept, if those that are left out add nothing

filter_merged : {ks ls hs : List Host} → Merged ks ls hs → (p q : Host → Bool) → ((h : Host) → IsIn h ls → p h ≡ false)
    → ((h : Host) → IsIn h ks → p h ≡ q h) → filter p hs ≡ filter q ks
filter_merged ended p q adds same = refl
filter_merged (keep h m) p q adds same =
    rw (same h (inl refl)) (ap (λ xs. cond (q h) (h ∷ xs) xs) (filter_merged m p q adds (λ g i. same g (inr i))))
filter_merged (leave h m) p q adds same = rw (adds h (inl refl)) (filter_merged m p q (λ g i. adds g (inr i)) same)

flat_merged : {X : Type 0} {ks ls hs : List Host} → Merged ks ls hs → (f g : Host → List X) → ((h : Host) → IsIn h ls → f h ≡ [])
    → ((h : Host) → IsIn h ks → f h ≡ g h) → flat_map f hs ≡ flat_map g ks
flat_merged ended f g adds same = refl
flat_merged (keep h m) f g adds same = rw (same h (inl refl)) (ap (λ xs. g h ++ xs) (flat_merged m f g adds (λ x i. same x (inr i))))
flat_merged (leave h m) f g adds same = rw (adds h (inl refl)) (flat_merged m f g (λ x i. adds x (inr i)) same)

-- A host beside itself

attr_found : (attrs : List Attr) → HaveOwnNames attrs → (a : Attr) → IsIn a attrs → attr_named attrs a.name ≡ Some a
attr_found [] own a i = absurd i
attr_found (b ∷ attrs) own a (inl e) = rw ((bytes_eq-Decides b.name a.name).1 (ap (λ x. x.name) e)) (ap Some e)
attr_found (b ∷ attrs) own a (inr i) = go (attr_found attrs own.1 a i) (bytes_eq b.name a.name) refl
  where
    go : attr_named attrs a.name ≡ Some a → (c : Bool) → bytes_eq b.name a.name ≡ c → cond c (Some b) (attr_named attrs a.name) ≡ Some a
    go rest true e =
        let nothing : attr_named attrs a.name ≡ None = ap (attr_named attrs) (sym ((bytes_eq-Decides b.name a.name).0 e)) ∙ own.0 in
        absurd (none-some a (sym nothing ∙ rest))
    go rest false e = rest

value_self : (v : AttrValue) → same_value v v ≡ true
value_self (Number x) = (Decides-int_eq x x).1 refl
value_self (Text t) = (bytes_eq-Decides t t).1 refl

attrs_same : (n : ℕ) (attrs : List Attr) → HaveOwnNames attrs → attr_ops n attrs attrs ≡ []
attrs_same n attrs own =
    let goes : filter (λ a. is_none (attr_named attrs a.name)) attrs ≡ [] =
    none_passes (λ a. is_none (attr_named attrs a.name)) attrs (λ a i. rw (attr_found attrs own a i) refl) in
    let comes : filter (λ a. not (has_attr attrs a)) attrs ≡ [] =
    none_passes (λ a. not (has_attr attrs a)) attrs (λ a i. rw (attr_found attrs own a i, value_self a.value) refl) in
    rw (goes, comes) refl

content_same : (n : ℕ) (b c : Content) → AreAlike b c → content_ops n c c ≡ []
content_same n (hosts.tag m old) (hosts.tag name new) h = attrs_same n new h.1
content_same n (hosts.letters s) (hosts.letters t) h = rw ((bytes_eq-Decides t t).1 refl) refl
content_same n (hosts.tag m old) (hosts.letters t) h = absurd h
content_same n (hosts.letters s) (hosts.tag name new) h = absurd h

mark_same : (n : ℕ) (b : Bool) → hiding_ops n b b ≡ []
mark_same n true = refl
mark_same n false = refl

pub nothing_placed : (hs : List Host) → placements [] hs ≡ []
nothing_placed [] = refl
nothing_placed (h ∷ hs) = nothing_placed hs

-- The operations between two lists that have hosts in common

module _ {ks ls hs ms ns gs : List Host} (old : Merged ks ls hs) (new : Merged ms ns gs) (same : SameHosts ls ns)
    (distinct_old : AreDistinct hs) (distinct_new : AreDistinct gs) where
  out_of_new : (n : ℕ) → has_host ls n ≡ false → has_host ns n ≡ false
  out_of_new = none_there ls ns same.back

  out_of_old : (n : ℕ) → has_host ns n ≡ false → has_host ls n ≡ false
  out_of_old = none_there ns ls same.there

  old_kept : (h : Host) → IsIn h ks → has_host ls h.number ≡ false
  old_kept h i = kept_apart old distinct_old h.number (in_has ks h i)

  new_kept : (h : Host) → IsIn h ms → has_host ls h.number ≡ false
  new_kept h i = out_of_old h.number (kept_apart new distinct_new h.number (in_has ms h i))

  new_has : (n : ℕ) → has_host ls n ≡ false → has_host gs n ≡ has_host ms n
  new_has n o = same_has new n (out_of_new n o)

  -- what stays is no host that is gone
  gone_same : (n : ℕ) → (has_host hs n && not (has_host gs n)) ≡ (has_host ks n && not (has_host ms n))
  gone_same n = go (has_host ls n) refl
    where
      and_false : (b : Bool) → (b && false) ≡ false
      and_false true = refl
      and_false false = refl

      not_kept : has_host ls n ≡ true → (b : Bool) → has_host ks n ≡ b → b ≡ false
      not_kept e true f = let out : has_host ls n ≡ false = kept_apart old distinct_old n f in absurd (cc)
      not_kept e false f = refl

      go : (b : Bool) → has_host ls n ≡ b → (has_host hs n && not (has_host gs n)) ≡ (has_host ks n && not (has_host ms n))
      go true e =
          let one = has_one ls n e in
          let stays : has_host gs n ≡ true = ap (has_host gs) (sym one.2) ∙ in_has gs one.0 (left_in new one.0 (same.there one.0 one.1)) in
          let out : has_host ks n ≡ false = not_kept e (has_host ks n) refl in
          rw (stays, out) (and_false (has_host hs n))
      go false e = rw (same_has old n e, new_has n e) refl

  removals_same : removals hs gs ≡ removals ks ms
  removals_same =
      ap (map (λ (h : Host). op.Remove h.number))
      (filter_merged old (λ h. is_gone gs h && not (goes_with_parent hs gs h)) (λ h. is_gone ms h && not (goes_with_parent ks ms h))
      (λ h i. let stays : has_host gs h.number ≡ true = in_has gs h (left_in new h (same.there h i)) in rw stays refl)
      (λ h i. rw (new_has h.number (old_kept h i), gone_same h.parent) refl))

  creations_same : creations hs gs ≡ creations ks ms
  creations_same =
      ap (map (λ (h : Host). creation h.number h.content))
      (filter_merged new (λ h. not (has_host hs h.number)) (λ h. not (has_host ks h.number))
      (λ h i. let was : has_host hs h.number ≡ true = in_has hs h (left_in old h (same.back h i)) in rw was refl)
      (λ h i. rw (same_has old h.number (new_kept h i)) refl))

  was_itself : (h : Host) → IsIn h ns → host_numbered hs h.number ≡ Some h
  was_itself h i = in_numbered hs h distinct_old (left_in old h (same.back h i))

  contents_same : KeepKinds hs gs → contents hs gs ≡ contents ks ms
  contents_same kinds =
      flat_merged new (λ h. content_ops h.number (option_map_or (λ g. g.content) (host_numbered hs h.number) (bare h.content)) h.content)
      (λ h. content_ops h.number (option_map_or (λ g. g.content) (host_numbered ks h.number) (bare h.content)) h.content)
      (λ h i. rw (was_itself h i) (content_same h.number (old_content (host_numbered hs h.number) h) h.content
      (of_all (λ h. AreAlike (old_content (host_numbered hs h.number) h) h.content) gs h kinds (left_in new h i))))
      (λ h i. rw (same_numbered old h.number (new_kept h i)) refl)

  hidings_same : hidings hs gs ≡ hidings ks ms
  hidings_same =
      flat_merged new (λ h. hiding_ops h.number (option_map_or (λ g. g.hidden) (host_numbered hs h.number) false) h.hidden)
      (λ h. hiding_ops h.number (option_map_or (λ g. g.hidden) (host_numbered ks h.number) false) h.hidden)
      (λ h i. rw (was_itself h i) (mark_same h.number h.hidden))
      (λ h i. rw (same_numbered old h.number (new_kept h i)) refl)

  -- hosts that are in both lists need no operation
  pub ops_same : KeepKinds hs gs → ops_between ks ms [] ≡ ops_between hs gs []
  ops_same kinds = rw (removals_same, creations_same, nothing_placed gs, nothing_placed ms, contents_same kinds, hidings_same) refl

  -- nor do they need one if hosts of these numbers are placed, but that those go before hosts that may be in both
  pub ops_placed : KeepKinds hs gs → (placed : List ℕ) → removals ks ms ++ creations ks ms ++ placements placed gs ++ contents ks ms ++ hidings ks ms ≡ ops_between hs gs placed
  ops_placed kinds placed = rw (removals_same, creations_same, contents_same kinds, hidings_same) refl
