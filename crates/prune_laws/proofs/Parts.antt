-- The hosts of a tree and of one without some lists of children: what is left out of the old tree and of the new one are the same hosts.
use Rattle.std.specs.Prelude.{◌≡◌, ℕ, zero, suc, Bool, true, false, ◌⊎◌, List, [], ◌∷◌, ◌++◌, Option, Some, None, filter_map, option_and_then, option_map, option_to_list, length, slice_get, refl}
use Rattle.std.specs.List.{cons_option}
use Rattle.std.specs.Option.{option_map_or}
use Rattle.std.proofs.Common.{sym, ◌∙◌, ap, arith, subst, inl, inr}
use Rattle.std.proofs.lemmas.List.{append-nil}
use Rattle.std.proofs.lemmas.List.Elements.{filter_map-append}
use Rattle.std.proofs.lemmas.Option.{none-some, same_Some}
use Rattle.rx_susp.specs.declared.boundary.BoundaryState.TheVariants.{Shown, Hidden}
use Rattle.rx_elem.specs.Elements.{Element}
use Rattle.rx_elem.specs.Elements as elements
use Rattle.rx_elem.specs.Identity.{old_places, is_reused}
use Rattle.rx_elem.specs.Trees.{Mark, of_instance, of_host, of_boundary, of_catcher, plain, Node, node, Forest, none, vacant, child, elements_in, host_number, instance_in, is_hidden}
use Rattle.rx_elem.specs.Spots.{Around, around_children, spots_in}
use Rattle.rx_elem.specs.Compare.{Past, pasts, node_at}
use Rattle.rx_forest.specs.Hosts.{Host, Content, content_of, host_as, host_at}
use Rattle.rx_compare.specs.InPlace.{stayed}
use Rattle.rx_pruned.specs.Pruned.{GoesOn, KeepsGone, was, Pruned, whole, cut, inside, in_place, PrunedInPlace, each, through, PrunedIn, no_more, gap, same, pair}
use Rattle.rx_pruned.specs.Pruned as pruned
use Rattle.host_laws.proofs.IdentityLaws.{places_distinct}
use Rattle.host_laws.proofs.Listing.{hosts_at, hosts_in, in-child}
use Rattle.prune_laws.proofs.Bare.{IsOnlyInstance, not_hidden, only_instance}
use Rattle.prune_laws.proofs.Fewer.{as_many_pasts, is_missing}
use Rattle.prune_laws.proofs.Merged.{IsIn, in_left, in_right, in_either, Merged, ended, keep, leave, merged-append, all_kept, all_left, SameHosts}
use Rattle.prune_laws.proofs.Reused.{reused_by, is_reused_at, past_at, place_from, not_absent}

-- What surrounds two places

-- two places have the same host above, and both or neither lie in a kept primary below it
pub record Agree (a b : Around) : Type 0 where
  pub host : a.host ≡ b.host
  pub concealed : a.concealed ≡ b.concealed

-- what a mark leaves of what surrounds a place: the host above, and whether a kept primary lies between
host_below : (a : Around) (m : Mark) → (around_children a m).host ≡ option_map_or (λ n. n) (host_number m) a.host
host_below a (of_instance i) = refl
host_below a (of_host None) = refl
host_below a (of_host (Some n)) = refl
host_below a (of_boundary Shown) = refl
host_below a (of_boundary (Hidden w)) = refl
host_below a (of_catcher z) = refl
host_below a plain = refl

concealed_below : (a : Around) (m : Mark) → is_hidden m ≡ false → (around_children a m).concealed ≡ option_map_or (λ n. false) (host_number m) a.concealed
concealed_below a (of_instance i) h = refl
concealed_below a (of_host None) h = refl
concealed_below a (of_host (Some n)) h = refl
concealed_below a (of_boundary Shown) h = refl
concealed_below a (of_boundary (Hidden w)) h = absurd (cc)
concealed_below a (of_catcher z) h = refl
concealed_below a plain h = refl

-- the surroundings agree below if the way goes on
agree_on : (a b : Around) (m w : Mark) → GoesOn m w → Agree a b → Agree (around_children a m) (around_children b w)
agree_on a b m w g r =
    record {
      host = host_below a m ∙ rw (g.numbers, r.host) (sym (host_below b w));
      concealed = concealed_below a m g.old_shown ∙ rw (g.numbers, r.concealed) (sym (concealed_below b w g.new_shown));
    }

agree_below : (a b : Around) (m : Mark) → Agree a b → Agree (around_children a m) (around_children b m)
agree_below a b (of_instance i) r = record { host = r.host; concealed = r.concealed }
agree_below a b (of_host None) r = r
agree_below a b (of_host (Some n)) r = record { host = refl; concealed = refl }
agree_below a b (of_boundary Shown) r = r
agree_below a b (of_boundary (Hidden w)) r = record { host = r.host; concealed = refl }
agree_below a b (of_catcher z) r = r
agree_below a b plain r = r

-- The hosts of a node

-- the host that a node is, if it is one
abbrev own : Around → Element → Mark → List Host
own a e m = option_to_list (option_and_then (λ n. option_map (host_as a n) (content_of e)) (host_number m))

parts_of : (a : Around) (e : Element) (m : Mark) (ns fs : Forest) → hosts_at a (node e m ns fs) ≡ own a e m ++ (hosts_in (around_children a m) ns ++ hosts_in a fs)
parts_of a e m ns fs =
    go (option_and_then (λ n. option_map (host_as a n) (content_of e)) (host_number m)) (filter_map host_at (spots_in (around_children a m) ns ++ spots_in a fs))
    ∙ ap (λ hs. own a e m ++ hs) (filter_map-append host_at (spots_in (around_children a m) ns) (spots_in a fs))
  where
    go : (o : Option Host) (hs : List Host) → cons_option o hs ≡ option_to_list o ++ hs
    go None hs = refl
    go (Some h) hs = refl

-- if there is no fallback
parts_without : (a : Around) (e : Element) (m : Mark) (ns : Forest) → hosts_at a (node e m ns none) ≡ own a e m ++ hosts_in (around_children a m) ns
parts_without a e m ns = parts_of a e m ns none ∙ ap (λ hs. own a e m ++ hs) (append-nil (hosts_in (around_children a m) ns))

own_same : (a b : Around) (e : Element) (m : Mark) → Agree a b → own a e m ≡ own b e m
own_same a b e m r = go (host_number m) (content_of e)
  where
    go : (n : Option ℕ) (c : Option Content) → option_to_list (option_and_then (λ n. option_map (host_as a n) c) n) ≡ option_to_list (option_and_then (λ n. option_map (host_as b n) c) n)
    go None c = refl
    go (Some n) None = refl
    go (Some n) (Some c) = rw (r.host, r.concealed) refl

mutual
  -- the hosts of one tree are the same if the surroundings agree
  hosts_agree : (a b : Around) (n : Node) → Agree a b → hosts_at a n ≡ hosts_at b n
  hosts_agree a b (node e m ns fs) r =
      parts_of a e m ns fs
      ∙ rw (own_same a b e m r, hosts_agree_in (around_children a m) (around_children b m) ns (agree_below a b m r), hosts_agree_in a b fs r) (sym (parts_of b e m ns fs))

  hosts_agree_in : (a b : Around) (ns : Forest) → Agree a b → hosts_in a ns ≡ hosts_in b ns
  hosts_agree_in a b none r = refl
  hosts_agree_in a b (vacant ns) r = hosts_agree_in a b ns r
  hosts_agree_in a b (child n ns) r = in-child a n ns ∙ rw (hosts_agree a b n r, hosts_agree_in a b ns r) (sym (in-child b n ns))

-- Lists of children, place by place

abbrev hosts_if : Around → Option Node → List Host
hosts_if a None = []
hosts_if a (Some n) = hosts_at a n

merged_as : {ks ls hs ms gs : List Host} → ks ≡ ms → hs ≡ gs → Merged ks ls hs → Merged ms ls gs
merged_as {ls = ls} {hs = hs} {ms = ms} e f m = subst (λ x. Merged ms ls x) f (subst (λ x. Merged x ls hs) e m)

-- nothing is left out of nothing
none_left : {ks ls : List Host} → Merged ks ls [] → ls ≡ []
none_left m = go m refl
  where
    go : {ks ls hs : List Host} → Merged ks ls hs → hs ≡ [] → ls ≡ []
    go ended e = refl
    go (keep h m) e = absurd (cc)
    go (leave h m) e = absurd (cc)

-- what is left out of the hosts of a list of children is what is left out of each place
record Places (left : ℕ → List Host) (kept total : List Host) : Type 0 where
  out : List Host
  merged : Merged kept out total
  there : (h : Host) → IsIn h out → (k : ℕ) × IsIn h (left k)
  back : (k : ℕ) (h : Host) → IsIn h (left k) → IsIn h out

no_places : (left : ℕ → List Host) → ((k : ℕ) → left k ≡ []) → Places left [] []
no_places left nothing =
    record { out = []; merged = ended; there = λ h i. absurd i; back = λ k h i. subst (IsIn h) (nothing k) i }

more_places : (left : ℕ → List Host) (ks hs kept total : List Host) → Merged ks (left zero) hs → Places (λ k. left (suc k)) kept total
    → Places left (ks ++ kept) (hs ++ total)
more_places left ks hs kept total m r =
    record {
      out = left zero ++ r.out;
      merged = merged-append m r.merged;
      there = λ h i. there h (in_either h (left zero) r.out i);
      back = back;
    }
  where
    there : (h : Host) → (IsIn h (left zero)) ⊎ (IsIn h r.out) → (k : ℕ) × IsIn h (left k)
    there h (inl i) = (zero, i)
    there h (inr i) = let found = r.there h i in (suc found.0, found.1)

    back : (k : ℕ) (h : Host) → IsIn h (left k) → IsIn h (left zero ++ r.out)
    back zero h i = in_left h (left zero) r.out i
    back (suc k) h i = in_right h (left zero) r.out (r.back k h i)

abbrev first : Forest → Option Node
first none = None
first (vacant ns) = None
first (child n ns) = Some n

abbrev rest : Forest → Forest
rest none = none
rest (vacant ns) = ns
rest (child n ns) = ns

first_and_rest : (a : Around) (ns : Forest) → hosts_in a ns ≡ hosts_if a (first ns) ++ hosts_in a (rest ns)
first_and_rest a none = refl
first_and_rest a (vacant ns) = refl
first_and_rest a (child n ns) = in-child a n ns

node_first : (ns : Forest) → node_at ns zero ≡ first ns
node_first none = refl
node_first (vacant ns) = refl
node_first (child n ns) = refl

node_later : (ns : Forest) (k : ℕ) → node_at ns (suc k) ≡ node_at (rest ns) k
node_later none k = refl
node_later (vacant ns) k = refl
node_later (child n ns) k = refl

abbrev LeftAt : Around → (kept total : Forest) → (ℕ → List Host) → Type 0
LeftAt a ps os left = (k : ℕ) → Merged (hosts_if a (node_at ps k)) (left k) (hosts_if a (node_at os k))

later_left : (a : Around) (ps os : Forest) (left : ℕ → List Host) → LeftAt a ps os left → LeftAt a (rest ps) (rest os) (λ k. left (suc k))
later_left a ps os left m k = merged_as (ap (hosts_if a) (node_later ps k)) (ap (hosts_if a) (node_later os k)) (m (suc k))

joined : (a : Around) (ps os : Forest) (left : ℕ → List Host) → LeftAt a ps os left
    → Places (λ k. left (suc k)) (hosts_in a (rest ps)) (hosts_in a (rest os)) → Places left (hosts_in a ps) (hosts_in a os)
joined a ps os left m r =
    let all : Places left (hosts_if a (first ps) ++ hosts_in a (rest ps)) (hosts_if a (first os) ++ hosts_in a (rest os)) =
    more_places left (hosts_if a (first ps)) (hosts_if a (first os)) (hosts_in a (rest ps)) (hosts_in a (rest os))
    (merged_as (ap (hosts_if a) (node_first ps)) (ap (hosts_if a) (node_first os)) (m zero)) r in
    subst (λ x. Places left (hosts_in a ps) x) (sym (first_and_rest a os))
    (subst (λ x. Places left x (hosts_if a (first os) ++ hosts_in a (rest os))) (sym (first_and_rest a ps)) all)

none_was : (a : Around) (ps : Forest) (left : ℕ → List Host) → LeftAt a ps none left → Places left (hosts_in a ps) []
none_was a none left m = no_places left (λ k. none_left (m k))
none_was a (vacant ps) left m = joined a (vacant ps) none left m (none_was a ps (λ k. left (suc k)) (later_left a (vacant ps) none left m))
none_was a (child p ps) left m = joined a (child p ps) none left m (none_was a ps (λ k. left (suc k)) (later_left a (child p ps) none left m))

by_places : (a : Around) (os ps : Forest) (left : ℕ → List Host) → LeftAt a ps os left → Places left (hosts_in a ps) (hosts_in a os)
by_places a none ps left m = none_was a ps left m
by_places a (vacant os) ps left m = joined a ps (vacant os) left m (by_places a os (rest ps) (λ k. left (suc k)) (later_left a ps (vacant os) left m))
by_places a (child o os) ps left m = joined a ps (child o os) left m (by_places a os (rest ps) (λ k. left (suc k)) (later_left a ps (child o os) left m))

-- What is left out

-- what is left out of an old list of hosts and of a new one are the same hosts
pub record Left (kept_old old kept_new new : List Host) : Type 0 where
  pub out_old : List Host
  pub out_new : List Host
  pub merged_old : Merged kept_old out_old old
  pub merged_new : Merged kept_new out_new new
  pub same : SameHosts out_old out_new

same_itself : (hs : List Host) → SameHosts hs hs
same_itself hs = record { there = λ h i. i; back = λ h i. i }

-- nothing is left out of whole lists
nothing_left : (hs gs : List Host) → Left hs hs gs gs
nothing_left hs gs =
    record { out_old = []; out_new = []; merged_old = all_kept hs; merged_new = all_kept gs; same = same_itself [] }

-- all is left out of both lists if they are the same
all_left_out : (hs gs : List Host) → hs ≡ gs → Left [] hs [] gs
all_left_out hs gs alike =
    record {
      out_old = hs;
      out_new = gs;
      merged_old = all_left hs;
      merged_new = all_left gs;
      same = subst (SameHosts hs) alike (same_itself hs);
    }

-- two lists joined have the same hosts as two others
same_both : (ls ms ns gs : List Host) → SameHosts ls ms → SameHosts ns gs → SameHosts (ls ++ ns) (ms ++ gs)
same_both ls ms ns gs one more =
    record {
      there = λ h i. elim (in_either h ls ns i) [ inl j ↦ in_left h ms gs (one.there h j) | inr j ↦ in_right h ms gs (more.there h j) ];
      back = λ h i. elim (in_either h ms gs i) [ inl j ↦ in_left h ls ns (one.back h j) | inr j ↦ in_right h ls ns (more.back h j) ];
    }

-- what is left out of two parts of each list
left_both : {ks hs ms gs ls ns js is : List Host} → Left ks hs ms gs → Left ls ns js is → Left (ks ++ ls) (hs ++ ns) (ms ++ js) (gs ++ is)
left_both one more =
    record {
      out_old = one.out_old ++ more.out_old;
      out_new = one.out_new ++ more.out_new;
      merged_old = merged-append one.merged_old more.merged_old;
      merged_new = merged-append one.merged_new more.merged_new;
      same = same_both one.out_old one.out_new more.out_old more.out_new one.same more.same;
    }

-- the same for equal lists
left_as : {ks hs ms gs ls ns js is : List Host} → ks ≡ ls → hs ≡ ns → ms ≡ js → gs ≡ is → Left ks hs ms gs → Left ls ns js is
left_as e f g h l =
    record { out_old = l.out_old; out_new = l.out_new; merged_old = merged_as e f l.merged_old; merged_new = merged_as g h l.merged_new; same = l.same }

-- Children that stand where they stood

-- the hosts of the old nodes of these pasts
abbrev hosts_before : Around → List Past → List Host
hosts_before a [] = []
hosts_before a (p ∷ ps) = hosts_if a p.old ++ hosts_before a ps

-- the hosts of a list are those before its children if they stay
hosts_stayed : (a : Around) (ns : Forest) → hosts_in a ns ≡ hosts_before a (stayed ns)
hosts_stayed a none = refl
hosts_stayed a (vacant ns) = hosts_stayed a ns
hosts_stayed a (child n ns) = in-child a n ns ∙ ap (λ hs. hosts_at a n ++ hs) (hosts_stayed a ns)

-- one more child before the others, and its past
more_beside : (a b : Around) (p q : Past) (befores kept_befores : List Past) (ns ms : Forest)
    → Left (hosts_if a q.old) (hosts_if a p.old) (hosts_if b (first ms)) (hosts_if b (first ns))
    → Left (hosts_before a kept_befores) (hosts_before a befores) (hosts_in b (rest ms)) (hosts_in b (rest ns))
    → Left (hosts_before a (q ∷ kept_befores)) (hosts_before a (p ∷ befores)) (hosts_in b ms) (hosts_in b ns)
more_beside a b p q befores kept_befores ns ms one more =
    left_as refl refl (sym (first_and_rest b ms)) (sym (first_and_rest b ns)) (left_both one more)

-- Children that stand anywhere

-- what is left out of each new child, and of the old child that it was
record In (a b : Around) (befores : List Past) (new : Forest) (kept_befores : List Past) (kept : Forest) : Type 0 where
  left : ℕ → List Host
  out : List Host
  merged : Merged (hosts_in b kept) out (hosts_in b new)
  olds : (i : ℕ) (p q : Past) → slice_get befores i ≡ Some p → slice_get kept_befores i ≡ Some q → (slice_get (elements_in new) i ≡ Some elements.null → ⊥)
      → (ls : List Host) × Merged (hosts_if a q.old) ls (hosts_if a p.old) × SameHosts ls (left i)
  there : (h : Host) → IsIn h out → (i : ℕ) × (o : Node) × (moved : Bool) × (slice_get befores i ≡ Some (was o moved)) × IsIn h (left i)
  back : (i : ℕ) (h : Host) → IsIn h (left i) → IsIn h out

nothing_in : (a b : Around) → In a b [] none [] none
nothing_in a b =
    record {
      left = λ i. [];
      out = [];
      merged = ended;
      olds = λ i p q e f present. absurd (none-some p e);
      there = λ h i. absurd i;
      back = λ i h j. absurd j;
    }

abbrev at_first : List Host → (ℕ → List Host) → ℕ → List Host
at_first hs left zero = hs
at_first hs left (suc i) = left i

element_later : (ns : Forest) (i : ℕ) → slice_get (elements_in ns) (suc i) ≡ slice_get (elements_in (rest ns)) i
element_later none i = refl
element_later (vacant ns) i = refl
element_later (child n ns) i = refl

-- one more child before the others
more_in : (a b : Around) (p q : Past) (befores kept_befores : List Past) (ns ms : Forest) (hs : List Host)
    → Merged (hosts_if b (first ms)) hs (hosts_if b (first ns))
    → ((slice_get (elements_in ns) zero ≡ Some elements.null → ⊥) → (ls : List Host) × Merged (hosts_if a q.old) ls (hosts_if a p.old) × SameHosts ls hs)
    → ((h : Host) → IsIn h hs → (o : Node) × (moved : Bool) × (p ≡ was o moved))
    → In a b befores (rest ns) kept_befores (rest ms) → In a b (p ∷ befores) ns (q ∷ kept_befores) ms
more_in a b p q befores kept_befores ns ms hs m old from r =
    record {
      left = at_first hs r.left;
      out = hs ++ r.out;
      merged = merged_as (sym (first_and_rest b ms)) (sym (first_and_rest b ns)) (merged-append m r.merged);
      olds = olds;
      there = λ h i. there h (in_either h hs r.out i);
      back = back;
    }
  where
    olds : (i : ℕ) (x y : Past) → slice_get (p ∷ befores) i ≡ Some x → slice_get (q ∷ kept_befores) i ≡ Some y → (slice_get (elements_in ns) i ≡ Some elements.null → ⊥)
        → (ls : List Host) × Merged (hosts_if a y.old) ls (hosts_if a x.old) × SameHosts ls (at_first hs r.left i)
    olds zero x y e f present =
        let found = old present in (
          found.0,
          merged_as (ap (λ (z : Past). hosts_if a z.old) (same_Some _ _ f)) (ap (λ (z : Past). hosts_if a z.old) (same_Some _ _ e)) found.1,
          found.2,
        )
    olds (suc i) x y e f present = r.olds i x y e f (λ absent. present (element_later ns i ∙ absent))

    there : (h : Host) → (IsIn h hs) ⊎ (IsIn h r.out)
        → (i : ℕ) × (o : Node) × (moved : Bool) × (slice_get (p ∷ befores) i ≡ Some (was o moved)) × IsIn h (at_first hs r.left i)
    there h (inl i) = let found = from h i in (zero, found.0, found.1, ap Some found.2, i)
    there h (inr i) = let found = r.there h i in (suc found.0, found.1, found.2, found.3, found.4)

    back : (i : ℕ) (h : Host) → IsIn h (at_first hs r.left i) → IsIn h (hs ++ r.out)
    back zero h i = in_left h hs r.out i
    back (suc k) h i = in_right h hs r.out (r.back k h i)

module _ (a b : Around) (os ns ps qs : Forest) (g : KeepsGone os ps (elements_in ns))
    (r : In a b (pasts os (elements_in ns)) ns (pasts ps (elements_in ns)) qs) where
  -- what is left out of the old child at a place
  record AtPlace (k : ℕ) : Type 0 where
    out : List Host
    merged : Merged (hosts_if a (node_at ps k)) out (hosts_if a (node_at os k))
    there : (h : Host) → IsIn h out → (i : ℕ) × IsIn h (r.left i)
    back : (i : ℕ) → slice_get (old_places (elements_in os) (elements_in ns)) i ≡ Some (Some k) → (h : Host) → IsIn h (r.left i) → IsIn h out

  at_place : (k : ℕ) → AtPlace k
  at_place k = go (is_reused (old_places (elements_in os) (elements_in ns)) k) refl
    where
      go : (t : Bool) → is_reused (old_places (elements_in os) (elements_in ns)) k ≡ t → AtPlace k
      go true e =
          let found = reused_by (old_places (elements_in os) (elements_in ns)) k e in
          let x = past_at os (elements_in ns) found.0 k found.1 in
          let y = past_at ps (elements_in ns) found.0 k
          (subst (λ (es : List Element). slice_get (old_places es (elements_in ns)) found.0 ≡ Some (Some k)) (sym g.elements) found.1) in
          let old = r.olds found.0 (record { old = node_at os k; moved = x.0 }) (record { old = node_at ps k; moved = y.0 }) x.1 y.1
          (not_absent (elements_in os) (elements_in ns) found.0 k found.1) in
          record {
            out = old.0;
            merged = old.1;
            there = λ h i. (found.0, old.2.there h i);
            back = λ i f h j. old.2.back h (subst (λ n. IsIn h (r.left n)) (places_distinct (elements_in os) (elements_in ns) i found.0 k f found.1) j);
          }
      go false e =
          record {
            out = [];
            merged = merged_as (ap (hosts_if a) (sym (g.gone k e))) refl (all_kept (hosts_if a (node_at os k)));
            there = λ h i. absurd i;
            back = λ i f h j. let used : is_reused (old_places (elements_in os) (elements_in ns)) k ≡ true = is_reused_at _ i k f in absurd (cc);
          }

  left_places : Places (λ k. (at_place k).out) (hosts_in a ps) (hosts_in a os)
  left_places = by_places a os ps (λ k. (at_place k).out) (λ k. (at_place k).merged)

  -- what is left out of the old children and of the new ones
  left_children : Left (hosts_in a ps) (hosts_in a os) (hosts_in b qs) (hosts_in b ns)
  left_children =
      record {
        out_old = left_places.out;
        out_new = r.out;
        merged_old = left_places.merged;
        merged_new = r.merged;
        same = record { there = there; back = back };
      }
    where
      there : (h : Host) → IsIn h left_places.out → IsIn h r.out
      there h i =
          let at = left_places.there h i in
          let one = (at_place at.0).there h at.1 in
          r.back one.0 h one.1

      back : (h : Host) → IsIn h r.out → IsIn h left_places.out
      back h i =
          let one = r.there h i in
          let place = place_from os (elements_in ns) one.0 one.1 one.2 one.3 in
          left_places.back place.0 h ((at_place place.0).back one.0 place.1 h one.4)

-- the hosts below an instance are those of its children in its place
hosts_through : (a : Around) (e : Element) (m : Mark) (ns : Forest) (n : ℕ) → option_and_then (λ i. i.number) (instance_in m) ≡ Some n
    → hosts_in a (child (node e m ns none) none) ≡ hosts_in a ns
hosts_through a e m ns n is =
    let only : IsOnlyInstance m = only_instance m n is in
    let same : Agree (around_children a m) a = record {
      host = host_below a m ∙ rw only.unnumbered refl;
      concealed = concealed_below a m (not_hidden m only) ∙ rw only.unnumbered refl;
    } in
    let none_own : own a e m ≡ [] = rw only.unnumbered refl in
    in-child a (node e m ns none) none
    ∙ append-nil (hosts_at a (node e m ns none))
    ∙ parts_without a e m ns
    ∙ ap (λ hs. hs ++ hosts_in (around_children a m) ns) none_own
    ∙ hosts_agree_in (around_children a m) a ns same

-- with the node above, which stays
under_own : (a b : Around) (e f : Element) (m w : Mark) (os ns ps qs : Forest)
    → Left (hosts_in (around_children a m) ps) (hosts_in (around_children a m) os) (hosts_in (around_children b w) qs) (hosts_in (around_children b w) ns)
    → Left (hosts_at a (node e m ps none)) (hosts_at a (node e m os none)) (hosts_at b (node f w qs none)) (hosts_at b (node f w ns none))
under_own a b e f m w os ns ps qs r =
    record {
      out_old = r.out_old;
      out_new = r.out_new;
      merged_old = merged_as (sym (parts_without a e m ps)) (sym (parts_without a e m os)) (merged-append (all_kept (own a e m)) r.merged_old);
      merged_new = merged_as (sym (parts_without b f w qs)) (sym (parts_without b f w ns)) (merged-append (all_kept (own b f w)) r.merged_new);
      same = r.same;
    }

mutual
  -- what is left out of an old node and of the new one
  pub left_at : {d : Bool} {o n p q : Node} → Pruned d o n p q → (a b : Around) → Agree a b → Left (hosts_at a p) (hosts_at a o) (hosts_at b q) (hosts_at b n)
  left_at (whole {o = o} {n = n}) a b r = nothing_left (hosts_at a o) (hosts_at b n)
  left_at (cut {e = e} {f = f} {m = m} {w = w} {ns = ns} goes still) a b r =
      under_own a b e f m w ns ns none none
      (all_left_out (hosts_in (around_children a m) ns) (hosts_in (around_children b w) ns) (hosts_agree_in _ _ ns (agree_on a b m w goes r)))
  left_at (inside {e = e} {f = f} {m = m} {w = w} {os = os} {ns = ns} {ps = ps} {qs = qs} goes kept below) a b r =
      under_own a b e f m w os ns ps qs
      (left_children (around_children a m) (around_children b w) os ns ps qs kept
      (left_in below (as_many_pasts os ps (elements_in ns) kept.elements) (around_children a m) (around_children b w) (agree_on a b m w goes r)))
  left_at (in_place {e = e} {f = f} {m = m} {w = w} {os = os} {ns = ns} {ps = ps} {qs = qs} goes lists) a b r =
      under_own a b e f m w os ns ps qs (left_in_place lists (around_children a m) (around_children b w) (agree_on a b m w goes r))

  -- what is left out of lists of which each child stands where it stood
  left_in_place : {d : Bool} {os ns ps qs : Forest} → PrunedInPlace d os ns ps qs
      → (a b : Around) → Agree a b → Left (hosts_in a ps) (hosts_in a os) (hosts_in b qs) (hosts_in b ns)
  left_in_place (each {os = os} {ps = ps} olds news below) a b r =
      left_as (sym (hosts_stayed a ps)) (sym (hosts_stayed a os)) refl refl (left_beside below a b r)
  left_in_place (through {e = e} {f = f} {m = m} {w = w} {os = os} {ns = ns} bare stands lists) a b r =
      left_as refl (sym (hosts_through a e m os bare.number bare.was)) refl (sym (hosts_through b f w ns bare.number bare.is)) (left_in_place lists a b r)

  -- what is left out of each child of a list that has as many
  left_in : {d : Bool} {befores kept_befores : List Past} {ns ms : Forest} → PrunedIn d befores ns kept_befores ms → length kept_befores ≡ length befores
      → (a b : Around) → Agree a b → In a b befores ns kept_befores ms
  left_in no_more as_many a b r = nothing_in a b
  left_in (gap {p = p} {ps = ps} {qs = qs} {ns = ns} {ms = ms} more) as_many a b r =
      more_in a b p p ps qs (vacant ns) (vacant ms) [] ended (λ present. absurd (present refl)) (λ h i. absurd i) (left_in more (omega arith) a b r)
  left_in (same {p = p} {ps = ps} {qs = qs} {n = n} {ns = ns} {ms = ms} more) as_many a b r =
      more_in a b p p ps qs (child n ns) (child n ms) [] (all_kept (hosts_at b n)) (λ present. ([], all_kept (hosts_if a p.old), same_itself []))
      (λ h i. absurd i) (left_in more (omega arith) a b r)
  left_in (pair {moved = moved} {o = o} {n = n} {p = p} {q = q} {ps = ps} {qs = qs} {ns = ns} {ms = ms} one more) as_many a b r =
      let l = left_at one a b r in
      more_in a b (was o moved) (was p moved) ps qs (child n ns) (child q ms) l.out_new l.merged_new (λ present. (l.out_old, l.merged_old, l.same))
      (λ h i. (o, moved, refl)) (left_in more (omega arith) a b r)
  left_in (pruned.left still more) as_many a b r = absurd (is_missing more as_many)

  -- what is left out of a list in the order of its children
  left_beside : {d : Bool} {befores kept_befores : List Past} {ns ms : Forest} → PrunedIn d befores ns kept_befores ms
      → (a b : Around) → Agree a b → Left (hosts_before a kept_befores) (hosts_before a befores) (hosts_in b ms) (hosts_in b ns)
  left_beside no_more a b r = nothing_left [] []
  left_beside (gap {p = p} {ps = ps} {qs = qs} {ns = ns} {ms = ms} more) a b r =
      more_beside a b p p ps qs (vacant ns) (vacant ms) (nothing_left (hosts_if a p.old) []) (left_beside more a b r)
  left_beside (same {p = p} {ps = ps} {qs = qs} {n = n} {ns = ns} {ms = ms} more) a b r =
      more_beside a b p p ps qs (child n ns) (child n ms) (nothing_left (hosts_if a p.old) (hosts_at b n)) (left_beside more a b r)
  left_beside (pair {moved = moved} {o = o} {n = n} {p = p} {q = q} {ps = ps} {qs = qs} {ns = ns} {ms = ms} one more) a b r =
      more_beside a b (was o moved) (was p moved) ps qs (child n ns) (child q ms) (left_at one a b r) (left_beside more a b r)
  left_beside (pruned.left {n = n} {ns = ns} still more) a b r =
      left_as refl refl refl (sym (in-child b n ns)) (left_both (all_left_out (hosts_at a n) (hosts_at b n) (hosts_agree a b n r)) (left_beside more a b r))
