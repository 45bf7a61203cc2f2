-- What a walk did, part by part.
use Rattle.std.proofs.Common.{◌≡◌, ℕ, Bool, true, false, ◌||◌, List, [], ◌∷◌, ◌++◌, Option, Some, None, map, nat_eq, refl, sym, ap, ◌∙◌, subst, append_assoc}
use Rattle.std.specs.List.{filter_map}
use Rattle.std.proofs.lemmas.List.{append-nil}
use Rattle.std.proofs.lemmas.List.Elements.{filter_map-append}
use Rattle.rx_elem.specs.Trees.{Mark, Node, node, Forest, forest, host_number, mark_of, children_of, fallback_of}
use Rattle.rx_elem.specs.Spots.{Around, Spot, around_children, at_root, container, spots, spots_in, spot_mark}
use Rattle.rx_forest.specs.Forests.{is_among}
use Rattle.rx_forest.specs.Hosts.{Host, host_at, hosts, has_host}
use Rattle.host_laws.specs.Commits.{AreNumbered, IsSound}
use Rattle.host_laws.specs.Siblings.{with_parents}
use Rattle.host_laws.proofs.Placements.{other_number}
use Rattle.end_laws.specs.Trimmed.{trimmed}
use Rattle.end_laws.proofs.Lists.{filter_map_same}
use Rattle.end_laws.proofs.Read.{mark_same, tree_spots_same, trimmed_spot}
use Rattle.rx_lists.specs.Shapes.{Shape}
use Rattle.rx_links.specs.Drafts.{Trees}
use Rattle.rx_fiber.specs.Fibers.{Fiber, begun}
use Rattle.rx_fiber.specs.Reading.{IsTreeOf}
use Rattle.rx_read.specs.Lists.{list_of}
use Rattle.rx_read.specs.Places.{mark_in}
use Rattle.rx_read.proofs.Links.{Linked}
use Rattle.rx_read.proofs.Listing.{node_read}
use Rattle.rx_read.proofs.Trims.{tree_places}
use Rattle.rx_host_list.specs.Walks.{AreMet, AreOnce, HasWalked, first_spots, numbers_at, spots_of}
use Rattle.rx_host_list.proofs.Listed.{any-place, list-spots, node_here, tree-hosts}
use Rattle.rx_host_list.proofs.Once.{among-hosts, distinct-once, once-append}
use Rattle.rx_host_list.proofs.Passing.{among-append, among_first, among_second, list_passed, numbers-hosts, told-append}

-- what was met, in either part
met_either : (p a b c : Bool) → (a ≡ true → (p || b) ≡ true) → (a || c) ≡ true → (p || (b || c)) ≡ true
met_either true a b c h k = refl
met_either false true true c h k = refl
met_either false true false c h k = let no : false ≡ true = h refl in absurd (cc)
met_either false false true c h k = refl
met_either false false false c h k = k

-- what was not met in the second part was met in the first
not_second : (a c : Bool) → (a || c) ≡ true → c ≡ false → a ≡ true
not_second true c h k = refl
not_second false c h k = absurd (cc)

-- no number of the first part stands in the second
abbrev AreApart : List Spot → List Spot → Type 0
AreApart ss ts = (q : ℕ) → is_among (numbers_at ss) q ≡ true → is_among (numbers_at ts) q ≡ false

module _ (w : ℕ → Bool) where
  -- nothing to go over
  pub none-walked : (m : ℕ → Bool) (f : List Host) → HasWalked w m m f f []
  none-walked m f = record { met = λ n h. rw h refl; told = λ once all. sym (append-nil f) }

  -- nodes that are passed by, below an unwanted host
  pub passed-walked : (m : ℕ → Bool) (f : List Host) (a : Around) (ns : Forest) → w a.host ≡ false → HasWalked w m m f f (spots_in a ns)
  passed-walked m f a ns out = record {
    met = λ n h. rw h refl;
    told = λ once all. sym (append-nil f) ∙ ap (λ hs. f ++ hs) (sym (list_passed w a ns out (λ n h. unwanted n h all (w n) refl)));
  }
    where
      unwanted : (n : ℕ) → is_among (numbers_at (spots_in a ns)) n ≡ true → AreMet w m m (numbers_at (spots_in a ns)) → (b : Bool) → w n ≡ b → b ≡ false
      unwanted n h all true e = let q = all n e h in let no : false ≡ true = sym q.0 ∙ q.1 in absurd (cc)
      unwanted n h all false e = refl

  -- one part after the other
  pub both-walked : (m0 m1 m2 : ℕ → Bool) (f0 f1 f2 : List Host) (ss ts : List Spot) → HasWalked w m0 m1 f0 f1 ss → HasWalked w m1 m2 f1 f2 ts
      → HasWalked w m0 m2 f0 f2 (ss ++ ts)
  both-walked m0 m1 m2 f0 f1 f2 ss ts x y = record {
    met = λ n h. ap (λ b. m0 n || b) (among-append ss ts n) ∙ met_either (m0 n) (m1 n) (is_among (numbers_at ss) n) (is_among (numbers_at ts) n) (x.met n) (y.met n h);
    told = λ once all.
        let parts = once-append (numbers_at ss) (numbers_at ts) (subst AreOnce (filter_map-append (λ s. host_number (spot_mark s)) ss ts) once) in
        y.told parts.1 (second all parts.2)
        ∙ ap (λ hs. hs ++ with_parents w (filter_map host_at ts)) (x.told parts.0 (first all parts.2))
        ∙ append_assoc f0 (with_parents w (filter_map host_at ss)) (with_parents w (filter_map host_at ts))
        ∙ ap (λ hs. f0 ++ hs) (sym (told-append w ss ts));
  }
    where
      first : AreMet w m0 m2 (numbers_at (ss ++ ts)) → AreApart ss ts → AreMet w m0 m1 (numbers_at ss)
      first all apart n wants there =
          let here = all n wants (among_first ss ts n there) in
          (here.0, not_second (m1 n) (is_among (numbers_at ts) n) (y.met n here.1) (apart n there))

      second : AreMet w m0 m2 (numbers_at (ss ++ ts)) → AreApart ss ts → AreMet w m1 m2 (numbers_at ts)
      second all apart n wants there =
          let here = all n wants (among_second ss ts n there) in
          (not_yet (m1 n) refl here.0, here.1)
        where
          not_yet : (b : Bool) → m1 n ≡ b → m0 n ≡ false → b ≡ false
          not_yet false e k = refl
          not_yet true e k =
              let among : is_among (numbers_at ss) n ≡ true = ap (λ b. b || is_among (numbers_at ss) n) (sym k) ∙ x.met n e in
              let no : true ≡ false = sym there ∙ apart n among in absurd (cc)

  -- a node, by what was done for its own host, below it and in its fallback
  pub node-walked : (a : Around) (n : Node) (m0 m1 m2 m3 : ℕ → Bool) (f0 f1 f2 f3 : List Host)
      → HasWalked w m0 m1 f0 f1 (record { at = n; around = a } ∷ []) → HasWalked w m1 m2 f1 f2 (spots_in (around_children a (mark_of n)) (children_of n))
      → HasWalked w m2 m3 f2 f3 (spots_in a (fallback_of n)) → HasWalked w m0 m3 f0 f3 (spots a n)
  node-walked a (node e m ns fs) m0 m1 m2 m3 f0 f1 f2 f3 own kids behind =
      both-walked m0 m1 m3 f0 f1 f3 (record { at = node e m ns fs; around = a } ∷ []) (spots_in (around_children a m) ns ++ spots_in a fs) own
      (both-walked m1 m2 m3 f1 f2 f3 (spots_in (around_children a m) ns) (spots_in a fs) kids behind)

-- Fiber by fiber

module _ (t : Trees Fiber) (i : ℕ) (v : Fiber) (c s : Option ℕ) (l : Linked t i v c s) where
  -- the nodes of a list are those of its first fiber, then those of the others
  pub spots-linked : (a : Around) → spots_of a (list_of t (Some i)) ≡ first_spots a (list_of t (Some i)) ++ spots_of a (list_of t s)
  spots-linked a = let e = l.list in rw e (list-spots a 0 i v (list_of t c) (list_of t s) (any-place a (list_of t s)))

  -- a fiber that stands for no node has none
  pub no-spots : mark_in v.stage ≡ None → (a : Around) → first_spots a (list_of t (Some i)) ≡ []
  no-spots m a = let e = l.list in rw (e, m) refl

  -- a fiber with a mark has those of its node
  pub node-spots : (m : Mark) → v.stage ≡ begun m → (a : Around) → first_spots a (list_of t (Some i)) ≡ spots a (node_here t i v c s l m)
  node-spots m is a =
      ap (λ o. spots_in a (forest (o ∷ []))) (sym (node_read t i v c s l m is (node_here t i v c s l m) _ _ refl refl refl))
      ∙ append-nil (spots a (node_here t i v c s l m))

-- The whole tree

-- the numbers that fibers tell are those of the hosts of their tree, if each host has one
tree-numbers : (x : Node) (s : Shape Fiber) → IsTreeOf (Some x) s → AreNumbered x → numbers_at (spots_of at_root s) ≡ map (λ h. h.number) (hosts (Some x))
tree-numbers x s is k =
    ap (λ ns. numbers_at (spots_in at_root (forest ns))) (tree_places x s is)
    ∙ ap numbers_at (append-nil (spots at_root (trimmed x)))
    ∙ ap numbers_at (tree_spots_same (Some x))
    ∙ filter_map_same trimmed_spot (λ s. host_number (spot_mark s)) (λ s. ap host_number (mark_same s.at)) (spots at_root x)
    ∙ numbers-hosts at_root x k

-- a walk over a sound tree that began at the container and met each wanted number has listed the hosts with wanted parents
pub tree-walked : (w : ℕ → Bool) (m0 m1 : ℕ → Bool) (f0 f1 : List Host) (x : Node) (s : Shape Fiber) → IsTreeOf (Some x) s → IsSound x
    → ((n : ℕ) → m0 n ≡ nat_eq n container) → ((n : ℕ) → w n ≡ true → m1 n ≡ true) → f0 ≡ []
    → HasWalked w m0 m1 f0 f1 (spots_of at_root s) → f1 ≡ with_parents w (hosts (Some x))
tree-walked w m0 m1 f0 f1 x s is sound began all empty walked =
    let numbers = tree-numbers x s is sound.numbered in
    walked.told (subst AreOnce (sym numbers) (distinct-once (hosts (Some x)) sound.distinct))
    (λ n wants there. (began n ∙ other n (sym (ap (λ ns. is_among ns n) numbers ∙ among-hosts (hosts (Some x)) n) ∙ there), all n wants))
    ∙ ap (λ hs. hs ++ with_parents w (filter_map host_at (spots_of at_root s))) empty
    ∙ ap (with_parents w) (tree-hosts x s is)
  where
    other : (n : ℕ) → has_host (hosts (Some x)) n ≡ true → nat_eq n container ≡ false
    other n h = other_number (hosts (Some x)) container n sound.above h
