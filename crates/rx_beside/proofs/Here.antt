-- The fibers of a list, one after the other.
use Rattle.std.proofs.Common.{◌≡◌, ℕ, zero, suc, ◌+◌, ◌-◌, ◌≤◌, ◌++◌, List, [], ◌∷◌, All, true, false, length, map, refl, sym, ap, ◌∙◌, subst, arith, is_some, Option, Some, None, IfSome}
use Rattle.std.specs.Prelude.{slice_get}
use Rattle.std.specs.Option.{option_flatten}
use Rattle.std.proofs.lemmas.List.{append_assoc, append-nil, length-append, map-append}
use Rattle.std.proofs.lemmas.List.Elements.{All-append, All-push}
use Rattle.rx_elem.specs.Trees.{Mark, Node, Forest, forest, element_of, elements_in}
use Rattle.rx_compare.specs.Matched.{element_at}
use Rattle.rx_compare.proofs.Places.{map-element_at}
use Rattle.rx_fiber.specs.OldLists.{filled}
use Rattle.rx_lists.specs.Shapes.{size}
use Rattle.rx_links.specs.Drafts.{Trees, Makes}
use Rattle.rx_links.specs.Readers.{IsIn}
use Rattle.rx_fiber.specs.Fibers.{Fiber}
use Rattle.rx_read.specs.Lists.{list_of}
use Rattle.rx_read.specs.Places.{mark_in, node_from, own_places, places_in, fallback_behind, first_places, node_if, first_node}
use Rattle.rx_read.proofs.Links.{Linked}
use Rattle.rx_beside.specs.Children.{IsNode, IsMadeIn}
use Rattle.rx_beside.specs.Slots.{fiber_in}

pub no_some : {A : Type 0} → (o : Option A) → is_some o ≡ false → o ≡ None
no_some None e = refl
no_some (Some i) e = cc

pub not_some : {A : Type 0} (o : Option A) → ((x : A) → o ≡ Some x → ⊥) → o ≡ None
not_some None f = refl
not_some (Some x) f = absurd (f x refl)

pub one_more_filled : {A : Type 0} → (k : ℕ) (x : A) → filled (k + 1) x ≡ filled k x ++ x ∷ []
one_more_filled zero x = refl
one_more_filled (suc k) x = let e : suc k + 1 ≡ suc (k + 1) = omega arith in rw e (ap (λ l. x ∷ l) (one_more_filled k x))

-- of no places anything holds
pub none_of : {A : Type 0} (P : A → Type 0) (k : ℕ) → All (λ o. IfSome o P) (filled k None)
none_of P zero = λ k d l. absurd (omega arith)
none_of {A} P (suc k) = All-append (λ o. IfSome o P) (None ∷ []) (filled k None) one (none_of P k)
  where
    one : All {X = Option A} (λ o. IfSome o P) (None ∷ [])
    one zero d l = tt
    one (suc k) d l = absurd (omega arith)

module _ (t : Trees Fiber) where
  -- the node that a fiber stands for
  abbrev node_of : Option ℕ → Option Node
  node_of o = first_node (list_of t o)

  no_nodes : (k : ℕ) → map node_of (filled k None) ≡ filled k None
  no_nodes zero = refl
  no_nodes (suc k) = ap (λ l. None ∷ l) (no_nodes k)

  by_mark : (o : Option Mark) (n : ℕ) (v : Fiber) (kids : Forest) (behind : Option Forest) → is_some o ≡ true
      → (x : Node) × (node_if o v kids behind ≡ Some x) × (own_places o n v kids behind ≡ filled (v.place - n) None ++ Some x ∷ [])
  by_mark None n v kids behind e = cc
  by_mark (Some m) n v kids behind e = (node_from v m kids behind, refl, refl)

  no_mark : (o : Option Mark) (n : ℕ) (v : Fiber) (kids : Forest) (behind : Option Forest) → is_some o ≡ false → own_places o n v kids behind ≡ []
  no_mark None n v kids behind e = refl
  no_mark (Some m) n v kids behind e = cc

  module _ (i : ℕ) (v : Fiber) (c s : Option ℕ) (l : Linked t i v c s) where
    -- the places of a list are those up to the first fiber's, and those behind it
    pub next_places : (r : Option ℕ) → ((m : ℕ) → places_in m (list_of t s) ≡ places_in m (list_of t r)) → (n : ℕ)
        → places_in n (list_of t (Some i)) ≡ first_places n (list_of t (Some i)) ++ places_in (n + length (first_places n (list_of t (Some i)))) (list_of t r)
    next_places r same n =
        let q = l.list in
        let own = first_places n (list_of t (Some i)) in
        ap (places_in n) q ∙ sym (ap (λ d. first_places n d ++ places_in (n + length (first_places n d)) (list_of t s)) q) ∙ ap (λ xs. own ++ xs) (same (n + length own))

    -- those of a fiber that stands for no node are passed
    pub passed : is_some (mark_in v.stage) ≡ false → (n : ℕ) → places_in n (list_of t (Some i)) ≡ places_in n (list_of t s)
    passed e n =
        let own = no_mark (mark_in v.stage) n v (forest (places_in 0 (list_of t c))) (fallback_behind (list_of t s)) e in
        let z : n + 0 ≡ n = omega arith in
        ap (places_in n) l.list ∙ ap (λ xs. xs ++ places_in (n + length xs) (list_of t s)) own ∙ ap (λ k. places_in k (list_of t s)) z

    -- a fiber that stands for no node has no place
    pub not_added : (xs : List (Option ℕ)) → is_some (mark_in v.stage) ≡ false → map node_of xs ≡ map node_of xs ++ first_places (length xs) (list_of t (Some i))
    not_added xs e =
        let q = l.list in
        let p : first_places (length xs) (list_of t (Some i)) ≡ [] =
        rw q (no_mark (mark_in v.stage) (length xs) v (forest (places_in 0 (list_of t c))) (fallback_behind (list_of t s)) e) in
        sym (append-nil (map node_of xs)) ∙ ap (λ l. map node_of xs ++ l) (sym p)

    pub stands_for : (n : ℕ) → is_some (mark_in v.stage) ≡ true
        → (x : Node) × (node_of (Some i) ≡ Some x) × (first_places n (list_of t (Some i)) ≡ filled (v.place - n) None ++ Some x ∷ [])
    stands_for n e =
        let q = l.list in
        let (x, is, places) = by_mark (mark_in v.stage) n v (forest (places_in 0 (list_of t c))) (fallback_behind (list_of t s)) e in
        (x, ap first_node q ∙ is, ap (first_places n) q ∙ places)

    -- it stands at its place
    pub stands_at : (k : ℕ) → k ≡ v.place → is_some (mark_in v.stage) ≡ true → (n : ℕ) → first_places n (list_of t (Some i)) ≡ filled (k - n) None ++ node_of (Some i) ∷ []
    stands_at k at e n =
        let (x, is, places) = stands_for n e in
        places ∙ sym (λ j. filled (at j - n) None ++ is j ∷ [])

    pub is_node : IsIn t i → is_some (mark_in v.stage) ≡ true → IsNode t i
    is_node inside e = let (x, is, places) = stands_for 0 e in record { inside = inside; node = x; stands = is }

    -- the places of the last one of a list are its own
    pub last_places : s ≡ None → (n : ℕ) → places_in n (list_of t (Some i)) ≡ first_places n (list_of t (Some i))
    last_places last n =
        let own = first_places n (list_of t (Some i)) in
        next_places s (λ m. refl) n ∙ ap (λ o. own ++ places_in (n + length own) (list_of t o)) last ∙ append-nil own

    module _ (xs ys zs : List (Option ℕ)) (begun : is_some (mark_in v.stage) ≡ true) (filled_up : ys ≡ xs ++ filled (v.place - length xs) None) (pushed : zs ≡ ys ++ Some i ∷ []) where
      -- the fibers go on with it
      pub added : map node_of zs ≡ map node_of xs ++ first_places (length xs) (list_of t (Some i))
      added =
          ap (map node_of) (pushed ∙ ap (λ l. l ++ Some i ∷ []) filled_up)
          ∙ (map-append node_of (xs ++ filled (v.place - length xs) None) (Some i ∷ [])
          ∙ (ap (λ l. l ++ node_of (Some i) ∷ []) (map-append node_of xs (filled (v.place - length xs) None))
          ∙ (append_assoc (map node_of xs) (map node_of (filled (v.place - length xs) None)) (node_of (Some i) ∷ [])
          ∙ (ap (λ l. map node_of xs ++ (l ++ node_of (Some i) ∷ [])) (no_nodes (v.place - length xs))
          ∙ ap (λ l. map node_of xs ++ l) (sym (stands_at v.place refl begun (length xs)))))))

      -- what holds of each holds of this one
      pub all_added : (P : ℕ → Type 0) → P i → All (λ o. IfSome o P) xs → All (λ o. IfSome o P) zs
      all_added P this before =
          subst (All (λ o. IfSome o P)) (sym (pushed ∙ ap (λ l. l ++ Some i ∷ []) filled_up))
          (All-push (λ o. IfSome o P) (xs ++ filled (v.place - length xs) None) (Some i)
          (All-append (λ o. IfSome o P) xs (filled (v.place - length xs) None) before (none_of P (v.place - length xs)))
          this)

-- places that go on with those of one fiber
pub list_goes : {X : Type 0} (xs ys all own from : List X) (rest : ℕ → List X) → xs ++ from ≡ all → from ≡ own ++ rest (length xs + length own) → ys ≡ xs ++ own → ys ++ rest (length ys) ≡ all
list_goes xs ys all own from rest before goes e =
    let longer : length ys ≡ length xs + length own = ap length e ∙ length-append xs own in
    ap (λ n. ys ++ rest n) longer
    ∙ (ap (λ l. l ++ rest (length xs + length own)) e
    ∙ (append_assoc xs own (rest (length xs + length own))
    ∙ (ap (λ l. xs ++ l) (sym goes) ∙ before)))

-- The elements of a list

element_by : (o : Option Mark) (v : Fiber) (kids : Forest) (behind : Option Forest) (x : Node) → node_if o v kids behind ≡ Some x → element_of x ≡ v.element
element_by None v kids behind x e = cc
element_by (Some m) v kids behind x e = let q : node_from v m kids behind ≡ x = cc in ap element_of (sym q)

-- the element of a fiber is that of its node
pub element_is : (t : Trees Fiber) (i : ℕ) (v : Fiber) (c s : Option ℕ) → Linked t i v c s → (x : Node) → first_node (list_of t (Some i)) ≡ Some x → v.element ≡ element_of x
element_is t i v c s l x e =
    let q = l.list in
    sym (element_by (mark_in v.stage) v (forest (places_in 0 (list_of t c))) (fallback_behind (list_of t s)) x (sym (ap first_node q) ∙ e))

after_map : {A B C : Type 0} (g : B → C) (f : A → B) (xs : List A) → map (λ x. g (f x)) xs ≡ map g (map f xs)
after_map g f [] = refl
after_map g f (x ∷ xs) = ap (λ l. g (f x) ∷ l) (after_map g f xs)

pub elements_are : (f : Option ℕ → Option Node) (xs : List (Option ℕ)) → map (λ o. element_at (f o)) xs ≡ elements_in (forest (map f xs))
elements_are f xs = after_map element_at f xs ∙ map-element_at (map f xs)

-- One of a list

pub in_list : (P : ℕ → Type 0) (fs : List (Option ℕ)) (p : Option ℕ) → All (λ o. IfSome o P) fs → IfSome (fiber_in fs p) P
in_list P fs None all = tt
in_list P fs (Some k) all = at fs k all
  where
    at : (fs : List (Option ℕ)) (k : ℕ) → All (λ o. IfSome o P) fs → IfSome (option_flatten (slice_get fs k)) P
    at [] k all = tt
    at (f ∷ fs) zero all = all 0 None (omega arith)
    at (f ∷ fs) (suc k) all = at fs k (λ j d l. all (suc j) d (omega arith))

-- a made one of a list, with those behind it
pub made_of : (t : Trees Fiber) (first : Option ℕ) (o : Option ℕ) → IfSome o (IsMadeIn t first) → IfSome o (Makes t.draft) × (size (list_of t o) ≤ size (list_of t first))
made_of t first None h = (tt, omega arith)
made_of t first (Some i) h = (h.made, h.within)
