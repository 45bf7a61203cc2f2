-- The instances that are asked for of a node and below, part by part.
use Rattle.std.proofs.Common.{◌≡◌, ℕ, ◌+◌, ◌<◌, Bool, true, cond, List, [], ◌∷◌, ◌++◌, Option, Some, None, length, get_or, drop, option_map, sym, ap, ◌∙◌, append_assoc}
use Rattle.std.specs.List.{cons_option}
use Rattle.std.proofs.lemmas.List.Elements.{filter-append, filter_map-append}
use Rattle.std.proofs.lemmas.Option.{same_Some}
use Rattle.rx_elem.specs.Trees.{Node, Mark, mark_of, children_of, fallback_of, forest, Instance, of_instance}
use Rattle.rx_elem.specs.Spots.{Around, Mounted, around_children, mounted_as, mounted_at, mounted_in, spots, spots_in}
use Rattle.rx_spots.specs.Places.{among}
use Rattle.rx_spots.proofs.Lists.{front}
use Rattle.rx_spots.proofs.Mounting.{mounted-node, mounted-vacant, own_mounted}

module _ (asked : ℕ → Bool) where
  among-append : (xs ys : List Mounted) → among asked (xs ++ ys) ≡ among asked xs ++ among asked ys
  among-append xs ys = filter-append (λ (m : Mounted). asked m.number) xs ys

  -- an instance of a number that is asked for
  pub among-own : (a : Around) (m : Mark) (i : Instance) (n : ℕ) (x : Mounted) → m ≡ of_instance i → i.number ≡ Some n → Some x ≡ mounted_as a (record i { number = Some n }) → asked n ≡ true
      → among asked (own_mounted a m) ≡ x ∷ []
  among-own a m i n x e f is has =
      let y : Mounted = record { number = n; component = i.component; initials = i.initials; owner = a.owner; visible = a.visible } in
      let same : x ≡ y = same_Some x y is in
      ap (λ k. among asked (own_mounted a k)) e
      ∙ (ap (λ o. among asked (cons_option (option_map (λ k. let z : Mounted = record { number = k; component = i.component; initials = i.initials; owner = a.owner; visible = a.visible } in z) o) [])) f
      ∙ (ap (λ b. cond b (y ∷ []) []) has ∙ ap (λ z. z ∷ []) (sym same)))

  -- the parts added one after another are all
  pub among-parts : (a : Around) (n : Node) (before own inside all : List Mounted) → own ≡ before ++ among asked (own_mounted a (mark_of n))
      → inside ≡ own ++ among asked (mounted_at (spots_in (around_children a (mark_of n)) (children_of n))) → all ≡ inside ++ among asked (mounted_at (spots_in a (fallback_of n)))
      → all ≡ before ++ among asked (mounted_at (spots a n))
  among-parts a n before own inside all e f g =
      let mine = own_mounted a (mark_of n) in
      let below = mounted_at (spots_in (around_children a (mark_of n)) (children_of n)) in
      let behind = mounted_at (spots_in a (fallback_of n)) in
      g
      ∙ (ap (λ xs. xs ++ among asked behind) (f ∙ ap (λ xs. xs ++ among asked below) e)
      ∙ (append_assoc (before ++ among asked mine) (among asked below) (among asked behind)
      ∙ (append_assoc before (among asked mine) (among asked below ++ among asked behind)
      ∙ ap (λ xs. before ++ xs)
      (sym (ap (among asked) (mounted-node a n) ∙ (among-append mine (below ++ behind) ∙ ap (λ xs. among asked mine ++ xs) (among-append below behind)))))))

  -- one node more
  pub among-more : (a : Around) (ns : List (Option Node)) (k : ℕ) (o : Option Node) (n : Node) (before after : List Mounted) → k < length ns → o ≡ get_or ns k o → o ≡ Some n
      → after ≡ before ++ among asked (mounted_at (spots a n))
      → after ++ among asked (mounted_at (spots_in a (forest (drop (k + 1) ns)))) ≡ before ++ among asked (mounted_at (spots_in a (forest (drop k ns))))
  among-more a ns k o n before after h e f g =
      let here = mounted_at (spots a n) in
      let rest = mounted_at (spots_in a (forest (drop (k + 1) ns))) in
      ap (λ xs. xs ++ among asked rest) g
      ∙ (append_assoc before (among asked here) (among asked rest)
      ∙ ap (λ xs. before ++ xs)
      (sym (ap (among asked)
      (ap (λ xs. mounted_at (spots_in a (forest xs))) (front ns k o h e) ∙ (ap (λ x. mounted_at (spots_in a (forest (x ∷ drop (k + 1) ns)))) f ∙ filter_map-append mounted_in (spots a n) (spots_in a (forest (drop (k + 1) ns)))))
      ∙ among-append here rest)))

  -- a place with no node
  pub among-vacant : (a : Around) (ns : List (Option Node)) (k : ℕ) (o : Option Node) → k < length ns → o ≡ get_or ns k o → o ≡ None
      → among asked (mounted_at (spots_in a (forest (drop (k + 1) ns)))) ≡ among asked (mounted_at (spots_in a (forest (drop k ns))))
  among-vacant a ns k o h e f = ap (among asked) (mounted-vacant a ns k o h e f)
