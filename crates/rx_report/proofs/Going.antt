-- How a walk goes on behind a host.
use Rattle.std.specs.Prelude.{◌≡◌, ℕ, ◌+◌, true, false, List, [], ◌∷◌, ◌++◌, Option, Some, None, is_some, reverse, length, refl}
use Rattle.std.proofs.Common.{sym, ◌∙◌, ap, subst, append_assoc}
use Rattle.std.proofs.lemmas.List.{reverse-append}
use Rattle.rx_elem.specs.Spots.{container}
use Rattle.rx_forest.specs.Hosts.{Host}
use Rattle.rx_forest.specs.Forests.{HostForest}
use Rattle.rx_host.specs.Kept.{first_of}
use Rattle.rx_lines.specs.Lines.{Line, tree_host}
use Rattle.rx_report.specs.Walks.{Walk, walked, step, Behind, outermost, inside, ToGo, over, comes}

-- the number behind another one among the children that it stands among
abbrev pub IsNext : HostForest → ℕ → Option ℕ → Type 0
IsNext f n next = (p : ℕ) (before after : List ℕ) → f.children p ≡ before ++ n ∷ after → next ≡ first_of after

split_later : (before after : List ℕ) (n m : ℕ) → before ++ n ∷ m ∷ after ≡ (before ++ n ∷ []) ++ m ∷ after
split_later before after n m = sym (append_assoc before (n ∷ []) (m ∷ after))

-- what a walk below a parent lists from a later sibling on
sibling_outermost : (f : HostForest) (n m : ℕ) (before after : List ℕ) (left : List Host) (lines : List Line) → f.children container ≡ before ++ n ∷ after
    → Walk f container 1 after left lines → Some m ≡ first_of after → ToGo f [] (Some m) left lines
sibling_outermost f n m before _ _ _ e walked h = absurd (cc)
sibling_outermost f n m before _ _ _ e (step {n = k} {ns = ns} {below = b} {later = l} {deeper = d} {others = o} g num par held name first second) h =
    let same : k ≡ m = cc in
    subst (λ (i : ℕ). ToGo f [] (Some i) (g ∷ b ++ l) (tree_host 1 g ∷ d ++ o)) same
    (comes g num held name first (outermost (before ++ n ∷ []) ns (e ∙ split_later before ns n k) second))

sibling_inside : (f : HostForest) (above : List ℕ) (p level n m : ℕ) (before after : List ℕ) (later outer : List Host) (others last : List Line) → f.children p ≡ before ++ n ∷ after
    → Walk f p (level + 1) after later others → Behind f above level p outer last → Some m ≡ first_of after → ToGo f (p ∷ above) (Some m) (later ++ outer) (others ++ last)
sibling_inside f above p level n m before _ _ outer _ last e walked behind h = absurd (cc)
sibling_inside f above p level n m before _ _ outer _ last e (step {n = k} {ns = ns} {below = b} {later = l} {deeper = d} {others = o} g num par held name first second) behind h =
    let same : k ≡ m = cc in
    let hosts : b ++ (l ++ outer) ≡ (b ++ l) ++ outer = sym (append_assoc b l outer) in
    let lines : d ++ (o ++ last) ≡ (d ++ o) ++ last = sym (append_assoc d o last) in
    subst (λ (i : ℕ). ToGo f (p ∷ above) (Some i) ((g ∷ b ++ l) ++ outer) ((tree_host (level + 1) g ∷ d ++ o) ++ last)) same
    (subst (λ (gs : List Host). ToGo f (p ∷ above) (Some k) (g ∷ gs) ((tree_host (level + 1) g ∷ d ++ o) ++ last)) hosts
    (subst (λ (ks : List Line). ToGo f (p ∷ above) (Some k) (g ∷ b ++ (l ++ outer)) (tree_host (level + 1) g ∷ ks)) lines
    (comes g num held name first (inside (before ++ n ∷ []) ns (e ∙ split_later before ns n k) second behind))))

sibling_next : (f : HostForest) (above : List ℕ) (level n m : ℕ) (left : List Host) (lines : List Line) → Behind f above level n left lines
    → IsNext f n (Some m) → ToGo f above (Some m) left lines
sibling_next f _ _ n m _ _ (outermost {later = later} {others = others} before after e walk) next =
    sibling_outermost f n m before after later others e walk (next container before after e)
sibling_next f _ _ n m _ _ (inside {p = p} {level = level} {above = above} {later = later} {outer = outer} {others = others} {last = last} before after e walk behind) next =
    sibling_inside f above p level n m before after later outer others last e walk behind (next p before after e)

-- a later sibling comes next
pub goes_on : (f : HostForest) (above : List ℕ) (level n : ℕ) (next : Option ℕ) (left : List Host) (lines : List Line) → is_some next ≡ true → IsNext f n next
    → Behind f above level n left lines → ToGo f above next left lines
goes_on f above level n None left lines some next behind = absurd (cc)
goes_on f above level n (Some m) left lines some next behind = sibling_next f above level n m left lines behind next

-- no later sibling is left

none_listed : (f : HostForest) (p level : ℕ) (after : List ℕ) (left : List Host) (lines : List Line) → Walk f p level after left lines → None ≡ first_of after
    → (left ≡ []) × (lines ≡ [])
none_listed f p level _ _ _ walked h = (refl, refl)
none_listed f p level _ _ _ (step g num par held name first second) h = absurd (cc)

pub is_over : (f : HostForest) (level n : ℕ) (left : List Host) (lines : List Line) → IsNext f n None → Behind f [] level n left lines → ToGo f [] None left lines
is_over f _ n _ _ next (outermost {later = later} {others = others} before after e walk) =
    let none = none_listed f container 1 after later others walk (next container before after e) in
    subst (λ (ls : List Line). ToGo f [] None later ls) (sym none.1) (subst (λ (hs : List Host). ToGo f [] None hs []) (sym none.0) over)

pub goes_up : (f : HostForest) (above : List ℕ) (p level n : ℕ) (left : List Host) (lines : List Line) → IsNext f n None → Behind f (p ∷ above) level n left lines
    → (now : ℕ) × Behind f above now p left lines
goes_up f above p _ n _ _ next (inside {level = level} {later = later} {outer = outer} {others = others} {last = last} before after e walk behind) =
    let none = none_listed f p (level + 1) after later others walk (next p before after e) in (
      level,
      subst (λ (ls : List Line). Behind f above level p (later ++ outer) ls) (sym (ap (λ (ks : List Line). ks ++ last) none.1))
          (subst (λ (hs : List Host). Behind f above level p hs last) (sym (ap (λ (gs : List Host). gs ++ outer) none.0)) behind),
    )

-- Hosts above, of which the last is the nearest

pub nearest_first : (above : List ℕ) (p : ℕ) → reverse (above ++ p ∷ []) ≡ p ∷ reverse above
nearest_first above p = reverse-append above (p ∷ [])

pub none_above : (above : List ℕ) → length above ≡ 0 → reverse above ≡ []
none_above [] h = refl
none_above (p ∷ above) h = absurd (cc)

pub none_comes : (f : HostForest) (n : ℕ) (next : Option ℕ) → is_some next ≡ false → IsNext f n next → IsNext f n None
none_comes f n None none h = h
none_comes f n (Some m) none h = absurd (cc)

-- Behind a host that was listed

child_next : (f : HostForest) (above : List ℕ) (level n m : ℕ) (ns : List ℕ) (below later : List Host) (deeper others : List Line) → f.children n ≡ ns
    → Walk f n (level + 1) ns below deeper → Behind f above level n later others → Some m ≡ first_of ns → ToGo f (n ∷ above) (Some m) (below ++ later) (deeper ++ others)
child_next f above level n m _ _ later _ others e walked behind h = absurd (cc)
child_next f above level n m _ _ later _ others e (step {n = k} {ns = ns} {below = b} {later = l} {deeper = d} {others = o} g num par held name first second) behind h =
    let same : k ≡ m = cc in
    let hosts : b ++ (l ++ later) ≡ (b ++ l) ++ later = sym (append_assoc b l later) in
    let lines : d ++ (o ++ others) ≡ (d ++ o) ++ others = sym (append_assoc d o others) in
    subst (λ (i : ℕ). ToGo f (n ∷ above) (Some i) ((g ∷ b ++ l) ++ later) ((tree_host (level + 1) g ∷ d ++ o) ++ others)) same
    (subst (λ (gs : List Host). ToGo f (n ∷ above) (Some k) (g ∷ gs) ((tree_host (level + 1) g ∷ d ++ o) ++ others)) hosts
    (subst (λ (ks : List Line). ToGo f (n ∷ above) (Some k) (g ∷ b ++ (l ++ later)) (tree_host (level + 1) g ∷ ks)) lines
    (comes g num held name first (inside [] ns e second behind))))

-- its first child comes next
pub goes_down : (f : HostForest) (above : List ℕ) (n m : ℕ) (h : Host) (left : List Host) (l : Line) (lines : List Line) → Some m ≡ first_of (f.children n)
    → ToGo f above (Some n) (h ∷ left) (l ∷ lines) → ToGo f (n ∷ above) (Some m) left lines
goes_down f above n m _ _ _ _ is (comes {level = level} {below = b} {later = l} {deeper = d} {others = o} g num held name first behind) =
    child_next f above level n m (f.children n) b l d o refl first behind is

-- or what is behind it, if it has none
pub goes_past : (f : HostForest) (above : List ℕ) (n : ℕ) (h : Host) (left : List Host) (l : Line) (lines : List Line) → None ≡ first_of (f.children n)
    → ToGo f above (Some n) (h ∷ left) (l ∷ lines) → (level : ℕ) × Behind f above level n left lines
goes_past f above n _ _ _ _ is (comes {level = level} {below = b} {later = l} {deeper = d} {others = o} g num held name first behind) =
    let none = none_listed f n (level + 1) (f.children n) b d first is in (
      level,
      subst (λ (ls : List Line). Behind f above level n (b ++ l) ls) (sym (ap (λ (ks : List Line). ks ++ o) none.1))
          (subst (λ (hs : List Host). Behind f above level n hs o) (sym (ap (λ (gs : List Host). gs ++ l) none.0)) behind),
    )
