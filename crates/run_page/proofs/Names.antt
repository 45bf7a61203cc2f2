-- The names of lanes, one behind the other.
use Rattle.std.proofs.Common.{◌≡◌, ◌∙◌, sym, ap, ℕ, List, ◌∷◌, ◌++◌, refl, true, false, get_or, drop, length, ◌+◌, ◌<◌, ◌≤◌, append_assoc, append-nil}
use Rattle.std.specs.Prelude.{filter, flat_map}
use Rattle.std.proofs.lemmas.List.{drop_more, drop_all}
use Rattle.rx_base.specs.Values.{Text}
use Rattle.rx_lane.specs.declared.lane.Lane.{Lane}
use Rattle.rx_lane.specs.declared.lane.Lane.TheVariants.{Sync}
use Rattle.rx_lane.specs.Lanes.{Lanes, has, all_lanes, lanes_where}
use Rattle.run_page.specs.Facts.{name_behind}

-- the names that are left
abbrev pub names_left : Lanes → List Lane → Text
names_left lanes left = flat_map name_behind (filter (has lanes) left)

pub names-begin : (lanes : Lanes) → names_left lanes all_lanes ≡ flat_map name_behind (lanes_where (has lanes))
unfolding lanes_where
names-begin lanes = refl

names-in : (lanes : Lanes) (l : Lane) (left : List Lane) → has lanes l ≡ true → names_left lanes (l ∷ left) ≡ name_behind l ++ names_left lanes left
names-in lanes l left h = rw h refl

names-out : (lanes : Lanes) (l : Lane) (left : List Lane) → has lanes l ≡ false → names_left lanes (l ∷ left) ≡ names_left lanes left
names-out lanes l left h = rw h refl

pub names-next : (lanes : Lanes) (every : List Lane) (i : ℕ) (text new all : Text) → i < length every → text ++ names_left lanes (drop i every) ≡ all
    → has lanes (get_or every i Sync) ≡ true → new ≡ text ++ name_behind (get_or every i Sync) → new ++ names_left lanes (drop (i + 1) every) ≡ all
names-next lanes every i text new all within so_far h is =
    ap (λ (t : Text). t ++ names_left lanes (drop (i + 1) every)) is ∙ append_assoc text (name_behind (get_or every i Sync)) (names_left lanes (drop (i + 1) every))
    ∙ ap (λ (t : Text). text ++ t) (sym (ap (names_left lanes) (drop_more every i Sync within) ∙ names-in lanes (get_or every i Sync) (drop (i + 1) every) h)) ∙ so_far

pub names-skip : (lanes : Lanes) (every : List Lane) (i : ℕ) (text all : Text) → i < length every → text ++ names_left lanes (drop i every) ≡ all
    → has lanes (get_or every i Sync) ≡ false → text ++ names_left lanes (drop (i + 1) every) ≡ all
names-skip lanes every i text all within so_far h =
    ap (λ (t : Text). text ++ t) (sym (ap (names_left lanes) (drop_more every i Sync within) ∙ names-out lanes (get_or every i Sync) (drop (i + 1) every) h)) ∙ so_far

pub names-end : (lanes : Lanes) (every : List Lane) (i : ℕ) (text all : Text) → length every ≤ i → text ++ names_left lanes (drop i every) ≡ all → text ≡ all
names-end lanes every i text all past so_far = sym (append-nil text) ∙ ap (λ (t : Text). text ++ t) (sym (ap (names_left lanes) (drop_all i every past))) ∙ so_far
