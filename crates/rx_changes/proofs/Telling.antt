-- What a node tells beside its effects, by its mark.
use Rattle.std.proofs.Common.{◌≡◌, ℕ, Bool, true, false, List, [], ◌∷◌, ◌++◌, ℤ, Option, Some, None, refl, ap, sym, ◌∙◌, append-nil, if◌then◌else◌, is_some, unwrap_or}
use Rattle.std.specs.List.{cons_option}
use Rattle.std.specs.Option.{option_map_or}
use Rattle.rx_base.specs.Awaits.{Awaits, nothing, union}
use Rattle.rx_susp.specs.Boundary.{would_hide}
use Rattle.rx_elem.specs.Trees.{awaits_in, boundary_in, caught_in, host_number, mark_of, old_caught}
use Rattle.rx_elem.specs.Compare.{Change}
use Rattle.rx_forest.specs.HostOps.{placed_in}
use Rattle.rx_meaning.specs.Outcome.{caught_anew, old_state}
use Rattle.rx_compare.specs.Hidden.{hidden_after}
use Rattle.rx_changes.specs.Found.{Found, with_changes}

-- what is found, but these hosts that are placed, values that are caught, and awaits that are hidden
abbrev pub telling : Found → List ℕ → List ℤ → Option Awaits → Found
telling f placed caught hidden = record { layout = f.layout; passive = f.passive; placed = placed; caught = caught; hidden = hidden }

-- a node tells these
pub tells : (c : Change) (f : Found) (placed : List ℕ) (caught : List ℤ) (hidden : Option Awaits)
    → placed ≡ f.placed ++ cons_option (placed_in c) [] → caught ≡ f.caught ++ cons_option (caught_anew c) [] → hidden ≡ hidden_after f.hidden (c ∷ [])
    → telling f placed caught hidden ≡ with_changes (c ∷ []) f
tells c f placed caught hidden p k h = λ i. telling f (p i) (k i) (h i)

both : {A : Type 0} (b : Bool) → (if b then (let o : Option A = None in o) else None) ≡ None
both true = refl
both false = refl

-- what is no host isn't placed
pub places-none : (c : Change) (ns : List ℕ) → host_number (mark_of c.new) ≡ None → ns ≡ ns ++ cons_option (placed_in c) []
places-none c ns e = sym (append-nil ns) ∙ ap (λ o. ns ++ cons_option o []) (sym (ap (λ o. if c.displaced then o else None) e ∙ both c.displaced))

-- what is no error boundary catches nothing
pub catches-none : (c : Change) (ns : List ℤ) → caught_in (mark_of c.new) ≡ None → ns ≡ ns ++ cons_option (caught_anew c) []
catches-none c ns e = sym (append-nil ns) ∙ ap (λ o. ns ++ cons_option o []) (sym (ap (λ o. if is_some (old_caught c.old) then None else o) e ∙ both (is_some (old_caught c.old))))

-- what is no boundary hides nothing
pub hides-none : (c : Change) (before : Option Awaits) → boundary_in (mark_of c.new) ≡ None → before ≡ hidden_after before (c ∷ [])
hides-none c before e =
    ap (λ o. if option_map_or (would_hide (old_state c) c.was_visible) o false then Some (union (unwrap_or before nothing) (awaits_in (mark_of c.new))) else before) (sym e)
