-- The hooks of the first tree of a program can be settled, and then the hook of its instance is kept.
use Rattle.std.proofs.Common.{◌≡◌, ◌<◌, None, IsSomeAnd, List, [], ◌∷◌, length, true, refl, sym, subst, arith}
use Rattle.std.specs.Prelude.{pos}
use Rattle.rx_base.specs.declared.cut.Cut.{Cut}
use Rattle.rx_lane.specs.Lanes.{Lanes}
use Rattle.rx_ast.specs.Syntax.{Program}
use Rattle.rx_check.specs.Runnable.{IsRunnable}
use Rattle.rx_elem.specs.Elements as elements
use Rattle.rx_elem.specs.Numbers.{numbered}
use Rattle.rx_elem.specs.Trees.{Node, node, none, of_instance, vacant}
use Rattle.rx_hooks.specs.declared.hook.Hook.{Hook}
use Rattle.rx_meaning.specs.Body.{body_of}
use Rattle.rx_meaning.specs.Fresh.{fresh, made, rendered}
use Rattle.rx_model.specs.State.{Progress, opening}
use Rattle.rx_model.specs.Committing.{committed_state, sight_of}
use Rattle.rx_model.specs.HooksOf.{KeepsAllHooks}
use Rattle.rx_model.specs.Laws.{IsBounded}
use Rattle.rx_hook_store.proofs.Staying.{hook_is}
use Rattle.rx_hook_store.proofs.Stores.{KeptBy, each-keeps}
use Rattle.machine_tests.specs.FirstTree.{counter, first_tree}
use Rattle.rx_settle.specs.Settling.{CanSettle, IsSettlingOf}

-- what the first render gives: an instance that has yet to get its number, above the place of null
abbrev pub rendered_first : Node
rendered_first =
    node (elements.comp 0 None [] elements.none)
    (of_instance (record { number = None; component = 0; initials = pos 5 ∷ []; reads = []; versions = []; effects = [] })) (vacant none) none

-- the first render
abbrev pub first_render : Lanes → Progress
first_render lanes = record { lanes = lanes; cut = record { updates = 0; resolutions = 0 }; units = 0; bodies = 0 }

-- what is accepted is bounded
runnable_bounded : (p : Program) → IsRunnable p → IsBounded p
runnable_bounded p h = record { rooted = h.rooted; ready = h.ready; caught = h.caught; shallow = h.shallow; small = h.small; apart = h.keys_apart; declared = h.reads_declared }

-- the first render gives it
gives_first : (lanes : Lanes) → fresh (sight_of counter opening (first_render lanes)) None ≡ made rendered_first
unfolding fresh rendered body_of
gives_first lanes = refl

-- the machine's start and this render are at hand
pub is_first : (p : Program) (kept : KeptBy) (new : Node) (lanes : Lanes) (cut : Cut) → p ≡ counter → IsRunnable p → KeepsAllHooks p opening kept → new ≡ first_tree
    → cut ≡ record { updates = 0; resolutions = 0 } → IsSettlingOf p kept None new 1 lanes cut opening (first_render lanes) rendered_first
is_first p kept new lanes cut is runnable keeps tree at =
    record {
      bounded = runnable_bounded p runnable;
      reached = ([], refl);
      gives = subst (λ (q : Program). fresh (sight_of q opening (first_render lanes)) None ≡ made rendered_first) (sym is) (gives_first lanes);
      done = tt;
      links = λ k i le. refl;
      keeps = keeps;
      old_is = refl;
      new_is = tree;
      first_is = refl;
      lanes_are = refl;
      cut_is = at;
    }

-- so the hooks can be settled
pub first_settles : (p : Program) (kept : KeptBy) (new : Node) (lanes : Lanes) (cut : Cut) → p ≡ counter → IsRunnable p → KeepsAllHooks p opening kept → new ≡ first_tree
    → cut ≡ record { updates = 0; resolutions = 0 } → CanSettle p kept None new 1 lanes cut
first_settles p kept new lanes cut is runnable keeps tree at =
    record { state = opening; progress = first_render lanes; rendered = rendered_first; is = is_first p kept new lanes cut is runnable keeps tree at }

-- after that the hook of the first instance is kept
pub first_kept : (p : Program) (lanes : Lanes) (kept : KeptBy) → KeepsAllHooks p (committed_state opening (first_render lanes) (numbered opening.numbers rendered_first)) kept
    → IsSomeAnd (kept 1) (λ (hooks : List Hook). 0 < length hooks)
first_kept p lanes kept keeps =
    let after = committed_state opening (first_render lanes) (numbered opening.numbers rendered_first) in
    hook_is p after kept 1 0 (pos 5 ∷ []) (omega arith)
    (each-keeps p after kept keeps 0 (record { number = 1; component = 0; initials = pos 5 ∷ []; owner = None; visible = true }) refl)
