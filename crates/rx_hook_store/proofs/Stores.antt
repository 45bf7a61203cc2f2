-- What is kept by instance, over a render.
use Rattle.std.proofs.Common.{◌≡◌, ℕ, ℤ, Bool, true, false, nat_eq, Option, Some, slice_get, Result, Ok, Err, List, map, refl, sym, ap, ◌∙◌, subst, arith}
use Rattle.std.specs.Result.{OnErr, OnOk}
use Rattle.std.proofs.lemmas.Bool.Decides.{nat_tests}
use Rattle.std.proofs.lemmas.Result.{on_ok_weaker}
use Rattle.rx_base.specs.declared.cut.Cut.{Cut}
use Rattle.rx_lane.specs.Lanes.{Lanes, no_lanes}
use Rattle.rx_ast.specs.Syntax.{Program}
use Rattle.rx_queue.specs.History.{Answers}
use Rattle.rx_hooks.specs.declared.hook.Hook.{Hook}
use Rattle.rx_hooks.specs.Hooks.{AllAboveDone, HookHistory, HooksStandFor, rendered}
use Rattle.rx_meaning.specs.Expressions.{answers_of}
use Rattle.rx_meaning.specs.Fresh.{Sight}
use Rattle.rx_meaning.specs.Settled.{DoneBefore}
use Rattle.rx_model.specs.State.{Progress, State}
use Rattle.rx_model.specs.Committing.{sight_of}
use Rattle.rx_model.specs.HooksOf.{KeepsAllHooks}
use Rattle.rx_elem.specs.Spots.{Mounted, mounted}
use Rattle.rx_hook_store.specs.Gives.{GivesValues}
use Rattle.rx_hook_store.specs.Rendered.{IsRendered, KeepsInstance, RendersHooks}
use Rattle.rx_hook_store.proofs.Rendering.{above-journal, above-rendered, committed-journal, committed-rendered, hooks-rendered, rendered-rendered, states-journal, states-rendered, states-seen}

-- what is kept by instance
abbrev pub KeptBy : Type 0
KeptBy = ℕ → Option (List Hook)

pub same_number : (i k : ℕ) → nat_eq i k ≡ true → i ≡ k
same_number i k e = grind (arith, nat_tests)

-- a number is another one, or not
pub by_number : {P : Type 0} (i k : ℕ) → (i ≡ k → P) → (nat_eq i k ≡ false → P) → P
by_number {P} i k here there = go (nat_eq i k) refl
  where
    go : (b : Bool) → nat_eq i k ≡ b → P
    go true e = here (same_number i k e)
    go false e = there e

-- ---- what is said of an instance is said of what is kept of it

pub gives-same : (s : Sight) (k : ℕ) (old new : KeptBy) (initials : List ℤ) → new k ≡ old k → GivesValues s old k initials → GivesValues s new k initials
gives-same s k old new initials same g =
    record {
      hooks = g.hooks;
      kept_is = same ∙ g.kept_is;
      histories = g.histories;
      stand = g.stand;
      above_done = g.above_done;
      values_are = g.values_are;
      without_are = g.without_are;
      done_are = g.done_are;
    }

pub keeps-same : (p : Program) (s : State) (k : ℕ) (old new : KeptBy) (initials : List ℤ) → new k ≡ old k → KeepsInstance p s old k initials → KeepsInstance p s new k initials
keeps-same p s k old new initials same g = record { hooks = g.hooks; kept_is = same ∙ g.kept_is; histories = g.histories; stand = g.stand; are_of = g.are_of }

pub rendered-same : (p : Program) (s : State) (lanes : Lanes) (cut : Cut) (k : ℕ) (old new : KeptBy) (initials : List ℤ) → new k ≡ old k
    → IsRendered p s lanes cut old k initials → IsRendered p s lanes cut new k initials
rendered-same p s lanes cut k old new initials same g =
    record { hooks = g.hooks; kept_is = same ∙ g.kept_is; histories = g.histories; stand = g.stand; are_of = g.are_of }

-- what is kept stands for the state if it does so for each mounted instance
pub all-keep : (p : Program) (s : State) (kept : KeptBy) → ((k : ℕ) (m : Mounted) → slice_get (mounted s.tree) k ≡ Some m → KeepsInstance p s kept m.number m.initials)
    → KeepsAllHooks p s kept
all-keep p s kept each k m at = let here = each k m at in (here.hooks, here.kept_is, (here.histories, here.stand, here.are_of))

-- ... and it does so for each if it stands for the state
pub each-keeps : (p : Program) (s : State) (kept : KeptBy) → KeepsAllHooks p s kept → (k : ℕ) (m : Mounted) → slice_get (mounted s.tree) k ≡ Some m
    → KeepsInstance p s kept m.number m.initials
each-keeps p s kept keeps k m at = let here = keeps k m at in record { hooks = here.0; kept_is = here.1; histories = here.2.0; stand = here.2.1; are_of = here.2.2 }

-- hooks that stand for the state give a render their values if what is done lies before its cut
pub keeps-give : (p : Program) (s : State) (g : Progress) (kept : KeptBy) (k : ℕ) (initials : List ℤ) → DoneBefore g.cut s.journal.updates → KeepsInstance p s kept k initials
    → GivesValues (sight_of p s g) kept k initials
keeps-give p s g kept k initials done keeps =
    record {
      hooks = keeps.hooks;
      kept_is = keeps.kept_is;
      histories = keeps.histories;
      stand = keeps.stand;
      above_done = above-journal s k 0 initials g.cut keeps.histories done keeps.are_of;
      values_are = states-journal (answers_of p) g.lanes g.cut s k 0 initials keeps.histories keeps.are_of;
      without_are = states-journal (answers_of p) no_lanes g.cut s k 0 initials keeps.histories keeps.are_of;
      done_are = committed-journal (answers_of p) s k 0 initials keeps.histories keeps.are_of;
    }

-- ---- a render

module _ (answers : Answers) (lanes : Lanes) (cut : Cut) (i : ℕ) (old new : KeptBy) (r : RendersHooks answers lanes cut i old new) where
  -- what was kept of the instance that is rendered is what was rendered
  were : (k : ℕ) (hooks : List Hook) → i ≡ k → old k ≡ Some hooks → hooks ≡ r.before
  were k hooks same e = let was = r.was in let at : old i ≡ old k = ap old same in cc

  -- its hooks stand for the rendered histories
  renders : (k : ℕ) (hooks : List Hook) (hs : List HookHistory) → i ≡ k → old k ≡ Some hooks → HooksStandFor answers hooks hs → AllAboveDone cut hs
      → HooksStandFor answers r.after (map (rendered lanes cut) hs)
  renders k hooks hs same e stand above = r.stand hs (subst (λ (l : List Hook). HooksStandFor answers l hs) (were k hooks same e) stand) above

  -- they are kept under its number
  is_now : (k : ℕ) → i ≡ k → new k ≡ Some r.after
  is_now k same = ap new (sym same) ∙ r.is

-- values that were given are given after a render with the same lanes at the same cut
gives-rendered : (s : Sight) (i k : ℕ) (old new : KeptBy) (initials : List ℤ) → RendersHooks (answers_of s.program) s.lanes s.cut i old new
    → GivesValues s old k initials → GivesValues s new k initials
gives-rendered s i k old new initials r g = by_number i k here (λ other. gives-same s k old new initials (r.others k other) g)
  where
    here : i ≡ k → GivesValues s new k initials
    here same =
        record {
          hooks = r.after;
          kept_is = is_now (answers_of s.program) s.lanes s.cut i old new r k same;
          histories = map (rendered s.lanes s.cut) g.histories;
          stand = renders (answers_of s.program) s.lanes s.cut i old new r k g.hooks g.histories same g.kept_is g.stand g.above_done;
          above_done = above-rendered s.lanes s.cut g.histories g.above_done;
          values_are = states-rendered (answers_of s.program) s.lanes s.cut g.histories ∙ g.values_are;
          without_are = states-seen (answers_of s.program) s.lanes no_lanes s.cut g.histories ∙ g.without_are;
          done_are = committed-rendered (answers_of s.program) s.lanes s.cut g.histories ∙ g.done_are;
        }

module _ (p : Program) (s : State) (lanes : Lanes) (cut : Cut) (i : ℕ) (old new : KeptBy) (done : DoneBefore cut s.journal.updates) (r : RendersHooks (answers_of p) lanes cut i old new) where
  -- the hooks of the instance that is rendered are rendered
  now-rendered : (k : ℕ) (initials : List ℤ) → i ≡ k → KeepsInstance p s old k initials → IsRendered p s lanes cut new k initials
  now-rendered k initials same g =
      record {
        hooks = r.after;
        kept_is = is_now (answers_of p) lanes cut i old new r k same;
        histories = g.histories;
        stand = renders (answers_of p) lanes cut i old new r k g.hooks g.histories same g.kept_is g.stand (above-journal s k 0 initials cut g.histories done g.are_of);
        are_of = g.are_of;
      }

  -- rendered hooks are hooks of the instance
  as-rendered : (k : ℕ) (initials : List ℤ) (kept : KeptBy) → IsRendered p s lanes cut kept k initials → KeepsInstance p s kept k initials
  as-rendered k initials kept g =
      record {
        hooks = g.hooks;
        kept_is = g.kept_is;
        histories = map (rendered lanes cut) g.histories;
        stand = g.stand;
        are_of = hooks-rendered s k 0 initials lanes cut g.histories g.are_of;
      }

  -- what the state says of an instance is kept
  keeps-rendered : (k : ℕ) (initials : List ℤ) → KeepsInstance p s old k initials → KeepsInstance p s new k initials
  keeps-rendered k initials g =
      by_number i k (λ same. as-rendered k initials new (now-rendered k initials same g)) (λ other. keeps-same p s k old new initials (r.others k other) g)

  -- hooks that were rendered still are
  still-rendered : (k : ℕ) (initials : List ℤ) → IsRendered p s lanes cut old k initials → IsRendered p s lanes cut new k initials
  unfolding as-rendered
  still-rendered k initials g = by_number i k again (λ other. rendered-same p s lanes cut k old new initials (r.others k other) g)
    where
      again : i ≡ k → IsRendered p s lanes cut new k initials
      again same =
          let before = as-rendered k initials old g in
          record {
            hooks = r.after;
            kept_is = is_now (answers_of p) lanes cut i old new r k same;
            histories = g.histories;
            stand = subst (λ (hs : List HookHistory). HooksStandFor (answers_of p) r.after hs) (rendered-rendered lanes cut g.histories)
                (renders (answers_of p) lanes cut i old new r k g.hooks before.histories same g.kept_is g.stand (above-journal s k 0 initials cut before.histories done before.are_of));
            are_of = g.are_of;
          }

-- ---- a render that may want memory

module _ {T E : Type 0} (result : Result T E) (answers : Answers) (lanes : Lanes) (cut : Cut) (i : ℕ) (old new : KeptBy)
    (ok : OnOk result (RendersHooks answers lanes cut i old new)) (err : OnErr result ((n : ℕ) → new n ≡ old n)) where
  -- it renders, or all stays
  either : (P : Type 0) → (RendersHooks answers lanes cut i old new → P) → (((n : ℕ) → new n ≡ old n) → P) → P
  either P taken left = go result ok err
    where
      go : (r : Result T E) → OnOk r (RendersHooks answers lanes cut i old new) → OnErr r ((n : ℕ) → new n ≡ old n) → P
      go (Ok x) one two = taken one
      go (Err y) one two = left two

  pub still-gives : (s : Sight) (k : ℕ) (initials : List ℤ) → answers ≡ answers_of s.program → s.lanes ≡ lanes → s.cut ≡ cut → GivesValues s old k initials → GivesValues s new k initials
  still-gives s k initials by lanes_are cut_is g =
      either (GivesValues s new k initials)
      (λ r. gives-rendered s i k old new initials
      (subst (λ a. RendersHooks a s.lanes s.cut i old new) by (subst (λ l. RendersHooks answers l s.cut i old new) (sym lanes_are) (subst (λ c. RendersHooks answers lanes c i old new) (sym cut_is) r)))
      g)
      (λ same. gives-same s k old new initials (same k) g)

  pub still-keeps : (p : Program) (s : State) → answers ≡ answers_of p → DoneBefore cut s.journal.updates → KeepsAllHooks p s old → KeepsAllHooks p s new
  still-keeps p s by done keeps =
      all-keep p s new (λ k m at.
      either (KeepsInstance p s new m.number m.initials)
      (λ r. keeps-rendered p s lanes cut i old new done (subst (λ a. RendersHooks a lanes cut i old new) by r) m.number m.initials (each-keeps p s old keeps k m at))
      (λ same. keeps-same p s m.number old new m.initials (same m.number) (each-keeps p s old keeps k m at)))

  pub stays-rendered : (p : Program) (s : State) (k : ℕ) (initials : List ℤ) → answers ≡ answers_of p → DoneBefore cut s.journal.updates
      → IsRendered p s lanes cut old k initials → IsRendered p s lanes cut new k initials
  stays-rendered p s k initials by done g =
      either (IsRendered p s lanes cut new k initials)
      (λ r. still-rendered p s lanes cut i old new done (subst (λ a. RendersHooks a lanes cut i old new) by r) k initials g)
      (λ same. rendered-same p s lanes cut k old new initials (same k) g)

  pub finds-rendered : OnOk result ((p : Program) (s : State) (initials : List ℤ) → answers ≡ answers_of p → DoneBefore cut s.journal.updates
      → KeepsInstance p s old i initials → IsRendered p s lanes cut new i initials)
  finds-rendered =
      on_ok_weaker result
      (λ r p s initials by done g. now-rendered p s lanes cut i old new done (subst (λ a. RendersHooks a lanes cut i old new) by r) i initials refl g)
      ok
