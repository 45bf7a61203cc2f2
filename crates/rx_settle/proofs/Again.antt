-- A render that is repeated leaves what is kept as it was.
use Rattle.std.proofs.Common.{◌≡◌, ◌⊎◌, inl, inr, Option, ℕ, ℤ, ◌+◌, ◌<◌, false, nat_eq, Some, IsSome, List, map, slice_get, refl, sym, ap, ◌∙◌, subst, below_more}
use Rattle.rx_base.specs.declared.cut.Cut.{Cut}
use Rattle.rx_lane.specs.Lanes.{Lanes}
use Rattle.rx_ast.specs.Syntax.{Program}
use Rattle.rx_elem.specs.Spots.{Mounted}
use Rattle.rx_hooks.specs.declared.hook.Hook.{Hook}
use Rattle.rx_hooks.specs.Hooks.{HooksStandFor, rendered}
use Rattle.rx_meaning.specs.Expressions.{answers_of}
use Rattle.rx_meaning.specs.Settled.{DoneBefore}
use Rattle.rx_model.specs.State.{State}
use Rattle.rx_hook_store.specs.Rendered.{IsRendered, KeepsInstance, RendersHooks}
use Rattle.rx_hook_store.proofs.Rendering.{above-journal, hooks-rendered}
use Rattle.rx_hook_store.proofs.Stores.{KeptBy, by_number, keeps-same, rendered-same}
use Rattle.rx_settle.specs.Passes.{AreApart, KeepsOn, RendersShown, TellsOf, has_instance}
use Rattle.rx_settle.proofs.Kept.{other_than, other_way}

-- hooks that are rendered stand for the state as before
module _ (p : Program) (lanes : Lanes) (cut : Cut) (i : ℕ) (old new : KeptBy) (r : RendersHooks (answers_of p) lanes cut i old new) where
  is_there : (n : ℕ) → IsSome (old n) → IsSome (new n)
  is_there n h = by_number i n (λ same. subst IsSome (sym (ap new (sym same) ∙ r.is)) refl) (λ other. subst IsSome (sym (r.others n other)) h)

  still_keeps : (s : State) (n : ℕ) (initials : List ℤ) → DoneBefore cut s.journal.updates → KeepsInstance p s old n initials → KeepsInstance p s new n initials
  still_keeps s n initials done g = by_number i n here (λ other. keeps-same p s n old new initials (r.others n other) g)
    where
      here : i ≡ n → KeepsInstance p s new n initials
      here same =
          let were : g.hooks ≡ r.before = (let was = r.was in let at : old i ≡ old n = ap old same in let kept = g.kept_is in cc) in
          record {
            hooks = r.after;
            kept_is = ap new (sym same) ∙ r.is;
            histories = map (rendered lanes cut) g.histories;
            stand = r.stand g.histories (subst (λ (l : List Hook). HooksStandFor (answers_of p) l g.histories) were g.stand) (above-journal s n 0 initials cut g.histories done g.are_of);
            are_of = hooks-rendered s n 0 initials lanes cut g.histories g.are_of;
          }

  -- so a render goes on what is kept
  pub rendered_keeps_on : ((s : State) (n : ℕ) (initials : List ℤ) → DoneBefore cut s.journal.updates → IsRendered p s lanes cut old n initials → IsRendered p s lanes cut new n initials)
      → KeepsOn p lanes cut old new
  rendered_keeps_on stays = record { there = is_there; keeps = still_keeps; stays = stays }

-- hooks that are all as before go on
same_goes_on : (p : Program) (lanes : Lanes) (cut : Cut) (old new : KeptBy) → ((n : ℕ) → new n ≡ old n) → KeepsOn p lanes cut old new
same_goes_on p lanes cut old new same =
    record {
      there = λ n h. subst IsSome (sym (same n)) h;
      keeps = λ s n initials done h. keeps-same p s n old new initials (same n) h;
      stays = λ s n initials done h. rendered-same p s lanes cut n old new initials (same n) h;
    }

-- ---- one instance after the other

-- what is kept goes on, and the first so many instances are rendered; what is kept of those that are not in the list stays
pub record RenderedSoFar (p : Program) (lanes : Lanes) (cut : Cut) (first : ℕ) (old new : KeptBy) (ms : List Mounted) (count : ℕ) : Type 0 where
  pub goes_on : KeepsOn p lanes cut old new
  pub rendered : (k : ℕ) → k < count → (m : Mounted) → slice_get ms k ≡ Some m → RendersShown p lanes cut first old new m
  pub elsewhere : (n : ℕ) → has_instance ms n ≡ false → new n ≡ old n

module _ (p : Program) (lanes : Lanes) (cut : Cut) (first : ℕ) (old now new : KeptBy) where
  -- one render after the other
  goes_further : KeepsOn p lanes cut old now → KeepsOn p lanes cut now new → KeepsOn p lanes cut old new
  goes_further a b =
      record {
        there = λ n h. b.there n (a.there n h);
        keeps = λ s n initials done h. b.keeps s n initials done (a.keeps s n initials done h);
        stays = λ s n initials done h. b.stays s n initials done (a.stays s n initials done h);
      }

  -- one instance more is rendered
  pub render_more : (ms : List Mounted) → AreApart ms → (i : ℕ) (m : Mounted) → slice_get ms i ≡ Some m → RenderedSoFar p lanes cut first old now ms i → KeepsOn p lanes cut now new
      → RendersShown p lanes cut first now new m → ((n : ℕ) → nat_eq m.number n ≡ false → new n ≡ now n) → RenderedSoFar p lanes cut first old new ms (i + 1)
  render_more ms apart i m at so_far further one others =
      record {
        goes_on = goes_further so_far.goes_on further;
        rendered = below_more (λ k. (x : Mounted) → slice_get ms k ≡ Some x → RendersShown p lanes cut first old new x) i
            (λ k lt x there visible below. still x (others x.number (other_way x.number m.number (apart k i x m lt there at))) (so_far.rendered k lt x there visible below))
            (λ x there visible below.
            let same : m ≡ x = cc in
            since x (subst (λ (y : Mounted). RendersShown p lanes cut first now new y) same one visible below));
        elsewhere = λ n none. others n (other_than ms i m n at none) ∙ so_far.elsewhere n none;
      }
    where
      -- of one that was rendered before, or in which there is no work, this is still so
      still : (x : Mounted) → new x.number ≡ now x.number
          → TellsOf lanes cut (now x.number) false ⊎ ((s : State) → DoneBefore cut s.journal.updates → KeepsInstance p s old x.number x.initials → IsRendered p s lanes cut now x.number x.initials)
          → TellsOf lanes cut (new x.number) false ⊎ ((s : State) → DoneBefore cut s.journal.updates → KeepsInstance p s old x.number x.initials → IsRendered p s lanes cut new x.number x.initials)
      still x same (inl none) = inl (subst (λ (o : Option (List Hook)). TellsOf lanes cut o false) (sym same) none)
      still x same (inr renders) = inr (λ s done keeps. further.stays s x.number x.initials done (renders s done keeps))

      since : (x : Mounted)
          → TellsOf lanes cut (new x.number) false ⊎ ((s : State) → DoneBefore cut s.journal.updates → KeepsInstance p s now x.number x.initials → IsRendered p s lanes cut new x.number x.initials)
          → TellsOf lanes cut (new x.number) false ⊎ ((s : State) → DoneBefore cut s.journal.updates → KeepsInstance p s old x.number x.initials → IsRendered p s lanes cut new x.number x.initials)
      since x (inl none) = inl none
      since x (inr renders) = inr (λ s done keeps. renders s done (so_far.goes_on.keeps s x.number x.initials done keeps))

-- ---- if all is as before at first

module _ (p : Program) (lanes : Lanes) (cut : Cut) (first : ℕ) (old now new : KeptBy) (same : (n : ℕ) → now n ≡ old n) where
  pub goes_on_before : KeepsOn p lanes cut now new → KeepsOn p lanes cut old new
  goes_on_before h = goes_further p lanes cut first old now new (same_goes_on p lanes cut old now same) h

  pub renders_before : (m : Mounted) → RendersShown p lanes cut first now new m → RendersShown p lanes cut first old new m
  renders_before m h visible below = go (h visible below)
    where
      go : TellsOf lanes cut (new m.number) false ⊎ ((s : State) → DoneBefore cut s.journal.updates → KeepsInstance p s now m.number m.initials → IsRendered p s lanes cut new m.number m.initials)
          → TellsOf lanes cut (new m.number) false ⊎ ((s : State) → DoneBefore cut s.journal.updates → KeepsInstance p s old m.number m.initials → IsRendered p s lanes cut new m.number m.initials)
      go (inl none) = inl none
      go (inr renders) = inr (λ s done keeps. renders s done (keeps-same p s m.number old now m.initials (same m.number) keeps))
