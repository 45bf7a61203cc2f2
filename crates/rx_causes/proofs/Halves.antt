-- What is rendered of a tree, by both halves of what it read: contexts, and resources.
use Rattle.std.specs.Prelude.{◌≡◌, ℕ, Bool, true, false, ◌||◌, ◌⊎◌, refl}
use Rattle.std.proofs.Common.{ap, subst, inl, inr, ◌∙◌}
use Rattle.rx_elem.specs.Trees.{Forest, Mark, Node, child, is_hidden, node, none, of_boundary, of_catcher, of_host, of_instance, plain, vacant}
use Rattle.rx_elem.proofs.Deciding.{or_fails}
use Rattle.rx_meaning.specs.Fresh.{Contexts}
use Rattle.rx_meaning.specs.Settled.{AllReadsHold, IfHidden, ReadsHold, read_anew, reads_another, refreshed}
use Rattle.rx_meaning.specs.Touched.{contexts_below}
use Rattle.rx_causes.specs.Reads.{AllContextsHold, AllVersionsHold, ContextsHold, VersionsHold, reads_another_value, reads_another_version}

none_of : (a b : Bool) → a ≡ false → b ≡ false → (a || b) ≡ false
none_of a b h k = ap (λ x. x || b) h ∙ k

mark_joins : (version : ℕ → ℕ) (cs : Contexts) (m : Mark) → reads_another_value cs m ≡ false → reads_another_version version m ≡ false → reads_another version cs m ≡ false
mark_joins version cs (of_instance i) h k = none_of (read_anew cs i.reads) (refreshed version i.versions) h k
mark_joins version cs (of_host n) h k = refl
mark_joins version cs (of_boundary b) h k = refl
mark_joins version cs (of_catcher c) h k = refl
mark_joins version cs plain h k = refl

mark_halves : (version : ℕ → ℕ) (cs : Contexts) (m : Mark) → reads_another version cs m ≡ false → (reads_another_value cs m ≡ false) × (reads_another_version version m ≡ false)
mark_halves version cs (of_instance i) h = or_fails (read_anew cs i.reads) (refreshed version i.versions) h
mark_halves version cs (of_host n) h = (refl, refl)
mark_halves version cs (of_boundary b) h = (refl, refl)
mark_halves version cs (of_catcher c) h = (refl, refl)
mark_halves version cs plain h = (refl, refl)

if_joins : (b : Bool) (A B C : Type 0) → (A → B → C) → IfHidden b (Unit {0}) A → IfHidden b (Unit {0}) B → IfHidden b (Unit {0}) C
if_joins true A B C f x y = tt
if_joins false A B C f x y = f x y

if_halves : (b : Bool) (A B C : Type 0) → (C → A × B) → IfHidden b (Unit {0}) C → IfHidden b (Unit {0}) A × IfHidden b (Unit {0}) B
if_halves true A B C f x = (tt, tt)
if_halves false A B C f x = f x

mutual
  -- both halves are all
  pub reads_join : (version : ℕ → ℕ) (cs : Contexts) (x : Node) → ContextsHold cs x → VersionsHold version x → ReadsHold version cs x
  reads_join version cs (node e m ns fs) h k = (
    mark_joins version cs m h.0 k.0,
    if_joins (is_hidden m) (AllContextsHold (contexts_below e cs) ns) (AllVersionsHold version ns) (AllReadsHold version (contexts_below e cs) ns) (all_join version (contexts_below e cs) ns) h.1 k.1,
    all_join version cs fs h.2 k.2,
  )

  all_join : (version : ℕ → ℕ) (cs : Contexts) (ns : Forest) → AllContextsHold cs ns → AllVersionsHold version ns → AllReadsHold version cs ns
  all_join version cs none h k = tt
  all_join version cs (vacant ns) h k = all_join version cs ns h k
  all_join version cs (child x ns) h k = (reads_join version cs x h.0 k.0, all_join version cs ns h.1 k.1)

mutual
  -- and all gives both
  pub reads_halves : (version : ℕ → ℕ) (cs : Contexts) (x : Node) → ReadsHold version cs x → ContextsHold cs x × VersionsHold version x
  reads_halves version cs (node e m ns fs) h =
      let own = mark_halves version cs m h.0 in
      let kids = if_halves (is_hidden m) (AllContextsHold (contexts_below e cs) ns) (AllVersionsHold version ns) (AllReadsHold version (contexts_below e cs) ns) (all_halves version (contexts_below e cs) ns) h.1 in
      let shown = all_halves version cs fs h.2 in
      ((own.0, kids.0, shown.0), (own.1, kids.1, shown.1))

  all_halves : (version : ℕ → ℕ) (cs : Contexts) (ns : Forest) → AllReadsHold version cs ns → AllContextsHold cs ns × AllVersionsHold version ns
  all_halves version cs none h = (tt, tt)
  all_halves version cs (vacant ns) h = all_halves version cs ns h
  all_halves version cs (child x ns) h =
      let own = reads_halves version cs x h.0 in
      let more = all_halves version cs ns h.1 in
      ((own.0, more.0), (own.1, more.1))

-- What was read holds if each half is known: outright, or from what held with the versions that are done.
pub reads_known : (A : Type 0) (done seen : ℕ → ℕ) (cs : Contexts) (x : Node) → (A → ReadsHold done cs x) → A ⊎ ContextsHold cs x → (A × (done ≡ seen)) ⊎ VersionsHold seen x → ReadsHold seen cs x
reads_known A done seen cs x committed values versions = reads_join seen cs x (by_values values) (by_versions versions)
  where
    by_values : A ⊎ ContextsHold cs x → ContextsHold cs x
    by_values (inl a) = (reads_halves done cs x (committed a)).0
    by_values (inr h) = h

    by_versions : (A × (done ≡ seen)) ⊎ VersionsHold seen x → VersionsHold seen x
    by_versions (inl both) = subst (λ version. VersionsHold version x) both.1 (reads_halves done cs x (committed both.0)).1
    by_versions (inr h) = h
