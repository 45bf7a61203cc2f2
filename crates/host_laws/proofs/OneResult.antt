-- Operations have one result.
use Rattle.std.specs.Prelude.{◌≡◌, ℕ, List, [], ◌∷◌, Option, Some, None, refl}
use Rattle.std.proofs.Common.{sym, ◌∙◌, subst}
use Rattle.std.proofs.lemmas.Option.{none-some}
use Rattle.rx_forest.specs.Forests.{HostForest, Held, IsUnder, Removed, Becomes, Replays}
use Rattle.rx_forest.specs.declared.op.HostOp.{HostOp}
use Rattle.rx_forest.specs.declared.op.HostOp.TheVariants as op
use Rattle.host_laws.proofs.Removals.{same_forest}

pub removed_once : (f : HostForest) (n : ℕ) (g h : HostForest) → Removed f n g → Removed f n h → g ≡ h
removed_once f n g h r s = same_forest g h (λ m. held m (g.held m) refl (h.held m) refl) (λ m. children m (g.children m) refl (h.children m) refl)
  where
    some_stays : (g : HostForest) → Removed f n g → (m : ℕ) (x : Held) → g.held m ≡ Some x → IsUnder f n m → ⊥
    some_stays g r m x e u = none-some x (sym (r.gone m u).0 ∙ e)

    child_stays : (g : HostForest) → Removed f n g → (m x : ℕ) (xs : List ℕ) → g.children m ≡ x ∷ xs → IsUnder f n m → ⊥
    child_stays g r m x xs e u = let nothing : g.children m ≡ [] = (r.gone m u).1 in absurd (cc)

    held : (m : ℕ) (a : Option Held) → g.held m ≡ a → (b : Option Held) → h.held m ≡ b → g.held m ≡ h.held m
    held m None e None i = e ∙ sym i
    held m (Some x) e b i = let stays = some_stays g r m x e in (r.kept m stays).0 ∙ sym (s.kept m stays).0
    held m None e (Some y) i = let stays = some_stays h s m y i in (r.kept m stays).0 ∙ sym (s.kept m stays).0

    children : (m : ℕ) (a : List ℕ) → g.children m ≡ a → (b : List ℕ) → h.children m ≡ b → g.children m ≡ h.children m
    children m [] e [] i = e ∙ sym i
    children m (x ∷ xs) e b i = let stays = child_stays g r m x xs e in (r.kept m stays).1 ∙ sym (s.kept m stays).1
    children m [] e (y ∷ ys) i = let stays = child_stays h s m y ys i in (r.kept m stays).1 ∙ sym (s.kept m stays).1

pub becomes_once : (f : HostForest) (op : HostOp) (g h : HostForest) → Becomes f op g → Becomes f op h → g ≡ h
becomes_once f (op.Remove n) g h r s = removed_once f n g h r s
becomes_once f (op.Create n name) g h r s = r ∙ sym s
becomes_once f (op.CreateText n t) g h r s = r ∙ sym s
becomes_once f (op.Place n p before) g h r s = r ∙ sym s
becomes_once f (op.UnsetAttr n name) g h r s = r ∙ sym s
becomes_once f (op.SetAttr n name v) g h r s = r ∙ sym s
becomes_once f (op.SetText n t) g h r s = r ∙ sym s
becomes_once f (op.Hide n) g h r s = r ∙ sym s
becomes_once f (op.Show n) g h r s = r ∙ sym s

pub replays_once : (f : HostForest) (ops : List HostOp) (g h : HostForest) → Replays f ops g → Replays f ops h → g ≡ h
replays_once f [] g h r s = r ∙ sym s
replays_once f (op ∷ ops) g h r s =
    let same : r.0 ≡ s.0 = becomes_once f op r.0 s.0 r.1 s.1 in
    replays_once s.0 ops g h (subst (λ k. Replays k ops g) same r.2) s.2
