-- The children that are made are those that begin next.
use Rattle.std.specs.Prelude.{ℕ, ℤ, suc, cond, List, [], ◌∷◌, ◌++◌, Option, None}
use Rattle.std.specs.List.{zip}
use Rattle.std.proofs.Common.{sym, subst}
use Rattle.rx_elem.specs.Elements.{Element}
use Rattle.rx_elem.specs.Trees.{Node}
use Rattle.rx_lists.specs.Shapes.{Shape}
use Rattle.rx_links.specs.Drafts.{Draft, made}
use Rattle.rx_meaning.specs.Fresh.{Contexts}
use Rattle.rx_meaning.specs.Cursor.{Open, Frame, Cursor, at_place, come_to}
use Rattle.rx_fiber.specs.Fibers.{Fiber}
use Rattle.rx_fiber.specs.Surround.{AreNext}
use Rattle.rx_fiber.specs.Surround as surround
use Rattle.rx_fiber.proofs.Matching.{AreOld}
use Rattle.rx_children.specs.Nodes.{begun_over}
use Rattle.rx_children.specs.Units.{IsPlace, IsEnd}
use Rattle.rx_children.specs.declared.node.Begun.{Begun}
use Rattle.rx_children.specs.declared.node.Begun.TheVariants.{Child, Leaf, Suspended, Thrown}
use Rattle.rx_children.specs.declared.node.Begun.TheVariants as answers
use Rattle.rx_children.proofs.Waiting.{AreWaiting, no_more, gap, next}

-- the children that are made are those that begin next
pub nexts : (c : Shape Fiber) (ms : List ℕ) (ws : List (ℕ × ℤ)) (n : ℕ) (es : List Element) (os : List (Option ℕ)) (xs : List (Option Node)) (d : Draft Fiber) → AreWaiting c ms ws n es os d → AreOld c os xs → AreNext c ms ws n (zip es xs) d
nexts c ms ws n [] [] [] _ no_more olds = surround.no_more
nexts c ms ws n [] [] (x ∷ xs) _ no_more olds = absurd olds
nexts c ms ws n [] (o ∷ os) xs d are olds = elim are [ ]
nexts c ms ws n (e ∷ es) [] xs d are olds = elim are [ ]
nexts c ms ws n (e ∷ es) (o ∷ os) [] d are olds = absurd olds
nexts c ms ws n (e ∷ es) (o ∷ os) (x ∷ xs) d (gap null more) olds = surround.gap null (nexts c ms ws (suc n) es os xs d more olds.1)
nexts c ms ws n (e ∷ es) (o ∷ os) (x ∷ xs) (made _ _ _ _ d) (next there waits more) olds = surround.next there waits olds.0 (nexts c ms ws (suc n) es os xs d more olds.1)

-- the cursor is of the form that the answer says
abbrev pub Leads : Begun → Cursor → Type 0
Leads (Child id) c = IsPlace c
Leads Leaf c = IsEnd c
Leads (Suspended r) c = ⊥
Leads (Thrown x) c = ⊥
Leads (answers.Hidden a) c = ⊥
Leads answers.Taken c = ⊥

pub leads : (c : Shape Fiber) (ms : List ℕ) (ws : List (ℕ × ℤ)) (n levels : ℕ) (fs : List Frame) (x : Open) (cs : Contexts) (done : List (Option Node)) (xs : List (Element × Option Node)) (d : Draft Fiber)
    → AreNext c ms ws n xs d → Leads (begun_over d) (come_to levels fs x cs done xs)
leads c ms ws n levels fs x cs done [] _ surround.no_more = tt
leads c ms ws n levels fs x cs done (y ∷ ys) d (surround.gap null more) =
    subst (λ b. Leads (begun_over d) (cond b (come_to levels fs x cs (done ++ None ∷ []) ys) (at_place levels ((record { node = x; contexts = cs; done = done; rest = ys }) ∷ fs) cs y.0 y.1)))
    (sym null) (leads c ms ws (suc n) levels fs x cs (done ++ None ∷ []) ys d more)
leads c ms ws n levels fs x cs done (y ∷ ys) (made id _ _ _ _) (surround.next there waits old more) =
    subst (λ b. Leads (Child id) (cond b (come_to levels fs x cs (done ++ None ∷ []) ys) (at_place levels ((record { node = x; contexts = cs; done = done; rest = ys }) ∷ fs) cs y.0 y.1)))
    (sym there) tt
