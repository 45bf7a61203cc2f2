-- The lines with which a render ends, by their text without counts.
use Rattle.std.proofs.Common.{◌≡◌, ℕ, true, false, List, [], ◌∷◌, ◌++◌, Option, Some, None, take, refl, sym, ap, ◌∙◌}
use Rattle.std.specs.Prelude.{IfNone, IfSome}
use Rattle.std.specs.Option.{unwrap_or}
use Rattle.rx_lane.specs.Lanes.{Lanes}
use Rattle.rx_elem.specs.Elements as elements
use Rattle.rx_elem.specs.Trees.{Node, node, plain}
use Rattle.rx_elem.specs.Trees as trees
use Rattle.rx_lines.specs.Lines.{Counts, Line, Options, Written, committed, counts_text, deferred, line_text, with_line}
use Rattle.rx_given.specs.Lines.{first_line}
use Rattle.choice_laws.specs.Telling.{IsFinishOf, commits, defers}
use Rattle.rx_verify.specs.Ends.{HasNumber, TellsEnd, TellsEndOf}

-- a tree
pub some_tree : Node
some_tree = node elements.null plain trees.none trees.none

-- a report that shows neither counts nor operations
abbrev pub bare : Options
bare = record { counts = false; ops = false }

abbrev pub no_counts : Counts
no_counts = record { units = 0; bodies = 0 }

-- the text of the line of a commit, and of a deferral, without counts
abbrev pub commit_head : ℕ → Lanes → List ℕ
commit_head commit lanes = line_text false (committed commit lanes no_counts some_tree)

abbrev pub defer_head : Lanes → List ℕ
defer_head lanes = line_text false (deferred lanes no_counts)

pub head-is : (old new : Written) (l : Line) → old ≡ record { options = bare; bytes = [] } → new ≡ with_line old l → new.bytes ≡ [] ++ (with_line (record { options = bare; bytes = [] }) l).bytes
head-is old new l empty is = ap (λ (w : Written). w.bytes) is ∙ ap (λ (w : Written). (with_line w l).bytes) empty

take-none : (xs : List ℕ) → take 0 xs ≡ []
take-none [] = refl
take-none (x ∷ xs) = refl

-- a report that is cut down to nothing
pub cut-empty : (old first new : Written) (l : Line) → old ≡ record { options = bare; bytes = [] } → first ≡ with_line old l → new ≡ record { options = first.options; bytes = take 0 first.bytes }
    → new ≡ record { options = bare; bytes = [] }
cut-empty old first new l empty is cut =
    cut ∙ ap (λ xs. record { options = first.options; bytes = xs }) (take-none first.bytes) ∙ ap (λ (w : Written). record { options = w.options; bytes = [] }) (is ∙ ap (λ (w : Written). with_line w l) empty)

some-line : (xs ys : List ℕ) → ◌≡◌ {A = Option (List ℕ)} (Some xs) (Some ys) → xs ≡ ys
some-line xs ys e = cc

pub tells-commit : (commit : ℕ) (lanes : Lanes) (c : Counts) (bytes line text : List ℕ) → first_line bytes ≡ Some line → text ≡ commit_head commit lanes → line ≡ text ++ counts_text true c ++ 10 ∷ [] → TellsEnd lanes c bytes
tells-commit commit lanes c bytes line text first head is =
    record { line = line; is_first = first; said = committed commit lanes c some_tree; says = commits commit some_tree; text = is ∙ ap (λ xs. xs ++ counts_text true c ++ 10 ∷ []) head }

pub tells-defer : (lanes : Lanes) (c : Counts) (bytes line text : List ℕ) → first_line bytes ≡ Some line → text ≡ defer_head lanes → line ≡ text ++ counts_text true c ++ 10 ∷ [] → TellsEnd lanes c bytes
tells-defer lanes c bytes line text first head is =
    record { line = line; is_first = first; said = deferred lanes c; says = defers; text = is ∙ ap (λ xs. xs ++ counts_text true c ++ 10 ∷ []) head }

told-by : (commit : ℕ) (lanes : Lanes) (c : Counts) (line : List ℕ) (f : Line) → IsFinishOf lanes c f → HasNumber commit f → line ≡ line_text false f ++ counts_text true c ++ 10 ∷ []
    → (line ≡ commit_head commit lanes ++ counts_text true c ++ 10 ∷ [] → ⊥) → (line ≡ defer_head lanes ++ counts_text true c ++ 10 ∷ [] → ⊥) → ⊥
told-by commit lanes c line f (commits number tree) is text no_commit no_defer =
    no_commit (text ∙ ap (λ n. line_text false (committed n lanes c tree) ++ counts_text true c ++ 10 ∷ []) is)
told-by commit lanes c line f defers is text no_commit no_defer = no_defer text

-- nothing is told
pub tells-nothing : (commit : ℕ) (lanes : Lanes) (c : Counts) (bytes line a b : List ℕ) → first_line bytes ≡ Some line → a ≡ commit_head commit lanes → b ≡ defer_head lanes
    → (line ≡ a ++ counts_text true c ++ 10 ∷ [] → ⊥) → (line ≡ b ++ counts_text true c ++ 10 ∷ [] → ⊥) → TellsEndOf commit lanes c bytes → ⊥
tells-nothing commit lanes c bytes line a b first commit_is defer_is no_commit no_defer t =
    let same : t.tells.line ≡ line = some-line t.tells.line line (sym t.tells.is_first ∙ first) in
    told-by commit lanes c line t.tells.said t.tells.says t.number (sym same ∙ t.tells.text)
    (λ e. no_commit (e ∙ ap (λ xs. xs ++ counts_text true c ++ 10 ∷ []) (sym commit_is))) (λ e. no_defer (e ∙ ap (λ xs. xs ++ counts_text true c ++ 10 ∷ []) (sym defer_is)))

pub tells-no-line : (commit : ℕ) (lanes : Lanes) (c : Counts) (bytes : List ℕ) → first_line bytes ≡ None → TellsEndOf commit lanes c bytes → ⊥
tells-no-line commit lanes c bytes none t = let clash : ◌≡◌ {A = Option (List ℕ)} None (Some t.tells.line) = sym none ∙ t.tells.is_first in cc

-- what was unwrapped
pub unwrapped : {A : Type 0} (o : Option A) (d r x : A) → r ≡ unwrap_or o d → o ≡ Some x → r ≡ x
unwrapped o d r x is e = is ∙ ap (λ y. unwrap_or y d) e

pub if-some : {A : Type 0} {P Q : A → Type 0} (o : Option A) → ((x : A) → P x → Q x) → IfSome o P → IfSome o Q
if-some None f h = tt
if-some (Some x) f h = f x h

pub if-none : {A : Type 0} {P Q : Type 0} (o : Option A) → (P → Q) → IfNone o P → IfNone o Q
if-none None f h = f h
if-none (Some x) f h = tt
