use Rattle.std.proofs.Common.{◌≡◌, ◌∙◌, ◌||◌, ℕ, Bool, true, false, nat_eq, inl, inr, List, [], ◌∷◌, Option, Some, None, ap, refl, sym}
use Rattle.std.specs.List.{list_all}
use Rattle.std.proofs.lemmas.Bool.{and_parts, eqb-true, or_cases}
use Rattle.rx_set.specs.Sets.{holds}
use Rattle.rx_elem.specs.Trees.{Node}
use Rattle.rx_lists.specs.Shapes.{Shape}
use Rattle.commit_laws.specs.HiddenWaits.{IfNumbered}
use Rattle.rx_meaning.specs.Settled.{HasOwnNumbers}
use Rattle.rx_fiber.specs.Fibers.{Fiber}
use Rattle.rx_fiber.specs.Reading.{IsTreeOf}
use Rattle.rx_fiber.specs.Subtrees.{IsGathered}
use Rattle.rx_ways.specs.Leads.{leads}
use Rattle.rx_ways.specs.Walk.{hinted, puts_among}
use Rattle.rx_ways.specs.WaySets.{is_put}
use Rattle.rx_ways.specs.Ways.{CoversIf, IsQuiet}
use Rattle.rx_ways.proofs.Covering.{covers-along, covers-whole}
use Rattle.rx_ways.proofs.Leading.{put-leads}
use Rattle.rx_ways.proofs.Standing.{none_of_tree, tree_put}
use Rattle.rx_ways.proofs.finding.find_ways.Goals as goal
use Rattle.rx_ways.proofs.finding.find_ways.Goals.{then-not-has_all+in_ok-numbers-2, else-not-has_all}

-- if each member of a set passes a test, so does each number in it
each_passes : (p : ℕ → Bool) (ns : List ℕ) → list_all p ns ≡ true → (n : ℕ) → holds ns n ≡ true → p n ≡ true
each_passes p [] all n is = absurd (cc is)
each_passes p (x ∷ xs) all n is =
    let parts = and_parts (p x) (list_all p xs) all in
    elim (or_cases (nat_eq n x) (holds xs n) is) [ inl same ↦ ap p (eqb-true n x same) ∙ parts.0 | inr later ↦ each_passes p xs parts.1 n later ]

-- ways that a walk along hints found cover each tree of the fibers, if each stirred number is on them
along : (h s way : ℕ → Bool) (c : Shape Fiber) → IsGathered c → ((n : ℕ) → way n ≡ puts_among h s n c) → ((n : ℕ) → s n ≡ true → way n ≡ true)
    → (x : Option Node) (next : ℕ) → IsTreeOf x c → IfNumbered x → HasOwnNumbers next x → CoversIf way (IsQuiet s) x
along h s way c g ways all None next is has own = tt
along h s way c g ways all (Some x) next is has own = covers-along h s way next (Some x) x refl has own (λ n. ways n ∙ tree_put h s n x c is g) all

-- so do those that a walk with all hints found
throughout : (h s way : ℕ → Bool) (c : Shape Fiber) → IsGathered c → ((n : ℕ) → h n ≡ true) → ((n : ℕ) → way n ≡ puts_among h s n c)
    → (x : Option Node) (next : ℕ) → IsTreeOf x c → IfNumbered x → HasOwnNumbers next x → CoversIf way (IsQuiet s) x
throughout h s way c g all ways None next is has own = tt
throughout h s way c g all ways (Some x) next is has own = covers-whole h s way (Some x) x refl has all (λ n. ways n ∙ tree_put h s n x c is g)

-- and each instance on them leads to a cause
leading : (h s way : ℕ → Bool) (c : Shape Fiber) → IsGathered c → ((n : ℕ) → way n ≡ puts_among h s n c) → (x : Option Node) (n : ℕ) → IsTreeOf x c → way n ≡ true → leads s n x ≡ true
leading h s way c g ways None n is on = let f : true ≡ false = sym on ∙ (ways n ∙ none_of_tree h s n c is g) in absurd (cc f)
leading h s way c g ways (Some x) n is on = put-leads h s n x (sym (tree_put h s n x c is g) ∙ (sym (ways n) ∙ on))

pub returns-clause-covers : goal.returns-clause-covers
returns-clause-covers c =
    let way = is_put c.if-not-has_all.numbers in
    let stirred = holds c.args.stirred.now in
    let current = c.args.tree.now.current in
    elim c.if-not-has_all.branch [
      | then-not-has_all+in_ok-numbers-2 w ↦
          let everything = w.everything-everything.result in
          throughout (hinted everything everything) stirred way current c.requires.gathered (λ n. ap (λ b. b || b) (w.everything-everything.ensures n))
          (λ n. ap (λ ns. is_put ns n) w.numbers-is ∙ w.in_ok-numbers-2.ensures n)
      | else-not-has_all w ↦
          along (hinted c.args.before.now c.args.sent.now) stirred way current c.requires.gathered
          (λ n. ap (λ ns. is_put ns n) w.numbers-is ∙ c.in_ok-numbers.ensures n)
          (λ n st. ap (λ ns. is_put ns n) w.numbers-is ∙ each_passes (is_put c.in_ok-numbers.numbers) c.args.stirred.now (sym (w.if-not-has_all.ensures ∙ ap (list_all (is_put c.in_ok-numbers.numbers)) c.members.ensures)) n st)
    ]

pub returns-clause-exact : goal.returns-clause-exact
returns-clause-exact c =
    let way = is_put c.if-not-has_all.numbers in
    let stirred = holds c.args.stirred.now in
    let current = c.args.tree.now.current in
    elim c.if-not-has_all.branch [
      | then-not-has_all+in_ok-numbers-2 w ↦
          let everything = w.everything-everything.result in
          leading (hinted everything everything) stirred way current c.requires.gathered (λ n. ap (λ ns. is_put ns n) w.numbers-is ∙ w.in_ok-numbers-2.ensures n)
      | else-not-has_all w ↦
          leading (hinted c.args.before.now c.args.sent.now) stirred way current c.requires.gathered (λ n. ap (λ ns. is_put ns n) w.numbers-is ∙ c.in_ok-numbers.ensures n)
    ]
