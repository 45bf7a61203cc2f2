-- How a walk over current fibers joins what they wait for.
use Rattle.std.proofs.Common.{◌≡◌, ℕ, suc, ◌+◌, ◌<◌, ◌≤◌, Bool, true, false, not, ◌&&◌, ◌||◌, Option, Some, None, refl, sym, ap, ◌∙◌, arith}
use Rattle.std.specs.Prelude.{if◌then◌else◌}
use Rattle.rx_base.specs.Awaits.{Awaits, awaits_where, has, nothing, resource_limit, union}
use Rattle.rx_base.specs.AwaitsLaws.{awaits_agree, has-awaits_where}
use Rattle.rx_lists.specs.Shapes.{Shape, Holds, none, fiber, first, size}
use Rattle.rx_links.specs.Drafts.{kids_of}
use Rattle.rx_links.specs.Readers.{IsLinked, list_from, rest_of, value_of}
use Rattle.rx_fiber.specs.Fibers.{Fiber}
use Rattle.rx_fiber.specs.OldLists.{begins_fallback}
use Rattle.rx_fiber.specs.Subtrees.{IsGathered}
use Rattle.rx_spots.proofs.Waiting.{awaits_where-has, has-union, none-where}
use Rattle.rx_instances.specs.AwaitedFibers.{stage_awaits, visible_kids, waits_first, waits_list}
use Rattle.rx_instances.proofs.Passed.{list_here, passed_waits}

-- a set so far: it is one by its members, and with what is waited for from here on it is a whole
abbrev pub MakesWhole : (whole rest : ℕ → Bool) → Awaits → Type 0
MakesWhole whole rest waits = (waits ≡ awaits_where (has waits)) × ((r : ℕ) → r < resource_limit → (has waits r || rest r) ≡ whole r)

or_false : (b : Bool) → (b || false) ≡ b
or_false true = refl
or_false false = refl

or_again : (a b c : Bool) → ((a || b) || c) ≡ (a || (b || c))
or_again true b c = refl
or_again false b c = refl

-- at the start nothing is there
pub whole_start : (rest : ℕ → Bool) (waits : Awaits) → waits ≡ nothing → MakesWhole rest rest waits
whole_start rest waits e = (
  e ∙ none-where ∙ awaits_where-has _ ∙ ap (λ w. awaits_where (has w)) (sym (e ∙ none-where)),
  λ r lt. ap (λ w. has w r || rest r) e,
)

-- what is waited for in the visible children, or in all if they are visible
visible_waits : (b : Bool) (ks : Shape Fiber) (r : ℕ) → waits_list (if b then none else ks) r ≡ (not b && waits_list ks r)
visible_waits true ks r = refl
visible_waits false ks r = refl

visible_size : (b : Bool) (ks : Shape Fiber) → size (if b then none else ks) ≤ size ks
visible_size true ks = omega arith
visible_size false ks = omega arith

module _ (c : Shape Fiber) (linked : IsLinked c) (i : ℕ) (held : Holds c i) where
  -- whether the fiber of a fallback stands behind one
  fallback_behind : (q : Option ℕ) (b : Bool) → q ≡ first (rest_of c i) → b ≡ begins_fallback (list_from c q) → begins_fallback (rest_of c i) ≡ b
  fallback_behind q b f k = ap begins_fallback (linked.rest i held ∙ ap (list_from c) (sym f)) ∙ sym k

  -- if it does, no child is visible,
  pub kept_kids : (q : Option ℕ) (b : Bool) → q ≡ first (rest_of c i) → b ≡ begins_fallback (list_from c q) → b ≡ true → none ≡ visible_kids (list_from c (Some i))
  kept_kids q b f k e =
      let (v, is, l) = linked.list i held in
      sym (ap visible_kids l ∙ ap (λ (x : Bool). if x then none else kids_of c i) (fallback_behind q b f k ∙ e))

  -- and else all are
  pub shown_kids : (q o : Option ℕ) (b : Bool) → q ≡ first (rest_of c i) → o ≡ first (kids_of c i) → b ≡ begins_fallback (list_from c q) → b ≡ false
      → list_from c o ≡ visible_kids (list_from c (Some i))
  shown_kids q o b f g k e =
      let (v, is, l) = linked.list i held in
      ap (list_from c) g ∙ sym (linked.kids i held) ∙ sym (ap visible_kids l ∙ ap (λ (x : Bool). if x then none else kids_of c i) (fallback_behind q b f k ∙ e))

  -- the first fiber of a list, and those behind it
  waits_parts : (o q : Option ℕ) → o ≡ Some i → q ≡ first (rest_of c i) → (r : ℕ)
      → waits_list (list_from c o) r ≡ (waits_first (list_from c (Some i)) r || waits_list (list_from c q) r)
  waits_parts o q e f r =
      let (v, is, l) = linked.list i held in
      ap (λ p. waits_list (list_from c p) r) e
      ∙ ap (λ (s : Shape Fiber). waits_list s r) l
      ∙ ap (λ b. b || waits_list (rest_of c i) r) (sym (ap (λ (s : Shape Fiber). waits_first s r) l))
      ∙ ap (λ (s : Shape Fiber). waits_first (list_from c (Some i)) r || waits_list s r) (linked.rest i held ∙ ap (list_from c) (sym f))

  -- one fiber more
  pub whole_more : (whole : ℕ → Bool) (o q : Option ℕ) (before one after : Awaits) → o ≡ Some i → q ≡ first (rest_of c i)
      → one ≡ awaits_where (waits_first (list_from c (Some i))) → after ≡ union before one
      → MakesWhole whole (waits_list (list_from c o)) before → MakesWhole whole (waits_list (list_from c q)) after
  whole_more whole o q before one after e f g j m = (
    is ∙ awaits_where-has _ ∙ ap (λ w. awaits_where (has w)) (sym is),
    λ r lt. ap (λ w. has w r || waits_list (list_from c q) r) is
        ∙ ap (λ b. b || waits_list (list_from c q) r) (has-union before (waits_first (list_from c (Some i))) r lt)
        ∙ or_again (has before r) (waits_first (list_from c (Some i)) r) (waits_list (list_from c q) r)
        ∙ ap (λ b. has before r || b) (sym (waits_parts o q e f r))
        ∙ m.1 r lt,
  )
    where
      is : after ≡ union before (awaits_where (waits_first (list_from c (Some i))))
      is = j ∙ ap (union before) g

-- at the end the set is whole
pub whole_end : (c : Shape Fiber) (whole : ℕ → Bool) (o : Option ℕ) (waits : Awaits) → o ≡ None → MakesWhole whole (waits_list (list_from c o)) waits → waits ≡ awaits_where whole
whole_end c whole o waits e m =
    m.0 ∙ awaits_agree _ _ (λ r lt. sym (or_false (has waits r)) ∙ ap (λ p. has waits r || waits_list (list_from c p) r) (sym e) ∙ m.1 r lt)

module _ (c : Shape Fiber) (linked : IsLinked c) (i : ℕ) (held : Holds c i) (v : Fiber) (here : Some v ≡ value_of c i) where
  -- a fiber waits itself, or in its visible children
  pub first_waits : (child : Option ℕ) (own below : Awaits) → list_from c child ≡ visible_kids (list_from c (Some i)) → own ≡ stage_awaits v.stage
      → below ≡ awaits_where (waits_list (list_from c child)) → union own below ≡ awaits_where (waits_first (list_from c (Some i)))
  first_waits child own below e f g =
      ap (union own) g
      ∙ awaits_agree _ _ (λ r lt.
      ap (λ b. has own r || b) (has-awaits_where (waits_list (list_from c child)) r lt)
      ∙ ap (λ w. has w r || waits_list (list_from c child) r) f
      ∙ ap (λ (s : Shape Fiber). has (stage_awaits v.stage) r || waits_list s r) (e ∙ ap visible_kids (list_here c linked i held v here))
      ∙ ap (λ b. has (stage_awaits v.stage) r || b) (visible_waits (begins_fallback (rest_of c i)) (kids_of c i) r)
      ∙ sym (ap (λ (s : Shape Fiber). waits_first s r) (list_here c linked i held v here)))

  -- and these are fewer
  pub visible_smaller : (child : Option ℕ) → list_from c child ≡ visible_kids (list_from c (Some i)) → size (list_from c child) < size (list_from c (Some i))
  visible_smaller child e =
      let list = list_here c linked i held v here in
      let below : size (list_from c child) ≡ size (if begins_fallback (rest_of c i) then none else kids_of c i) = ap size (e ∙ ap visible_kids list) in
      let all : size (list_from c (Some i)) ≡ suc (size (kids_of c i) + size (rest_of c i)) = ap size list in
      omega (arith, below, all, visible_size (begins_fallback (rest_of c i)) (kids_of c i))

  -- one that tells of no hidden boundary waits for nothing
  pub passed_awaits : IsGathered c → v.subtree.hides ≡ false → nothing ≡ awaits_where (waits_first (list_from c (Some i)))
  passed_awaits gathered f = none-where ∙ awaits_agree (λ r. false) (waits_first (list_from c (Some i))) (λ r lt. sym (passed_waits c linked gathered i held v here f r))
