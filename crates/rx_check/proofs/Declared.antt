-- In a program that is accepted, each context that a component reads is declared.
use Rattle.std.proofs.Common.{◌≡◌, ◌<◌, inl, inr, Bool, true, false, List, [], ◌∷◌, Some, None, refl, sym, subst, arith, length}
use Rattle.std.proofs.lemmas.List.{length-map}
use Rattle.std.specs.Prelude.{ℕ, nat_lt, cond, unwrap_or, bytes_eq}
use Rattle.std.specs.List.{position_or_len}
use Rattle.rx_base.specs.Values.{Name}
use Rattle.rx_ast.specs.Syntax.{Program, Statement, state, reducer, transition, context, use_resource, constant, effect, throw_if, contexts}
use Rattle.rx_rules.specs.Names.{has_name, place_among, context_number}
use Rattle.rx_rules.specs.Reads.{IsDeclared, AllDeclared, ReadsDeclared}
use Rattle.rx_mentions.specs.Mentions.{Scope, no_scope, statement_mentions, statements_mentions, after_statement, parameters_mentions, component_scope, mentions}
use Rattle.rx_names.specs.Listed.{context_names}
use Rattle.rx_check.specs.Checks.{unknown_in, unknowns}
use Rattle.rx_check.specs.Accepted.{IsAccepted}
use Rattle.rx_mentions.specs.Mention.{Mention}
use Rattle.rx_mentions.specs.Mention as mention
use Rattle.rx_mentions.proofs.Among.{IsIn, IsIn-left, IsIn-right, IsIn-filter_map, component-mentioned}

not-empty : (ns : List Name) (x : Name) → has_name ns x ≡ true → 0 < length ns
not-empty [] x h = cc
not-empty (n ∷ ns) x h = omega arith

below-test : (m n : ℕ) → m < n → nat_lt m n ≡ true
below-test m n h = grind (arith, h)

-- the place of a name that is there is below their count
place-below : (ns : List Name) (x : Name) → has_name ns x ≡ true → nat_lt (place_among ns x) (length ns) ≡ true
place-below ns x h = go (nat_lt (position_or_len (bytes_eq x) ns) (length ns)) refl
  where
    go : (b : Bool) → nat_lt (position_or_len (bytes_eq x) ns) (length ns) ≡ b
        → nat_lt (unwrap_or (cond b (Some (position_or_len (bytes_eq x) ns)) None) 0) (length ns) ≡ true
    go true e = e
    go false e = below-test 0 (length ns) (not-empty ns x h)

-- a context that is mentioned is declared
context-known : (p : Program) → IsAccepted p → (c : Name) → IsIn (mention.Context c) (mentions p) → has_name (context_names p) c ≡ true
context-known p a c i = go (has_name (context_names p) c) refl
  where
    go : (b : Bool) → has_name (context_names p) c ≡ b → b ≡ true
    go true e = refl
    go false e =
        let told : unknown_in p (mention.Context c) ≡ Some c = rw e refl in
        let bad : IsIn c (unknowns p) = IsIn-filter_map (unknown_in p) (mention.Context c) c (mentions p) told i in
        let P : List Name → Type 0 = λ ns. IsIn c ns in absurd (subst P a.all_known bad)

context-declared : (p : Program) → IsAccepted p → (c : Name) → IsIn (mention.Context c) (mentions p) → nat_lt (context_number p c) (length (contexts p)) ≡ true
context-declared p a c i =
    let below = place-below (context_names p) c (context-known p a c i) in
    let same : length (context_names p) ≡ length (contexts p) = length-map _ _ in
    rw (sym same) below

statement-declared : (p : Program) → IsAccepted p → (s : Scope) (t : Statement) → ((m : Mention) → IsIn m (statement_mentions s t) → IsIn m (mentions p)) → IsDeclared p t
statement-declared p a s (state x y e) h = tt
statement-declared p a s (reducer x y f e) h = tt
statement-declared p a s (transition x y) h = tt
statement-declared p a s (context x c) h = context-declared p a c (h (mention.Context c) (inr (inl refl)))
statement-declared p a s (use_resource x r) h = tt
statement-declared p a s (constant x e) h = tt
statement-declared p a s (effect layout label es) h = tt
statement-declared p a s (throw_if e) h = tt

all-declared : (p : Program) → IsAccepted p → (s : Scope) (ts : List Statement) → ((m : Mention) → IsIn m (statements_mentions s ts) → IsIn m (mentions p)) → AllDeclared p ts
all-declared p a s [] h = tt
all-declared p a s (t ∷ ts) h = (
  statement-declared p a s t (λ m i. h m (IsIn-left m (statement_mentions s t) _ i)),
  all-declared p a (after_statement s t) ts (λ m i. h m (IsIn-right m (statement_mentions s t) _ i)),
)

-- the contexts that a program reads are declared, if it is accepted
pub accepted-declared : (p : Program) → IsAccepted p → ReadsDeclared p
accepted-declared p a c d e =
    all-declared p a (component_scope d) d.statements
    (λ m i. component-mentioned p c d m e (inr (inr (IsIn-right m (parameters_mentions no_scope d.parameters) _ (IsIn-left m (statements_mentions (component_scope d) d.statements) _ i)))))
