-- One turn of a loop: what is read so far, in front of what is read from here on.
use Rattle.std.proofs.Common.{◌≡◌, ◌<◌, Bool, true, cond, Option, Some, None, Ok, Err, List, [], ◌∷◌, ◌++◌, length, refl, sym, ap, ◌∙◌, append_assoc, append-nil}
use Rattle.rx_lex.specs.declared.token.Kind.{Kind}
use Rattle.rx_lex.specs.declared.token.Token.{Token}
use Rattle.rx_lex.specs.Spans.{kinds_of}
use Rattle.rx_grammar.specs.Steps.{Read, ◌>>=◌, next, all_of, until_with, until_end}
use Rattle.rx_grammar.proofs.Many.{Loop, EndLoop}
use Rattle.rx_expression.specs.declared.fault.Fault.{Fault}
use Rattle.rx_expression.specs.declared.fault.Fault.TheVariants.{Syntax, OutOfMemory}
use Rattle.rx_expression.specs.Results.{Fails, in_front}

pub in_front-push : {A : Type 0} (xs : List A) (x : A) (read : Read (List A)) → in_front (xs ++ x ∷ []) read ≡ in_front xs (read >>= λ y. Ok (x ∷ y.0, y.1))
in_front-push xs x (Ok y) = ap (λ l. Ok (l, y.1)) (append_assoc xs (x ∷ []) y.0)
in_front-push xs x (Err e) = refl

pub smaller : {A : Type 0} {f : Kind → Bool} {item : List Kind → Read A} → Loop f item → (ts us : List Kind) (x : A) → item ts ≡ Ok (x, us) → length us < length ts
smaller l ts us x h = l.less ts (x, us) h

pub turned : {A : Type 0} {f : Kind → Bool} {item : List Kind → Read A} → Loop f item → (xs new : List A) (x : A) (ts us : List Kind) (whole : Read (List A)) → next f ts ≡ true → item ts ≡ Ok (x, us) → new ≡ xs ++ x ∷ [] → in_front xs (all_of f item ts) ≡ whole → in_front new (all_of f item us) ≡ whole
turned {A} {f} {item} l xs new x ts us whole goes h pushed inv =
    ap (λ l. in_front l (all_of f item us)) pushed
    ∙ (in_front-push xs x (all_of f item us)
    ∙ (ap (in_front xs) (sym (l.turn ts ∙ (ap (λ b. cond b (item ts >>= λ x. all_of f item x.1 >>= λ y. Ok (x.0 ∷ y.0, y.1)) (Ok ([], ts))) goes ∙ ap (λ r. r >>= λ x. all_of f item x.1 >>= λ y. Ok (x.0 ∷ y.0, y.1)) h)))
    ∙ inv))

-- One turn of the loop over children.
pub end_smaller : {A : Type 0} {step : List Kind → Read (Option A)} {end : List Kind → Read (Unit {0})} → EndLoop step end → (ts us : List Kind) (x : A) → step ts ≡ Ok (Some x, us) → length us < length ts
end_smaller l ts us x h = l.less ts x us h

pub end_turned : {A : Type 0} {step : List Kind → Read (Option A)} {end : List Kind → Read (Unit {0})} → EndLoop step end → (xs new : List A) (x : A) (ts us : List Kind) (whole : Read (List A)) → step ts ≡ Ok (Some x, us) → new ≡ xs ++ x ∷ [] → in_front xs (until_end step end ts) ≡ whole → in_front new (until_end step end us) ≡ whole
end_turned {A} {step} {end} l xs new x ts us whole h pushed inv =
    ap (λ l. in_front l (until_end step end us)) pushed
    ∙ (in_front-push xs x (until_end step end us)
    ∙ (ap (in_front xs) (sym (l.turn ts ∙ ap (λ r. r >>= λ x. until_with x.0 x.1 (until_end step end)) h))
    ∙ inv))

pub end_ended : {A : Type 0} {step : List Kind → Read (Option A)} {end : List Kind → Read (Unit {0})} → EndLoop step end → (xs : List A) (ts us : List Kind) (whole : Read (List A)) → step ts ≡ Ok (None, us) → in_front xs (until_end step end ts) ≡ whole → whole ≡ Ok (xs, us)
end_ended {A} {step} {end} l xs ts us whole h inv =
    sym inv
    ∙ (ap (in_front xs) (l.turn ts ∙ ap (λ r. r >>= λ x. until_with x.0 x.1 (until_end step end)) h)
    ∙ ap (λ l. Ok (l, us)) (append-nil xs))

pub end_failed : {A : Type 0} {step : List Kind → Read (Option A)} {end : List Kind → Read (Unit {0})} → EndLoop step end → (xs : List A) (ts : List Kind) (whole : Read (List A)) (e : Fault) → Fails e (step ts) → in_front xs (until_end step end ts) ≡ whole → Fails e whole
end_failed l xs ts whole OutOfMemory h inv = tt
end_failed {A} {step} {end} l xs ts whole (Syntax m) h inv =
    sym inv ∙ ap (in_front xs) (l.turn ts ∙ ap (λ r. r >>= λ x. until_with x.0 x.1 (until_end step end)) h)
