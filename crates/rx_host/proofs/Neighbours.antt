-- What stands behind and before a number, when a number goes or comes.
use Rattle.std.specs.Prelude.{◌≡◌, ℕ, Bool, true, false, ◌||◌, cond, List, [], ◌∷◌, Option, Some, None, nat_eq, refl}
use Rattle.std.proofs.Common.{sym, ◌∙◌, ap, subst}
use Rattle.rx_forest.specs.Forests.{is_among, without}
use Rattle.rx_host.specs.Links.{same_link, behind_from, ahead_from, behind, is_within, AreDistinct}
use Rattle.rx_host.proofs.Numbers.{split, self, same, flip, link-self, link-same, link-turn, among-parts, insert_at, without-absent}

-- what stands before a list is none of these
abbrev pub Outside : List ℕ → Option ℕ → Type 0
Outside ms None = Unit {0}
Outside ms (Some n) = is_among ms n ≡ false

pub outside-head : (m : ℕ) (ms : List ℕ) (start : Option ℕ) → Outside (m ∷ ms) start → same_link (Some m) start ≡ false
outside-head m ms None out = refl
outside-head m ms (Some n) out = flip n m false (among-parts m ms n out).0

outside-rest : (m : ℕ) (ms : List ℕ) (start : Option ℕ) → Outside (m ∷ ms) start → Outside ms start
outside-rest m ms None out = tt
outside-rest m ms (Some n) out = (among-parts m ms n out).1

within-rest : (m : ℕ) (ms : List ℕ) (c : Option ℕ) → is_within (m ∷ ms) c ≡ true → same_link c (Some m) ≡ false → is_within ms c ≡ true
within-rest m ms None is other = refl
within-rest m ms (Some n) is other = subst (λ (b : Bool). (b || is_among ms n) ≡ true) other is

within-none : (c : Option ℕ) → is_within [] c ≡ true → c ≡ None
within-none None is = refl
within-none (Some n) is = absurd (cc is)

-- what stands before a link is in the list, or begins it
pub ahead-other : (start : Option ℕ) (m : ℕ) (ms : List ℕ) (c : Option ℕ) → Outside (m ∷ ms) start → same_link (ahead_from (Some m) ms c) start ≡ false
ahead-other start m [] c out = outside-head m [] start out
ahead-other start m (k ∷ ks) c out =
    split (same_link c (Some k))
    (λ e. rw e (outside-head m (k ∷ ks) start out))
    (λ e. rw e (ahead-other start k ks c (outside-rest m (k ∷ ks) start out)))

pub behind-other : (start : Option ℕ) (ms : List ℕ) (c : Option ℕ) (m : ℕ) → is_among ms m ≡ false → same_link (Some m) (behind_from start ms c) ≡ false
behind-other start [] c m out = refl
behind-other start (k ∷ ks) c m out =
    let parts = among-parts k ks m out in
    split (same_link c start)
    (λ e. rw e parts.0)
    (λ e. rw e (behind-other (Some k) ks c m parts.1))

-- A number comes

pub ahead-new : (n : ℕ) (b start : Option ℕ) (ms : List ℕ) → is_among ms n ≡ false → ahead_from start (insert_at n b ms) (Some n) ≡ ahead_from start ms b
ahead-new n b start [] apart = rw self refl
ahead-new n b start (m ∷ ms) apart =
    let parts = among-parts m ms n apart in
    split (same_link b (Some m))
    (λ e. rw (e, self) refl)
    (λ e. rw (e, parts.0) (ahead-new n b (Some m) ms parts.1))

pub ahead-insert : (n : ℕ) (b c start : Option ℕ) (ms : List ℕ) → is_among ms n ≡ false → same_link c (Some n) ≡ false → is_within ms b ≡ true → is_within ms c ≡ true
    → ahead_from start (insert_at n b ms) c ≡ cond (same_link c b) (Some n) (ahead_from start ms c)
ahead-insert n b c start [] apart other wb wc = rw (within-none b wb, within-none c wc) refl
ahead-insert n b c start (m ∷ ms) apart other wb wc =
    let parts = among-parts m ms n apart in
    split (same_link b (Some m))
    (λ e. split (same_link c (Some m))
    (λ f. let one : same_link c b ≡ true = ap (same_link c) (link-same b (Some m) e) ∙ f in rw (e, other, f, one) refl)
    (λ f. let two : same_link c b ≡ false = ap (same_link c) (link-same b (Some m) e) ∙ f in rw (e, other, f, two) refl))
    (λ e. split (same_link c (Some m))
    (λ f. let two : same_link c b ≡ false = ap (λ (i : Option ℕ). same_link i b) (link-same c (Some m) f) ∙ link-turn (Some m) b ∙ e in rw (e, f, two) refl)
    (λ f. rw (e, f) (ahead-insert n b c (Some m) ms parts.1 other (within-rest m ms b wb e) (within-rest m ms c wc f))))

pub behind-new : (n : ℕ) (b start : Option ℕ) (ms : List ℕ) → is_among ms n ≡ false → same_link (Some n) start ≡ false → is_within ms b ≡ true
    → behind_from start (insert_at n b ms) (Some n) ≡ b
behind-new n b start [] apart other wb = rw (other, within-none b wb) refl
behind-new n b start (m ∷ ms) apart other wb =
    let parts = among-parts m ms n apart in
    split (same_link b (Some m))
    (λ e. rw (e, other, self) (sym (link-same b (Some m) e)))
    (λ e. rw (e, other) (behind-new n b (Some m) ms parts.1 parts.0 (within-rest m ms b wb e)))

pub behind-insert : (n : ℕ) (a b start : Option ℕ) (ms : List ℕ) → same_link a (Some n) ≡ false → Outside ms start → AreDistinct ms
    → behind_from start (insert_at n b ms) a ≡ cond (same_link a (ahead_from start ms b)) (Some n) (behind_from start ms a)
behind-insert n a b start [] other out d = split (same_link a start) (λ e. rw e refl) (λ e. rw e refl)
behind-insert n a b start (m ∷ ms) other out d =
    split (same_link b (Some m))
    (λ e. split (same_link a start)
    (λ f. rw (e, f) refl)
    (λ f. rw (e, f, other) refl))
    (λ e. split (same_link a start)
    (λ f.
    let two : same_link a (ahead_from (Some m) ms b) ≡ false =
    ap (λ (i : Option ℕ). same_link i (ahead_from (Some m) ms b)) (link-same a start f) ∙ link-turn start (ahead_from (Some m) ms b) ∙ ahead-other start m ms b out in
    rw (e, f, two) refl)
    (λ f. rw (e, f) (behind-insert n a b (Some m) ms other d.0 d.1)))

-- A number goes

-- behind what begins a list is its first
pub behind-start : (start : Option ℕ) (ms : List ℕ) → behind_from start ms start ≡ behind ms None
behind-start start [] = refl
behind-start start (m ∷ ms) = rw link-self refl

-- what begins a list matters to nothing else
behind-else : (s t : Option ℕ) (ms : List ℕ) (a : Option ℕ) → same_link a s ≡ false → same_link a t ≡ false → behind_from s ms a ≡ behind_from t ms a
behind-else s t [] a e f = refl
behind-else s t (m ∷ ms) a e f = rw (e, f) refl

ahead-else : (s t : Option ℕ) (ms : List ℕ) (c : Option ℕ) → same_link c (behind ms None) ≡ false → is_within ms c ≡ true → ahead_from s ms c ≡ ahead_from t ms c
ahead-else s t [] None other wc = absurd (cc other)
ahead-else s t [] (Some n) other wc = absurd (cc wc)
ahead-else s t (m ∷ ms) c other wc = rw other refl

ahead-first : (start : Option ℕ) (ms : List ℕ) (c : Option ℕ) → same_link c (behind ms None) ≡ true → ahead_from start ms c ≡ start
ahead-first start [] c is = refl
ahead-first start (m ∷ ms) c is = rw is refl

-- a member isn't what begins the list
pub member-other : (n : ℕ) (ms : List ℕ) (start : Option ℕ) → is_among ms n ≡ true → Outside ms start → same_link (Some n) start ≡ false
member-other n ms None among out = refl
member-other n ms (Some i) among out = split (nat_eq n i) (λ k. absurd (cc (among, ap (is_among ms) (same n i k) ∙ out))) (λ k. k)

behind-gone : (n : ℕ) (a start : Option ℕ) (ms : List ℕ) → same_link a (Some n) ≡ false
    → behind_from start ms a ≡ cond (same_link a start) (behind_from (Some n) ms (Some n)) (cond (same_link a start) (Some n) (behind_from (Some n) ms a))
behind-gone n a start ms other =
    split (same_link a start)
    (λ f. rw f (ap (behind_from start ms) (link-same a start f) ∙ behind-start start ms ∙ sym (behind-start (Some n) ms)))
    (λ f. rw f (behind-else start (Some n) ms a f other))

pub behind-without : (n : ℕ) (a start : Option ℕ) (ms : List ℕ) → is_among ms n ≡ true → same_link a (Some n) ≡ false → Outside ms start → AreDistinct ms
    → behind_from start (without n ms) a ≡ cond (same_link a (ahead_from start ms (Some n))) (behind_from start ms (Some n)) (behind_from start ms a)
behind-without n a start [] among other out d = absurd (cc among)
behind-without n a start (m ∷ ms) among other out d =
    let begun : same_link (Some n) start ≡ false = member-other n (m ∷ ms) start among out in
    split (nat_eq m n)
    (λ e.
    let here : n ≡ m = sym (same m n e) in
    let gone : without n ms ≡ ms = without-absent n ms (ap (is_among ms) here ∙ d.0) in
    let away : same_link a (Some m) ≡ false = ap (λ (i : ℕ). same_link a (Some i)) (sym here) ∙ other in
    let last = behind-gone m a start ms away in
    rw (e, gone, flip m n true e, begun, here) last)
    (λ e.
    let apart : nat_eq n m ≡ false = flip m n false e in
    split (same_link a start)
    (λ f.
    let two : same_link a (ahead_from (Some m) ms (Some n)) ≡ false =
    ap (λ (i : Option ℕ). same_link i (ahead_from (Some m) ms (Some n))) (link-same a start f) ∙ link-turn start (ahead_from (Some m) ms (Some n)) ∙ ahead-other start m ms (Some n) out in
    rw (e, f, apart, two) refl)
    (λ f.
    let still : is_among ms n ≡ true = subst (λ (b : Bool). (b || is_among ms n) ≡ true) apart among in
    rw (e, f, apart, begun) (behind-without n a (Some m) ms still other d.0 d.1)))

pub ahead-without : (n : ℕ) (c start : Option ℕ) (ms : List ℕ) → is_among ms n ≡ true → same_link c (Some n) ≡ false → is_within ms c ≡ true → same_link (Some n) start ≡ false → AreDistinct ms
    → ahead_from start (without n ms) c ≡ cond (same_link c (behind_from start ms (Some n))) (ahead_from start ms (Some n)) (ahead_from start ms c)
ahead-without n c start [] among other wc begun d = absurd (cc among)
ahead-without n c start (m ∷ ms) among other wc begun d =
    split (nat_eq m n)
    (λ e. split (same_link c (Some m))
    (λ f. absurd (cc (other, ap (λ (i : ℕ). same_link c (Some i)) (sym (same m n e)) ∙ f)))
    (λ f.
    let here : n ≡ m = sym (same m n e) in
    let gone : without n ms ≡ ms = without-absent n ms (ap (is_among ms) here ∙ d.0) in
    let first : behind_from (Some m) ms (Some n) ≡ behind ms None = ap (λ (i : ℕ). behind_from (Some m) ms (Some i)) here ∙ behind-start (Some m) ms in
    let last : ahead_from start ms c ≡ cond (same_link c (behind ms None)) start (ahead_from (Some m) ms c) =
    split (same_link c (behind ms None)) (λ k. rw k (ahead-first start ms c k)) (λ k. rw k (ahead-else start (Some m) ms c k (within-rest m ms c wc f))) in
    rw (e, gone, flip m n true e, begun, f, first) last))
    (λ e.
    let apart : nat_eq n m ≡ false = flip m n false e in
    split (same_link c (Some m))
    (λ f.
    let two : same_link c (behind_from (Some m) ms (Some n)) ≡ false =
    ap (λ (i : Option ℕ). same_link i (behind_from (Some m) ms (Some n))) (link-same c (Some m) f) ∙ behind-other (Some m) ms (Some n) m d.0 in
    rw (e, f, apart, begun, two) refl)
    (λ f.
    let still : is_among ms n ≡ true = subst (λ (b : Bool). (b || is_among ms n) ≡ true) apart among in
    rw (e, f, apart, begun) (ahead-without n c (Some m) ms still other (within-rest m ms c wc f) apart d.1)))
