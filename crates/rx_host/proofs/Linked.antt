-- Links stay those of children when a number goes from a list or comes into one.
use Rattle.std.specs.Prelude.{◌≡◌, ℕ, Bool, true, false, ◌&&◌, cond, List, [], ◌∷◌, Option, Some, None, nat_eq, refl}
use Rattle.std.proofs.Common.{sym, ◌∙◌, ap}
use Rattle.rx_forest.specs.Forests.{is_among, without}
use Rattle.rx_host.specs.Links.{Links, same_link, behind, ahead, siblings, leads_to, is_within, AreDistinct, IsLinked, put, with_behind, with_ahead, with_place}
use Rattle.rx_host.proofs.Numbers.{split, self, same, flip, link-turn, insert_at, among-insert, distinct-insert, among-without, without-absent, without-among, distinct-without}
use Rattle.rx_host.proofs.Neighbours.{ahead-other, behind-other, ahead-new, ahead-insert, behind-new, behind-insert, behind-without, ahead-without}

-- What a step changes

first-behind : (links : Links) (p : ℕ) (a v : Option ℕ) (q : ℕ) → (with_behind links p a v).first q ≡ cond (same_link None a) (cond (nat_eq q p) v (links.first q)) (links.first q)
first-behind links p None v q = refl
first-behind links p (Some x) v q = refl

after-behind : (links : Links) (p : ℕ) (a v : Option ℕ) (m : ℕ) → (with_behind links p a v).after m ≡ cond (same_link (Some m) a) v (links.after m)
after-behind links p None v m = refl
after-behind links p (Some x) v m = refl

parent-behind : (links : Links) (p : ℕ) (a v : Option ℕ) → (with_behind links p a v).parent ≡ links.parent
parent-behind links p None v = refl
parent-behind links p (Some x) v = refl

last-behind : (links : Links) (p : ℕ) (a v : Option ℕ) → (with_behind links p a v).last ≡ links.last
last-behind links p None v = refl
last-behind links p (Some x) v = refl

before-behind : (links : Links) (p : ℕ) (a v : Option ℕ) → (with_behind links p a v).before ≡ links.before
before-behind links p None v = refl
before-behind links p (Some x) v = refl

last-ahead : (links : Links) (p : ℕ) (b v : Option ℕ) (q : ℕ) → (with_ahead links p b v).last q ≡ cond (same_link None b) (cond (nat_eq q p) v (links.last q)) (links.last q)
last-ahead links p None v q = refl
last-ahead links p (Some x) v q = refl

before-ahead : (links : Links) (p : ℕ) (b v : Option ℕ) (m : ℕ) → (with_ahead links p b v).before m ≡ cond (same_link (Some m) b) v (links.before m)
before-ahead links p None v m = refl
before-ahead links p (Some x) v m = refl

parent-ahead : (links : Links) (p : ℕ) (b v : Option ℕ) → (with_ahead links p b v).parent ≡ links.parent
parent-ahead links p None v = refl
parent-ahead links p (Some x) v = refl

first-ahead : (links : Links) (p : ℕ) (b v : Option ℕ) → (with_ahead links p b v).first ≡ links.first
first-ahead links p None v = refl
first-ahead links p (Some x) v = refl

after-ahead : (links : Links) (p : ℕ) (b v : Option ℕ) → (with_ahead links p b v).after ≡ links.after
after-ahead links p None v = refl
after-ahead links p (Some x) v = refl

-- What is in a list, and what isn't

ahead-away : (ms : List ℕ) (c : Option ℕ) (n : ℕ) → is_among ms n ≡ false → same_link (Some n) (ahead ms c) ≡ false
ahead-away [] c n out = refl
ahead-away (m ∷ ms) c n out =
    split (same_link c (Some m))
    (λ e. rw e refl)
    (λ e. rw e (link-turn (Some n) _ ∙ ahead-other (Some n) m ms c out))

within-away : (ms : List ℕ) (b : Option ℕ) (n : ℕ) → is_within ms b ≡ true → is_among ms n ≡ false → same_link (Some n) b ≡ false
within-away ms None n wb out = refl
within-away ms (Some y) n wb out = split (nat_eq n y) (λ e. absurd (cc (wb, ap (is_among ms) (same n y e), out))) (λ e. e)

leads-absent : (p n : ℕ) (o : Option ℕ) → o ≡ None → leads_to p o ≡ false
leads-absent p n o is = rw is refl

-- A number goes from its list

-- the links without a number, by what stands before and behind it
abbrev pub detached : Links → (host parent : ℕ) → (before after : Option ℕ) → Links
detached links n p a b = with_place (with_ahead (with_behind links p a b) p b a) n None None None

module _ (links : Links) (ks : ℕ → List ℕ) (n p : ℕ) (s : IsLinked links ks) (under : links.parent n ≡ Some p) where
  here : is_among (ks p) n ≡ true
  here = s.members p n ∙ ap (leads_to p) under ∙ self p

  ahead-is : links.before n ≡ ahead (ks p) (Some n)
  ahead-is = s.before n ∙ ap (λ (o : Option ℕ). ahead (siblings ks o) (Some n)) under

  behind-is : links.after n ≡ behind (ks p) (Some n)
  behind-is = s.after n ∙ ap (λ (o : Option ℕ). behind (siblings ks o) (Some n)) under

  -- the number is in no other list
  elsewhere : (q : ℕ) → nat_eq q p ≡ false → without n (ks q) ≡ ks q
  elsewhere q other = without-absent n (ks q) (s.members q n ∙ ap (leads_to q) under ∙ other)

  gone-first : (q : ℕ) → cond (same_link None (links.before n)) (cond (nat_eq q p) (links.after n) (links.first q)) (links.first q) ≡ behind (without n (ks q)) None
  gone-first q =
      split (nat_eq q p)
      (λ e.
      let at : q ≡ p = same q p e in
      rw (e, ahead-is, behind-is, s.first q, at) (sym (behind-without n None None (ks p) here refl tt (s.distinct p))))
      (λ e. rw (e, elsewhere q e, s.first q) (either (same_link None (links.before n)) (behind (ks q) None)))
    where
      either : (b : Bool) (o : Option ℕ) → cond b o o ≡ o
      either true o = refl
      either false o = refl

  gone-last : (q : ℕ) → cond (same_link None (links.after n)) (cond (nat_eq q p) (links.before n) (links.last q)) (links.last q) ≡ ahead (without n (ks q)) None
  gone-last q =
      split (nat_eq q p)
      (λ e.
      let at : q ≡ p = same q p e in
      rw (e, ahead-is, behind-is, s.last q, at) (sym (ahead-without n None None (ks p) here refl refl refl (s.distinct p))))
      (λ e. rw (e, elsewhere q e, s.last q) (either (same_link None (links.after n)) (ahead (ks q) None)))
    where
      either : (b : Bool) (o : Option ℕ) → cond b o o ≡ o
      either true o = refl
      either false o = refl

  gone-before : (m : ℕ) → nat_eq m n ≡ false → (o : Option ℕ) → links.parent m ≡ o
      → cond (same_link (Some m) (links.after n)) (links.before n) (links.before m) ≡ ahead (siblings (λ q. without n (ks q)) o) (Some m)
  gone-before m other None up =
      let out : is_among (ks p) m ≡ false = s.members p m ∙ ap (leads_to p) up in
      rw (behind-is, behind-other None (ks p) (Some n) m out, s.before m, up) refl
  gone-before m other (Some q) up =
      split (nat_eq q p)
      (λ e.
      let at : q ≡ p = same q p e in
      let in_list : is_among (ks p) m ≡ true = s.members p m ∙ ap (leads_to p) up ∙ flip q p true e in
      rw (ahead-is, behind-is, s.before m, up, at) (sym (ahead-without n (Some m) None (ks p) here other in_list refl (s.distinct p))))
      (λ e.
      let out : is_among (ks p) m ≡ false = s.members p m ∙ ap (leads_to p) up ∙ flip q p false e in
      rw (behind-is, behind-other None (ks p) (Some n) m out, s.before m, up, elsewhere q e) refl)

  gone-after : (m : ℕ) → nat_eq m n ≡ false → (o : Option ℕ) → links.parent m ≡ o
      → cond (same_link (Some m) (links.before n)) (links.after n) (links.after m) ≡ behind (siblings (λ q. without n (ks q)) o) (Some m)
  gone-after m other None up =
      let out : is_among (ks p) m ≡ false = s.members p m ∙ ap (leads_to p) up in
      rw (ahead-is, ahead-away (ks p) (Some n) m out, s.after m, up) refl
  gone-after m other (Some q) up =
      split (nat_eq q p)
      (λ e.
      let at : q ≡ p = same q p e in
      rw (ahead-is, behind-is, s.after m, up, at) (sym (behind-without n (Some m) None (ks p) here other tt (s.distinct p))))
      (λ e.
      let out : is_among (ks p) m ≡ false = s.members p m ∙ ap (leads_to p) up ∙ flip q p false e in
      rw (ahead-is, ahead-away (ks p) (Some n) m out, s.after m, up, elsewhere q e) refl)

  gone-members : (q m : ℕ) → is_among (without n (ks q)) m ≡ leads_to q (put links.parent n None m)
  gone-members q m =
      split (nat_eq m n)
      (λ e. rw (e, same m n e) (without-among n (ks q)))
      (λ e. rw (e, among-without, e) (all (is_among (ks q) m) ∙ s.members q m))
    where
      all : (b : Bool) → (b && true) ≡ b
      all true = refl
      all false = refl

  pub detaches : IsLinked (detached links n p (links.before n) (links.after n)) (λ q. without n (ks q))
  detaches = record {
    distinct = λ q. distinct-without n (ks q) (s.distinct q);
    members = λ q m. rw (parent-ahead, parent-behind) (gone-members q m);
    first = λ q. rw (first-ahead, first-behind) (gone-first q);
    last = λ q. rw (last-ahead, last-behind) (gone-last q);
    before = λ m. rw (parent-ahead, parent-behind, before-ahead, before-behind)
        (split (nat_eq m n) (λ e. rw e refl) (λ e. rw e (gone-before m e (links.parent m) refl)));
    after = λ m. rw (parent-ahead, parent-behind, after-ahead, after-behind)
        (split (nat_eq m n) (λ e. rw e refl) (λ e. rw e (gone-after m e (links.parent m) refl)));
  }

-- A number comes into a list

-- the links with a number, by what stands before and behind it
abbrev pub attached : Links → (host parent : ℕ) → (before after : Option ℕ) → Links
attached links n p a b = with_ahead (with_behind (with_place links n (Some p) a b) p a (Some n)) p b (Some n)

-- the children with a number in the list of a parent
abbrev pub children_with : (ℕ → List ℕ) → (host parent : ℕ) → (before : Option ℕ) → ℕ → List ℕ
children_with ks n p b q = cond (nat_eq q p) (insert_at n b (ks q)) (ks q)

module _ (links : Links) (ks : ℕ → List ℕ) (n p : ℕ) (a b : Option ℕ) (s : IsLinked links ks) (nowhere : links.parent n ≡ None)
    (wb : is_within (ks p) b ≡ true) (a-is : a ≡ ahead (ks p) b) where
  absent : (q : ℕ) → is_among (ks q) n ≡ false
  absent q = s.members q n ∙ ap (leads_to q) nowhere

  come-first : (q : ℕ) → cond (same_link None a) (cond (nat_eq q p) (Some n) (links.first q)) (links.first q) ≡ behind (children_with ks n p b q) None
  come-first q =
      split (nat_eq q p)
      (λ e.
      let at : q ≡ p = same q p e in
      rw (e, a-is, s.first q, at) (sym (behind-insert n None b None (ks p) refl tt (s.distinct p))))
      (λ e. rw (e, s.first q) (either (same_link None a) (behind (ks q) None)))
    where
      either : (t : Bool) (o : Option ℕ) → cond t o o ≡ o
      either true o = refl
      either false o = refl

  come-last : (q : ℕ) → cond (same_link None b) (cond (nat_eq q p) (Some n) (links.last q)) (links.last q) ≡ ahead (children_with ks n p b q) None
  come-last q =
      split (nat_eq q p)
      (λ e.
      let at : q ≡ p = same q p e in
      rw (e, s.last q, at) (sym (ahead-insert n b None None (ks p) (absent p) refl wb refl)))
      (λ e. rw (e, s.last q) (either (same_link None b) (ahead (ks q) None)))
    where
      either : (t : Bool) (o : Option ℕ) → cond t o o ≡ o
      either true o = refl
      either false o = refl

  come-before : (m : ℕ) → nat_eq m n ≡ false → (o : Option ℕ) → links.parent m ≡ o
      → cond (same_link (Some m) b) (Some n) (links.before m) ≡ ahead (siblings (children_with ks n p b) o) (Some m)
  come-before m other None up =
      let out : is_among (ks p) m ≡ false = s.members p m ∙ ap (leads_to p) up in
      rw (within-away (ks p) b m wb out, s.before m, up) refl
  come-before m other (Some q) up =
      split (nat_eq q p)
      (λ e.
      let at : q ≡ p = same q p e in
      let in_list : is_among (ks p) m ≡ true = s.members p m ∙ ap (leads_to p) up ∙ flip q p true e in
      rw (s.before m, up, e, at) (sym (ahead-insert n b (Some m) None (ks p) (absent p) other wb in_list)))
      (λ e.
      let out : is_among (ks p) m ≡ false = s.members p m ∙ ap (leads_to p) up ∙ flip q p false e in
      rw (within-away (ks p) b m wb out, s.before m, up, e) refl)

  come-after : (m : ℕ) → nat_eq m n ≡ false → (o : Option ℕ) → links.parent m ≡ o
      → cond (same_link (Some m) a) (Some n) (links.after m) ≡ behind (siblings (children_with ks n p b) o) (Some m)
  come-after m other None up =
      let out : is_among (ks p) m ≡ false = s.members p m ∙ ap (leads_to p) up in
      rw (a-is, ahead-away (ks p) b m out, s.after m, up) refl
  come-after m other (Some q) up =
      split (nat_eq q p)
      (λ e.
      let at : q ≡ p = same q p e in
      rw (a-is, s.after m, up, e, at) (sym (behind-insert n (Some m) b None (ks p) other tt (s.distinct p))))
      (λ e.
      let out : is_among (ks p) m ≡ false = s.members p m ∙ ap (leads_to p) up ∙ flip q p false e in
      rw (a-is, ahead-away (ks p) b m out, s.after m, up, e) refl)

  come-members : (q m : ℕ) → is_among (children_with ks n p b q) m ≡ leads_to q (put links.parent n (Some p) m)
  come-members q m =
      split (nat_eq q p)
      (λ e. split (nat_eq m n)
      (λ f. rw (e, among-insert, f, e) refl)
      (λ f. rw (e, among-insert, f) (s.members q m)))
      (λ e. split (nat_eq m n)
      (λ f. rw (e, f, same m n f, e) (absent q))
      (λ f. rw (e, f) (s.members q m)))

  come-distinct : (q : ℕ) → AreDistinct (children_with ks n p b q)
  come-distinct q = split (nat_eq q p) (λ e. rw e (distinct-insert n b (ks q) (absent q) (s.distinct q))) (λ e. rw e (s.distinct q))

  pub attaches : IsLinked (attached links n p a b) (children_with ks n p b)
  attaches = record {
    distinct = come-distinct;
    members = λ q m. rw (parent-ahead, parent-behind) (come-members q m);
    first = λ q. rw (first-ahead, first-behind) (come-first q);
    last = λ q. rw (last-ahead, last-behind) (come-last q);
    before = λ m. rw (parent-ahead, parent-behind, before-ahead, before-behind)
        (split (nat_eq m n)
        (λ e. rw (e, same m n e, self p, within-away (ks p) b n wb (absent p), a-is) (sym (ahead-new n b None (ks p) (absent p))))
        (λ e. rw e (come-before m e (links.parent m) refl)));
    after = λ m. rw (parent-ahead, parent-behind, after-ahead, after-behind)
        (split (nat_eq m n)
        (λ e. rw (e, same m n e, self p, a-is, ahead-away (ks p) b n (absent p)) (sym (behind-new n b None (ks p) (absent p) refl wb)))
        (λ e. rw e (come-after m e (links.parent m) refl)));
  }
