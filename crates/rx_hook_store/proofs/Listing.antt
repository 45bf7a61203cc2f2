-- Instances with work are put in a set, one after the other.
use Rattle.std.proofs.Common.{◌≡◌, ◌<◌, ◌^◌, ℕ, ℤ, Bool, true, false, ◌||◌, nat_eq, Option, Some, None, List, [], ◌∷◌, refl, ap, ◌∙◌, sym}
use Rattle.rx_lane.specs.Lanes.{Lanes}
use Rattle.rx_base.specs.declared.cut.Cut.{Cut}
use Rattle.rx_hooks.specs.declared.hook.Hook.{Hook}
use Rattle.rx_meaning.specs.Fresh.{Sight, hook_values}
use Rattle.rx_meaning.specs.Settled.{done_values, includes, known_by}
use Rattle.rx_hook_store.specs.Working.{AreIdle, HaveWork}
use Rattle.rx_hook_store.specs.Gives.{GivesValues, has_work_in}
use Rattle.rx_hook_store.proofs.Stores.{KeptBy, same_number}
use Rattle.rx_hook_store.proofs.Working.{sees_committed}

-- what is found is what is there
pub none_there : {A : Type 0} (o : Option A) (x : A) → o ≡ None → o ≡ Some x → ⊥
none_there None x is at = let f : ⊥ = cc in f
none_there (Some y) x is at = let f : ⊥ = cc in f

pub same_there : {A : Type 0} (o : Option A) (x y : A) → o ≡ Some x → o ≡ Some y → x ≡ y
same_there None x y is at = let f : ⊥ = cc in absurd f
same_there (Some z) x y is at = cc

pub not_both_ways : (b : Bool) → b ≡ true → b ≡ false → ⊥
not_both_ways true t f = let g : ⊥ = cc in g
not_both_ways false t f = let g : ⊥ = cc in g

-- a number that is left or put among others is still so if the first one that is left is put
pub put_more : (n x : ℕ) (left rest : List ℕ) (before after : Bool) → left ≡ x ∷ rest → (includes left n || before) ≡ true → (nat_eq n x ≡ true → after ≡ true)
    → (before ≡ true → after ≡ true) → (includes rest n || after) ≡ true
put_more n x left rest before after first now here others =
    go (nat_eq n x) (includes rest n) before after (sym (ap (λ (l : List ℕ). includes l n || before) first) ∙ now) here others
  where
    go : (a b c d : Bool) → ((a || b) || c) ≡ true → (a ≡ true → d ≡ true) → (c ≡ true → d ≡ true) → (b || d) ≡ true
    go a true c d h here others = refl
    go true false c d h here others = here refl
    go false false true d h here others = others refl
    go false false false d h here others = cc

-- what is among these since a number was put there is that number, or was among them before
pub put_only : (number n : ℕ) (new old : Bool) (A : Type 0) → new ≡ (old || nat_eq n number) → new ≡ true → (number ≡ n → A) → (old ≡ true → A) → A
put_only number n new old A is on here before = go old refl (nat_eq n number) refl (sym is ∙ on)
  where
    go : (a : Bool) → old ≡ a → (b : Bool) → nat_eq n number ≡ b → (a || b) ≡ true → A
    go true e b f either = before e
    go false e true f either = here (sym (same_number n number f))
    go false e false f either = absurd (let g : ⊥ = cc in g)

-- if none is left it is put
pub none_left : (n : ℕ) (left : List ℕ) (put : Bool) → left ≡ [] → (includes left n || put) ≡ true → put ≡ true
none_left n left put none is = sym (ap (λ (l : List ℕ). includes l n || put) none) ∙ is

-- hooks in which there is work are not idle
pub never_idle : (lanes : Lanes) (cut : Cut) (hooks : List Hook) → cut.updates < 2 ^ 64 → HaveWork lanes cut hooks → AreIdle hooks → ⊥
never_idle lanes cut hooks below work idle = not_both_ways (has_work_in lanes cut work.histories) work.has (idle work.answers work.histories work.stand lanes cut below)

-- so their instance is listed
pub is_busy : (b : Bool) (lanes : Lanes) (cut : Cut) (hooks : List Hook) → cut.updates < 2 ^ 64 → HaveWork lanes cut hooks → (b ≡ false → AreIdle hooks) → b ≡ true
is_busy true lanes cut hooks below work idle = refl
is_busy false lanes cut hooks below work idle = absurd (never_idle lanes cut hooks below work (idle refl))

-- a render sees the committed values in the hooks of an instance that is not listed
pub unlisted_calm : (b : Bool) (i : ℕ) (kept : KeptBy) → ((hooks : List Hook) → kept i ≡ Some hooks → b ≡ false → AreIdle hooks) → b ≡ false
    → (s : Sight) (initials : List ℤ) → s.cut.updates < 2 ^ 64 → GivesValues s kept i initials
    → hook_values s i initials ≡ done_values s.program (known_by s) i initials
unlisted_calm b i kept idle none s initials below g =
    sees_committed s.lanes s.cut i kept false
    (λ answers hooks hs at stand. sym (idle hooks at none answers hs stand s.lanes s.cut below))
    s initials refl refl g refl
