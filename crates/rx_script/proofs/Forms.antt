-- What is read of the words of a line is the reading of its form.
use Rattle.std.proofs.Common.{◌≡◌, ◌∙◌, sym, ap, ◌≤◌, ◌<◌, ℤ, Bool, true, false, cond, List, [], ◌∷◌, length, map, get_or, Option, Some, None, Result, Ok, Err, IfOk, option_map, refl, arith, bytes_eq, codes}
use Rattle.std.specs.Borrow.{Bor}
use Rattle.rx_base.specs.Values.{Name, Text}
use Rattle.rx_ast.specs.Syntax.{Program}
use Rattle.rx_step.specs.declared.step.LaneWord.{LaneWord}
use Rattle.rx_step.specs.declared.step.Dispatch.TheVariants.{Set, Call, Send}
use Rattle.rx_step.specs.declared.step.Step.{Step}
use Rattle.rx_step.specs.declared.step.Step.TheVariants as step
use Rattle.rx_script.specs.declared.form.Place.{Place}
use Rattle.rx_script.specs.declared.form.Form.{Form}
use Rattle.rx_step.specs.Steps.{Path}
use Rattle.rx_script.specs.Words.{lower_of, integer_of}
use Rattle.rx_script.specs.Lines.{◌◂◌, either, lane_of, path_of, form_of, target_of, value_form, call_form}
use Rattle.rx_script.specs.Readings.{held_path, held_value, held_integer, place_of, reading, spot_at, value_reading, call_reading}

-- what the parts of a dispatch name
abbrev named : Program → Option LaneWord → Option Path → Option Name → Option Place
named q l p h = Some (λ lane path name. record { lane = lane; spot = spot_at q path; hook = name }) ◂ l ◂ p ◂ h

-- a dispatch whose reading is the one of held parts
abbrev Holds : Program → (LaneWord → Path → Name → ℤ → Step) → Type 0
Holds q make =
    (l : LaneWord) (p : Path) (h : Name) (x : ℤ)
    → reading q (make l p h x) ≡ record { step = make l (held_path p) h (held_value x); value = held_integer x; target = target_of q p }

value-holds : (q : Program) (make : LaneWord → Path → Name → ℤ → Step) → Holds q make → (l : Option LaneWord) (p : Option Path) (h : Option Name) (x : Option ℤ)
    → value_reading (Some make) (named q l p h) x ≡ option_map (reading q) (Some make ◂ l ◂ p ◂ h ◂ x)
value-holds q make holds None p h x = refl
value-holds q make holds (Some l) None h x = refl
value-holds q make holds (Some l) (Some p) None x = refl
value-holds q make holds (Some l) (Some p) (Some h) None = refl
value-holds q make holds (Some l) (Some p) (Some h) (Some x) = sym (ap Some (holds l p h x))

value-none : (place : Option Place) (x : Option ℤ) → value_reading None place x ≡ None
value-none None x = refl
value-none (Some place) None = refl
value-none (Some place) (Some x) = refl

-- a dispatch of a value by the tests of its word
abbrev value_by : (set send : Bool) → Option (LaneWord → Path → Name → ℤ → Step)
value_by set send =
    cond set (Some (λ lane path name x. step.Dispatch (Set lane path name x)))
    (cond send (Some (λ lane path name x. step.Dispatch (Send lane path name x))) None)

value-reads : (q : Program) (set send : Bool) (l : Option LaneWord) (p : Option Path) (h : Option Name) (x : Option ℤ)
    → value_reading (value_by set send) (named q l p h) x ≡ option_map (reading q) (value_by set send ◂ l ◂ p ◂ h ◂ x)
value-reads q true send l p h x = value-holds q (λ lane path name y. step.Dispatch (Set lane path name y)) (λ l p h x. refl) l p h x
value-reads q false true l p h x = value-holds q (λ lane path name y. step.Dispatch (Send lane path name y)) (λ l p h x. refl) l p h x
value-reads q false false l p h x = value-none (named q l p h) x

call-none : (place : Option Place) (f : Option Name) (x : Option ℤ) → call_reading None place f x ≡ None
call-none None f x = refl
call-none (Some place) None x = refl
call-none (Some place) (Some f) None = refl
call-none (Some place) (Some f) (Some x) = refl

-- a dispatch of a function by the test of its word
abbrev call_by : Bool → Option (LaneWord → Path → Name → Name → ℤ → Step)
call_by call = cond call (Some (λ lane path name f x. step.Dispatch (Call lane path name f x))) None

call-reads : (q : Program) (call : Bool) (l : Option LaneWord) (p : Option Path) (h f : Option Name) (x : Option ℤ)
    → call_reading (call_by call) (named q l p h) f x ≡ option_map (reading q) (call_by call ◂ l ◂ p ◂ h ◂ f ◂ x)
call-reads q true None p h f x = refl
call-reads q true (Some l) None h f x = refl
call-reads q true (Some l) (Some p) None f x = refl
call-reads q true (Some l) (Some p) (Some h) None x = refl
call-reads q true (Some l) (Some p) (Some h) (Some f) None = refl
call-reads q true (Some l) (Some p) (Some h) (Some f) (Some x) = refl
call-reads q false l p h f x = call-none (named q l p h) f x

-- By the number of words

-- the words that slices of a line are
abbrev texts : List (Bor Text) → List Text
texts ws = map (λ w. w.now) ws

pub five-words : (q : Program) (ws : List (Bor Text)) (d0 d1 d2 d3 d4 : Bor Text) (place : Option Place) (answer : Option Form) → 5 ≤ length ws → length ws < 6
    → place ≡ place_of q (get_or ws 1 d1).now (get_or ws 2 d2).now (get_or ws 3 d3).now
    → answer ≡ value_reading (value_form (get_or ws 0 d0).now) place (integer_of (get_or ws 4 d4).now)
    → answer ≡ option_map (reading q) (form_of (texts ws))
five-words q [] d0 d1 d2 d3 d4 place answer least below is reads = absurd (omega arith)
five-words q (a ∷ []) d0 d1 d2 d3 d4 place answer least below is reads = absurd (omega arith)
five-words q (a ∷ b ∷ []) d0 d1 d2 d3 d4 place answer least below is reads = absurd (omega arith)
five-words q (a ∷ b ∷ c ∷ []) d0 d1 d2 d3 d4 place answer least below is reads = absurd (omega arith)
five-words q (a ∷ b ∷ c ∷ d ∷ []) d0 d1 d2 d3 d4 place answer least below is reads = absurd (omega arith)
five-words q (a ∷ b ∷ c ∷ d ∷ e ∷ []) d0 d1 d2 d3 d4 place answer least below is reads =
    reads ∙ ap (λ place. value_reading (value_form a.now) place (integer_of e.now)) is
    ∙ value-reads q (bytes_eq a.now (codes "set")) (bytes_eq a.now (codes "send")) (lane_of b.now) (path_of c.now) (lower_of d.now) (integer_of e.now)
five-words q (a ∷ b ∷ c ∷ d ∷ e ∷ f ∷ ws) d0 d1 d2 d3 d4 place answer least below is reads = absurd (omega arith)

pub six-words : (q : Program) (ws : List (Bor Text)) (d0 d1 d2 d3 d4 d5 : Bor Text) (place : Option Place) (function : Option Name) (answer : Option Form)
    → 6 ≤ length ws → length ws < 7
    → place ≡ place_of q (get_or ws 1 d1).now (get_or ws 2 d2).now (get_or ws 3 d3).now → function ≡ lower_of (get_or ws 4 d4).now
    → answer ≡ call_reading (call_form (get_or ws 0 d0).now) place function (integer_of (get_or ws 5 d5).now)
    → answer ≡ option_map (reading q) (form_of (texts ws))
six-words q [] d0 d1 d2 d3 d4 d5 place function answer least below is fun reads = absurd (omega arith)
six-words q (a ∷ []) d0 d1 d2 d3 d4 d5 place function answer least below is fun reads = absurd (omega arith)
six-words q (a ∷ b ∷ []) d0 d1 d2 d3 d4 d5 place function answer least below is fun reads = absurd (omega arith)
six-words q (a ∷ b ∷ c ∷ []) d0 d1 d2 d3 d4 d5 place function answer least below is fun reads = absurd (omega arith)
six-words q (a ∷ b ∷ c ∷ d ∷ []) d0 d1 d2 d3 d4 d5 place function answer least below is fun reads = absurd (omega arith)
six-words q (a ∷ b ∷ c ∷ d ∷ e ∷ []) d0 d1 d2 d3 d4 d5 place function answer least below is fun reads = absurd (omega arith)
six-words q (a ∷ b ∷ c ∷ d ∷ e ∷ f ∷ []) d0 d1 d2 d3 d4 d5 place function answer least below is fun reads =
    reads ∙ ap (λ place. call_reading (call_form a.now) place function (integer_of f.now)) is
    ∙ ap (λ g. call_reading (call_form a.now) (place_of q b.now c.now d.now) g (integer_of f.now)) fun
    ∙ call-reads q (bytes_eq a.now (codes "call")) (lane_of b.now) (path_of c.now) (lower_of d.now) (lower_of e.now) (integer_of f.now)
six-words q (a ∷ b ∷ c ∷ d ∷ e ∷ f ∷ g ∷ ws) d0 d1 d2 d3 d4 d5 place function answer least below is fun reads = absurd (omega arith)

pub more-words : (q : Program) (ws : List (Bor Text)) → 7 ≤ length ws → None ≡ option_map (reading q) (form_of (texts ws))
more-words q [] least = absurd (omega arith)
more-words q (a ∷ []) least = absurd (omega arith)
more-words q (a ∷ b ∷ []) least = absurd (omega arith)
more-words q (a ∷ b ∷ c ∷ []) least = absurd (omega arith)
more-words q (a ∷ b ∷ c ∷ d ∷ []) least = absurd (omega arith)
more-words q (a ∷ b ∷ c ∷ d ∷ e ∷ []) least = absurd (omega arith)
more-words q (a ∷ b ∷ c ∷ d ∷ e ∷ f ∷ []) least = absurd (omega arith)
more-words q (a ∷ b ∷ c ∷ d ∷ e ∷ f ∷ g ∷ ws) least = refl

-- the first form of three words is read
pub first-of-three : (q : Program) (r s : Option Step) (f : Form) → Some f ≡ option_map (reading q) r → Some f ≡ option_map (reading q) (either r s)
first-of-three q None s f is = cc
first-of-three q (Some r) s f is = is

-- the second form of three words is read
pub second-of-three : {E : Type 0} (r s : Option Step) (answer : Result (Option Form) E) → ((q : Program) → None ≡ option_map (reading q) r)
    → IfOk answer (λ f. (q : Program) → f ≡ option_map (reading q) s) → IfOk answer (λ f. (q : Program) → f ≡ option_map (reading q) (either r s))
second-of-three r s (Err e) none is = tt
second-of-three r s (Ok f) none is = λ q. by_first q r (none q) where
  by_first : (q : Program) (o : Option Step) → None ≡ option_map (reading q) o → f ≡ option_map (reading q) (either o s)
  by_first q None e = is q
  by_first q (Some t) e = cc
