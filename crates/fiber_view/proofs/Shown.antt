-- Steps that a root takes, and the views of them, if all of it succeeds.
use Rattle.std.proofs.Common.{◌≡◌, ◌∙◌, ℕ, Bool, [], ◌∷◌, ◌++◌, ap, append_assoc, append-nil, List, take, sym, subst, refl, arith, ◌≤◌, ◌^◌}
use Rattle.std.specs.Prelude.{Result, Ok, Err, IfOk, OnOk, false}
use Rattle.rx_base.specs.Values.{Text}
use Rattle.rx_ast.specs.Syntax.{Program}
use Rattle.rx_step.specs.declared.step.Step.{Step}
use Rattle.rx_lines.specs.Lines.{Line, Options, Written, report_bytes}
use Rattle.rx_elem.specs.Numbers.{Numbers}
use Rattle.rx_model.specs.State.{State, opening}
use Rattle.rx_model.specs.Machine.{StepTo}
use Rattle.rx_root.specs.Paying.{Pays}
use Rattle.rx_root.specs.Rooted.{Rooted}
use Rattle.rx_root.specs.Stands.{Stands, HasRoomFor}
use Rattle.rx_root.specs.Turning.{Takes}
use Rattle.run_page.specs.Views.{View}
use Rattle.run_page.specs.Books.{Book, AreTold, empty_book}
use Rattle.run_page.specs.Books as books
use Rattle.fiber_view.specs.StepTexts.{step_text}
use Rattle.fiber_view.specs.Shown.{AreShown, ShowsState, none, one_more, shown_options, yields_in}
use Rattle.fiber_view.specs.Pages.{IsBook, start_title}
use Rattle.fiber_view.specs.Taken.{Continues, TakesAndShows}

-- what follows if a call succeeds
pub on-ok : {T E : Type 0} (r : Result T E) (P Q : Type 0) → (P → Q) → OnOk r P → OnOk r Q
on-ok (Ok _) P Q f p = f p
on-ok (Err _) P Q f p = tt

-- what follows of a value, if that is known of a success
pub if-ok : {T E : Type 0} (r : Result T E) (P Q : T → Type 0) → ((x : T) → P x → Q x) → IfOk r P → IfOk r Q
if-ok (Ok x) P Q f p = f x p
if-ok (Err _) P Q f p = tt

-- the bytes of a log that was cut to nothing before these lines
pub logged : (o : Options) (before cut log : Written) (bytes : List ℕ) (lines : List Line) → cut ≡ record { options = before.options; bytes = take 0 before.bytes }
    → log ≡ record { options = cut.options; bytes = cut.bytes ++ report_bytes cut.options lines } → before.options ≡ o → bytes ≡ log.bytes → bytes ≡ report_bytes o lines
logged o before cut log bytes lines c l p b =
    b ∙ ap (λ (w : Written). w.bytes) l ∙ ap (λ (w : Written). w.bytes ++ report_bytes w.options lines) c ∙ ap (λ (x : Options). report_bytes x lines) p

-- a state is shown as well behind what its title, its lines and its yield are
pub shown-as : (p : Program) (o : Options) (title new_title lines new_lines : Text) (yields new_yields : Bool) (s : State) (v : View)
    → title ≡ new_title → lines ≡ new_lines → yields ≡ new_yields → ShowsState p o title lines yields s v → ShowsState p o new_title new_lines new_yields s v
shown-as p o title new_title lines new_lines yields new_yields s v is_title are_lines is_yields shows =
    record {
      title_is = shows.title_is ∙ is_title;
      lines_are = shows.lines_are ∙ are_lines;
      yields_is = shows.yields_is ∙ is_yields;
      tree_is = shows.tree_is;
      hooks_are = shows.hooks_are;
      facts = shows.facts;
    }

-- a root has taken a step, and a view shows its lines and the state after it
pub step-shown : (p q : Program) (o : Options) (s : State) (x : Step) (after : Rooted) (before cut log : Written) (bytes title lines : Text) (used_old used : ℕ) (yields : Bool) (v : View)
    → q ≡ p → Takes p (StepTo Pays p s x) after cut log used_old used
    → cut ≡ record { options = before.options; bytes = take 0 before.bytes } → before.options ≡ o → bytes ≡ log.bytes → lines ≡ bytes → title ≡ step_text x
    → ((t : State) → Stands q t after → yields ≡ yields_in x t)
    → ((t : State) → Stands q t after → ShowsState q log.options title lines yields t v)
    → TakesAndShows p o s x v after
step-shown p q o s x after before cut log bytes title lines used_old used yields v same takes is_cut options is_log are_lines is_title yielded shows =
    let r = takes.stretch in
    let stands : Stands q r.after after = subst (λ (t : Program). Stands t r.after after) (sym same) takes.done.stands in
    let log_options : log.options ≡ o = ap (λ (w : Written). w.options) takes.done.written ∙ ap (λ (w : Written). w.options) is_cut ∙ options in
    let all : lines ≡ report_bytes o r.lines = are_lines ∙ logged o before cut log bytes r.lines is_cut takes.done.written options is_log in
    let in_program = subst (λ (t : Program). ShowsState t log.options title lines yields r.after v) same (shows r.after stands) in
    let in_options = subst (λ (t : Options). ShowsState p t title lines yields r.after v) log_options in_program in
    record {
      taken = r;
      takes = takes.asked;
      stands = takes.done.stands;
      shows = shown-as p o title (step_text x) lines (report_bytes o r.lines) yields (yields_in x r.after) r.after v is_title all (yielded r.after stands) in_options;
    }

-- some steps of a script are taken and shown behind the views that were there, and these steps are left
pub record SoFar (p : Program) (o : Options) (s : State) (script : List Step) (begin : List View) (book : Book) (root : Rooted) (left : List Step) : Type 0 where
  pub before : List Step
  pub steps_are : script ≡ before ++ left
  pub views : List View
  pub at : State
  pub are : AreShown p o s before views at
  pub stands : Stands p at root
  pub told : AreTold (begin ++ views) book

pub so_far-starts : (p : Program) (o : Options) (s : State) (script : List Step) (begin : List View) (book : Book) (root : Rooted) → Stands p s root → AreTold begin book
    → SoFar p o s script begin book root script
so_far-starts p o s script begin book root stands told =
    record { before = []; steps_are = refl; views = []; at = s; are = none; stands = stands; told = subst (λ (vs : List View). AreTold vs book) (sym (append-nil begin)) told }

pub so_far-next : (p : Program) (o : Options) (s : State) (script left : List Step) (x : Step) (begin : List View) (v : View) (book new : Book) (root after : Rooted)
    → (before : SoFar p o s script begin book root (x ∷ left)) → TakesAndShows p o before.at x v after
    → ((views : List View) → AreTold views book → AreTold (views ++ v ∷ []) new)
    → SoFar p o s script begin new after left
so_far-next p o s script left x begin v book new root after before step adds =
    record {
      before = before.before ++ x ∷ [];
      steps_are = before.steps_are ∙ sym (append_assoc before.before (x ∷ []) left);
      views = before.views ++ v ∷ [];
      at = step.taken.after;
      are = one_more before.before before.views before.at x step.taken v before.are step.takes step.shows;
      stands = step.stands;
      told = subst (λ (vs : List View). AreTold vs new) (append_assoc begin before.views (v ∷ [])) (adds (begin ++ before.views) before.told);
    }

pub so_far-ends : (p : Program) (o : Options) (s : State) (script : List Step) (begin : List View) (book : Book) (root : Rooted) → SoFar p o s script begin book root []
    → Continues p o s script begin book
so_far-ends p o s script begin book root all =
    record {
      views = all.views;
      after = all.at;
      are = subst (λ (xs : List Step). AreShown p o s xs all.views all.at) (sym (all.steps_are ∙ append-nil all.before)) all.are;
      told = all.told;
    }

-- nothing is told by an empty book
pub told-nothing : (book : Book) → book ≡ empty_book → AreTold [] book
told-nothing book empty = subst (λ (b : Book). AreTold [] b) (sym empty) books.none

-- room for more steps is room for fewer
pub room-fewer : (m n : ℕ) (v : Rooted) → m ≤ n → HasRoomFor n v → HasRoomFor m v
room-fewer m n v fewer room =
    record {
      updates = omega (arith, fewer, room.updates);
      resolutions = omega (arith, fewer, room.resolutions);
      commits = omega (arith, fewer, room.commits);
      instances = omega (arith, fewer, room.instances);
      hosts = omega (arith, fewer, room.hosts);
    }

-- a root at the start has room for every script
pub room-opening : (p : Program) (n : ℕ) (v : Rooted) → n ≤ 2 ^ 32 → Stands p opening v → HasRoomFor n v
room-opening p n v few stands =
    record {
      updates = omega (arith, few, stands.updates);
      resolutions = omega (arith, few, stands.resolutions);
      commits = omega (arith, few, stands.commits);
      instances = omega (arith, few, ap (λ (m : Numbers). m.instance) stands.numbers);
      hosts = omega (arith, few, ap (λ (m : Numbers). m.host) stands.numbers);
    }

-- a book has the view of the start and those of the steps
pub book-shown : (p : Program) (xs : List Step) (o log : Options) (title lines : Text) (first : View) (book : Book) → o ≡ shown_options → log ≡ o → title ≡ start_title → lines ≡ []
    → ShowsState p o title lines false opening first → Continues p log opening xs (first ∷ []) book → IsBook p xs book
unfolding report_bytes
book-shown p xs o log title lines first book is_o is_log is_title no_lines starts rest =
    record {
      first = first;
      views = rest.views;
      after = rest.after;
      starts = subst (λ (t : Options). ShowsState p t start_title [] false opening first) is_o (shown-as p o title start_title lines [] false false opening first is_title no_lines refl starts);
      are = subst (λ (t : Options). AreShown p t opening xs rest.views rest.after) (is_log ∙ is_o) rest.are;
      told = rest.told;
    }
