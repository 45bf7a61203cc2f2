-- What is kept of the hooks, over the calls that read it.
use Rattle.std.proofs.Common.{◌≡◌, ℕ, ℤ, IsSome, List, refl, sym, ap, ◌∙◌, subst}
use Rattle.rx_base.specs.declared.cut.Cut.{Cut}
use Rattle.rx_lane.specs.Lanes.{Lanes}
use Rattle.rx_ast.specs.Syntax.{Program}
use Rattle.rx_queue.specs.History.{Answers}
use Rattle.rx_meaning.specs.Expressions.{answers_of}
use Rattle.rx_meaning.specs.Fresh.{Sight}
use Rattle.rx_meaning.specs.Settled.{DoneBefore}
use Rattle.rx_model.specs.State.{State}
use Rattle.rx_model.specs.HooksOf.{KeepsAllHooks}
use Rattle.rx_hook_store.specs.Gives.{GivesValues}
use Rattle.rx_hook_store.specs.Rendered.{RendersHooks}
use Rattle.rx_hook_store.proofs.Stores.{by_number}
use Rattle.rx_fresh.specs.Seeing.{GoesOn, KeptBy}

-- it goes on if nothing is read
pub stays : (p : Program) (lanes : Lanes) (cut : Cut) (kept : KeptBy) → GoesOn p lanes cut kept kept
stays p lanes cut kept = record { there = λ n h. h; gives = λ s n initials a b c h. h; states = λ st done h. h }

-- and over one call after the other
pub further : (p : Program) (lanes : Lanes) (cut : Cut) (old now new : KeptBy) → GoesOn p lanes cut old now → GoesOn p lanes cut now new → GoesOn p lanes cut old new
further p lanes cut old now new a b =
    record {
      there = λ n h. b.there n (a.there n h);
      gives = λ s n initials program lanes_are cut_is h. b.gives s n initials program lanes_are cut_is (a.gives s n initials program lanes_are cut_is h);
      states = λ st done h. b.states st done (a.states st done h);
    }

-- the hooks of an instance that is rendered are there, and so are all others
pub render_there : (answers : Answers) (lanes : Lanes) (cut : Cut) (i : ℕ) (old new : KeptBy) → RendersHooks answers lanes cut i old new → (n : ℕ) → IsSome (old n) → IsSome (new n)
render_there answers lanes cut i old new r n h = by_number i n (λ same. subst IsSome (sym (ap new (sym same) ∙ r.is)) refl) (λ other. subst IsSome (sym (r.others n other)) h)

-- a render of one instance by what evaluates this program
pub one_goes : (p fold : Program) (lanes : Lanes) (cut : Cut) (old new : KeptBy) → fold ≡ p → ((n : ℕ) → IsSome (old n) → IsSome (new n))
    → ((s : Sight) (k : ℕ) (initials : List ℤ) → answers_of fold ≡ answers_of s.program → s.lanes ≡ lanes → s.cut ≡ cut → GivesValues s old k initials → GivesValues s new k initials)
    → ((q : Program) (st : State) → answers_of fold ≡ answers_of q → DoneBefore cut st.journal.updates → KeepsAllHooks q st old → KeepsAllHooks q st new)
    → GoesOn p lanes cut old new
one_goes p fold lanes cut old new same there still states =
    record {
      there = there;
      gives = λ s n initials program lanes_are cut_is h. still s n initials (ap answers_of (same ∙ sym program)) lanes_are cut_is h;
      states = λ st done h. states p st (ap answers_of same) done h;
    }
