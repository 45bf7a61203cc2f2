-- An input is one thing.
use Rattle.std.proofs.Common.{◌≡◌, ℕ, List, length, ap, sym, ◌∙◌, subst, Ok, Err, Some, None, Option, Result}
use Rattle.std.proofs.Math.Seq.{take-length}
use Rattle.std.proofs.lemmas.Str.{utf8_valid_len-IsValidUpTo}
use Rattle.std.specs.Str.{IsUtf8, IsValidUpTo}
use Rattle.rx_base.specs.Values.{Text}
use Rattle.rx_lex.specs.declared.token.Kind.{Kind}
use Rattle.rx_lex.specs.declared.token.Token.{Token}
use Rattle.rx_lex.specs.Tokens.{AreTokensOf, IsFirstUncovered, kinds}
use Rattle.rx_ast.specs.Syntax.{Program}
use Rattle.rx_print.specs.Levels.{HasTokens}
use Rattle.rx_parse.specs.Faults.{IsFirstFault}
use Rattle.rx_check.specs.Refusals.{refusal_of}
use Rattle.rx_check.specs.declared.refusal.Refusal.{Refusal}
use Rattle.rx_step.specs.declared.step.Step.{Step}
use Rattle.rx_script.specs.Input.{Input}
use Rattle.rx_script.specs.Lines.{BadStep, steps_of}
use Rattle.rx_accept.specs.declared.cause.Cause.{Cause}
use Rattle.rx_accept.specs.declared.cause.Cause.TheVariants.{NotUtf8, NoToken, NoProgram, Unmet, OutOfMemory}
use Rattle.rx_accept.specs.Programs.{ended, IsCoveredBy, IsTextOf, IsSoundText, IsCause}
use Rattle.rx_accept.specs.Lines.{program_line, script_line}
use Rattle.rx_accept.specs.Judgements.{Judgement, accepted, program_refused, script_refused, AreJudged}
use Rattle.rx_accept.proofs.FirstFaults.{first_fault-one, no_fault}

-- what is known of tokens and programs
pub record Laws : Type 0 where
  pub one_list : (text : Text) (ts us : List Token) → AreTokensOf ts text → AreTokensOf us text → ts ≡ us
  pub one_place : (text : Text) (at other : ℕ) → IsFirstUncovered at text → IsFirstUncovered other text → at ≡ other
  pub apart : (text : Text) (at : ℕ) (ts : List Token) → IsFirstUncovered at text → AreTokensOf ts text → ⊥
  pub one_program : (p q : Program) (ks : List Kind) → HasTokens p ks → HasTokens q ks → p ≡ q

-- Programs

-- a text that is UTF-8 has no sequence that isn't
utf8-whole : (text : Text) (at : ℕ) → IsValidUpTo text at → IsUtf8 text → ⊥
utf8-whole text at v u = v.longest (length text) v.short (subst IsUtf8 (sym (take-length text)) u)

program-one : Laws → (text : Text) (p q : Program) → IsTextOf p text → IsTextOf q text → p ≡ q
program-one laws text p q t u =
    let same = laws.one_list text u.tokens t.tokens u.covers.covered t.covers.covered in
    laws.one_program p q (kinds (ended text t.tokens)) t.written (subst (λ ts. HasTokens q (kinds (ended text ts))) same u.written)

fault-one : Laws → (text : Text) (at other : ℕ) (ts us : List Token) → IsCoveredBy text ts → IsCoveredBy text us
    → IsFirstFault at (ended text ts) → IsFirstFault other (ended text us) → at ≡ other
fault-one laws text at other ts us c d f g =
    let same = laws.one_list text us ts d.covered c.covered in
    first_fault-one at other (ended text ts) f (subst (λ l. IsFirstFault other (ended text l)) same g)

fault-apart : Laws → (text : Text) (at : ℕ) (ts : List Token) (p : Program) → IsCoveredBy text ts → IsFirstFault at (ended text ts) → IsTextOf p text → ⊥
fault-apart laws text at ts p c f t =
    let same = laws.one_list text t.tokens ts t.covers.covered c.covered in
    no_fault at (ended text ts) p f (subst (λ l. HasTokens p (kinds (ended text l))) same t.written)

refusal-one : (r s : Refusal) (p : Program) → refusal_of p ≡ Some r → refusal_of p ≡ Some s → r ≡ s
refusal-one r s p e f = let both : ◌≡◌ {A = Option Refusal} (Some r) (Some s) = sym e ∙ f in cc

cause-one : Laws → (text : Text) (c d : Cause) → IsCause text c → IsCause text d → c ≡ d
cause-one laws text (NotUtf8 a) (NotUtf8 b) x y = ap NotUtf8 (sym (utf8_valid_len-IsValidUpTo text a x) ∙ utf8_valid_len-IsValidUpTo text b y)
cause-one laws text (NotUtf8 a) (NoToken b) x y = absurd (utf8-whole text a x y.0)
cause-one laws text (NotUtf8 a) (NoProgram b) x y = absurd (utf8-whole text a x y.1.utf8)
cause-one laws text (NotUtf8 a) (Unmet r) x y = absurd (utf8-whole text a x y.1.covers.utf8)
cause-one laws text (NotUtf8 a) OutOfMemory x y = absurd y
cause-one laws text (NoToken a) (NotUtf8 b) x y = absurd (utf8-whole text b y x.0)
cause-one laws text (NoToken a) (NoToken b) x y = ap NoToken (laws.one_place text a b x.1 y.1)
cause-one laws text (NoToken a) (NoProgram b) x y = absurd (laws.apart text a y.0 x.1 y.1.covered)
cause-one laws text (NoToken a) (Unmet r) x y = absurd (laws.apart text a y.1.tokens x.1 y.1.covers.covered)
cause-one laws text (NoToken a) OutOfMemory x y = absurd y
cause-one laws text (NoProgram a) (NotUtf8 b) x y = absurd (utf8-whole text b y x.1.utf8)
cause-one laws text (NoProgram a) (NoToken b) x y = absurd (laws.apart text b x.0 y.1 x.1.covered)
cause-one laws text (NoProgram a) (NoProgram b) x y = ap NoProgram (fault-one laws text a b x.0 y.0 x.1 y.1 x.2 y.2)
cause-one laws text (NoProgram a) (Unmet r) x y = absurd (fault-apart laws text a x.0 y.0 x.1 x.2 y.1)
cause-one laws text (NoProgram a) OutOfMemory x y = absurd y
cause-one laws text (Unmet r) (NotUtf8 b) x y = absurd (utf8-whole text b y x.1.covers.utf8)
cause-one laws text (Unmet r) (NoToken b) x y = absurd (laws.apart text b x.1.tokens y.1 x.1.covers.covered)
cause-one laws text (Unmet r) (NoProgram b) x y = absurd (fault-apart laws text b y.0 x.0 y.1 y.2 x.1)
cause-one laws text (Unmet r) (Unmet s) x y =
    let same = program-one laws text y.0 x.0 y.1 x.1 in
    ap Unmet (refusal-one r s x.0 x.2 (subst (λ p. refusal_of p ≡ Some s) same y.2))
cause-one laws text (Unmet r) OutOfMemory x y = absurd y
cause-one laws text OutOfMemory d x y = absurd x

-- a program that meets every check is not refused
cause-apart : Laws → (text : Text) (p : Program) (c : Cause) → IsSoundText p text → IsCause text c → ⊥
cause-apart laws text p (NotUtf8 a) s x = utf8-whole text a x s.its_text.covers.utf8
cause-apart laws text p (NoToken a) s x = laws.apart text a s.its_text.tokens x.1 s.its_text.covers.covered
cause-apart laws text p (NoProgram a) s x = fault-apart laws text a x.0 p x.1 x.2 s.its_text
cause-apart laws text p (Unmet r) s x =
    let same = program-one laws text x.0 p x.1 s.its_text in
    let clash : ◌≡◌ {A = Option Refusal} None (Some r) = sym s.meets_all ∙ ap refusal_of (sym same) ∙ x.2 in cc
cause-apart laws text p OutOfMemory s x = x

-- Judgements

-- the script of the one program of a text
script-one : Laws → (text : Text) (script : List ℕ) (p q : Program) (x y : Result (List Step) BadStep) → IsSoundText p text → IsSoundText q text
    → steps_of p script ≡ x → steps_of q script ≡ y → x ≡ y
script-one laws text script p q x y s t e f =
    sym e ∙ ap (λ r. steps_of r script) (program-one laws text p q s.its_text t.its_text) ∙ f

steps-one : (steps others : List Step) → ◌≡◌ {A = Result (List Step) BadStep} (Ok steps) (Ok others) → steps ≡ others
steps-one steps others e = cc

bad-one : (bad other : BadStep) → ◌≡◌ {A = Result (List Step) BadStep} (Err bad) (Err other) → bad ≡ other
bad-one bad other e = cc

steps-apart : (steps : List Step) (bad : BadStep) → ◌≡◌ {A = Result (List Step) BadStep} (Ok steps) (Err bad) → ⊥
steps-apart steps bad e = cc

pub judged-one : Laws → (parts : Input) (j k : Judgement) → AreJudged parts j → AreJudged parts k → j ≡ k
judged-one laws parts (accepted p steps) (accepted q others) x y =
    let text = parts.program in
    let script = parts.script in
    let same = program-one laws text p q x.0.its_text y.0.its_text in
    let both = steps-one steps others (script-one laws text script p q (Ok steps) (Ok others) x.0 y.0 x.1 y.1) in
    ap (λ r. accepted r steps) same ∙ ap (accepted q) both
judged-one laws parts (accepted p steps) (program_refused line) x y = absurd (cause-apart laws parts.program p y.0 x.0 y.1)
judged-one laws parts (accepted p steps) (script_refused line) x y =
    absurd (steps-apart steps y.1 (script-one laws parts.program parts.script p y.0 (Ok steps) (Err y.1) x.0 y.2 x.1 y.3))
judged-one laws parts (program_refused line) (accepted q others) x y = absurd (cause-apart laws parts.program q x.0 y.0 x.1)
judged-one laws parts (program_refused line) (program_refused other) x y =
    ap program_refused (x.2 ∙ ap program_line (cause-one laws parts.program x.0 y.0 x.1 y.1) ∙ sym y.2)
judged-one laws parts (program_refused line) (script_refused other) x y = absurd (cause-apart laws parts.program y.0 x.0 y.2 x.1)
judged-one laws parts (script_refused line) (accepted q others) x y =
    absurd (steps-apart others x.1 (script-one laws parts.program parts.script q x.0 (Ok others) (Err x.1) y.0 x.2 y.1 x.3))
judged-one laws parts (script_refused line) (program_refused other) x y = absurd (cause-apart laws parts.program x.0 y.0 x.2 y.1)
judged-one laws parts (script_refused line) (script_refused other) x y =
    let both = bad-one x.1 y.1 (script-one laws parts.program parts.script x.0 y.0 (Err x.1) (Err y.1) x.2 y.2 x.3 y.3) in
    ap script_refused (x.4 ∙ ap script_line both ∙ sym y.4)
