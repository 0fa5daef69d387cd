-- What holds of every state, reached by calls or not. It isn't demand 3, which is of reached states: one that was saved before a commit and is
-- used after it is within its ranges, and its update writes the bank that was just committed.
use Rattle.std.specs.Prelude.{◌≡◌, Bool, true, false, ◌⊎◌, List, [], ◌∷◌, ℕ, ◌<◌, ℤ, length, Ok, Err, Result, Option}
use Rattle.region.specs.Region.{region_size}
use Rattle.writer.specs.declared.Answer.TheVariants.{Done, Appended, NoneDue, Same, Different}
use Rattle.writer.specs.declared.Contents.{Contents}
use Rattle.writer.specs.declared.Writer.{Writer}
use Rattle.writer.specs.State.{tail_size, is_due, in_range}
use Rattle.bank.specs.Bank.{loaded}
use Rattle.lower.specs.Lower.{started, begun, bytes_step}
use Rattle.commit.specs.Commit.{commit_step, word_step}
use Rattle.refusal.specs.declared.Refusal.TheVariants.{Turn}
use Rattle.writer.specs.declared.Stage.TheVariants.{Committed}
use Rattle.due.specs.Due.{due_step, due_ops}
use Rattle.run.specs.Run.{Lower, lower_step, lower_region}
use Rattle.upper.specs.Upper.{Upper, upper_run, upper_step, begin_run, begin_step}
use Rattle.refusal.specs.declared.Refusal.{Refusal}
use Rattle.writer.specs.declared.Answer.{Answer}

-- ---- what is due

-- "the tail is full, or after closing while bytes are unwritten"
abbrev pub SomethingDue : Contents → Type 0
SomethingDue t = (t.fill ≡ tail_size) ⊎ ((t.closed ≡ true) × (0 < t.fill))

-- "One call does exactly one erase or write, or says none is due. One is due exactly when" the above. "Comparing mode writes nothing."
pub record Exactly (region : List ℕ) (w : Writer) : Type 0 where
  pub then· : SomethingDue w.contents → (due_step region w).answer ≡ Ok Done
  pub only : (due_step region w).answer ≡ Ok Done → SomethingDue w.contents
  pub else· : (SomethingDue w.contents → ⊥) → (due_step region w).answer ≡ Ok NoneDue
  pub never : (due_step region w).answer ≡ Ok NoneDue → SomethingDue w.contents → ⊥
  pub one : w.beginning.comparing ≡ false → SomethingDue w.contents → length (due_ops region w) ≡ 1
  pub nothing : (SomethingDue w.contents → ⊥) → due_ops region w ≡ []
  pub compares : w.beginning.comparing ≡ true → due_ops region w ≡ []

-- (proofs/Exactly.antt: due-exactly)
abbrev pub DueInRange : Type 0
DueInRange = (region : List ℕ) (w : Writer) → length region ≡ region_size → in_range w ≡ true → Exactly region w

-- "takes bytes until its 256-byte tail is full and says how many; while an operation is due it takes none" (proofs/Answered.antt)
abbrev pub AppendsAll : Type 0
AppendsAll = (w : Writer) (xs : List ℕ) (n : ℕ) → (bytes_step w xs).answer ≡ Ok (Appended n)
    → ((is_due w.contents ≡ true) × (n ≡ 0)) ⊎ ((n ≡ length xs) ⊎ ((bytes_step w xs).writer.contents.fill ≡ tail_size))

-- "a third commit call" is out of order: after the second, both commit calls meet 11
pub record TwoCommits : Type 0 where
  pub second : (region : List ℕ) (w : Writer) → (word_step region w).answer ≡ Ok Done → (word_step region w).writer.stage ≡ Committed
  pub no_first : (region : List ℕ) (w : Writer) (stamp : Option ℤ) (current : Bool) → length region ≡ region_size → w.stage ≡ Committed → (commit_step region w stamp current).answer ≡ Err Turn
  pub no_second : (region : List ℕ) (w : Writer) → length region ≡ region_size → w.stage ≡ Committed → (word_step region w).answer ≡ Err Turn

-- ---- every call keeps a state within its ranges, and a beginning that is answered gives one (proofs/Keeps.antt, proofs/Answers.antt)

pub record Keeps : Type 0 where
  pub lower : (region : List ℕ) (w : Writer) (c : Lower) → in_range w ≡ true → in_range (lower_step region w c).writer ≡ true
  pub upper : (region : List ℕ) (w : Writer) (c : Upper) → in_range w ≡ true → in_range (upper_step region w c).writer ≡ true
  pub beginning : (region : List ℕ) (comparing : Bool) (now : ℤ) → (begun region comparing now).answer ≡ Ok Done → in_range (begun region comparing now).writer ≡ true
  pub upper_beginning : (region : List ℕ) (comparing : Bool) (now : ℤ) (identity texts lengths : List ℕ)
      → (begin_step region comparing now identity texts lengths).answer ≡ Ok Done → in_range (begin_step region comparing now identity texts lengths).writer ≡ true

-- ---- runs

abbrev pub is_refused : Result Answer Refusal → Bool
is_refused (Err r) = true
is_refused (Ok Done) = false
is_refused (Ok (Appended n)) = false
is_refused (Ok NoneDue) = false
is_refused (Ok Same) = false
is_refused (Ok Different) = false

-- no call of a run is refused
abbrev pub NoneRefused : List ℕ → Writer → List Lower → Type 0
NoneRefused region w [] = Unit {0}
NoneRefused region w (c ∷ cs) = (is_refused (lower_step region w c).answer ≡ false) × NoneRefused (lower_region region w c) (lower_step region w c).writer cs

-- "each of its calls is a run of lower calls that ends with nothing due": so ends an upper call that is answered, and no lower call of its
-- run is refused. On any region and any state: out of its ranges, a state is refused. (proofs/Answers.antt)
pub record Answers : Type 0 where
  pub nothing_due : (region : List ℕ) (w : Writer) (c : Upper) → (upper_step region w c).answer ≡ Ok Done → is_due (upper_step region w c).writer.contents ≡ false
  pub none_refused : (region : List ℕ) (w : Writer) (c : Upper) → (upper_step region w c).answer ≡ Ok Done → NoneRefused region w (upper_run region w c)
  pub begin_nothing_due : (region : List ℕ) (comparing : Bool) (now : ℤ) (identity texts lengths : List ℕ)
      → (begin_step region comparing now identity texts lengths).answer ≡ Ok Done → is_due (begin_step region comparing now identity texts lengths).writer.contents ≡ false
  pub begin_none_refused : (region : List ℕ) (comparing : Bool) (now : ℤ) (identity texts lengths : List ℕ)
      → (begin_step region comparing now identity texts lengths).answer ≡ Ok Done → NoneRefused region (started (loaded region) comparing now) (begin_run region identity texts lengths)

-- all of them: what `ranges_hold` promises
pub record Ranges : Type 0 where
  pub due : DueInRange
  pub keeps : Keeps
  pub answers : Answers
  pub appends· : AppendsAll
  pub commits : TwoCommits
